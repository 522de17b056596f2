-- What a reader of orders has left, and what a turn of it says.
use Rattle.std.specs.Prelude.{◌≡◌, Option, MatchOption, MatchResult}
use Rattle.std.specs.declared.result.Result.{Result}
use Rattle.definitions.specs.declared.Order.{Order}
use Rattle.definitions.specs.declared.Reason.{Reason}
use Rattle.definitions.specs.Answers.{none, stated}
use Rattle.definitions.specs.Bytes.{Parsed, no_orders, one_more}
use Rattle.codec.specs.PlanBytes.{parse_rest}
use Rattle.runner.specs.declared.Orders.{Orders}

-- all orders from the reader's offset on, and the refusal that ends them
abbrev pub left : Orders → Parsed
left reader = parse_rest reader.bytes.now reader.at

-- one turn: none were left, or the first is given and the others are left, or it is refused
abbrev pub ReadsNext : Orders → Option (Result Order Reason) → Orders → Type 0
ReadsNext before read after =
    MatchOption read (left before ≡ no_orders none)
    (λ item. MatchResult item (λ order. left before ≡ one_more order (left after)) (λ reason. left before ≡ no_orders (stated reason)))
