-- `Source::number` meets its contract: each return is one case of `placed`. An offset after a number that was read is within the bytes.
use Rattle.std.proofs.Common.{ℕ, ◌≡◌, refl, sym, ap, ◌∙◌, true, List, [], Option, Some, None, arith, length, drop, length-drop, drop_of_length-le, lt-ltb, Bor, inl, inr}
use Rattle.std.proofs.lemmas.Slice.{between_to_end}
use Rattle.std.specs.Slice.{IsGetRangeResult}
use Rattle.std.specs.Prelude.{unwrap_or}
use Rattle.definitions.specs.Bytes.{most_groups, number_limit, read_groups, placed, number_at}
use Rattle.codec.specs.Answer.{ReadResult, answer_at}
use Rattle.codec.specs.Groups.{only_shortest_groups}
use Rattle.codec.proofs.Steps.{placed_number}
use Rattle.codec.proofs.Source.number.Goals as goal
use Rattle.codec.proofs.Source.number.Goals.{After-read_number}

-- the bytes from an offset on, none behind the last
rest_is : (s : List ℕ) (at : ℕ) (r : Option (Bor (List ℕ))) (rest none : Bor (List ℕ)) → none.now ≡ [] → rest ≡ unwrap_or r none → IsGetRangeResult s at (length s) r → rest.now ≡ drop at s
rest_is s at None rest none e q h = ap (λ (x : Bor (List ℕ)). x.now) q ∙ e ∙ sym (drop_of_length-le s (elim h.0 [ inl p ↦ omega arith | inr p ↦ absurd (omega arith) ]))
rest_is s at (Some x) rest none e q h = ap (λ (x : Bor (List ℕ)). x.now) q ∙ h.0.2 ∙ between_to_end s at (length s) (omega arith)

module _ (c : After-read_number) where
  rest : c.unwrap_or-rest.result.now ≡ drop c.args.at c.args.self.now.bytes.now
  rest = rest_is _ c.args.at _ _ _ refl c.unwrap_or-rest.ensures c.get.ensures.lookup

  -- what is read there
  there : {x : ReadResult ℕ} → x ≡ answer_at c.args.self.now.start (placed c.args.at (read_groups most_groups true c.unwrap_or-rest.result.now)) → x ≡ answer_at c.args.self.now.start (number_at c.args.self.now.bytes.now c.args.at)
  unfolding number_at
  there e = e ∙ ap (λ (s : List ℕ). answer_at c.args.self.now.start (placed c.args.at (read_groups most_groups true s))) rest

pub overflow_add-result : goal.overflow_add-result
overflow_add-result c =
    let at = c.args.at in
    let bytes = c.args.self.now.bytes.now in
    let read = placed_number c.in-Ok.v c.in-Ok.n _ (omega (arith, rw c.in-Ok.is at c.read_number.type_inv)) (c.in-Ok.ensures 0) in
    let r = only_shortest_groups most_groups true _ _ _ read in
    omega (arith, r.inside, ap length (rest (goal.at.overflow_add-result c).After-read_number), length-drop at bytes, c.ranges.at, c.well_formed)

pub returns-in-Ok : goal.returns-in-Ok
returns-in-Ok c =
    let e = ap (answer_at c.args.self.now.start) (c.in-Ok.ensures c.args.at) in
    there (goal.at.returns-in-Ok c).After-read_number (rw (lt-ltb c.in-Ok.v number_limit (omega (arith, rw c.in-Ok.is at c.read_number.type_inv))) at e)

pub returns-in-Err-Form : goal.returns-in-Err-Form
returns-in-Err-Form c = there (goal.at.returns-in-Err-Form c).After-read_number (ap (answer_at c.args.self.now.start) (rw c.in-Err-Form.field-0-is at (c.in-Err-Form.ensures c.args.at)))

pub returns-in-Err-CutShort : goal.returns-in-Err-CutShort
returns-in-Err-CutShort c = there (goal.at.returns-in-Err-CutShort c).After-read_number (ap (answer_at c.args.self.now.start) (rw c.in-Err-CutShort.field-0-is at (c.in-Err-CutShort.ensures c.args.at)))
