-- Two lists of results agree place by place on what is shown.
use Rattle.std.specs.Prelude.{ℕ, ◌<◌, ◌≡◌, true, List, length, ℤ}
use Rattle.definitions.specs.Calls.{result_at}
use Rattle.views.specs.Places.{shown}

-- they agree at each place that is shown
abbrev pub AgreeShown : (table : List ℕ) (holder : ℕ) (r s : List ℤ) → Type 0
AgreeShown table holder r s = (k : ℕ) → k < length r → shown table holder k ≡ true → result_at r k ≡ result_at s k
