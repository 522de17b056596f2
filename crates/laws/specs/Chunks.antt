-- A table as chunks of equal length, of which each is one entry: number j of chunk k is number c × k + j of the table.
use Rattle.std.specs.Prelude.{ℕ, zero, suc, ◌+◌, ◌*◌, ◌<◌, ◌≡◌, List, [], get_or, drop}
use Rattle.std.proofs.Common.{ap, ◌∙◌, arith, get_or-drop}
use Rattle.std.proofs.lemmas.List.{get_or-take}
use Rattle.std.specs.Simd.{first_chunks}

pub chunk_entry : {A : Type 0} (c : ℕ) (s : List A) (m k j : ℕ) (d : A) → k < m → j < c → get_or (get_or (first_chunks c m s) k []) j d ≡ get_or s (c * k + j) d
chunk_entry c s zero k j d h q = absurd (omega arith)
chunk_entry c s (suc m) zero j d h q = get_or-take c s j d q ∙ ap (λ (i : ℕ). get_or s i d) (let e : j ≡ c * 0 + j = omega arith in e)
chunk_entry c s (suc m) (suc k) j d h q =
    chunk_entry c (drop c s) m k j d (omega arith) q ∙ get_or-drop c s (c * k + j) d ∙ ap (λ (i : ℕ). get_or s i d) (let e : c + (c * k + j) ≡ c * suc k + j = omega arith in e)
