-- What a step leaves on single sheets and slices, by computation.
use Rattle.std.proofs.Common.{◌≡◌, refl, List, [], ◌∷◌, replicate, ℕ}
use Rattle.definitions.specs.declared.Order.TheVariants.{Constant, Sum, Less}
use Rattle.definitions.specs.Limits.{modulus}
use Rattle.machine.specs.Step.{stepped}

-- 4,096 cells, of which cell 0 holds p
abbrev one_faulty : List ℕ
one_faulty = modulus ∷ replicate 4095 0

-- a constant reads no cell, so it runs; so does an order that reads other cells
run : stepped one_faulty (Constant 1 5) ∷ stepped one_faulty (Sum 0 1 2) ∷ [] ≡ (modulus ∷ 5 ∷ replicate 4094 0) ∷ replicate 4096 0 ∷ []
unfolding stepped
run = refl

-- a constant of p, one beyond the last cell, orders that read the faulty cell first or second, or a cell that is none, leave the sheet as it is
left :
    stepped one_faulty (Constant 1 2147483647)
    ∷ stepped one_faulty (Constant 4096 5)
    ∷ stepped one_faulty (Sum 1 0 2)
    ∷ stepped one_faulty (Less 1 2 0)
    ∷ stepped one_faulty (Sum 1 2 4096)
    ∷ []
    ≡ replicate 5 one_faulty
unfolding stepped
left = refl

-- so does every order on a slice of another length
short : stepped (3 ∷ 4 ∷ []) (Constant 0 5) ∷ stepped (3 ∷ 4 ∷ []) (Sum 0 0 1) ∷ [] ≡ (3 ∷ 4 ∷ []) ∷ (3 ∷ 4 ∷ []) ∷ []
unfolding stepped
short = refl
