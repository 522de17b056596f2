-- Running sums: the whole as one sum, equal parts, and the size.
use Rattle.std.specs.Prelude.{ℕ, zero, suc, ◌+◌, ◌≤◌, ◌<◌, ◌≡◌, ℤ, nat_abs, ◌+ℤ◌}
use Rattle.std.proofs.Common.{sym, ap, ◌∙◌, arith}
use Rattle.std.proofs.Math.IntN.{+ℤ_assoc, +ℤ_idr}
use Rattle.definitions.specs.Arithmetic.{sum_to, sum_z}
use Rattle.definitions.specs.RunningSum.{running_sum}
use Rattle.laws.specs.IntegerSize.{size_add}
use Rattle.laws.specs.Sum.{sum_z_ext}

pub running_sum_is : (start : ℤ) (part : ℕ → ℤ) (k : ℕ) → running_sum start part k ≡ start +ℤ sum_z k part
unfolding running_sum sum_z
running_sum_is start part zero = sym (+ℤ_idr start)
running_sum_is start part (suc k) = ap (λ (z : ℤ). z +ℤ part k) (running_sum_is start part k) ∙ +ℤ_assoc start (sum_z k part) (part k)

pub running_sum_ext : (start : ℤ) (f h : ℕ → ℤ) (k : ℕ) → ((i : ℕ) → i < k → f i ≡ h i) → running_sum start f k ≡ running_sum start h k
running_sum_ext start f h k e = running_sum_is start f k ∙ ap (λ (z : ℤ). start +ℤ z) (sum_z_ext k f h e) ∙ sym (running_sum_is start h k)

pub running_sum_size : (start : ℤ) (part : ℕ → ℤ) (k : ℕ) → nat_abs (running_sum start part k) ≤ nat_abs start + sum_to k (λ i. nat_abs (part i))
unfolding running_sum sum_to
running_sum_size start part zero = omega arith
running_sum_size start part (suc k) = omega (arith, running_sum_size start part k, size_add (running_sum start part k) (part k))
