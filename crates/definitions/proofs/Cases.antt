-- What is shown at each index below a small count holds at every one: for bids, pools and lines of small books.
use Rattle.std.proofs.Common.{ℕ, zero, suc, ◌<◌, arith}

pub below_one : (A : ℕ → Type 0) → A 0 → (i : ℕ) → i < 1 → A i
below_one A a zero l = a
below_one A a (suc i) l = absurd (omega arith)

pub below_two : (A : ℕ → Type 0) → A 0 → A 1 → (i : ℕ) → i < 2 → A i
below_two A a b zero l = a
below_two A a b (suc zero) l = b
below_two A a b (suc (suc i)) l = absurd (omega arith)

pub below_three : (A : ℕ → Type 0) → A 0 → A 1 → A 2 → (i : ℕ) → i < 3 → A i
below_three A a b c zero l = a
below_three A a b c (suc zero) l = b
below_three A a b c (suc (suc zero)) l = c
below_three A a b c (suc (suc (suc i))) l = absurd (omega arith)

-- of two pools, each line
pub lines_of_two : (A : ℕ → ℕ → Type 0) → A 0 0 → A 0 1 → A 1 0 → A 1 1 → (a b : ℕ) → a < 2 → b < 2 → A a b
lines_of_two A x y z w zero b l r = below_two (A 0) x y b r
lines_of_two A x y z w (suc zero) b l r = below_two (A 1) z w b r
lines_of_two A x y z w (suc (suc a)) b l r = absurd (omega arith)
