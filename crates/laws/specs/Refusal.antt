-- Laws of `first`, `unless` and `first_from`: which refusal is found first, and what acceptance says of each.
use Rattle.std.specs.Prelude.{ℕ, zero, suc, ◌+◌, ◌<◌, ◌≡◌, refl, Bool, true, false, cond}
use Rattle.std.proofs.Common.{sym, ap, ◌∙◌, true≢false, arith, zero-add, add-zero, add-one}
use Rattle.definitions.specs.Answers.{Refusal, none, refuse, first, unless, is_none, numbered}
use Rattle.definitions.specs.Calls.{first_from}

-- a refusal is not none
pub not_refused : {A : Type 0} {number place : ℕ} → refuse number place ≡ none → A
not_refused e = absurd (true≢false (sym (ap is_none e)))

-- no refusal by a test that refuses if it fails, or if it holds
pub test_passed : (t : Bool) (number place : ℕ) → cond t none (refuse number place) ≡ none → t ≡ true
test_passed true number place e = refl
test_passed false number place e = not_refused e

pub test_failed : (t : Bool) (number place : ℕ) → cond t (refuse number place) none ≡ none → t ≡ false
test_failed true number place e = not_refused e
test_failed false number place e = refl

-- a refusal ends the search, and none goes on
pub first_refused : (r next : Refusal) → is_none r ≡ false → first r next ≡ r
first_refused none next e = absurd (true≢false e)
first_refused (refuse k x) next e = refl

pub first_none : (r next : Refusal) → is_none r ≡ true → first r next ≡ next
first_none none next e = refl
first_none (refuse k x) next e = absurd (true≢false (sym e))

pub is_none_lem : (r : Refusal) → is_none r ≡ true → r ≡ none
is_none_lem none e = refl
is_none_lem (refuse k x) e = absurd (true≢false (sym e))

-- two in a row refuse nothing exactly if neither does
pub first_left : (r next : Refusal) → first r next ≡ none → r ≡ none
first_left none next e = refl
first_left (refuse k x) next e = e

pub first_right : (r next : Refusal) → first r next ≡ none → next ≡ none
first_right none next e = e
first_right (refuse k x) next e = not_refused e

pub first_both : {r next : Refusal} → r ≡ none → next ≡ none → first r next ≡ none
first_both {next = next} e f = ap (λ (q : Refusal). first q next) e ∙ f

-- what a slice holds after the call
pub unless_none : {A : Type 0} (r : Refusal) (given before : A) → is_none r ≡ true → unless r given before ≡ given
unless_none none given before e = refl
unless_none (refuse k x) given before e = absurd (true≢false (sym e))

pub unless_refused : {A : Type 0} (r : Refusal) (given before : A) → is_none r ≡ false → unless r given before ≡ before
unless_refused none given before e = absurd (true≢false e)
unless_refused (refuse k x) given before e = refl

-- ---- a loop over an index

pub first_from_end : (i : ℕ) (f : ℕ → Refusal) → first_from i 0 f ≡ none
unfolding first_from
first_from_end i f = refl

-- one turn, at the code's i + 1
pub first_from_next : (i k : ℕ) (f : ℕ → Refusal) → first_from i (suc k) f ≡ first (f i) (first_from (i + 1) k f)
unfolding first_from
first_from_next i k f = rw (add-one i) refl

-- nothing refused at i: the search goes on; a refusal at i is the answer
pub first_from_passed : (i k : ℕ) (f : ℕ → Refusal) → f i ≡ none → first_from i (suc k) f ≡ first_from (i + 1) k f
first_from_passed i k f e = first_from_next i k f ∙ ap (λ (r : Refusal). first r (first_from (i + 1) k f)) e

-- no refusal among k: none at each
pub first_from_each : (i k : ℕ) (f : ℕ → Refusal) → first_from i k f ≡ none → (j : ℕ) → j < k → f (i + j) ≡ none
unfolding first_from
first_from_each i zero f e j l = absurd (omega arith)
first_from_each i (suc k) f e zero l = rw (add-zero i) (first_left (f i) (first_from (suc i) k f) e)
first_from_each i (suc k) f e (suc j) l =
    let h : i + suc j ≡ suc i + j = omega arith in
    rw h (first_from_each (suc i) k f (first_right (f i) (first_from (suc i) k f) e) j (omega arith))

pub all_none : (k : ℕ) (f : ℕ → Refusal) → first_from 0 k f ≡ none → (j : ℕ) → j < k → f j ≡ none
all_none k f e j l = rw (zero-add j) at (first_from_each 0 k f e j l)

-- none at each of k: no refusal among them
pub each_from : (i k : ℕ) (f : ℕ → Refusal) → ((j : ℕ) → j < k → f (i + j) ≡ none) → first_from i k f ≡ none
unfolding first_from
each_from i zero f h = refl
each_from i (suc k) f h =
    let e : f i ≡ none = (rw (add-zero i) at (h 0 (omega arith))) in
    ap (λ (r : Refusal). first r (first_from (suc i) k f)) e
    ∙ each_from (suc i) k f (λ j l. let q : i + suc j ≡ suc i + j = omega arith in rw q at (h (suc j) (omega arith)))

pub none_all : (k : ℕ) (f : ℕ → Refusal) → ((j : ℕ) → j < k → f j ≡ none) → first_from 0 k f ≡ none
none_all k f h = each_from 0 k f (λ j l. rw (zero-add j) (h j l))

-- a refusal by its number is none only for the number 0
pub numbered_zero : (number place : ℕ) → numbered number place ≡ none → number ≡ 0
numbered_zero zero place e = refl
numbered_zero (suc k) place e = not_refused e
