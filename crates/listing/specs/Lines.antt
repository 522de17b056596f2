-- Lines one after another: the next line joins those before it (`lines_next`), and a loop that puts them on a page.
use Rattle.std.specs.Prelude.{ℕ, zero, suc, ◌+◌, ◌≤◌, ◌<◌, ◌≡◌, ◌⊎◌, refl, List, ◌++◌, length, ℤ}
use Rattle.std.proofs.Common.{SFits, to_z, of_z, w32, w64, ◌∙◌, ap, arith, add-one, inl, inr, eq-or-lt_of_le, length-append}
use Rattle.definitions.specs.Arithmetic.{join_to}
use Rattle.definitions.specs.Calls.{result_at, flow_place, pool_place, pool_hundredths_place, presence_place}
use Rattle.definitions.specs.Settle.{decimal_z, space, newline, bid_line, flow_line, price_line}
use Rattle.laws.specs.SignedTests.{widened}
use Rattle.listing.specs.declared.page.Page.{Page}
use Rattle.listing.specs.Page.{Wrote, nothing, then_wrote, same_text}

-- the last field of a line
abbrev pub last_field : ℤ → List ℕ
last_field z = space ++ (decimal_z z ++ newline)

-- of a number of 32 bits that was widened to 64
pub last_widened : {z wide : ℤ} → SFits w32 z → wide ≡ to_z w32 (of_z w32 z) → last_field (to_z w64 (of_z w64 wide)) ≡ last_field z
last_widened f e = ap (λ (z : ℤ). last_field (to_z w64 (of_z w64 z))) e ∙ ap last_field (widened f)

-- the line of bid i, counted from 0
abbrev pub bid_at : List ℤ → ℕ → List ℕ
bid_at results i = bid_line (i + 1) (result_at results i)

-- the line of the flow from pool a to pool b, nothing if it is 0
abbrev pub flow_at : (n m a : ℕ) → List ℤ → ℕ → List ℕ
flow_at n m a results b = flow_line (a + 1) (b + 1) (result_at results (flow_place n m a b))

-- the lines of all flows from pool a
unfoldable pub row_lines : (n m a : ℕ) → List ℤ → List ℕ
row_lines n m a results = join_to m (flow_at n m a results)

-- the line of pool p's price
abbrev pub price_at : (n m : ℕ) → List ℤ → ℕ → List ℕ
price_at n m results p =
    price_line (p + 1) (result_at results (pool_place n m p)) (result_at results (pool_hundredths_place n m p)) (result_at results (presence_place n m p))

pub lines_next : (k : ℕ) (line : ℕ → List ℕ) → join_to (k + 1) line ≡ join_to k line ++ line k
unfolding join_to
lines_next k line = rw (add-one k) refl

-- the lines up to one of them are no longer than all
pub lines_part : (i k : ℕ) (line : ℕ → List ℕ) → i < k → length (join_to i line ++ line i) ≤ length (join_to k line)
unfolding join_to
lines_part i zero line l = absurd (omega arith)
lines_part i (suc k) line l = go (eq-or-lt_of_le l) (λ r. lines_part i k line r)
  where
    go : (suc i ≡ suc k) ⊎ (suc i < suc k) → (i < k → length (join_to i line ++ line i) ≤ length (join_to k line)) → length (join_to i line ++ line i) ≤ length (join_to k line ++ line k)
    go (inl e) ih = let q : i ≡ k = omega arith in rw q (omega arith)
    go (inr r) ih = omega (arith, ih (omega arith), length-append (join_to k line) (line k))

-- ---- a loop that writes k lines: a is the page before it, b after i turns

pub no_lines : (a : Page) (line : ℕ → List ℕ) → Wrote a (join_to 0 line) a
unfolding join_to
no_lines a line = nothing a

-- one more turn
pub line_wrote : {a b c : Page} (i : ℕ) (line : ℕ → List ℕ) → Wrote a (join_to i line) b → Wrote b (line i) c → Wrote a (join_to (i + 1) line) c
line_wrote i line v w = rw (lines_next i line) (then_wrote v w)

-- the last turn's end
pub all_lines : {a b : Page} (i k : ℕ) (line : ℕ → List ℕ) → i ≤ k → k ≤ i → Wrote a (join_to i line) b → Wrote a (join_to k line) b
all_lines i k line l r w = same_text (ap (λ (j : ℕ). join_to j line) (let q : i ≡ k = omega arith in q)) w
