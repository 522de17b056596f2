-- "the views of the table's holders, one each, add up to the opened amounts in the bids' places" (`views_add_up`). There is such a list of
-- holders for every table (`one_each_lem`), and the call gives each holder of the table its view (`holder_accepted`, `holder_given`).
use Rattle.std.specs.Prelude.{ℕ, zero, suc, ◌<◌, ◌≡◌, Bool, true, false, cond, ◌||◌, List, [], ◌∷◌, eqb, length, get_or, ℤ, pos, ◌+ℤ◌, refl}
use Rattle.std.proofs.Common.{sym, ap, ap₂, ◌∙◌, arith, eq-eqb, ne_eqb}
use Rattle.std.proofs.Math.IntN.{+ℤ_idl, +ℤ_idr}
use Rattle.definitions.specs.Answers.{none}
use Rattle.definitions.specs.Calls.{results_refusal, result_at}
use Rattle.definitions.specs.Views.{is_among, view_of, view_refusal, view_slice, Distinct, OneEach, sum_over}
use Rattle.std.proofs.lemmas.Bool.{or_right}
use Rattle.laws.specs.Tests.{Eq?, same, diff, eq?}
use Rattle.views.specs.Places.{shown_bid, view_at}

-- ---- the sum

-- the same of each, the same sum
sum_same : (holders : List ℕ) (f g : ℕ → ℤ) → ((h : ℕ) → f h ≡ g h) → sum_over holders f ≡ sum_over holders g
unfolding sum_over
sum_same [] f g e = refl
sum_same (h ∷ holders) f g e = ap₂ ◌+ℤ◌ (e h) (sum_same holders f g e)

-- v once where each holder stands once: at holder x's bid only x is shown the amount
sum_once : (x : ℕ) (v : ℤ) (holders : List ℕ) → Distinct holders → sum_over holders (λ h. cond (eqb x h) v (pos 0)) ≡ cond (is_among x holders) v (pos 0)
unfolding sum_over is_among Distinct
sum_once x v [] d = refl
sum_once x v (h ∷ holders) d = go (eq? x h) (eq? h x) (sum_once x v holders d.1)
  where
    rest : ℤ
    rest = sum_over holders (λ h. cond (eqb x h) v (pos 0))

    go : {s t : Bool} → Eq? x h s → Eq? h x t → rest ≡ cond (is_among x holders) v (pos 0) → cond s v (pos 0) +ℤ rest ≡ cond (t || is_among x holders) v (pos 0)
    go (same p) (same q) e =
        let absent : is_among x holders ≡ false = ap (λ (y : ℕ). is_among y holders) p ∙ d.0 in
        ap (λ (z : ℤ). v +ℤ z) (e ∙ ap (λ (t : Bool). cond t v (pos 0)) absent) ∙ +ℤ_idr v
    go (same p) (diff q) e = absurd (q (sym p))
    go (diff p) (same q) e = absurd (p (sym q))
    go (diff p) (diff q) e = +ℤ_idl _ ∙ e

-- the holder of a bid is among the table's
entry_among : (table : List ℕ) (i : ℕ) → i < length table → is_among (get_or table i 0) table ≡ true
unfolding is_among
entry_among [] i l = absurd (omega arith)
entry_among (h ∷ table) zero l = rw (eq-eqb h h refl) refl
entry_among (h ∷ table) (suc i) l = or_right (eqb h (get_or table i 0)) _ (entry_among table i (omega arith))

pub views_add_up : (table : List ℕ) (results : List ℤ) (holders : List ℕ) → OneEach table holders → (i : ℕ) → i < length table
    → sum_over holders (λ h. result_at (view_of table h results) i) ≡ result_at results i
views_add_up table results holders each i l =
    let x : ℕ = get_or table i 0 in
    let v : ℤ = result_at results i in
    sum_same holders _ (λ h. cond (eqb x h) v (pos 0)) (λ h. view_at table h results i ∙ ap (λ (t : Bool). cond t v (pos 0)) (shown_bid table h i l))
    ∙ sum_once x v holders each.distinct
    ∙ ap (λ (t : Bool). cond t v (pos 0)) (each.the_same x ∙ entry_among table i l)

-- ---- a list of the table's holders, one each

-- a holder that comes again is left out
unfoldable one_each : List ℕ → List ℕ
one_each [] = []
one_each (h ∷ table) = cond (is_among h table) (one_each table) (h ∷ one_each table)

among_each : (table : List ℕ) (x : ℕ) → is_among x (one_each table) ≡ is_among x table
unfolding one_each is_among
among_each [] x = refl
among_each (h ∷ table) x = go (is_among h table) (eq? h x) refl (among_each table x)
  where
    go : (t : Bool) {s : Bool} → Eq? h x s → is_among h table ≡ t → is_among x (one_each table) ≡ is_among x table
        → is_among x (cond t (one_each table) (h ∷ one_each table)) ≡ (s || is_among x table)
    go true (same p) e rest = rest ∙ ap (λ (y : ℕ). is_among y table) (sym p) ∙ e
    go true (diff p) e rest = rest
    go false (same p) e rest = rw (eq-eqb h x p) refl
    go false (diff p) e rest = rw (ne_eqb h x p) rest

distinct_each : (table : List ℕ) → Distinct (one_each table)
unfolding one_each Distinct
distinct_each [] = tt
distinct_each (h ∷ table) = go (is_among h table) refl (distinct_each table)
  where
    go : (t : Bool) → is_among h table ≡ t → Distinct (one_each table) → Distinct (cond t (one_each table) (h ∷ one_each table))
    go true e rest = rest
    go false e rest = (among_each table h ∙ e, rest)

pub one_each_lem : (table : List ℕ) → (holders : List ℕ) × OneEach table holders
one_each_lem table = (one_each table, record { the_same = among_each table; distinct = distinct_each table })

-- ---- the call gives each holder of the table its view, whatever the slice held

module _ (n m : ℕ) (table : List ℕ) (holder : ℕ) (results out : List ℤ) (right : results_refusal n m (length results) ≡ none) (bids : length table ≡ n) (as_long : length out ≡ length results) (has-bid : is_among holder table ≡ true) where
  pub holder_accepted : view_refusal n m table holder (length results) (length out) ≡ none
  unfolding view_refusal
  holder_accepted = rw (right, eq-eqb (length table) n bids, eq-eqb (length out) (length results) as_long, has-bid) refl

  pub holder_given : view_slice n m table holder results out ≡ view_of table holder results
  unfolding view_slice
  holder_given = rw holder_accepted refl
