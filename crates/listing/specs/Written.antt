-- What a call leaves: a text that was written (`text_written`), or nothing (`nothing_written_lem`); and what holds where a listing is written (`listable_facts`).
use Rattle.std.specs.Prelude.{ℕ, ◌≤◌, ◌<◌, ◌≡◌, refl, Bool, true, false, List, length}
use Rattle.std.proofs.Common.{sym, true≢false, leb-true, le-leb}
use Rattle.std.proofs.lemmas.Bool.{lt-leb}
use Rattle.std.proofs.Math.Bool.{and-false}
use Rattle.definitions.specs.Limits.{bid_limit, pool_limit}
use Rattle.definitions.specs.Sheet.{result_count}
use Rattle.definitions.specs.Answers.{is_none, none}
use Rattle.definitions.specs.Calls.{results_refusal}
use Rattle.std.specs.Cmp.{first_so, second_so}
use Rattle.laws.specs.Refusal.{is_none_lem}
use Rattle.laws.specs.Sizes.{results_counted}
use Rattle.listing.specs.declared.page.Page.{Page}
use Rattle.listing.specs.Page.{Wrote, from_start}
use Rattle.listing.specs.Text.{text_room, text_size, text_slice, listable}

pub text_written : {a b : Page} {text : List ℕ} (fits : Bool) → fits ≡ true → a.size ≡ 0 → length text ≤ length a.out.now → Wrote a text b
    → (b.size ≡ text_size fits text) × (b.out.now ≡ text_slice fits text a.out.now)
text_written true q e h w = from_start w e h
text_written false q e h w = absurd (true≢false (sym q))

-- nothing was written
pub nothing_written_lem : (fits : Bool) (text d : List ℕ) → fits ≡ false → (0 ≡ text_size fits text) × (d ≡ text_slice fits text d)
nothing_written_lem true text d q = absurd (true≢false q)
nothing_written_lem false text d q = (refl, refl)

-- where a listing is written, and where not
pub is_listable : (n m results room : ℕ) → none ≡ results_refusal n m results → text_room ≤ room → listable n m results room ≡ true
unfolding listable
is_listable n m results room e h = rw (← e, le-leb _ _ h) refl

pub roomless : (n m results room : ℕ) → room < text_room → listable n m results room ≡ false
unfolding listable
roomless n m results room h = rw (lt-leb _ _ h) (and-false (is_none (results_refusal n m results)))

pub refused_results : (n m results room : ℕ) → is_none (results_refusal n m results) ≡ false → listable n m results room ≡ false
unfolding listable
refused_results n m results room e = rw e refl

-- what is known where a listing is written
pub record Listable (n m results room : ℕ) : Type 0 where
  pub bids : n ≤ bid_limit
  pub pools : m ≤ pool_limit
  pub count : results ≡ result_count n m
  pub roomy : text_room ≤ room

pub listable_facts : (n m results room : ℕ) → listable n m results room ≡ true → Listable n m results room
unfolding listable
listable_facts n m results room e =
    let judged = is_none (results_refusal n m results) in
    let sizes = results_counted n m results (is_none_lem (results_refusal n m results) (first_so judged _ e)) in
    record {
      bids = sizes.counts.bids;
      pools = sizes.counts.pools.most;
      count = sizes.count;
      roomy = leb-true _ _ (second_so judged _ e);
    }
