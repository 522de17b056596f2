-- Which pools can be reached from which, with the flows of a best clearing: exactly those that no set without slack parts. So it does not depend on the
-- flows (`reaches_closed`).
use Rattle.std.specs.Prelude.{◌≡◌, Bool, true, false, not, ◌&&◌, ◌||◌, ◌⊎◌, ltb, ℕ, ◌+◌, ◌*◌, ◌-◌, ◌<◌, ◌/◌, ◌%◌, ◌^◌}
use Rattle.std.proofs.Common.{refl, sym, ◌∙◌, subst, inl, inr, arith, lt-ltb, ltb-true}
use Rattle.std.proofs.Math.Arith.{digits_div, digits_mod, digits_lt}
use Rattle.std.proofs.lemmas.Bool.{or_left, or_right, or_cases}
use Rattle.std.specs.Cmp.{both_ways}
use Rattle.definitions.specs.Arithmetic.{all_to}
use Rattle.definitions.specs.Book.{Book, capacity}
use Rattle.definitions.specs.Clearing.{Clearing, Best}
use Rattle.definitions.specs.PoolPrice.{one_step, reaches}
use Rattle.definitions.specs.Calls.{AcceptedBook}
use Rattle.laws.specs.All.{all_to_at, all_to_made}
use Rattle.laws.specs.AcceptedBook.{Sound, accepted_sound}
use Rattle.theory.specs.Subsets.{member, mask, mask_lt, mask_member}
use Rattle.theory.specs.Network as network
use Rattle.theory.specs.Network.{amount_in, cut_ext}
use Rattle.theory.specs.Balance.{FeasibleUse, feasible_same}
use Rattle.theory.specs.Slacks as slacks
use Rattle.theory.specs.Slacks.{amount_in_ext}
use Rattle.theory.specs.Welfare.{turn, clearing_feasible}
use Rattle.theory.specs.Reach.{Reach, here, along, back, reach_slack, slack_reach}
use Rattle.theory.specs.BookNetwork.{network_of, by_lines, used_is, network_sound, feasible_network}
use Rattle.theory.specs.CutClearing.{cut_used, best_used_lem}
use Rattle.theory.specs.ClosedForms.{slack, slack_after, unparted, reached}
use Rattle.theory.proofs.ClosedBest.{slack_is}
use Rattle.theory.specs.Reachable.{Reaches, itself, step}
use Rattle.theory.proofs.Ways.{reaches_says, reaches_made}

module _ (B : Book) (ok : Sound B) (f : ℕ → ℕ → ℕ) (q : ℕ) where
  -- one step is along a line or back along it
  by_line : (a b : ℕ) → a < B.m → b < B.m → one_step B f a b ≡ true → Reach (network_of B) (by_lines B f) q a → Reach (network_of B) (by_lines B f) q b
  by_line a b l r e w = go (or_cases (ltb (f a b) (capacity B a b)) (ltb 0 (f b a)) e)
    where
      way : {x y : ℕ} → x ≡ y → Reach (network_of B) (by_lines B f) q x → Reach (network_of B) (by_lines B f) q y
      way = subst (Reach (network_of B) (by_lines B f) q)

      go : (ltb (f a b) (capacity B a b) ≡ true) ⊎ (ltb 0 (f b a) ≡ true) → Reach (network_of B) (by_lines B f) q b
      go (inl h) =
          way (digits_mod a r)
          (along (a * B.m + b) (digits_lt l r) (rw (digits_div a r, digits_mod a r) (ltb-true (f a b) (capacity B a b) h)) (way (sym (digits_div a r)) w))
      go (inr h) =
          way (digits_div b l)
          (back (b * B.m + a) (digits_lt r l) (rw (digits_div b l, digits_mod b l) (ltb-true 0 (f b a) h)) (way (sym (digits_mod b l)) w))

  -- a way by pools is a way by lines, and back
  to_lines : {p : ℕ} → Reaches B f q p → Reach (network_of B) (by_lines B f) q p
  to_lines itself = here
  to_lines (step a b l r w h) = by_line a b l r h (to_lines w)

  from_lines : {p : ℕ} → Reach (network_of B) (by_lines B f) q p → Reaches B f q p
  from_lines here = itself
  from_lines (along j l h w) =
      let a : ℕ = j / B.m in
      let b : ℕ = j % B.m in
      step a b ((network_sound B ok).source_below j l) ((network_sound B ok).target_below j l) (from_lines w)
      (or_left (ltb (f a b) (capacity B a b)) (ltb 0 (f b a)) (lt-ltb (f a b) (capacity B a b) h))
  from_lines (back j l h w) =
      let a : ℕ = j / B.m in
      let b : ℕ = j % B.m in
      step b a ((network_sound B ok).target_below j l) ((network_sound B ok).source_below j l) (from_lines w)
      (or_right (ltb (f b a) (capacity B b a)) (ltb 0 (f a b)) (lt-ltb 0 (f a b) h))

-- the flows of any feasible clearing with the best clearing's amounts
module _ (B : Book) (h : AcceptedBook B) (c : Clearing) (b : Best B c) where
  use_feasible : FeasibleUse (network_of B) (cut_used B) (by_lines B c.flow)
  use_feasible =
      feasible_same (network_of B) (turn (network_of B) c.accepted) (cut_used B) (by_lines B c.flow) (λ i l. sym (used_is B c.accepted i) ∙ best_used_lem B (accepted_sound B h) c b i l)
      (clearing_feasible (network_of B) c.accepted (by_lines B c.flow) (feasible_network B (accepted_sound B h) c b.feasible))

  slack_of : (S : ℕ) → slack B S ≡ network.cut (network_of B) (member S) - amount_in (network_of B) (cut_used B) (member S)
  unfolding slack_after slacks.slack
  slack_of S = slack_is B (accepted_sound B h) 0 S

  -- pool q reaches pool p exactly if every set that holds q and not p has slack
  reached_slack : (q p : ℕ) → Reaches B c.flow q p → (S : ℕ) → member S q ≡ true → member S p ≡ false → 0 < slack B S
  reached_slack q p r S e f =
      omega (
        arith,
        slack_of S,
        reach_slack (network_of B) (network_sound B (accepted_sound B h)) (cut_used B) (by_lines B c.flow) use_feasible q p (to_lines B (accepted_sound B h) c.flow q r) (member S)
            e f,
      )

  slack_reached : (q p : ℕ) → q < B.m → p < B.m → ((S : ℕ) → S < 2 ^ B.m → member S q ≡ true → member S p ≡ false → 0 < slack B S) → Reaches B c.flow q p
  slack_reached q p l r s =
      let ok = accepted_sound B h in
      from_lines B ok c.flow q
      (slack_reach (network_of B) (network_sound B ok) (cut_used B) (by_lines B c.flow) use_feasible q p (λ S e f.
      let k = mask B.m S in
      let same = mask_member B.m S in
      omega (
        arith,
        slack_of k,
        s k (mask_lt B.m S) (same q l ∙ e) (same p r ∙ f),
        cut_ext (network_of B) (network_sound B ok) (member k) S same,
        amount_in_ext (network_of B) (cut_used B) (network_sound B ok) (member k) S same,
      )))

-- what the test of a set with q and without p says of its slack, and what makes it
slack_where_parted : (s t v : Bool) → s ≡ true → t ≡ false → (not (s && not t) || v) ≡ true → v ≡ true
slack_where_parted s t v e g h = rw (e, g) at h

unparted_made : (s t v : Bool) → (s ≡ true → t ≡ false → v ≡ true) → (not (s && not t) || v) ≡ true
unparted_made true true v h = refl
unparted_made true false v h = h refl refl
unparted_made false t v h = refl

-- so it does not depend on the flows: what is computed of them is given by the slacks
pub reaches_closed : (B : Book) → AcceptedBook B → (c : Clearing) → Best B c → (q p : ℕ) → q < B.m → p < B.m → reaches B c.flow q p ≡ reached B q p
unfolding reached
reaches_closed B h c b q p l r =
    both_ways (reaches B c.flow q p) (all_to (2 ^ B.m) (unparted B q p))
    (λ e. all_to_made (2 ^ B.m) (unparted B q p) (λ S _.
    unparted_made (member S q) (member S p) (ltb 0 (slack B S)) (λ x y. lt-ltb 0 (slack B S) (reached_slack B h c b q p (reaches_says B c.flow q p l r e) S x y))))
    (λ e. reaches_made B c.flow (slack_reached B h c b q p l r (λ S s x y.
    ltb-true 0 (slack B S) (slack_where_parted (member S q) (member S p) (ltb 0 (slack B S)) x y (all_to_at (2 ^ B.m) (unparted B q p) e S s)))))
