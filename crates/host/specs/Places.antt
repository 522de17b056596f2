-- "(the place is always 0 there)": whatever the calls of the C host are refused for, the place is 0, so the number says all.
use Rattle.std.specs.Prelude.{ℕ, ◌≡◌, refl, Bool, true, false, cond, ◌||◌, ltb, eqb, length}
use Rattle.definitions.specs.Limits.{bid_limit, pool_limit}
use Rattle.definitions.specs.Answers.{Refusal, none, refuse, place_of, first}
use Rattle.definitions.specs.Calls.{pools_refusal, counts_refusal, length_refusal}
use Rattle.definitions.specs.Plan.{Plan, position_refusal, room_refusal, total_refusal, bytes_refusal, longest_order, number_size, counts_size}

-- one of two refusals, and the first of two
either_place : (t : Bool) (r q : Refusal) → place_of r ≡ 0 → place_of q ≡ 0 → place_of (cond t r q) ≡ 0
either_place true r q h k = h
either_place false r q h k = k

first_place : (r q : Refusal) → place_of r ≡ 0 → place_of q ≡ 0 → place_of (first r q) ≡ 0
first_place none q h k = k
first_place (refuse number place) q h k = h

counts_place : (n m : ℕ) → place_of (counts_refusal n m) ≡ 0
counts_place n m = either_place (ltb bid_limit n) (refuse 1 0) (pools_refusal m) refl (either_place (eqb m 0 || ltb pool_limit m) (refuse 2 0) none refl refl)

length_place : (asStated : Bool) → place_of (length_refusal asStated) ≡ 0
length_place asStated = either_place asStated none (refuse 3 0) refl refl

pub total_place : (n m out : ℕ) → place_of (total_refusal n m out) ≡ 0
unfolding total_refusal
total_place n m out = first_place (counts_refusal n m) _ (counts_place n m) (length_place (eqb out number_size))

pub bytes_place : (plan : Plan) (n m at room out : ℕ) → place_of (bytes_refusal plan n m at room out) ≡ 0
unfolding bytes_refusal
bytes_place plan n m at room out =
    first_place (counts_refusal n m) _ (counts_place n m)
    (first_place (length_refusal (eqb out counts_size)) _ (length_place (eqb out counts_size))
    (first_place (position_refusal (plan n m) at) (room_refusal room) (either_place (ltb (length (plan n m)) at) (refuse 13 0) none refl refl)
    (either_place (ltb room longest_order) (refuse 14 0) none refl refl)))
