-- A verdict is known by the refusal that it states, so a contract on `refusal_of` says which case is answered (`refusal_injective`), and with which
-- reason (`stated_injective`). No reason states none.
use Rattle.std.specs.Prelude.{◌≡◌, refl, false, true, [], ◌∷◌, map, get_or, Ok, Err, is_err}
use Rattle.std.proofs.Common.{sym, ap, ◌∙◌, true≢false}
use Rattle.std.specs.declared.result.Result.{Result}
use Rattle.definitions.specs.declared.Reason.{Reason}
use Rattle.definitions.specs.declared.Reason.TheVariants.{BidCount, PoolCount, Length, Pool, Price, Quantity, Capacity, Diagonal, CutShort, Kind, Form, Operand, Position, Room, Cell, Holder}
use Rattle.definitions.specs.Answers.{Refusal, none, number_of, place_of, is_none, stated, refusal_of}

-- what a call that only judges answers
abbrev pub Verdict : Type 0
Verdict = Result (Unit {0}) Reason

-- the verdict that states a refusal: one for each number from 0
abbrev pub verdict_of : Refusal → Verdict
verdict_of r =
    let at = place_of r in
    get_or
    (Ok tt ∷ map (λ (reason : Reason). Err reason)
    (BidCount ∷ PoolCount ∷ Length ∷ Pool at ∷ Price at ∷ Quantity at ∷ Capacity at ∷ Diagonal at
    ∷ CutShort at ∷ Kind at ∷ Form at ∷ Operand at ∷ Position ∷ Room ∷ Cell at ∷ Holder ∷ []))
    (number_of r) (Ok tt)

pub verdict_back : (v : Verdict) → verdict_of (refusal_of v) ≡ v
verdict_back (Ok tt) = refl
verdict_back (Err BidCount) = refl
verdict_back (Err PoolCount) = refl
verdict_back (Err Length) = refl
verdict_back (Err (Pool at)) = refl
verdict_back (Err (Price at)) = refl
verdict_back (Err (Quantity at)) = refl
verdict_back (Err (Capacity at)) = refl
verdict_back (Err (Diagonal at)) = refl
verdict_back (Err (CutShort at)) = refl
verdict_back (Err (Kind at)) = refl
verdict_back (Err (Form at)) = refl
verdict_back (Err (Operand at)) = refl
verdict_back (Err Position) = refl
verdict_back (Err Room) = refl
verdict_back (Err (Cell at)) = refl
verdict_back (Err Holder) = refl

pub refusal_injective : (v w : Verdict) → refusal_of v ≡ refusal_of w → v ≡ w
refusal_injective v w e = sym (verdict_back v) ∙ ap verdict_of e ∙ verdict_back w

-- the same of reasons
pub stated_injective : (r s : Reason) → stated r ≡ stated s → r ≡ s
stated_injective r s e = let same : ◌≡◌ {A = Verdict} (Err r) (Err s) = refusal_injective (Err r) (Err s) e in cc

pub stated_refuses : (r : Reason) → is_none (stated r) ≡ false
stated_refuses BidCount = refl
stated_refuses PoolCount = refl
stated_refuses Length = refl
stated_refuses (Pool at) = refl
stated_refuses (Price at) = refl
stated_refuses (Quantity at) = refl
stated_refuses (Capacity at) = refl
stated_refuses (Diagonal at) = refl
stated_refuses (CutShort at) = refl
stated_refuses (Kind at) = refl
stated_refuses (Form at) = refl
stated_refuses (Operand at) = refl
stated_refuses Position = refl
stated_refuses Room = refl
stated_refuses (Cell at) = refl
stated_refuses Holder = refl

-- ---- a verdict that the code tests with `is_err`

pub passed_is_ok : (v : Verdict) → is_err v ≡ false → v ≡ Ok tt
passed_is_ok (Ok tt) e = refl
passed_is_ok (Err reason) e = absurd (true≢false e)

pub passed_none : {A : Type 0} (v : Result A Reason) → is_err v ≡ false → refusal_of v ≡ none
passed_none (Ok given) e = refl
passed_none (Err reason) e = absurd (true≢false e)

pub failed_refuses : {A : Type 0} (v : Result A Reason) → is_err v ≡ true → is_none (refusal_of v) ≡ false
failed_refuses (Ok given) e = absurd (true≢false (sym e))
failed_refuses (Err reason) e = stated_refuses reason
