-- `put_groups` meets its contract: each return is one clause of `groups`.
use Rattle.std.proofs.Common.{ℕ, ◌+◌, ◌-◌, ◌/◌, ◌%◌, ◌≡◌, refl, sym, ap, ◌∙◌, List, [], ◌∷◌, arith, length, length-set, set}
use Rattle.std.proofs.lemmas.List.{drop-set}
use Rattle.definitions.specs.Bytes.{groups}
use Rattle.definitions.specs.Plan.{over}
use Rattle.codec.proofs.Places.{groups_none, groups_last, groups_more}
use Rattle.codec.proofs.Stores.{room_behind, both}
use Rattle.codec.proofs.+put_groups.Goals as goal
use Rattle.codec.proofs.+put_groups.Goals.{Else-v-lt128}

pub returns-then-g-eq0-clause-size : goal.returns-then-g-eq0-clause-size
returns-then-g-eq0-clause-size t c = rw (groups_none c.args.g c.args.v c.if-g-eq0.true) refl

pub returns-then-g-eq0-clause-bytes : goal.returns-then-g-eq0-clause-bytes
returns-then-g-eq0-clause-bytes t c = rw (groups_none c.args.g c.args.v c.if-g-eq0.true) refl

pub bounds-out-0 : goal.bounds-out-0
bounds-out-0 t c = omega (arith, ap length (groups_last c.args.g c.args.v c.if-g-eq0.false c.if-v-lt128.true), c.requires)

pub returns-then-v-lt128-clause-size : goal.returns-then-v-lt128-clause-size
returns-then-v-lt128-clause-size t c = rw (groups_last c.args.g c.args.v c.if-g-eq0.false c.if-v-lt128.true) refl

pub returns-then-v-lt128-clause-bytes : goal.returns-then-v-lt128-clause-bytes
returns-then-v-lt128-clause-bytes t c = drop-set c.args.out.now 0 _ (bounds-out-0 t c) ∙ ap (λ (l : List ℕ). over l c.args.out.now) (sym (groups_last c.args.g c.args.v c.if-g-eq0.false c.if-v-lt128.true))

-- a byte and those of the rest
bytes : (t : ℕ) (c : Else-v-lt128 t) → groups c.args.g c.args.v ≡ (c.args.v % 128 + 128) ∷ groups (c.args.g - 1) (c.args.v / 128)
bytes t c = groups_more c.args.g c.args.v c.if-g-eq0.false c.if-v-lt128.false

pub bounds-out-0-2 : goal.bounds-out-0-2
bounds-out-0-2 t c = omega (arith, ap length (bytes t c), c.requires)

pub slice_bounds-put_groups-count : goal.slice_bounds-put_groups-count
slice_bounds-put_groups-count t c = rw length-set (omega (arith, ap length (bytes t c), c.requires))

pub slice_bounds-put_groups-start : goal.slice_bounds-put_groups-start
slice_bounds-put_groups-start t c = rw length-set (omega (arith, ap length (bytes t c), c.requires))

-- the byte alone over the head
head : (t : ℕ) (c : Else-v-lt128 t) → set c.args.out.now 0 (c.args.v % 128 + 128) ≡ over ((c.args.v % 128 + 128) ∷ []) c.args.out.now
head t c = drop-set c.args.out.now 0 _ (omega (arith, ap length (bytes t c), c.requires))

pub put_groups-requires : goal.put_groups-requires
put_groups-requires t c =
    let here = (goal.at.put_groups-requires t c).Else-v-lt128 in (
      omega arith,
      room_behind c.args.out.now _ 1 ((c.args.v % 128 + 128) ∷ []) (groups (c.args.g - 1) (c.args.v / 128)) refl (head t here) (omega (arith, ap length (bytes t here), c.requires)),
    )

pub returns-clause-size : goal.returns-clause-size
returns-clause-size t c = omega (arith, c.put_groups.ensures.size, ap length (bytes t (goal.at.returns-clause-size t c).Else-v-lt128))

pub returns-clause-bytes : goal.returns-clause-bytes
returns-clause-bytes t c =
    let here = (goal.at.returns-clause-bytes t c).Else-v-lt128 in
    both c.args.out.now _ 1 ((c.args.v % 128 + 128) ∷ []) (groups (c.args.g - 1) (c.args.v / 128)) refl (head t here) _ c.put_groups.ensures.bytes ∙ ap (λ (l : List ℕ). over l c.args.out.now) (sym (bytes t here))
