-- `new` meets its contract: each family begins on the sheet, and those from the temporaries on are the scratch.
use Rattle.std.proofs.Common.{◌+◌, ◌*◌, ◌≤◌, ◌≡◌, refl, ap, arith, set, get_or}
use Rattle.definitions.specs.Limits.{cell_count}
use Rattle.plan.specs.declared.Place.{Place}
use Rattle.plan.specs.Names.{number, family_count}
use Rattle.plan.specs.declared.Family.TheVariants.{Temporaries}
use Rattle.plan.specs.Plan.{scratch_count}
use Rattle.orders.specs.Limits.{limited}
use Rattle.orders.specs.Tables.{laid_none, laid_one, laid_all, scratch_is, IsLayout, first_start, next_start, next_on_sheet}
use Rattle.orders.proofs.tables.Tables.new.Goals as goal
use Rattle.orders.proofs.tables.Tables.new.Goals.{After-place_of-place, After-loop-f}

pub loop-f-init : goal.loop-f-init
loop-f-init c = (laid_none _ _ _ _ refl refl, first_start _ _)

-- the next family begins on the sheet
on_sheet : (c : After-place_of-place) → c.loop-f.end + c.place_of-place.result.1 * c.place_of-place.result.2 ≤ cell_count
on_sheet c =
    let a = c.args.counts in
    next_on_sheet a.n a.m c.loop-f.f c.loop-f.end c.place_of-place.result (limited a) c.loop-f-test.true c.place_of-place.ensures c.loop-f.invariant.1

pub overflow_mul-end : goal.overflow_mul-end
overflow_mul-end c = omega (arith, on_sheet (goal.at.overflow_mul-end c).After-place_of-place)

pub overflow_add-end : goal.overflow_add-end
overflow_add-end c = omega (arith, on_sheet (goal.at.overflow_add-end c).After-place_of-place)

pub loop-f-preserved : goal.loop-f-preserved
loop-f-preserved c =
    let a = c.args.counts in
    let place = c.place_of-place.result in
    let is = c.place_of-place.ensures in (
      laid_one a.n a.m _ _ place.2 _ _ c.loop-f.invariant.0 c.loop-f-test.true c.loop-f.invariant.1 (ap (λ (p : Place). p.2) is),
      next_start a.n a.m c.loop-f.f c.loop-f.end place is c.loop-f.invariant.1,
    )

-- past the last family all are laid
laid : (c : After-loop-f) → let a = c.args.counts in IsLayout a.n a.m (set c.loop-f.starts family_count c.loop-f.end) c.loop-f.columns
laid c =
    let last : c.loop-f.f ≡ family_count = omega arith in
    laid_all _ _ _ _ _ (rw last at c.loop-f.invariant.0) (rw last at c.loop-f.invariant.1)

-- the last end is behind the scratch
scratch : (c : After-loop-f) → let a = c.args.counts in
    c.loop-f.end ≡ get_or (set c.loop-f.starts family_count c.loop-f.end) (number Temporaries) 0 + scratch_count a.n a.m
scratch c =
    let last : c.loop-f.f ≡ family_count = omega arith in
    omega (arith, scratch_is _ _ _ _ (laid c), (laid c).begin family_count (omega arith), rw last at c.loop-f.invariant.1)

pub overflow_sub-scratch : goal.overflow_sub-scratch
overflow_sub-scratch c = omega (arith, scratch c)

pub sizes_of-sizes-requires : goal.sizes_of-sizes-requires
sizes_of-sizes-requires c = omega (arith, scratch c)

pub invariant_of-result-clause-scratch_cells : goal.invariant_of-result-clause-scratch_cells
invariant_of-result-clause-scratch_cells c = omega (arith, scratch (goal.at.invariant_of-result-clause-scratch_cells c).After-loop-f)

pub invariant_of-result-clause-layout : goal.invariant_of-result-clause-layout
invariant_of-result-clause-layout c = laid (goal.at.invariant_of-result-clause-layout c).After-loop-f
