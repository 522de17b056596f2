-- A name's cell by the tables of the layout, for every name whose cell is on the sheet (`cell_by`), and the machine's order for an order over names.
use Rattle.std.specs.Prelude.{◌≡◌, refl, List, ℕ, ◌+◌, ◌*◌, ◌<◌, get_or}
use Rattle.std.proofs.Common.{arith}
use Rattle.definitions.specs.Limits.{cell_count}
use Rattle.orders.specs.declared.names.Name as code
use Rattle.plan.specs.Names.{number}
use Rattle.plan.specs.Plan.{from, cell_of, Placed}
use Rattle.plan.proofs.NameFacts.{at_number}
use Rattle.orders.specs.Named.{name_of}
use Rattle.orders.specs.Tables.{IsLayout}

-- the number that the code computes, from where the family of a number begins and how many columns it has
abbrev pub cell_number : (starts columns : List ℕ) (f row column : ℕ) → ℕ
cell_number starts columns f row column = get_or starts f 0 + (row * get_or columns f 0 + column)

-- it is the name's cell, and one of the sheet's
pub record CellBy (n m : ℕ) (c : code.Name) (starts columns : List ℕ) (f : ℕ) : Type 0 where
  pub is_cell : cell_number starts columns f c.row c.column ≡ cell_of n m (name_of c)
  pub on_sheet : cell_number starts columns f c.row c.column < cell_count

pub cell_by : (n m : ℕ) (c : code.Name) (starts columns : List ℕ) → IsLayout n m starts columns → Placed n m (name_of c) → (f : ℕ) → f ≡ number c.family → CellBy n m c starts columns f
unfolding from
cell_by n m c starts columns layout v f e =
    let q : cell_number starts columns f c.row c.column ≡ cell_of n m (name_of c) =
    rw (e, layout.begin (number c.family) (omega (arith, v.0)), layout.wide (number c.family) v.0, at_number c.family) refl in
    record { is_cell = q; on_sheet = rw q v.1 }
