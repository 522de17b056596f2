-- `cell` meets its contract: the cell is the name's, and lies on the sheet.
use Rattle.std.proofs.Common.{arith}
use Rattle.orders.specs.Cells.{cell_by}
use Rattle.orders.proofs.tables.Tables.cell.Goals as goal

pub overflow_mul-result : goal.overflow_mul-result
overflow_mul-result c = omega (arith, (cell_by _ _ c.args.name _ _ c.args.self.now.layout c.requires _ c.number-f.ensures).on_sheet)

pub overflow_add-result : goal.overflow_add-result
overflow_add-result c = omega (arith, (cell_by _ _ c.args.name _ _ c.args.self.now.layout c.requires _ c.number-f.ensures).on_sheet)

pub overflow_add-result-2 : goal.overflow_add-result-2
overflow_add-result-2 c = omega (arith, (cell_by _ _ c.args.name _ _ c.args.self.now.layout c.requires _ c.number-f.ensures).on_sheet)

pub returns : goal.returns
returns c = (cell_by _ _ c.args.name _ _ c.args.self.now.layout c.requires _ c.number-f.ensures).is_cell
