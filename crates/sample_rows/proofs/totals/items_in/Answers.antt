use Rattle.std.proofs.Common.{◌∙◌, sym, ap, subst}
use Rattle.arrow_columns.specs.Cells.{cell_slot, CellFits}
use Rattle.sample_rows.specs.Totals.{items_in}
use Rattle.sample_rows.proofs.Items.{no_items, some_items}
use Rattle.sample_rows.proofs.totals.items_in.Goals as goal

pub returns-in-List : goal.returns-in-List
returns-in-List c = some_items c.in-List.part (subst CellFits c.in-List.is c.requires) ∙ ap (λ z. items_in (cell_slot z)) (sym c.in-List.is)

pub returns-in_default : goal.returns-in_default
returns-in_default c = no_items c.args.cell.now c.in_default.not-List
