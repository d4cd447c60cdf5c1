-- How many items a cell's slot has.
use Rattle.std.proofs.Common.{◌≡◌, ◌∙◌, ℕ, ◌-◌, refl, sym, ap}
use Rattle.arrow_core.specs.declared.slot.Slot.TheVariants as slot
use Rattle.arrow_array.specs.declared.part.Part.{Part}
use Rattle.arrow_array.specs.Arrays.{array_slots}
use Rattle.arrow_array.specs.Lent.{IsPart}
use Rattle.arrow_columns.specs.declared.cell.Cell.{Cell}
use Rattle.arrow_columns.specs.declared.cell.Cell.TheVariants as cell
use Rattle.arrow_columns.specs.Cells.{cell_slot, CellFits}
use Rattle.arrow_columns.proofs.Same.{part_length}
use Rattle.sample_rows.specs.Totals.{items_in, items_in_open}

pub some_items : (part : Part) → IsPart part → part.end - part.start ≡ items_in (cell_slot (cell.List part))
some_items part h = sym (ap items_in_open (slot.outs-List _) ∙ part_length part.start part.end (array_slots part.array.now) h.order h.within)

pub no_items : (c : Cell) → ((part : Part) → c ≡ cell.List part → ⊥) → 0 ≡ items_in (cell_slot c)
no_items cell.Null n = sym (ap items_in_open slot.outs-Null)
no_items (cell.Boolean b) n = sym (ap items_in_open (slot.outs-Boolean _))
no_items (cell.Integer i) n = sym (ap items_in_open (slot.outs-Integer _))
no_items (cell.Interval i) n = sym (ap items_in_open (slot.outs-Struct _))
no_items (cell.String s) n = sym (ap items_in_open (slot.outs-String _))
no_items (cell.Binary b) n = sym (ap items_in_open (slot.outs-Binary _))
no_items (cell.List part) n = absurd (n part refl)
no_items (cell.Struct children k) n = sym (ap items_in_open (slot.outs-Struct _))
