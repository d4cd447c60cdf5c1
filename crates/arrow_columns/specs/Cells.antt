-- Which slot a cell holds, and how deep the types beneath it are.
use Rattle.std.specs.Prelude.{ℕ, ◌+◌, [], ◌∷◌, map}
use Rattle.arrow_core.specs.declared.months_days_ns.MonthsDaysNs.{MonthsDaysNs}
use Rattle.arrow_core.specs.declared.slot.Slot.{Slot}
use Rattle.arrow_core.specs.declared.slot.Slot.TheVariants as slot
use Rattle.arrow_core.specs.declared.types.DataType.{size-DataType}
use Rattle.arrow_array.specs.Arrays.{array_type, array_slots}
use Rattle.arrow_array.specs.Depths.{children_depth}
use Rattle.arrow_array.specs.Lent.{IsPart, part_slots}
use Rattle.arrow_array.specs.Structs.{HaveSlots, record_at}
use Rattle.arrow_columns.specs.declared.cell.Cell.{Cell}
use Rattle.arrow_columns.specs.declared.cell.Cell.TheVariants as cell

-- the slot of an interval: the struct of its three integers
abbrev pub interval_slot : MonthsDaysNs → Slot
interval_slot interval = slot.Struct (slot.Integer interval.months ∷ slot.Integer interval.days ∷ slot.Integer interval.ns ∷ [])

-- the slot that a cell holds
abbrev pub cell_slot : Cell → Slot
cell_slot cell.Null = slot.Null
cell_slot (cell.Boolean b) = slot.Boolean b
cell_slot (cell.Integer n) = slot.Integer n
cell_slot (cell.Interval interval) = interval_slot interval
cell_slot (cell.String string) = slot.String string.now
cell_slot (cell.Binary bytes) = slot.Binary bytes.now
cell_slot (cell.List part) = slot.List (part_slots part)
cell_slot (cell.Struct children k) = record_at (map array_slots children.now) k

-- a list lies within its array, and a struct within each of its arrays
abbrev pub CellFits : Cell → Type 0
CellFits cell.Null = Unit {0}
CellFits (cell.Boolean b) = Unit {0}
CellFits (cell.Integer n) = Unit {0}
CellFits (cell.Interval interval) = Unit {0}
CellFits (cell.String string) = Unit {0}
CellFits (cell.Binary bytes) = Unit {0}
CellFits (cell.List part) = IsPart part
CellFits (cell.Struct children k) = HaveSlots (k + 1) children.now

-- how deep the types of the arrays are that a cell shows
abbrev pub cell_depth : Cell → ℕ
cell_depth cell.Null = 0
cell_depth (cell.Boolean b) = 0
cell_depth (cell.Integer n) = 0
cell_depth (cell.Interval interval) = 0
cell_depth (cell.String string) = 0
cell_depth (cell.Binary bytes) = 0
cell_depth (cell.List part) = size-DataType (array_type part.array.now) + 1
cell_depth (cell.Struct children k) = children_depth children.now
