-- What is said of a builder of structs, over the list of its children.
use Rattle.std.proofs.Common.{◌≡◌, ap, ◌∙◌, sym, subst, arith, ℕ, List, ◌∷◌, ◌++◌, map, length, Vec, Global, refl}
use Rattle.std.specs.Vec.{with_items}
use Rattle.std.proofs.lemmas.List.{length-map, with_items_is}
use mathlib.Core.Former.{Count}
use Rattle.arrow_core.specs.declared.slot.Slot.{Slot}
use Rattle.arrow_core.specs.declared.types.DataType.{DataType}
use Rattle.arrow_array.specs.Structs.{record_at}
use Rattle.arrow_flat.specs.Builders.{slots_where}
use Rattle.arrow_builders.specs.Children.{all_nodes, all_slots, builders_dictionaries, fields_of, AllFit}
use Rattle.arrow_builders.specs.Fits.{ChildrenFit, FitBelow, RecordsFit}
use Rattle.arrow_builders.specs.MutableArrays.{builder_type, builder_slots, slots_below, nodes, nodes_below, slots_at, slots_at_below, types_below, builder_dictionaries, dictionaries_below}
use Rattle.arrow_flat.specs.Nested.{marks_node}
use Rattle.arrow_flat.specs.Nodes.{Node}
use Rattle.arrow_builders.specs.Shapes.{records, field, shape, shapes_below}
use Rattle.arrow_builders.specs.Tight.{IsTight, TightBelow, AllTight}
use Rattle.arrow_builders.specs.declared.structs.DynMutableStructArray.{DynMutableStructArray}
use Rattle.arrow_builders.specs.declared.array.MutableArray.{MutableArray, Struct, Struct', Row_of-MutableArray, end_of-MutableArray, more_of-MutableArray, items-the_row-MutableArray, items_hidden-the_row-MutableArray-0}

abbrev row_of : MutableArray → (n : Count) × Row_of-MutableArray n
row_of (Struct' marks _ row) = (_, row)
row_of _ = (_, end_of-MutableArray)

slots-row : (n : _) (row : Row_of-MutableArray n) → slots_below row ≡ map builder_slots (items-the_row-MutableArray n row)
slots-row n end_of-MutableArray = refl
slots-row n (more_of-MutableArray b rest) = ap (λ (xs : List (List Slot)). builder_slots b ∷ xs) (slots-row _ rest)

types-row : (n : _) (row : Row_of-MutableArray n) → types_below row ≡ map builder_type (items-the_row-MutableArray n row)
types-row n end_of-MutableArray = refl
types-row n (more_of-MutableArray b rest) = ap (λ (xs : List DataType). builder_type b ∷ xs) (types-row _ rest)

nodes-row : (n : _) (row : Row_of-MutableArray n) → nodes_below row ≡ all_nodes (items-the_row-MutableArray n row)
nodes-row n end_of-MutableArray = refl
nodes-row n (more_of-MutableArray b rest) = ap (λ (xs : List Node). nodes b ++ xs) (nodes-row _ rest)

slots_at-row : (n : _) (row : Row_of-MutableArray n) → slots_at_below row ≡ all_slots (items-the_row-MutableArray n row)
slots_at-row n end_of-MutableArray = refl
slots_at-row n (more_of-MutableArray b rest) = ap (λ (xs : List (List Slot)). slots_at b ++ xs) (slots_at-row _ rest)

dictionaries-row : (n : _) (row : Row_of-MutableArray n) → dictionaries_below row ≡ builders_dictionaries (items-the_row-MutableArray n row)
dictionaries-row n end_of-MutableArray = refl
dictionaries-row n (more_of-MutableArray b rest) = ap (λ (ds : List (List Slot × List Slot)). builder_dictionaries b ++ ds) (dictionaries-row _ rest)

shapes-row : (n : _) (row : Row_of-MutableArray n) → shapes_below row ≡ fields_of (map shape (items-the_row-MutableArray n row))
shapes-row n end_of-MutableArray = refl
shapes-row n (more_of-MutableArray b rest) = ap (field (shape b)) (shapes-row _ rest)

fit-row : (n : _) (row : Row_of-MutableArray n) → FitBelow row ≡ AllFit (items-the_row-MutableArray n row)
fit-row n end_of-MutableArray = refl
fit-row n (more_of-MutableArray b rest) = ap (λ (P : Type 0). ChildrenFit b × P) (fit-row _ rest)

tight-row : (m : _) (n : ℕ) (row : Row_of-MutableArray m) → TightBelow n row ≡ AllTight n (items-the_row-MutableArray m row)
tight-row m n end_of-MutableArray = refl
tight-row m n (more_of-MutableArray b rest) = ap (λ (P : Type 0). (length (builder_slots b) ≡ n) × IsTight b × P) (tight-row _ n rest)

pub slots-record : (b : DynMutableStructArray) → builder_slots (Struct b) ≡ slots_where b.marks.booleans (record_at (map builder_slots b.values.items))
slots-record b =
    let row = row_of (Struct b) in
    ap (λ xs. slots_where b.marks.booleans (record_at xs)) (slots-row row.0 row.1 ∙ ap (map builder_slots) (items_hidden-the_row-MutableArray-0 b.values))

pub nodes-record : (b : DynMutableStructArray) → nodes (Struct b) ≡ marks_node b.marks ∷ all_nodes b.values.items
nodes-record b =
    let row = row_of (Struct b) in
    ap (λ (xs : List Node). marks_node b.marks ∷ xs) (nodes-row row.0 row.1 ∙ ap all_nodes (items_hidden-the_row-MutableArray-0 b.values))

pub slots_at-record : (b : DynMutableStructArray) → slots_at (Struct b) ≡ builder_slots (Struct b) ∷ all_slots b.values.items
slots_at-record b =
    let row = row_of (Struct b) in
    ap (λ (xs : List (List Slot)). builder_slots (Struct b) ∷ xs) (slots_at-row row.0 row.1 ∙ ap all_slots (items_hidden-the_row-MutableArray-0 b.values))

pub dictionaries-record : (b : DynMutableStructArray) → builder_dictionaries (Struct b) ≡ builders_dictionaries b.values.items
dictionaries-record b =
    let row = row_of (Struct b) in
    dictionaries-row row.0 row.1 ∙ ap builders_dictionaries (items_hidden-the_row-MutableArray-0 b.values)

pub shape-record : (b : DynMutableStructArray) → shape (Struct b) ≡ records b.marks.data_type (fields_of (map shape b.values.items))
shape-record b =
    let row = row_of (Struct b) in
    ap (records b.marks.data_type) (shapes-row row.0 row.1 ∙ ap (λ xs. fields_of (map shape xs)) (items_hidden-the_row-MutableArray-0 b.values))

pub fit-record : (b : DynMutableStructArray) → ChildrenFit (Struct b) ≡ RecordsFit b.marks.data_type (map builder_type b.values.items) (length b.marks.booleans) (map builder_slots b.values.items) (AllFit b.values.items)
fit-record b =
    let row = row_of (Struct b) in
    let same = items_hidden-the_row-MutableArray-0 b.values in
    let n : ℕ = length b.marks.booleans in
    ap (λ ts. RecordsFit b.marks.data_type ts n (slots_below row.1) (FitBelow row.1)) (types-row row.0 row.1 ∙ ap (map builder_type) same)
    ∙ ap (λ ss. RecordsFit b.marks.data_type (map builder_type b.values.items) n ss (FitBelow row.1)) (slots-row row.0 row.1 ∙ ap (map builder_slots) same)
    ∙ ap (λ (P : Type 0). RecordsFit b.marks.data_type (map builder_type b.values.items) n (map builder_slots b.values.items) P) (fit-row row.0 row.1 ∙ ap AllFit same)

pub tight-record : (b : DynMutableStructArray) → IsTight (Struct b) ≡ AllTight (length b.marks.booleans) b.values.items
tight-record b =
    let row = row_of (Struct b) in
    tight-row row.0 (length b.marks.booleans) row.1 ∙ ap (AllTight (length b.marks.booleans)) (items_hidden-the_row-MutableArray-0 b.values)

-- ---- from one builder of structs to another

pub shape_same : (b d : DynMutableStructArray) → d.marks.data_type ≡ b.marks.data_type → map shape d.values.items ≡ map shape b.values.items → shape (Struct d) ≡ shape (Struct b)
shape_same b d t s = shape-record d ∙ rw (t, s) refl ∙ sym (shape-record b)

pub slots_are : (b : DynMutableStructArray) (xs : List Slot) → slots_where b.marks.booleans (record_at (map builder_slots b.values.items)) ≡ xs → builder_slots (Struct b) ≡ xs
slots_are b xs e = slots-record b ∙ e

pub slots_same : (b d : DynMutableStructArray) → d.marks.booleans ≡ b.marks.booleans → map builder_slots d.values.items ≡ map builder_slots b.values.items → builder_slots (Struct d) ≡ builder_slots (Struct b)
slots_same b d t s = slots-record d ∙ rw (t, s) refl ∙ sym (slots-record b)

pub nodes_of : (P : List Node → Type 0) (b : DynMutableStructArray) → P (marks_node b.marks ∷ all_nodes b.values.items) → P (nodes (Struct b))
nodes_of P b h = subst P (sym (nodes-record b)) h

-- ---- children that were lent out and written back

pub items_back : (v : Vec MutableArray Global) (old ws : List MutableArray) → map shape ws ≡ map shape old → old ≡ v.items → (with_items v ws).items ≡ ws
items_back v old ws e d = with_items_is v ws (omega (arith, ap length e, length-map ws shape, length-map old shape, ap length d, v.ok.0))

pub shapes_back : (v : Vec MutableArray Global) (old ws : List MutableArray) → map shape ws ≡ map shape old → old ≡ v.items → map shape (with_items v ws).items ≡ map shape v.items
shapes_back v old ws e d = ap (map shape) (items_back v old ws e d) ∙ e ∙ ap (map shape) d

-- what holds of the children lent and given back holds of those before and after
pub back_both : (P : List MutableArray → List MutableArray → Type 0) (v : Vec MutableArray Global) (old ws : List MutableArray) → map shape ws ≡ map shape old → old ≡ v.items → P old ws → P v.items (with_items v ws).items
back_both P v old ws e d h = subst (λ (xs : List MutableArray). P xs (with_items v ws).items) d (subst (P old) (sym (items_back v old ws e d)) h)
