-- The shapes of builders that are made, and what values mean in them, by the types of columns.
use Rattle.std.proofs.Common.{◌≡◌, ◌∙◌, ℕ, suc, Bool, true, false, not, ◌&&◌, eqb, List, [], ◌∷◌, length, refl, sym, ap, arith}
use Rattle.std.proofs.lemmas.Bool.Decides.{nat_tests}
use Rattle.arrow_array.specs.FixedLists.{list_size}
use Rattle.arrow_builders.specs.Children.{fields_of}
use Rattle.arrow_builders.specs.Shapes.{flat, fixed_lists, lists, records, field, shape_type}
use Rattle.arrow_core.specs.Layouts.{physical_type}
use Rattle.arrow_core.specs.declared.physical.PhysicalType.TheVariants as physical
use Rattle.arrow_core.specs.declared.types.Field.{Field}
use Rattle.arrow_core.specs.declared.types.IntervalUnit.TheVariants as interval
use Rattle.arrow_core.specs.declared.types.DataType.{DataType, Row_of-Field, end_of-Field, more_of-Field}
use Rattle.arrow_core.specs.declared.types.DataType as types
use Rattle.arrow_core.specs.declared.types.DataType.TheVariants as variant
use Rattle.arrow_core.specs.declared.types.DataType.TheBlock.{shape-the_row-Field-0, hidden-the_row-Field-0, shape-the_row-Field-1, hidden-the_row-Field-1}
use Rattle.json_tree.specs.Keys.{value_of}
use Rattle.json_tree.specs.Layout.{distinct}
use Rattle.json_tree.specs.Tree.{Json, or_null}
use Rattle.json_tree.specs.declared.value.Value.{out-Value}
use Rattle.json_flat.specs.Reading.{has_field, item_meaning, list_in, member_meanings, reading, sized_list_in, struct_in}
use Rattle.json_line.specs.Builders.{IsNotNested, item_shape, line_shape, row_shapes, shapes_of, shape_members, shape_reading, struct_names}
use Rattle.json_flat.specs.Names.{names_of, row_names}
use Rattle.json_flat.proofs.RowNames.{row_named}
use Rattle.json_line.specs.Lines.{are_line_fields, are_sized_items, are_struct_fields, have_line_readings}
use Rattle.json_line.specs.Types.{has_line_reading, row_has_readings}

pub and_first : (a b : Bool) → (a && b) ≡ true → a ≡ true
and_first true b e = refl
and_first false b e = absurd cc

pub and_second : (a b : Bool) → (a && b) ≡ true → b ≡ true
and_second true b e = e
and_second false b e = absurd cc

-- ---- types

pub flat_shape : (t : DataType) → IsNotNested t → line_shape t ≡ flat (physical_type t) t
flat_shape types.Null h = refl
flat_shape types.Boolean h = refl
flat_shape types.Int8 h = refl
flat_shape types.Int16 h = refl
flat_shape types.Int32 h = refl
flat_shape types.Int64 h = refl
flat_shape types.UInt8 h = refl
flat_shape types.UInt16 h = refl
flat_shape types.UInt32 h = refl
flat_shape types.UInt64 h = refl
flat_shape types.Float16 h = refl
flat_shape types.Float32 h = refl
flat_shape types.Float64 h = refl
flat_shape (types.Timestamp unit timezone) h = refl
flat_shape types.Date32 h = refl
flat_shape types.Date64 h = refl
flat_shape (types.Time32 unit) h = refl
flat_shape (types.Time64 unit) h = refl
flat_shape (types.Duration unit) h = refl
flat_shape (types.Interval unit) h = refl
flat_shape types.Binary h = refl
flat_shape (types.FixedSizeBinary size) h = refl
flat_shape types.LargeBinary h = refl
flat_shape types.Utf8 h = refl
flat_shape types.LargeUtf8 h = refl
flat_shape (types.FixedSizeList' shape item size) h = absurd h
flat_shape (types.Map' shape entries sorted) h = refl
flat_shape (types.Union' shape fields ids mode) h = refl
flat_shape (types.Dictionary' key shape value sorted) h = refl
flat_shape (types.Decimal precision scale) h = refl
flat_shape (types.Decimal256 precision scale) h = refl
flat_shape (types.Extension' name shape inner metadata) h = refl
flat_shape (types.List' shape item) h = absurd h
flat_shape (types.LargeList' shape item) h = absurd h
flat_shape (types.Struct' shape fields) h = absurd h

-- the type of a builder of the shape is the type
pub same_type : (t : DataType) → shape_type (line_shape t) ≡ t
same_type types.Null = refl
same_type types.Boolean = refl
same_type types.Int8 = refl
same_type types.Int16 = refl
same_type types.Int32 = refl
same_type types.Int64 = refl
same_type types.UInt8 = refl
same_type types.UInt16 = refl
same_type types.UInt32 = refl
same_type types.UInt64 = refl
same_type types.Float16 = refl
same_type types.Float32 = refl
same_type types.Float64 = refl
same_type (types.Timestamp unit timezone) = refl
same_type types.Date32 = refl
same_type types.Date64 = refl
same_type (types.Time32 unit) = refl
same_type (types.Time64 unit) = refl
same_type (types.Duration unit) = refl
same_type (types.Interval unit) = refl
same_type types.Binary = refl
same_type (types.FixedSizeBinary size) = refl
same_type types.LargeBinary = refl
same_type types.Utf8 = refl
same_type types.LargeUtf8 = refl
same_type (types.FixedSizeList' shape item size) = refl
same_type (types.Map' shape entries sorted) = refl
same_type (types.Union' shape fields ids mode) = refl
same_type (types.Dictionary' key shape value sorted) = refl
same_type (types.Decimal precision scale) = refl
same_type (types.Decimal256 precision scale) = refl
same_type (types.Extension' name shape inner metadata) = refl
same_type (types.List' shape item) = refl
same_type (types.LargeList' shape item) = refl
same_type (types.Struct' shape fields) = refl

mutual
  -- and a value means there what it means under the type
  pub same_reading : (t : DataType) → has_line_reading t ≡ true → shape_reading (line_shape t) ≡ reading t
  same_reading types.Null h = refl
  same_reading types.Boolean h = refl
  same_reading types.Int8 h = refl
  same_reading types.Int16 h = refl
  same_reading types.Int32 h = refl
  same_reading types.Int64 h = refl
  same_reading types.UInt8 h = refl
  same_reading types.UInt16 h = refl
  same_reading types.UInt32 h = refl
  same_reading types.UInt64 h = refl
  same_reading types.Float16 h = refl
  same_reading types.Float32 h = refl
  same_reading types.Float64 h = refl
  same_reading (types.Timestamp unit timezone) h = refl
  same_reading types.Date32 h = refl
  same_reading types.Date64 h = refl
  same_reading (types.Time32 unit) h = refl
  same_reading (types.Time64 unit) h = refl
  same_reading (types.Duration unit) h = refl
  same_reading (types.Interval interval.YearMonth) h = refl
  same_reading (types.Interval interval.DayTime) h = absurd cc
  same_reading (types.Interval interval.MonthDayNano) h = absurd cc
  same_reading types.Binary h = refl
  same_reading (types.FixedSizeBinary size) h = refl
  same_reading types.LargeBinary h = refl
  same_reading types.Utf8 h = refl
  same_reading types.LargeUtf8 h = refl
  same_reading (types.Map' shape entries sorted) h = refl
  same_reading (types.Union' shape fields ids mode) h = refl
  same_reading (types.Dictionary' key shape value sorted) h = absurd cc
  same_reading (types.Decimal precision scale) h = refl
  same_reading (types.Decimal256 precision scale) h = refl
  same_reading (types.Extension' name shape inner metadata) h = absurd cc
  same_reading (types.List' shape item) h = λ i. list_in (λ value. same_item item h value i)
  same_reading (types.LargeList' shape item) h = λ i. list_in (λ value. same_item item h value i)
  same_reading (types.FixedSizeList' shape item size) h = λ i. sized_list_in size (λ value. same_item item (and_second (not (eqb size 0)) (row_has_readings item) h) value i)
  same_reading (types.Struct' shape fields) h =
      λ i. struct_in (λ members. same_members fields (and_second (distinct (row_names fields)) (row_has_readings fields) (and_second (has_field fields) _ h)) members i)

  same_item : {m : _} (row : Row_of-Field m) → row_has_readings row ≡ true → (value : Json) → shape_reading (item_shape row) (out-Value value) ≡ item_meaning row value
  same_item end_of-Field h value = refl
  same_item (more_of-Field name t is_nullable metadata rest) h value = λ i. same_reading t (and_first (has_line_reading t) (row_has_readings rest) h) i (out-Value value)

  same_members : {m : _} (row : Row_of-Field m) → row_has_readings row ≡ true → (members : List (List ℕ × Json)) → shape_members (row_names row) (row_shapes row) members ≡ member_meanings row members
  same_members end_of-Field h members = refl
  same_members (more_of-Field name t is_nullable metadata rest) h members =
      λ i. same_reading t (and_first (has_line_reading t) (row_has_readings rest) h) i (out-Value (or_null (value_of name members))) ∷ same_members rest (and_second (has_line_reading t) (row_has_readings rest) h) members i

-- ---- lists, by the field that code sees

and_true : (b : Bool) → (b && true) ≡ b
and_true true = refl
and_true false = refl

pub list_readable : (f : Field) → has_line_reading (variant.List f) ≡ has_line_reading f.data_type
unfolding shape-the_row-Field-0 hidden-the_row-Field-0 denote.Hole.Carrier.hidden
list_readable f = and_true (has_line_reading f.data_type)

pub large_list_readable : (f : Field) → has_line_reading (variant.LargeList f) ≡ has_line_reading f.data_type
unfolding shape-the_row-Field-0 hidden-the_row-Field-0 denote.Hole.Carrier.hidden
large_list_readable f = and_true (has_line_reading f.data_type)

pub sized_readable : (f : Field) (n : ℕ) → has_line_reading (variant.FixedSizeList f n) ≡ are_sized_items n f
unfolding shape-the_row-Field-0 hidden-the_row-Field-0 denote.Hole.Carrier.hidden
sized_readable f n = ap (λ b. not (eqb n 0) && b) (and_true (has_line_reading f.data_type))

pub list_shape : (f : Field) → line_shape (variant.List f) ≡ lists physical.List (variant.List f) (line_shape f.data_type)
unfolding shape-the_row-Field-0 hidden-the_row-Field-0 denote.Hole.Carrier.hidden
list_shape f = refl

pub large_list_shape : (f : Field) → line_shape (variant.LargeList f) ≡ lists physical.LargeList (variant.LargeList f) (line_shape f.data_type)
unfolding shape-the_row-Field-0 hidden-the_row-Field-0 denote.Hole.Carrier.hidden
large_list_shape f = refl

pub sized_list_shape : (f : Field) (n : ℕ) → line_shape (variant.FixedSizeList f n) ≡ fixed_lists (variant.FixedSizeList f n) (line_shape f.data_type)
unfolding shape-the_row-Field-0 hidden-the_row-Field-0 denote.Hole.Carrier.hidden
sized_list_shape f n = refl

pub size_is : (t : DataType) (f : Field) (n : ℕ) → t ≡ variant.FixedSizeList f n → list_size t ≡ n
unfolding shape-the_row-Field-0 hidden-the_row-Field-0 denote.Hole.Carrier.hidden
size_is t f n e = ap list_size e

-- ---- structs, by the fields that code sees

row_readable : (fs : List Field) → row_has_readings (hidden-the_row-Field-1 fs) ≡ have_line_readings fs
unfolding shape-the_row-Field-1 hidden-the_row-Field-1 denote.Hole.Carrier.hidden
row_readable [] = refl
row_readable (f ∷ fs) = ap (λ z. has_line_reading f.data_type && z) (row_readable fs)

row_filled : (fs : List Field) → has_field (hidden-the_row-Field-1 fs) ≡ not (eqb (length fs) 0)
unfolding shape-the_row-Field-1 hidden-the_row-Field-1 denote.Hole.Carrier.hidden
row_filled [] = refl
row_filled (f ∷ fs) = some (length fs)
  where
    some : (n : ℕ) → true ≡ not (eqb (suc n) 0)
    some n = grind (arith, nat_tests)

row_shaped : (fs : List Field) → row_shapes (hidden-the_row-Field-1 fs) ≡ fields_of (shapes_of fs)
unfolding shape-the_row-Field-1 hidden-the_row-Field-1 denote.Hole.Carrier.hidden
row_shaped [] = refl
row_shaped (f ∷ fs) = ap (field (line_shape f.data_type)) (row_shaped fs)

pub struct_readable : (fs : List Field) → has_line_reading (variant.Struct fs) ≡ are_struct_fields fs
unfolding shape-the_row-Field-1 hidden-the_row-Field-1 denote.Hole.Carrier.hidden
struct_readable fs = λ i. (row_filled fs i && (distinct (row_named fs i) && row_readable fs i))

pub struct_shape : (fs : List Field) → line_shape (variant.Struct fs) ≡ records (variant.Struct fs) (fields_of (shapes_of fs))
unfolding shape-the_row-Field-1 hidden-the_row-Field-1 denote.Hole.Carrier.hidden
struct_shape fs = ap (records (variant.Struct fs)) (row_shaped fs)

pub struct_named : (fs : List Field) → struct_names (variant.Struct fs) ≡ names_of fs
unfolding shape-the_row-Field-1 hidden-the_row-Field-1 denote.Hole.Carrier.hidden
struct_named fs = row_named fs

-- ---- what is read under a type is read under those in it

module _ (t : DataType) (h : has_line_reading t ≡ true) where
  pub list_item_readable : (f g : Field) → t ≡ variant.List f → g ≡ f → has_line_reading g.data_type ≡ true
  list_item_readable f g e s = ap (λ (x : Field). has_line_reading x.data_type) s ∙ sym (ap has_line_reading e ∙ list_readable f) ∙ h

  pub large_list_item_readable : (f g : Field) → t ≡ variant.LargeList f → g ≡ f → has_line_reading g.data_type ≡ true
  large_list_item_readable f g e s = ap (λ (x : Field). has_line_reading x.data_type) s ∙ sym (ap has_line_reading e ∙ large_list_readable f) ∙ h

  pub sized_item_readable : (f g : Field) (n : ℕ) → t ≡ variant.FixedSizeList f n → g ≡ f → has_line_reading g.data_type ≡ true
  sized_item_readable f g n e s =
      ap (λ (x : Field). has_line_reading x.data_type) s ∙ and_second (not (eqb n 0)) (has_line_reading f.data_type) (sym (ap has_line_reading e ∙ sized_readable f n) ∙ h)

  pub struct_fields_readable : (fs gs : List Field) → t ≡ variant.Struct fs → gs ≡ fs → are_line_fields gs ≡ true
  struct_fields_readable fs gs e s =
      ap are_line_fields s ∙ and_second (not (eqb (length fs) 0)) (are_line_fields fs) (sym (ap has_line_reading e ∙ struct_readable fs) ∙ h)

pub are_readable : (fs : List Field) → are_line_fields fs ≡ true → have_line_readings fs ≡ true
are_readable fs h = and_second (distinct (names_of fs)) (have_line_readings fs) h
