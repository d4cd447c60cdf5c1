-- Lemmas, which nobody has to believe: the type of a child is less deep than that of its parent.
-- They stand in specs since the `size_decreases` of a struct imports nothing from elsewhere.
use Rattle.std.specs.Prelude.{◌≡◌, ℕ, ◌≤◌, ◌+◌, ◌*◌, Bool, true, false, List, [], ◌∷◌, max}
use Rattle.std.proofs.Common.{arith, refl, ap}
use denote.Param.Weighed.{most}
use Rattle.arrow_core.specs.declared.types.DataType.{DataType, size-DataType}
use Rattle.arrow_core.specs.declared.types.DataType.TheViews.{sized-List, sized-LargeList, sized-FixedSizeList, sized-Struct, sized-Dictionary}
use Rattle.arrow_core.specs.declared.types.DataType.TheVariants as types
use Rattle.arrow_core.specs.declared.types.IntegerType.{IntegerType}
use Rattle.arrow_core.specs.declared.types.Field.{Field, size-Field, size_is-Field}
use Rattle.arrow_array.specs.declared.array.Array.{Array}
use Rattle.arrow_array.specs.declared.array.Array.TheVariants.{Null, Boolean, Int8, Int16, Int32, Int64, UInt8, UInt16, UInt32, UInt64, Int128, MonthDayNano, Utf8, LargeUtf8, Binary, LargeBinary, FixedSizeBinary, List as ListOf, LargeList, FixedSizeList, Struct, Dictionary}
use Rattle.arrow_array.specs.declared.dictionary.DictionaryArray.TheDeep.{deep-Array, size-Array}
use Rattle.arrow_array.specs.Arrays.{array_type}
use Rattle.arrow_array.specs.Depths.{children_depth}
use Rattle.arrow_array.specs.Dictionaries.{IsDictionaryOf}
use Rattle.arrow_array.specs.FixedLists.{IsFixedListOf, list_size}
use Rattle.arrow_array.specs.Lists.{list_type, IsListOf}
use Rattle.arrow_array.specs.Structs.{AreChildren, IsStructOf}

deep_below : (a : Array) → deep-Array a ≤ size-DataType (array_type a) + 1
deep_below (Null v) = omega arith
deep_below (Boolean v) = omega arith
deep_below (Int8 v) = omega arith
deep_below (Int16 v) = omega arith
deep_below (Int32 v) = omega arith
deep_below (Int64 v) = omega arith
deep_below (UInt8 v) = omega arith
deep_below (UInt16 v) = omega arith
deep_below (UInt32 v) = omega arith
deep_below (UInt64 v) = omega arith
deep_below (Int128 v) = omega arith
deep_below (MonthDayNano v) = omega arith
deep_below (Utf8 v) = omega arith
deep_below (LargeUtf8 v) = omega arith
deep_below (Binary v) = omega arith
deep_below (LargeBinary v) = omega arith
deep_below (FixedSizeBinary v) = omega arith
deep_below (ListOf v) = omega arith
deep_below (LargeList v) = omega arith
deep_below (FixedSizeList v) = omega arith
deep_below (Struct v) = omega arith
deep_below (Dictionary v) = omega arith

field_above : (f : Field) → size-DataType f.data_type + 1 ≤ size-Field f
field_above f = omega (arith, size_is-Field f)

list_above : (is_large : Bool) (f : Field) → size-Field f + 1 ≤ size-DataType (list_type is_large f)
list_above false f = omega (arith, sized-List f)
list_above true f = omega (arith, sized-LargeList f)

-- the items' type is less deep than the lists'
pub item_below : (is_large : Bool) (t item : DataType) → IsListOf is_large t item → size-DataType item + 1 ≤ size-DataType t
item_below is_large t item h = rw h.1 (let e : size-DataType (h.0.data_type) ≡ size-DataType item = rw h.2 refl in omega (arith, e, field_above h.0, list_above is_large h.0))

pub list_falls : (is_large : Bool) (t : DataType) (a : Array) → IsListOf is_large t (array_type a) → max (deep-Array a) 0 ≤ size-DataType t
list_falls is_large t a h = omega (arith, deep_below a, item_below is_large t (array_type a) h)

struct_above : (fs : List Field) → most size-Field fs + 1 ≤ size-DataType (types.Struct fs)
struct_above fs = omega (arith, sized-Struct fs)

fields_above : (n : ℕ) (fs : List Field) (children : List Array) → AreChildren n fs children → children_depth children ≤ most size-Field fs
fields_above n [] [] h = omega arith
fields_above n [] (a ∷ more) h = absurd h
fields_above n (f ∷ fs) [] h = absurd h
fields_above n (f ∷ fs) (a ∷ more) h =
    let e : size-DataType (f.data_type) ≡ size-DataType (array_type a) = rw (h.0.0) refl in
    omega (arith, e, field_above f, fields_above n fs more h.1)

-- the children's types are less deep than the structs'
pub children_below : (t : DataType) (children : List Array) (n : ℕ) → IsStructOf t children n → children_depth children ≤ size-DataType t
children_below t children n h = rw h.1 (omega (arith, fields_above n h.0 children h.2, struct_above h.0))

deepest_below : (children : List Array) → most deep-Array children ≤ children_depth children
deepest_below [] = omega arith
deepest_below (a ∷ more) = omega (arith, deep_below a, deepest_below more)

pub struct_falls : (t : DataType) (children : List Array) (n : ℕ) → IsStructOf t children n → max (most deep-Array children) 0 ≤ size-DataType t
struct_falls t children n h = omega (arith, deepest_below children, children_below t children n h)

size_below : (a : Array) → size-Array a ≤ 2 * deep-Array a + 1
size_below a = omega arith

-- the measure of several arrays, by the depth of the deepest
pub sizes_below : (arrays : List Array) → most size-Array arrays ≤ 2 * most deep-Array arrays + 1
sizes_below [] = omega arith
sizes_below (a ∷ more) = omega (arith, size_below a, sizes_below more)

fixed_list_above : (f : Field) (n : ℕ) → size-Field f + 1 ≤ size-DataType (types.FixedSizeList f n)
fixed_list_above f n = omega (arith, sized-FixedSizeList f n)

pub fixed_item_below : (t item : DataType) → IsFixedListOf t item → size-DataType item + 1 ≤ size-DataType t
fixed_item_below t item h =
    let d : size-DataType t ≡ size-DataType (types.FixedSizeList h.0 (list_size t)) = ap size-DataType h.1 in
    let e : size-DataType (h.0.data_type) ≡ size-DataType item = ap size-DataType h.2 in
    omega (arith, d, e, field_above h.0, fixed_list_above h.0 (list_size t))

pub fixed_list_falls : (t : DataType) (a : Array) → IsFixedListOf t (array_type a) → max (deep-Array a) 0 ≤ size-DataType t
fixed_list_falls t a h = omega (arith, deep_below a, fixed_item_below t (array_type a) h)

-- the values' type is less deep than the dictionary's
pub value_below : (key : IntegerType) (t value : DataType) → IsDictionaryOf key t value → size-DataType value + 1 ≤ size-DataType t
value_below key t value h =
    let d : size-DataType t ≡ size-DataType (types.Dictionary key value h.0) = ap size-DataType h.1 in
    omega (arith, d, sized-Dictionary key value h.0)

pub dictionary_falls : (key : IntegerType) (t : DataType) (a : Array) → IsDictionaryOf key t (array_type a) → max (deep-Array a) 0 ≤ size-DataType t
dictionary_falls key t a h = omega (arith, deep_below a, value_below key t (array_type a) h)
