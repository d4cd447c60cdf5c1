-- The types that columns are first read under: values mean the same there, and lines are read into them where the columns' own are readable.
use Rattle.std.proofs.Common.{◌≡◌, ◌∙◌, ℕ, suc, Bool, true, false, not, ◌&&◌, ◌||◌, eqb, List, [], ◌∷◌, length, refl, sym, ap}
use Rattle.std.proofs.lemmas.Bool.{false≢true}
use Rattle.arrow_core.specs.declared.types.DataType.{DataType}
use Rattle.arrow_core.specs.declared.types.DataType as layout
use Rattle.arrow_core.specs.declared.types.DataType.TheVariants as types
use Rattle.arrow_core.specs.declared.types.Field.{Field}
use Rattle.arrow_core.specs.declared.types.IntegerType.{IntegerType}
use Rattle.json_tree.specs.Layout.{distinct}
use Rattle.json_flat.specs.Reading.{has_reading, is_value_type, reading}
use Rattle.json_columns.specs.Gathered.{all_have_reading}
use Rattle.json_columns.specs.Names.{any_names_twice}
use Rattle.json_columns.proofs.ByFields as column
use Rattle.json_columns.proofs.FieldNames.{fixed_list_names, large_list_names, list_names, struct_names}
use Rattle.json_flat.specs.Names.{names_of, names_twice, repeat}
use Rattle.json_line.specs.Lines.{are_line_fields, have_line_readings}
use Rattle.json_line.specs.Types.{has_line_reading}
use Rattle.json_line.proofs.Shapes as line
use Rattle.ndjson.specs.LineColumns.{AreStoredFor, is_readable, IsStoredType}
use Rattle.ndjson.proofs.Readings.{large_list_meaning, list_meaning, sized_list_meaning, struct_meaning, value_meaning}

both : (a b : Bool) → (a && b) ≡ true → (a ≡ true) × (b ≡ true)
both true b e = (refl, e)
both false b e = absurd cc

neither : (a b : Bool) → (a || b) ≡ false → (a ≡ false) × (b ≡ false)
neither true b e = absurd cc
neither false b e = (refl, e)

is_not : (b : Bool) → not b ≡ true → b ≡ false
is_not true e = sym e
is_not false e = refl

pub readable_parts : (t : DataType) → is_readable t ≡ true → (has_reading t ≡ true) × (names_twice t ≡ false)
readable_parts t h =
    let p = both (has_reading t) (not (names_twice t)) h in
    (p.0, is_not (names_twice t) p.1)

readable_as : (t u : DataType) → has_reading t ≡ has_reading u → names_twice t ≡ names_twice u → is_readable t ≡ is_readable u
readable_as t u r n = λ i. (r i && not (n i))

-- ---- names

names_stored : (fs gs : List Field) → AreStoredFor fs gs → names_of gs ≡ names_of fs
names_stored [] [] h = refl
names_stored [] (g ∷ gs) h = absurd h
names_stored (f ∷ fs) [] h = absurd h
names_stored (f ∷ fs) (g ∷ gs) h = λ i. h.0.name i ∷ names_stored fs gs h.1 i

apart : (fs : List Field) → repeat (names_of fs) ≡ false → distinct (names_of fs) ≡ true
apart fs h = is_so (distinct (names_of fs)) h
  where
    is_so : (b : Bool) → not b ≡ false → b ≡ true
    is_so true e = refl
    is_so false e = absurd cc

-- ---- fields

lines_stored : (fs gs : List Field) → AreStoredFor fs gs → all_have_reading fs ≡ true → any_names_twice fs ≡ false → have_line_readings gs ≡ true
lines_stored [] [] h r n = refl
lines_stored [] (g ∷ gs) h r n = absurd h
lines_stored (f ∷ fs) [] h r n = absurd h
lines_stored (f ∷ fs) (g ∷ gs) h r n =
    let p = both (has_reading f.data_type) (all_have_reading fs) r in
    let q = neither (names_twice f.data_type) (any_names_twice fs) n in
    λ i. (h.0.data_type.readable (λ j. (p.0 j && not (q.0 j))) i && lines_stored fs gs h.1 p.1 q.1 i)

long_stored : (fs gs : List Field) → AreStoredFor fs gs → length gs ≡ length fs
long_stored [] [] h = refl
long_stored [] (g ∷ gs) h = absurd h
long_stored (f ∷ fs) [] h = absurd h
long_stored (f ∷ fs) (g ∷ gs) h = ap suc (long_stored fs gs h.1)

-- the fields of a Struct under which values are read
module _ (fs gs : List Field) (h : AreStoredFor fs gs) (r : is_readable (types.Struct fs) ≡ true) where
  parts : (has_reading (types.Struct fs) ≡ true) × (names_twice (types.Struct fs) ≡ false)
  parts = readable_parts (types.Struct fs) r

  filled : (not (eqb (length fs) 0) ≡ true) × (all_have_reading fs ≡ true)
  filled = both (not (eqb (length fs) 0)) (all_have_reading fs) (sym (column.struct_readable fs) ∙ parts.0)

  once : (repeat (names_of fs) ≡ false) × (any_names_twice fs ≡ false)
  once = neither (repeat (names_of fs)) (any_names_twice fs) (sym (struct_names fs) ∙ parts.1)

  pub stored_readable : are_line_fields gs ≡ true
  stored_readable = λ i. ((ap distinct (names_stored fs gs h) ∙ apart fs once.0) i && lines_stored fs gs h filled.1 once.1 i)

  struct_lines : has_line_reading (types.Struct gs) ≡ true
  struct_lines = line.struct_readable gs ∙ (λ i. (not (eqb (long_stored fs gs h i) 0) && stored_readable i)) ∙ ap (λ b. b && true) filled.0

-- ---- types of a dictionary's values

value_readable : (t : DataType) → is_value_type t ≡ true → has_line_reading t ≡ true
value_readable layout.Null r = absurd (false≢true r)
value_readable layout.Boolean r = absurd (false≢true r)
value_readable layout.Int8 r = refl
value_readable layout.Int16 r = refl
value_readable layout.Int32 r = refl
value_readable layout.Int64 r = refl
value_readable layout.UInt8 r = absurd (false≢true r)
value_readable layout.UInt16 r = absurd (false≢true r)
value_readable layout.UInt32 r = absurd (false≢true r)
value_readable layout.UInt64 r = absurd (false≢true r)
value_readable layout.Float16 r = absurd (false≢true r)
value_readable layout.Float32 r = absurd (false≢true r)
value_readable layout.Float64 r = absurd (false≢true r)
value_readable (layout.Timestamp unit timezone) r = absurd (false≢true r)
value_readable layout.Date32 r = absurd (false≢true r)
value_readable layout.Date64 r = absurd (false≢true r)
value_readable (layout.Time32 unit) r = absurd (false≢true r)
value_readable (layout.Time64 unit) r = absurd (false≢true r)
value_readable (layout.Duration unit) r = absurd (false≢true r)
value_readable (layout.Interval unit) r = absurd (false≢true r)
value_readable layout.Binary r = absurd (false≢true r)
value_readable (layout.FixedSizeBinary size) r = absurd (false≢true r)
value_readable layout.LargeBinary r = absurd (false≢true r)
value_readable layout.Utf8 r = refl
value_readable layout.LargeUtf8 r = refl
value_readable (layout.List' shape item) r = absurd (false≢true r)
value_readable (layout.FixedSizeList' shape item size) r = absurd (false≢true r)
value_readable (layout.LargeList' shape item) r = absurd (false≢true r)
value_readable (layout.Struct' shape fields) r = absurd (false≢true r)
value_readable (layout.Map' shape entries is_sorted) r = absurd (false≢true r)
value_readable (layout.Union' shape fields ids mode) r = absurd (false≢true r)
value_readable (layout.Dictionary' key shape value is_sorted) r = absurd (false≢true r)
value_readable (layout.Decimal precision scale) r = absurd (false≢true r)
value_readable (layout.Decimal256 precision scale) r = absurd (false≢true r)
value_readable (layout.Extension' name shape inner metadata) r = absurd (false≢true r)

-- ---- types

module _ (t : DataType) where
  pub list_stored : (f g stored : Field) → t ≡ types.List f → g ≡ f → IsStoredType g.data_type stored.data_type → IsStoredType t (types.List stored)
  list_stored f g stored e s h = record {
    meaning = list_meaning t f g stored e s h.meaning;
    readable =
        λ r. line.list_readable stored
        ∙ h.readable (ap (λ (x : Field). is_readable x.data_type) s ∙ sym (readable_as t f.data_type (ap has_reading e ∙ column.list_readable f) (ap names_twice e ∙ list_names f)) ∙ r);
  }

  pub large_list_stored : (f g stored : Field) → t ≡ types.LargeList f → g ≡ f → IsStoredType g.data_type stored.data_type → IsStoredType t (types.LargeList stored)
  large_list_stored f g stored e s h = record {
    meaning = large_list_meaning t f g stored e s h.meaning;
    readable =
        λ r. line.large_list_readable stored
        ∙ h.readable (ap (λ (x : Field). is_readable x.data_type) s ∙ sym (readable_as t f.data_type (ap has_reading e ∙ column.large_list_readable f) (ap names_twice e ∙ large_list_names f)) ∙ r);
  }

  pub sized_list_stored : (f g stored : Field) (n : ℕ) → t ≡ types.FixedSizeList f n → g ≡ f → IsStoredType g.data_type stored.data_type → IsStoredType t (types.FixedSizeList stored n)
  sized_list_stored f g stored n e s h = record { meaning = sized_list_meaning t f g stored n e s h.meaning; readable = readable_is }
    where
      readable_is : is_readable t ≡ true → has_line_reading (types.FixedSizeList stored n) ≡ true
      readable_is r =
          let p = readable_parts t r in
          let q = both (not (eqb n 0)) (has_reading f.data_type) (sym (ap has_reading e ∙ column.sized_readable f n) ∙ p.0) in
          let names : names_twice f.data_type ≡ false = sym (ap names_twice e ∙ fixed_list_names f n) ∙ p.1 in
          let item : is_readable f.data_type ≡ true = λ i. (q.1 i && not (names i)) in
          line.sized_readable stored n ∙ (λ i. (q.0 i && h.readable (ap (λ (x : Field). is_readable x.data_type) s ∙ item) i))

  pub struct_stored : (fs gs stored : List Field) → t ≡ types.Struct fs → gs ≡ fs → AreStoredFor gs stored → IsStoredType t (types.Struct stored)
  struct_stored fs gs stored e s h = record {
    meaning = struct_meaning t fs gs stored e s h;
    readable = λ r. struct_lines gs stored h (ap (λ (xs : List Field). is_readable (types.Struct xs)) s ∙ sym (ap is_readable e) ∙ r);
  }

  pub value_stored : (key : IntegerType) (v w stored : DataType) (sorted : Bool) → t ≡ types.Dictionary key v sorted → w ≡ v → stored ≡ w → IsStoredType t stored
  value_stored key v w stored sorted e s c = record {
    meaning = ap reading c ∙ sym (value_meaning t key v w sorted e s);
    readable =
        λ r. ap has_line_reading (c ∙ s) ∙ value_readable v (sym (ap has_reading e ∙ column.dictionary_readable key v sorted) ∙ (readable_parts t r).0);
  }
