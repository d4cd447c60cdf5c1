-- The record of lines can be read back where names are UTF-8 and no more than 128 brackets are open at once.
use Rattle.std.proofs.Common.{◌≡◌, ℕ, zero, suc, ◌+◌, ◌≤◌, Bool, true, false, List, [], ◌∷◌, refl, ap, arith}
use Rattle.std.specs.Prelude.{max}
use Rattle.arrow_core.specs.declared.types.DataType.{DataType}
use Rattle.arrow_core.specs.declared.types.DataType as data_type
use Rattle.arrow_core.specs.declared.types.DataType.TheVariants as types
use Rattle.arrow_core.specs.declared.types.DataType.TheBlock.{shape-the_row-Field-0, hidden-the_row-Field-0, shape-the_row-Field-1, hidden-the_row-Field-1}
use Rattle.arrow_core.specs.declared.types.Field.{Field}
use Rattle.avro_schema.specs.declared.schema.Schema as schema
use Rattle.avro_types.specs.Listed.{HasNoFields}
use Rattle.avro_types.proofs.ByFields.{large_list_schema, list_schema}
use Rattle.arrow_convert.specs.Brackets.{NamesAreUtf8, RowNamesAreUtf8, TypeNamesAreUtf8, brackets_of, flat_brackets, null_bracket, row_brackets, type_brackets}
use Rattle.arrow_convert.specs.ReadAgain.{ShallowRecordsAreWritable}
use Rattle.arrow_convert.proofs.ByParts.{EachType, each_by_parts}
use Rattle.arrow_convert.proofs.Numbers.{lines_fit}
use Rattle.arrow_convert.proofs.RewrittenWritable.{short_is_writable}
use Rattle.arrow_convert.proofs.WrittenColumns.{AreFieldsIn, ColumnIn, IsWrittenIn, flat_written, listed_written, struct_written, target_written}

-- ---- the definitions at lists and structs, in terms of the fields that code sees

flat_has : (t : DataType) → HasNoFields t → type_brackets t ≡ flat_brackets t
flat_has (data_type.List' shape item) h = absurd h
flat_has (data_type.LargeList' shape item) h = absurd h
flat_has (data_type.Struct' shape fields) h = absurd h
flat_has _ h = refl

list_has : (f : Field) → type_brackets (types.List f) ≡ 1 + max (null_bracket f.is_nullable + type_brackets f.data_type) 0
unfolding shape-the_row-Field-0 hidden-the_row-Field-0 denote.Hole.Carrier.hidden
list_has f = refl

large_has : (f : Field) → type_brackets (types.LargeList f) ≡ 1 + max (null_bracket f.is_nullable + type_brackets f.data_type) 0
unfolding shape-the_row-Field-0 hidden-the_row-Field-0 denote.Hole.Carrier.hidden
large_has f = refl

list_names : (f : Field) → TypeNamesAreUtf8 (types.List f) → TypeNamesAreUtf8 f.data_type
unfolding shape-the_row-Field-0 hidden-the_row-Field-0 denote.Hole.Carrier.hidden
list_names f h = h.0.1

large_names : (f : Field) → TypeNamesAreUtf8 (types.LargeList f) → TypeNamesAreUtf8 f.data_type
unfolding shape-the_row-Field-0 hidden-the_row-Field-0 denote.Hole.Carrier.hidden
large_names f h = h.0.1

row_has : (fs : List Field) → row_brackets (hidden-the_row-Field-1 fs) ≡ brackets_of fs
unfolding shape-the_row-Field-1 hidden-the_row-Field-1 denote.Hole.Carrier.hidden
row_has [] = refl
row_has (f ∷ fs) = ap (λ n. max (null_bracket f.is_nullable + type_brackets f.data_type) n) (row_has fs)

struct_has : (fs : List Field) → type_brackets (types.Struct fs) ≡ 3 + brackets_of fs
unfolding shape-the_row-Field-1 hidden-the_row-Field-1 denote.Hole.Carrier.hidden
struct_has fs = ap (λ n. 3 + n) (row_has fs)

row_names : (fs : List Field) → RowNamesAreUtf8 (hidden-the_row-Field-1 fs) → NamesAreUtf8 fs
unfolding shape-the_row-Field-1 hidden-the_row-Field-1 denote.Hole.Carrier.hidden
row_names [] h = tt
row_names (f ∷ fs) h = (h.0, row_names fs h.1)

struct_names : (fs : List Field) → TypeNamesAreUtf8 (types.Struct fs) → NamesAreUtf8 fs
unfolding shape-the_row-Field-1 hidden-the_row-Field-1 denote.Hole.Carrier.hidden
struct_names fs h = row_names fs h

-- ---- every type

-- it is written in as many brackets as it has, and in more
abbrev IsWritten : DataType → Type 0
IsWritten t = TypeNamesAreUtf8 t → (d : ℕ) → type_brackets t ≤ d → IsWrittenIn d t

column_within : (f : Field) → IsWritten f.data_type → TypeNamesAreUtf8 f.data_type → (d : ℕ) → null_bracket f.is_nullable + type_brackets f.data_type ≤ d → ColumnIn f.is_nullable d f.data_type
column_within f one names d l = from f.is_nullable d l
  where
    from : (null : Bool) (m : ℕ) → null_bracket null + type_brackets f.data_type ≤ m → ColumnIn null m f.data_type
    from false m l = one names m (omega (arith, l))
    from true zero l = absurd (omega (arith, l))
    from true (suc m) l = one names m (omega (arith, l))

list_written : (f : Field) → IsWritten f.data_type → IsWritten (types.List f)
list_written f one names zero l = absurd (omega (arith, list_has f, l))
list_written f one names (suc d) l = listed_written d (types.List f) f (λ k. list_schema true k f) (column_within f one (list_names f names) d (omega (arith, list_has f, l)))

large_written : (f : Field) → IsWritten f.data_type → IsWritten (types.LargeList f)
large_written f one names zero l = absurd (omega (arith, large_has f, l))
large_written f one names (suc d) l = listed_written d (types.LargeList f) f (λ k. large_list_schema true k f) (column_within f one (large_names f names) d (omega (arith, large_has f, l)))

fields_within : (m : ℕ) (fs : List Field) → EachType IsWritten fs → NamesAreUtf8 fs → brackets_of fs ≤ m → AreFieldsIn (suc m) fs
fields_within m [] all names l = tt
fields_within m (f ∷ fs) all names l = ((names.0.0, column_within f all.0 names.0.1 m (omega (arith, l))), fields_within m fs all.1 names.1 (omega (arith, l)))

record_written : (fs : List Field) → EachType IsWritten fs → IsWritten (types.Struct fs)
record_written fs all names zero l = absurd (omega (arith, struct_has fs, l))
record_written fs all names (suc zero) l = absurd (omega (arith, struct_has fs, l))
record_written fs all names (suc (suc zero)) l = absurd (omega (arith, struct_has fs, l))
record_written fs all names (suc (suc (suc m))) l = struct_written (suc m) fs (fields_within m fs all (struct_names fs names) (omega (arith, struct_has fs, l)))

each_written : (fs : List Field) → EachType IsWritten fs
each_written = each_by_parts IsWritten (λ t none names d l. flat_written d t none (omega (arith, flat_has t none, l))) list_written large_written record_written

pub shallow_records_are_writable : ShallowRecordsAreWritable
shallow_records_are_writable fields name target h u names few =
    let all = fields_within 125 fields (each_written fields) names (omega (arith, few)) in
    short_is_writable (schema.Record target) (lines_fit fields name target h) (target_written 126 fields name h.nameless target h.recorded h.named u all)
