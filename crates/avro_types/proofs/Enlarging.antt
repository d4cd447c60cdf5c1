-- Large forms, in terms of the fields and types that code sees.
use Rattle.std.proofs.Common.{◌≡◌, ◌∙◌, inl, inr, ℕ, ◌+◌, ◌<◌, ℤ, List, [], ◌∷◌, ◌++◌, length, get_or, map, take, Bool, false, true, Option, Some, None, refl, sym, ap}
use Rattle.arrow_core.specs.declared.types.Field.{Field}
use Rattle.arrow_core.specs.declared.types.UnionMode.{UnionMode}
use Rattle.arrow_core.specs.declared.types.DataType.{DataType, Struct', Union', more_of-Field}
use Rattle.arrow_core.specs.declared.types.DataType.TheVariants as types
use Rattle.arrow_core.specs.declared.types.DataType.TheBlock.{shape-the_row-Field-0, hidden-the_row-Field-0, shape-the_row-Field-1, hidden-the_row-Field-1, shape-the_row-DataType-2, hidden-the_row-DataType-2}
use Rattle.std.proofs.lemmas.List.{map-append, take_more}
use Rattle.avro_schema.specs.declared.schema.BytesLogical.{BytesLogical}
use Rattle.avro_schema.specs.declared.schema.BytesLogical.TheVariants as bytes_logical
use Rattle.avro_schema.specs.declared.schema.FixedLogical.{FixedLogical}
use Rattle.avro_schema.specs.declared.schema.FixedLogical.TheVariants as fixed_logical
use Rattle.avro_schema.specs.declared.schema.IntLogical.{IntLogical}
use Rattle.avro_schema.specs.declared.schema.IntLogical.TheVariants as int_logical
use Rattle.avro_schema.specs.declared.schema.LongLogical.{LongLogical}
use Rattle.avro_schema.specs.declared.schema.LongLogical.TheVariants as long_logical
use Rattle.avro_schema.specs.declared.schema.Record.{Record as TheRecord, Record', Row_of-AvroField, end_of-AvroField, more_of-AvroField}
use Rattle.avro_schema.specs.declared.schema.Schema.{Schema, Null, Boolean, Int, Long, Float, Double, Bytes, String, Record, Enum, Array', Map', Union', Fixed, Row_of-Schema, end_of-Schema, more_of-Schema}
use Rattle.avro_schema.specs.Types.{int_type, long_type, fixed_type, IsString, IsBinary, IsListOf, HasBytesType, HasType, HasMemberType, HasItemType, HasRecordType, HasFieldTypes, HasColumnType, Typed}
use Rattle.avro_types.specs.Enlarged.{large_form, enlarged}

pub large_of_list : (f : Field) → large_form (types.List f) ≡ types.LargeList (enlarged f)
unfolding shape-the_row-Field-0 hidden-the_row-Field-0 denote.Hole.Carrier.hidden
large_of_list f = refl

pub large_of_large_list : (f : Field) → large_form (types.LargeList f) ≡ types.LargeList (enlarged f)
unfolding shape-the_row-Field-0 hidden-the_row-Field-0 denote.Hole.Carrier.hidden
large_of_large_list f = refl

pub large_of_fixed_list : (f : Field) (size : ℕ) → large_form (types.FixedSizeList f size) ≡ types.FixedSizeList (enlarged f) size
unfolding shape-the_row-Field-0 hidden-the_row-Field-0 denote.Hole.Carrier.hidden
large_of_fixed_list f size = refl

pub large_of_map : (f : Field) (sorted : Bool) → large_form (types.Map f sorted) ≡ types.Map (enlarged f) sorted
unfolding shape-the_row-Field-0 hidden-the_row-Field-0 denote.Hole.Carrier.hidden
large_of_map f sorted = refl

pub large_of_extension : (name : List ℕ) (t : DataType) (metadata : Option (List ℕ)) → large_form (types.Extension name t metadata) ≡ types.Extension name (large_form t) metadata
unfolding shape-the_row-DataType-2 hidden-the_row-DataType-2 denote.Hole.Carrier.hidden
large_of_extension name t metadata = refl

-- with one more field before the others
abbrev with_field : Field → DataType → DataType
with_field f (Struct' shape row) = Struct' (tt ∷ shape) (more_of-Field f.name f.data_type f.is_nullable f.metadata row)
with_field f (Union' shape row ids mode) = Union' (tt ∷ shape) (more_of-Field f.name f.data_type f.is_nullable f.metadata row) ids mode
with_field f t = t

pub large_of_struct : (fs : List Field) → large_form (types.Struct fs) ≡ types.Struct (map enlarged fs)
unfolding shape-the_row-Field-1 hidden-the_row-Field-1 denote.Hole.Carrier.hidden
large_of_struct [] = refl
large_of_struct (f ∷ fs) = ap (with_field (enlarged f)) (large_of_struct fs)

pub large_of_union : (fs : List Field) (ids : Option (List ℤ)) (mode : UnionMode) → large_form (types.Union fs ids mode) ≡ types.Union (map enlarged fs) ids mode
unfolding shape-the_row-Field-1 hidden-the_row-Field-1 denote.Hole.Carrier.hidden
large_of_union [] ids mode = refl
large_of_union (f ∷ fs) ids mode = ap (with_field (enlarged f)) (large_of_union fs ids mode)

-- ---- one field after another

pub more_large : (fs : List Field) (i : ℕ) (f g : Field) (done now : List Field) → i < length fs → done ≡ map enlarged (take i fs) → f ≡ get_or fs i f → g ≡ enlarged f → now ≡ done ++ g ∷ [] → now ≡ map enlarged (take (i + 1) fs)
more_large fs i f g done now lt so at e n =
    n ∙ ap (λ (xs : List Field). xs ++ g ∷ []) so ∙ ap (λ (x : Field). map enlarged (take i fs) ++ x ∷ []) (e ∙ ap enlarged at)
    ∙ sym (map-append enlarged (take i fs) (get_or fs i f ∷ [])) ∙ ap (map enlarged) (sym (take_more fs i f lt))

-- ---- what an enlarged field fits

int_stays : (logical : Option IntLogical) → large_form (int_type logical) ≡ int_type logical
int_stays None = refl
int_stays (Some int_logical.Date) = refl
int_stays (Some int_logical.Time) = refl

long_stays : (logical : Option LongLogical) → large_form (long_type logical) ≡ long_type logical
long_stays None = refl
long_stays (Some long_logical.Time) = refl
long_stays (Some long_logical.TimestampMillis) = refl
long_stays (Some long_logical.TimestampMicros) = refl
long_stays (Some long_logical.TimestampNanos) = refl
long_stays (Some long_logical.LocalTimestampMillis) = refl
long_stays (Some long_logical.LocalTimestampMicros) = refl
long_stays (Some long_logical.LocalTimestampNanos) = refl

fixed_stays : (size : ℕ) (logical : Option FixedLogical) → large_form (fixed_type size logical) ≡ fixed_type size logical
fixed_stays size None = refl
fixed_stays size (Some (fixed_logical.Decimal precision scale)) = refl
fixed_stays size (Some fixed_logical.Duration) = refl

large_string : (t : DataType) → IsString false t → IsString true (large_form t)
large_string t (inl e) = inr (refl, ap large_form e)
large_string t (inr h) = inr (refl, ap large_form h.1)

large_binary : (t : DataType) → IsBinary false t → IsBinary true (large_form t)
large_binary t (inl e) = inr (refl, ap large_form e)
large_binary t (inr h) = inr (refl, ap large_form h.1)

large_bytes : (logical : Option BytesLogical) (t : DataType) → HasBytesType false logical t → HasBytesType true logical (large_form t)
large_bytes None t h = large_binary t h
large_bytes (Some (bytes_logical.Decimal precision scale)) t h = ap large_form h

large_list : (f : Field) (t : DataType) → IsListOf false f t → IsListOf true (enlarged f) (large_form t)
large_list f t (inl e) = inr (refl, ap large_form e ∙ large_of_list f)
large_list f t (inr h) = inr (refl, ap large_form h.1 ∙ large_of_large_list f)

mutual
  large_type : (s : Schema) (t : DataType) → HasType false s t → HasType true s (large_form t)
  large_type Null t h = ap large_form h
  large_type Boolean t h = ap large_form h
  large_type (Int logical) t h = ap large_form h ∙ int_stays logical
  large_type (Long logical) t h = ap large_form h ∙ long_stays logical
  large_type Float t h = ap large_form h
  large_type Double t h = ap large_form h
  large_type (Bytes logical) t h = large_bytes logical t h
  large_type (String logical) t h = large_string t h
  large_type (Record r) t h = (map enlarged h.0, ap large_form h.1 ∙ large_of_struct h.0, large_record r h.0 h.2)
  large_type (Enum e) t h = ap large_form h
  large_type (Array' shape item) t h = (enlarged h.0, large_list h.0 t h.1, large_item item h.0 h.2)
  large_type (Map' shape value) t h = h
  large_type (Union' shape members) t h = large_member members t h
  large_type (Fixed f) t h = ap large_form h ∙ fixed_stays f.size f.logical

  large_record : (r : TheRecord) (fs : List Field) → HasRecordType false r fs → HasRecordType true r (map enlarged fs)
  large_record (Record' name namespace doc shape fields) fs h = large_row fields fs h

  large_item : {m : _} (row : Row_of-Schema m) (f : Field) → HasItemType false row f → HasItemType true row (enlarged f)
  large_item end_of-Schema f h = h
  large_item (more_of-Schema s rest) f h = (h.0, large_type s f.data_type h.1)

  large_member : {m : _} (row : Row_of-Schema m) (t : DataType) → HasMemberType false row t → HasMemberType true row (large_form t)
  large_member end_of-Schema t h = h
  large_member (more_of-Schema s end_of-Schema) t h = h
  large_member (more_of-Schema s (more_of-Schema u end_of-Schema)) t (inl h) = inl (h.0, large_type u t h.1)
  large_member (more_of-Schema s (more_of-Schema u end_of-Schema)) t (inr h) = inr (large_type s t h.0, h.1)
  large_member (more_of-Schema s (more_of-Schema u (more_of-Schema v rest))) t h = h

  large_row : {m : _} (row : Row_of-AvroField m) (fs : List Field) → HasFieldTypes false row fs → HasFieldTypes true row (map enlarged fs)
  large_row end_of-AvroField [] h = h
  large_row end_of-AvroField (f ∷ fs) h = h
  large_row (more_of-AvroField name doc s rest) [] h = h
  large_row (more_of-AvroField name doc s rest) (f ∷ fs) h = ((h.0.0, large_type s f.data_type h.0.1), large_row rest fs h.1)

-- the large form of a column's field is one, too
pub enlarged_fits : (s : Schema) (f : Field) → Typed s f → HasColumnType true s (enlarged f)
enlarged_fits s f h = (h.0, large_type s f.data_type h.1)
