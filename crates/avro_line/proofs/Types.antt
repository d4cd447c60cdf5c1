-- The types of arrays, unions and records, and what is known of their items, members and fields.
use Rattle.std.proofs.Common.{◌≡◌, ℕ, Bool, true, false, ◌&&◌, List, [], ◌∷◌, map, drop, Option, Some, None, refl, sym, ap, ◌∙◌, subst}
use Rattle.std.specs.Prelude.{if◌then◌else◌}
use Rattle.std.specs.List.{AllZip}
use Rattle.std.proofs.lemmas.Option.{none-some, same_Some}
use Rattle.arrow_core.specs.declared.types.DataType.{DataType}
use Rattle.arrow_core.specs.declared.types.DataType.TheVariants as types
use Rattle.arrow_core.specs.declared.types.DataType.TheBlock.{shape-the_row-Field-1, hidden-the_row-Field-1}
use Rattle.arrow_core.specs.declared.types.Field.{Field}
use Rattle.arrow_array.specs.Lists.{IsListOf}
use Rattle.avro_schema.specs.declared.schema.AvroField.{AvroField}
use Rattle.avro_schema.specs.declared.schema.Record.{Record as TheRecord, out-Record}
use Rattle.avro_schema.specs.declared.schema.Schema.{Schema, Array, Record}
use Rattle.avro_schema.specs.AndThen.{◌>>=◌}
use Rattle.avro_schema.specs.Encodes.{is_null}
use Rattle.avro_schema.specs.Inferred.{column_field, columns_of, inferred, is_item, item_name}
use Rattle.avro_schema.specs.TypeLaws.{inferred_member_of}
use Rattle.avro_schema.proofs.Basics.{bind_some}
use Rattle.avro_schema.proofs.InferredLemmas.{inferred_composites}
use Rattle.json_text.specs.declared.columns.Column.{Column}
use Rattle.json_text.specs.Columns.{AreFields, AreMembers, AreNamedFrom, AreWithin}
use Rattle.avro_line.specs.Rows.{ArePrepared}

-- ---- arrays

pub array_type : (item : Schema) (t : DataType) → inferred (Array item) ≡ Some t → (u : DataType) × (inferred item ≡ Some u) × IsListOf false t u
array_type item t e =
    let b = bind_some (inferred item) (λ u. Some (types.List (column_field item_name None item u))) t (sym (inferred_composites.array item) ∙ e) in
    (b.0, b.1, (column_field item_name None item b.0, sym (same_Some (types.List (column_field item_name None item b.0)) t b.2), refl))

-- ---- members of unions

chosen : (b : Bool) (o : Option DataType) (t : DataType) → (if b then o else None) ≡ Some t → o ≡ Some t
chosen true o t e = e
chosen false o t e = absurd (none-some t e)

not_first : (a b : Bool) (x y : Option DataType) (t : DataType) → a ≡ false → (if a && b then x else y) ≡ Some t → y ≡ Some t
not_first true b x y t n e = absurd cc
not_first false b x y t n e = e

not_second : (p a b : Bool) (x y : Option DataType) (t : DataType) → b ≡ false → (if p then x else (if a && b then y else None)) ≡ Some t → x ≡ Some t
not_second true a b x y t n e = e
not_second false a true x y t n e = absurd cc
not_second false true false x y t n e = absurd (none-some t e)
not_second false false false x y t n e = absurd (none-some t e)

module _ (m o : Schema) (n : is_null m ≡ false) (t : DataType) where
  pub first_type : inferred_member_of (m ∷ o ∷ []) ≡ Some t → inferred m ≡ Some t
  first_type e =
      chosen (is_item m && is_null o) (inferred m) t (not_first (is_null m) (is_item o) (inferred o) (if is_item m && is_null o then inferred m else None) t n e)

  pub second_type : inferred_member_of (o ∷ m ∷ []) ≡ Some t → inferred m ≡ Some t
  second_type e = not_second (is_null o && is_item m) (is_item o) (is_null m) (inferred m) (inferred o) t n e

-- ---- fields

column_type : (name : List ℕ) (doc : Option (List ℕ)) (s : Schema) (t : DataType) → (column_field name doc s t).data_type ≡ t
column_type name None s t = refl
column_type name (Some doc) s t = refl

abbrev pub HaveTypes : List AvroField → List Field → Type 0
HaveTypes = AllZip (λ a f. inferred a.schema ≡ Some f.data_type)

-- the columns of fields have the types of their schemas
pub columns_typed : (doc : AvroField → Option (List ℕ)) (avro_fields : List AvroField) (fields : List Field) → columns_of doc avro_fields ≡ Some fields → HaveTypes avro_fields fields
columns_typed doc [] fields e = subst (HaveTypes []) (same_Some [] fields e) tt
columns_typed doc (a ∷ avro_fields) fields e =
    let b = bind_some (inferred a.schema) (λ t. columns_of doc avro_fields >>= λ fs. Some (column_field a.name (doc a) a.schema t ∷ fs)) fields e in
    let c = bind_some (columns_of doc avro_fields) (λ fs. Some (column_field a.name (doc a) a.schema b.0 ∷ fs)) fields b.2 in
    let same : column_field a.name (doc a) a.schema b.0 ∷ c.0 ≡ fields = same_Some _ fields c.2 in
    subst (HaveTypes (a ∷ avro_fields)) same (b.1 ∙ ap (λ (t : DataType). Some t) (sym (column_type a.name (doc a) a.schema b.0)), columns_typed doc avro_fields c.0 c.1)

row_named : (b : Bool) (fs : List Field) (cs : List Column) → AreMembers b (hidden-the_row-Field-1 fs) cs → AreNamedFrom b (map (λ f. f.name) fs) (map (λ f. f.data_type) fs) cs
unfolding shape-the_row-Field-1 hidden-the_row-Field-1 denote.Hole.Carrier.hidden
row_named b [] cs h = h
row_named b (f ∷ fs) [] h = h
row_named b (f ∷ fs) (c ∷ cs) h = (h.0, row_named false fs (drop c.within cs) h.1)

struct_fields : (fs : List Field) (cs : List Column) → AreWithin (types.Struct fs) cs → AreFields fs cs
unfolding shape-the_row-Field-1 hidden-the_row-Field-1 denote.Hole.Carrier.hidden
struct_fields fs cs h = row_named true fs cs h

-- the columns within a record's type are those of its fields
pub record_type : (r : TheRecord) (t : DataType) (columns : List Column) → inferred (Record r) ≡ Some t → AreWithin t columns → (fields : List Field) × (t ≡ types.Struct fields) × ArePrepared (out-Record r).fields fields columns
record_type r t columns e w =
    let b = bind_some (columns_of (λ a. a.doc) (out-Record r).fields) (λ fs. Some (types.Struct fs)) t (sym (inferred_composites.fields r) ∙ e) in
    let is : t ≡ types.Struct b.0 = sym (same_Some (types.Struct b.0) t b.2) in
    (b.0, is, record { typed = columns_typed (λ a. a.doc) (out-Record r).fields b.0 b.1; named = struct_fields b.0 columns (subst (λ (u : DataType). AreWithin u columns) is w) })
