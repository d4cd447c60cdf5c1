-- The schema of a type is that of its small form.
use Rattle.std.proofs.Common.{◌≡◌, ◌∙◌, ℕ, ◌+◌, Bool, List, [], ◌∷◌, map, Option, Some, refl, sym, ap}
use Rattle.arrow_core.specs.declared.types.DataType.{DataType, LargeUtf8, LargeBinary, List', LargeList', Struct'}
use Rattle.arrow_core.specs.declared.types.DataType.TheBlock.{shape-the_row-Field-0, hidden-the_row-Field-0, shape-the_row-Field-1, hidden-the_row-Field-1}
use Rattle.arrow_core.specs.declared.types.DataType.TheVariants as types
use Rattle.arrow_core.specs.declared.types.Field.{Field}
use Rattle.avro_schema.specs.declared.schema.AvroField.{AvroField}
use Rattle.avro_schema.specs.declared.schema.Schema.{Schema, Array, Record}
use Rattle.avro_schema.specs.AndThen.{◌>>=◌}
use Rattle.avro_schema.specs.Inferred.{item_name}
use Rattle.avro_types.specs.Back.{small, small_field, small_row}
use Rattle.avro_types.specs.Listed.{HasNoFields, array_schema, structs_in_all}
use Rattle.avro_types.specs.Schemas.{column_schema, columns_fields, optional, plain_field, plain_record, record_name, record_of, schema_of, structs_in}
use Rattle.avro_types.proofs.ByFields.{large_list_schema, large_list_structs, list_schema, list_structs, struct_schema_is, struct_structs}
use Rattle.arrow_convert.proofs.ByParts.{EachType, each_by_parts}

-- ---- small forms, by the fields of a type

-- the field of a list's items, in small form
abbrev pub small_item : Field → Field
small_item f = record { name = item_name; data_type = small f.data_type; is_nullable = f.is_nullable; metadata = [] }

pub small_list : (f : Field) → small (types.List f) ≡ types.List (small_item f)
unfolding shape-the_row-Field-0 hidden-the_row-Field-0 denote.Hole.Carrier.hidden
small_list f = refl

pub small_large : (f : Field) → small (types.LargeList f) ≡ types.List (small_item f)
unfolding shape-the_row-Field-0 hidden-the_row-Field-0 denote.Hole.Carrier.hidden
small_large f = refl

small_rows : (fs : List Field) → small_row (hidden-the_row-Field-1 fs) ≡ map small_field fs
unfolding shape-the_row-Field-1 hidden-the_row-Field-1 denote.Hole.Carrier.hidden
small_rows [] = refl
small_rows (f ∷ fs) = ap (λ (gs : List Field). small_field f ∷ gs) (small_rows fs)

pub small_struct : (fs : List Field) → small (types.Struct fs) ≡ types.Struct (map small_field fs)
unfolding shape-the_row-Field-1 hidden-the_row-Field-1 denote.Hole.Carrier.hidden
small_struct fs = ap types.Struct (small_rows fs)

-- ---- schemas

record SameSchema (t : DataType) : Type 0 where
  pub schema : (b : Bool) (k : ℕ) → schema_of b k (small t) ≡ schema_of b k t
  pub structs : structs_in (small t) ≡ structs_in t

flat_same : (t : DataType) → HasNoFields t → SameSchema t
flat_same LargeUtf8 h = record { schema = λ b k. refl; structs = refl }
flat_same LargeBinary h = record { schema = λ b k. refl; structs = refl }
flat_same (List' shape item) h = absurd h
flat_same (LargeList' shape item) h = absurd h
flat_same (Struct' shape fields) h = absurd h
flat_same t h = record { schema = λ b k. refl; structs = refl }

-- a type of lists
listed_same : (t : DataType) (f : Field) → small t ≡ types.List (small_item f) → ((b : Bool) (k : ℕ) → schema_of b k t ≡ array_schema b k f) → structs_in t ≡ structs_in f.data_type → SameSchema f.data_type → SameSchema t
listed_same t f is schema structs p = record {
  schema = λ b k.
      ap (schema_of b k) is ∙ list_schema b k (small_item f)
      ∙ ap (λ (o : Option Schema). ((o >>= λ s. Some (optional b f.is_nullable s)) >>= λ s. Some (Array s))) (p.schema b k) ∙ sym (schema b k);
  structs = ap structs_in is ∙ list_structs (small_item f) ∙ p.structs ∙ sym structs;
}

columns_same : (fs : List Field) → EachType SameSchema fs → (b : Bool) (k : ℕ) → columns_fields b k (map small_field fs) ≡ columns_fields b k fs
columns_same [] h b k = refl
columns_same (f ∷ fs) h b k =
    let more : columns_fields b (k + structs_in (small f.data_type)) (map small_field fs) ≡ columns_fields b (k + structs_in f.data_type) fs =
    ap (λ n. columns_fields b (k + n) (map small_field fs)) h.0.structs ∙ columns_same fs h.1 b (k + structs_in f.data_type) in
    ap (λ (o : Option Schema). ((o >>= λ s. Some (optional b f.is_nullable s)) >>= λ s. columns_fields b (k + structs_in (small f.data_type)) (map small_field fs) >>= λ gs. Some (plain_field f.name s ∷ gs))) (h.0.schema b k)
    ∙ ap (λ (o : Option (List AvroField)). (column_schema b k f >>= λ s. o >>= λ gs. Some (plain_field f.name s ∷ gs))) more

structs_same : (fs : List Field) → EachType SameSchema fs → structs_in_all (map small_field fs) ≡ structs_in_all fs
structs_same [] h = refl
structs_same (f ∷ fs) h = λ i. h.0.structs i + structs_same fs h.1 i

struct_same : (fs : List Field) → EachType SameSchema fs → SameSchema (types.Struct fs)
struct_same fs h = record {
  schema = λ b k.
      ap (schema_of b k) (small_struct fs) ∙ struct_schema_is b k (map small_field fs)
      ∙ ap (λ (o : Option (List AvroField)). (o >>= λ gs. Some (Record (plain_record (record_name (k + 1)) gs)))) (columns_same fs h b (k + 1)) ∙ sym (struct_schema_is b k fs);
  structs = ap structs_in (small_struct fs) ∙ struct_structs (map small_field fs) ∙ ap (λ n. 1 + n) (structs_same fs h) ∙ sym (struct_structs fs);
}

each_same : (fs : List Field) → EachType SameSchema fs
each_same = each_by_parts SameSchema flat_same
    (λ f p. listed_same (types.List f) f (small_list f) (λ b k. list_schema b k f) (list_structs f) p)
    (λ f p. listed_same (types.LargeList f) f (small_large f) (λ b k. large_list_schema b k f) (large_list_structs f) p)
    struct_same

-- columns in small form have the record of the columns
pub record_same : (b : Bool) (fs : List Field) → record_of b (map small_field fs) ≡ record_of b fs
record_same b fs = ap (λ (o : Option (List AvroField)). (o >>= λ gs. Some (plain_record [] gs))) (columns_same fs (each_same fs) b 0)
