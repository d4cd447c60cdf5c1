-- The definitions at lists and structs, in terms of the fields that code sees.
use Rattle.std.proofs.Common.{◌≡◌, ◌∙◌, ℕ, suc, ◌+◌, Bool, true, false, not, ◌&&◌, eqb, List, [], ◌∷◌, length, Option, Some, None, refl, sym, ap, arith}
use Rattle.std.proofs.lemmas.Bool.Decides.{nat_tests}
use Rattle.arrow_core.specs.declared.types.Field.{Field}
use Rattle.arrow_core.specs.declared.types.DataType.{DataType}
use Rattle.arrow_core.specs.declared.types.DataType as data_type
use Rattle.arrow_core.specs.declared.types.DataType.TheVariants as types
use Rattle.arrow_core.specs.declared.types.DataType.TheBlock.{shape-the_row-Field-0, hidden-the_row-Field-0, shape-the_row-Field-1, hidden-the_row-Field-1}
use Rattle.avro_schema.specs.declared.schema.Schema.{Record}
use Rattle.avro_schema.specs.AndThen.{◌>>=◌}
use Rattle.avro_types.specs.Listed.{HasNoFields, array_schema, can_serialize_all, can_serialize_struct, struct_schema, structs_in_all}
use Rattle.avro_types.specs.Schemas.{can_serialize, can_serialize_row, columns_fields, flat_schema, has_field, optional, plain_field, plain_record, record_name, row_schemas, schema_of, structs_in, structs_in_fields}

bind_assoc : {A B C : Type 0} (o : Option A) (f : A → Option B) (g : B → Option C) → ((o >>= f) >>= g) ≡ (o >>= λ x. f x >>= g)
bind_assoc None f g = refl
bind_assoc (Some x) f g = refl

-- ---- types without types in them

pub flat_is : (b : Bool) (k : ℕ) (t : DataType) → HasNoFields t → schema_of b k t ≡ flat_schema t
flat_is b k (data_type.List' shape item) h = absurd h
flat_is b k (data_type.LargeList' shape item) h = absurd h
flat_is b k (data_type.Struct' shape fields) h = absurd h
flat_is b k _ h = refl

-- ---- lists

pub list_schema : (b : Bool) (k : ℕ) (f : Field) → schema_of b k (types.List f) ≡ array_schema b k f
unfolding shape-the_row-Field-0 hidden-the_row-Field-0 denote.Hole.Carrier.hidden
list_schema b k f = refl

pub large_list_schema : (b : Bool) (k : ℕ) (f : Field) → schema_of b k (types.LargeList f) ≡ array_schema b k f
unfolding shape-the_row-Field-0 hidden-the_row-Field-0 denote.Hole.Carrier.hidden
large_list_schema b k f = refl

add_nothing : (n : ℕ) → n + 0 ≡ n
add_nothing n = omega arith

pub list_structs : (f : Field) → structs_in (types.List f) ≡ structs_in f.data_type
unfolding shape-the_row-Field-0 hidden-the_row-Field-0 denote.Hole.Carrier.hidden
list_structs f = add_nothing (structs_in f.data_type)

pub large_list_structs : (f : Field) → structs_in (types.LargeList f) ≡ structs_in f.data_type
unfolding shape-the_row-Field-0 hidden-the_row-Field-0 denote.Hole.Carrier.hidden
large_list_structs f = add_nothing (structs_in f.data_type)

and_true : (b : Bool) → (b && true) ≡ b
and_true true = refl
and_true false = refl

pub list_serializable : (f : Field) → can_serialize (types.List f) ≡ can_serialize f.data_type
unfolding shape-the_row-Field-0 hidden-the_row-Field-0 denote.Hole.Carrier.hidden
list_serializable f = and_true (can_serialize f.data_type)

pub large_list_serializable : (f : Field) → can_serialize (types.LargeList f) ≡ can_serialize f.data_type
unfolding shape-the_row-Field-0 hidden-the_row-Field-0 denote.Hole.Carrier.hidden
large_list_serializable f = and_true (can_serialize f.data_type)

-- ---- structs

row_structs : (fs : List Field) → structs_in_fields (hidden-the_row-Field-1 fs) ≡ structs_in_all fs
unfolding shape-the_row-Field-1 hidden-the_row-Field-1 denote.Hole.Carrier.hidden
row_structs [] = refl
row_structs (f ∷ fs) = ap (λ n. structs_in f.data_type + n) (row_structs fs)

pub struct_structs : (fs : List Field) → structs_in (types.Struct fs) ≡ 1 + structs_in_all fs
unfolding shape-the_row-Field-1 hidden-the_row-Field-1 denote.Hole.Carrier.hidden
struct_structs fs = ap (λ n. 1 + n) (row_structs fs)

row_columns : (b : Bool) (k : ℕ) (fs : List Field) → row_schemas b k (hidden-the_row-Field-1 fs) ≡ columns_fields b k fs
unfolding shape-the_row-Field-1 hidden-the_row-Field-1 denote.Hole.Carrier.hidden
row_columns b k [] = refl
row_columns b k (f ∷ fs) =
    (λ i. (schema_of b k f.data_type >>= λ s. row_columns b (k + structs_in f.data_type) fs i >>= λ more. Some (plain_field f.name (optional b f.is_nullable s) ∷ more)))
    ∙ sym (bind_assoc (schema_of b k f.data_type) (λ s. Some (optional b f.is_nullable s)) (λ s. columns_fields b (k + structs_in f.data_type) fs >>= λ more. Some (plain_field f.name s ∷ more)))

pub struct_schema_is : (b : Bool) (k : ℕ) (fs : List Field) → schema_of b k (types.Struct fs) ≡ struct_schema b k fs
unfolding shape-the_row-Field-1 hidden-the_row-Field-1 denote.Hole.Carrier.hidden
struct_schema_is b k fs = λ i. (row_columns b (k + 1) fs i >>= λ more. Some (Record (plain_record (record_name (k + 1)) more)))

row_serializable : (fs : List Field) → can_serialize_row (hidden-the_row-Field-1 fs) ≡ can_serialize_all fs
unfolding shape-the_row-Field-1 hidden-the_row-Field-1 denote.Hole.Carrier.hidden
row_serializable [] = refl
row_serializable (f ∷ fs) = ap (λ z. can_serialize f.data_type && z) (row_serializable fs)

row_filled : (fs : List Field) → has_field (hidden-the_row-Field-1 fs) ≡ not (eqb (length fs) 0)
unfolding shape-the_row-Field-1 hidden-the_row-Field-1 denote.Hole.Carrier.hidden
row_filled [] = refl
row_filled (f ∷ fs) = some (length fs)
  where
    some : (n : ℕ) → true ≡ not (eqb (suc n) 0)
    some n = grind (arith, nat_tests)

pub struct_serializable : (fs : List Field) → can_serialize (types.Struct fs) ≡ can_serialize_struct fs
unfolding shape-the_row-Field-1 hidden-the_row-Field-1 denote.Hole.Carrier.hidden
struct_serializable fs = λ i. (row_filled fs i && row_serializable fs i)
