-- Whether types pair with schemas, in terms of the lists of members and of fields that code sees.
use Rattle.std.proofs.Common.{◌≡◌, ◌↔◌, ◌∙◌, List, Bool, IsTrue, sym, ap}
use Rattle.arrow_core.specs.declared.types.Field.{Field}
use Rattle.arrow_core.specs.declared.types.DataType.{DataType, List as ListType, LargeList, Struct}
use Rattle.avro_schema.specs.declared.schema.AvroField.{AvroField}
use Rattle.avro_schema.specs.declared.schema.Record.{Record as TheRecord, out-Record}
use Rattle.avro_schema.specs.declared.schema.Schema.{Schema, Array, Union, Record}
use Rattle.avro_schema.proofs.ByLists.{both_ways}
use Rattle.avro_types.proofs.Parts.{follow}
use Rattle.avro_encode.specs.Listed.{PairsColumns, PairsListOf, PairsMemberTypeOf, PairsStructOf}
use Rattle.avro_encode.specs.PairTypes.{PairsType}
use Rattle.avro_encode.proofs.TypesByLists.{array_type_is, large_list_is, list_is, record_type_is, struct_is, union_type_is}

-- a test of A is one of B, where they are the same
told : {A B : Type 0} (b : Bool) → A ≡ B → IsTrue b ↔ B → IsTrue b ↔ A
told b e h = follow b (both_ways (sym e)) h

module _ (s : Schema) (b : Bool) (t : DataType) where
  pub of_array : (item i : Schema) → s ≡ Array item → i ≡ item → IsTrue b ↔ PairsListOf i t → IsTrue b ↔ PairsType s t
  of_array item i e x h = told b (ap (λ z. PairsType z t) e ∙ array_type_is item t ∙ ap (λ z. PairsListOf z t) (sym x)) h

  pub of_union : (members ms : List Schema) → s ≡ Union members → ms ≡ members → IsTrue b ↔ PairsMemberTypeOf ms t → IsTrue b ↔ PairsType s t
  of_union members ms e x h = told b (ap (λ z. PairsType z t) e ∙ union_type_is members t ∙ ap (λ (zs : List Schema). PairsMemberTypeOf zs t) (sym x)) h

  pub of_record : (r : TheRecord) (avros : List AvroField) → s ≡ Record r → avros ≡ (out-Record r).fields → IsTrue b ↔ PairsStructOf avros t → IsTrue b ↔ PairsType s t
  of_record r avros e x h = told b (ap (λ z. PairsType z t) e ∙ record_type_is r t ∙ ap (λ (zs : List AvroField). PairsStructOf zs t) (sym x)) h

module _ (b : Bool) (t : DataType) where
  pub of_struct : (avros : List AvroField) (fs xs : List Field) → t ≡ Struct fs → xs ≡ fs → IsTrue b ↔ PairsColumns avros xs → IsTrue b ↔ PairsStructOf avros t
  of_struct avros fs xs e x h = told b (ap (PairsStructOf avros) e ∙ struct_is avros fs ∙ ap (PairsColumns avros) (sym x)) h

  pub of_list : (item : Schema) (f x : Field) → t ≡ ListType f → x ≡ f → IsTrue b ↔ PairsType item x.data_type → IsTrue b ↔ PairsListOf item t
  of_list item f x e q h = told b (ap (PairsListOf item) e ∙ list_is item f ∙ ap (λ (z : Field). PairsType item z.data_type) (sym q)) h

  pub of_large_list : (item : Schema) (f x : Field) → t ≡ LargeList f → x ≡ f → IsTrue b ↔ PairsType item x.data_type → IsTrue b ↔ PairsListOf item t
  of_large_list item f x e q h = told b (ap (PairsListOf item) e ∙ large_list_is item f ∙ ap (λ (z : Field). PairsType item z.data_type) (sym q)) h
