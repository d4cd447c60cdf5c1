-- Carried schemas, in terms of the lists of members and of fields that code sees.
use Rattle.std.proofs.Common.{◌≡◌, ◌↔◌, List, Bool, IsTrue, sym, subst}
use Rattle.avro_schema.specs.declared.schema.AvroField.{AvroField}
use Rattle.avro_schema.specs.declared.schema.Record.{Record as TheRecord, out-Record}
use Rattle.avro_schema.specs.declared.schema.Schema.{Schema, Array, Union, Record}
use Rattle.avro_schema.specs.Carried.{Carried}
use Rattle.avro_schema.specs.Listed.{CarriedMembersOf, CarriedFieldsOf}
use Rattle.avro_schema.proofs.ByLists.{carried_array, carried_union, carried_record, both_ways}
use Rattle.avro_types.proofs.Parts.{follow}

module _ (s : Schema) (b : Bool) where
  pub is_array : (item i : Schema) → s ≡ Array item → i ≡ item → IsTrue b ↔ Carried i → IsTrue b ↔ Carried s
  is_array item i e x h =
      let k : Carried item ↔ Carried s = subst (λ (t : Schema). Carried item ↔ Carried t) (sym e) (both_ways (sym (carried_array item))) in
      follow b k (subst (λ (j : Schema). IsTrue b ↔ Carried j) x h)

  pub is_nullable : (members ms : List Schema) → s ≡ Union members → ms ≡ members → IsTrue b ↔ CarriedMembersOf ms → IsTrue b ↔ Carried s
  is_nullable members ms e x h =
      let k : CarriedMembersOf members ↔ Carried s = subst (λ (t : Schema). CarriedMembersOf members ↔ Carried t) (sym e) (both_ways (sym (carried_union members))) in
      follow b k (subst (λ (xs : List Schema). IsTrue b ↔ CarriedMembersOf xs) x h)

  pub is_record : (r : TheRecord) (fs : List AvroField) → s ≡ Record r → fs ≡ (out-Record r).fields → IsTrue b ↔ CarriedFieldsOf fs → IsTrue b ↔ Carried s
  is_record r fs e x h =
      let w = carried_record r in
      let k : CarriedFieldsOf (out-Record r).fields ↔ Carried s = subst (λ (t : Schema). CarriedFieldsOf (out-Record r).fields ↔ Carried t) (sym e) (w.1, w.0) in
      follow b k (subst (λ (xs : List AvroField). IsTrue b ↔ CarriedFieldsOf xs) x h)
