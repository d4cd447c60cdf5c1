-- Schemas of which nothing is an enum.
use Rattle.std.proofs.Common.{◌≡◌, Bool, List, All, subst, sym}
use Rattle.std.specs.Prelude.{IsTrue}
use Rattle.avro_schema.specs.declared.schema.AvroField.{AvroField}
use Rattle.avro_schema.specs.declared.schema.Record.{Record as TheRecord, out-Record}
use Rattle.avro_schema.specs.declared.schema.Schema.{Schema, Array, Union, Record}
use Rattle.avro_schema.specs.ValidBlock.{EnumsFit}
use Rattle.avro_schema.proofs.TypeLemmas.{enum_composites}

module _ (s : Schema) (b : Bool) where
  pub known_array : (item i : Schema) → s ≡ Array item → i ≡ item → (IsTrue b → EnumsFit i) → IsTrue b → EnumsFit s
  known_array item i e x h t = subst EnumsFit (sym e) ((enum_composites.array item).1 (subst EnumsFit x (h t)))

  pub known_union : (members ms : List Schema) → s ≡ Union members → ms ≡ members → (IsTrue b → All EnumsFit ms) → IsTrue b → EnumsFit s
  known_union members ms e x h t = subst EnumsFit (sym e) ((enum_composites.union members).1 (subst (All EnumsFit) x (h t)))

  pub known_record : (r : TheRecord) (fs : List AvroField) → s ≡ Record r → fs ≡ (out-Record r).fields → (IsTrue b → All (λ a. EnumsFit a.schema) fs) → IsTrue b → EnumsFit s
  known_record r fs e x h t = subst EnumsFit (sym e) ((enum_composites.fields r).1 (subst (All (λ a. EnumsFit a.schema)) x (h t)))
