-- Lists and structs of arrays, and schemas that pair with their types.
use Rattle.std.proofs.Common.{◌≡◌, ◌∙◌, ℕ, ◌<◌, Bool, List, length, map, IsTrue, sym, ap, subst}
use Rattle.std.specs.List.{list_any}
use Rattle.arrow_core.specs.declared.slot.Slot.{Slot}
use Rattle.arrow_core.specs.declared.slot.Slot.TheVariants as slot
use Rattle.arrow_core.specs.declared.types.DataType.{DataType}
use Rattle.arrow_array.specs.declared.array.Array.{Array as AnArray}
use Rattle.arrow_array.specs.Arrays.{array_slots}
use Rattle.arrow_array.specs.Slots.{is_held, slot_at}
use Rattle.arrow_array.specs.Structs.{record_at}
use Rattle.avro_schema.specs.declared.schema.AvroField.{AvroField}
use Rattle.avro_schema.specs.declared.schema.Record.{Record as TheRecord, out-Record}
use Rattle.avro_schema.specs.declared.schema.Schema.{Schema, Array, Record}
use Rattle.avro_encode.specs.Listed.{PairsListOf, PairsStructOf, slots_across}
use Rattle.avro_encode.specs.PairTypes.{PairsType}
use Rattle.avro_encode.specs.Plain.{parts_of}
use Rattle.avro_encode.proofs.ByLists.{moved}
use Rattle.avro_encode.proofs.PlainLaw.{parts_list, parts_struct}
use Rattle.avro_encode.proofs.TypesByLists.{array_type_is, record_type_is}

pub list_types : (s item given : Schema) (t : DataType) → s ≡ Array item → given ≡ item → PairsType s t → PairsListOf given t
list_types s item given t e same h = subst (λ z. PairsListOf z t) (sym same) (moved (array_type_is item t) (subst (λ z. PairsType z t) e h))

pub struct_types : (s : Schema) (r : TheRecord) (given : List AvroField) (t : DataType) → s ≡ Record r → given ≡ (out-Record r).fields → PairsType s t → PairsStructOf given t
struct_types s r given t e same h = subst (λ (fs : List AvroField). PairsStructOf fs t) (sym same) (moved (record_type_is r t) (subst (λ z. PairsType z t) e h))

pub list_parts : (p : Slot → Bool) (array : AnArray) (slots : List Slot) (i : ℕ) (ps : List Slot) → array_slots array ≡ slots → IsTrue (is_held (slot_at (array_slots array) i)) → (IsTrue (is_held (slot_at slots i)) → slot_at slots i ≡ slot.List ps)
    → list_any p ps ≡ list_any p (parts_of (slot_at (array_slots array) i))
list_parts p array slots i ps e held given =
    let here : slot_at (array_slots array) i ≡ slot_at slots i = ap (λ (z : List Slot). slot_at z i) e in
    ap (list_any p) (sym (ap parts_of (here ∙ given (sym (ap is_held here) ∙ held)) ∙ parts_list ps))

pub struct_parts : (array : AnArray) (slots : List Slot) (i : ℕ) (children : List AnArray) → array_slots array ≡ slots → IsTrue (is_held (slot_at (array_slots array) i)) → ((k : ℕ) → k < length slots → IsTrue (is_held (slot_at slots k)) → slot_at slots k ≡ record_at (map array_slots children) k)
    → i < length slots → slots_across children i ≡ parts_of (slot_at (array_slots array) i)
struct_parts array slots i children e held given l =
    let here : slot_at (array_slots array) i ≡ slot_at slots i = ap (λ (z : List Slot). slot_at z i) e in
    sym (ap parts_of (here ∙ given i l (sym (ap is_held here) ∙ held)) ∙ parts_struct (slots_across children i))
