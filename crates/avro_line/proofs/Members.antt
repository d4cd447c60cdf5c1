-- Arrays, unions and records that were shown, by the schemas that have them.
use Rattle.std.proofs.Common.{◌≡◌, ℕ, pos, Bool, true, false, List, [], ◌∷◌, ◌++◌, Some, Result, Ok, Err, OnOk, ◌⊎◌, inl, inr, refl, sym, ap, ◌∙◌, subst}
use Rattle.arrow_core.specs.declared.slot.Slot.TheVariants as slot
use Rattle.arrow_core.specs.declared.types.DataType.{DataType}
use Rattle.arrow_core.specs.declared.types.DataType.TheVariants as types
use Rattle.avro_schema.specs.declared.schema.AvroField.{AvroField}
use Rattle.avro_schema.specs.declared.schema.Record.{Record as TheRecord, out-Record}
use Rattle.avro_schema.specs.declared.schema.Schema.{Schema, Array, Union, Record}
use Rattle.avro_schema.specs.Encodes.{IsNull, is_null}
use Rattle.avro_schema.specs.TypeLaws.{inferred_member_of}
use Rattle.avro_schema.proofs.Basics.{null_is, null_told}
use Rattle.avro_schema.proofs.InferredLemmas.{inferred_composites}
use Rattle.avro_reference.specs.Listed.{read_union_of}
use Rattle.avro_reference.specs.Prefix.{Reader, number_at}
use Rattle.avro_reference.specs.Read.{read}
use Rattle.avro_reference.proofs.ByLists.{read_array, read_union, read_fields_are}
use Rattle.arrow_core.specs.declared.slot.Slot.{Slot}
use Rattle.json_text.specs.declared.columns.Column.{Column}
use Rattle.json_text.specs.declared.integers.IntegerForm.{IntegerForm}
use Rattle.json_text.specs.JsonText.{null}
use Rattle.json_text.proofs.Beneath.{list_in_range}
use Rattle.json_text.proofs.ColumnLemmas.{in_list, within_item}
use Rattle.json_text.proofs.Forms.{list_is}
use Rattle.avro_line.specs.Values.{ShowsSlot, ShowsValue, ShowsArray, ShowsRecord, ShowsUnion, TakesMember}
use Rattle.avro_line.proofs.Types.{array_type, first_type, second_type, record_type}

-- the same read otherwise
read_so : (f g : Reader Slot) (t : DataType) (before after old new : List ℕ) → f before ≡ g before → ShowsSlot g t before after old new → ShowsSlot f t before after old new
read_so f g t before after old new e h = record { value = h.value; read = e ∙ h.read; shown = h.shown; dates = h.dates }

-- ---- arrays

pub if_array_value : {X E : Type 0} (r : Result X E) (s item i : Schema) (form : IntegerForm) (columns : List Column) (before after old new : List ℕ) → s ≡ Array item → i ≡ item → OnOk r (ShowsArray i form columns before after old new) → OnOk r (ShowsValue s form columns before after old new)
if_array_value (Err x) s item i form columns before after old new e d h = tt
if_array_value (Ok x) s item i form columns before after old new e d h = subst (λ (z : Schema). ShowsValue z form columns before after old new) (sym e) shows
  where
    shows : ShowsValue (Array item) form columns before after old new
    shows t is f w =
        let a = array_type item t is in
        let l = subst (λ (z : Schema). ShowsArray z form columns before after old new) d h a.0 a.1 (in_list false form t a.0 a.2 f) (within_item false t a.0 columns a.2 w) in
        record {
          value = slot.List l.slots;
          read = ap (λ (g : Reader Slot). g before) (read_array item) ∙ l.read;
          shown = l.shown ∙ ap (λ z. old ++ z) (list_is false t a.0 l.slots a.2);
          dates = sym (list_in_range false t a.0 l.slots a.2) ∙ l.dates;
        }

-- ---- records

pub if_record_value : {X E : Type 0} (r : Result X E) (s : Schema) (d : TheRecord) (fs : List AvroField) (form : IntegerForm) (columns : List Column) (before after old new : List ℕ) → s ≡ Record d → fs ≡ (out-Record d).fields → OnOk r (ShowsRecord fs columns before after old new) → OnOk r (ShowsValue s form columns before after old new)
if_record_value (Err x) s d fs form columns before after old new e x' h = tt
if_record_value (Ok x) s d fs form columns before after old new e x' h = subst (λ (z : Schema). ShowsValue z form columns before after old new) (sym e) shows
  where
    shows : ShowsValue (Record d) form columns before after old new
    shows t is f w =
        let a = record_type d t columns is w in
        let l = subst (λ (z : List AvroField). ShowsRecord z columns before after old new) x' h a.0 a.2 in
        subst (λ (u : DataType). ShowsSlot (read (Record d)) u before after old new) (sym a.1)
        (read_so (read (Record d)) _ (types.Struct a.0) before after old new (ap (λ (g : Reader Slot). g before) (read_fields_are d)) l)

-- ---- unions

pub if_union_value : {X E : Type 0} (r : Result X E) (s : Schema) (members ms : List Schema) (form : IntegerForm) (columns : List Column) (before after old new : List ℕ) → s ≡ Union members → ms ≡ members → OnOk r (ShowsUnion ms form columns before after old new) → OnOk r (ShowsValue s form columns before after old new)
if_union_value (Err x) s members ms form columns before after old new e d h = tt
if_union_value (Ok x) s members ms form columns before after old new e d h = subst (λ (z : Schema). ShowsValue z form columns before after old new) (sym e) shows
  where
    shows : ShowsValue (Union members) form columns before after old new
    shows t is f w =
        let l = subst (λ (z : List Schema). ShowsUnion z form columns before after old new) d h t (sym (inferred_composites.union members) ∙ is) f w in
        read_so (read (Union members)) (read_union_of members) t before after old new (ap (λ (g : Reader Slot). g before) (read_union members)) l

first_null : (m o : Schema) (before after : List ℕ) → number_at before ≡ Some (pos 0, after) → is_null m ≡ true → read_union_of (m ∷ o ∷ []) before ≡ Some (slot.Null, after)
first_null m o before after e n = rw (e, n) refl

second_null : (m o : Schema) (before after : List ℕ) → number_at before ≡ Some (pos 1, after) → is_null m ≡ true → read_union_of (o ∷ m ∷ []) before ≡ Some (slot.Null, after)
second_null m o before after e n = rw (e, n) refl

first_value : (m o : Schema) (before mid : List ℕ) → number_at before ≡ Some (pos 0, mid) → is_null m ≡ false → read_union_of (m ∷ o ∷ []) before ≡ read m mid
first_value m o before mid e n = rw (e, n) refl

second_value : (m o : Schema) (before mid : List ℕ) → number_at before ≡ Some (pos 1, mid) → is_null m ≡ false → read_union_of (o ∷ m ∷ []) before ≡ read m mid
second_value m o before mid e n = rw (e, n) refl

module _ (members : List Schema) (member : Schema) (form : IntegerForm) (columns : List Column) where
  pub null_shown : (before after old new : List ℕ) → TakesMember members before after member → IsNull member → new ≡ old ++ null → ShowsUnion members form columns before after old new
  null_shown before after old new takes h e t is f w = record { value = slot.Null; read = from takes.taken; shown = e; dates = refl }
    where
      n : is_null member ≡ true
      n = null_told member h

      from : ((number_at before ≡ Some (pos 0, after)) × (members ≡ member ∷ takes.other ∷ [])) ⊎ ((number_at before ≡ Some (pos 1, after)) × (members ≡ takes.other ∷ member ∷ [])) → read_union_of members before ≡ Some (slot.Null, after)
      from (inl k) = ap (λ (ms : List Schema). read_union_of ms before) k.1 ∙ first_null member takes.other before after k.0 n
      from (inr k) = ap (λ (ms : List Schema). read_union_of ms before) k.1 ∙ second_null member takes.other before after k.0 n

  is_not : (b : Bool) → is_null member ≡ b → (IsNull member → ⊥) → b ≡ false
  is_not true e h = absurd (h (null_is member e))
  is_not false e h = refl

  member_shown : (before mid after old new : List ℕ) → TakesMember members before mid member → is_null member ≡ false → ShowsValue member form columns mid after old new → ShowsUnion members form columns before after old new
  member_shown before mid after old new takes n h t is f w = from takes.taken
    where
      from : ((number_at before ≡ Some (pos 0, mid)) × (members ≡ member ∷ takes.other ∷ [])) ⊎ ((number_at before ≡ Some (pos 1, mid)) × (members ≡ takes.other ∷ member ∷ [])) → ShowsSlot (read_union_of members) t before after old new
      from (inl k) =
          let x = h t (first_type member takes.other n t (sym (ap inferred_member_of k.1) ∙ is)) f w in
          record { value = x.value; read = ap (λ (ms : List Schema). read_union_of ms before) k.1 ∙ first_value member takes.other before mid k.0 n ∙ x.read; shown = x.shown; dates = x.dates }
      from (inr k) =
          let x = h t (second_type member takes.other n t (sym (ap inferred_member_of k.1) ∙ is)) f w in
          record { value = x.value; read = ap (λ (ms : List Schema). read_union_of ms before) k.1 ∙ second_value member takes.other before mid k.0 n ∙ x.read; shown = x.shown; dates = x.dates }

  pub if_member : {X E : Type 0} (r : Result X E) (before mid after old new : List ℕ) → TakesMember members before mid member → (IsNull member → ⊥) → OnOk r (ShowsValue member form columns mid after old new) → OnOk r (ShowsUnion members form columns before after old new)
  if_member (Ok x) before mid after old new takes n h = member_shown before mid after old new takes (is_not (is_null member) refl n) h
  if_member (Err x) before mid after old new takes n h = tt
