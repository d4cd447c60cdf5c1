-- What is made of plans of the parts: lists, structs and unions of null and another schema.
use Rattle.std.proofs.Common.{◌≡◌, ◌∙◌, inl, inr, ℕ, suc, pos, ◌+◌, ◌<◌, ◌^◌, Bool, true, false, cond, List, [], ◌∷◌, ◌++◌, length, map, flat_map, get_or, take, Vec, Global, refl, sym, ap, subst, arith}
use Rattle.std.specs.Global.{Box}
use Rattle.std.specs.List.{AllByRecursion}
use Rattle.std.specs.Prelude.{Option, Some, None, IfSome}
use Rattle.std.proofs.lemmas.List.{take_more}
use Rattle.arrow_core.specs.declared.slot.Slot.{Slot}
use Rattle.arrow_core.specs.declared.slot.Slot.TheVariants as slot
use Rattle.arrow_core.specs.declared.types.DataType.{DataType}
use Rattle.arrow_core.specs.declared.types.DataType.TheVariants as types
use Rattle.arrow_core.specs.declared.types.DataType.TheBlock.{shape-the_row-Field-0, hidden-the_row-Field-0, shape-the_row-Field-1, hidden-the_row-Field-1}
use Rattle.arrow_core.specs.declared.types.Field.{Field}
use Rattle.avro_container.specs.Shortest.{shortest}
use Rattle.avro_encode.proofs.ByLists.{pairs_array_back, pairs_record_back, pairs_union_back, plain_array, plain_record_is, plain_union_is}
use Rattle.avro_encode.proofs.Groups.{one_group}
use Rattle.avro_encode.proofs.PlainLaw.{parts_list, parts_struct}
use Rattle.avro_encode.specs.Listed.{plain_fields_of, plain_union_of, PairsFieldsOf}
use Rattle.avro_encode.specs.Pairs.{Pairs}
use Rattle.avro_encode.specs.Plain.{one_block, plain}
use Rattle.avro_schema.specs.Carried.{IsNoUnion}
use Rattle.avro_schema.specs.declared.schema.AvroField.{AvroField}
use Rattle.avro_schema.specs.declared.schema.Record.{Record as TheRecord, out-Record}
use Rattle.avro_schema.specs.declared.schema.Schema.{Schema, Array, Null, Record, Union}
use Rattle.json_flat.specs.Columns.{means}
use Rattle.json_flat.specs.Meaning.{Layer, Meaning, slot_of}
use Rattle.json_flat.specs.Reading.{all_slots, beside, list_in, made_of, member_meanings, reading, struct_in, together}
use Rattle.json_lend.specs.Fields.{value_named, values_of}
use Rattle.json_tree.specs.Tree.{Json, array, null, object}
use Rattle.json_tree.specs.declared.value.Value.{out-Value}
use Rattle.json_tree.specs.declared.value.Value.TheVariants as variant
use Rattle.line_encode.specs.declared.plan.Plan.{Plan, List as ListPlan, Record as RecordPlan}
use Rattle.json_flat.specs.Names.{names_of}
use Rattle.line_encode.specs.Makes.{AreNamed, ArePlansOf, Encodes, EncodesHeld, IsHeldPlanOf, IsListPlanOf, IsPlanOf, IsReadable, IsRecordPlanOf, IsStructPlanOf}
use Rattle.line_encode.specs.Plans.{block, OrNull, Writes, WritesAll, WritesFields, WritesHeld, WritesList, WritesMembers}
use Rattle.line_encode.proofs.Forms.{record_held}
use Rattle.line_encode.proofs.Readable.{large_list_readable, list_readable, struct_readable}

-- ---- any plan

pub if_some : {A : Type 0} (r : Option A) (P Q : A → Type 0) → ((x : A) → P x → Q x) → IfSome r P → IfSome r Q
if_some None P Q k h = tt
if_some (Some x) P Q k h = k x h

-- a slot that isn't null
held_encoded : (t : DataType) (s : Schema) (v : Json) (bytes : List ℕ) → EncodesHeld t s v bytes → Encodes t s v bytes
held_encoded t s v bytes (x, held, is, pairs, e) = (x, is, pairs, e)

-- where null may not stand
pub required_plan : (t : DataType) (s : Schema) (p : Plan) → IsHeldPlanOf false t s p → IsPlanOf t s p
required_plan t s p h = record {
  readable = h.readable;
  encodes = λ v bytes w. held_encoded t s v bytes (h.encodes v bytes (subst (λ n. OrNull n (WritesHeld p) v bytes) h.may w));
}

null_encoded : (t : DataType) (u : Schema) (v : Json) (bytes : List ℕ) → means (reading t) null ≡ slot_of slot.Null → IsNoUnion u → v ≡ null → bytes ≡ 0 ∷ [] → Encodes t (Union (Null ∷ u ∷ [])) v bytes
null_encoded t u v bytes n single e b = (
  slot.Null,
  ap (means (reading t)) e ∙ n,
  pairs_union_back (Null ∷ u ∷ []) slot.Null (inl (tt, single, inl refl)),
  b ∙ (one_group 9 0 (omega arith) ∙ sym (plain_union_is (Null ∷ u ∷ []) slot.Null)),
)

value_encoded : (t : DataType) (u : Schema) (v : Json) (bytes rest : List ℕ) → IsNoUnion u → bytes ≡ 2 ∷ rest → EncodesHeld t u v rest → Encodes t (Union (Null ∷ u ∷ [])) v bytes
value_encoded t u v bytes rest single b (x, held, is, pairs, e) =
    let union : plain_union_of (Null ∷ u ∷ []) x ≡ shortest (pos 1) ++ plain u x = ap (λ h. cond h (shortest (pos 1) ++ plain u x) (shortest (pos 0))) held in
    let two : 2 ∷ [] ≡ shortest (pos 1) = one_group 9 2 (omega arith) in (
      x,
      is,
      pairs_union_back (Null ∷ u ∷ []) x (inl (tt, single, inr pairs)),
      b ∙ ((λ i. two i ++ e i) ∙ (sym union ∙ sym (plain_union_is (Null ∷ u ∷ []) x))),
    )

-- where it may
nullable_encoded : (t : DataType) (u : Schema) (p : Plan) (v : Json) (bytes : List ℕ) → IsHeldPlanOf true t u p → OrNull true (WritesHeld p) v bytes → Encodes t (Union (Null ∷ u ∷ [])) v bytes
nullable_encoded t u p v bytes h (inl (e, b)) = null_encoded t u v bytes h.null_is h.no_union e b
nullable_encoded t u p v bytes h (inr (rest, b, w)) = value_encoded t u v bytes rest h.no_union b (h.encodes v rest w)

pub two_members : (members : List Schema) (first second : Schema) → length members ≡ 2 → first ≡ get_or members 0 first → second ≡ get_or members 1 second → members ≡ first ∷ second ∷ []
two_members [] first second l f s = absurd (omega (arith, l))
two_members (a ∷ []) first second l f s = absurd (omega (arith, l))
two_members (a ∷ b ∷ []) first second l f s = λ i. sym f i ∷ sym s i ∷ []
two_members (a ∷ b ∷ d ∷ more) first second l f s = absurd (omega (arith, l))

pub nullable_plan : (t : DataType) (s u : Schema) (members : List Schema) (p : Plan) → s ≡ Null → members ≡ s ∷ u ∷ [] → IsHeldPlanOf true t u p → IsPlanOf t (Union members) p
nullable_plan t s u members p e m h = record {
  readable = h.readable;
  encodes = λ v bytes w.
      subst (λ (ms : List Schema). Encodes t (Union ms) v bytes) (sym (m ∙ ap (λ z. z ∷ u ∷ []) e)) (nullable_encoded t u p v bytes h (subst (λ n. OrNull n (WritesHeld p) v bytes) h.may w));
}

-- ---- lists

pub list_plan : (nullable : Bool) (t : DataType) (s : Schema) (item : Box Plan) → IsPlanOf t s item.value → IsListPlanOf nullable t s (ListPlan nullable item)
list_plan nullable t s item h = record { may = refl; readable = h.readable; encodes = λ v bytes w. (w.0, w.1, w.2, w.3, all_encoded (Writes item.value) (Encodes t s) w.0 w.1 h.encodes w.4, w.5) }
  where
    all_encoded : (W V : Json → List ℕ → Type 0) (vs : List Json) (bytes : List ℕ) → ((v : Json) (b : List ℕ) → W v b → V v b) → WritesAll W vs bytes → WritesAll V vs bytes
    all_encoded W V [] bytes k w = w
    all_encoded W V (v ∷ vs) bytes k (first, more, e, a, w) = (first, more, e, k v first a, all_encoded W V vs more k w)

record ItemSlots (t : DataType) (s : Schema) (items : List Json) (bytes : List ℕ) : Type 0 where
  slots : List Slot
  meant : together (map (means (reading t)) items) ≡ all_slots slots
  paired : AllByRecursion (Pairs s) slots
  are : bytes ≡ flat_map (plain s) slots
  many : length slots ≡ length items

item_slots : (t : DataType) (s : Schema) (items : List Json) (bytes : List ℕ) → WritesAll (Encodes t s) items bytes → ItemSlots t s items bytes
item_slots t s [] bytes h = record { slots = []; meant = refl; paired = tt; are = h; many = refl }
item_slots t s (v ∷ items) bytes (first, more, e, (x, is, pairs, b), rest) =
    let r = item_slots t s items more rest in
    record { slots = x ∷ r.slots; meant = (λ i. beside (is i) (r.meant i)); paired = (pairs, r.paired); are = e ∙ (λ i. b i ++ r.are i); many = ap suc r.many }

same_block : (f : Slot → List ℕ) (n : ℕ) (xs : List Slot) (content : List ℕ) → length xs ≡ n → content ≡ flat_map f xs → block n content ≡ one_block f xs
same_block f n [] content l e = ap (λ (k : ℕ). block k content) (sym l)
same_block f n (x ∷ xs) content l e = ap (λ (k : ℕ). block k content) (sym l) ∙ ap (λ (b : List ℕ). shortest (pos (suc (length xs))) ++ (b ++ shortest (pos 0))) e

array_means : (f : Layer → Meaning) (items : List Json) (slots : List Slot) → together (map (means f) items) ≡ all_slots slots → means (list_in (means f)) (array items) ≡ slot_of (slot.List slots)
array_means f items slots e = ap (list_in (means f)) (variant.outs-Array items) ∙ ap (made_of slot.List) e

list_encoded : (r : Layer → Meaning) (t list : DataType) (s : Schema) (v : Json) (bytes : List ℕ) → reading list ≡ list_in (means (reading t)) → WritesList (Encodes t s) v bytes → EncodesHeld list (Array s) v bytes
list_encoded r t list s v bytes is (items, content, e, few, w, b) =
    let i = item_slots t s items content w in
    let x = slot.List i.slots in (
      x,
      refl,
      (λ k. means (is k) (e k)) ∙ array_means (reading t) items i.slots i.meant,
      pairs_array_back s x (i.slots, refl, subst (λ (n : ℕ). n < 2 ^ 63) (sym i.many) few, i.paired),
      b ∙ (same_block (plain s) (length items) i.slots content i.many i.are ∙ (ap (one_block (plain s)) (sym (parts_list i.slots)) ∙ sym (plain_array s x))),
    )

list_reading : (f : Field) → reading (types.List f) ≡ list_in (means (reading f.data_type))
unfolding shape-the_row-Field-0 hidden-the_row-Field-0 denote.Hole.Carrier.hidden
list_reading f = refl

large_list_reading : (f : Field) → reading (types.LargeList f) ≡ list_in (means (reading f.data_type))
unfolding shape-the_row-Field-0 hidden-the_row-Field-0 denote.Hole.Carrier.hidden
large_list_reading f = refl

null_list : (f : Json → Meaning) → means (list_in f) null ≡ slot_of slot.Null
unfolding out-Value denote.Hole.Carrier.out
null_list f = refl

null_struct : (f : List (List ℕ × Json) → List Meaning) → means (struct_in f) null ≡ slot_of slot.Null
unfolding out-Value denote.Hole.Carrier.out
null_struct f = refl

lists_encoded : (nullable : Bool) (t list : DataType) (s : Schema) (p : Plan) → reading list ≡ list_in (means (reading t)) → IsReadable list → IsListPlanOf nullable t s p → IsHeldPlanOf nullable list (Array s) p
lists_encoded nullable t list s p is readable h = record {
  may = h.may;
  readable = readable;
  encodes = λ v bytes w. list_encoded (reading t) t list s v bytes is (h.encodes v bytes w);
  null_is = ap (λ (f : Layer → Meaning). means f null) is ∙ null_list (means (reading t));
  no_union = tt;
}

module _ (nullable : Bool) (list : DataType) (f : Field) (s : Schema) (p : Plan) where
  pub lists_plan : list ≡ types.List f → IsListPlanOf nullable f.data_type s p → IsHeldPlanOf nullable list (Array s) p
  lists_plan e h = lists_encoded nullable f.data_type list s p (ap reading e ∙ list_reading f) (subst IsReadable (sym e) (list_readable f h.readable)) h

  pub large_lists_plan : list ≡ types.LargeList f → IsListPlanOf nullable f.data_type s p → IsHeldPlanOf nullable list (Array s) p
  large_lists_plan e h = lists_encoded nullable f.data_type list s p (ap reading e ∙ large_list_reading f) (subst IsReadable (sym e) (large_list_readable f h.readable)) h

-- ---- structs

abbrev field_meanings : List Field → List (List ℕ × Json) → List Meaning
field_meanings [] members = []
field_meanings (f ∷ fields) members = means (reading f.data_type) (value_named members f.name) ∷ field_meanings fields members

row_meanings : (fields : List Field) (members : List (List ℕ × Json)) → member_meanings (hidden-the_row-Field-1 fields) members ≡ field_meanings fields members
unfolding shape-the_row-Field-1 hidden-the_row-Field-1 denote.Hole.Carrier.hidden
row_meanings [] members = refl
row_meanings (f ∷ fields) members = λ i. means (reading f.data_type) (value_named members f.name) ∷ row_meanings fields members i

struct_reading : (fields : List Field) → reading (types.Struct fields) ≡ struct_in (field_meanings fields)
unfolding shape-the_row-Field-1 hidden-the_row-Field-1 denote.Hole.Carrier.hidden
struct_reading fields = λ i. struct_in (λ members. row_meanings fields members i)

record RowSlots (fields : List Field) (avro_fields : List AvroField) (members : List (List ℕ × Json)) (bytes : List ℕ) : Type 0 where
  slots : List Slot
  meant : together (field_meanings fields members) ≡ all_slots slots
  paired : PairsFieldsOf avro_fields slots
  are : bytes ≡ plain_fields_of avro_fields slots

row_slots : (fields : List Field) (avro_fields : List AvroField) (plans : List Plan) (members : List (List ℕ × Json)) (bytes : List ℕ) → ArePlansOf fields avro_fields plans → WritesFields plans (values_of members (names_of fields)) bytes → RowSlots fields avro_fields members bytes
row_slots [] [] [] members bytes h w = record { slots = []; meant = refl; paired = tt; are = w }
row_slots [] [] (p ∷ plans) members bytes h w = absurd h
row_slots [] (a ∷ avro_fields) plans members bytes h w = absurd h
row_slots (f ∷ fields) [] plans members bytes h w = absurd h
row_slots (f ∷ fields) (a ∷ avro_fields) [] members bytes h w = absurd h
row_slots (f ∷ fields) (a ∷ avro_fields) (p ∷ plans) members bytes h (first, more, e, one, rest) =
    let x = h.0.encodes (value_named members f.name) first one in
    let r = row_slots fields avro_fields plans members more h.1 rest in
    record { slots = x.0 ∷ r.slots; meant = (λ i. beside (x.1 i) (r.meant i)); paired = (x.2, r.paired); are = e ∙ (λ i. x.3 i ++ r.are i) }

object_means : (f : List (List ℕ × Json) → List Meaning) (members : List (List ℕ × Json)) (slots : List Slot) → together (f members) ≡ all_slots slots → means (struct_in f) (object members) ≡ slot_of (slot.Struct slots)
object_means f members slots e = ap (struct_in f) (variant.outs-Object (record { members = members })) ∙ ap (made_of slot.Struct) e

-- a row, by a plan of each field
pub row_encoded : (fields : List Field) (r : TheRecord) (plans : List Plan) (members : List (List ℕ × Json)) (bytes : List ℕ) → ArePlansOf fields (out-Record r).fields plans → WritesMembers (names_of fields) plans members bytes → EncodesHeld (types.Struct fields) (Record r) (object members) bytes
row_encoded fields r plans members bytes h w =
    let s = row_slots fields (out-Record r).fields plans members bytes h w in
    let x = slot.Struct s.slots in (
      x,
      refl,
      ap (λ (f : Layer → Meaning). means f (object members)) (struct_reading fields) ∙ object_means (field_meanings fields) members s.slots s.meant,
      pairs_record_back r x (s.slots, refl, s.paired),
      s.are ∙ (ap (plain_fields_of (out-Record r).fields) (sym (parts_struct s.slots)) ∙ sym (plain_record_is r x)),
    )

pub struct_plan : (nullable : Bool) (fields : List Field) (avro_fields : List AvroField) (names : List (List ℕ)) (plans : Vec Plan Global) → names ≡ names_of fields → AreNamed fields → ArePlansOf fields avro_fields plans.items → IsStructPlanOf nullable fields avro_fields (RecordPlan nullable names plans)
struct_plan nullable fields avro_fields names plans e named h = record {
  may = refl;
  named = named;
  plans = plans.items;
  are = h;
  encodes = λ v bytes w.
      let r = subst (λ (T : Type 0). T) (record_held nullable names plans v bytes) w in
      (r.0, r.1, subst (λ (ns : List (List ℕ)). WritesMembers ns plans.items r.0 bytes) e r.2);
}

pub record_plan : (nullable : Bool) (t : DataType) (s : Schema) (r : TheRecord) (avro_fields : List AvroField) (p : Plan) → s ≡ Record r → avro_fields ≡ (out-Record r).fields → IsRecordPlanOf nullable t avro_fields p → IsHeldPlanOf nullable t s p
record_plan nullable t s r avro_fields p e d (fields, is, h) =
    let are : ArePlansOf fields (out-Record r).fields h.plans = subst (λ (afs : List AvroField). ArePlansOf fields afs h.plans) d h.are in
    subst (λ z. IsHeldPlanOf nullable t z p) (sym e)
    (subst (λ z. IsHeldPlanOf nullable z (Record r) p) (sym is) (record {
      may = h.may;
      readable = struct_readable fields avro_fields h.plans h.named h.are;
      encodes = λ v bytes w.
          let m = h.encodes v bytes w in
          subst (λ z. EncodesHeld (types.Struct fields) (Record r) z bytes) (sym m.1) (row_encoded fields r h.plans m.0 bytes are m.2);
      null_is = ap (λ (f : Layer → Meaning). means f null) (struct_reading fields) ∙ null_struct (field_meanings fields);
      no_union = tt;
    }))

-- ---- plans, one after another

plans_push : (fields : List Field) (avro_fields : List AvroField) (plans : List Plan) (f : Field) (a : AvroField) (p : Plan) → ArePlansOf fields avro_fields plans → IsPlanOf f.data_type a.schema p → ArePlansOf (fields ++ f ∷ []) (avro_fields ++ a ∷ []) (plans ++ p ∷ [])
plans_push [] [] [] f a p h one = (one, tt)
plans_push [] [] (q ∷ plans) f a p h one = absurd h
plans_push [] (b ∷ avro_fields) plans f a p h one = absurd h
plans_push (g ∷ fields) [] plans f a p h one = absurd h
plans_push (g ∷ fields) (b ∷ avro_fields) [] f a p h one = absurd h
plans_push (g ∷ fields) (b ∷ avro_fields) (q ∷ plans) f a p h one = (h.0, plans_push fields avro_fields plans f a p h.1 one)

taken_more : {A : Type 0} (xs : List A) (i : ℕ) (x : A) → i < length xs → x ≡ get_or xs i x → take (i + 1) xs ≡ take i xs ++ x ∷ []
taken_more xs i x lt is = take_more xs i x lt ∙ ap (λ y. take i xs ++ y ∷ []) (sym is)

pub plans_more : (fields : List Field) (avro_fields : List AvroField) (i : ℕ) (f : Field) (a : AvroField) (made after : List Plan) (p : Plan) → i < length fields → i < length avro_fields → f ≡ get_or fields i f → a ≡ get_or avro_fields i a → IsPlanOf (get_or fields i f).data_type (get_or avro_fields i a).schema p
    → after ≡ made ++ p ∷ [] → ArePlansOf (take i fields) (take i avro_fields) made → ArePlansOf (take (i + 1) fields) (take (i + 1) avro_fields) after
plans_more fields avro_fields i f a made after p lt la fis ais one e h =
    let plan : IsPlanOf f.data_type a.schema p = subst (λ (x : Field). IsPlanOf x.data_type a.schema p) (sym fis) (subst (λ (x : AvroField). IsPlanOf (get_or fields i f).data_type x.schema p) (sym ais) one) in
    subst (λ (ps : List Plan). ArePlansOf (take (i + 1) fields) (take (i + 1) avro_fields) ps) (sym e)
    (subst (λ (fs : List Field). ArePlansOf fs (take (i + 1) avro_fields) (made ++ p ∷ [])) (sym (taken_more fields i f lt fis))
    (subst (λ (afs : List AvroField). ArePlansOf (take i fields ++ f ∷ []) afs (made ++ p ∷ [])) (sym (taken_more avro_fields i a la ais)) (plans_push (take i fields) (take i avro_fields) made f a p h plan)))
