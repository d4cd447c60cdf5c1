-- Slots that have a canonical encoding show no null where a value is required, so lines that are encoded without columns are rows.
use Rattle.std.proofs.Common.{◌≡◌, ◌∙◌, inl, inr, ℕ, Bool, true, false, not, ◌&&◌, ◌||◌, List, [], ◌∷◌, length, Option, Some, None, refl, sym, ap, subst, All}
use Rattle.std.specs.Bool.{OnTrue}
use Rattle.std.specs.List.{AllByRecursion, list_any}
use Rattle.std.specs.Prelude.{if◌then◌else◌, is_ok, IfSome, Result, Ok, Err, OnOk}
use Rattle.std.proofs.lemmas.List.Elements.{All-head, All-tail, All-weaker}
use Rattle.arrow_array.specs.Slots.{is_held}
use Rattle.arrow_core.specs.declared.slot.Slot.{Slot}
use Rattle.arrow_core.specs.declared.types.DataType as types
use Rattle.arrow_core.specs.declared.types.DataType.{DataType}
use Rattle.arrow_core.specs.declared.types.Field.{Field}
use Rattle.avro_container.specs.File.{the_block}
use Rattle.avro_encode.proofs.PlainLaw.{parts_list, parts_struct}
use Rattle.avro_encode.specs.Pairs.{Pairs, PairsBytes, PairsFields, PairsFixed, PairsItem, PairsRecord, PairsUnion}
use Rattle.avro_encode.specs.Plain.{parts_of}
use Rattle.avro_schema.specs.Encodes.{is_null, IsNull}
use Rattle.avro_schema.specs.declared.schema.BytesLogical.{BytesLogical}
use Rattle.avro_schema.specs.declared.schema.BytesLogical.TheVariants as bytes_logical
use Rattle.avro_schema.specs.declared.schema.FixedLogical.{FixedLogical}
use Rattle.avro_schema.specs.declared.schema.FixedLogical.TheVariants as fixed_logical
use Rattle.avro_schema.specs.declared.schema.Record.{Record as TheRecord, Record', Row_of-AvroField, end_of-AvroField, more_of-AvroField}
use Rattle.avro_schema.specs.declared.schema.Schema.{Schema, Null, Boolean, Int, Long, Float, Double, Bytes, String, Record, Enum, Array', Map', Union', Fixed, Row_of-Schema, end_of-Schema, more_of-Schema}
use Rattle.avro_write.specs.declared.flaws.Flaw.TheVariants as flaw
use Rattle.avro_write.specs.Flaws.{fields_show, fixed_flaw, item_shows, member_shows, null_flaw, record_shows, shows}
use Rattle.json_lend.specs.Fields.{IsObject}
use Rattle.json_tree.specs.Meaning.{IsJson}
use Rattle.json_tree.specs.Tree.{Json}
use Rattle.json_tree.specs.declared.value.Value.{out-Value}
use Rattle.json_lend.specs.declared.given_up.GivenUp.{GivenUp}
use Rattle.line_encode.specs.declared.lines.LinePlan.{LinePlan}
use Rattle.line_encode.specs.Lines.{EncodesLines}
use Rattle.line_encode.specs.Makes.{IsLinePlanOf}
use Rattle.ndjson_avro.specs.Rows.{lacks_value}
use Rattle.ndjson_avro.specs.Steps.{EncodesRows, IsPlanFor}
use Rattle.ndjson_avro.specs.Values.{is_object}
use Rattle.ndjson_avro.proofs.Batching.{slots_length, zip_length}

-- ---- nulls

null_is : (s : Schema) → IsNull s → is_null s ≡ true
null_is Null h = refl
null_is _ h = absurd h

no_null_is : (s : Schema) (x : Slot) → Pairs s x → is_null s ≡ false
no_null_is Null x h = absurd h
no_null_is _ x h = refl

and_false : (b : Bool) → (b && false) ≡ false
and_false true = refl
and_false false = refl

bytes_held : (logical : Option BytesLogical) (x : Slot) → PairsBytes logical x → not (is_held x) ≡ false
bytes_held None x h = ap (λ z. not (is_held z)) h.1
bytes_held (Some (bytes_logical.Decimal precision scale)) x h = ap (λ z. not (is_held z)) h.1

fixed_held : (size : ℕ) (logical : Option FixedLogical) (x : Slot) → PairsFixed size logical x → (null_flaw flaw.Null x || fixed_flaw flaw.Null logical x) ≡ false
fixed_held size None x h = ap (λ z. not (is_held z) || false) h.1
fixed_held size (Some fixed_logical.Duration) x h = ap (λ z. not (is_held z) || false) h.3
fixed_held size (Some (fixed_logical.Decimal precision scale)) x h = absurd h

either : (n : Bool) (a b : Bool) (k : Bool) → n ≡ k → (if k then a else b) ≡ false → (if n then a else b) ≡ false
either n a b k e h = ap (λ m. if m then a else b) e ∙ h

mutual
  no_null : (s : Schema) (x : Slot) → Pairs s x → shows flaw.Null s x ≡ false
  no_null Boolean x h = ap (λ z. not (is_held z)) h.1
  no_null (Int logical) x h = ap (λ z. not (is_held z)) h.1
  no_null (Long logical) x h = ap (λ z. not (is_held z)) h.1
  no_null (Bytes logical) x h = bytes_held logical x h
  no_null (String logical) x h = ap (λ z. not (is_held z)) h.1
  no_null (Record r) x h = (λ i. not (is_held (h.1 i)) || record_shows flaw.Null r (parts_of (h.1 i))) ∙ (ap (record_shows flaw.Null r) (parts_struct h.0) ∙ no_record_null r h.0 h.2)
  no_null (Array' shape item) x h = (λ i. not (is_held (h.1 i)) || list_any (item_shows flaw.Null item) (parts_of (h.1 i))) ∙ (ap (list_any (item_shows flaw.Null item)) (parts_list h.0) ∙ no_item_null item h.0 h.3)
  no_null (Union' shape members) x h = no_member_null members x h
  no_null (Fixed f) x h = fixed_held f.size f.logical x h
  no_null Null x h = absurd h
  no_null Float x h = absurd h
  no_null Double x h = absurd h
  no_null (Enum e) x h = absurd h
  no_null (Map' shape value) x h = absurd h

  no_record_null : (r : TheRecord) (xs : List Slot) → PairsRecord r xs → record_shows flaw.Null r xs ≡ false
  no_record_null (Record' name namespace doc shape fields) xs h = no_field_null fields xs h

  no_field_null : {m : _} (fields : Row_of-AvroField m) (xs : List Slot) → PairsFields fields xs → fields_show flaw.Null fields xs ≡ false
  no_field_null end_of-AvroField xs h = refl
  no_field_null (more_of-AvroField name doc s rest) [] h = absurd h
  no_field_null (more_of-AvroField name doc s rest) (x ∷ xs) h = λ i. (no_null s x h.0 i || no_field_null rest xs h.1 i)

  no_item_null : {m : _} (item : Row_of-Schema m) (xs : List Slot) → AllByRecursion (PairsItem item) xs → list_any (item_shows flaw.Null item) xs ≡ false
  no_item_null item [] h = refl
  no_item_null end_of-Schema (x ∷ xs) h = absurd h.0
  no_item_null (more_of-Schema s rest) (x ∷ xs) h = λ i. (no_null s x h.0 i || no_item_null (more_of-Schema s rest) xs h.1 i)

  no_member_null : {m : _} (members : Row_of-Schema m) (x : Slot) → PairsUnion members x → (is_held x && member_shows flaw.Null members x) ≡ false
  no_member_null end_of-Schema x h = absurd h
  no_member_null (more_of-Schema s end_of-Schema) x h = absurd h
  no_member_null (more_of-Schema s (more_of-Schema u end_of-Schema)) x (inl (n, single, inl e)) = ap (λ z. is_held z && (if is_null s then shows flaw.Null u z else shows flaw.Null s z)) e
  no_member_null (more_of-Schema s (more_of-Schema u end_of-Schema)) x (inl (n, single, inr p)) = ap (λ b. is_held x && b) (either (is_null s) (shows flaw.Null u x) (shows flaw.Null s x) true (null_is s n) (no_null u x p)) ∙ and_false (is_held x)
  no_member_null (more_of-Schema s (more_of-Schema u end_of-Schema)) x (inr (n, single, inl e)) = ap (λ z. is_held z && (if is_null s then shows flaw.Null u z else shows flaw.Null s z)) e
  no_member_null (more_of-Schema s (more_of-Schema u end_of-Schema)) x (inr (n, single, inr p)) = ap (λ b. is_held x && b) (either (is_null s) (shows flaw.Null u x) (shows flaw.Null s x) false (no_null_is s x p) (no_null s x p)) ∙ and_false (is_held x)
  no_member_null (more_of-Schema s (more_of-Schema u (more_of-Schema v rest))) x h = absurd h

all_held : (root : Schema) (slots : List Slot) → All (Pairs root) slots → lacks_value root slots ≡ false
all_held root [] h = refl
all_held root (x ∷ slots) h = λ i. (no_null root x (All-head (Pairs root) x slots h) i || all_held root slots (All-tail (Pairs root) x slots h) i)

-- ---- rows

one_object : (value : Json) → IsObject value → is_object value ≡ true
unfolding out-Value denote.Hole.Carrier.out
one_object value (members, e) = ap is_object e

encoded : (t : DataType) (root : Schema) (fields : List Field) (r : TheRecord) (texts : List (List ℕ)) (bytes : List ℕ) → t ≡ types.Struct fields → root ≡ Record r → EncodesLines fields r texts [] bytes → EncodesRows t root texts (the_block (length texts) bytes)
encoded t root fields r texts bytes e d h =
    subst (λ z. EncodesRows z root texts (the_block (length texts) bytes)) (sym e)
    (subst (λ z. EncodesRows (types.Struct fields) z texts (the_block (length texts) bytes)) (sym d) (record {
      slots = h.slots;
      rows = record {
        values = h.values;
        have = h.have;
        objects = All-weaker IsObject (λ value. is_object value ≡ true) one_object h.values h.objects;
        meant = h.meant;
        complete = all_held (Record r) h.slots h.paired;
        paired = h.paired;
      };
      is = λ i. the_block (sym (slots_length (types.Struct fields) h.values h.slots h.meant ∙ zip_length IsJson h.values texts h.have) i) (h.encoded i);
    }))

-- lines that were encoded without columns are rows, and this is their block
pub lines_are_rows : (result : Result (Unit {0}) GivenUp) (done : Bool) (t : DataType) (root : Schema) (made : Option LinePlan) (plan : LinePlan) (texts : List (List ℕ)) (old bytes : List ℕ) → made ≡ Some plan → old ≡ [] → done ≡ is_ok result → IsPlanFor t root made
    → ((fields : List Field) (r : TheRecord) → IsLinePlanOf fields r plan → OnOk result (EncodesLines fields r texts old bytes)) → OnTrue done (EncodesRows t root texts (the_block (length texts) bytes))
lines_are_rows (Err g) done t root made plan texts old bytes is none d p h = subst (λ b. OnTrue b (EncodesRows t root texts (the_block (length texts) bytes))) (sym d) tt
lines_are_rows (Ok u) done t root made plan texts old bytes is none d p h =
    let f = subst (IsPlanFor t root) is p in
    let e = subst (λ (xs : List ℕ). EncodesLines f.0 f.1 texts xs bytes) none (h f.0 f.1 f.4) in
    subst (λ b. OnTrue b (EncodesRows t root texts (the_block (length texts) bytes))) (sym d) (encoded t root f.0 f.1 texts bytes f.2 f.3 e)

-- a plan that was made is for the rows
pub plan_for : (made : Option LinePlan) (t : DataType) (root : Schema) (fields : List Field) (r : TheRecord) → t ≡ types.Struct fields → root ≡ Record r → IfSome made (IsLinePlanOf fields r) → IsPlanFor t root made
plan_for None t root fields r e d h = tt
plan_for (Some plan) t root fields r e d h = (fields, r, e, d, h)
