-- Values without others in them.
use Rattle.std.proofs.Common.{◌≡◌, ◌∙◌, inl, inr, ℕ, ℤ, pos, negsuc, Bool, true, false, cond, List, Some, None, refl, sym, ap, subst, arith}
use Rattle.std.specs.Prelude.{◌≤ℤ◌, ◌&&◌, int_le, Option}
use Rattle.std.proofs.lemmas.Bool.{and_parts}
use Rattle.std.proofs.lemmas.Int.{ints}
use Rattle.arrow_core.specs.declared.slot.Slot.{Slot}
use Rattle.arrow_core.specs.declared.slot.Slot.TheVariants as slot
use Rattle.arrow_core.specs.declared.types.DataType.{DataType}
use Rattle.avro_container.specs.Shortest.{shortest}
use Rattle.avro_schema.specs.Carried.{IsNoUnion}
use Rattle.avro_schema.specs.declared.schema.Schema.{Schema, Boolean, Int, Long, String, Bytes}
use Rattle.json_flat.specs.Columns.{means}
use Rattle.json_flat.specs.Meaning.{Layer, Meaning, bytes_in, int64_in, moment_in, slot_of, text_in, boolean_in, whole_in}
use Rattle.json_flat.specs.Reading.{int32_in, reading}
use Rattle.json_flat.specs.Whole.{whole_value, within}
use Rattle.json_tree.specs.Tree.{Json, boolean, has_point, null, number, string}
use Rattle.json_tree.specs.declared.value.Number.TheVariants.{Integer, Float}
use Rattle.json_tree.specs.declared.value.Value.{Number as TheNumber, out-Value}
use Rattle.line_encode.specs.declared.plan.Plan.{Primitive as PrimitivePlan}
use Rattle.line_encode.specs.declared.plan.Primitive.{Primitive}
use Rattle.line_encode.specs.declared.plan.Primitive.TheVariants as primitive
use Rattle.line_encode.specs.Makes.{EncodesHeld, IsHeldPlanOf, IsPrimitiveOf, IsReadable}
use Rattle.line_encode.specs.Plans.{WritesBoolean, WritesBytes, WritesInteger, WritesPrimitive}

-- ---- what values mean

boolean_means : (b : Bool) → means boolean_in (boolean b) ≡ slot_of (slot.Boolean b)
unfolding out-Value denote.Hole.Carrier.out
boolean_means b = refl

number_parts : (b : Bool) (m e : List ℕ) (low high n : ℤ) → has_point m ≡ b → within low high (whole_value m e) ≡ Some n → means (whole_in low high) (TheNumber (cond b (Float m e) (Integer m e))) ≡ slot_of (slot.Integer n)
unfolding out-Value denote.Hole.Carrier.out
number_parts true m e low high n p h = rw (p, h) refl
number_parts false m e low high n p h = rw (p, h) refl

number_means : (m e : List ℕ) (low high n : ℤ) → within low high (whole_value m e) ≡ Some n → means (whole_in low high) (number m e) ≡ slot_of (slot.Integer n)
number_means m e low high n h = number_parts (has_point m) m e low high n refl h

moment_parts : (b : Bool) (m e : List ℕ) → means moment_in (TheNumber (cond b (Float m e) (Integer m e))) ≡ means int64_in (TheNumber (cond b (Float m e) (Integer m e)))
unfolding out-Value denote.Hole.Carrier.out
moment_parts true m e = refl
moment_parts false m e = refl

text_means : (s : List ℕ) → means text_in (string s) ≡ slot_of (slot.String s)
unfolding out-Value denote.Hole.Carrier.out
text_means s = refl

bytes_mean : (s : List ℕ) → means bytes_in (string s) ≡ slot_of (slot.Binary s)
unfolding out-Value denote.Hole.Carrier.out
bytes_mean s = refl

null_boolean : means boolean_in null ≡ slot_of slot.Null
unfolding out-Value denote.Hole.Carrier.out
null_boolean = refl

null_whole : (low high : ℤ) → means (whole_in low high) null ≡ slot_of slot.Null
unfolding out-Value denote.Hole.Carrier.out
null_whole low high = refl

null_moment : means moment_in null ≡ slot_of slot.Null
unfolding out-Value denote.Hole.Carrier.out
null_moment = refl

null_text : means text_in null ≡ slot_of slot.Null
unfolding out-Value denote.Hole.Carrier.out
null_text = refl

null_bytes : means bytes_in null ≡ slot_of slot.Null
unfolding out-Value denote.Hole.Carrier.out
null_bytes = refl

-- a value that lies in a range
bounds : (low high n : ℤ) (o : Option ℤ) → within low high o ≡ Some n → (low ≤ℤ n) × (n ≤ℤ high)
bounds low high n None e = absurd cc
bounds low high n (Some v) e = at (int_le low v && int_le v high) refl e
  where
    at : (b : Bool) → (int_le low v && int_le v high) ≡ b → cond b (Some v) None ≡ Some n → (low ≤ℤ n) × (n ≤ℤ high)
    at true t e =
        let p = and_parts (int_le low v) (int_le v high) t in
        let same : n ≡ v = cc in
        let below = p.0 in
        let above = p.1 in
        let lower : low ≤ℤ v = grind (arith, ints, below) in
        let upper : v ≤ℤ high = grind (arith, ints, above) in
        (subst (λ k. low ≤ℤ k) (sym same) lower, subst (λ k. k ≤ℤ high) (sym same) upper)
    at false t e = absurd cc

-- ---- what is encoded

as_read : (f g : Layer → Meaning) (v w : Json) (x : Slot) → f ≡ g → v ≡ w → means g w ≡ slot_of x → means f v ≡ slot_of x
as_read f g v w x e d h = (λ i. means (e i) (d i)) ∙ h

encodes_under : (t : DataType) (s u : Schema) (v : Json) (bytes : List ℕ) → s ≡ u → EncodesHeld t u v bytes → EncodesHeld t s v bytes
encodes_under t s u v bytes e h = subst (λ z. EncodesHeld t z v bytes) (sym e) h

boolean_encoded : (t : DataType) (v : Json) (bytes : List ℕ) → reading t ≡ boolean_in → WritesBoolean v bytes → EncodesHeld t Boolean v bytes
boolean_encoded t v bytes r (b, e, f) = (slot.Boolean b, refl, as_read (reading t) boolean_in v (boolean b) (slot.Boolean b) r e (boolean_means b), (b, refl), f)

int_encoded : (t : DataType) (logical : _) (v : Json) (bytes : List ℕ) → reading t ≡ int32_in → WritesInteger (negsuc 2147483647) (pos 2147483647) v bytes → EncodesHeld t (Int logical) v bytes
int_encoded t logical v bytes r (m, e, n, is, w, f) =
    (slot.Integer n, refl, as_read (reading t) int32_in v (number m e) (slot.Integer n) r is (number_means m e (negsuc 2147483647) (pos 2147483647) n w), (n, refl, bounds (negsuc 2147483647) (pos 2147483647) n (whole_value m e) w), f)

long_encoded : (t : DataType) (logical : _) (v : Json) (bytes : List ℕ) → (m e : List ℕ) (n : ℤ) → v ≡ number m e → within (negsuc 9223372036854775807) (pos 9223372036854775807) (whole_value m e) ≡ Some n → means (reading t) (number m e) ≡ means int64_in (number m e) → bytes ≡ shortest n
    → EncodesHeld t (Long logical) v bytes
long_encoded t logical v bytes m e n is w r f =
    (slot.Integer n, refl, ap (means (reading t)) is ∙ (r ∙ number_means m e (negsuc 9223372036854775807) (pos 9223372036854775807) n w), (n, refl, bounds (negsuc 9223372036854775807) (pos 9223372036854775807) n (whole_value m e) w), f)

string_encoded : (t : DataType) (logical : _) (v : Json) (bytes : List ℕ) → reading t ≡ text_in → WritesBytes v bytes → EncodesHeld t (String logical) v bytes
string_encoded t logical v bytes r (text, e, utf8, few, f) = (slot.String text, refl, as_read (reading t) text_in v (string text) (slot.String text) r e (text_means text), (text, refl, utf8, few), f)

binary_encoded : (t : DataType) (v : Json) (bytes : List ℕ) → reading t ≡ bytes_in → WritesBytes v bytes → EncodesHeld t (Bytes None) v bytes
binary_encoded t v bytes r (text, e, utf8, few, f) = (slot.Binary text, refl, as_read (reading t) bytes_in v (string text) (slot.Binary text) r e (bytes_mean text), (text, refl, few), f)

encoded : (p : Primitive) (t : DataType) (s : Schema) → IsPrimitiveOf t s p → (v : Json) (bytes : List ℕ) → WritesPrimitive p v bytes → EncodesHeld t s v bytes
encoded primitive.Boolean t s (r, e) v bytes h = encodes_under t s Boolean v bytes e (boolean_encoded t v bytes r h)
encoded primitive.Int t s (r, (logical, e)) v bytes h = encodes_under t s (Int logical) v bytes e (int_encoded t logical v bytes r h)
encoded primitive.Long t s (inl r, (logical, e)) v bytes h =
    encodes_under t s (Long logical) v bytes e (long_encoded t logical v bytes h.0 h.1 h.2 h.3 h.4 (ap (λ (f : Layer → Meaning). means f (number h.0 h.1)) r) h.5)
encoded primitive.Long t s (inr r, (logical, e)) v bytes h =
    encodes_under t s (Long logical) v bytes e (long_encoded t logical v bytes h.0 h.1 h.2 h.3 h.4 (ap (λ (f : Layer → Meaning). means f (number h.0 h.1)) r ∙ moment_parts (has_point h.0) h.0 h.1) h.5)
encoded primitive.Bytes t s (inl (r, (logical, e))) v bytes h = encodes_under t s (String logical) v bytes e (string_encoded t logical v bytes r h)
encoded primitive.Bytes t s (inr (r, e)) v bytes h = encodes_under t s (Bytes None) v bytes e (binary_encoded t v bytes r h)

null_means : (p : Primitive) (t : DataType) (s : Schema) → IsPrimitiveOf t s p → means (reading t) null ≡ slot_of slot.Null
null_means primitive.Boolean t s (r, e) = ap (λ (f : Layer → Meaning). means f null) r ∙ null_boolean
null_means primitive.Int t s (r, e) = ap (λ (f : Layer → Meaning). means f null) r ∙ null_whole (negsuc 2147483647) (pos 2147483647)
null_means primitive.Long t s (inl r, e) = ap (λ (f : Layer → Meaning). means f null) r ∙ null_whole (negsuc 9223372036854775807) (pos 9223372036854775807)
null_means primitive.Long t s (inr r, e) = ap (λ (f : Layer → Meaning). means f null) r ∙ null_moment
null_means primitive.Bytes t s (inl (r, e)) = ap (λ (f : Layer → Meaning). means f null) r ∙ null_text
null_means primitive.Bytes t s (inr (r, e)) = ap (λ (f : Layer → Meaning). means f null) r ∙ null_bytes

no_union : (p : Primitive) (t : DataType) (s : Schema) → IsPrimitiveOf t s p → IsNoUnion s
no_union primitive.Boolean t s (r, e) = subst IsNoUnion (sym e) tt
no_union primitive.Int t s (r, (logical, e)) = subst IsNoUnion (sym e) tt
no_union primitive.Long t s (r, (logical, e)) = subst IsNoUnion (sym e) tt
no_union primitive.Bytes t s (inl (r, (logical, e))) = subst IsNoUnion (sym e) tt
no_union primitive.Bytes t s (inr (r, e)) = subst IsNoUnion (sym e) tt

pub primitive_plan : (nullable : Bool) (p : Primitive) (t : DataType) (s : Schema) → IsReadable t → IsPrimitiveOf t s p → IsHeldPlanOf nullable t s (PrimitivePlan nullable p)
primitive_plan nullable p t s r h = record { may = refl; readable = r; encodes = encoded p t s h; null_is = null_means p t s h; no_union = no_union p t s h }
