-- What is appended is what the value that is lent means.
use Rattle.std.proofs.Common.{◌≡◌, ℕ, ℤ, pos, Bool, true, false, cond, eqb, length, List, [], ◌∷◌, ◌++◌, refl, sym, ap, ◌∙◌, Some, None, Bor, arith}
use Rattle.std.specs.Prelude.{Result, Ok, Err, OnOk}
use Rattle.std.proofs.lemmas.Bool.{true≢false}
use Rattle.json_tree.proofs.Turns.{ne-eqb}
use Rattle.arrow_core.specs.declared.physical.PhysicalType.{PhysicalType}
use Rattle.arrow_core.specs.declared.physical.PhysicalType.TheVariants as physical
use Rattle.arrow_core.specs.declared.physical.PrimitiveType.TheVariants as primitive
use Rattle.arrow_core.specs.declared.slot.Slot.{Slot}
use Rattle.arrow_core.specs.declared.slot.Slot.TheVariants as slot
use Rattle.arrow_core.specs.declared.types.DataType.{DataType}
use Rattle.arrow_builders.specs.MutableArrays.{builder_slots}
use Rattle.arrow_builders.specs.Shapes.{flat, shape}
use Rattle.arrow_builders.specs.Tight.{IsTight}
use Rattle.arrow_builders.specs.declared.array.MutableArray.{MutableArray}
use Rattle.arrow_builders.specs.declared.array.MutableArray as builder
use Rattle.arrow_flat.specs.Builders.{ContentBuilder, PlainBuilder}
use Rattle.json_tree.specs.Tree.{Json, boolean, number, string, has_point}
use Rattle.json_tree.specs.Grammar.{text_true, text_false}
use Rattle.json_tree.specs.declared.value.Value.{Number as TheNumber, out-Value}
use Rattle.json_tree.specs.declared.value.Number.TheVariants.{Integer, Float}
use Rattle.json_flat.specs.Whole.{whole_value, within}
use Rattle.json_flat.specs.Meaning.{Meaning, Layer, slot_of, boolean_meaning, int64_in, boolean_in, whole_in, moment_in, text_in, bytes_in}
use Rattle.json_flat.specs.Columns.{means, Pushes}
use Rattle.json_lend.specs.declared.lent.Lent.{Lent}
use Rattle.json_lend.specs.declared.lent.Lent.TheVariants as lent
use Rattle.json_lend.specs.Standing.{lent_value}
use Rattle.json_lend.specs.declared.given_up.GivenUp.{GivenUp}
use Rattle.json_line.specs.Builders.{is_timestamp, kind_reading, shape_reading, IsGiven, Takes}

-- the slot that was pushed is what the value means
pub pushed : (r : Result (Unit {0}) GivenUp) (reading : Layer → Meaning) (v : Json) (s : Slot) (old new : List Slot) → means reading v ≡ slot_of s → OnOk r (new ≡ old ++ s ∷ []) → OnOk r (Pushes reading v old new)
pushed (Ok u) reading v s old new m e = (s, m, e)
pushed (Err g) reading v s old new m e = tt

-- no bytes at all
pub is-empty : (xs : List ℕ) (t : Bool) → t ≡ true → t ≡ eqb (length xs) 0 → xs ≡ []
is-empty [] t p q = refl
is-empty (x ∷ xs) t p q = absurd (true≢false (sym p ∙ (q ∙ ne-eqb (length (x ∷ xs)) 0 (λ k. absurd (omega (arith, k))))))

-- ---- booleans

pub bool-boolean : (b : Bool) → means boolean_in (boolean b) ≡ boolean_meaning (Some b)
unfolding out-Value denote.Hole.Carrier.out
bool-boolean b = refl

pub no-boolean : (l : Lent) → ((b : Bool) → l ≡ lent.Bool b → ⊥) → means boolean_in (lent_value l) ≡ boolean_meaning None
unfolding out-Value denote.Hole.Carrier.out
no-boolean lent.Null h = refl
no-boolean (lent.Bool b) h = absurd (h b refl)
no-boolean (lent.Number m e) h = refl
no-boolean (lent.String s) h = refl
no-boolean (lent.Escaped s) h = refl
no-boolean (lent.Array xs) h = refl
no-boolean (lent.Object ms) h = refl

-- ---- integers

number-parts : (b : Bool) (m e : List ℕ) (low high n : ℤ) → has_point m ≡ b → within low high (whole_value m e) ≡ Some n → means (whole_in low high) (TheNumber (cond b (Float m e) (Integer m e))) ≡ slot_of (slot.Integer n)
unfolding out-Value denote.Hole.Carrier.out
number-parts true m e low high n p h = rw (p, h) refl
number-parts false m e low high n p h = rw (p, h) refl

pub whole-number : (m e : List ℕ) (low high n : ℤ) → within low high (whole_value m e) ≡ Some n → means (whole_in low high) (number m e) ≡ slot_of (slot.Integer n)
whole-number m e low high n h = number-parts (has_point m) m e low high n refl h

pub whole-boolean : (b : Bool) (low high : ℤ) → means (whole_in low high) (boolean b) ≡ slot_of (slot.Integer (pos (cond b 1 0)))
unfolding out-Value denote.Hole.Carrier.out
whole-boolean b low high = refl

pub no-whole : (l : Lent) (low high : ℤ) → ((b : Bool) → l ≡ lent.Bool b → ⊥) → ((m e : Bor (List ℕ)) → l ≡ lent.Number m e → ⊥) → means (whole_in low high) (lent_value l) ≡ slot_of slot.Null
unfolding out-Value denote.Hole.Carrier.out
no-whole lent.Null low high h k = refl
no-whole (lent.Bool b) low high h k = absurd (h b refl)
no-whole (lent.Number m e) low high h k = absurd (k m e refl)
no-whole (lent.String s) low high h k = refl
no-whole (lent.Escaped s) low high h k = refl
no-whole (lent.Array xs) low high h k = refl
no-whole (lent.Object ms) low high h k = refl

-- what is neither a boolean nor a string
abbrev pub IsPlainValue : Lent → Type 0
IsPlainValue (lent.Bool b) = ⊥
IsPlainValue (lent.String s) = ⊥
IsPlainValue (lent.Escaped s) = ⊥
IsPlainValue _ = Unit {0}

pub plain_value : (l : Lent) → ((b : Bool) → l ≡ lent.Bool b → ⊥) → ((s : Bor (List ℕ)) → l ≡ lent.String s → ⊥) → ((s : List ℕ) → l ≡ lent.Escaped s → ⊥) → IsPlainValue l
plain_value lent.Null p q r = tt
plain_value (lent.Bool b) p q r = absurd (p b refl)
plain_value (lent.Number m e) p q r = tt
plain_value (lent.String s) p q r = absurd (q s refl)
plain_value (lent.Escaped s) p q r = absurd (r s refl)
plain_value (lent.Array xs) p q r = tt
plain_value (lent.Object ms) p q r = tt

moment_parts : (b : Bool) (m e : List ℕ) → means moment_in (TheNumber (cond b (Float m e) (Integer m e))) ≡ means int64_in (TheNumber (cond b (Float m e) (Integer m e)))
unfolding out-Value denote.Hole.Carrier.out
moment_parts true m e = refl
moment_parts false m e = refl

-- under a timestamp it means what it means as an integer
pub same_moment : (l : Lent) → IsPlainValue l → means moment_in (lent_value l) ≡ means int64_in (lent_value l)
unfolding out-Value denote.Hole.Carrier.out
same_moment lent.Null h = refl
same_moment (lent.Bool b) h = absurd h
same_moment (lent.Number m e) h = moment_parts (has_point m.now) m.now e.now
same_moment (lent.String s) h = absurd h
same_moment (lent.Escaped s) h = absurd h
same_moment (lent.Array xs) h = refl
same_moment (lent.Object ms) h = refl

-- the same under either
pub under_any : (moment : Bool) (l : Lent) → IsPlainValue l → means (cond moment moment_in int64_in) (lent_value l) ≡ means int64_in (lent_value l)
under_any true l h = same_moment l h
under_any false l h = refl

-- what is pushed as an integer is what it means under either
pub pushed_under : (r : Result (Unit {0}) GivenUp) (reading other : Layer → Meaning) (v : Json) (old new : List Slot) → means other v ≡ means reading v → OnOk r (Pushes reading v old new) → OnOk r (Pushes other v old new)
pushed_under (Ok u) reading other v old new e (s, m, a) = (s, e ∙ m, a)
pushed_under (Err g) reading other v old new e p = tt

-- what is neither a boolean, a number nor a string
abbrev pub IsOther : Lent → Type 0
IsOther lent.Null = Unit {0}
IsOther (lent.Array xs) = Unit {0}
IsOther (lent.Object ms) = Unit {0}
IsOther _ = ⊥

pub other : (l : Lent) → ((b : Bool) → l ≡ lent.Bool b → ⊥) → ((m e : Bor (List ℕ)) → l ≡ lent.Number m e → ⊥) → ((s : Bor (List ℕ)) → l ≡ lent.String s → ⊥) → ((s : List ℕ) → l ≡ lent.Escaped s → ⊥) → IsOther l
other lent.Null p q r s = tt
other (lent.Bool b) p q r s = absurd (p b refl)
other (lent.Number m e) p q r s = absurd (q m e refl)
other (lent.String t) p q r s = absurd (r t refl)
other (lent.Escaped t) p q r s = absurd (s t refl)
other (lent.Array xs) p q r s = tt
other (lent.Object ms) p q r s = tt

-- ---- strings

pub text-string : (s : List ℕ) → means text_in (string s) ≡ slot_of (slot.String s)
unfolding out-Value denote.Hole.Carrier.out
text-string s = refl

text-parts : (b : Bool) (m e : List ℕ) → e ≡ [] → means text_in (TheNumber (cond b (Float m e) (Integer m e))) ≡ slot_of (slot.String m)
unfolding out-Value denote.Hole.Carrier.out
text-parts true m e h = rw h refl
text-parts false m e h = rw h refl

pub text-number : (m e : List ℕ) → e ≡ [] → means text_in (number m e) ≡ slot_of (slot.String m)
text-number m e h = text-parts (has_point m) m e h

pub text-boolean : (b : Bool) → means text_in (boolean b) ≡ slot_of (slot.String (cond b text_true text_false))
unfolding out-Value denote.Hole.Carrier.out
text-boolean b = refl

pub no-text : (l : Lent) → IsOther l → means text_in (lent_value l) ≡ slot_of slot.Null
unfolding out-Value denote.Hole.Carrier.out
no-text lent.Null h = refl
no-text (lent.Bool b) h = absurd h
no-text (lent.Number m e) h = absurd h
no-text (lent.String s) h = absurd h
no-text (lent.Escaped s) h = absurd h
no-text (lent.Array xs) h = refl
no-text (lent.Object ms) h = refl

-- ---- bytes

pub bytes-string : (s : List ℕ) → means bytes_in (string s) ≡ slot_of (slot.Binary s)
unfolding out-Value denote.Hole.Carrier.out
bytes-string s = refl

pub no-bytes : (l : Lent) → IsOther l → means bytes_in (lent_value l) ≡ slot_of slot.Null
unfolding out-Value denote.Hole.Carrier.out
no-bytes lent.Null h = refl
no-bytes (lent.Bool b) h = absurd h
no-bytes (lent.Number m e) h = absurd h
no-bytes (lent.String s) h = absurd h
no-bytes (lent.Escaped s) h = absurd h
no-bytes (lent.Array xs) h = refl
no-bytes (lent.Object ms) h = refl

pub bytes-number : (m e : List ℕ) → means bytes_in (number m e) ≡ slot_of slot.Null
unfolding out-Value denote.Hole.Carrier.out
bytes-number m e = refl

pub bytes-boolean : (b : Bool) → means bytes_in (boolean b) ≡ slot_of slot.Null
unfolding out-Value denote.Hole.Carrier.out
bytes-boolean b = refl

pub no-string : (l : Lent) → ((s : Bor (List ℕ)) → l ≡ lent.String s → ⊥) → ((s : List ℕ) → l ≡ lent.Escaped s → ⊥) → means bytes_in (lent_value l) ≡ slot_of slot.Null
no-string lent.Null p q = no-bytes lent.Null tt
no-string (lent.Bool b) p q = bytes-boolean b
no-string (lent.Number m e) p q = bytes-number m.now e.now
no-string (lent.String s) p q = absurd (p s refl)
no-string (lent.Escaped s) p q = absurd (q s refl)
no-string (lent.Array xs) p q = no-bytes (lent.Array xs) tt
no-string (lent.Object ms) p q = no-bytes (lent.Object ms) tt

-- ---- builders without children, of any kind

pub taken : (r : Result (Unit {0}) GivenUp) (v : Json) (old new : MutableArray) (reading : Layer → Meaning) (before after : List Slot) → shape_reading (shape old) ≡ reading → builder_slots old ≡ before → builder_slots new ≡ after → OnOk r (Pushes reading v before after) → OnOk r (Takes v old new)
taken (Ok u) v old new reading before after e b a (s, m, p) = (s, ap (λ (f : Layer → Meaning). means f v) e ∙ m, a ∙ (p ∙ ap (λ (xs : List Slot). xs ++ s ∷ []) (sym b)))
taken (Err g) v old new reading before after e b a p = tt

always : (r : Result (Unit {0}) GivenUp) {P : Type 0} → P → OnOk r P
always (Ok u) p = p
always (Err g) p = tt

-- a kind of builders without children
pub record Kind {B : Type 0} (make : B → MutableArray) (data_type : B → DataType) (slots : B → List Slot) (kind : PhysicalType) : Type 0 where
  pub shapes : (b : B) → shape (make b) ≡ flat kind (data_type b)
  pub held : (b : B) → builder_slots (make b) ≡ slots b
  pub tight : (b : B) → IsTight (make b)

-- a builder of the kind was given a value
pub given : {B : Type 0} (make : B → MutableArray) (data_type : B → DataType) (slots : B → List Slot) (kind : PhysicalType) → Kind make data_type slots kind → (reading : Layer → Meaning) (r : Result (Unit {0}) GivenUp) (v : Json) (o b n : B) (old : MutableArray)
    → kind_reading (is_timestamp (data_type b)) kind ≡ reading → o ≡ b → old ≡ make b → data_type n ≡ data_type o → OnOk r (Pushes reading v (slots o) (slots n)) → IsGiven v old (make n) r
given make data_type slots kind K reading r v o b n old same q e t p = record {
  same_shape = K.shapes n ∙ (ap (flat kind) (t ∙ ap data_type q) ∙ (sym (K.shapes b) ∙ ap shape (sym e)));
  tight = always r (K.tight n);
  ok = taken r v old (make n) reading (slots o) (slots n) (ap (λ x. shape_reading (shape x)) e ∙ (ap shape_reading (K.shapes b) ∙ same)) (ap builder_slots e ∙ (K.held b ∙ ap slots (sym q))) (K.held n) p;
}

abbrev pub PlainKind : (PlainBuilder → MutableArray) → PhysicalType → Type 0
PlainKind make kind = Kind make (λ (b : PlainBuilder). b.data_type) (λ (b : PlainBuilder). b.slots) kind

abbrev pub ContentKind : (ContentBuilder → MutableArray) → PhysicalType → Type 0
ContentKind make kind = Kind make (λ (b : ContentBuilder). b.data_type) (λ (b : ContentBuilder). b.slots) kind

pub nulls : PlainKind builder.Null physical.Null
nulls = record { shapes = λ b. refl; held = λ b. refl; tight = λ b. tt }

pub booleans : PlainKind builder.Boolean physical.Boolean
booleans = record { shapes = λ b. refl; held = λ b. refl; tight = λ b. tt }

pub int8 : PlainKind builder.Int8 (physical.Primitive primitive.Int8)
int8 = record { shapes = λ b. refl; held = λ b. refl; tight = λ b. tt }

pub int16 : PlainKind builder.Int16 (physical.Primitive primitive.Int16)
int16 = record { shapes = λ b. refl; held = λ b. refl; tight = λ b. tt }

pub int32 : PlainKind builder.Int32 (physical.Primitive primitive.Int32)
int32 = record { shapes = λ b. refl; held = λ b. refl; tight = λ b. tt }

pub int64 : PlainKind builder.Int64 (physical.Primitive primitive.Int64)
int64 = record { shapes = λ b. refl; held = λ b. refl; tight = λ b. tt }

pub uint8 : PlainKind builder.UInt8 (physical.Primitive primitive.UInt8)
uint8 = record { shapes = λ b. refl; held = λ b. refl; tight = λ b. tt }

pub uint16 : PlainKind builder.UInt16 (physical.Primitive primitive.UInt16)
uint16 = record { shapes = λ b. refl; held = λ b. refl; tight = λ b. tt }

pub uint32 : PlainKind builder.UInt32 (physical.Primitive primitive.UInt32)
uint32 = record { shapes = λ b. refl; held = λ b. refl; tight = λ b. tt }

pub uint64 : PlainKind builder.UInt64 (physical.Primitive primitive.UInt64)
uint64 = record { shapes = λ b. refl; held = λ b. refl; tight = λ b. tt }

pub strings : ContentKind builder.Utf8 physical.Utf8
strings = record { shapes = λ b. refl; held = λ b. refl; tight = λ b. tt }

pub large_strings : ContentKind builder.LargeUtf8 physical.LargeUtf8
large_strings = record { shapes = λ b. refl; held = λ b. refl; tight = λ b. tt }

pub bytes : ContentKind builder.Binary physical.Binary
bytes = record { shapes = λ b. refl; held = λ b. refl; tight = λ b. tt }

pub large_bytes : ContentKind builder.LargeBinary physical.LargeBinary
large_bytes = record { shapes = λ b. refl; held = λ b. refl; tight = λ b. tt }
