-- Texts under timestamps, by the code's match on types and values.
use Rattle.std.proofs.Common.{◌≡◌, ℕ, ℤ, Bool, true, false, cond, eqb, ◌&&◌, ◌||◌, List, [], ◌∷◌, length, map, pos, negsuc, Option, Some, None, refl, sym, ap, ◌∙◌}
use Rattle.std.specs.List.{list_any}
use Rattle.arrow_core.specs.declared.slot.Slot.{Slot}
use Rattle.arrow_core.specs.declared.slot.Slot.TheVariants as slot
use Rattle.arrow_core.specs.declared.types.Field.{Field}
use Rattle.arrow_core.specs.declared.types.DataType.{DataType, Null, Boolean, Int8, Int16, Int32, Int64, UInt8, UInt16, UInt32, UInt64, Float16, Float32, Float64, Timestamp, Date32, Date64, Time32, Time64, Duration, Interval, Binary, FixedSizeBinary, LargeBinary, Utf8, LargeUtf8, List', FixedSizeList', LargeList', Struct', Map', Union', Dictionary', Decimal, Decimal256, Extension'}
use Rattle.json_tree.specs.Keys.{value_of}
use Rattle.json_tree.specs.Tree.{Json, or_null}
use Rattle.json_tree.specs.declared.value.Value.{out-Value, roll-Value, roll-out-Value}
use Rattle.json_tree.specs.declared.value.Value.TheOpen as layer
use Rattle.json_tree.specs.declared.value.Value.TheVariants as variant
use Rattle.json_tree.specs.declared.value.Object.{Object}
use Rattle.json_flat.specs.Whole.{number_value, within}
use Rattle.json_flat.specs.Meaning.{Layer, Meaning, slot_of, text_timestamp, unfit, fitted, whole_in, moment_in, text_in, bytes_in, boolean_in}
use Rattle.json_flat.specs.Columns.{means}
use Rattle.json_columns.specs.Gathered.{HasNoFields, field_meanings}
use Rattle.json_flat.specs.Reading.{Together, all_slots, some_text, some_unfit, beside, together, made_of, list_in, sized_list_in, struct_in, reading}
use Rattle.json_columns.specs.Texts.{IsNoTimestamp, is_text, item_is_text, member_is_text}
use Rattle.json_columns.proofs.Layers.{array_layer, object_layer}
use Rattle.json_columns.proofs.Nulls.{null_means}

-- ---- one value

fitted_text : (o : Option ℤ) → is_text (fitted o) ≡ false
fitted_text None = refl
fitted_text (Some n) = refl

whole_text : (low high : ℤ) (l : Layer) → is_text (whole_in low high l) ≡ false
whole_text low high layer.Null = refl
whole_text low high (layer.Bool b) = refl
whole_text low high (layer.Number n) = fitted_text (within low high (number_value n))
whole_text low high (layer.String text) = refl
whole_text low high (layer.Array items) = refl
whole_text low high (layer.Object o) = refl

string_text : (l : Layer) → is_text (text_in l) ≡ false
string_text layer.Null = refl
string_text (layer.Bool b) = refl
string_text (layer.Number n) = refl
string_text (layer.String text) = refl
string_text (layer.Array items) = refl
string_text (layer.Object o) = refl

bytes_text : (l : Layer) → is_text (bytes_in l) ≡ false
bytes_text layer.Null = refl
bytes_text (layer.Bool b) = refl
bytes_text (layer.Number n) = refl
bytes_text (layer.String text) = refl
bytes_text (layer.Array items) = refl
bytes_text (layer.Object o) = refl

boolean_text : (l : Layer) → is_text (boolean_in l) ≡ false
boolean_text layer.Null = refl
boolean_text (layer.Bool b) = refl
boolean_text (layer.Number n) = refl
boolean_text (layer.String text) = refl
boolean_text (layer.Array items) = refl
boolean_text (layer.Object o) = refl

flat_text : (t : DataType) → HasNoFields t → IsNoTimestamp t → (l : Layer) → is_text (reading t l) ≡ false
flat_text Null h k l = refl
flat_text Boolean h k l = boolean_text l
flat_text Int8 h k l = whole_text (negsuc 127) (pos 127) l
flat_text Int16 h k l = whole_text (negsuc 32767) (pos 32767) l
flat_text Int32 h k l = whole_text (negsuc 2147483647) (pos 2147483647) l
flat_text Int64 h k l = whole_text (negsuc 9223372036854775807) (pos 9223372036854775807) l
flat_text UInt8 h k l = whole_text (pos 0) (pos 255) l
flat_text UInt16 h k l = whole_text (pos 0) (pos 65535) l
flat_text UInt32 h k l = whole_text (pos 0) (pos 4294967295) l
flat_text UInt64 h k l = whole_text (pos 0) (pos 18446744073709551615) l
flat_text Float16 h k l = refl
flat_text Float32 h k l = refl
flat_text Float64 h k l = refl
flat_text (Timestamp unit timezone) h k l = absurd k
flat_text Date32 h k l = whole_text (negsuc 2147483647) (pos 2147483647) l
flat_text Date64 h k l = whole_text (negsuc 9223372036854775807) (pos 9223372036854775807) l
flat_text (Time32 unit) h k l = whole_text (negsuc 2147483647) (pos 2147483647) l
flat_text (Time64 unit) h k l = whole_text (negsuc 9223372036854775807) (pos 9223372036854775807) l
flat_text (Duration unit) h k l = whole_text (negsuc 9223372036854775807) (pos 9223372036854775807) l
flat_text (Interval unit) h k l = whole_text (negsuc 2147483647) (pos 2147483647) l
flat_text Binary h k l = bytes_text l
flat_text (FixedSizeBinary size) h k l = refl
flat_text LargeBinary h k l = bytes_text l
flat_text Utf8 h k l = string_text l
flat_text LargeUtf8 h k l = string_text l
flat_text (List' shape item) h k l = absurd h
flat_text (FixedSizeList' shape item size) h k l = absurd h
flat_text (LargeList' shape item) h k l = absurd h
flat_text (Struct' shape fields) h k l = absurd h
flat_text (Map' shape entries is_sorted) h k l = refl
flat_text (Union' shape fields ids mode) h k l = refl
flat_text (Dictionary' key shape value is_sorted) h k l = absurd h
flat_text (Decimal precision scale) h k l = refl
flat_text (Decimal256 precision scale) h k l = refl
flat_text (Extension' name shape inner metadata) h k l = refl

pub no_text : (t : DataType) (v : Json) → HasNoFields t → IsNoTimestamp t → false ≡ is_text (means (reading t) v)
no_text t v h k = sym (flat_text t h k (out-Value v))

pub no_string : (v : Json) → ((text : List ℕ) → v ≡ variant.String text → ⊥) → false ≡ is_text (means moment_in v)
no_string v other = go (out-Value v) refl
  where
    go : (l : Layer) → out-Value v ≡ l → false ≡ is_text (moment_in l)
    go layer.Null e = refl
    go (layer.Bool b) e = refl
    go (layer.Number n) e = sym (whole_text (negsuc 9223372036854775807) (pos 9223372036854775807) (layer.Number n))
    go (layer.String text) e = absurd (other text (sym (roll-out-Value v) ∙ ap roll-Value e ∙ variant.rolls-String text))
    go (layer.Array items) e = refl
    go (layer.Object o) e = refl

-- ---- several values

abbrev has_text : Together → Bool
has_text (all_slots ss) = false
has_text some_text = true
has_text some_unfit = false

beside_text : (m : Meaning) (t : Together) → has_text (beside m t) ≡ (is_text m || has_text t)
beside_text (slot_of s) (all_slots ss) = refl
beside_text (slot_of s) some_text = refl
beside_text (slot_of s) some_unfit = refl
beside_text text_timestamp t = refl
beside_text unfit (all_slots ss) = refl
beside_text unfit some_text = refl
beside_text unfit some_unfit = refl

made_text : (make : List Slot → Slot) (t : Together) → is_text (made_of make t) ≡ has_text t
made_text make (all_slots ss) = refl
made_text make some_text = refl
made_text make some_unfit = refl

together_text : {X : Type 0} (f : X → Meaning) (xs : List X) → has_text (together (map f xs)) ≡ list_any (λ x. is_text (f x)) xs
together_text f [] = refl
together_text f (x ∷ xs) = beside_text (f x) (together (map f xs)) ∙ ap (λ z. is_text (f x) || z) (together_text f xs)

pub list_text : (r : Layer → Meaning) (v : Json) (items : List Json) → v ≡ variant.Array items → item_is_text r items ≡ is_text (means (list_in (means r)) v)
list_text r v items e =
    sym (ap (λ (l : Layer). is_text (list_in (means r) l)) (array_layer v items e) ∙ made_text _ (together (map (means r) items)) ∙ together_text (means r) items)

-- where there are so many items
by_size : (r : Layer → Meaning) (b : Bool) (items : List Json) → is_text (cond b (made_of slot.List (together (map (means r) items))) (slot_of slot.Null)) ≡ (b && item_is_text r items)
by_size r true items = made_text slot.List (together (map (means r) items)) ∙ together_text (means r) items
by_size r false items = refl

pub sized_text : (r : Layer → Meaning) (size : ℕ) (v : Json) (items : List Json) → v ≡ variant.Array items → (eqb (length items) size && item_is_text r items) ≡ is_text (means (sized_list_in size (means r)) v)
sized_text r size v items e = sym (ap (λ (l : Layer). is_text (sized_list_in size (means r) l)) (array_layer v items e) ∙ by_size r (eqb (length items) size) items)

pub struct_text : (fs : List Field) (v : Json) (o : Object) → v ≡ variant.Object o → member_is_text fs o.members ≡ is_text (means (struct_in (field_meanings fs)) v)
struct_text fs v o e =
    sym (ap (λ (l : Layer). is_text (struct_in (field_meanings fs) l)) (object_layer v o e) ∙ made_text _ (together (field_meanings fs o.members))
    ∙ together_text (λ (f : Field). means (reading f.data_type) (or_null (value_of f.name o.members))) fs)

pub missing_text : (t : DataType) (m : Option Json) → m ≡ None → false ≡ is_text (means (reading t) (or_null m))
missing_text t m e = sym (ap (λ (o : Option Json). is_text (means (reading t) (or_null o))) e ∙ ap is_text (null_means t))

-- ---- all values

pub text_means : (m : Meaning) → is_text m ≡ true → m ≡ text_timestamp
text_means (slot_of s) e = absurd cc
text_means text_timestamp e = refl
text_means unfit e = absurd cc
