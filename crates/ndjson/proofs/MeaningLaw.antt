-- The value of a slot means that slot.
use Rattle.std.proofs.Common.{◌≡◌, ℕ, ◌^◌, ◌<◌, ◌≤◌, Bool, true, false, cond, eqb, not, ℤ, pos, negsuc, List, [], ◌∷◌, length, map, Some, None, refl, sym, ap, ◌∙◌, subst, arith}
use mir.Syntax.{Width, w8, w16, w32, w64}
use Rattle.std.proofs.lemmas.Bool.{and_from, and_parts, false≢true, or_parts}
use Rattle.std.proofs.lemmas.Int.{ints}
use Rattle.std.proofs.lemmas.List.Elements.{All-head, All-tail}
use Rattle.std.proofs.lemmas.List.{length-map}
use Rattle.std.specs.Cmp.{unsigned_Decides}
use Rattle.std.specs.Fmt.{signed_decimal}
use Rattle.std.specs.Int.RustNames.{FitsSigned}
use Rattle.std.specs.List.{All, list_all}
use Rattle.std.specs.Prelude.{int_le}
use Rattle.arrow_core.specs.declared.slot.Slot.{Slot, Null, Boolean, Integer, String, Binary, List', Struct', items-the_row-Slot, items_hidden-the_row-Slot-0}
use Rattle.arrow_core.specs.declared.slot.Slot.TheVariants as slot
use Rattle.arrow_core.specs.declared.types.DataType.{DataType, Row_of-Field, end_of-Field, more_of-Field, more_of-DataType}
use Rattle.arrow_core.specs.declared.types.DataType as types
use Rattle.arrow_array.specs.SlotTypes.{IfHeld, IsBoolean, IsSigned, IsUnsigned, IsString, IsFixedListOfSlots, IsListOfSlots, IsStructOfSlots, SlotOf, ItemOf, FieldsOf}
use Rattle.json_text.specs.JsonText.{text}
use Rattle.json_text.specs.Refusals.{has_text, have_texts, in_range, is_string_type, item_in_range, fields_in_range, slot_in_range, integers_in, lists_in, structs_in}
use Rattle.json_tree.specs.Keys.{keys_of}
use Rattle.json_tree.specs.Tree.{Json, string, array, object, boolean, or_null}
use Rattle.json_tree.specs.declared.value.Number.TheVariants.{Integer as NumberInteger, Float as NumberFloat}
use Rattle.json_tree.specs.declared.value.Value.{out-Value}
use Rattle.json_tree.specs.declared.value.Value.TheOpen as layer
use Rattle.json_tree.specs.declared.value.Value.TheVariants as variant
use Rattle.json_tree.proofs.TextLaws.{one_value}
use Rattle.json_flat.specs.Meaning.{Layer, Meaning, fitted, slot_of, text_in, boolean_in, whole_in}
use Rattle.json_flat.specs.Columns.{means}
use Rattle.json_flat.specs.Whole.{within}
use Rattle.json_flat.proofs.Layers.{at-bool, at-number, at-string}
use Rattle.json_flat.specs.Names.{names_twice, repeat, row_names, row_names_twice}
use Rattle.json_flat.specs.Reading.{has_field, has_reading, have_reading, is_value_type, item_meaning, list_in, made_of, member_meanings, reading, sized_list_in, struct_in, together}
use Rattle.json_columns.proofs.Layers.{array_layer, object_layer}
use Rattle.json_columns.proofs.Together.{made}
use Rattle.ndjson.specs.Laws.{ColumnsReadBack, TextsReadBack, ValuesMeanSlots, has_no_dates, have_no_dates}
use Rattle.ndjson.specs.Values.{Values, gathered, integers_as, item_value, lists_of, member_values, slot_value, structs_of, value, values, whole}
use Rattle.ndjson.proofs.Gathered.{AllFound, all-found, gathered-same}
use Rattle.ndjson.proofs.Numerals.{IsSmall, numeral-no_point, numeral-value, small-signed, small-unsigned}
use Rattle.ndjson.proofs.TextLaw.{texts_are_json}

-- ---- slots with nothing beneath them

module _ (f : Layer → Meaning) (v : Values) where
  -- the slot's value means the slot
  abbrev Means : Slot → Type 0
  Means x = f (out-Value (slot_value v x)) ≡ slot_of x

  held : (P : Slot → Type 0) (x : Slot) → f layer.Null ≡ slot_of Null → IfHeld P x → (P x → Means x) → Means x
  held P Null n h k = ap f variant.outs-Null ∙ n
  held P (Boolean b) n h k = k (h refl)
  held P (Integer m) n h k = k (h refl)
  held P (String s) n h k = k (h refl)
  held P (Binary s) n h k = k (h refl)
  held P (List' m row) n h k = k (h refl)
  held P (Struct' m row) n h k = k (h refl)

boolean-means : (v : Values) (x : Slot) → IsBoolean x → Means boolean_in v x
boolean-means v x h = subst (Means boolean_in v) (sym h.1) (at-bool boolean_in (boolean h.0) h.0 refl)

string-means : (v : Values) (is_large : Bool) (x : Slot) → IsString is_large x → Means text_in v x
string-means v is_large x h = subst (Means text_in v) (sym h.1) (at-string text_in (string h.0) h.0 refl)

-- an integer from low to high
module _ (low high : ℤ) where
  number-means : (n : ℤ) → IsSmall n → int_le low n ≡ true → int_le n high ≡ true → Means (whole_in low high) (integers_as whole) (slot.Integer n)
  number-means n l a b =
      let m = signed_decimal n in
      let is : whole n ≡ variant.Number (NumberInteger m []) = ap (λ p. variant.Number (cond p (NumberFloat m []) (NumberInteger m []))) (numeral-no_point n l) in
      at-number (whole_in low high) (whole n) (NumberInteger m []) is
      ∙ ap (λ o. fitted (within low high o)) (numeral-value n l)
      ∙ ap (λ t. fitted (cond t (Some n) None)) (and_from (int_le low n) (int_le n high) a b)

  signed-means : (w : Width) (x : Slot) → ((n : ℤ) → FitsSigned w n → (int_le low n ≡ true) × (int_le n high ≡ true)) → IsSigned w x → Means (whole_in low high) (integers_as whole) x
  signed-means w x k h =
      let r = k h.0 h.2 in
      subst (Means (whole_in low high) (integers_as whole)) (sym h.1) (number-means h.0 (small-signed w h.0 h.2) r.0 r.1)

  unsigned-means : (bits : ℕ) (x : Slot) → bits ≤ 64 → ((n : ℕ) → n < 2 ^ bits → (int_le low (pos n) ≡ true) × (int_le (pos n) high ≡ true)) → IsUnsigned bits x → Means (whole_in low high) (integers_as whole) x
  unsigned-means bits x l k h =
      let r = k h.0 h.2 in
      subst (Means (whole_in low high) (integers_as whole)) (sym h.1) (number-means (pos h.0) (small-unsigned bits h.0 l h.2) r.0 r.1)

-- the ranges of types
range-8 : (n : ℤ) → FitsSigned w8 n → (int_le (negsuc 127) n ≡ true) × (int_le n (pos 127) ≡ true)
range-8 n h = (grind (arith, ints, h), grind (arith, ints, h))

range-16 : (n : ℤ) → FitsSigned w16 n → (int_le (negsuc 32767) n ≡ true) × (int_le n (pos 32767) ≡ true)
range-16 n h = (grind (arith, ints, h), grind (arith, ints, h))

range-32 : (n : ℤ) → FitsSigned w32 n → (int_le (negsuc 2147483647) n ≡ true) × (int_le n (pos 2147483647) ≡ true)
range-32 n h = (grind (arith, ints, h), grind (arith, ints, h))

range-64 : (n : ℤ) → FitsSigned w64 n → (int_le (negsuc 9223372036854775807) n ≡ true) × (int_le n (pos 9223372036854775807) ≡ true)
range-64 n h = (grind (arith, ints, h), grind (arith, ints, h))

unsigned-8 : (n : ℕ) → n < 2 ^ 8 → (int_le (pos 0) (pos n) ≡ true) × (int_le (pos n) (pos 255) ≡ true)
unsigned-8 n h = (grind (arith, ints, h), grind (arith, ints, h))

unsigned-16 : (n : ℕ) → n < 2 ^ 16 → (int_le (pos 0) (pos n) ≡ true) × (int_le (pos n) (pos 65535) ≡ true)
unsigned-16 n h = (grind (arith, ints, h), grind (arith, ints, h))

unsigned-32 : (n : ℕ) → n < 2 ^ 32 → (int_le (pos 0) (pos n) ≡ true) × (int_le (pos n) (pos 4294967295) ≡ true)
unsigned-32 n h = (grind (arith, ints, h), grind (arith, ints, h))

unsigned-64 : (n : ℕ) → n < 2 ^ 64 → (int_le (pos 0) (pos n) ≡ true) × (int_le (pos n) (pos 18446744073709551615) ≡ true)
unsigned-64 n h = (grind (arith, ints, h), grind (arith, ints, h))

-- ---- lists and structs

items-mean : (item : Slot → Json) (means_item : Json → Meaning) (P : Slot → Type 0) → ((x : Slot) → P x → means_item (item x) ≡ slot_of x)
    → (xs : List Slot) → All P xs → map means_item (map item xs) ≡ map slot_of xs
items-mean item means_item P f [] h = refl
items-mean item means_item P f (x ∷ xs) h =
    let first = f x (All-head P x xs h) in
    ap (λ m. m ∷ map means_item (map item xs)) first ∙ ap (λ ms. slot_of x ∷ ms) (items-mean item means_item P f xs (All-tail P x xs h))

list-means : (item : Slot → Json) (means_item : Json → Meaning) (x : Slot) (xs : List Slot) → x ≡ slot.List xs → map means_item (map item xs) ≡ map slot_of xs
    → Means (list_in means_item) (lists_of item) x
list-means item means_item x xs is h =
    let inside : slot_value (lists_of item) x ≡ array (map item xs) = ap (slot_value (lists_of item)) is ∙ ap (λ l. array (map item l)) (items_hidden-the_row-Slot-0 xs) in
    ap (list_in means_item) (array_layer (slot_value (lists_of item) x) (map item xs) inside)
    ∙ made slot.List (map means_item (map item xs)) xs h ∙ ap slot_of (sym is)

sized-means : (item : Slot → Json) (means_item : Json → Meaning) (size : ℕ) (x : Slot) (xs : List Slot) → x ≡ slot.List xs → length xs ≡ size → map means_item (map item xs) ≡ map slot_of xs
    → Means (sized_list_in size means_item) (lists_of item) x
sized-means item means_item size x xs is len h =
    let inside : slot_value (lists_of item) x ≡ array (map item xs) = ap (slot_value (lists_of item)) is ∙ ap (λ l. array (map item l)) (items_hidden-the_row-Slot-0 xs) in
    let test : eqb (length (map item xs)) size ≡ true = (unsigned_Decides (length (map item xs)) size).1 (length-map xs item ∙ len) in
    ap (sized_list_in size means_item) (array_layer (slot_value (lists_of item) x) (map item xs) inside)
    ∙ ap (λ b. cond b (made_of slot.List (together (map means_item (map item xs)))) (slot_of slot.Null)) test
    ∙ made slot.List (map means_item (map item xs)) xs h ∙ ap slot_of (sym is)

struct-means : (members : List Slot → List (List ℕ × Json)) (means_members : List (List ℕ × Json) → List Meaning) (x : Slot) (xs : List Slot) → x ≡ slot.Struct xs
    → means_members (gathered (members xs)) ≡ map slot_of xs → Means (struct_in means_members) (structs_of members) x
struct-means members means_members x xs is h =
    let all = gathered (members xs) in
    let inside : slot_value (structs_of members) x ≡ object all = ap (slot_value (structs_of members)) is ∙ ap (λ l. object (gathered (members l))) (items_hidden-the_row-Slot-0 xs) in
    ap (struct_in means_members) (object_layer (slot_value (structs_of members) x) (record { members = all }) inside)
    ∙ made slot.Struct (means_members all) xs h ∙ ap slot_of (sym is)

member-keys : {m : _} (fields : Row_of-Field m) (xs : List Slot) → FieldsOf fields xs → keys_of (member_values fields xs) ≡ row_names fields
member-keys end_of-Field [] h = refl
member-keys end_of-Field (x ∷ xs) h = absurd h
member-keys (more_of-Field name t is_nullable metadata rest) [] h = absurd h
member-keys (more_of-Field name t is_nullable metadata rest) (x ∷ xs) h = ap (λ l. name ∷ l) (member-keys rest xs h.1)

-- all members are there, and each is found by its name
all-mean : {m : _} (fields : Row_of-Field m) (xs : List Slot) → repeat (row_names fields) ≡ false → FieldsOf fields xs
    → (AllFound (member_values fields xs) (member_values fields xs) → member_meanings fields (member_values fields xs) ≡ map slot_of xs)
    → member_meanings fields (gathered (member_values fields xs)) ≡ map slot_of xs
all-mean fields xs once h f =
    let all = member_values fields xs in
    let names : repeat (keys_of all) ≡ false = ap repeat (member-keys fields xs h) ∙ once in
    ap (member_meanings fields) (gathered-same all names) ∙ f (all-found all names)

-- ---- by the type

no : {X : Type 0} → false ≡ true → X
no e = absurd (false≢true e)

-- a value of a dictionary
string-meant : (t : DataType) (x : Slot) → is_string_type t ≡ true → SlotOf t x → Means (reading t) (values t) x
string-meant types.Utf8 x e h = held (reading types.Utf8) (values types.Utf8) (IsString false) x refl h (string-means (values types.Utf8) false x)
string-meant types.LargeUtf8 x e h = held (reading types.LargeUtf8) (values types.LargeUtf8) (IsString true) x refl h (string-means (values types.LargeUtf8) true x)
string-meant _ x e h = no e

mutual
  meant : (t : DataType) (x : Slot) → has_text t ≡ true → has_reading t ≡ true → has_no_dates t ≡ true → names_twice t ≡ false → SlotOf t x → Means (reading t) (values t) x
  meant types.Null x e r d n h = held (reading types.Null) (values types.Null) (λ y. ⊥) x refl h (λ k. absurd k)
  meant types.Boolean x e r d n h = held (reading types.Boolean) (values types.Boolean) IsBoolean x refl h (boolean-means (values types.Boolean) x)
  meant types.Int8 x e r d n h = held (reading types.Int8) (values types.Int8) (IsSigned w8) x refl h (signed-means (negsuc 127) (pos 127) w8 x range-8)
  meant types.Int16 x e r d n h = held (reading types.Int16) (values types.Int16) (IsSigned w16) x refl h (signed-means (negsuc 32767) (pos 32767) w16 x range-16)
  meant types.Int32 x e r d n h = held (reading types.Int32) (values types.Int32) (IsSigned w32) x refl h (signed-means (negsuc 2147483647) (pos 2147483647) w32 x range-32)
  meant types.Int64 x e r d n h = held (reading types.Int64) (values types.Int64) (IsSigned w64) x refl h (signed-means (negsuc 9223372036854775807) (pos 9223372036854775807) w64 x range-64)
  meant types.UInt8 x e r d n h = held (reading types.UInt8) (values types.UInt8) (IsUnsigned 8) x refl h (unsigned-means (pos 0) (pos 255) 8 x (omega arith) unsigned-8)
  meant types.UInt16 x e r d n h = held (reading types.UInt16) (values types.UInt16) (IsUnsigned 16) x refl h (unsigned-means (pos 0) (pos 65535) 16 x (omega arith) unsigned-16)
  meant types.UInt32 x e r d n h = held (reading types.UInt32) (values types.UInt32) (IsUnsigned 32) x refl h (unsigned-means (pos 0) (pos 4294967295) 32 x (omega arith) unsigned-32)
  meant types.UInt64 x e r d n h = held (reading types.UInt64) (values types.UInt64) (IsUnsigned 64) x refl h (unsigned-means (pos 0) (pos 18446744073709551615) 64 x (omega arith) unsigned-64)
  meant types.Utf8 x e r d n h = held (reading types.Utf8) (values types.Utf8) (IsString false) x refl h (string-means (values types.Utf8) false x)
  meant types.LargeUtf8 x e r d n h = held (reading types.LargeUtf8) (values types.LargeUtf8) (IsString true) x refl h (string-means (values types.LargeUtf8) true x)
  meant types.Date32 x e r d n h = no d
  meant types.Date64 x e r d n h = no d
  meant (types.Timestamp unit timezone) x e r d n h = no d
  meant (types.FixedSizeList' shape item size) x e r d n h =
      let have = (and_parts (not (eqb size 0)) (have_reading item) r).1 in
      held (sized_list_in size (item_meaning item)) (lists_of (item_value item)) (IsFixedListOfSlots size (ItemOf item)) x refl h
      (λ k. sized-means (item_value item) (item_meaning item) size x k.0 k.1 k.2 (items-mean (item_value item) (item_meaning item) (ItemOf item) (item_meant item e have d n) k.0 k.3))
  meant (types.Dictionary' key shape (more_of-DataType t rest) is_sorted) x e r d n h = string-meant t x e h
  meant (types.List' shape item) x e r d n h =
      held (list_in (item_meaning item)) (lists_of (item_value item)) (IsListOfSlots false (ItemOf item)) x refl h
      (λ k. list-means (item_value item) (item_meaning item) x k.0 k.1 (items-mean (item_value item) (item_meaning item) (ItemOf item) (item_meant item e r d n) k.0 k.3))
  meant (types.LargeList' shape item) x e r d n h =
      held (list_in (item_meaning item)) (lists_of (item_value item)) (IsListOfSlots true (ItemOf item)) x refl h
      (λ k. list-means (item_value item) (item_meaning item) x k.0 k.1 (items-mean (item_value item) (item_meaning item) (ItemOf item) (item_meant item e r d n) k.0 k.3))
  meant (types.Struct' shape fields) x e r d n h =
      held (struct_in (member_meanings fields)) (structs_of (member_values fields)) (IsStructOfSlots (FieldsOf fields)) x refl h
      (λ k.
      let names = or_parts (repeat (row_names fields)) (row_names_twice fields) n in
      let have = (and_parts (has_field fields) (have_reading fields) r).1 in
      struct-means (member_values fields) (member_meanings fields) x k.0 k.1
      (all-mean fields k.0 names.0 k.2 (fields_meant fields (member_values fields k.0) k.0 e have d names.1 k.2)))
  meant _ x e r d n h = no e

  item_meant : {m : _} (item : Row_of-Field m) → have_texts item ≡ true → have_reading item ≡ true → have_no_dates item ≡ true → row_names_twice item ≡ false
      → (x : Slot) → ItemOf item x → item_meaning item (item_value item x) ≡ slot_of x
  item_meant end_of-Field e r d n x h = absurd h
  item_meant (more_of-Field name t is_nullable metadata rest) e r d n x h =
      meant t x (and_parts _ _ e).0 (and_parts _ _ r).0 (and_parts _ _ d).0 (or_parts _ _ n).0 h

  -- the members of an object that has them all
  fields_meant : {m : _} (fields : Row_of-Field m) (all : List (List ℕ × Json)) (xs : List Slot) → have_texts fields ≡ true → have_reading fields ≡ true → have_no_dates fields ≡ true → row_names_twice fields ≡ false
      → FieldsOf fields xs → AllFound all (member_values fields xs) → member_meanings fields all ≡ map slot_of xs
  fields_meant end_of-Field all [] e r d n h f = refl
  fields_meant end_of-Field all (x ∷ xs) e r d n h f = absurd h
  fields_meant (more_of-Field name t is_nullable metadata rest) all [] e r d n h f = absurd h
  fields_meant (more_of-Field name t is_nullable metadata rest) all (x ∷ xs) e r d n h f =
      let first = meant t x (and_parts _ _ e).0 (and_parts _ _ r).0 (and_parts _ _ d).0 (or_parts _ _ n).0 h.0 in
      let others = fields_meant rest all xs (and_parts _ _ e).1 (and_parts _ _ r).1 (and_parts _ _ d).1 (or_parts _ _ n).1 h.1 f.1 in
      ap (λ o. reading t (out-Value (or_null o)) ∷ member_meanings rest all) f.0
      ∙ ap (λ m. m ∷ member_meanings rest all) first
      ∙ ap (λ ms. slot_of x ∷ ms) others

pub values_mean_slots : ValuesMeanSlots
values_mean_slots t x t_is h = meant t x t_is.text t_is.reading t_is.no_dates t_is.names h

-- ---- slots without dates are in range

any-in : (x : Slot) → slot_in_range (integers_in (λ _. true)) x ≡ true
any-in Null = refl
any-in (Boolean b) = refl
any-in (Integer n) = refl
any-in (String s) = refl
any-in (Binary s) = refl
any-in (List' m row) = refl
any-in (Struct' m row) = refl

items-in : (q : Slot → Bool) → ((x : Slot) → q x ≡ true) → (xs : List Slot) → list_all q xs ≡ true
items-in q f [] = refl
items-in q f (x ∷ xs) = and_from _ _ (f x) (items-in q f xs)

list-in : (q : Slot → Bool) → ((x : Slot) → q x ≡ true) → (x : Slot) → slot_in_range (lists_in q) x ≡ true
list-in q f Null = refl
list-in q f (Boolean b) = refl
list-in q f (Integer n) = refl
list-in q f (String s) = refl
list-in q f (Binary s) = refl
list-in q f (List' m row) = items-in q f (items-the_row-Slot _ row)
list-in q f (Struct' m row) = refl

struct-in : (q : List Slot → Bool) → ((xs : List Slot) → q xs ≡ true) → (x : Slot) → slot_in_range (structs_in q) x ≡ true
struct-in q f Null = refl
struct-in q f (Boolean b) = refl
struct-in q f (Integer n) = refl
struct-in q f (String s) = refl
struct-in q f (Binary s) = refl
struct-in q f (List' m row) = refl
struct-in q f (Struct' m row) = f (items-the_row-Slot _ row)

value-ranged : (t : DataType) → is_value_type t ≡ true → (x : Slot) → in_range t x ≡ true
value-ranged types.Utf8 r x = any-in x
value-ranged types.LargeUtf8 r x = any-in x
value-ranged types.Int8 r x = any-in x
value-ranged types.Int16 r x = any-in x
value-ranged types.Int32 r x = any-in x
value-ranged types.Int64 r x = any-in x
value-ranged _ r x = no r

mutual
  pub ranged : (t : DataType) → has_reading t ≡ true → has_no_dates t ≡ true → (x : Slot) → in_range t x ≡ true
  ranged types.Date32 r d x = no d
  ranged types.Date64 r d x = no d
  ranged (types.Timestamp unit timezone) r d x = no d
  ranged (types.FixedSizeList' shape item size) r d x = list-in (item_in_range item) (item_ranged item (and_parts (not (eqb size 0)) (have_reading item) r).1 d) x
  ranged (types.Dictionary' key shape (more_of-DataType t rest) is_sorted) r d x = value-ranged t r x
  ranged (types.List' shape item) r d x = list-in (item_in_range item) (item_ranged item r d) x
  ranged (types.LargeList' shape item) r d x = list-in (item_in_range item) (item_ranged item r d) x
  ranged (types.Struct' shape fields) r d x = struct-in (fields_in_range fields) (fields_ranged fields (and_parts (has_field fields) (have_reading fields) r).1 d) x
  ranged _ r d x = any-in x

  item_ranged : {m : _} (item : Row_of-Field m) → have_reading item ≡ true → have_no_dates item ≡ true → (x : Slot) → item_in_range item x ≡ true
  item_ranged end_of-Field r d x = refl
  item_ranged (more_of-Field name t is_nullable metadata rest) r d x = ranged t (and_parts _ _ r).0 (and_parts _ _ d).0 x

  fields_ranged : {m : _} (fields : Row_of-Field m) → have_reading fields ≡ true → have_no_dates fields ≡ true → (xs : List Slot) → fields_in_range fields xs ≡ true
  fields_ranged end_of-Field r d xs = refl
  fields_ranged (more_of-Field name t is_nullable metadata rest) r d [] = refl
  fields_ranged (more_of-Field name t is_nullable metadata rest) r d (x ∷ xs) =
      and_from _ _ (ranged t (and_parts _ _ r).0 (and_parts _ _ d).0 x) (fields_ranged rest (and_parts _ _ r).1 (and_parts _ _ d).1 xs)

pub texts_read_back : TextsReadBack
texts_read_back t x v t_is names h is =
    let own = texts_are_json t x t_is.text names h (ranged t t_is.reading t_is.no_dates x) in
    ap (means (reading t)) (one_value (text t x) v (value t x) is own) ∙ values_mean_slots t x t_is h

-- ---- columns

abbrev slot_in : Meaning → Slot
slot_in (slot_of x) = x
slot_in _ = slot.Null

slots-again : (xs : List Slot) → map slot_in (map slot_of xs) ≡ xs
slots-again [] = refl
slots-again (x ∷ xs) = ap (λ l. x ∷ l) (slots-again xs)

pub columns_read_back : ColumnsReadBack
columns_read_back t xs ys t_is h are =
    let own = items-mean (value t) (means (reading t)) (SlotOf t) (λ x k. values_mean_slots t x t_is k) xs h in
    sym (slots-again ys) ∙ ap (map slot_in) (sym are ∙ own) ∙ slots-again xs
