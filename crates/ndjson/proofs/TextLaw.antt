-- The text of a slot is a JSON text that stands for the slot's value.
use Rattle.std.proofs.Common.{◌≡◌, inl, inr, ℕ, zero, suc, ◌≤◌, Bool, true, false, ℤ, pos, List, [], ◌∷◌, map, codes, if◌then◌else◌, refl, sym, ap, ◌∙◌, subst, append-nil, arith}
use mir.Syntax.{Width, w8, w16, w32, w64}
use Rattle.std.proofs.lemmas.Bool.{and_parts, false≢true}
use Rattle.std.proofs.lemmas.List.Elements.{All-head, All-tail}
use Rattle.std.specs.Fmt.{signed_decimal}
use Rattle.std.specs.List.{All, list_all}
use Rattle.std.specs.Str.{IsUtf8}
use Rattle.arrow_core.specs.declared.slot.Slot.{Slot, Null, Boolean, Integer, String, Binary, List', Struct', items_hidden-the_row-Slot-0}
use Rattle.arrow_core.specs.declared.slot.Slot.TheVariants as slot
use Rattle.arrow_core.specs.declared.types.DataType.{DataType, Row_of-Field, end_of-Field, more_of-Field, Row_of-DataType, end_of-DataType, more_of-DataType}
use Rattle.arrow_core.specs.declared.types.DataType as types
use Rattle.arrow_array.specs.SlotTypes.{IfHeld, IsBoolean, IsSigned, IsUnsigned, IsString, IsListOfSlots, IsFixedListOfSlots, IsStructOfSlots, SlotOf, ItemOf, FieldsOf}
use Rattle.json_dates.specs.Civil.{date_text, is_printed_day}
use Rattle.json_dates.specs.Times.{day_of_milliseconds, date_json, is_printed_timestamp, quoted, timestamp_json, timestamp_text}
use Rattle.json_text.specs.JsonText.{Form, array, object, form, item_text, member_texts, null, of_integers, of_lists, of_structs, slot_text, text, zone_offset}
use Rattle.json_text.specs.Refusals.{has_text, have_texts, is_string_type, in_range, item_in_range, fields_in_range, slot_in_range, integers_in, lists_in, structs_in}
use Rattle.json_tree.specs.Grammar.{Member, Encodes, IsText}
use Rattle.json_tree.specs.Tree.{Json, string, boolean}
use Rattle.json_tree.specs.Tree as tree
use Rattle.ndjson.specs.Depth.{deepest, depth}
use Rattle.ndjson.specs.Laws.{HasUtf8Names, HaveUtf8Names, TextsAreJson, TextsAreShallow}
use Rattle.ndjson.specs.Values.{Values, gathered, integers_as, item_value, lists_of, member_values, slot_value, structs_of, value, values, whole}
use Rattle.ndjson.proofs.Clean.{clean-after, clean-nil}
use Rattle.ndjson.proofs.Gathered.{gathered-gathers}
use Rattle.ndjson.proofs.Numerals.{number-good, small-signed, small-unsigned}
use Rattle.ndjson.proofs.Printed.{Printed, date-json, printed-day, printed-good, printed-timestamp, timestamp-json}
use Rattle.ndjson.proofs.Written.{AllBy, Good, Item, array-good, item-good, member-good, object-good, of_scalar, string-good}

-- ---- slots with nothing beneath them

null-good : (d : ℕ) → Good d tree.null null
null-good d =
    (clean-after 110 _ (omega arith) refl (clean-after 117 _ (omega arith) refl (clean-after 108 _ (omega arith) refl (clean-after 108 _ (omega arith) refl clean-nil))), of_scalar d tree.null null (inl (refl, refl)))

boolean-good : (d : ℕ) (b : Bool) → Good d (boolean b) (if b then codes "true" else codes "false")
boolean-good d true =
    (clean-after 116 _ (omega arith) refl (clean-after 114 _ (omega arith) refl (clean-after 117 _ (omega arith) refl (clean-after 101 _ (omega arith) refl clean-nil))), of_scalar d (boolean true) (codes "true") (inr (inl (refl, refl))))
boolean-good d false =
    (clean-after 102 _ (omega arith) refl (clean-after 97 _ (omega arith) refl (clean-after 108 _ (omega arith) refl (clean-after 115 _ (omega arith) refl (clean-after 101 _ (omega arith) refl clean-nil)))), of_scalar d (boolean false) (codes "false") (inr (inr (inl (refl, refl)))))

module _ (d : ℕ) (v : Values) (f : Form) where
  -- what a slot is, by its values and its form
  abbrev GoodSlot : Slot → Type 0
  GoodSlot x = Good d (slot_value v x) (slot_text f x)

  held : (P : Slot → Type 0) (x : Slot) → IfHeld P x → (P x → GoodSlot x) → GoodSlot x
  held P Null h k = null-good d
  held P (Boolean b) h k = k (h refl)
  held P (Integer n) h k = k (h refl)
  held P (String s) h k = k (h refl)
  held P (Binary s) h k = k (h refl)
  held P (List' m row) h k = k (h refl)
  held P (Struct' m row) h k = k (h refl)

  boolean-slot : (x : Slot) → IsBoolean x → GoodSlot x
  boolean-slot x h = subst GoodSlot (sym h.1) (boolean-good d h.0)

  string-slot : (is_large : Bool) (x : Slot) → IsString is_large x → GoodSlot x
  string-slot is_large x h = subst GoodSlot (sym h.1) (string-good d h.0 h.2)

module _ (d : ℕ) where
  signed-slot : (w : Width) (x : Slot) → IsSigned w x → GoodSlot d (integers_as whole) (of_integers signed_decimal) x
  signed-slot w x h = subst (GoodSlot d (integers_as whole) (of_integers signed_decimal)) (sym h.1) (number-good d h.0 (small-signed w h.0 h.2))

  unsigned-slot : (bits : ℕ) (x : Slot) → bits ≤ 64 → IsUnsigned bits x → GoodSlot d (integers_as whole) (of_integers signed_decimal) x
  unsigned-slot bits x l h = subst (GoodSlot d (integers_as whole) (of_integers signed_decimal)) (sym h.1) (number-good d (pos h.0) (small-unsigned bits h.0 l h.2))

  -- a date or a timestamp
  printed-slot : (w : Width) (json words : ℤ → List ℕ) (is_printed : ℤ → Bool)
      → ((n : ℤ) → is_printed n ≡ true → json n ≡ quoted (words n)) → ((n : ℤ) → Printed (words n))
      → (x : Slot) → slot_in_range (integers_in is_printed) x ≡ true → IsSigned w x
      → GoodSlot d (integers_as (λ n. string (words n))) (of_integers json) x
  printed-slot w json words is_printed is printed x e h =
      let r : is_printed h.0 ≡ true = ap (slot_in_range (integers_in is_printed)) (sym h.1) ∙ e in
      subst (GoodSlot d (integers_as (λ n. string (words n))) (of_integers json)) (sym h.1)
      (subst (λ bytes. Good d (string (words h.0)) bytes) (sym (is h.0 r)) (printed-good d (words h.0) (printed h.0)))

-- ---- lists and structs

as-is : (d : ℕ) (v w : Json) (s t : List ℕ) → v ≡ w → s ≡ t → Good d w t → Good d v s
as-is d v w s t e f h = subst (λ y. Good d y s) (sym e) (subst (λ z. Good d w z) (sym f) h)

module _ (d : ℕ) (item : Slot → Json) (words : Slot → List ℕ) (q : Slot → Bool) (P : Slot → Type 0) (good : (x : Slot) → P x → q x ≡ true → Good d (item x) (words x)) where
  each : (xs : List Slot) → All P xs → list_all q xs ≡ true → AllBy (Item d) (map item xs) (map words xs)
  each [] h e = tt
  each (x ∷ xs) h e =
      let e = and_parts _ _ e in
      (item-good d (item x) (words x) (good x (All-head P x xs h) e.0), each xs (All-tail P x xs h) e.1)

  list-slot : (x : Slot) (xs : List Slot) → x ≡ slot.List xs → All P xs → slot_in_range (lists_in q) x ≡ true
      → GoodSlot (suc d) (lists_of item) (of_lists words) x
  list-slot x xs is h e =
      let inside = items_hidden-the_row-Slot-0 xs in
      let r : list_all q xs ≡ true = ap (list_all q) (sym inside) ∙ ap (slot_in_range (lists_in q)) (sym is) ∙ e in
      as-is (suc d) (slot_value (lists_of item) x) (tree.array (map item xs)) (slot_text (of_lists words) x) (array (map words xs))
      (ap (slot_value (lists_of item)) is ∙ ap (λ l. tree.array (map item l)) inside)
      (ap (slot_text (of_lists words)) is ∙ ap (λ l. array (map words l)) inside)
      (array-good d (map item xs) (map words xs) (each xs h r))

struct-slot : (d : ℕ) (members : List Slot → List (List ℕ × Json)) (words : List Slot → List (List ℕ)) (q : List Slot → Bool) (x : Slot) (xs : List Slot) → x ≡ slot.Struct xs
    → slot_in_range (structs_in q) x ≡ true → (q xs ≡ true → AllBy (Member (Encodes d)) (members xs) (words xs))
    → GoodSlot (suc d) (structs_of members) (of_structs words) x
struct-slot d members words q x xs is e good =
    let inside = items_hidden-the_row-Slot-0 xs in
    let r : q xs ≡ true = ap q (sym inside) ∙ ap (slot_in_range (structs_in q)) (sym is) ∙ e in
    as-is (suc d) (slot_value (structs_of members) x) (tree.object (gathered (members xs))) (slot_text (of_structs words) x) (object (words xs))
    (ap (slot_value (structs_of members)) is ∙ ap (λ l. tree.object (gathered (members l))) inside)
    (ap (slot_text (of_structs words)) is ∙ ap (λ l. object (words l)) inside)
    (object-good d (members xs) (gathered (members xs)) (words xs) (good r) (gathered-gathers (members xs)))

-- ---- by the type

no-text : {X : Type 0} → false ≡ true → X
no-text e = absurd (false≢true e)

-- a dictionary's values are strings
dictionary-slot : (d : ℕ) (t : DataType) (x : Slot) → is_string_type t ≡ true → SlotOf t x → Good d (value t x) (text t x)
dictionary-slot d types.Utf8 x e h = held d (values types.Utf8) (form types.Utf8) (IsString false) x h (string-slot d (values types.Utf8) (form types.Utf8) false x)
dictionary-slot d types.LargeUtf8 x e h = held d (values types.LargeUtf8) (form types.LargeUtf8) (IsString true) x h (string-slot d (values types.LargeUtf8) (form types.LargeUtf8) true x)
dictionary-slot d _ x e h = no-text e

mutual
  pub written : (t : DataType) (d : ℕ) (x : Slot) → depth t ≤ d → has_text t ≡ true → HasUtf8Names t → SlotOf t x → in_range t x ≡ true → Good d (value t x) (text t x)
  written types.Null d x l e n h r = held d (values types.Null) (form types.Null) (λ y. ⊥) x h (λ k. absurd k)
  written types.Boolean d x l e n h r = held d (values types.Boolean) (form types.Boolean) IsBoolean x h (boolean-slot d (values types.Boolean) (form types.Boolean) x)
  written types.Int8 d x l e n h r = held d (values types.Int8) (form types.Int8) (IsSigned w8) x h (signed-slot d w8 x)
  written types.Int16 d x l e n h r = held d (values types.Int16) (form types.Int16) (IsSigned w16) x h (signed-slot d w16 x)
  written types.Int32 d x l e n h r = held d (values types.Int32) (form types.Int32) (IsSigned w32) x h (signed-slot d w32 x)
  written types.Int64 d x l e n h r = held d (values types.Int64) (form types.Int64) (IsSigned w64) x h (signed-slot d w64 x)
  written types.UInt8 d x l e n h r = held d (values types.UInt8) (form types.UInt8) (IsUnsigned 8) x h (unsigned-slot d 8 x (omega arith))
  written types.UInt16 d x l e n h r = held d (values types.UInt16) (form types.UInt16) (IsUnsigned 16) x h (unsigned-slot d 16 x (omega arith))
  written types.UInt32 d x l e n h r = held d (values types.UInt32) (form types.UInt32) (IsUnsigned 32) x h (unsigned-slot d 32 x (omega arith))
  written types.UInt64 d x l e n h r = held d (values types.UInt64) (form types.UInt64) (IsUnsigned 64) x h (unsigned-slot d 64 x (omega arith))
  written types.Date32 d x l e n h r = held d (values types.Date32) (form types.Date32) (IsSigned w32) x h (printed-slot d w32 date_json date_text is_printed_day date-json printed-day x r)
  written types.Date64 d x l e n h r =
      held d (values types.Date64) (form types.Date64) (IsSigned w64) x h (printed-slot d w64 (λ k. date_json (day_of_milliseconds k)) (λ k. date_text (day_of_milliseconds k)) (λ k. is_printed_day (day_of_milliseconds k)) (λ k. date-json (day_of_milliseconds k)) (λ k. printed-day (day_of_milliseconds k)) x r)
  written (types.Timestamp unit timezone) d x l e n h r =
      let offset = zone_offset timezone in
      held d (values (types.Timestamp unit timezone)) (form (types.Timestamp unit timezone)) (IsSigned w64) x h (printed-slot d w64 (timestamp_json unit offset) (timestamp_text unit offset) (is_printed_timestamp unit offset) (timestamp-json unit offset) (printed-timestamp unit offset) x r)
  written types.Utf8 d x l e n h r = held d (values types.Utf8) (form types.Utf8) (IsString false) x h (string-slot d (values types.Utf8) (form types.Utf8) false x)
  written types.LargeUtf8 d x l e n h r = held d (values types.LargeUtf8) (form types.LargeUtf8) (IsString true) x h (string-slot d (values types.LargeUtf8) (form types.LargeUtf8) true x)
  written (types.Dictionary' key shape (more_of-DataType t rest) is_sorted) d x l e n h r = dictionary-slot d t x e h
  written (types.List' shape item) zero x l e n h r = absurd (omega (arith, l))
  written (types.List' shape item) (suc d) x l e n h r =
      held (suc d) (values (types.List' shape item)) (form (types.List' shape item)) (IsListOfSlots false (ItemOf item)) x h (λ k. list-slot d (item_value item) (item_text item) (item_in_range item) (ItemOf item) (item_written item d (omega (arith, l)) e n) x k.0 k.1 k.3 r)
  written (types.LargeList' shape item) zero x l e n h r = absurd (omega (arith, l))
  written (types.LargeList' shape item) (suc d) x l e n h r =
      held (suc d) (values (types.LargeList' shape item)) (form (types.LargeList' shape item)) (IsListOfSlots true (ItemOf item)) x h (λ k. list-slot d (item_value item) (item_text item) (item_in_range item) (ItemOf item) (item_written item d (omega (arith, l)) e n) x k.0 k.1 k.3 r)
  written (types.FixedSizeList' shape item size) zero x l e n h r = absurd (omega (arith, l))
  written (types.FixedSizeList' shape item size) (suc d) x l e n h r =
      held (suc d) (values (types.FixedSizeList' shape item size)) (form (types.FixedSizeList' shape item size)) (IsFixedListOfSlots size (ItemOf item)) x h (λ k. list-slot d (item_value item) (item_text item) (item_in_range item) (ItemOf item) (item_written item d (omega (arith, l)) e n) x k.0 k.1 k.3 r)
  written (types.Struct' shape fields) zero x l e n h r = absurd (omega (arith, l))
  written (types.Struct' shape fields) (suc d) x l e n h r =
      held (suc d) (values (types.Struct' shape fields)) (form (types.Struct' shape fields)) (IsStructOfSlots (FieldsOf fields)) x h (λ k. struct-slot d (member_values fields) (member_texts fields) (fields_in_range fields) x k.0 k.1 r (fields_written fields d k.0 (omega (arith, l)) e n k.2))
  written _ d x l e n h r = no-text e

  item_written : {m : _} (item : Row_of-Field m) (d : ℕ) → deepest item ≤ d → have_texts item ≡ true → HaveUtf8Names item
      → (x : Slot) → ItemOf item x → item_in_range item x ≡ true → Good d (item_value item x) (item_text item x)
  item_written end_of-Field d l e n x h r = absurd h
  item_written (more_of-Field name t is_nullable metadata rest) d l e n x h r = written t d x (omega (arith, l)) (and_parts _ _ e).0 n.1 h r

  fields_written : {m : _} (fields : Row_of-Field m) (d : ℕ) (xs : List Slot) → deepest fields ≤ d → have_texts fields ≡ true → HaveUtf8Names fields
      → FieldsOf fields xs → fields_in_range fields xs ≡ true → AllBy (Member (Encodes d)) (member_values fields xs) (member_texts fields xs)
  fields_written end_of-Field d [] l e n h r = tt
  fields_written end_of-Field d (x ∷ xs) l e n h r = absurd h
  fields_written (more_of-Field name t is_nullable metadata rest) d [] l e n h r = absurd h
  fields_written (more_of-Field name t is_nullable metadata rest) d (x ∷ xs) l e n h r =
      let e = and_parts _ _ e in
      let r = and_parts _ _ r in
      (member-good d name (value t x) (text t x) n.0 (written t d x (omega (arith, l)) e.0 n.1 h.0 r.0), fields_written rest d xs (omega (arith, l)) e.1 n.2 h.1 r.1)

-- ---- whole texts

pub text-of : (d : ℕ) (v : Json) (bytes : List ℕ) → Good d v bytes → IsUtf8 bytes × IsText d v bytes
text-of d v bytes h = (h.0.utf8, (bytes, [], ([], bytes, tt, h.1, refl), tt, sym (append-nil bytes)))

pub texts_are_json : TextsAreJson
texts_are_json t x e n h r = let w = text-of (depth t) (value t x) (text t x) (written t (depth t) x (omega arith) e n h r) in (w.0, (depth t, w.1))

pub texts_are_shallow : TextsAreShallow
texts_are_shallow t x e n h r l = text-of 128 (value t x) (text t x) (written t 128 x l e n h r)
