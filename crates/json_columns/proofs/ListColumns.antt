-- Columns of lists, by the column of their items.
use Rattle.std.proofs.Common.{◌≡◌, inl, inr, ℕ, zero, suc, ◌+◌, ◌≤◌, Bool, List, [], ◌∷◌, ◌++◌, length, take, drop, map, refl, sym, ap, ◌∙◌, subst, arith, Option, Result, Ok, Err, IfOk, IfErr}
use Rattle.std.proofs.lemmas.List.{length-drop, length-map}
use Rattle.arrow_array.specs.Arrays.{array_slots}
use Rattle.arrow_array.specs.declared.array.Array.{Array}
use Rattle.arrow_core.specs.Errors.{OnlyOutOfMemory}
use Rattle.arrow_core.specs.declared.error.Error.{Error}
use Rattle.arrow_flat.specs.Nested.{items_of, list_len, list_slot, lists_from, slots_from}
use Rattle.arrow_flat.proofs.ListOffsets.{slots_from-cut}
use Rattle.arrow_core.specs.Numbers.{greatest_offset}
use Rattle.arrow_core.specs.declared.slot.Slot.{Slot}
use Rattle.arrow_core.specs.declared.slot.Slot.TheVariants as slot
use Rattle.arrow_core.specs.declared.types.Field.{Field}
use Rattle.json_tree.specs.Tree.{Json}
use Rattle.json_tree.specs.declared.value.Value.{out-Value}
use Rattle.json_tree.specs.declared.value.Value.TheOpen as layer
use Rattle.json_flat.specs.Meaning.{Meaning, Layer, slot_of, text_timestamp}
use Rattle.json_flat.specs.Columns.{AreSlotsOf, IsColumnFault, IsNoSlot, means}
use Rattle.json_columns.specs.Faults.{IsCountFault, IsFault, IsListFault}
use Rattle.json_columns.specs.Gathered.{all_items, items_in, len_in, list_lens}
use Rattle.json_flat.specs.Reading.{list_in, reading}
use Rattle.json_columns.proofs.Anywhere.{AnyOf, from_any, to_any, of_append, in_map}
use Rattle.json_columns.proofs.Gathering.{counted}
use Rattle.json_columns.proofs.Together.{made, made_text, made_none}

-- two runs of one list
pub cut : {A B C : Type 0} (f : A → C) (g : B → C) (xs more : List A) (ys : List B) → map f (xs ++ more) ≡ map g ys
    → (map f xs ≡ map g (take (length xs) ys)) × (map f more ≡ map g (drop (length xs) ys)) × (length xs ≤ length ys)
cut f g [] more ys e = (refl, e, omega arith)
cut f g (x ∷ xs) more [] e = absurd cc
cut f g (x ∷ xs) more (y ∷ ys) e =
    let first : f x ≡ g y = cc in
    let others : map f (xs ++ more) ≡ map g ys = cc in
    let r = cut f g xs more ys others in
    ((λ i. first i ∷ r.0 i), r.1, omega (arith, r.2))

nil_drop : {A : Type 0} (xs : List A) (n : ℕ) → length xs ≤ 0 → drop n xs ≡ xs
nil_drop [] zero l = refl
nil_drop [] (suc n) l = refl
nil_drop (x ∷ xs) n l = absurd (omega (arith, l))

empty_drop : {A : Type 0} (xs : List A) (s n : ℕ) → length xs ≤ 0 → drop n (drop s xs) ≡ drop (s + n) xs
empty_drop xs s n l = ap (λ ys. drop n ys) (nil_drop xs s l) ∙ nil_drop xs n l ∙ sym (nil_drop xs (s + n) l)

pub drop_drop : {A : Type 0} (s n : ℕ) (xs : List A) → drop n (drop s xs) ≡ drop (s + n) xs
drop_drop zero n xs = let e : n ≡ zero + n = omega arith in ap (λ k. drop k xs) e
drop_drop (suc s) n [] = empty_drop [] (suc s) n (omega arith)
drop_drop (suc s) n (x ∷ xs) = let e : suc (s + n) ≡ suc s + n = omega arith in drop_drop s n xs ∙ ap (λ k. drop k (x ∷ xs)) e

module _ (r : Layer → Meaning) where
  -- one value, and the items of those after it
  first_list : (l : Layer) (vs : List Json) (start : ℕ) (cs : List Slot) → start ≤ length cs → map (means r) (items_in l ++ all_items vs) ≡ map slot_of (drop start cs)
      → (list_in (means r) l ≡ slot_of (list_slot cs start (len_in l))) × (map (means r) (all_items vs) ≡ map slot_of (drop (start + list_len (len_in l)) cs)) × (start + list_len (len_in l) ≤ length cs)
  first_list (layer.Array items) vs start cs b e =
      let s = cut (means r) slot_of items (all_items vs) (drop start cs) e in
      let within : start + length items ≤ length cs = omega (arith, s.2, b, length-drop start cs) in (
        made slot.List (map (means r) items) (slots_from cs start (length items)) (s.0 ∙ ap (map slot_of) (sym (slots_from-cut cs start (length items) within))),
        s.1 ∙ ap (map slot_of) (drop_drop start (length items) cs),
        within,
      )
  first_list layer.Null vs start cs b e = let z : start ≡ start + 0 = omega arith in (refl, e ∙ ap (λ k. map slot_of (drop k cs)) z, omega (arith, b))
  first_list (layer.Bool x) vs start cs b e = let z : start ≡ start + 0 = omega arith in (refl, e ∙ ap (λ k. map slot_of (drop k cs)) z, omega (arith, b))
  first_list (layer.Number n) vs start cs b e = let z : start ≡ start + 0 = omega arith in (refl, e ∙ ap (λ k. map slot_of (drop k cs)) z, omega (arith, b))
  first_list (layer.String text) vs start cs b e = let z : start ≡ start + 0 = omega arith in (refl, e ∙ ap (λ k. map slot_of (drop k cs)) z, omega (arith, b))
  first_list (layer.Object o) vs start cs b e = let z : start ≡ start + 0 = omega arith in (refl, e ∙ ap (λ k. map slot_of (drop k cs)) z, omega (arith, b))

  lists_after : (vs : List Json) (start : ℕ) (cs : List Slot) → start ≤ length cs → map (means r) (all_items vs) ≡ map slot_of (drop start cs)
      → map (means (list_in (means r))) vs ≡ map slot_of (lists_from start (list_lens vs) cs)
  lists_after [] start cs b e = refl
  lists_after (v ∷ vs) start cs b e =
      let s = first_list (out-Value v) vs start cs b e in
      λ i. s.0 i ∷ lists_after vs (start + list_len (len_in (out-Value v))) cs s.2 s.1 i

  -- the lists of the items' slots
  pub list_slots : (vs : List Json) (cs : List Slot) → AreSlotsOf r (all_items vs) cs → AreSlotsOf (list_in (means r)) vs (lists_from 0 (list_lens vs) cs)
  list_slots vs cs e = lists_after vs 0 cs (omega arith) e

  text_in_list : (l : Layer) → AnyOf (λ v. means r v ≡ text_timestamp) (items_in l) → list_in (means r) l ≡ text_timestamp
  text_in_list (layer.Array items) h = made_text slot.List (map (means r) items) (in_map (λ m. m ≡ text_timestamp) (means r) items h)
  text_in_list layer.Null h = absurd h
  text_in_list (layer.Bool x) h = absurd h
  text_in_list (layer.Number n) h = absurd h
  text_in_list (layer.String text) h = absurd h
  text_in_list (layer.Object o) h = absurd h

  none_in_list : (l : Layer) → AnyOf (λ v. IsNoSlot (means r v)) (items_in l) → IsNoSlot (list_in (means r) l)
  none_in_list (layer.Array items) h = made_none slot.List (map (means r) items) (in_map IsNoSlot (means r) items h)
  none_in_list layer.Null h = absurd h
  none_in_list (layer.Bool x) h = absurd h
  none_in_list (layer.Number n) h = absurd h
  none_in_list (layer.String text) h = absurd h
  none_in_list (layer.Object o) h = absurd h

  text_in_lists : (vs : List Json) → AnyOf (λ v. means r v ≡ text_timestamp) (all_items vs) → AnyOf (λ v. means (list_in (means r)) v ≡ text_timestamp) vs
  text_in_lists [] h = absurd h
  text_in_lists (v ∷ vs) h = elim (of_append (λ w. means r w ≡ text_timestamp) (items_in (out-Value v)) (all_items vs) h) [
    | inl a ↦ inl (text_in_list (out-Value v) a)
    | inr b ↦ inr (text_in_lists vs b)
  ]

  none_in_lists : (vs : List Json) → AnyOf (λ v. IsNoSlot (means r v)) (all_items vs) → AnyOf (λ v. IsNoSlot (means (list_in (means r)) v)) vs
  none_in_lists [] h = absurd h
  none_in_lists (v ∷ vs) h = elim (of_append (λ w. IsNoSlot (means r w)) (items_in (out-Value v)) (all_items vs) h) [
    | inl a ↦ inl (none_in_list (out-Value v) a)
    | inr b ↦ inr (none_in_lists vs b)
  ]

-- a fault of the items is one of the lists
pub item_fault : (is_large : Bool) (f : Field) (vs : List Json) (e : Error) → IsFault f.data_type (all_items vs) e → IsListFault is_large f vs e
item_fault is_large f vs e (inl h) = inl h
item_fault is_large f vs e (inr (inl h)) =
    let r = reading f.data_type in
    inr (inl (h.0, to_any (λ v. means (list_in (means r)) v ≡ text_timestamp) vs (text_in_lists r vs (from_any (λ v. means r v ≡ text_timestamp) (all_items vs) h.1))))
item_fault is_large f vs e (inr (inr h)) =
    let r = reading f.data_type in
    inr (inr (
      h.0,
      elim h.1 [
        | inl a ↦ inl (to_any (λ v. IsNoSlot (means (list_in (means r)) v)) vs (none_in_lists r vs (from_any (λ v. IsNoSlot (means r v)) (all_items vs) a)))
        | inr b ↦ inr (inr b)
      ],
    ))

-- and so are too many items
pub count_fault : (is_large : Bool) (f : Field) (vs : List Json) (e : Error) → IsCountFault (greatest_offset is_large) (length (all_items vs)) e → IsListFault is_large f vs e
count_fault is_large f vs e (inl h) = inl h
count_fault is_large f vs e (inr h) = inr (inr (h.0, inr (inl h.1)))

-- a column has a slot for each value
pub column_length : (r : Layer → Meaning) (vs : List Json) (ss : List Slot) → AreSlotsOf r vs ss → length ss ≡ length vs
column_length r vs ss h = omega (arith, ap length h, length-map vs (means r), length-map ss slot_of)

-- the items' column has the items of all lists
pub items_enough : (r : Layer → Meaning) (vs ws : List Json) (ls : List (Option ℕ)) (ss : List Slot) → ls ≡ list_lens vs → ws ≡ all_items vs → AreSlotsOf r ws ss → items_of ls ≤ length ss
items_enough r vs ws ls ss le we h = omega (arith, ap items_of le, counted vs, ap length we, column_length r ws ss h)

-- the column of the lists
pub lists_column : (r : Layer → Meaning) (vs ws : List Json) (ls : List (Option ℕ)) (ss : List Slot) (a : Result Array Error) → ls ≡ list_lens vs → ws ≡ all_items vs → AreSlotsOf r ws ss
    → IfOk a (λ x. array_slots x ≡ lists_from 0 ls ss) → IfOk a (λ x. AreSlotsOf (list_in (means r)) vs (array_slots x))
lists_column r vs ws ls ss (Err e) le we h s = tt
lists_column r vs ws ls ss (Ok x) le we h s =
    subst (AreSlotsOf (list_in (means r)) vs) (sym (s ∙ ap (λ z. lists_from 0 z ss) le)) (list_slots r vs ss (subst (λ z. AreSlotsOf r z ss) we h))

-- a fault of what was gathered
pub gathered_fault : (is_large : Bool) (f : Field) (vs ws : List Json) (e : Error) → ws ≡ all_items vs → IsFault f.data_type ws e → IsListFault is_large f vs e
gathered_fault is_large f vs ws e we h = item_fault is_large f vs e (subst (λ z. IsFault f.data_type z e) we h)

pub memory_fault : (r : Layer → Meaning) (many : Type 0) (vs : List Json) (a : Result Array Error) → OnlyOutOfMemory a → IfErr a (IsColumnFault r many vs)
memory_fault r many vs (Ok x) h = tt
memory_fault r many vs (Err e) h = inl h
