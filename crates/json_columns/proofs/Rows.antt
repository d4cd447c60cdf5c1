-- Columns of structs, by the columns of their members.
use Rattle.std.proofs.Common.{◌≡◌, inl, inr, ℕ, zero, suc, ◌+◌, ◌<◌, Bool, false, cond, List, [], ◌∷◌, length, get_or, map, refl, sym, ap, ◌∙◌, subst, arith, zero-add, slice_index_or, Result, Ok, Err, IfOk}
use Rattle.arrow_core.specs.declared.error.Error.{Error}
use Rattle.std.specs.List.{range_with_len}
use Rattle.std.proofs.lemmas.List.{length-map, get_or-map}
use Rattle.arrow_array.specs.Arrays.{array_slots}
use Rattle.arrow_array.specs.Slots.{slot_at}
use Rattle.arrow_array.specs.Structs.{record_at}
use Rattle.arrow_array.specs.declared.array.Array.{Array}
use Rattle.arrow_flat.specs.Builders.{slots_where}
use Rattle.arrow_core.specs.declared.slot.Slot.{Slot}
use Rattle.arrow_core.specs.declared.slot.Slot.TheVariants as slot
use Rattle.arrow_core.specs.declared.types.Field.{Field}
use Rattle.json_tree.specs.Tree.{Json, null}
use Rattle.json_tree.specs.declared.value.Value.{out-Value}
use Rattle.json_tree.specs.declared.value.Value.TheOpen as layer
use Rattle.json_tree.specs.declared.value.Object.{Object}
use Rattle.json_flat.specs.Meaning.{Meaning, Layer, slot_of, text_timestamp}
use Rattle.json_flat.specs.Columns.{AreSlotsOf, IsNoSlot, means}
use Rattle.json_columns.specs.Faults.{AreMemberColumns}
use Rattle.json_columns.specs.Gathered.{are_objects, field_meanings, is_object, member_in, members_named}
use Rattle.json_flat.specs.Reading.{reading, struct_in}
use Rattle.json_columns.proofs.Anywhere.{AnyOf, weaker, of_map}
use Rattle.json_columns.proofs.Nulls.{null_means}
use Rattle.json_columns.proofs.Together.{made, made_text, made_none}

-- ---- slots

-- the slot of one value of a column
slot_is : (g : Json → Meaning) (ws : List Json) (ss : List Slot) (k : ℕ) (w : Json) → map g ws ≡ map slot_of ss → k < length ws → get_or ws k w ≡ w → g w ≡ slot_of (slot_at ss k)
slot_is g [] ss k w e l is = absurd (omega (arith, l))
slot_is g (x ∷ ws) [] k w e l is = absurd cc
slot_is g (x ∷ ws) (s ∷ ss) zero w e l is = let first : g x ≡ slot_of s = cc in ap g (sym is) ∙ first
slot_is g (x ∷ ws) (s ∷ ss) (suc k) w e l is = let others : map g ws ≡ map slot_of ss = cc in slot_is g ws ss k w others (omega (arith, l)) is

-- the slots made by index
by_index : (f : Json → Meaning) (vs : List Json) (g : ℕ → Slot) (s : ℕ) → ((k : ℕ) (v : Json) → k < length vs → get_or vs k v ≡ v → f v ≡ slot_of (g (s + k)))
    → map f vs ≡ map slot_of (map g (range_with_len s (length vs)))
by_index f [] g s h = refl
by_index f (v ∷ vs) g s h =
    let z : s + 0 ≡ s = omega arith in
    let first : f v ≡ slot_of (g s) = subst (λ n. f v ≡ slot_of (g n)) z (h 0 v (omega arith) refl) in
    let others = by_index f vs g (s + 1) (λ k w l e. let n : s + suc k ≡ s + 1 + k = omega arith in subst (λ n. f w ≡ slot_of (g n)) n (h (suc k) w (omega (arith, l)) e)) in
    λ i. first i ∷ others i

-- the members of the object at an index
members_at : (fs : List Field) (columns : List Array) (vs : List Json) (k : ℕ) (v : Json) (o : Object) → AreMemberColumns fs vs columns → k < length vs → get_or vs k v ≡ v → out-Value v ≡ layer.Object o
    → field_meanings fs o.members ≡ map slot_of (map (λ slots. slot_at slots k) (map array_slots columns))
members_at [] [] vs k v o h l is e = refl
members_at [] (a ∷ columns) vs k v o h l is e = absurd h
members_at (f ∷ fs) [] vs k v o h l is e = absurd h
members_at (f ∷ fs) (a ∷ columns) vs k v o h l is e =
    let m : Json → Json = λ w. member_in f.name (out-Value w) in
    let found : get_or (map m vs) k (m v) ≡ m v = get_or-map m vs k v (m v) l ∙ ap m is in
    let first : means (reading f.data_type) (m v) ≡ slot_of (slot_at (array_slots a) k) =
    slot_is (means (reading f.data_type)) (map m vs) (array_slots a) k (m v) h.0.1 (omega (arith, l, length-map vs m)) found in
    let same : means (reading f.data_type) (member_in f.name (layer.Object o)) ≡ means (reading f.data_type) (m v) = ap (λ x. means (reading f.data_type) (member_in f.name x)) (sym e) in
    λ i. (same ∙ first) i ∷ members_at fs columns vs k v o h.1 l is e i

module _ (fs : List Field) (columns : List Array) (vs : List Json) (h : AreMemberColumns fs vs columns) where
  row : (k : ℕ) (v : Json) (x : Layer) → k < length vs → get_or vs k v ≡ v → out-Value v ≡ x → struct_in (field_meanings fs) x ≡ slot_of (cond (is_object x) (record_at (map array_slots columns) k) slot.Null)
  row k v layer.Null l is e = refl
  row k v (layer.Bool b) l is e = refl
  row k v (layer.Number n) l is e = refl
  row k v (layer.String text) l is e = refl
  row k v (layer.Array items) l is e = refl
  row k v (layer.Object o) l is e = made slot.Struct (field_meanings fs o.members) (map (λ slots. slot_at slots k) (map array_slots columns)) (members_at fs columns vs k v o h l is e)

  shown_row : (k : ℕ) (v : Json) → k < length vs → get_or vs k v ≡ v
      → means (struct_in (field_meanings fs)) v ≡ slot_of (cond (slice_index_or (are_objects vs) (0 + k) false) (record_at (map array_slots columns) (0 + (0 + k))) slot.Null)
  shown_row k v l is =
      let b : get_or (are_objects vs) k false ≡ is_object (out-Value v) = get_or-map (λ w. is_object (out-Value w)) vs k v false l ∙ ap (λ w. is_object (out-Value w)) is in
      let r = row k v (out-Value v) l is refl in
      rw (zero-add k) (rw (zero-add k) (r ∙ ap (λ z. slot_of (cond z (record_at (map array_slots columns) k) slot.Null)) (sym b)))

  -- the structs of the columns' slots
  pub struct_slots : AreSlotsOf (struct_in (field_meanings fs)) vs (slots_where (are_objects vs) (record_at (map array_slots columns)))
  struct_slots =
      let g : ℕ → Slot = λ i. cond (slice_index_or (are_objects vs) i false) (record_at (map array_slots columns) (0 + i)) slot.Null in
      by_index (means (struct_in (field_meanings fs))) vs g 0 shown_row
      ∙ ap (λ n. map slot_of (map g (range_with_len 0 n))) (sym (length-map vs (λ w. is_object (out-Value w))))

pub structs_column : (fs : List Field) (vs : List Json) (columns : List Array) (bs : List Bool) (r : Result Array Error) → AreMemberColumns fs vs columns → bs ≡ are_objects vs
    → IfOk r (λ a. array_slots a ≡ slots_where bs (record_at (map array_slots columns))) → IfOk r (λ a. AreSlotsOf (struct_in (field_meanings fs)) vs (array_slots a))
structs_column fs vs columns bs (Err e) h b s = tt
structs_column fs vs columns bs (Ok a) h b s =
    subst (AreSlotsOf (struct_in (field_meanings fs)) vs) (sym (s ∙ ap (λ (z : List Bool). slots_where z (record_at (map array_slots columns))) b)) (struct_slots fs columns vs h)

-- ---- faults

-- what holds of the members of one field holds somewhere among the members of a value
abbrev members_of : List Field → Layer → List Meaning
members_of fs x = map (λ (f : Field). means (reading f.data_type) (member_in f.name x)) fs

turned : (Q : Meaning → Type 0) (fs : List Field) (vs : List Json) → AnyOf (λ (f : Field). AnyOf (λ w. Q (means (reading f.data_type) w)) (members_named f.name vs)) fs
    → AnyOf (λ v. AnyOf Q (members_of fs (out-Value v))) vs
turned Q [] vs h = absurd h
turned Q (f ∷ fs) vs (inl h) =
    weaker (λ v. Q (means (reading f.data_type) (member_in f.name (out-Value v)))) (λ v. AnyOf Q (members_of (f ∷ fs) (out-Value v))) vs (λ v p. inl p)
    (of_map (λ w. Q (means (reading f.data_type) w)) (λ v. member_in f.name (out-Value v)) vs h)
turned Q (f ∷ fs) vs (inr h) =
    weaker (λ v. AnyOf Q (members_of fs (out-Value v))) (λ v. AnyOf Q (members_of (f ∷ fs) (out-Value v))) vs (λ v p. inr p) (turned Q fs vs h)

-- of no object a member is missing
no_member : (Q : Meaning → Type 0) → (Q (slot_of slot.Null) → ⊥) → (fs : List Field) → AnyOf Q (map (λ (f : Field). means (reading f.data_type) null) fs) → ⊥
no_member Q n [] h = h
no_member Q n (f ∷ fs) (inl p) = n (subst Q (null_means f.data_type) p)
no_member Q n (f ∷ fs) (inr h) = no_member Q n fs h

text_is_slot : (s : Slot) → slot_of s ≡ text_timestamp → ⊥
text_is_slot s e = absurd cc

text_in_struct : (fs : List Field) (x : Layer) → AnyOf (λ m. m ≡ text_timestamp) (members_of fs x) → struct_in (field_meanings fs) x ≡ text_timestamp
text_in_struct fs (layer.Object o) h = made_text slot.Struct (field_meanings fs o.members) h
text_in_struct fs layer.Null h = absurd (no_member (λ m. m ≡ text_timestamp) (text_is_slot slot.Null) fs h)
text_in_struct fs (layer.Bool b) h = absurd (no_member (λ m. m ≡ text_timestamp) (text_is_slot slot.Null) fs h)
text_in_struct fs (layer.Number n) h = absurd (no_member (λ m. m ≡ text_timestamp) (text_is_slot slot.Null) fs h)
text_in_struct fs (layer.String text) h = absurd (no_member (λ m. m ≡ text_timestamp) (text_is_slot slot.Null) fs h)
text_in_struct fs (layer.Array items) h = absurd (no_member (λ m. m ≡ text_timestamp) (text_is_slot slot.Null) fs h)

none_in_struct : (fs : List Field) (x : Layer) → AnyOf IsNoSlot (members_of fs x) → IsNoSlot (struct_in (field_meanings fs) x)
none_in_struct fs (layer.Object o) h = made_none slot.Struct (field_meanings fs o.members) h
none_in_struct fs layer.Null h = absurd (no_member IsNoSlot (λ p. p) fs h)
none_in_struct fs (layer.Bool b) h = absurd (no_member IsNoSlot (λ p. p) fs h)
none_in_struct fs (layer.Number n) h = absurd (no_member IsNoSlot (λ p. p) fs h)
none_in_struct fs (layer.String text) h = absurd (no_member IsNoSlot (λ p. p) fs h)
none_in_struct fs (layer.Array items) h = absurd (no_member IsNoSlot (λ p. p) fs h)

pub text_in_structs : (fs : List Field) (vs : List Json) → AnyOf (λ (f : Field). AnyOf (λ w. means (reading f.data_type) w ≡ text_timestamp) (members_named f.name vs)) fs
    → AnyOf (λ v. means (struct_in (field_meanings fs)) v ≡ text_timestamp) vs
text_in_structs fs vs h =
    weaker (λ v. AnyOf (λ m. m ≡ text_timestamp) (members_of fs (out-Value v))) (λ v. means (struct_in (field_meanings fs)) v ≡ text_timestamp) vs (λ v p. text_in_struct fs (out-Value v) p)
    (turned (λ m. m ≡ text_timestamp) fs vs h)

pub none_in_structs : (fs : List Field) (vs : List Json) → AnyOf (λ (f : Field). AnyOf (λ w. IsNoSlot (means (reading f.data_type) w)) (members_named f.name vs)) fs
    → AnyOf (λ v. IsNoSlot (means (struct_in (field_meanings fs)) v)) vs
none_in_structs fs vs h =
    weaker (λ v. AnyOf IsNoSlot (members_of fs (out-Value v))) (λ v. IsNoSlot (means (struct_in (field_meanings fs)) v)) vs (λ v p. none_in_struct fs (out-Value v) p)
    (turned IsNoSlot fs vs h)
