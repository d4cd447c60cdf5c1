-- Lists of so many items each that builders take, by what their child took.
use Rattle.std.proofs.Common.{◌≡◌, ◌∙◌, ℕ, zero, suc, ◌+◌, ◌*◌, ◌<◌, ◌≤◌, Bool, true, cond, eqb, List, [], ◌∷◌, ◌++◌, length, map, drop, refl, sym, ap, subst, arith}
use Rattle.std.specs.Cmp.{unsigned_Decides}
use Rattle.std.specs.Prelude.{Result, Ok, Err, OnOk}
use Rattle.std.proofs.Math.Nat.{mul-le-mul_right}
use Rattle.std.proofs.lemmas.List.{length-append, length-map}
use Rattle.arrow_array.specs.FixedLists.{list_size}
use Rattle.arrow_array.specs.Slots.{slot_at}
use Rattle.arrow_flat.specs.Bits.{mask_of}
use Rattle.arrow_flat.specs.Builders.{slots_where}
use Rattle.arrow_flat.specs.Nested.{fixed_list_slot}
use Rattle.arrow_flat.proofs.Bits.{made_alike}
use Rattle.arrow_builders.specs.MutableArrays.{builder_slots}
use Rattle.arrow_builders.specs.Tight.{IsTight}
use Rattle.arrow_builders.specs.declared.array.MutableArray.{MutableArray, FixedSizeList}
use Rattle.arrow_builders.specs.declared.fixed_size_list.MutableFixedSizeListArray.{MutableFixedSizeListArray}
use Rattle.arrow_builders.proofs.NestedSlots.{slots_of-alike}
use Rattle.arrow_builders.proofs.Staying.{drop_prefix}
use Rattle.arrow_core.specs.declared.slot.Slot.{Slot}
use Rattle.arrow_core.specs.declared.slot.Slot.TheVariants as slot
use Rattle.json_tree.specs.Tree.{Json, array}
use Rattle.json_tree.specs.declared.value.Value.{out-Value}
use Rattle.json_tree.specs.declared.value.Value.TheVariants as variant
use Rattle.json_flat.specs.Columns.{means, AreSlotsOf, Pushes}
use Rattle.json_flat.specs.Meaning.{Layer, Meaning, slot_of}
use Rattle.json_flat.specs.Reading.{made_of, sized_list_in, together}
use Rattle.json_lend.specs.declared.given_up.GivenUp.{GivenUp}
use Rattle.json_line.proofs.Nested.{slots_are}

-- ---- meaning

pub slots_length : (f : Layer → Meaning) (items : List Json) (ss : List Slot) → AreSlotsOf f items ss → length items ≡ length ss
slots_length f items ss e = sym (length-map items (means f)) ∙ ap length e ∙ length-map ss slot_of

sized_array_means : (f : Layer → Meaning) (size : ℕ) (items : List Json) (ss : List Slot) → length ss ≡ size → AreSlotsOf f items ss → means (sized_list_in size (λ value. f (out-Value value))) (array items) ≡ slot_of (slot.List ss)
sized_array_means f size items ss l e =
    let many : eqb (length items) size ≡ true = (unsigned_Decides (length items) size).1 (slots_length f items ss e ∙ l) in
    ap (sized_list_in size (λ value. f (out-Value value))) (variant.outs-Array items)
    ∙ ap (λ b. cond b (made_of slot.List (together (map (means f) items))) (slot_of slot.Null)) many
    ∙ ap (λ (ms : List Meaning). made_of slot.List (together ms)) e ∙ ap (made_of slot.List) (slots_are ss)

-- ---- slots

at_prefix : (xs ys : List Slot) (k : ℕ) → k < length xs → slot_at (xs ++ ys) k ≡ slot_at xs k
at_prefix [] ys k lt = absurd (omega (arith, lt))
at_prefix (x ∷ xs) ys zero lt = refl
at_prefix (x ∷ xs) ys (suc k) lt = at_prefix xs ys k (omega (arith, lt))

-- the lists stay while the child grows
sized_stay : (size : ℕ) (booleans : List Bool) (xs ys : List Slot) → length xs ≡ length booleans * size → slots_where booleans (fixed_list_slot size (xs ++ ys)) ≡ slots_where booleans (fixed_list_slot size xs)
sized_stay size booleans xs ys l =
    slots_of-alike (fixed_list_slot size (xs ++ ys)) (fixed_list_slot size xs) (mask_of booleans) booleans (length booleans) (length booleans) refl refl (λ k h.
    let p : (k + 1) * size ≤ length booleans * size = mul-le-mul_right size (omega (arith, h)) in
    let q : (k + 1) * size ≡ k * size + size = omega arith in
    ap slot.List (made_alike (slot_at (xs ++ ys)) (slot_at xs) (k * size) (k * size) size (λ i m. at_prefix xs ys (k * size + i) (omega (arith, m, p, q, l)))))

sized_more : (size : ℕ) (booleans : List Bool) (old new mid child items now : List Slot) → length child ≡ length booleans * size → now ≡ child ++ items → old ≡ slots_where booleans (fixed_list_slot size child) → mid ≡ slots_where booleans (fixed_list_slot size now)
    → new ≡ mid ++ slot.List (drop (length booleans * size) now) ∷ [] → new ≡ old ++ slot.List items ∷ []
sized_more size booleans old new mid child items now l e o m n =
    let s : mid ≡ old = m ∙ ap (λ (xs : List Slot). slots_where booleans (fixed_list_slot size xs)) e ∙ sized_stay size booleans child items l ∙ sym o in
    let d : drop (length booleans * size) now ≡ items = ap (λ (xs : List Slot). drop (length booleans * size) xs) e ∙ ap (λ (k : ℕ). drop k (child ++ items)) (sym l) ∙ drop_prefix child items in
    n ∙ ap (λ (xs : List Slot). mid ++ slot.List xs ∷ []) d ∙ ap (λ (xs : List Slot). xs ++ slot.List items ∷ []) s

-- a list of what the child took
pub sized_list_taken : (r : Result (Unit {0}) GivenUp) (f : Layer → Meaning) (size : ℕ) (booleans : List Bool) (items : List Json) (child now old mid new : List Slot) → length child ≡ length booleans * size → length now ≡ length child + size
    → (added : List Slot) × AreSlotsOf f items added × (now ≡ child ++ added) → old ≡ slots_where booleans (fixed_list_slot size child) → mid ≡ slots_where booleans (fixed_list_slot size now)
    → OnOk r (new ≡ mid ++ slot.List (drop (length booleans * size) now) ∷ []) → OnOk r (Pushes (sized_list_in size (λ value. f (out-Value value))) (array items) old new)
sized_list_taken (Ok u) f size booleans items child now old mid new l many (added, m, e) o q n =
    (slot.List added, sized_array_means f size items added (omega (arith, many, ap length e, length-append child added)) m, sized_more size booleans old new mid child added now l e o q n)
sized_list_taken (Err g) f size booleans items child now old mid new l many t o q n = tt

-- ---- what the child has

-- the items of one list more
pub one_list_more : (n size now before after : ℕ) → size ≡ now → before ≡ n * now → after ≡ before + size → after ≡ (n + 1) * now
one_list_more n size now before after s b a =
    let e : (n + 1) * now ≡ n * now + now = omega arith in
    omega (arith, s, b, a, e)

-- the child is tight again
pub sized_tight : (r : Result (Unit {0}) GivenUp) (b d : MutableFixedSizeListArray) (child : MutableArray) → IsTight child → length (builder_slots child) ≡ (length b.marks.booleans + 1) * list_size b.marks.data_type → d.values.value ≡ child → d.marks.data_type ≡ b.marks.data_type
    → OnOk r (d.marks.booleans ≡ b.marks.booleans ++ true ∷ []) → OnOk r (IsTight (FixedSizeList d))
sized_tight (Err g) b d child t l v e h = tt
sized_tight (Ok u) b d child t l v e h =
    let many : length d.marks.booleans ≡ length b.marks.booleans + 1 = ap length h ∙ length-append b.marks.booleans (true ∷ []) in
    let size : list_size d.marks.data_type ≡ list_size b.marks.data_type = ap list_size e in
    let items : length (builder_slots d.values.value) ≡ length d.marks.booleans * list_size d.marks.data_type = ap (λ (x : MutableArray). length (builder_slots x)) v ∙ l ∙ sym (λ i. many i * size i) in
    (items, subst IsTight (sym v) t)
