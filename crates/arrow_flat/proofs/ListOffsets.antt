-- Lists told by their lengths: their offsets, and one list more.
use Rattle.std.proofs.Common.{◌≡◌, ap, ◌∙◌, sym, Bool, ℕ, zero, suc, ◌+◌, ◌-◌, ◌≤◌, ℤ, pos, List, [], ◌∷◌, ◌++◌, map, length, take, drop, get_or, Option, Some, None, refl, arith, zero-add, add-one, subst, ◌<◌}
use Rattle.std.specs.Option.{is_some}
use Rattle.std.proofs.Math.Seq.{drop-cons}
use Rattle.std.proofs.lemmas.List.{length-map, get_or-map, map-append, length-drop, take_all}
use Rattle.arrow_core.specs.Numbers.{greatest_offset}
use Rattle.arrow_core.specs.declared.slot.Slot.{Slot}
use Rattle.arrow_core.specs.declared.slot.Slot.TheVariants as slot
use Rattle.arrow_array.specs.Offsets.{AreRising, IsNotAbove, IsOffsets, IsWithin, offset_at}
use Rattle.arrow_array.specs.Slots.{slot_at}
use Rattle.arrow_flat.specs.Nested.{list_len, items_of, slots_from, list_slot, lists_from, ends_from, offsets_of, lens_of, HoldLists}

-- ---- lengths and items

pub items_of-push : (ls : List (Option ℕ)) (l : Option ℕ) → items_of (ls ++ l ∷ []) ≡ items_of ls + list_len l
items_of-push [] l = omega arith
items_of-push (k ∷ ls) l = omega (arith, items_of-push ls l)

pub length-ends : (s : ℕ) (ls : List (Option ℕ)) → length (ends_from s ls) ≡ length ls
length-ends s [] = refl
length-ends s (l ∷ ls) = ap suc (length-ends (s + list_len l) ls)

pub length-offsets : (ls : List (Option ℕ)) → length (offsets_of ls) ≡ length ls + 1
length-offsets ls = omega (arith, length-ends 0 ls)

ends-push : (s : ℕ) (ls : List (Option ℕ)) (l : Option ℕ) → ends_from s (ls ++ l ∷ []) ≡ ends_from s ls ++ pos (s + items_of ls + list_len l) ∷ []
ends-push s [] l = let e : s + 0 + list_len l ≡ s + list_len l = omega arith in rw e refl
ends-push s (k ∷ ls) l =
    let e : s + list_len k + items_of ls + list_len l ≡ s + (list_len k + items_of ls) + list_len l = omega arith in
    ap (λ (zs : List ℤ). pos (s + list_len k) ∷ zs) (ends-push (s + list_len k) ls l ∙ ap (λ n. ends_from (s + list_len k) ls ++ pos n ∷ []) e)

pub offsets-push : (ls : List (Option ℕ)) (l : Option ℕ) → offsets_of (ls ++ l ∷ []) ≡ offsets_of ls ++ pos (items_of ls + list_len l) ∷ []
offsets-push ls l =
    let e : 0 + items_of ls + list_len l ≡ items_of ls + list_len l = omega arith in
    ap (λ (zs : List ℤ). pos 0 ∷ zs) (ends-push 0 ls l ∙ ap (λ n. ends_from 0 ls ++ pos n ∷ []) e)

-- the last offset
last_end : (s : ℕ) (ls : List (Option ℕ)) (d : ℤ) → get_or (pos s ∷ ends_from s ls) (length ls) d ≡ pos (s + items_of ls)
last_end s [] d = let e : s + 0 ≡ s = omega arith in ap pos (sym e)
last_end s (l ∷ ls) d =
    let e : s + list_len l + items_of ls ≡ s + (list_len l + items_of ls) = omega arith in
    last_end (s + list_len l) ls d ∙ ap pos e

pub last_offset : (ls : List (Option ℕ)) (d : ℤ) → get_or (offsets_of ls) (length ls) d ≡ pos (items_of ls)
last_offset ls d = last_end 0 ls d ∙ ap pos (zero-add (items_of ls))

ends_within : (s : ℕ) (ls : List (Option ℕ)) (n : ℕ) → s + items_of ls ≤ n → (k : ℕ) → k < length (pos s ∷ ends_from s ls) → IsWithin (offset_at (pos s ∷ ends_from s ls) k) n
ends_within s ls n h zero l = omega (arith, h)
ends_within s [] n h (suc k) l = absurd (omega (arith, l))
ends_within s (o ∷ ls) n h (suc k) l = ends_within (s + list_len o) ls n (omega (arith, h)) k (omega (arith, l))

ends_rising : (s : ℕ) (ls : List (Option ℕ)) (k : ℕ) → suc k < length (pos s ∷ ends_from s ls) → IsNotAbove (offset_at (pos s ∷ ends_from s ls) k) (offset_at (pos s ∷ ends_from s ls) (suc k))
ends_rising s [] k l = absurd (omega (arith, l))
ends_rising s (o ∷ ls) zero l = omega arith
ends_rising s (o ∷ ls) (suc k) l = ends_rising (s + list_len o) ls k (omega (arith, l))

-- the offsets don't fall, and are offsets into as many items as the lists have, or more
pub are_offsets : (ls : List (Option ℕ)) (n : ℕ) → items_of ls ≤ n → IsOffsets (offsets_of ls) n
are_offsets ls n h = record {
  filled = omega (arith, length-offsets ls);
  within = ends_within 0 ls n (omega (arith, h));
  rising = λ k l. rw add-one (ends_rising 0 ls k (omega (arith, l)));
}

-- the lengths are told by offsets and validity
lens-offsets : (s : ℕ) (ls : List (Option ℕ)) → lens_of (pos s ∷ ends_from s ls) (map is_some ls) ≡ ls
lens-offsets s [] = refl
lens-offsets s (None ∷ ls) = ap (λ (zs : List (Option ℕ)). None ∷ zs) (lens-offsets (s + 0) ls)
lens-offsets s (Some n ∷ ls) =
    let e : s + n - s ≡ n = omega arith in
    ap (λ (zs : List (Option ℕ)). Some (s + n - s) ∷ zs) (lens-offsets (s + n) ls) ∙ ap (λ m. Some m ∷ ls) e

pub lens_known : (os : List ℤ) (ts : List Bool) (ls : List (Option ℕ)) → os ≡ offsets_of ls → ts ≡ map is_some ls → lens_of os ts ≡ ls
lens_known os ts ls e d = rw (e, d) (lens-offsets 0 ls)

pub hold_lens : (is_large : Bool) (os : List ℤ) (ts : List Bool) (ls : List (Option ℕ)) → os ≡ offsets_of ls → ts ≡ map is_some ls → items_of ls ≤ greatest_offset is_large → HoldLists is_large os ts (lens_of os ts)
hold_lens is_large os ts ls e d h = rw (lens_known os ts ls e d) (record { offsets_are = e; booleans_are = d; limit = h })

pub hold_rising : (is_large : Bool) (os : List ℤ) (ts : List Bool) (ls : List (Option ℕ)) → HoldLists is_large os ts ls → AreRising os
hold_rising is_large os ts ls h = subst AreRising (sym h.offsets_are) (items_of ls, are_offsets ls (items_of ls) (omega arith))

-- one list more
module _ (is_large : Bool) (os us : List ℤ) (ts ss : List Bool) (ls : List (Option ℕ)) (l : Option ℕ) (m : ℕ)
    (h : HoldLists is_large os ts ls) (e : us ≡ os ++ pos m ∷ []) (d : ss ≡ ts ++ is_some l ∷ []) (p : m ≡ items_of ls + list_len l) where
  more_offsets : us ≡ offsets_of (ls ++ l ∷ [])
  more_offsets = e ∙ ap (λ (zs : List ℤ). zs ++ pos m ∷ []) h.offsets_are ∙ ap (λ n. offsets_of ls ++ pos n ∷ []) p ∙ sym (offsets-push ls l)

  more_booleans : ss ≡ map is_some (ls ++ l ∷ [])
  more_booleans = d ∙ ap (λ (zs : List Bool). zs ++ is_some l ∷ []) h.booleans_are ∙ sym (map-append is_some ls (l ∷ []))

  pub show_list : lens_of us ss ≡ ls ++ l ∷ []
  show_list = lens_known us ss (ls ++ l ∷ []) more_offsets more_booleans

  pub hold_list : m ≤ greatest_offset is_large → HoldLists is_large us ss (lens_of us ss)
  hold_list f = hold_lens is_large us ss (ls ++ l ∷ []) more_offsets more_booleans (omega (arith, f, p, items_of-push ls l))

-- ---- slots

pub lists-push : (s : ℕ) (ls : List (Option ℕ)) (l : Option ℕ) (xs : List Slot) → lists_from s (ls ++ l ∷ []) xs ≡ lists_from s ls xs ++ list_slot xs (s + items_of ls) l ∷ []
lists-push s [] l xs = let e : s + 0 ≡ s = omega arith in rw e refl
lists-push s (k ∷ ls) l xs =
    let e : s + list_len k + items_of ls ≡ s + (list_len k + items_of ls) = omega arith in
    ap (λ (zs : List Slot). list_slot xs s k ∷ zs) (lists-push (s + list_len k) ls l xs ∙ ap (λ n. lists_from (s + list_len k) ls xs ++ list_slot xs n l ∷ []) e)

pub length-lists : (s : ℕ) (ls : List (Option ℕ)) (xs : List Slot) → length (lists_from s ls xs) ≡ length ls
length-lists s [] xs = refl
length-lists s (l ∷ ls) xs = ap suc (length-lists (s + list_len l) ls xs)

-- where there are enough slots, these are the slots from an index on
pub slots_from-cut : (xs : List Slot) (s n : ℕ) → s + n ≤ length xs → slots_from xs s n ≡ take n (drop s xs)
slots_from-cut xs s zero h = refl
slots_from-cut xs s (suc n) h =
    let e : suc s ≡ s + 1 = omega arith in
    let d : drop s xs ≡ slot_at xs s ∷ drop (s + 1) xs = drop-cons xs s slot.Null (omega (arith, h)) ∙ ap (λ k. slot_at xs s ∷ drop k xs) e in
    let t : slots_from xs (s + 1) n ≡ take n (drop (s + 1) xs) = slots_from-cut xs (s + 1) n (omega (arith, h)) in
    rw d (ap (λ (zs : List Slot). slot_at xs s ∷ zs) t)

-- the slots from an index on, up to the last
pub slots_from-rest : (xs : List Slot) (s : ℕ) → s ≤ length xs → slots_from xs s (length xs - s) ≡ drop s xs
slots_from-rest xs s h =
    slots_from-cut xs s (length xs - s) (omega (arith, h)) ∙ take_all (length xs - s) (drop s xs) (omega (arith, length-drop s xs))

-- ---- offsets that are kept as values of a type of offsets

module _ {X : Type 0} (is_large : Bool) (number : X → ℤ) (os : List X) (ts : List Bool) (ls : List (Option ℕ)) (h : HoldLists is_large (map number os) ts ls) where
  pub hold_length : length ts ≡ length ls
  hold_length = omega (arith, ap length h.booleans_are, length-map ls is_some)

  -- there is one offset more than there are lists
  pub hold_count : length os ≡ length ts + 1
  hold_count = omega (arith, hold_length, length-map os number, ap length h.offsets_are, length-offsets ls)

  -- the last offset is the end of the last list
  pub hold_end : (o : X) → o ≡ get_or os (length ts) o → number o ≡ pos (items_of ls)
  hold_end o e =
      ap number e ∙ sym (get_or-map number os (length ts) o (number o) (omega (arith, hold_count)))
      ∙ ap (λ (zs : List ℤ). get_or zs (length ts) (number o)) h.offsets_are
      ∙ ap (λ n. get_or (offsets_of ls) n (number o)) hold_length ∙ last_offset ls (number o)

-- without lists there is one offset, 0
pub hold_none : {X : Type 0} (is_large : Bool) (number : X → ℤ) (os : List X) (ts : List Bool) (ls : List (Option ℕ)) → HoldLists is_large (map number os) ts ls → map number (take 1 os) ≡ pos 0 ∷ []
hold_none is_large number [] ts ls h = absurd (omega (arith, ap length h.offsets_are, length-offsets ls))
hold_none is_large number (o ∷ os) ts ls h = let e : number o ≡ pos 0 = cc_head (number o) (map number os) (ends_from 0 ls) h.offsets_are in rw e refl
  where
    cc_head : (a : ℤ) (ps bs : List ℤ) → a ∷ ps ≡ pos 0 ∷ bs → a ≡ pos 0
    cc_head a ps bs e = cc

-- the offset of one value more
pub numbers-push : {X : Type 0} (number : X → ℤ) (os us : List X) (o : X) (m : ℕ) → us ≡ os ++ o ∷ [] → number o ≡ pos m → map number us ≡ map number os ++ pos m ∷ []
numbers-push number os us o m e p = rw e (map-append number os (o ∷ []) ∙ rw p refl)

-- what a node of lists holds, by the validity of the lists
pub view_len : {X : Type 0} (is_large : Bool) (number : X → ℤ) (os : List X) (ts : List Bool) → HoldLists is_large (map number os) ts (lens_of (map number os) ts) → length (lens_of (map number os) ts) ≡ length ts
view_len is_large number os ts h = sym (hold_length is_large number os ts (lens_of (map number os) ts) h)

-- one list more, of all the items that there are after the last
pub list-rest : (ls : List (Option ℕ)) (xs : List Slot) (n : ℕ) → n ≡ length xs → items_of ls ≤ n → lists_from 0 (ls ++ Some (n - items_of ls) ∷ []) xs ≡ lists_from 0 ls xs ++ slot.List (drop (items_of ls) xs) ∷ []
list-rest ls xs n e h =
    let r : slots_from xs (items_of ls) (n - items_of ls) ≡ drop (items_of ls) xs = rw e (slots_from-rest xs (items_of ls) (omega (arith, e, h))) in
    lists-push 0 ls (Some (n - items_of ls)) xs
    ∙ ap (λ m. lists_from 0 ls xs ++ slot.List (slots_from xs m (n - items_of ls)) ∷ []) (zero-add (items_of ls))
    ∙ ap (λ (ys : List Slot). lists_from 0 ls xs ++ slot.List ys ∷ []) r
