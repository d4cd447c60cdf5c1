-- One slot more in the buffers of a builder of slots of variable length.
use Rattle.std.proofs.Common.{◌≡◌, ap, ◌∙◌, inl, inr, Bool, cond, ℕ, ◌+◌, ◌-◌, ◌<◌, ◌≤◌, ℤ, pos, negsuc, List, [], ◌∷◌, ◌++◌, map, length, take, drop, Some, Result, Ok, Err, IfOk, refl, arith}
use Rattle.std.proofs.lemmas.Bool.{cases_eq}
use Rattle.std.proofs.lemmas.List.{get_or_append_left, get_or_push, length_push, length-append, length-drop, take-append-le, drop-append-le, take_all, drop_at, map-append, length-map}
use Rattle.arrow_core.specs.declared.slot.Slot.{Slot}
use Rattle.arrow_core.specs.declared.slot.Slot.TheVariants as slot
use Rattle.arrow_array.specs.Offsets.{offset_at, IsWithin, IsNotAbove, between, part}
use Rattle.arrow_array.specs.Slots.{slots_of}
use Rattle.arrow_flat.specs.Bits.{mask_of}
use Rattle.arrow_flat.specs.Contents.{HoldContents, content_at}
use Rattle.arrow_flat.specs.Normalized.{AreNormalized}
use Rattle.arrow_flat.proofs.Slots.{slots_of-push}

IsWithin-more : (z : ℤ) (a b : ℕ) → a ≤ b → IsWithin z a → IsWithin z b
IsWithin-more (pos n) a b h w = omega (arith, h, w)
IsWithin-more (negsuc n) a b h w = absurd w

-- what lies between two offsets into the bytes stays where bytes are appended
between-append : (y z : ℤ) (bs more : List ℕ) → IsNotAbove y z → IsWithin z (length bs) → between y z (bs ++ more) ≡ between y z bs
between-append (pos a) (pos b) bs more le w =
    let f : a ≤ length bs = omega (arith, le, w) in
    let l : b - a ≤ length (drop a bs) = omega (arith, le, w, length-drop a bs) in
    rw (drop-append-le a bs more f, take-append-le (b - a) (drop a bs) more l) refl
between-append (pos a) (negsuc b) bs more le w = absurd le
between-append (negsuc a) z bs more le w = absurd le

-- the bytes that were appended lie between the old end and the new
between-end : (y z : ℤ) (bs more : List ℕ) (n : ℕ) → y ≡ pos (length bs) → z ≡ pos n → n ≡ length bs + length more → between y z (bs ++ more) ≡ more
between-end y z bs more n e d h =
    let k : n - length bs ≡ length more = omega (arith, h) in
    rw (e, d) (rw (drop_at bs more (length bs) refl) (rw k (take_all (length more) more (omega arith))))

module _ (holds : List ℕ → Type 0) (make : List ℕ → Slot) (ps qs : List ℤ) (bs more : List ℕ) (n m : ℕ) (h : HoldContents holds ps bs n) (e : qs ≡ ps ++ pos m ∷ []) (d : m ≡ length bs + length more) where
  new_length : length qs ≡ n + 2
  new_length = rw e (omega (arith, length_push ps (pos m), h.count))

  bytes_length : length (bs ++ more) ≡ m
  bytes_length = omega (arith, length-append bs more, d)

  old_offset : (k : ℕ) → k < n + 1 → offset_at qs k ≡ offset_at ps k
  old_offset k l = rw e (get_or_append_left ps (pos m ∷ []) (pos 0) k (omega (arith, l, h.count)))

  new_offset : offset_at qs (n + 1) ≡ pos m
  new_offset = rw e (get_or_push ps (pos m) (pos 0) (n + 1) h.count)

  last_offset : offset_at qs n ≡ pos (length bs)
  last_offset = old_offset n (omega arith) ∙ h.last

  old_rising : (k : ℕ) → k < n → IsNotAbove (offset_at ps k) (offset_at ps (k + 1))
  old_rising k l = h.offsets_fit.rising k (omega (arith, l, h.count))

  old_part : (k : ℕ) → k < n → part qs (bs ++ more) k ≡ part ps bs k
  old_part k l =
      let a = old_offset k (omega (arith, l)) in
      let b = old_offset (k + 1) (omega (arith, l)) in
      rw (a, b) (between-append (offset_at ps k) (offset_at ps (k + 1)) bs more (old_rising k l) (h.offsets_fit.within (k + 1) (omega (arith, l, h.count))))

  new_part : part qs (bs ++ more) n ≡ more
  new_part = between-end (offset_at qs n) (offset_at qs (n + 1)) bs more m last_offset new_offset d

  within : (k : ℕ) → k < length qs → IsWithin (offset_at qs k) (length (bs ++ more))
  within k l = elim (cases_eq k (n + 1)) [
    | inl s ↦ rw (s, new_offset, bytes_length) (omega arith)
    | inr s ↦
        let p : k < n + 1 = omega (arith, l, new_length, s) in
        rw (old_offset k p) (IsWithin-more (offset_at ps k) (length bs) (length (bs ++ more)) (omega (arith, length-append bs more)) (h.offsets_fit.within k (omega (arith, p, h.count))))
  ]

  rising : (k : ℕ) → k + 1 < length qs → IsNotAbove (offset_at qs k) (offset_at qs (k + 1))
  rising k l = elim (cases_eq k n) [
    | inl s ↦ rw (s, last_offset, new_offset) (omega (arith, d))
    | inr s ↦
        let p : k < n = omega (arith, l, new_length, s) in
        rw (old_offset k (omega (arith, p)), old_offset (k + 1) (omega (arith, p))) (old_rising k p)
  ]

  contents : holds more → (k : ℕ) → k + 1 < length qs → holds (part qs (bs ++ more) k)
  contents u k l = elim (cases_eq k n) [
    | inl s ↦ rw (s, new_part) u
    | inr s ↦
        let p : k < n = omega (arith, l, new_length, s) in
        rw (old_part k p) (h.contents_fit k (omega (arith, p, h.count)))
  ]

  pub HoldContents-push : holds more → HoldContents holds qs (bs ++ more) (n + 1)
  HoldContents-push u = record {
    count = omega (arith, new_length);
    first = old_offset 0 (omega arith) ∙ h.first;
    last = rw (new_offset, bytes_length) refl;
    offsets_fit = record { filled = omega (arith, new_length); within = within; rising = rising };
    contents_fit = contents u;
  }

  -- the slots, and one more
  pub contents_at-push : (ts : List Bool) (b : Bool) → length ts ≡ n
      → slots_of (content_at make qs (bs ++ more)) (Some (mask_of (ts ++ b ∷ []))) 0 (n + 1) ≡ slots_of (content_at make ps bs) (Some (mask_of ts)) 0 n ++ (cond b (make more) slot.Null) ∷ []
  contents_at-push ts b l = slots_of-push (content_at make ps bs) (content_at make qs (bs ++ more)) ts n b (make more) l
      (λ k p. ap make (old_part k p)) (ap make new_part)

module _ {X : Type 0} (holds : List ℕ → Type 0) (make : List ℕ → Slot) (number : X → ℤ) (os ns : List X) (o : X) (bs all more : List ℕ) (ts ss : List Bool) (b : Bool) (m : ℕ)
    (h : HoldContents holds (map number os) bs (length ts)) (e : ns ≡ os ++ o ∷ []) (p : number o ≡ pos m) (a : all ≡ bs ++ more) (d : m ≡ length bs + length more) (s : ss ≡ ts ++ b ∷ []) where
  numbers : map number ns ≡ map number os ++ pos m ∷ []
  numbers = rw e (map-append number os (o ∷ []) ∙ rw p refl)

  pub hold_more : holds more → HoldContents holds (map number ns) all (length ss)
  hold_more u = rw (a, s) (rw (length_push ts b) (HoldContents-push holds make (map number os) (map number ns) bs more (length ts) m h numbers d u))

  pub show_more : slots_of (content_at make (map number ns) all) (Some (mask_of ss)) 0 (length ss) ≡ slots_of (content_at make (map number os) bs) (Some (mask_of ts)) 0 (length ts) ++ (cond b (make more) slot.Null) ∷ []
  show_more = rw (a, s) (rw (length_push ts b) (contents_at-push holds make (map number os) (map number ns) bs more (length ts) m h numbers d ts b refl))

-- without slots there is one offset, 0
pub HoldContents-cut : {X : Type 0} (holds : List ℕ → Type 0) (number : X → ℤ) (os : List X) (bs : List ℕ) (n : ℕ) → HoldContents holds (map number os) bs n → HoldContents holds (map number (take 1 os)) [] 0
HoldContents-cut holds number [] bs n h = absurd (omega (arith, h.count))
HoldContents-cut holds number (o ∷ os) bs n h = record {
  count = refl;
  first = h.first;
  last = h.first;
  offsets_fit = record { filled = omega arith; within = λ k l. let e : k ≡ 0 = omega (arith, l) in rw e (rw h.first (omega arith)); rising = λ k l. absurd (omega (arith, l)) };
  contents_fit = λ k l. absurd (omega (arith, l));
}

-- there is one offset more than there are slots
pub HoldContents-count : {X : Type 0} (holds : List ℕ → Type 0) (number : X → ℤ) (os : List X) (bs : List ℕ) (n : ℕ) → HoldContents holds (map number os) bs n → length os ≡ n + 1
HoldContents-count holds number os bs n h = omega (arith, length-map os number, h.count)

-- what an array with these buffers begins and ends with
pub hold_normalized : {A E : Type 0} (holds : List ℕ → Type 0) (offsets : A → List ℤ) (bytes : A → List ℕ) (r : Result A E) (ps : List ℤ) (bs : List ℕ) (n : ℕ) → HoldContents holds ps bs n → IfOk r (λ a. offsets a ≡ ps) → IfOk r (λ a. bytes a ≡ bs) → IfOk r (λ a. AreNormalized (offsets a) (length (bytes a)))
hold_normalized holds offsets bytes (Ok a) ps bs n h e d =
    let m : length ps - 1 ≡ n = omega (arith, h.count) in
    rw (e, d) (record { first = h.first; last = rw m h.last })
hold_normalized holds offsets bytes (Err x) ps bs n h e d = tt
