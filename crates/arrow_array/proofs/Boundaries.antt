-- The bytes between offsets are strings exactly where all of them together are UTF-8, and each offset stands between two characters.
use Rattle.std.proofs.Common.{◌≡◌, ◌∙◌, ap, sym, arith, refl, ℕ, zero, suc, ◌+◌, ◌-◌, ◌<◌, ◌≤◌, ◌++◌, ℤ, pos, negsuc, List, length, take, drop}
use mathlib.Core.Path.{subst}
use Rattle.std.specs.Str.{IsUtf8, IsCharBoundary}
use Rattle.std.proofs.Math.Seq.{take-add}
use Rattle.std.proofs.lemmas.List.{drop-drop, drop-take, take-take, length-take-le, length-drop}
use Rattle.std.proofs.lemmas.Str.{IsUtf8-nil, IsUtf8-append, IsUtf8-between, IsCharBoundary-from_take}
use Rattle.arrow_array.specs.Offsets.{offset_at, part, IsWithin, IsNotAbove, IsOffsets, AreUtf8, IsBoundary, IsFrom}

abbrev position : ℤ → ℕ
position (pos a) = a
position (negsuc a) = 0

position_is : (z : ℤ) (n : ℕ) → IsWithin z n → z ≡ pos (position z)
position_is (pos a) n h = refl
position_is (negsuc a) n h = absurd h

position_within : (z : ℤ) (n : ℕ) → IsWithin z n → position z ≤ n
position_within (pos a) n h = h
position_within (negsuc a) n h = absurd h

position_order : (y z : ℤ) → IsNotAbove y z → position y ≤ position z
position_order (pos a) (pos b) h = h
position_order (pos a) (negsuc b) h = absurd h
position_order (negsuc a) z h = absurd h

module _ (os : List ℤ) (n : ℕ) (o : IsOffsets os n) where
  abbrev at : ℕ → ℕ
  at k = position (offset_at os k)

  at_is : (k : ℕ) → k < length os → offset_at os k ≡ pos (at k)
  at_is k l = position_is _ _ (o.within k l)

  at_within : (k : ℕ) → k < length os → at k ≤ n
  at_within k l = position_within _ _ (o.within k l)

  -- no offset is below an earlier one
  at_order : (j i : ℕ) → j + i < length os → at j ≤ at (j + i)
  at_order j zero l = let e : j + 0 ≡ j = omega arith in rw e (omega arith)
  at_order j (suc i) l =
      let h = at_order j i (omega (arith, l)) in
      let s = position_order _ _ (o.rising (j + i) (omega (arith, l))) in
      let e : j + suc i ≡ j + i + 1 = omega arith in
      rw e (omega (arith, h, s))

  at_rising : (j k : ℕ) → j ≤ k → k < length os → at j ≤ at k
  at_rising j k h l = let e : j + (k - j) ≡ k = omega (arith, h) in subst (λ i. at j ≤ at i) e (at_order j (k - j) (rw e l))

  pub ends_in_order : (a b : ℕ) → offset_at os 0 ≡ pos a → offset_at os (length os - 1) ≡ pos b → a ≤ b
  ends_in_order a b first last =
      let s : at 0 ≡ a = ap position first in
      let e : at (length os - 1) ≡ b = ap position last in
      omega (arith, at_rising 0 (length os - 1) (omega arith) (omega (arith, o.filled)), s, e)

  -- offsets are offsets into whatever the last one lies within
  pub reach : (b m : ℕ) → offset_at os (length os - 1) ≡ pos b → b ≤ m → IsOffsets os m
  reach b m last h =
      let e : at (length os - 1) ≡ b = ap position last in
      record {
        filled = o.filled;
        within = λ k l. subst (λ z. IsWithin z m) (sym (at_is k l)) (omega (arith, at_rising k (length os - 1) (omega (arith, l)) (omega (arith, o.filled)), e, h));
        rising = o.rising;
      }

module _ (os : List ℤ) (bytes : List ℕ) (o : IsOffsets os (length bytes)) where
  abbrev there : ℕ → ℕ
  there = at os (length bytes) o

  -- the bytes between two offsets
  abbrev run : ℕ → ℕ → List ℕ
  run j k = take (there k - there j) (drop (there j) bytes)

  part_is : (k : ℕ) → k + 1 < length os → part os bytes k ≡ run k (k + 1)
  part_is k l = rw (at_is os (length bytes) o k (omega (arith, l)), at_is os (length bytes) o (k + 1) l) refl

  run_more : (j k : ℕ) → j ≤ k → k + 1 < length os → run j (k + 1) ≡ take (there k - there j) (drop (there j) bytes) ++ run k (k + 1)
  run_more j k h l =
      let a = at_rising os (length bytes) o j k h (omega (arith, l)) in
      let b = at_rising os (length bytes) o k (k + 1) (omega arith) l in
      let e : there (k + 1) - there j ≡ (there k - there j) + (there (k + 1) - there k) = omega (arith, a, b) in
      let d : there j + (there k - there j) ≡ there k = omega (arith, a) in
      rw e (take-add (there k - there j) (there (k + 1) - there k) (drop (there j) bytes) ∙ rw (drop-drop (there k - there j) (there j) bytes, d) refl)

  -- strings one after another are UTF-8 together
  texts_run : AreUtf8 os bytes → (k : ℕ) → k < length os → IsUtf8 (run 0 k)
  texts_run t zero l = let e : there 0 - there 0 ≡ 0 = omega arith in rw e IsUtf8-nil
  texts_run t (suc k) l =
      let h = texts_run t k (omega (arith, l)) in
      let p : IsUtf8 (run k (k + 1)) = subst IsUtf8 (part_is k (omega (arith, l))) (t k (omega (arith, l))) in
      let e : suc k ≡ k + 1 = omega arith in
      rw e (rw (run_more 0 k (omega arith) (omega (arith, l))) (IsUtf8-append _ _ h p))

module _ (os : List ℤ) (bytes : List ℕ) (o : IsOffsets os (length bytes)) (a b : ℕ) (first : offset_at os 0 ≡ pos a) (last : offset_at os (length os - 1) ≡ pos b) where
  abbrev end : ℕ
  end = length os - 1

  first_is : there os bytes o 0 ≡ a
  first_is = ap position first

  last_is : there os bytes o end ≡ b
  last_is = ap position last

  abbrev text : List ℕ
  text = take (b - a) (drop a bytes)

  above : (k : ℕ) → k < length os → a ≤ there os bytes o k
  above k l = omega (arith, first_is, at_rising os (length bytes) o 0 k (omega arith) l)

  below : (k : ℕ) → k < length os → there os bytes o k ≤ b
  below k l = omega (arith, last_is, at_rising os (length bytes) o k end (omega (arith, l)) (omega (arith, l)))

  -- no offset is before the first
  pub all_from : (k : ℕ) → k < length os → IsFrom a (offset_at os k)
  all_from k l = rw (at_is os (length bytes) o k l) (above k l)

  length_text : length text ≡ b - a
  length_text = length-take-le (b - a) (drop a bytes) (omega (arith, length-drop a bytes, last_is, at_within os (length bytes) o end (omega (arith, o.filled))))

  -- the bytes up to an offset
  prefix : (k : ℕ) → k < length os → take (there os bytes o k - a) text ≡ run os bytes o 0 k
  prefix k l =
      take-take (there os bytes o k - a) (b - a) (drop a bytes) (omega (arith, below k l)) ∙ rw first_is refl

  -- the bytes between two offsets, as a part of these bytes
  inner : (k : ℕ) → k + 1 < length os → take ((there os bytes o (k + 1) - a) - (there os bytes o k - a)) (drop (there os bytes o k - a) text) ≡ part os bytes k
  inner k l =
      let p = there os bytes o k in
      let q = there os bytes o (k + 1) in
      let lo : a ≤ p = above k (omega (arith, l)) in
      let up : p ≤ q = at_rising os (length bytes) o k (k + 1) (omega arith) l in
      let hi : q ≤ b = below (k + 1) l in
      let e : (p - a) + (b - p) ≡ b - a = omega (arith, lo, up, hi) in
      let d : a + (p - a) ≡ p = omega (arith, lo) in
      let f : (q - a) - (p - a) ≡ q - p = omega (arith, lo, up) in
      let t : drop (p - a) text ≡ take (b - p) (drop p bytes) = rw (← e) (drop-take (p - a) (b - p) (drop a bytes) ∙ rw (drop-drop (p - a) a bytes, d) refl) in
      rw (f, t) (take-take (q - p) (b - p) (drop p bytes) (omega (arith, hi)) ∙ sym (part_is os bytes o k l))

  pub all_utf8 : AreUtf8 os bytes → IsUtf8 text
  all_utf8 t =
      let h = texts_run os bytes o t end (omega (arith, o.filled)) in
      subst IsUtf8 (rw (first_is, last_is) refl) h

  pub boundaries : AreUtf8 os bytes → (k : ℕ) → k < length os → IsBoundary text a (offset_at os k)
  boundaries t k l =
      let h : IsUtf8 (take (there os bytes o k - a) text) = rw (prefix k l) (texts_run os bytes o t k l) in
      rw (at_is os (length bytes) o k l) (IsCharBoundary-from_take text (there os bytes o k - a) (all_utf8 t) (omega (arith, length_text, below k l)) h)

  pub between_boundaries : IsUtf8 text → ((k : ℕ) → k < length os → IsBoundary text a (offset_at os k)) → AreUtf8 os bytes
  between_boundaries u c = λ k l.
      let here : (i : ℕ) → i < length os → IsCharBoundary text (there os bytes o i - a) = λ i s. subst (IsBoundary text a) (at_is os (length bytes) o i s) (c i s) in
      let r = at_rising os (length bytes) o k (k + 1) (omega arith) l in
      subst IsUtf8 (inner k l) (IsUtf8-between text (there os bytes o k - a) (there os bytes o (k + 1) - a) u (omega (arith, r)) (here k (omega (arith, l))) (here (k + 1) l))
