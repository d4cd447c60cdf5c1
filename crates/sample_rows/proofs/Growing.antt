-- One draw more, one row more, and one slot more.
use Rattle.std.proofs.Common.{◌≡◌, ◌∙◌, ℕ, ℤ, pos, zero, suc, ◌+◌, ◌%◌, ◌==◌, ◌<◌, ◌^◌, true, false, List, [], ◌∷◌, ◌++◌, length, map, drop, codes, decimal, if◌then◌else◌, Option, Result, Ok, Err, OnOk, MatchResult, refl, sym, ap, subst, add-one, append_assoc, arith}
use Rattle.std.specs.List.{range_with_len}
use mir.Syntax.{w64}
use mir.Val.{of_z, to_z}
use Rattle.std.proofs.lemmas.Bool.Decides.{nat_tests}
use Rattle.std.proofs.lemmas.Int.{ints}
use Rattle.std.proofs.lemmas.List.FromFn.{map-range_with_len_more}
use Rattle.arrow_core.specs.declared.error.Error.{Error}
use Rattle.arrow_core.specs.declared.error.Error.TheVariants.{OutOfMemory}
use Rattle.arrow_core.specs.declared.slot.Slot.{Slot}
use Rattle.arrow_core.specs.declared.slot.Slot.TheVariants as slot
use Rattle.arrow_builders.proofs.Staying.{lists_stay, drop_prefix}
use Rattle.arrow_flat.specs.Nested.{items_of, lists_from}
use Rattle.sample_rows.specs.Drawing.{next, drawn, after, user_of, user, tag_count, tag_of, tags, after_row, is_ok, before_row}

pub row_more : (start i : ℕ) → before_row start (i + 1) ≡ after_row (before_row start i)
row_more start i = rw add-one refl

-- what follows a column and the slots below n: slot n
pub slot_more : (f : ℕ → Slot) (old before now : List Slot) (n : ℕ) (x : Slot) → before ≡ old ++ map f (range_with_len 0 n) → now ≡ before ++ x ∷ [] → x ≡ f n
    → now ≡ old ++ map f (range_with_len 0 (n + 1))
slot_more f old before now n x so more is =
    more ∙ ap (λ (zs : List Slot). zs ++ x ∷ []) so ∙ append_assoc old (map f (range_with_len 0 n)) (x ∷ [])
    ∙ ap (λ (y : Slot). old ++ (map f (range_with_len 0 n) ++ y ∷ [])) is ∙ ap (λ (zs : List Slot). old ++ zs) (sym (map-range_with_len_more f 0 n n (omega arith)))

-- the same slot, where a push is Ok
pub same_slot : {T : Type 0} (r : Result T Error) (old new : List Slot) (x y : Slot) → x ≡ y → OnOk r (new ≡ old ++ x ∷ []) → OnOk r (new ≡ old ++ y ∷ [])
same_slot (Ok v) old new x y e h = h ∙ ap (λ z. old ++ z ∷ []) e
same_slot (Err d) old new x y e h = tt

-- a number of 64 bits, as a call is given it
natural : (i : ℕ) → i < 2 ^ 63 → to_z w64 (of_z w64 (pos i)) ≡ pos i
natural i l = omega (arith, ints, l)

pub given : (z : ℤ) (i : ℕ) → z ≡ pos i → i < 2 ^ 63 → to_z w64 (of_z w64 z) ≡ pos i
given z i e l = ap (λ y. to_z w64 (of_z w64 y)) e ∙ natural i l

-- ---- users

pub no_user : (state n : ℕ) → n ≡ drawn (next state) → n % 4 ≡ 0 → slot.Null ≡ user state
unfolding user
no_user state n e z = sym (ap user_of (sym e) ∙ ap (λ m. if m == 0 then slot.Null else slot.String (codes "u" ++ decimal (n % 1000))) z)

pub some_user : (state n : ℕ) → n ≡ drawn (next state) → (n % 4 ≡ 0 → ⊥) → slot.String (codes "u" ++ decimal (n % 1000)) ≡ user state
unfolding user
some_user state n e z =
    let f : (n % 4 == 0) ≡ false = grind (arith, nat_tests, z) in
    sym (ap user_of (sym e) ∙ ap (λ b. if b then slot.Null else slot.String (codes "u" ++ decimal (n % 1000))) f)

-- ---- tags

pub tags_done : (state n : ℕ) (old now : List Slot) → n ≡ tag_count state → now ≡ old ++ map (λ k. tag_of (drawn (after (k + 3) state))) (range_with_len 0 n) → now ≡ old ++ tags state
unfolding tags
tags_done state n old now e h = h ∙ ap (λ m. old ++ map (λ k. tag_of (drawn (after (k + 3) state))) (range_with_len 0 m)) e

-- the list of the items that a child took, after the lists so far, where memory doesn't run out
pub list_more : {T : Type 0} (r q : Result T Error) (lens : List (Option ℕ)) (child items grown new : List Slot) → MatchResult r (λ v. q ≡ Ok v) (λ e. q ≡ Err OutOfMemory)
    → length child ≡ items_of lens → grown ≡ child ++ items → OnOk r (new ≡ lists_from 0 lens grown ++ slot.List (drop (items_of lens) grown) ∷ [])
    → OnOk q (new ≡ lists_from 0 lens child ++ slot.List items ∷ [])
list_more (Ok v) q lens child items grown new m tight e h =
    let stay : lists_from 0 lens grown ≡ lists_from 0 lens child = ap (lists_from 0 lens) e ∙ lists_stay 0 lens child items (omega (arith, tight)) in
    let rest : drop (items_of lens) grown ≡ items = (λ i. drop (sym tight i) (e i)) ∙ drop_prefix child items in
    subst (λ z. OnOk z (new ≡ lists_from 0 lens child ++ slot.List items ∷ [])) (sym m) (h ∙ (λ i. stay i ++ slot.List (rest i) ∷ []))
list_more (Err d) q lens child items grown new m tight e h = subst (λ z. OnOk z (new ≡ lists_from 0 lens child ++ slot.List items ∷ [])) (sym m) tt

-- ---- booleans

pub ok_is : (state last n : ℕ) → last ≡ after_row state → n ≡ drawn last → slot.Boolean (n % 2 == 1) ≡ is_ok state
unfolding is_ok
ok_is state last n e d = ap (λ m. slot.Boolean (m % 2 == 1)) (d ∙ ap drawn e)
