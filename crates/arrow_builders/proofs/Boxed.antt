-- The arrays that nested builders give, and when they refuse.
use Rattle.std.proofs.Common.{◌≡◌, ap, ◌∙◌, sym, subst, inl, inr, ℕ, zero, suc, ◌+◌, ◌-◌, ◌/◌, ◌<◌, ◌≤◌, Bool, ℤ, pos, List, [], ◌∷◌, ◌++◌, map, length, drop, get_or, Option, Some, append_assoc, refl, arith, add-one, Result, Ok, Err, IfOk, IfErr, OnOk}
use Rattle.std.specs.Result.{IsErrAnd}
use Rattle.std.specs.Option.{is_some}
use Rattle.std.proofs.Math.Seq.{drop-cons}
use Rattle.std.proofs.Math.ListN.{drop_of_length-le}
use Rattle.std.proofs.Math.Nat.{mul-div_cancel}
use Rattle.std.proofs.lemmas.List.{map-append, append-nil}
use Rattle.arrow_core.specs.declared.error.Error.{Error}
use Rattle.arrow_core.specs.declared.slot.Slot.{Slot}
use Rattle.arrow_core.specs.declared.types.DataType.{DataType}
use Rattle.arrow_array.specs.Bits.{Packed}
use Rattle.arrow_array.specs.FixedLists.{FixedListFits, fixed_list_at, list_size}
use Rattle.arrow_array.specs.Lists.{ListFits, list_at}
use Rattle.arrow_array.specs.Offsets.{offset_at}
use Rattle.arrow_array.specs.Parts.{IsRefusalOf}
use Rattle.arrow_array.specs.Slots.{slots_of}
use Rattle.arrow_builders.specs.Children.{AllFit}
use Rattle.arrow_flat.specs.Builders.{slots_where}
use Rattle.arrow_builders.specs.Fits.{ChildrenFit, ListsFit, FixedListsFit}
use Rattle.arrow_flat.specs.Normalized.{AreNormalized}
use Rattle.arrow_flat.specs.Nested.{items_of, lists_from, offsets_of, fixed_list_slot}
use Rattle.arrow_builders.specs.declared.array.MutableArray.{MutableArray}
use Rattle.arrow_builders.proofs.ListFits.{list_parts, parts_reach}
use Rattle.arrow_flat.proofs.ListOffsets.{last_offset, length-offsets}
use Rattle.arrow_builders.proofs.NestedSlots.{lists-array, fixed_lists-array}
use Rattle.arrow_builders.proofs.OtherFits.{fixed_parts, fixed_fit}

-- ---- answers

-- where what is asked implies what was asked, a refusal of the one is a refusal of the other
pub refusal : {A : Type 0} (P Q : Type 0) (r : Result A Error) → (Q → P) → IfErr r (IsRefusalOf P) → IfErr r (IsRefusalOf Q)
refusal P Q (Ok a) f h = tt
refusal P Q (Err e) f h = elim h [ inl m ↦ inl m | inr q ↦ inr (q.0, λ x. q.1 (f x)) ]

pub refusal_of : (P Q : Type 0) (e : Error) → (Q → P) → IsRefusalOf P e → IsRefusalOf Q e
refusal_of P Q e f h = elim h [ inl m ↦ inl m | inr q ↦ inr (q.0, λ x. q.1 (f x)) ]

-- an error that is handed on
pub handed_on : {A : Type 0} (Q : Error → Type 0) (e : Error) (r : Result A Error) → IsErrAnd r (λ x. x ≡ e) → Q e → IfErr r Q
handed_on Q e (Ok a) h q = tt
handed_on Q e (Err x) h q = subst Q (sym h) q

pub accepted : {A : Type 0} (P Q : Type 0) (r : Result A Error) → (P → Q) → IfOk r (λ a. P) → OnOk r Q
accepted P Q (Ok a) f h = f h
accepted P Q (Err e) f h = tt

pub shown_slots : {A : Type 0} (slots : A → List Slot) (P : Type 0) (r : Result A Error) (xs ys : List Slot) → IfOk r (λ a. slots a ≡ xs) → IfOk r (λ a. P) → (P → xs ≡ ys) → IfOk r (λ a. slots a ≡ ys)
shown_slots slots P (Ok a) xs ys h p f = h ∙ f p
shown_slots slots P (Err e) xs ys h p f = tt

-- ---- lists

module _ (is_large : Bool) (t u item other : DataType) (ls : List (Option ℕ)) (os : List ℤ) (xs ys : List Slot) (v : Packed) (n : ℕ)
    (te : u ≡ t) (ie : other ≡ item) (oe : os ≡ offsets_of ls) (ye : ys ≡ xs) (ve : v.booleans ≡ map is_some ls) (ne : n ≡ length os) where
  pub to_parts : (P : Type 0) → ListsFit is_large t item (items_of ls) (length xs) P → ListFits is_large u other os ys (Some v)
  to_parts P h = rw (te, ie, oe, ye) (list_parts is_large t item ls xs v P h ve)

  plain_parts : ListFits is_large u other os ys (Some v) → ListFits is_large t item (offsets_of ls) xs (Some v)
  plain_parts h =
      let a : ListFits is_large t other os ys (Some v) = subst (λ z. ListFits is_large z other os ys (Some v)) te h in
      let b : ListFits is_large t item os ys (Some v) = subst (λ z. ListFits is_large t z os ys (Some v)) ie a in
      let c : ListFits is_large t item (offsets_of ls) ys (Some v) = subst (λ z. ListFits is_large t item z ys (Some v)) oe b in
      subst (λ z. ListFits is_large t item (offsets_of ls) z (Some v)) ye c

  pub from_parts : (P : Type 0) → P → ListFits is_large u other os ys (Some v) → ListsFit is_large t item (items_of ls) (length xs) P
  from_parts P p h = let k = plain_parts h in record { kind = k.kind; within = parts_reach is_large t item ls xs v k; below = p }

  pub same_lists : ListFits is_large u other os ys (Some v) → slots_of (list_at os ys) (Some v) 0 (n - 1) ≡ lists_from 0 ls xs
  same_lists h =
      let m : n - 1 ≡ length ls = omega (arith, ne, ap length oe, length-offsets ls) in
      rw (oe, ye) (lists-array ls xs v (n - 1) (parts_reach is_large t item ls xs v (plain_parts h)) ve m)

-- lists that have as many items as there are begin at the first and end with the last
pub lists_normalized : {A : Type 0} (offsets : A → List ℤ) (items : A → List Slot) (r : Result A Error) (os : List ℤ) (ls : List (Option ℕ)) (ys xs : List Slot) → os ≡ offsets_of ls → ys ≡ xs → length xs ≡ items_of ls → IfOk r (λ a. offsets a ≡ os) → IfOk r (λ a. items a ≡ ys) → IfOk r (λ a. AreNormalized (offsets a) (length (items a)))
lists_normalized offsets items (Ok a) os ls ys xs oe ye t h k =
    let m : length (offsets_of ls) - 1 ≡ length ls = omega (arith, length-offsets ls) in
    let all : AreNormalized (offsets_of ls) (items_of ls) = record { first = refl; last = ap (λ (k : ℕ). offset_at (offsets_of ls) k) m ∙ last_offset ls (pos 0) } in
    subst (λ (zs : List ℤ). AreNormalized zs (length (items a))) (sym (h ∙ oe)) (subst (AreNormalized (offsets_of ls)) (sym (ap length (k ∙ ye) ∙ t)) all)
lists_normalized offsets items (Err e) os ls ys xs oe ye t h k = tt

-- ---- fixed-size lists

module _ (t u item other : DataType) (ts : List Bool) (xs ys : List Slot) (v : Packed) (te : u ≡ t) (ie : other ≡ item) (ye : ys ≡ xs) (ve : v.booleans ≡ ts) where
  pub to_fixed_parts : (P : Type 0) → FixedListsFit t item (length ts) (length xs) P → FixedListFits u other (length ys) (Some v)
  to_fixed_parts P h = rw (te, ie, ye) (fixed_parts t item (length ts) (length xs) v P h (ap length ve))

  pub from_fixed_parts : (P : Type 0) → P → FixedListFits u other (length ys) (Some v) → FixedListsFit t item (length ts) (length xs) P
  from_fixed_parts P p h =
      let a : FixedListFits t other (length ys) (Some v) = subst (λ z. FixedListFits z other (length ys) (Some v)) te h in
      let b : FixedListFits t item (length ys) (Some v) = subst (λ z. FixedListFits t z (length ys) (Some v)) ie a in
      fixed_fit t item (length ts) (length xs) v P p (subst (λ z. FixedListFits t item (length z) (Some v)) ye b) (ap length ve)

  pub same_fixed_lists : FixedListFits u other (length ys) (Some v) → slots_of (fixed_list_at (list_size u) ys) (Some v) 0 (length ys / list_size u) ≡ slots_where ts (fixed_list_slot (list_size t) xs)
  same_fixed_lists h =
      let f = from_fixed_parts (Unit {0}) tt h in
      let m : length xs / list_size t ≡ length ts = ap (λ n. n / list_size t) f.whole ∙ mul-div_cancel (length ts) f.filled in
      rw (te, ye) (fixed_lists-array (list_size t) (length ts) xs v ts (length xs / list_size t) f.whole ve m refl)

-- what holds in any case holds after an answer
pub always : {A E : Type 0} (P : Type 0) (r : Result A E) → P → OnOk r P
always P (Ok a) p = p
always P (Err e) p = tt

-- ---- several children

pub all_fit_at : (bs : List MutableArray) (i : ℕ) (x : MutableArray) → i < length bs → AllFit bs → ChildrenFit (get_or bs i x)
all_fit_at [] i x l h = absurd (omega (arith, l))
all_fit_at (b ∷ bs) zero x l h = h.0
all_fit_at (b ∷ bs) (suc i) x l h = all_fit_at bs i x (omega (arith, l)) h.1

-- what is told of the arrays so far, and of the children to come
pub told_step : {A X : Type 0} (f : MutableArray → X) (g : A → X) (cs : List MutableArray) (i j : ℕ) (c : MutableArray) (made new : List A) (a : A) → j ≡ i + 1 → i < length cs → c ≡ get_or cs i c → g a ≡ f c → new ≡ made ++ a ∷ []
    → map g made ++ map f (drop i cs) ≡ map f cs → map g new ++ map f (drop j cs) ≡ map f cs
told_step f g cs i j c made new a q l e s n h =
    let d : drop i cs ≡ c ∷ drop (i + 1) cs = rw add-one (drop-cons cs i c l ∙ ap (λ (x : MutableArray). x ∷ drop (suc i) cs) (sym e)) in
    let p : map g new ≡ map g made ++ f c ∷ [] = rw n (map-append g made (a ∷ []) ∙ rw s refl) in
    rw (q, p) (append_assoc (map g made) (f c ∷ []) (map f (drop (i + 1) cs)) ∙ ap (λ xs. map g made ++ map f xs) (sym d) ∙ h)

pub told_all : {A X : Type 0} (f : MutableArray → X) (g : A → X) (cs : List MutableArray) (i : ℕ) (made : List A) → length cs ≤ i → map g made ++ map f (drop i cs) ≡ map f cs → map g made ≡ map f cs
told_all f g cs i made l h = sym (append-nil (map g made)) ∙ ap (λ xs. map g made ++ map f xs) (sym (drop_of_length-le cs l)) ∙ h
