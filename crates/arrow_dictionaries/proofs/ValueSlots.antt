-- Slots of values: equal values have equal slots, and none is null.
use Rattle.std.proofs.Common.{◌≡◌, ◌∙◌, ◌⊎◌, ◌↔◌, inl, inr, ℕ, zero, suc, ◌+◌, ◌<◌, ◌≤◌, Bool, true, ℤ, List, [], ◌∷◌, ◌++◌, length, map, get_or, take, refl, sym, ap, subst, arith, Option, Result, Ok, Err, IfOk, OnOk}
use Rattle.std.specs.Prelude.{sum_by}
use Rattle.std.specs.Borrow.{Bor}
use Rattle.std.specs.List.{All}
use Rattle.std.proofs.lemmas.List.Elements.{All-push}
use Rattle.std.proofs.lemmas.List.{get_or-map, length-map, map_more, take-map}
use Rattle.std.proofs.lemmas.List.Sums.{sum_by-append, sum_by_more_le}
use Rattle.std.proofs.lemmas.Slice.Eq.{bytes_eq-Decides}
use Rattle.std.specs.Str.{bytes_eq}
use Rattle.arrow_array.specs.Dictionaries.{IsKeyInto}
use Rattle.arrow_core.specs.declared.error.Error.{Error}
use Rattle.arrow_core.specs.declared.error.Error.TheVariants.{Overflow}
use Rattle.arrow_core.specs.Numbers.{slot_of_numbers}
use Rattle.arrow_core.specs.declared.slot.Slot.{Slot, Struct', items-the_row-Slot, items_hidden-the_row-Slot-0}
use Rattle.arrow_core.specs.declared.slot.Slot.TheVariants as slot
use Rattle.arrow_dictionaries.specs.Encoding.{IsEncodingFault, string_size}
use Rattle.arrow_dictionaries.specs.Indices.{index_key, string_slot}

-- ---- integers

integers_same : (ns ms : List ℤ) → map slot.Integer ns ≡ map slot.Integer ms → ns ≡ ms
integers_same [] [] e = refl
integers_same [] (m ∷ ms) e = absurd cc
integers_same (n ∷ ns) [] e = absurd cc
integers_same (n ∷ ns) (m ∷ ms) e =
    let first : n ≡ m = cc in
    let others : map slot.Integer ns ≡ map slot.Integer ms = cc in
    λ i. first i ∷ integers_same ns ms others i

abbrev slots_in : Slot → List Slot
slots_in (Struct' shape slots) = items-the_row-Slot _ slots
slots_in _ = []

structs_same : (xs ys : List Slot) → slot.Struct xs ≡ slot.Struct ys → xs ≡ ys
structs_same xs ys e = sym (items_hidden-the_row-Slot-0 xs) ∙ ap slots_in e ∙ items_hidden-the_row-Slot-0 ys

numbers_same : (ns ms : List ℤ) → slot_of_numbers ns ≡ slot_of_numbers ms → ns ≡ ms
numbers_same [] [] e = refl
numbers_same [] (m ∷ []) e = absurd cc
numbers_same [] (m ∷ l ∷ ms) e = integers_same [] (m ∷ l ∷ ms) (structs_same _ _ e)
numbers_same (n ∷ []) [] e = absurd cc
numbers_same (n ∷ []) (m ∷ []) e = cc
numbers_same (n ∷ []) (m ∷ l ∷ ms) e = absurd cc
numbers_same (n ∷ k ∷ ns) [] e = integers_same (n ∷ k ∷ ns) [] (structs_same _ _ e)
numbers_same (n ∷ k ∷ ns) (m ∷ []) e = absurd cc
numbers_same (n ∷ k ∷ ns) (m ∷ l ∷ ms) e = integers_same (n ∷ k ∷ ns) (m ∷ l ∷ ms) (structs_same _ _ e)

-- of a native type, by its laws
module _ {T : Type 0} (same : T → T → Bool) (numbers : T → List ℤ) (shown : T → Slot) (tells_slot : (x : T) → shown x ≡ slot_of_numbers (numbers x))
    (tells_value : (x y : T) → numbers x ≡ numbers y → x ≡ y) (tells_equal : (x y : T) → (same x y ≡ true) ↔ (x ≡ y)) where
  pub native_exact : (x y : T) → (same x y ≡ true) ↔ (shown x ≡ shown y)
  native_exact x y = (
    λ e. ap shown ((tells_equal x y).0 e),
    λ e. (tells_equal x y).1 (tells_value x y (numbers_same (numbers x) (numbers y) (sym (tells_slot x) ∙ e ∙ tells_slot y))),
  )

-- ---- strings

pub string_exact : (x y : Bor (List ℕ)) → (bytes_eq x.now y.now ≡ true) ↔ (string_slot x ≡ string_slot y)
string_exact x y = (λ e. ap slot.String ((bytes_eq-Decides x.now y.now).0 e), λ e. (bytes_eq-Decides x.now y.now).1 cc)

-- ---- so many of them

-- values so far, and one more
pub value_more : {T : Type 0} (shown : T → Slot) (xs : List T) (i : ℕ) (x : T) (old new : List Slot) → i < length xs → x ≡ get_or xs i x → old ≡ map shown (take i xs) → new ≡ old ++ shown x ∷ [] → new ≡ map shown (take (i + 1) xs)
value_more shown xs i x old new l is h e = e ∙ (λ j. h j ++ shown (is j) ∷ []) ∙ sym (map_more shown xs i x l)

take_all : {A : Type 0} (l : List A) (n : ℕ) → length l ≤ n → take n l ≡ l
take_all [] zero h = refl
take_all [] (suc n) h = refl
take_all (x ∷ l) zero h = absurd (omega (arith, h))
take_all (x ∷ l) (suc n) h = ap (λ k. x ∷ k) (take_all l n (omega (arith, h)))

pub all_values : {T : Type 0} (shown : T → Slot) (xs : List T) (n : ℕ) (slots : List Slot) → length xs ≤ n → slots ≡ map shown (take n xs) → slots ≡ map shown xs
all_values shown xs n slots l h = h ∙ ap (map shown) (take_all xs n l)

-- ---- strings so far, and one more

module _ (xs : List (Bor (List ℕ))) (i : ℕ) (d : Bor (List ℕ)) (l : i < length xs) where
  pub string_more : (old new : List Slot) → old ≡ map string_slot (take i xs) → new ≡ old ++ slot.String (get_or xs i d).now ∷ [] → new ≡ map string_slot (take (i + 1) xs)
  string_more old new h e = e ∙ ap (λ (z : List Slot). z ++ slot.String (get_or xs i d).now ∷ []) h ∙ sym (map_more string_slot xs i d l)

  pub size_more : (old new : ℕ) → old ≡ sum_by string_size (map string_slot (take i xs)) → new ≡ old + length (get_or xs i d).now → new ≡ sum_by string_size (map string_slot (take (i + 1) xs))
  size_more old new h e =
      omega (
        arith,
        e,
        h,
        ap (sum_by string_size) (map_more string_slot xs i d l),
        sum_by-append string_size (map string_slot (take i xs)) (string_slot (get_or xs i d) ∷ []),
      )

  pub too_long : (greatest before : ℕ) (e : Error) → before ≡ sum_by string_size (map string_slot (take i xs))
      → IsEncodingFault (greatest < before + length (get_or xs i d).now) e → IsEncodingFault (greatest < sum_by string_size (map string_slot xs)) e
  too_long greatest before e b (inl o) = inl o
  too_long greatest before e b (inr o) =
      let n : i < length (map string_slot xs) = omega (arith, l, length-map xs string_slot) in
      let at : get_or (map string_slot xs) i (string_slot d) ≡ string_slot (get_or xs i d) = get_or-map string_slot xs i d (string_slot d) l in
      inr (
        o.0,
        omega (arith, o.1, b, ap (sum_by string_size) (sym (take-map string_slot i xs)), sum_by_more_le string_size (map string_slot xs) i (string_slot d) n, ap string_size at),
      )

-- the array of a builder
pub boxed : {A : Type 0} (r : Result A Error) (view : A → List Slot) (s t : List Slot) → s ≡ t → IfOk r (λ a. view a ≡ s) → IfOk r (λ a. view a ≡ t)
boxed (Ok a) view s t e h = h ∙ e
boxed (Err x) view s t e h = tt

-- ---- keys so far, and one more

pub key_more : (ps : List (Option ℕ)) (i : ℕ) (d : Option ℕ) (old new : List Slot) → i < length ps → old ≡ map index_key (take i ps) → new ≡ old ++ index_key (get_or ps i d) ∷ [] → new ≡ map index_key (take (i + 1) ps)
key_more ps i d old new l h e = e ∙ ap (λ (z : List Slot). z ++ index_key (get_or ps i d) ∷ []) h ∙ sym (map_more index_key ps i d l)

pub more_keys : (count : ℕ) (old new : List Slot) (key : Slot) → All (IsKeyInto count) old → IsKeyInto count key → new ≡ old ++ key ∷ [] → All (IsKeyInto count) new
more_keys count old new key h k e = subst (All (IsKeyInto count)) (sym e) (All-push (IsKeyInto count) old key h k)

pub boxed_keys : {A : Type 0} (count : ℕ) (r : Result A Error) (view : A → List Slot) (s : List Slot) → All (IsKeyInto count) s → IfOk r (λ a. view a ≡ s) → IfOk r (λ a. All (IsKeyInto count) (view a))
boxed_keys count (Ok a) view s h e = subst (All (IsKeyInto count)) (sym e) h
boxed_keys count (Err x) view s h e = tt

-- ---- bytes that offsets count

-- what was pushed is no overflow
pub push_within : {A : Type 0} (r : Result A Error) (greatest n new : ℕ) → ((r ≡ Err Overflow) ↔ (greatest < n)) → OnOk r (new ≡ n) → OnOk r (new ≤ greatest)
push_within (Ok a) greatest n new over e =
    let few : greatest < n → ⊥ = λ l. is_not (over.1 l) in
    omega (arith, few, e)
  where
    is_not : Ok a ≡ Err Overflow → ⊥
    is_not p = absurd cc
push_within (Err x) greatest n new over e = tt

pub size_within : {A : Type 0} (r : Result A Error) (greatest bytes : ℕ) (xs : List (Bor (List ℕ))) (n : ℕ) → length xs ≤ n → bytes ≡ sum_by string_size (map string_slot (take n xs)) → bytes ≤ greatest
    → OnOk r (sum_by string_size (map string_slot xs) ≤ greatest)
size_within (Ok a) greatest bytes xs n l h w = omega (arith, h, w, ap (λ ys. sum_by string_size (map string_slot ys)) (take_all xs n l))
size_within (Err x) greatest bytes xs n l h w = tt
