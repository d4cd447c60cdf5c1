-- Indices that keys don't number, and strings that are too long.
use Rattle.std.proofs.Common.{◌≡◌, ◌∙◌, ◌⊎◌, ◌↔◌, inl, inr, ℕ, zero, suc, ◌+◌, ◌<◌, ◌≤◌, Bool, true, ℤ, pos, List, [], ◌∷◌, length, map, get_or, slice_index_or, Option, Some, None, refl, sym, ap, subst, arith, Result, Ok, Err, IfErr}
use Rattle.std.specs.Prelude.{sum_by}
use Rattle.std.specs.List.{All, Any}
use Rattle.std.proofs.lemmas.List.Elements.{All-head, All-tail}
use Rattle.arrow_array.specs.Dictionaries.{IsKeyInto}
use Rattle.arrow_core.specs.declared.error.Error.{Error}
use Rattle.arrow_core.specs.declared.error.Error.TheVariants.{OutOfMemory}
use Rattle.arrow_core.specs.declared.slot.Slot.{Slot}
use Rattle.arrow_core.specs.declared.types.IntegerType.{IntegerType}
use Rattle.arrow_dictionaries.specs.Encoding.{EncodesSlots, HasTooLongStrings, HasTooManyDistinct, IsEncodingFault, key_count, string_size}
use Rattle.arrow_dictionaries.specs.Indices.{index_key, IsKeyFault, IsPast}

-- an index past the keys stands among more distinct slots than there are keys
past : (n count : ℕ) (p : Option ℕ) → IsKeyInto n (index_key p) → IsPast count p → count < n
past n count None w a = absurd a
past n count (Some k) w a = omega (arith, w, a)

past_at : (n count : ℕ) (ps : List (Option ℕ)) → All (IsKeyInto n) (map index_key ps) → (i : ℕ) (p : Option ℕ) → i < length ps → slice_index_or ps i p ≡ p → IsPast count p → count < n
past_at n count [] w i p l e a = absurd (omega (arith, l))
past_at n count (q ∷ ps) w zero p l e a = past n count q (All-head (IsKeyInto n) (index_key q) (map index_key ps) w) (subst (IsPast count) (sym e) a)
past_at n count (q ∷ ps) w (suc i) p l e a = past_at n count ps (All-tail (IsKeyInto n) (index_key q) (map index_key ps) w) i p (omega (arith, l)) e a

pub keys_fault : (key : IntegerType) (slots items : List Slot) (ps : List (Option ℕ)) (e : Error) → EncodesSlots slots (map index_key ps) items → IsKeyFault (key_count key) ps e → IsEncodingFault (HasTooManyDistinct key slots) e
keys_fault key slots items ps e h (inl o) = inl o
keys_fault key slots items ps e h (inr o) = inr (o.0, (items, h.first, past_at (length items) (key_count key) ps h.within o.1.0 o.1.1 o.1.2 o.1.3 o.1.4))

same_at : (ps : List (Option ℕ)) (i : ℕ) (d f : Option ℕ) → i < length ps → get_or ps i f ≡ get_or ps i d
same_at [] i d f l = absurd (omega (arith, l))
same_at (p ∷ ps) zero d f l = refl
same_at (p ∷ ps) (suc i) d f l = same_at ps i d f (omega (arith, l))

-- the first index that isn't a key
pub index_fault : (count : ℕ) (ps : List (Option ℕ)) (i : ℕ) (d : Option ℕ) (e : Error) → i < length ps → IsEncodingFault (IsPast count (get_or ps i d)) e → IsKeyFault count ps e
index_fault count ps i d e l (inl o) = inl o
index_fault count ps i d e l (inr o) = inr (o.0, (i, get_or ps i d, l, same_at ps i d (get_or ps i d) l, o.1))

pub no_memory : {A : Type 0} (too_many : Type 0) (r : Result A Error) → IfErr r (λ e. e ≡ OutOfMemory) → IfErr r (IsEncodingFault too_many)
no_memory too_many (Ok a) h = tt
no_memory too_many (Err e) h = inl h

pub wider_fault : (a b : Type 0) (e : Error) → (a → b) → IsEncodingFault a e → IsEncodingFault b e
wider_fault a b e f (inl o) = inl o
wider_fault a b e f (inr o) = inr (o.0, f o.1)

-- the strings of an array
pub strings_fault : (greatest : ℕ) (many : Type 0) (slots keys items : List Slot) (e : Error) → EncodesSlots slots keys items → IsEncodingFault (greatest < sum_by string_size items) e → IsEncodingFault (many ⊎ HasTooLongStrings greatest slots) e
strings_fault greatest many slots keys items e h (inl o) = inl o
strings_fault greatest many slots keys items e h (inr o) = inr (o.0, inr (items, h.first, o.1))

pub all_keys_fault : {A : Type 0} (key : IntegerType) (slots items : List Slot) (ps qs : List (Option ℕ)) (r : Result A Error) → qs ≡ ps → EncodesSlots slots (map index_key ps) items → IfErr r (IsKeyFault (key_count key) qs)
    → IfErr r (IsEncodingFault (HasTooManyDistinct key slots))
all_keys_fault key slots items ps qs (Ok a) e h f = tt
all_keys_fault key slots items ps qs (Err x) e h f = keys_fault key slots items ps x h (subst (λ z. IsKeyFault (key_count key) z x) e f)
