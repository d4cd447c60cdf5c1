-- The twelve bytes of a duration.
use Rattle.std.proofs.Common.{◌≡◌, ◌∙◌, ℕ, suc, ◌-◌, ◌^◌, ◌<◌, ◌≤◌, ℤ, pos, negsuc, List, [], ◌∷◌, length, refl, sym, ap, subst, arith}
use Rattle.std.specs.Prelude.{◌-ℤ◌, ◌*ℤ◌}
use Rattle.std.specs.Int.{w32, byte_at, cast_unsigned, from_le_bytes, to_le_bytes}
use Rattle.std.proofs.lemmas.Nat.{from_le_bytes-to_le_bytes_4}
use Rattle.std.proofs.lemmas.Int.{ints}
use Rattle.std.proofs.lemmas.Bool.{lt-ltb, le-ltb}
use Rattle.arrow_core.specs.declared.slot.Slot.{Slot}
use Rattle.arrow_core.specs.declared.slot.Slot.TheVariants as slot
use Rattle.avro_schema.specs.Encodes.{IsInt, little_endian, signed_32, duration}
use Rattle.avro_encode.specs.Plain.{four_bytes, milliseconds, plain_duration}

abbrev pub duration_parts : ℤ → ℤ → ℤ → List Slot
duration_parts months days ms = slot.Integer months ∷ slot.Integer days ∷ slot.Integer (ms *ℤ pos 1000000) ∷ []

-- ---- four bytes

same_four : (a b c d : ℕ) → from_le_bytes w32 (a ∷ b ∷ c ∷ d ∷ []) ≡ little_endian (a ∷ b ∷ c ∷ d ∷ [])
same_four a b c d = omega arith

low_first : (n : ℕ) → n < 2 ^ 32 → little_endian (to_le_bytes w32 n) ≡ n
low_first n h = sym (same_four (byte_at 0 n) (byte_at 1 n) (byte_at 2 n) (byte_at 3 n)) ∙ from_le_bytes-to_le_bytes_4 n h

back : (v : ℤ) (n : ℕ) → IsInt v → n ≡ cast_unsigned w32 v → signed_32 (to_le_bytes w32 n) ≡ v
back (pos n) m h e =
    let is : m ≡ n = e in
    let small : n < 2 ^ 31 = omega (arith, ints, h.1) in
    let l : little_endian (to_le_bytes w32 m) ≡ m = low_first m (omega (arith, is, small)) in
    let s : little_endian (to_le_bytes w32 m) < 2 ^ 31 = subst (λ z. z < 2 ^ 31) (sym (l ∙ is)) small in
    rw (lt-ltb (little_endian (to_le_bytes w32 m)) (2 ^ 31) s) (ap pos (l ∙ is))
back (negsuc n) m h e =
    let is : m ≡ 2 ^ 32 - suc n = e in
    let b : n < 2 ^ 31 = omega (arith, ints, h.0) in
    let l : little_endian (to_le_bytes w32 m) ≡ m = low_first m (omega (arith, b, is)) in
    let large : 2 ^ 31 ≤ m = omega (arith, b, is) in
    let g : 2 ^ 31 ≤ little_endian (to_le_bytes w32 m) = subst (λ z. 2 ^ 31 ≤ z) (sym l) large in
    rw (le-ltb (little_endian (to_le_bytes w32 m)) (2 ^ 31) g) (ap (λ z. pos z -ℤ pos (2 ^ 32)) l ∙ omega (arith, ints, b, is))

four_back : (v : ℤ) → IsInt v → signed_32 (four_bytes v) ≡ v
four_back v h = back v (cast_unsigned w32 v) h refl

-- ---- milliseconds

pub whole : (ms : ℤ) → milliseconds (ms *ℤ pos 1000000) ≡ ms
whole ms = omega (arith, ints)

-- ---- twelve bytes

pub duration_length : (months days ms : ℤ) → length (plain_duration (duration_parts months days ms)) ≡ 12
duration_length months days ms = refl

pub duration_is : (months days ms : ℤ) → IsInt months → IsInt days → IsInt ms → duration (plain_duration (duration_parts months days ms)) ≡ slot.Struct (duration_parts months days ms)
duration_is months days ms m d s =
    let e : signed_32 (four_bytes (milliseconds (ms *ℤ pos 1000000))) ≡ ms = ap (λ v. signed_32 (four_bytes v)) (whole ms) ∙ four_back ms s in
    λ i. slot.Struct (slot.Integer (four_back months m i) ∷ slot.Integer (four_back days d i) ∷ slot.Integer (e i *ℤ pos 1000000) ∷ [])
