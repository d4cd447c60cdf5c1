-- Durations at the start of bytes, as the code takes them.
use Rattle.std.proofs.Common.{◌≡◌, ◌∙◌, ◌⊎◌, inl, inr, ℕ, suc, ◌+◌, ◌-◌, ◌^◌, ◌<◌, ◌≤◌, ℤ, pos, negsuc, List, [], ◌∷◌, length, take, drop, get_or, Some, None, refl, sym, ap, arith}
use Rattle.std.specs.Prelude.{◌-ℤ◌, ◌*ℤ◌}
use Rattle.std.specs.Int.{w32, cast_signed, from_le_bytes}
use Rattle.std.proofs.lemmas.Int.{ints}
use Rattle.std.proofs.lemmas.Bool.{cases_lt, lt-ltb, le-ltb}
use Rattle.std.proofs.lemmas.List.{get_or-drop, length-drop}
use Rattle.arrow_core.specs.declared.slot.Slot.{Slot}
use Rattle.arrow_core.specs.declared.slot.Slot.TheVariants as slot
use Rattle.avro_schema.specs.declared.schema.FixedLogical.TheVariants as fixed_logical
use Rattle.avro_schema.specs.Encodes.{little_endian, signed_32, duration}
use Rattle.avro_reference.specs.Prefix.{bytes_at}
use Rattle.avro_reference.specs.Read.{fixed_at}

-- ---- four bytes, the low byte first

first_four : (xs : List ℕ) → 4 ≤ length xs → take 4 xs ≡ get_or xs 0 0 ∷ get_or xs 1 0 ∷ get_or xs 2 0 ∷ get_or xs 3 0 ∷ []
first_four [] h = absurd (omega (arith, h))
first_four (a ∷ []) h = absurd (omega (arith, h))
first_four (a ∷ b ∷ []) h = absurd (omega (arith, h))
first_four (a ∷ b ∷ c ∷ []) h = absurd (omega (arith, h))
first_four (a ∷ b ∷ c ∷ d ∷ xs) h = refl

abbrev four_at : List ℕ → ℕ → List ℕ
four_at bs s = get_or bs s 0 ∷ get_or bs (s + 1) 0 ∷ get_or bs (s + 2) 0 ∷ get_or bs (s + 3) 0 ∷ []

four_from : (bs : List ℕ) (s : ℕ) → s + 4 ≤ length bs → take 4 (drop s bs) ≡ four_at bs s
four_from bs s h =
    let l : 4 ≤ length (drop s bs) = omega (arith, h, length-drop s bs) in
    let z : get_or (drop s bs) 0 0 ≡ get_or bs s 0 = get_or-drop s bs 0 0 ∙ ap (λ k. get_or bs k 0) (omega arith) in
    first_four (drop s bs) l ∙ (rw (z, get_or-drop s bs 1 0, get_or-drop s bs 2 0, get_or-drop s bs 3 0) refl)

low_first : (a b c d : ℕ) → from_le_bytes w32 (a ∷ b ∷ c ∷ d ∷ []) ≡ little_endian (a ∷ b ∷ c ∷ d ∷ [])
low_first a b c d = omega arith

low_below : (a b c d : ℕ) → a < 256 → b < 256 → c < 256 → d < 256 → little_endian (a ∷ b ∷ c ∷ d ∷ []) < 2 ^ 32
low_below a b c d h i j k = omega (arith, h, i, j, k)

signed_is : (bs : List ℕ) (n : ℕ) → n ≡ little_endian bs → n < 2 ^ 32 → cast_signed w32 n ≡ signed_32 bs
signed_is bs n e lt = from (cases_lt n (2 ^ 31))
  where
    from : (n < 2 ^ 31) ⊎ (2 ^ 31 ≤ n) → cast_signed w32 n ≡ signed_32 bs
    from (inl l) = rw (sym e, lt-ltb n (2 ^ 31) l) refl
    from (inr g) =
        let m : negsuc (2 ^ 32 - suc n) ≡ pos n -ℤ pos (2 ^ 32) = omega (arith, ints, g, lt) in
        rw (sym e, le-ltb n (2 ^ 31) g) m

pub int_is : (bs : List ℕ) (s : ℕ) → s + 4 ≤ length bs → ((i : ℕ) → get_or bs i 0 < 256) → cast_signed w32 (from_le_bytes w32 (four_at bs s)) ≡ signed_32 (take 4 (drop s bs))
int_is bs s h byte =
    let e = low_first (get_or bs s 0) (get_or bs (s + 1) 0) (get_or bs (s + 2) 0) (get_or bs (s + 3) 0) in
    let l = low_below (get_or bs s 0) (get_or bs (s + 1) 0) (get_or bs (s + 2) 0) (get_or bs (s + 3) 0) (byte s) (byte (s + 1)) (byte (s + 2)) (byte (s + 3)) in
    signed_is (four_at bs s) (from_le_bytes w32 (four_at bs s)) e (rw e l) ∙ ap signed_32 (sym (four_from bs s h))

-- ---- twelve bytes

pub interval_is : (part : List ℕ) (months days ns : ℤ) → months ≡ signed_32 (take 4 part) → days ≡ signed_32 (take 4 (drop 4 part)) → ns ≡ signed_32 (take 4 (drop 8 part)) *ℤ pos 1000000 → slot.Struct (slot.Integer months ∷ slot.Integer days ∷ slot.Integer ns ∷ []) ≡ duration part
interval_is part months days ns m d n = λ i. slot.Struct (slot.Integer (m i) ∷ slot.Integer (d i) ∷ slot.Integer (n i) ∷ [])

pub duration_short : (bytes : List ℕ) → length bytes < 12 → fixed_at 12 (Some fixed_logical.Duration) bytes ≡ None
unfolding fixed_at bytes_at
duration_short bytes lt = rw (lt-ltb (length bytes) 12 lt) refl

pub duration_taken : (bytes part rest : List ℕ) (x : Slot) → (12 ≤ length bytes) × (part ≡ take 12 bytes) × (rest ≡ drop 12 bytes) → x ≡ duration part → fixed_at 12 (Some fixed_logical.Duration) bytes ≡ Some (x, rest)
unfolding fixed_at bytes_at
duration_taken bytes part rest x p e = rw (le-ltb (length bytes) 12 p.0, p.2, e, p.1) refl
