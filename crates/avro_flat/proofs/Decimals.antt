-- Decimals at the start of bytes, as the code takes them.
use Rattle.std.proofs.Common.{◌≡◌, ◌∙◌, ◌⊎◌, inl, inr, ℕ, ◌<◌, ◌≤◌, take, drop, length, ℤ, List, Some, None, refl, sym, ap, arith}
use Rattle.std.proofs.lemmas.Bool.{cases_lt, lt-ltb, le-ltb, le-leb, lt-leb}
use Rattle.std.proofs.lemmas.List.{length-take-le}
use Rattle.arrow_core.specs.declared.slot.Slot.TheVariants as slot
use Rattle.avro_schema.specs.Encodes.{twos_complement}
use Rattle.avro_reference.specs.Prefix.{bytes_at, sized_at}
use Rattle.avro_reference.specs.Read.{decimal_at}
use Rattle.avro_reference.specs.Lengths.{length_at}
use Rattle.avro_flat.proofs.Counted.{sized_is, sized_none}

-- ---- so many bytes

pub decimal_short : (n : ℕ) (bytes : List ℕ) → length bytes < n → decimal_at (bytes_at n) bytes ≡ None
unfolding decimal_at bytes_at
decimal_short n bytes lt = rw (lt-ltb (length bytes) n lt) refl

decimal_much : (n : ℕ) (bytes : List ℕ) → 16 < n → n ≤ length bytes → decimal_at (bytes_at n) bytes ≡ None
unfolding decimal_at bytes_at
decimal_much n bytes long le =
    let l : 16 < length (take n bytes) = omega (arith, long, length-take-le n bytes le) in
    rw (le-ltb (length bytes) n le, lt-leb (length (take n bytes)) 16 l) refl

pub decimal_long : (n : ℕ) (bytes : List ℕ) → 16 < n → decimal_at (bytes_at n) bytes ≡ None
decimal_long n bytes long = from (cases_lt (length bytes) n)
  where
    from : (length bytes < n) ⊎ (n ≤ length bytes) → decimal_at (bytes_at n) bytes ≡ None
    from (inl lt) = decimal_short n bytes lt
    from (inr le) = decimal_much n bytes long le

decimal_some : (n : ℕ) (bytes : List ℕ) → n ≤ 16 → n ≤ length bytes → decimal_at (bytes_at n) bytes ≡ Some (slot.Integer (twos_complement (take n bytes)), drop n bytes)
unfolding decimal_at bytes_at
decimal_some n bytes short le =
    let l : length (take n bytes) ≤ 16 = omega (arith, short, length-take-le n bytes le) in
    rw (le-ltb (length bytes) n le, le-leb (length (take n bytes)) 16 l) refl

pub decimal_taken : (n : ℕ) (bytes part rest : List ℕ) (v : ℤ) → n ≤ 16 → (n ≤ length bytes) × (part ≡ take n bytes) × (rest ≡ drop n bytes) → v ≡ twos_complement part → decimal_at (bytes_at n) bytes ≡ Some (slot.Integer v, rest)
decimal_taken n bytes part rest v short p e =
    decimal_some n bytes short p.0 ∙ (λ i. Some (slot.Integer (sym (e ∙ ap twos_complement p.1) i), sym p.2 i))

-- ---- behind a length

pub counted_decimal : (bytes mid : List ℕ) (n : ℕ) → length_at bytes ≡ Some (n, mid) → decimal_at sized_at bytes ≡ decimal_at (bytes_at n) mid
unfolding decimal_at
counted_decimal bytes mid n e = rw (sized_is bytes mid n e) refl

pub decimal_none : (bytes : List ℕ) → length_at bytes ≡ None → decimal_at sized_at bytes ≡ None
unfolding decimal_at
decimal_none bytes e = rw (sized_none bytes e) refl
