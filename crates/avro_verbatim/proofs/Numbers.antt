-- A number's groups are its shortest encoding unless the last of several is 0.
use Rattle.std.proofs.Common.{◌≡◌, ◌∙◌, ℕ, zero, suc, ◌+◌, ◌-◌, ◌*◌, ◌/◌, ◌%◌, ◌^◌, ◌<◌, ◌≤◌, ℤ, pos, negsuc, Bool, true, false, cond, eqb, List, [], ◌∷◌, ◌++◌, length, take, drop, get_or, refl, sym, ap, subst, length-append, length-drop, length-take-le, add-one, arith}
use Rattle.std.proofs.lemmas.Int.{ints}
use Rattle.std.proofs.lemmas.List.{take_all}
use Rattle.std.proofs.lemmas.Bool.{eqb-true, eqb-false, eq-eqb}
use Rattle.std.proofs.lemmas.Nat.{mod_below}
use Rattle.avro_schema.specs.Number.{AreGroups, Number, unsigned, zigzag}
use Rattle.avro_container.specs.Laws.{Has64Bits}
use Rattle.avro_container.specs.Shortest.{groups, shortest, zigzagged}
use Rattle.avro_container.proofs.ShortestLemmas.{ends, leads_on}
use Rattle.avro_schema.specs.Encodes.{IsInt}
use Rattle.avro_verbatim.specs.Begins.{BeginsWithGroups, BeginsWithLength, BeginsWithNumber, groups_limit}

-- the last byte isn't 0
abbrev EndsHigh : List ℕ → Type 0
EndsHigh [] = Unit {0}
EndsHigh (b ∷ []) = 0 < b
EndsHigh (b ∷ c ∷ bytes) = EndsHigh (c ∷ bytes)

positive : (bytes : List ℕ) → AreGroups bytes → EndsHigh bytes → 1 ≤ unsigned bytes
positive [] g e = absurd g
positive (b ∷ []) g e = omega (arith, g, e)
positive (b ∷ c ∷ bytes) g e = let more : 1 ≤ unsigned (c ∷ bytes) = positive (c ∷ bytes) g.2 e in omega (arith, more)

low_byte : (b u : ℕ) → 128 ≤ b → b < 256 → 128 + (b % 128 + 128 * u) % 128 ≡ b
low_byte b u l h = omega (arith, l, h)

high_bytes : (b u : ℕ) → (b % 128 + 128 * u) / 128 ≡ u
high_bytes b u = let r : b % 128 < 128 = mod_below b 128 (omega arith) in omega (arith, r)

are_shortest : (m : ℕ) (bytes : List ℕ) → AreGroups bytes → length bytes ≤ suc m → EndsHigh bytes → groups m (unsigned bytes) ≡ bytes
are_shortest m [] g l e = absurd g
are_shortest m (b ∷ []) g l e =
    let small : b % 128 + 128 * 0 < 128 = omega (arith, g) in
    let same : (b % 128 + 128 * 0) % 128 ≡ b = omega (arith, g) in
    ends m (b % 128 + 128 * 0) small ∙ ap (λ (x : ℕ). x ∷ []) same
are_shortest zero (b ∷ c ∷ bytes) g l e = absurd (omega (arith, l))
are_shortest (suc m) (b ∷ c ∷ bytes) g l e =
    let some : 1 ≤ unsigned (c ∷ bytes) = positive (c ∷ bytes) g.2 e in
    let few : length (c ∷ bytes) ≤ suc m = omega (arith, l) in
    let rest = ap (groups m) (high_bytes b (unsigned (c ∷ bytes))) ∙ are_shortest m (c ∷ bytes) g.2 few e in
    leads_on m (unsigned (b ∷ c ∷ bytes)) (omega (arith, some)) ∙ (λ i. low_byte b (unsigned (c ∷ bytes)) g.0 g.1 i ∷ rest i)

ends_high : (prefix rest : List ℕ) (k : ℕ) → length prefix ≡ suc k → (get_or (prefix ++ rest) k 0 ≡ 0 → ⊥) → EndsHigh prefix
ends_high [] rest k n h = tt
ends_high (b ∷ []) rest zero n h = omega (arith, h)
ends_high (b ∷ []) rest (suc k) n h = absurd (omega (arith, n))
ends_high (b ∷ c ∷ bytes) rest zero n h = absurd (omega (arith, n))
ends_high (b ∷ c ∷ bytes) rest (suc k) n h = ends_high (c ∷ bytes) rest k (omega (arith, n)) h

has_64_bits : (u : ℕ) → u < 2 ^ 64 → Has64Bits (zigzag u)
has_64_bits u h = from (eqb (u % 2) 0)
  where
    from : (t : Bool) → Has64Bits (cond t (pos (u / 2)) (negsuc (u / 2)))
    from true = omega (arith, h)
    from false = omega (arith, h)

zigzagged_zigzag : (u : ℕ) → zigzagged (zigzag u) ≡ u
zigzagged_zigzag u = from (eqb (u % 2) 0) refl
  where
    from : (t : Bool) → eqb (u % 2) 0 ≡ t → zigzagged (cond (eqb (u % 2) 0) (pos (u / 2)) (negsuc (u / 2))) ≡ u
    from true q = rw q (let even : u % 2 ≡ 0 = eqb-true (u % 2) 0 q in omega (arith, even))
    from false q = rw q (odd (eqb-false (u % 2) 0 q))
      where
        odd : (u % 2 ≡ 0 → ⊥) → 2 * (u / 2) + 1 ≡ u
        odd d = omega (arith, d)

shortest_of : (u : ℕ) → shortest (zigzag u) ≡ groups 9 u
shortest_of u = ap (groups 9) (zigzagged_zigzag u)

-- a byte below 128
pub one_byte : (bytes rest : List ℕ) (b : ℕ) (v : ℤ) → bytes ≡ b ∷ rest → b < 128 → v ≡ zigzag b → BeginsWithNumber bytes v rest
one_byte bytes rest b v e l is =
    let same : b % 128 ≡ b = omega (arith, l) in
    subst (λ z. BeginsWithNumber bytes z rest) (sym is)
    (record { fits = has_64_bits b (omega (arith, l)); joined = e ∙ ap (λ (xs : List ℕ). xs ++ rest) (sym (shortest_of b ∙ ends 9 b l ∙ ap (λ (x : ℕ). x ∷ []) same)) })

-- several bytes, of which the last isn't 0
pub many_bytes : (bytes prefix mid rest : List ℕ) (v : ℤ) (n : ℕ) → Number prefix v → bytes ≡ prefix ++ mid → n ≡ length mid → rest ≡ take n mid → length mid < length bytes → (get_or bytes (length bytes - n - 1) 0 ≡ 0 → ⊥) → BeginsWithNumber bytes v rest
many_bytes bytes prefix mid rest v n number joined count is some high =
    let all : length bytes ≡ length prefix + length mid = ap length joined ∙ length-append prefix mid in
    let k : ℕ = length bytes - n - 1 in
    let last : length prefix ≡ suc k = omega (arith, all, count, some) in
    let high_end : EndsHigh prefix = ends_high prefix mid k last (λ z. high (ap (λ (xs : List ℕ). get_or xs k 0) joined ∙ z)) in
    let same : rest ≡ mid = is ∙ take_all n mid (omega (arith, count)) in
    let encoded : shortest v ≡ prefix = ap shortest number.value ∙ shortest_of (unsigned prefix) ∙ are_shortest 9 prefix number.groups number.short high_end in
    record { fits = subst Has64Bits (sym number.value) (has_64_bits (unsigned prefix) number.fits); joined = joined ∙ (λ i. sym encoded i ++ sym same i) }

-- ---- groups of seven bits, the last of which ends them

-- the top bit is set on each
abbrev pub AreHigh : List ℕ → Type 0
AreHigh [] = Unit {0}
AreHigh (b ∷ bytes) = (128 ≤ b) × (b < 256) × AreHigh bytes

pub one_high : (bytes : List ℕ) (i d : ℕ) → i < length bytes → AreHigh (take i bytes) → 128 ≤ get_or bytes i d → get_or bytes i d < 256 → AreHigh (take (suc i) bytes)
one_high [] i d l h low high = absurd (omega (arith, l))
one_high (b ∷ bytes) zero d l h low high = (low, high, tt)
one_high (b ∷ bytes) (suc i) d l h low high = (h.0, h.1, one_high bytes i d (omega (arith, l)) h.2 low high)

ends_positive : (highs : List ℕ) (b : ℕ) → b < 128 → 1 ≤ b → 1 ≤ unsigned (highs ++ b ∷ [])
ends_positive [] b l h = omega (arith, l, h)
ends_positive (a ∷ highs) b l h = let more : 1 ≤ unsigned (highs ++ b ∷ []) = ends_positive highs b l h in omega (arith, more)

high_groups : (m : ℕ) (highs : List ℕ) (b : ℕ) → AreHigh highs → length highs ≤ m → b < 128 → (0 < length highs → 1 ≤ b) → groups m (unsigned (highs ++ b ∷ [])) ≡ highs ++ b ∷ []
high_groups m [] b h l s p =
    let small : b % 128 + 128 * 0 < 128 = omega (arith, s) in
    let same : (b % 128 + 128 * 0) % 128 ≡ b = omega (arith, s) in
    ends m (b % 128 + 128 * 0) small ∙ ap (λ (x : ℕ). x ∷ []) same
high_groups zero (a ∷ highs) b h l s p = absurd (omega (arith, l))
high_groups (suc m) (a ∷ highs) b h l s p =
    let u = unsigned (highs ++ b ∷ []) in
    let positive_end : 1 ≤ b = p (omega arith) in
    let some : 1 ≤ u = ends_positive highs b s positive_end in
    let rest = ap (groups m) (high_bytes a u) ∙ high_groups m highs b h.2 (omega (arith, l)) s (λ _. positive_end) in
    leads_on m (a % 128 + 128 * u) (omega (arith, some)) ∙ (λ i. low_byte a u h.0 h.1 i ∷ rest i)

some_limit : (m c : ℕ) → 1 ≤ c → 1 ≤ groups_limit m c
some_limit zero c h = h
some_limit (suc m) c h = let more : 1 ≤ groups_limit m c = some_limit m c h in omega (arith, more)

below_limit : (m : ℕ) (highs : List ℕ) (b c : ℕ) → length highs ≤ m → b < 128 → 1 ≤ c → (length highs ≡ m → b < c) → unsigned (highs ++ b ∷ []) < groups_limit m c
below_limit zero [] b c l s o p = let last : b < c = p refl in omega (arith, last, s)
below_limit zero (a ∷ highs) b c l s o p = absurd (omega (arith, l))
below_limit (suc m) [] b c l s o p = let some : 1 ≤ groups_limit m c = some_limit m c o in omega (arith, some, s)
below_limit (suc m) (a ∷ highs) b c l s o p =
    let more : unsigned (highs ++ b ∷ []) < groups_limit m c = below_limit m highs b c (omega (arith, l)) s o (λ e. p (omega (arith, e))) in
    let r : a % 128 < 128 = mod_below a 128 (omega arith) in
    omega (arith, more, r)

take_next : (bytes : List ℕ) (i d : ℕ) → i < length bytes → bytes ≡ (take i bytes ++ get_or bytes i d ∷ []) ++ drop (suc i) bytes
take_next [] i d l = absurd (omega (arith, l))
take_next (b ∷ bytes) zero d l = refl
take_next (b ∷ bytes) (suc i) d l = ap (λ (xs : List ℕ). b ∷ xs) (take_next bytes i d (omega (arith, l)))

-- so many bytes with the top bit set, and one without it
pub groups_begin : (bytes rest : List ℕ) (most limit i d : ℕ) → most < 10 → 1 ≤ limit → i ≤ most → i < length bytes → AreHigh (take i bytes) → get_or bytes i d < 128 → (0 < i → 1 ≤ get_or bytes i d) → (i ≡ most → get_or bytes i d < limit) → rest ≡ drop (suc i) bytes → BeginsWithGroups most limit bytes rest
groups_begin bytes rest most limit i d few some within l high s positive_end last is =
    let b = get_or bytes i d in
    let highs = take i bytes in
    let count : length highs ≡ i = length-take-le i bytes (omega (arith, l)) in
    record {
      number = unsigned (highs ++ b ∷ []);
      small = below_limit most highs b limit (omega (arith, count, within)) s some (λ e. last (sym count ∙ e));
      joined = take_next bytes i d l ∙ (λ j. sym (high_groups 9 highs b high (omega (arith, count, within, few)) s (λ p. positive_end (omega (arith, count, p)))) j ++ sym is j);
    }

-- of a number of 64 bits
pub long_number : (bytes rest : List ℕ) (h : BeginsWithGroups 9 2 bytes rest) → BeginsWithNumber bytes (zigzag h.number) rest
long_number bytes rest h = record { fits = has_64_bits h.number (omega (arith, h.small)); joined = h.joined ∙ ap (λ (xs : List ℕ). xs ++ rest) (sym (shortest_of h.number)) }

-- and of 32 bits
pub int_number : (bytes rest : List ℕ) (h : BeginsWithGroups 4 16 bytes rest) → BeginsWithNumber bytes (zigzag h.number) rest
int_number bytes rest h = record { fits = has_64_bits h.number (omega (arith, h.small)); joined = h.joined ∙ ap (λ (xs : List ℕ). xs ++ rest) (sym (shortest_of h.number)) }

pub has_32_bits : (u : ℕ) → u < 2 ^ 32 → IsInt (zigzag u)
has_32_bits u h = from (eqb (u % 2) 0)
  where
    from : (t : Bool) → IsInt (cond t (pos (u / 2)) (negsuc (u / 2)))
    from true = (omega (arith, ints), omega (arith, ints, h))
    from false = (omega (arith, ints, h), omega (arith, ints))

-- an even byte below 128 is a length
pub length_byte : (bytes rest : List ℕ) (b n : ℕ) → bytes ≡ b ∷ rest → b < 128 → b % 2 ≡ 0 → n ≡ b / 2 → BeginsWithLength bytes n rest
length_byte bytes rest b n e l even half = one_byte bytes rest b (pos n) e l (ap pos half ∙ sym (ap (λ (t : Bool). cond t (pos (b / 2)) (negsuc (b / 2))) (eq-eqb (b % 2) 0 even)))

-- the bytes after the next one, as a slice of them is told
pub from_next : (bytes : List ℕ) (i : ℕ) → take (length bytes - (i + 1)) (drop (i + 1) bytes) ≡ drop (suc i) bytes
from_next bytes i = take_all (length bytes - (i + 1)) (drop (i + 1) bytes) (omega (arith, length-drop (i + 1) bytes)) ∙ ap (λ k. drop k bytes) (add-one i)
