-- The shortest encoded of a number.
use Rattle.std.proofs.Common.{◌≡◌, ℕ, zero, suc, ◌+◌, ◌-◌, ◌*◌, ◌/◌, ◌%◌, ◌^◌, ◌<◌, ◌≤◌, ◌⊎◌, inl, inr, Bool, true, false, cond, eqb, ℤ, pos, negsuc, List, [], ◌∷◌, ◌++◌, length, take, refl, sym, ◌∙◌, ap, subst, append_assoc, arith}
use Rattle.std.proofs.lemmas.Bool.{cases_lt, lt-ltb, le-ltb, eqb-true, eqb-false}
use Rattle.std.proofs.lemmas.List.{take_more_set}
use Rattle.std.proofs.lemmas.Nat.{mod_below}
use Rattle.std.proofs.Math.Nat.{pow-succ'}
use Rattle.std.specs.Prelude.{set}
use Rattle.avro_schema.specs.Number.{AreGroups, unsigned, zigzag, Number}
use Rattle.avro_container.specs.Laws.{Has64Bits, ShortestIsShortest}
use Rattle.avro_container.specs.Shortest.{zigzagged, groups, shortest}

pub leads_on : (m u : ℕ) → 128 ≤ u → groups (suc m) u ≡ (128 + u % 128) ∷ groups m (u / 128)
unfolding groups
leads_on m u h = rw (le-ltb u 128 h) refl

low : (u : ℕ) → u < 128 → u ≡ u % 128
low u h = grind (arith, h)

pub ends : (m u : ℕ) → u < 128 → groups m u ≡ u % 128 ∷ []
unfolding groups
ends zero u h = refl
ends (suc m) u h = rw (lt-ltb u 128 h) (ap (λ (x : ℕ). x ∷ []) (low u h))

pub last_group : (u : ℕ) → groups 0 u ≡ u % 128 ∷ []
unfolding groups
last_group u = refl

-- one more byte was encoded
pub encoded_more : (xs all : List ℕ) (len u : ℕ) → len < 9 → len < length xs → 128 ≤ u → take len xs ++ groups (9 - len) u ≡ all → take (len + 1) (set xs len (128 + u % 128)) ++ groups (9 - (len + 1)) (u / 128) ≡ all
encoded_more xs all len u l m h e =
    let left : 9 - len ≡ suc (9 - (len + 1)) = omega (arith, l) in
    ap (λ (z : List ℕ). z ++ groups (9 - (len + 1)) (u / 128)) (take_more_set xs len (128 + u % 128) m)
    ∙ append_assoc (take len xs) ((128 + u % 128) ∷ []) (groups (9 - (len + 1)) (u / 128))
    ∙ ap (λ (z : List ℕ). take len xs ++ z) (sym (leads_on (9 - (len + 1)) u h) ∙ ap (λ k. groups k u) (sym left))
    ∙ e

-- the last byte was encoded
pub encoded_all : (xs all : List ℕ) (len u : ℕ) → len ≤ 9 → len < length xs → (u < 128) ⊎ (9 ≤ len) → take len xs ++ groups (9 - len) u ≡ all → take (len + 1) (set xs len (u % 128)) ≡ all
encoded_all xs all len u l m h e =
    take_more_set xs len (u % 128) m ∙ ap (λ (z : List ℕ). take len xs ++ z) (sym (one h)) ∙ e
  where
    one : (u < 128) ⊎ (9 ≤ len) → groups (9 - len) u ≡ u % 128 ∷ []
    one (inl small) = ends (9 - len) u small
    one (inr full) = let none : 9 - len ≡ 0 = omega (arith, full) in ap (λ k. groups k u) none ∙ last_group u

-- ---- it is a number of that value

are_groups : (m u : ℕ) → AreGroups (groups m u)
are_groups zero u = subst AreGroups (sym (last_group u)) (mod_below u 128 (omega arith))
are_groups (suc m) u =
    elim (cases_lt u 128) [
      | inl small ↦ subst AreGroups (sym (ends (suc m) u small)) (mod_below u 128 (omega arith))
      | inr large ↦ subst AreGroups (sym (leads_on m u large)) (more (groups m (u / 128)) (are_groups m (u / 128)))
    ]
  where
    more : (g : List ℕ) → AreGroups g → AreGroups ((128 + u % 128) ∷ g)
    more [] h = absurd h
    more (c ∷ g) h = let r : u % 128 < 128 = mod_below u 128 (omega arith) in (omega arith, omega (arith, r), h)

unsigned_of : (m u : ℕ) → u < 128 ^ suc m → unsigned (groups m u) ≡ u
unsigned_of zero u h = ap unsigned (last_group u) ∙ grind (arith, h)
unsigned_of (suc m) u h =
    elim (cases_lt u 128) [
      | inl small ↦ ap unsigned (ends (suc m) u small) ∙ grind (arith, small)
      | inr large ↦
          let bound : u / 128 < 128 ^ suc m = let p : 128 ^ suc (suc m) ≡ 128 * 128 ^ suc m = pow-succ' 128 (suc m) in omega (arith, p, h) in
          let e : unsigned (groups m (u / 128)) ≡ u / 128 = unsigned_of m (u / 128) bound in
          ap unsigned (leads_on m u large) ∙ grind (arith, e)
    ]

few : (m u : ℕ) → length (groups m u) ≤ suc m
few zero u = rw (last_group u) (omega arith)
few (suc m) u =
    elim (cases_lt u 128) [
      | inl small ↦ rw (ends (suc m) u small) (omega arith)
      | inr large ↦ let e : length (groups m (u / 128)) ≤ suc m = few m (u / 128) in rw (leads_on m u large) (omega (arith, e))
    ]

pub zigzag_zigzagged : (v : ℤ) → zigzag (zigzagged v) ≡ v
zigzag_zigzagged (pos n) = let e : (2 * n) % 2 ≡ 0 = omega arith in let h : (2 * n) / 2 ≡ n = omega arith in rw (e, h) refl
zigzag_zigzagged (negsuc n) = let e : (2 * n + 1) % 2 ≡ 1 = omega arith in let h : (2 * n + 1) / 2 ≡ n = omega arith in rw (e, h) refl

pub shortest_is : (v : ℤ) → zigzagged v < 2 ^ 64 → Number (shortest v) v
shortest_is v h =
    let e : unsigned (groups 9 (zigzagged v)) ≡ zigzagged v = unsigned_of 9 (zigzagged v) (omega (arith, h)) in
    record { groups = are_groups 9 (zigzagged v); short = few 9 (zigzagged v); fits = rw e h; value = sym (ap zigzag e ∙ zigzag_zigzagged v) }

-- ---- and no other is shorter

zigzagged_zigzag : (u : ℕ) → zigzagged (zigzag u) ≡ u
zigzagged_zigzag u = by_parity u (eqb (u % 2) 0) refl
  where
    by_parity : (u : ℕ) (t : Bool) → eqb (u % 2) 0 ≡ t → zigzagged (cond (eqb (u % 2) 0) (pos (u / 2)) (negsuc (u / 2))) ≡ u
    by_parity u true q = rw q (let h : u % 2 ≡ 0 = eqb-true (u % 2) 0 q in omega (arith, h))
    by_parity u false q = rw q (odd (eqb-false (u % 2) 0 q))
      where
        odd : (u % 2 ≡ 0 → ⊥) → 2 * (u / 2) + 1 ≡ u
        odd d = omega (arith, d)

no_longer : (m : ℕ) (bytes : List ℕ) → AreGroups bytes → length (groups m (unsigned bytes)) ≤ length bytes
no_longer m [] h = absurd h
no_longer zero (b ∷ bs) h = rw (last_group (unsigned (b ∷ bs))) (omega arith)
no_longer (suc m) (b ∷ []) h =
    let r : b % 128 < 128 = mod_below b 128 (omega arith) in rw (ends (suc m) (b % 128 + 128 * 0) (omega (arith, r))) (omega arith)
no_longer (suc m) (b ∷ c ∷ bs) h =
    elim (cases_lt (unsigned (b ∷ c ∷ bs)) 128) [
      | inl small ↦ rw (ends (suc m) (unsigned (b ∷ c ∷ bs)) small) (omega arith)
      | inr large ↦
          let e : length (groups m (unsigned (c ∷ bs))) ≤ length (c ∷ bs) = no_longer m (c ∷ bs) h.2 in
          let r : b % 128 < 128 = mod_below b 128 (omega arith) in
          let d : (b % 128 + 128 * unsigned (c ∷ bs)) / 128 ≡ unsigned (c ∷ bs) = omega (arith, r) in
          rw (leads_on m (unsigned (b ∷ c ∷ bs)) large, d) (omega (arith, e))
    ]

pub none_shorter : (v : ℤ) (bytes : List ℕ) → Number bytes v → length (shortest v) ≤ length bytes
none_shorter v bytes n =
    let e : zigzagged v ≡ unsigned bytes = ap zigzagged n.value ∙ zigzagged_zigzag (unsigned bytes) in
    rw e (no_longer 9 bytes n.groups)

zigzagged_fits : (v : ℤ) → Has64Bits v → zigzagged v < 2 ^ 64
zigzagged_fits (pos n) h = omega (arith, h)
zigzagged_fits (negsuc n) h = omega (arith, h)

pub shortest_is_shortest : ShortestIsShortest
shortest_is_shortest v h = (shortest_is v (zigzagged_fits v h), none_shorter v)
