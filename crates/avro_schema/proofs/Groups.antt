-- Groups of seven bits as they are read, the low ones first.
use Rattle.std.proofs.Common.{◌≡◌, ℕ, zero, suc, ◌+◌, ◌-◌, ◌*◌, ◌%◌, ◌^◌, ◌<◌, ◌≤◌, ℤ, List, [], ◌∷◌, ◌++◌, length, refl, sym, ◌∙◌, ap, subst, arith, length-append, ◌⊎◌, inl, inr}
use Rattle.std.proofs.lemmas.List.{append_assoc}
use Rattle.std.proofs.lemmas.Nat.{mod_below, pow-add, shl_whole}
use Rattle.std.proofs.Math.Nat.{pow-succ', pow-le-pow_right, mul_left_comm, le_antisymm}
use Rattle.std.proofs.lemmas.Bool.{cases_lt}
use Rattle.avro_schema.specs.Counts.{risen}
use Rattle.avro_schema.specs.Number.{AreGroups, unsigned, zigzag, Number, PassesNumber, NoNumber, MovesForward}
use Rattle.avro_schema.proofs.Prefixes.{head_is, tail_is, same_length}

abbrev pub AllHigh : List ℕ → Type 0
AllHigh [] = Unit {0}
AllHigh (b ∷ bs) = (128 ≤ b) × (b < 256) × AllHigh bs

-- the bytes read so far, none of which is a last one
pub record Begun (before now : List ℕ) (value index : ℕ) : Type 0 where
  pub passed : List ℕ
  pub joined : before ≡ passed ++ now
  pub high : AllHigh passed
  pub count : length passed ≡ index
  pub value_is : value ≡ unsigned passed

high_end : (p : List ℕ) (b : ℕ) → AllHigh p → 128 ≤ b → b < 256 → AllHigh (p ++ b ∷ [])
high_end [] b h l u = (l, u, tt)
high_end (c ∷ p) b h l u = (h.0, h.1, high_end p b h.2 l u)

groups_end : (p : List ℕ) (b : ℕ) → AllHigh p → b < 128 → AreGroups (p ++ b ∷ [])
groups_end [] b h l = l
groups_end (c ∷ []) b h l = (h.0, h.1, l)
groups_end (c ∷ d ∷ p) b h l = (h.0, h.1, groups_end (d ∷ p) b h.2 l)

groups_last : (p : List ℕ) (b : ℕ) → AreGroups (p ++ b ∷ []) → b < 128
groups_last [] b h = h
groups_last (c ∷ []) b h = h.2
groups_last (c ∷ d ∷ p) b h = groups_last (d ∷ p) b h.2

spread : (m x l : ℕ) → x ≡ 128 ^ l → m * 128 ^ suc l ≡ 128 * (m * x)
spread m x l e = ap (λ z. m * z) (pow-succ' 128 l ∙ ap (λ z. 128 * z) (sym e)) ∙ mul_left_comm m 128 x

unsigned_end : (p : List ℕ) (b : ℕ) → unsigned (p ++ b ∷ []) ≡ unsigned p + b % 128 * 128 ^ length p
unsigned_end [] b = grind arith
unsigned_end (c ∷ p) b =
    let e : unsigned (p ++ b ∷ []) ≡ unsigned p + b % 128 * 128 ^ length p = unsigned_end p b in
    let s : b % 128 * 128 ^ suc (length p) ≡ 128 * (b % 128 * 128 ^ length p) = spread (b % 128) (128 ^ length p) (length p) refl in
    grind (arith, e, s)

unsigned_below : (p : List ℕ) → unsigned p < 128 ^ length p
unsigned_below [] = grind arith
unsigned_below (c ∷ p) =
    let e : unsigned p < 128 ^ length p = unsigned_below p in
    let s : 128 ^ suc (length p) ≡ 128 * 128 ^ length p = pow-succ' 128 (length p) in
    let r : c % 128 < 128 = mod_below c 128 (omega arith) in
    rw s (omega (arith, e, r))

high_no_prefix : (p x prefix back : List ℕ) → AllHigh p → AreGroups prefix → length prefix ≤ length p → p ++ x ≡ prefix ++ back → ⊥
high_no_prefix p x [] back h g l e = g
high_no_prefix [] x (f ∷ fs) back h g l e = omega (arith, l)
high_no_prefix (c ∷ p) x (f ∷ []) back h g l e = let same : c ≡ f = head_is e in omega (arith, same, h.0, g)
high_no_prefix (c ∷ p) x (f ∷ k ∷ fs) back h g l e = high_no_prefix p x (k ∷ fs) back h.2 g.2 (omega (arith, l)) (tail_is e)

-- seven bits at their position
index_is : (n : ℕ) → 2 ^ (7 * n) ≡ 128 ^ n
index_is zero = refl
index_is (suc n) =
    let a : 7 * suc n ≡ 7 + 7 * n = omega arith in
    ap (λ z. 2 ^ z) a ∙ pow-add 2 7 (7 * n) ∙ ap (λ z. 128 * z) (index_is n) ∙ sym (pow-succ' 128 n)

pub begun_nothing : (before : List ℕ) → Begun before before 0 0
begun_nothing before = record { passed = []; joined = refl; high = tt; count = refl; value_is = refl }

module _ (before now : List ℕ) (value index : ℕ) (begun : Begun before now value index) where
  -- no number that is no longer than what was read stands at the start
  pub no_number : (prefix back : List ℕ) (v : ℤ) → length prefix ≤ index → Number prefix v → before ≡ prefix ++ back → ⊥
  no_number prefix back v l n e =
      high_no_prefix begun.passed now prefix back begun.high n.groups (rw begun.count l) (sym begun.joined ∙ e)

  pub no_number_of_ten : 10 ≤ index → NoNumber before
  no_number_of_ten ten prefix back v n e = let short : length prefix ≤ 10 = n.short in no_number prefix back v (omega (arith, short, ten)) n e

  pub no_number_at_end : now ≡ [] → NoNumber before
  no_number_at_end none prefix back v n e =
      let all : length begun.passed + 0 ≡ length prefix + length back =
      sym (length-append begun.passed []) ∙ ap (λ z. length (begun.passed ++ z)) (sym none) ∙ ap length (sym begun.joined ∙ e) ∙ length-append prefix back in
      let count : length begun.passed ≡ index = begun.count in
      no_number prefix back v (omega (arith, all, count)) n e

  module _ (b : ℕ) (after : List ℕ) (read : now ≡ b ∷ after) (within : index < 10) where
    longer : before ≡ (begun.passed ++ b ∷ []) ++ after
    longer = begun.joined ∙ ap (λ z. begun.passed ++ z) read ∙ sym (append_assoc begun.passed (b ∷ []) after)

    pub forward_more : MovesForward before after
    forward_more = (begun.passed ++ b ∷ [], longer)

    counted : length (begun.passed ++ b ∷ []) ≡ index + 1
    counted = length-append begun.passed (b ∷ []) ∙ ap (λ z. z + 1) begun.count

    -- nothing is shifted out
    shifted : (index ≡ 9 → b ≤ 1) → (b % 128 * 2 ^ (7 * index)) % 2 ^ 64 ≡ b % 128 * 2 ^ (7 * index)
    shifted low =
        elim (cases_lt index 9) [
          | inl below ↦ shl_whole (b % 128) 7 (7 * index) 64 (mod_below b 128 (omega arith)) (omega (arith, below))
          | inr above ↦
              let nine : index ≡ 9 = le_antisymm (omega (arith, within)) above in
              let small : b ≤ 1 = low nine in
              shl_whole (b % 128) 1 (7 * index) 64 (omega (arith, small)) (omega (arith, nine))
        ]

    sum_is : (index ≡ 9 → b ≤ 1) → value + (b % 128 * 2 ^ (7 * index)) % 2 ^ 64 ≡ unsigned (begun.passed ++ b ∷ [])
    sum_is low =
        (λ i. begun.value_is i + (shifted low ∙ ap (λ z. b % 128 * z) (index_is index ∙ ap (λ z. 128 ^ z) (sym begun.count))) i) ∙ sym (unsigned_end begun.passed b)

    pub sum_fits : (index ≡ 9 → b ≤ 1) → value + (b % 128 * 2 ^ (7 * index)) % 2 ^ 64 < 2 ^ 64
    sum_fits low =
        subst (λ z. z < 2 ^ 64) (sym (sum_is low))
        (elim (cases_lt index 9) [
          | inl below ↦
              let u : unsigned (begun.passed ++ b ∷ []) < 128 ^ length (begun.passed ++ b ∷ []) = unsigned_below (begun.passed ++ b ∷ []) in
              let m : 128 ^ length (begun.passed ++ b ∷ []) ≤ 128 ^ 9 =
              let l : length (begun.passed ++ b ∷ []) ≤ 9 = rw counted (omega (arith, below)) in pow-le-pow_right (omega arith) l in
              omega (arith, u, m)
          | inr above ↦
              let nine : length begun.passed ≡ 9 = begun.count ∙ le_antisymm (omega (arith, within)) above in
              let u : unsigned begun.passed < 128 ^ 9 = subst (λ n. unsigned begun.passed < 128 ^ n) nine (unsigned_below begun.passed) in
              let e : unsigned (begun.passed ++ b ∷ []) ≡ unsigned begun.passed + b % 128 * 128 ^ 9 = unsigned_end begun.passed b ∙ ap (λ n. unsigned begun.passed + b % 128 * 128 ^ n) nine in
              let small : b ≤ 1 = low (sym begun.count ∙ nine) in
              omega (arith, u, e, small)
        ])

    pub begun_next : 128 ≤ b → b < 256 → (index ≡ 9 → b ≤ 1) → Begun before after (value + (b % 128 * 2 ^ (7 * index)) % 2 ^ 64) (index + 1)
    begun_next l u low = record { passed = begun.passed ++ b ∷ []; joined = longer; high = high_end begun.passed b begun.high l u; count = counted; value_is = sum_is low }

    pub ends : b < 128 → (index ≡ 9 → b ≤ 1) → (v : ℤ) → v ≡ zigzag (value + (b % 128 * 2 ^ (7 * index)) % 2 ^ 64) → PassesNumber before after v
    ends l low v is = (
      begun.passed ++ b ∷ [],
      record { groups = groups_end begun.passed b begun.high l; short = rw counted (omega (arith, within)); fits = subst (λ z. z < 2 ^ 64) (sum_is low) (sum_fits low); value = is ∙ ap zigzag (sum_is low) },
      longer,
    )

    pub no_tenth : index ≡ 9 → 1 < b → NoNumber before
    no_tenth nine big prefix back v n e =
        elim (cases_lt (length prefix) 10) [
          | inl short ↦ no_number prefix back v (rw nine (omega (arith, short))) n e
          | inr long ↦
              let count : length begun.passed ≡ 9 = begun.count ∙ nine in
              let same_count : length prefix ≡ length (begun.passed ++ b ∷ []) = le_antisymm n.short long ∙ sym (counted ∙ ap (λ z. z + 1) nine) in
              let same : prefix ≡ begun.passed ++ b ∷ [] = same_length prefix (begun.passed ++ b ∷ []) back after same_count (sym e ∙ longer) in
              let low : b < 128 = groups_last begun.passed b (subst AreGroups same n.groups) in
              let fits : unsigned (begun.passed ++ b ∷ []) < 2 ^ 64 = subst (λ z. unsigned z < 2 ^ 64) same n.fits in
              let is : unsigned (begun.passed ++ b ∷ []) ≡ unsigned begun.passed + b % 128 * 128 ^ 9 = unsigned_end begun.passed b ∙ ap (λ n. unsigned begun.passed + b % 128 * 128 ^ n) count in
              omega (arith, low, fits, is, big)
        ]

pub not_both : (P : Type 0) (b : ℕ) → (P × (b ≤ 1)) ⊎ (P → ⊥) → P → b ≤ 1
not_both P b (inl h) p = h.1
not_both P b (inr h) p = absurd (h p)

pub risen-zero : (n : ℕ) → n ≡ risen n 0
risen-zero n = omega arith

pub risen-more : (n m i : ℕ) → m ≡ risen n i → risen m 1 ≡ risen n (i + 1)
risen-more n m i e = omega (arith, e)
