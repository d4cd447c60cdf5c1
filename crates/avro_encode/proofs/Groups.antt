-- A number group by group.
use Rattle.std.proofs.Common.{◌≡◌, ◌∙◌, ℕ, suc, ◌+◌, ◌/◌, ◌%◌, ◌^◌, ◌<◌, ◌≤◌, inl, inr, ◌*◌, List, [], ◌∷◌, ◌++◌, length, Bool, true, false, sym, ap, append_assoc, arith}
use Rattle.std.proofs.lemmas.Bool.{cases_lt}
use Rattle.std.specs.Prelude.{Result, Ok, Err, OnOk, is_ok, if◌then◌else◌}
use Rattle.avro_container.specs.Shortest.{groups}
use Rattle.avro_container.proofs.ShortestLemmas.{leads_on, ends}
use Rattle.avro_encode.specs.Listed.{index_byte, index_of}
use Rattle.avro_encode.specs.Plain.{counted}

low : (u : ℕ) → u < 128 → u % 128 ≡ u
low u h = grind (arith, h)

-- bytes were appended
pub appended : {T E : Type 0} (r : Result T E) (old now more : List ℕ) → now ≡ (if is_ok r then old ++ more else old) → OnOk r (now ≡ old ++ more)
appended (Ok x) old now more e = e
appended (Err y) old now more e = tt

-- ---- numbers of one to four groups

pub one_group : (m u : ℕ) → u < 128 → u ∷ [] ≡ groups m u
one_group m u h = sym (ends m u h ∙ ap (λ (x : ℕ). x ∷ []) (low u h))

pub two_groups : (m u a : ℕ) → a ≡ 128 + u % 128 → 128 ≤ u → u / 128 < 128 → a ∷ u / 128 ∷ [] ≡ groups (suc m) u
two_groups m u a e h l = ap (λ (x : ℕ). x ∷ u / 128 ∷ []) e ∙ ap (λ (z : List ℕ). (128 + u % 128) ∷ z) (one_group m (u / 128) l) ∙ sym (leads_on m u h)

pub one_before : (m u a : ℕ) (rest : List ℕ) → a ≡ 128 + u % 128 → 128 ≤ u → rest ≡ groups m (u / 128) → a ∷ rest ≡ groups (suc m) u
one_before m u a rest e h f = ap (λ (x : ℕ). x ∷ rest) e ∙ ap (λ (z : List ℕ). (128 + u % 128) ∷ z) f ∙ sym (leads_on m u h)

-- four groups that others follow
pub four_before : (left u a b c d : ℕ) → 2 ^ 28 ≤ u → a ≡ 128 + u % 128 → b ≡ 128 + u / 128 % 128 → c ≡ 128 + u / 128 / 128 % 128 → d ≡ 128 + u / 128 / 128 / 128 % 128
    → a ∷ b ∷ c ∷ d ∷ groups left (u / 2 ^ 28) ≡ groups (left + 4) u
four_before left u a b c d h ea eb ec ed =
    let more : suc (suc (suc (suc left))) ≡ left + 4 = omega arith in
    let rest : u / 2 ^ 28 ≡ u / 128 / 128 / 128 / 128 = omega arith in
    let last = one_before left (u / 128 / 128 / 128) d _ ed (omega (arith, h)) (ap (groups left) rest) in
    let third = one_before (suc left) (u / 128 / 128) c _ ec (omega (arith, h)) last in
    let second = one_before (suc (suc left)) (u / 128) b _ eb (omega (arith, h)) third in
    one_before (suc (suc (suc left))) u a _ ea (omega (arith, h)) second ∙ ap (λ k. groups k u) more

pub four_appended : (old now : List ℕ) (left u a b c d : ℕ) → 2 ^ 28 ≤ u → a ≡ 128 + u % 128 → b ≡ 128 + u / 128 % 128 → c ≡ 128 + u / 128 / 128 % 128 → d ≡ 128 + u / 128 / 128 / 128 % 128
    → now ≡ old ++ a ∷ b ∷ c ∷ d ∷ [] → now ++ groups left (u / 2 ^ 28) ≡ old ++ groups (left + 4) u
four_appended old now left u a b c d h ea eb ec ed e =
    ap (λ (z : List ℕ). z ++ groups left (u / 2 ^ 28)) e ∙ append_assoc old (a ∷ b ∷ c ∷ d ∷ []) (groups left (u / 2 ^ 28))
    ∙ ap (λ (z : List ℕ). old ++ z) (four_before left u a b c d h ea eb ec ed)

pub five_groups : (u a b c d : ℕ) → 2 ^ 28 ≤ u → u < 2 ^ 35 → a ≡ 128 + u % 128 → b ≡ 128 + u / 128 % 128 → c ≡ 128 + u / 128 / 128 % 128 → d ≡ 128 + u / 128 / 128 / 128 % 128
    → a ∷ b ∷ c ∷ d ∷ u / 2 ^ 28 ∷ [] ≡ groups 9 u
five_groups u a b c d h l ea eb ec ed =
    ap (λ (z : List ℕ). a ∷ b ∷ c ∷ d ∷ z) (one_group 5 (u / 2 ^ 28) (omega (arith, l))) ∙ four_before 5 u a b c d h ea eb ec ed

-- ---- of a number of few groups it doesn't matter how many more there might be

same_one : (j k u : ℕ) → u < 128 → groups j u ≡ groups k u
same_one j k u h = ends j u h ∙ sym (ends k u h)

same_more : (j k u : ℕ) → (128 ≤ u → groups j (u / 128) ≡ groups k (u / 128)) → groups (suc j) u ≡ groups (suc k) u
same_more j k u rest =
    elim (cases_lt u 128) [
      | inl small ↦ same_one (suc j) (suc k) u small
      | inr large ↦ leads_on j u large ∙ ap (λ (z : List ℕ). (128 + u % 128) ∷ z) (rest large) ∙ sym (leads_on k u large)
    ]

pub same_two : (j k u : ℕ) → u < 2 ^ 14 → groups (suc j) u ≡ groups (suc k) u
same_two j k u h = same_more j k u (λ _. same_one j k (u / 128) (omega (arith, h)))

same_three : (j k u : ℕ) → u < 2 ^ 21 → groups (suc (suc j)) u ≡ groups (suc (suc k)) u
same_three j k u h = same_more (suc j) (suc k) u (λ _. same_two j k (u / 128) (omega (arith, h)))

pub same_four : (j k u : ℕ) → u < 2 ^ 28 → groups (suc (suc (suc j))) u ≡ groups (suc (suc (suc k))) u
same_four j k u h = same_more (suc (suc j)) (suc (suc k)) u (λ _. same_three j k (u / 128) (omega (arith, h)))

-- the byte of an index
pub index_is : (null_first held : Bool) → index_byte null_first held ∷ [] ≡ index_of null_first held
index_is true true = sym (ends 9 2 (omega arith))
index_is true false = sym (ends 9 0 (omega arith))
index_is false true = sym (ends 9 0 (omega arith))
index_is false false = sym (ends 9 2 (omega arith))

-- ---- what comes after a byte

pub after_byte : (old first now more : List ℕ) (byte : ℕ) → first ≡ old ++ byte ∷ [] → now ≡ first ++ more → now ≡ old ++ byte ∷ more
after_byte old first now more byte e f = f ∙ ap (λ (z : List ℕ). z ++ more) e ∙ append_assoc old (byte ∷ []) more

-- the length of few bytes takes one byte
pub few_after : (old first now bytes : List ℕ) (byte len : ℕ) → length bytes < 64 → len ≡ length bytes * 2 → first ≡ old ++ byte ∷ len ∷ [] → now ≡ first ++ bytes → now ≡ old ++ byte ∷ counted bytes
few_after old first now bytes byte len h same e f =
    let twice : len ≡ 2 * length bytes = omega (arith, same) in
    let one : len ∷ [] ≡ groups 9 (2 * length bytes) = ap (λ (n : ℕ). n ∷ []) twice ∙ one_group 9 (2 * length bytes) (omega (arith, h)) in
    f ∙ ap (λ (z : List ℕ). z ++ bytes) e ∙ append_assoc old (byte ∷ len ∷ []) bytes ∙ ap (λ (z : List ℕ). old ++ byte ∷ (z ++ bytes)) one
