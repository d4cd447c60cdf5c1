-- Bytes of which no prefix is encoded twice: a grammar reads, whatever follows, one prefix as one value.
use Rattle.std.proofs.Common.{◌≡◌, ℕ, zero, suc, ℤ, pos, negsuc, List, [], ◌∷◌, ◌++◌, length, refl, sym, ◌∙◌, ap, subst, arith}
use Rattle.std.proofs.lemmas.List.{append_cancel_left, append_assoc, append-nil}
use Rattle.avro_schema.specs.Number.{AreGroups, unsigned, zigzag, Number}
use Rattle.avro_schema.proofs.Prefixes.{head_is, tail_is, same_length}
use Rattle.avro_schema.specs.Parts.{Grammar, Then, Meaning, Measured, Raw, Sized, Many, BlockOf, Blocks, last, block}

-- of any bytes one prefix at most is of P, with one value
abbrev pub Reads : {A : Type 0} → Grammar A → Type 0
Reads {A} P = (a b x y : List ℕ) (v w : A) → P a v → P b w → a ++ x ≡ b ++ y → (a ≡ b) × (v ≡ w)

-- ---- numbers

groups_read : (a b x y : List ℕ) → AreGroups a → AreGroups b → a ++ x ≡ b ++ y → a ≡ b
groups_read [] b x y p q e = absurd p
groups_read (c ∷ a) [] x y p q e = absurd q
groups_read (c ∷ []) (d ∷ []) x y p q e = λ i. head_is e i ∷ []
groups_read (c ∷ []) (d ∷ f ∷ b) x y p q e = let h : c ≡ d = head_is e in absurd (omega (arith, h, p, q.0))
groups_read (c ∷ g ∷ a) (d ∷ []) x y p q e = let h : c ≡ d = head_is e in absurd (omega (arith, h, q, p.0))
groups_read (c ∷ g ∷ a) (d ∷ f ∷ b) x y p q e = λ i. head_is e i ∷ groups_read (g ∷ a) (f ∷ b) x y p.2 q.2 (tail_is e) i

pub number_reads : Reads Number
number_reads a b x y v w p q e =
    let same : a ≡ b = groups_read a b x y p.groups q.groups e in
    (same, p.value ∙ ap (λ n. zigzag (unsigned n)) same ∙ sym q.value)

-- ---- parts

pub then_reads : {A B : Type 0} (P : Grammar A) (Q : A → Grammar B) → Reads P → ((v : A) → Reads (Q v)) → Reads (Then P Q)
then_reads {A} {B} P Q rp rq a b x y v w p q e =
    let e1 : p.prefix ++ (p.back ++ x) ≡ q.prefix ++ (q.back ++ y) =
    sym (append_assoc p.prefix p.back x) ∙ ap (λ z. z ++ x) (sym p.joined) ∙ e ∙ ap (λ z. z ++ y) q.joined ∙ append_assoc q.prefix q.back y in
    let one : (p.prefix ≡ q.prefix) × (p.value ≡ q.value) = rp p.prefix q.prefix (p.back ++ x) (q.back ++ y) p.value q.value p.first q.first e1 in
    let e2 : p.back ++ x ≡ q.back ++ y = append_cancel_left q.prefix _ _ (ap (λ z. z ++ (p.back ++ x)) (sym one.0) ∙ e1) in
    let moved : Q q.value p.back v = subst (λ z. Q z p.back v) one.1 p.second in
    let two : (p.back ≡ q.back) × (v ≡ w) = rq q.value p.back q.back x y v w moved q.second e2 in
    (p.joined ∙ (λ i. one.0 i ++ two.0 i) ∙ sym q.joined, two.1)

pub meaning_reads : {A B : Type 0} (P : Grammar A) (R : A → Type 0) (f : A → B) → Reads P → Reads (Meaning P R f)
meaning_reads P R f rp a b x y v w p q e =
    let one : (a ≡ b) × (p.value ≡ q.value) = rp a b x y p.value q.value p.encoded q.encoded e in
    (one.0, p.means ∙ ap f one.1 ∙ sym q.means)

pub measured_reads : {A : Type 0} (P : Grammar A) → Reads P → Reads (Measured P)
measured_reads P rp a b x y v w p q e =
    let one : (a ≡ b) × (v.0 ≡ w.0) = rp a b x y v.0 w.0 p.0 q.0 e in
    (one.0, λ i. (one.1 i, (p.1 ∙ ap length one.0 ∙ sym q.1) i))

pub raw_reads : (n : ℕ) → Reads (Raw n)
raw_reads n a b x y v w p q e =
    let same : a ≡ b = same_length a b x y (p.0 ∙ sym q.0) e in (same, p.1 ∙ same ∙ sym q.1)

abbrev pub length_of : ℤ → ℕ
length_of (pos n) = n
length_of (negsuc n) = n

pub sized_reads : Reads Sized
sized_reads =
    then_reads Number (λ n back y. (n ≡ pos (length back)) × (y ≡ back)) number_reads
    (λ n a b x y v w p q e.
    let same : a ≡ b = same_length a b x y (ap length_of (sym p.0 ∙ q.0)) e in (same, p.1 ∙ same ∙ sym q.1))

pub many_reads : {A : Type 0} (P : Grammar A) → Reads P → (n : ℕ) → Reads (Many P n)
many_reads P rp zero = λ a b x y v w p q e. (p.0 ∙ sym q.0, p.1 ∙ sym q.1)
many_reads {A} P rp (suc n) =
    then_reads P (λ x back ys. (more : List A) × (ys ≡ x ∷ more) × Many P n back more) rp
    (λ z a b x y v w p q e.
    let rest : (a ≡ b) × (p.0 ≡ q.0) = many_reads P rp n a b x y p.0 q.0 p.2 q.2 e in
    (rest.0, p.1 ∙ ap (λ more. z ∷ more) rest.1 ∙ sym q.1))

pub block_reads : {A : Type 0} (P : Grammar A) → Reads P → (c : ℤ) → Reads (BlockOf P c)
block_reads P rp (pos zero) a b x y v w p q e = absurd p
block_reads P rp (pos (suc n)) a b x y v w p q e = many_reads P rp (suc n) a b x y v w p.1 q.1 e
block_reads P rp (negsuc n) a b x y v w p q e =
    then_reads Number (λ size items ys. (size ≡ pos (length items)) × Many P (suc n) items ys) number_reads
    (λ z a b x y v w p q e. many_reads P rp (suc n) a b x y v w p.1 q.1 e)
    a b x y v w p.1 q.1 e

no_block : {A : Type 0} (P : Grammar A) (c : ℤ) (bytes : List ℕ) (xs : List A) → c ≡ pos 0 → BlockOf P c bytes xs → ⊥
no_block P c bytes xs e h = subst (λ z. BlockOf P z bytes xs) e h

-- three parts before a rest
pub apart : (f i r x : List ℕ) → (f ++ (i ++ r)) ++ x ≡ f ++ (i ++ (r ++ x))
apart f i r x = append_assoc f (i ++ r) x ∙ ap (λ z. f ++ z) (append_assoc i r x)

pub blocks_read : {A : Type 0} (P : Grammar A) → Reads P → Reads (Blocks P)
blocks_read P rp a b x y v w (last p) (last q) e = ((number_reads a b x y _ _ p q e).0, refl)
blocks_read P rp a b x y v w (last p) (block f i r c xs ys n k m) e =
    absurd (no_block P c i xs (sym (number_reads a f x (i ++ (r ++ y)) _ _ p n (e ∙ apart f i r y)).1) k)
blocks_read P rp a b x y v w (block f i r c xs ys n k m) (last q) e =
    absurd (no_block P c i xs (number_reads f b (i ++ (r ++ x)) y _ _ n q (sym (apart f i r x) ∙ e)).1 k)
blocks_read {A} P rp a b x y v w (block f i r c xs ys n k m) (block f' i' r' c' xs' ys' n' k' m') e =
    let e1 : f ++ (i ++ (r ++ x)) ≡ f' ++ (i' ++ (r' ++ y)) = sym (apart f i r x) ∙ e ∙ apart f' i' r' y in
    let one : (f ≡ f') × (c ≡ c') = number_reads f f' _ _ c c' n n' e1 in
    let e2 : i ++ (r ++ x) ≡ i' ++ (r' ++ y) = append_cancel_left f' _ _ (ap (λ z. z ++ (i ++ (r ++ x))) (sym one.0) ∙ e1) in
    let moved : BlockOf P c' i xs = subst (λ z. BlockOf P z i xs) one.1 k in
    let two : (i ≡ i') × (xs ≡ xs') = block_reads P rp c' i i' _ _ xs xs' moved k' e2 in
    let e3 : r ++ x ≡ r' ++ y = append_cancel_left i' _ _ (ap (λ z. z ++ (r ++ x)) (sym two.0) ∙ e2) in
    let three : (r ≡ r') × (ys ≡ ys') = blocks_read P rp r r' x y ys ys' m m' e3 in
    (λ j. one.0 j ++ (two.0 j ++ three.0 j), λ j. two.1 j ++ three.1 j)

-- bytes of P are no proper prefix of bytes of P
pub no_longer : {A : Type 0} (P : Grammar A) → Reads P → (bytes more : List ℕ) (v w : A) → P bytes v → P (bytes ++ more) w → more ≡ []
no_longer P rp bytes more v w p q =
    let same : bytes ≡ bytes ++ more = (rp bytes (bytes ++ more) more [] v w p q (sym (append-nil (bytes ++ more)))).0 in
    append_cancel_left bytes more [] (sym same ∙ sym (append-nil bytes))
