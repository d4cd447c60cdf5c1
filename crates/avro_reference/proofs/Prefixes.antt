-- Readers against grammars: a reader gives a value exactly where a prefix of the bytes encodes it.
use Rattle.std.proofs.Common.{◌≡◌, ℕ, zero, suc, ◌%◌, ◌/◌, ◌^◌, ◌<◌, ◌≤◌, ℤ, pos, negsuc, Bool, true, false, cond, eqb, ltb, List, [], ◌∷◌, ◌++◌, length, take, drop, Option, Some, None, refl, sym, ◌∙◌, ap, subst, append_assoc, length-append, arith}
use Rattle.std.proofs.lemmas.Bool.{ltb-true, ltb-false, lt-ltb, le-ltb, eqb-true, eq-eqb, false≢true}
use Rattle.std.proofs.lemmas.List.{take-append-drop, take_at, drop_at, length-take-le}
use Rattle.std.proofs.lemmas.Option.{some_pair_parts, none-some}
use Rattle.avro_schema.specs.Number.{AreGroups, unsigned, zigzag, Number, PassesNumber}
use Rattle.avro_schema.specs.Parts.{Grammar, Then, Meaning, Raw, Sized}
use Rattle.avro_schema.specs.Encodes.{Any}
use Rattle.avro_schema.specs.AndThen.{◌>>=◌}
use Rattle.avro_schema.proofs.Basics.{bind_some}
use Rattle.avro_reference.specs.Prefix.{Reader, groups_at, number_at, bytes_at, counted_at, sized_at, is_count}

-- what f gives a prefix encodes
abbrev pub Sound : {A : Type 0} → Reader A → Grammar A → Type 0
Sound {A} f P = (bytes r : List ℕ) (x : A) → f bytes ≡ Some (x, r) → (prefix : List ℕ) × P prefix x × (bytes ≡ prefix ++ r)

-- what a prefix encodes f gives
abbrev pub Complete : {A : Type 0} → Reader A → Grammar A → Type 0
Complete {A} f P = (prefix r : List ℕ) (x : A) → P prefix x → f (prefix ++ r) ≡ Some (x, r)

-- which way a test went
pub chosen : {A : Type 0} (b : Bool) (x y : A) → cond b (Some x) None ≡ Some y → (b ≡ true) × (Some x ≡ Some y)
chosen true x y e = (refl, e)
chosen false x y e = absurd (none-some y e)

pub joined_up : (prefix a b r : List ℕ) → prefix ≡ a ++ b → prefix ++ r ≡ a ++ (b ++ r)
joined_up prefix a b r e = ap (λ (z : List ℕ). z ++ r) e ∙ append_assoc a b r

pub split_up : (bytes a b r rest : List ℕ) → bytes ≡ a ++ rest → rest ≡ b ++ r → bytes ≡ (a ++ b) ++ r
split_up bytes a b r rest e1 e2 = e1 ∙ ap (λ (z : List ℕ). a ++ z) e2 ∙ sym (append_assoc a b r)

-- ---- parts

pub then_sound : {A B : Type 0} (f : Reader A) (k : A → Reader B) (P : Grammar A) (Q : A → Grammar B) → Sound f P → ((v : A) → Sound (k v) (Q v)) → Sound (λ bytes. f bytes >>= λ x. k x.0 x.1) (Then P Q)
then_sound f k P Q hf hk bytes r y e =
    let b = bind_some (f bytes) (λ x. k x.0 x.1) (y, r) e in
    let one = hf bytes b.0.1 b.0.0 b.1 in
    let two = hk b.0.0 b.0.1 r y b.2 in
    (one.0 ++ two.0, record { prefix = one.0; back = two.0; joined = refl; value = b.0.0; first = one.1; second = two.1 }, split_up bytes one.0 two.0 r b.0.1 one.2 two.2)

pub then_complete : {A B : Type 0} (f : Reader A) (k : A → Reader B) (P : Grammar A) (Q : A → Grammar B) → Complete f P → ((v : A) → Complete (k v) (Q v)) → Complete (λ bytes. f bytes >>= λ x. k x.0 x.1) (Then P Q)
then_complete f k P Q hf hk prefix r y h =
    rw (joined_up prefix h.prefix h.back r h.joined, hf h.prefix (h.back ++ r) h.value h.first) (hk h.value h.back r y h.second)

-- a value that stands for another
pub told_sound : {A B : Type 0} (f : Reader A) (g : A → B) (P : Grammar A) → Sound f P → Sound (λ bytes. f bytes >>= λ x. Some (g x.0, x.1)) (Meaning P Any g)
told_sound f g P hf bytes r y e =
    let b = bind_some (f bytes) (λ x. Some (g x.0, x.1)) (y, r) e in
    let one = hf bytes b.0.1 b.0.0 b.1 in
    let p = some_pair_parts (g b.0.0) y b.0.1 r b.2 in
    (one.0, record { value = b.0.0; encoded = one.1; allowed = tt; means = sym p.0 }, one.2 ∙ ap (λ (z : List ℕ). one.0 ++ z) p.1)

pub told_complete : {A B : Type 0} (f : Reader A) (g : A → B) (P : Grammar A) → Complete f P → Complete (λ bytes. f bytes >>= λ x. Some (g x.0, x.1)) (Meaning P Any g)
told_complete f g P hf prefix r y h = rw (hf prefix r h.value h.encoded, h.means) refl

-- the same of values that pass a test
pub tested_sound : {A B : Type 0} (f : Reader A) (t : A → Bool) (g : A → B) (P : Grammar A) (R : A → Type 0) → Sound f P → ((v : A) → t v ≡ true → R v) → Sound (λ bytes. f bytes >>= λ x. cond (t x.0) (Some (g x.0, x.1)) None) (Meaning P R g)
tested_sound f t g P R hf ht bytes r y e =
    let b = bind_some (f bytes) (λ x. cond (t x.0) (Some (g x.0, x.1)) None) (y, r) e in
    let one = hf bytes b.0.1 b.0.0 b.1 in
    let c = chosen (t b.0.0) (g b.0.0, b.0.1) (y, r) b.2 in
    let p = some_pair_parts (g b.0.0) y b.0.1 r c.1 in
    (one.0, record { value = b.0.0; encoded = one.1; allowed = ht b.0.0 c.0; means = sym p.0 }, one.2 ∙ ap (λ (z : List ℕ). one.0 ++ z) p.1)

pub tested_complete : {A B : Type 0} (f : Reader A) (t : A → Bool) (g : A → B) (P : Grammar A) (R : A → Type 0) → Complete f P → ((v : A) → R v → t v ≡ true) → Complete (λ bytes. f bytes >>= λ x. cond (t x.0) (Some (g x.0, x.1)) None) (Meaning P R g)
tested_complete f t g P R hf ht prefix r y h = rw (hf prefix r h.value h.encoded, ht h.value h.allowed, h.means) refl

-- ---- numbers

one_more : (b : ℕ) (g : List ℕ) → 128 ≤ b → b < 256 → AreGroups g → AreGroups (b ∷ g)
one_more b [] l u h = absurd h
one_more b (c ∷ g) l u h = (l, u, h)

abbrev GroupsOf : ℕ → Grammar (List ℕ)
GroupsOf most prefix g = (prefix ≡ g) × AreGroups g × (length g ≤ most)

abbrev with_first : ℕ → List ℕ × List ℕ → Option (List ℕ × List ℕ)
with_first b g = Some (b ∷ g.0, g.1)

groups_sound : (most : ℕ) → Sound (groups_at most) (GroupsOf most)
unfolding groups_at
groups_sound zero bytes r g e = absurd (none-some (g, r) e)
groups_sound (suc most) [] r g e = absurd (none-some (g, r) e)
groups_sound (suc most) (b ∷ bytes) r g e = low (groups_sound most bytes) (ltb b 128) refl e
  where
    high : ((r g : List ℕ) → groups_at most bytes ≡ Some (g, r) → (prefix : List ℕ) × GroupsOf most prefix g × (bytes ≡ prefix ++ r)) → (t : Bool) → ltb b 256 ≡ t → 128 ≤ b → cond t (groups_at most bytes >>= with_first b) None ≡ Some (g, r) → (prefix : List ℕ) × GroupsOf (suc most) prefix g × (b ∷ bytes ≡ prefix ++ r)
    high again false q l h = absurd (none-some (g, r) h)
    high again true q l h =
        let c = bind_some (groups_at most bytes) (with_first b) (g, r) h in
        let p = some_pair_parts (b ∷ c.0.0) g c.0.1 r c.2 in
        let one = again c.0.1 c.0.0 c.1 in
        let more : AreGroups (b ∷ c.0.0) = one_more b c.0.0 l (ltb-true b 256 q) one.1.1 in
        let short : length (b ∷ c.0.0) ≤ suc most = omega (arith, one.1.2) in
        (b ∷ c.0.0, (p.0, subst AreGroups p.0 more, subst (λ z. length z ≤ suc most) p.0 short), ap (λ (z : List ℕ). b ∷ z) (one.2 ∙ ap (λ (z : List ℕ). z ++ c.0.1) one.1.0 ∙ ap (λ (z : List ℕ). c.0.0 ++ z) p.1))

    low : ((r g : List ℕ) → groups_at most bytes ≡ Some (g, r) → (prefix : List ℕ) × GroupsOf most prefix g × (bytes ≡ prefix ++ r)) → (t : Bool) → ltb b 128 ≡ t → cond t (Some (b ∷ [], bytes)) (cond (ltb b 256) (groups_at most bytes >>= with_first b) None) ≡ Some (g, r) → (prefix : List ℕ) × GroupsOf (suc most) prefix g × (b ∷ bytes ≡ prefix ++ r)
    low again true q h =
        let p = some_pair_parts (b ∷ []) g bytes r h in
        let l : b < 128 = ltb-true b 128 q in
        (b ∷ [], (p.0, subst AreGroups p.0 l, subst (λ z. length z ≤ suc most) p.0 (omega arith)), ap (λ (z : List ℕ). b ∷ z) p.1)
    low again false q h = high again (ltb b 256) refl (ltb-false b 128 q) h

groups_complete : (most : ℕ) (g r : List ℕ) → AreGroups g → length g ≤ most → groups_at most (g ++ r) ≡ Some (g, r)
unfolding groups_at
groups_complete most [] r h l = absurd h
groups_complete zero (b ∷ g) r h l = absurd (omega (arith, l))
groups_complete (suc most) (b ∷ []) r h l = rw (lt-ltb b 128 h) refl
groups_complete (suc most) (b ∷ c ∷ g) r h l =
    rw (le-ltb b 128 h.0, lt-ltb b 256 h.1, groups_complete most (c ∷ g) r h.2 (omega (arith, l))) refl

pub number_sound : Sound number_at Number
unfolding number_at
number_sound bytes r v e =
    let b = bind_some (groups_at 10 bytes) (λ g. cond (ltb (unsigned g.0) (2 ^ 64)) (Some (zigzag (unsigned g.0), g.1)) None) (v, r) e in
    let one = groups_sound 10 bytes b.0.1 b.0.0 b.1 in
    let c = chosen (ltb (unsigned b.0.0) (2 ^ 64)) (zigzag (unsigned b.0.0), b.0.1) (v, r) b.2 in
    let p = some_pair_parts (zigzag (unsigned b.0.0)) v b.0.1 r c.1 in
    (b.0.0, record { groups = one.1.1; short = one.1.2; fits = ltb-true _ _ c.0; value = sym p.0 }, one.2 ∙ (λ i. one.1.0 i ++ p.1 i))

pub number_complete : Complete number_at Number
unfolding number_at
number_complete prefix r v n = rw (groups_complete 10 prefix r n.groups n.short, lt-ltb _ _ n.fits, n.value) refl

-- what a cursor passes as a number is a prefix that is one
pub number_passed : (old new : List ℕ) (v : ℤ) → PassesNumber old new v → number_at old ≡ Some (v, new)
number_passed old new v h = ap number_at h.2 ∙ number_complete h.0 new v h.1

pub groups_long : (g : List ℕ) → AreGroups g → 0 < length g
groups_long [] h = absurd h
groups_long (b ∷ g) h = omega arith

pub number_below : (prefix : List ℕ) (n : ℕ) → Number prefix (pos n) → n < 2 ^ 63
number_below prefix n h = told (unsigned prefix) (eqb (unsigned prefix % 2) 0) refl h.fits h.value
  where
    told : (u : ℕ) (t : Bool) → eqb (u % 2) 0 ≡ t → u < 2 ^ 64 → pos n ≡ cond (eqb (u % 2) 0) (pos (u / 2)) (negsuc (u / 2)) → n < 2 ^ 63
    told u true q l e = let e2 = rw q at e in let same : n ≡ u / 2 = cc in omega (arith, l, same)
    told u false q l e = let e2 = rw q at e in absurd cc

-- ---- bytes

pub count_is : (c : ℤ) (n : ℕ) → is_count c n ≡ true → c ≡ pos n
count_is (pos k) n e = ap pos (eqb-true k n e)
count_is (negsuc k) n e = absurd (false≢true e)

pub count_of : (c : ℤ) (n : ℕ) → c ≡ pos n → is_count c n ≡ true
count_of c n e = rw e (eq-eqb n n refl)

pub bytes_sound : (n : ℕ) → Sound (bytes_at n) (Raw n)
unfolding bytes_at
bytes_sound n bytes r x e = tested (ltb (length bytes) n) refl e
  where
    tested : (b : Bool) → ltb (length bytes) n ≡ b → cond {A = Option (List ℕ × List ℕ)} b None (Some (take n bytes, drop n bytes)) ≡ Some (x, r) → (prefix : List ℕ) × Raw n prefix x × (bytes ≡ prefix ++ r)
    tested true q h = absurd (none-some (x, r) h)
    tested false q h =
        let p = some_pair_parts (take n bytes) x (drop n bytes) r h in
        (take n bytes, (length-take-le n bytes (ltb-false _ _ q), sym p.0), sym (take-append-drop n bytes) ∙ ap (λ (z : List ℕ). take n bytes ++ z) p.1)

pub bytes_complete : (n : ℕ) → Complete (bytes_at n) (Raw n)
unfolding bytes_at
bytes_complete n prefix r x h =
    let long : ltb (length (prefix ++ r)) n ≡ false = le-ltb _ _ (omega (arith, length-append prefix r, h.0)) in
    rw (long, take_at prefix r n h.0, drop_at prefix r n h.0, h.1) refl

abbrev Counted : ℤ → Grammar (List ℕ)
Counted n back y = (n ≡ pos (length back)) × (y ≡ back)

counted_sound : (n : ℤ) → Sound (counted_at n) (Counted n)
unfolding counted_at
counted_sound (pos n) bytes r x e =
    let one = bytes_sound n bytes r x e in (one.0, (ap pos (sym one.1.0), one.1.1), one.2)
counted_sound (negsuc n) bytes r x e = absurd (none-some (x, r) e)

counted_complete : (n : ℤ) → Complete (counted_at n) (Counted n)
unfolding counted_at
counted_complete n prefix r x h = rw h.0 (bytes_complete (length prefix) prefix r x (refl, h.1))

pub sized_sound : Sound sized_at Sized
unfolding sized_at
sized_sound bytes r x e = then_sound number_at counted_at Number Counted number_sound counted_sound bytes r x e

pub sized_complete : Complete sized_at Sized
unfolding sized_at
sized_complete prefix r x h = then_complete number_at counted_at Number Counted number_complete counted_complete prefix r x h
