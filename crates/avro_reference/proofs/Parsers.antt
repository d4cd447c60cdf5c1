-- Parsers against what is skipped, part by part: a parser passes just what is skipped in
-- prefix, and answers Negative just where the bytes are broken.
use Rattle.std.proofs.Common.{◌≡◌, ℕ, ◌+◌, ◌-◌, ℤ, pos, negsuc, Bool, true, false, cond, ltb, List, ◌++◌, length, take, drop, Option, Some, None, Result, Ok, Err, refl, sym, ◌∙◌, ap, subst, inl, inr, ◌⊎◌, length-append, arith}
use Rattle.std.proofs.lemmas.Bool.{ltb-false, le-ltb}
use Rattle.std.proofs.lemmas.List.{take-append-drop, drop_at, length-take-le}
use Rattle.avro_schema.specs.Number.{Number}
use Rattle.avro_schema.specs.Parts.{Grammar, Then, Measured}
use Rattle.avro_schema.specs.Skips.{Passed, nothing, seen_only, both, SkipsNumber, SkipsRaw, SkipsSized}
use Rattle.avro_reference.specs.Prefix.{number_at}
use Rattle.avro_reference.specs.Skip.{◌>>=◌, Fault, Bad, Negative, Parser, or_bad, measured_at, jump_at, jump_counted, skip_raw, skip_number, skip_sized}
use Rattle.avro_reference.proofs.Prefixes.{joined_up, split_up, number_sound, number_complete}

-- what f passes is a prefix that is skipped
abbrev pub Sound : {A : Type 0} → Parser A → Grammar A → Type 0
Sound {A} f P = (bytes r : List ℕ) (x : A) → f bytes ≡ Ok (x, r) → (prefix : List ℕ) × P prefix x × (bytes ≡ prefix ++ r)

-- a prefix that is skipped f passes
abbrev pub Complete : {A : Type 0} → Parser A → Grammar A → Type 0
Complete {A} f P = (prefix r : List ℕ) (x : A) → P prefix x → f (prefix ++ r) ≡ Ok (x, r)

-- where f answers Negative, the bytes are of B
abbrev pub Breaks : {A : Type 0} → Parser A → (List ℕ → Type 0) → Type 0
Breaks f B = (bytes : List ℕ) → f bytes ≡ Err Negative → B bytes

-- at bytes of B the answer of f is Negative
abbrev pub Broke : {A : Type 0} → Parser A → (List ℕ → Type 0) → Type 0
Broke f B = (bytes : List ℕ) → B bytes → f bytes ≡ Err Negative

abbrev pub Never : {A : Type 0} → Parser A → Type 0
Never f = Breaks f (λ bytes. ⊥)

-- ---- answers

pub bad-ok : {A : Type 0} (y : A) → ◌≡◌ {A = Result A Fault} (Err Bad) (Ok y) → ⊥
bad-ok y e = cc

pub negative-ok : {A : Type 0} (y : A) → ◌≡◌ {A = Result A Fault} (Err Negative) (Ok y) → ⊥
negative-ok y e = cc

pub ok-negative : {A : Type 0} (y : A) → ◌≡◌ {A = Result A Fault} (Ok y) (Err Negative) → ⊥
ok-negative y e = cc

pub bad-negative : {A : Type 0} → ◌≡◌ {A = Result A Fault} (Err Bad) (Err Negative) → ⊥
bad-negative e = cc

pub ok_pair_parts : {A B : Type 0} (a x : A) (b y : B) → ◌≡◌ {A = Result (A × B) Fault} (Ok (a, b)) (Ok (x, y)) → (a ≡ x) × (b ≡ y)
ok_pair_parts a x b y e = let same : ◌≡◌ {A = _ × _} (a, b) (x, y) = cc in (ap (λ (p : _ × _). p.0) same, ap (λ (p : _ × _). p.1) same)

pub bind_ok : {A B : Type 0} (o : Result A Fault) (f : A → Result B Fault) (y : B) → (o >>= f) ≡ Ok y → (x : A) × (o ≡ Ok x) × (f x ≡ Ok y)
bind_ok (Ok x) f y e = (x, refl, e)
bind_ok (Err Bad) f y e = absurd (bad-ok y e)
bind_ok (Err Negative) f y e = absurd (negative-ok y e)

pub bind_negative : {A B : Type 0} (o : Result A Fault) (f : A → Result B Fault) → (o >>= f) ≡ Err Negative → (o ≡ Err Negative) ⊎ ((x : A) × (o ≡ Ok x) × (f x ≡ Err Negative))
bind_negative (Ok x) f e = inr (x, refl, e)
bind_negative (Err Bad) f e = absurd (bad-negative e)
bind_negative (Err Negative) f e = inl refl

pub chosen : {A : Type 0} (b : Bool) (x : Result A Fault) (y : A) → cond b x (Err Bad) ≡ Ok y → (b ≡ true) × (x ≡ Ok y)
chosen true x y e = (refl, e)
chosen false x y e = absurd (bad-ok y e)

pub chosen_negative : {A : Type 0} (b : Bool) (x : Result A Fault) → cond b x (Err Bad) ≡ Err Negative → (b ≡ true) × (x ≡ Err Negative)
chosen_negative true x e = (refl, e)
chosen_negative false x e = absurd (bad-negative e)

pub or_bad_ok : {A : Type 0} (o : Option A) (x : A) → or_bad o ≡ Ok x → o ≡ Some x
unfolding or_bad
or_bad_ok None x e = absurd (bad-ok x e)
or_bad_ok (Some y) x e = cc

pub or_bad_never : {A : Type 0} (o : Option A) → or_bad o ≡ Err Negative → ⊥
unfolding or_bad
or_bad_never None e = bad-negative e
or_bad_never (Some y) e = ok-negative y e

-- ---- counts

pub both_assoc : (a b c : Passed) → both (both a b) c ≡ both a (both b c)
both_assoc a b c =
    let s : (a.seen + b.seen) + c.seen ≡ a.seen + (b.seen + c.seen) = omega arith in
    let h : (a.hidden + b.hidden) + c.hidden ≡ a.hidden + (b.hidden + c.hidden) = omega arith in
    λ i. record { seen = s i; hidden = h i }

pub both-nothing : (a : Passed) → both a nothing ≡ a
both-nothing a =
    let s : a.seen + 0 ≡ a.seen = omega arith in
    let h : a.hidden + 0 ≡ a.hidden = omega arith in
    λ i. record { seen = s i; hidden = h i }

pub nothing-both : (a : Passed) → both nothing a ≡ a
nothing-both a =
    let s : 0 + a.seen ≡ a.seen = omega arith in
    let h : 0 + a.hidden ≡ a.hidden = omega arith in
    λ i. record { seen = s i; hidden = h i }

pub stated : (s n : ℕ) → both (seen_only s) (record { seen = 0; hidden = n }) ≡ record { seen = s; hidden = n }
stated s n =
    let e : s + 0 ≡ s = omega arith in
    let h : 0 + n ≡ n = omega arith in
    λ i. record { seen = e i; hidden = h i }

-- ---- parts

pub then_sound : {A B : Type 0} (f : Parser A) (k : A → Parser B) (P : Grammar A) (Q : A → Grammar B) → Sound f P → ((v : A) → Sound (k v) (Q v)) → Sound (λ bytes. f bytes >>= λ x. k x.0 x.1) (Then P Q)
then_sound f k P Q hf hk bytes r y e =
    let b = bind_ok (f bytes) (λ x. k x.0 x.1) (y, r) e in
    let one = hf bytes b.0.1 b.0.0 b.1 in
    let two = hk b.0.0 b.0.1 r y b.2 in
    (one.0 ++ two.0, record { prefix = one.0; back = two.0; joined = refl; value = b.0.0; first = one.1; second = two.1 }, split_up bytes one.0 two.0 r b.0.1 one.2 two.2)

pub then_complete : {A B : Type 0} (f : Parser A) (k : A → Parser B) (P : Grammar A) (Q : A → Grammar B) → Complete f P → ((v : A) → Complete (k v) (Q v)) → Complete (λ bytes. f bytes >>= λ x. k x.0 x.1) (Then P Q)
then_complete f k P Q hf hk prefix r y h =
    rw (joined_up prefix h.prefix h.back r h.joined, hf h.prefix (h.back ++ r) h.value h.first) (hk h.value h.back r y h.second)

-- ---- numbers and bytes

pub measured_sound : Sound measured_at (Measured Number)
unfolding measured_at
measured_sound bytes r x e =
    let b = bind_ok (or_bad (number_at bytes)) (λ n. Ok ((n.0, length bytes - length n.1), n.1)) (x, r) e in
    let one = number_sound bytes b.0.1 b.0.0 (or_bad_ok (number_at bytes) b.0 b.1) in
    let p = ok_pair_parts (b.0.0, length bytes - length b.0.1) x b.0.1 r b.2 in
    let l : length bytes ≡ length one.0 + length b.0.1 = ap length one.2 ∙ length-append one.0 b.0.1 in
    let size : length bytes - length b.0.1 ≡ length one.0 = omega (arith, l) in
    (one.0, (subst (λ (m : ℤ × ℕ). Number one.0 m.0) p.0 one.1, sym (ap (λ (m : ℤ × ℕ). m.1) p.0) ∙ size), one.2 ∙ ap (λ (z : List ℕ). one.0 ++ z) p.1)

pub measured_complete : Complete measured_at (Measured Number)
unfolding measured_at or_bad
measured_complete prefix r x h =
    let size : length (prefix ++ r) - length r ≡ x.1 = let m = h.1 in omega (arith, m, length-append prefix r) in
    rw (number_complete prefix r x.0 h.0, size) refl

pub measured_never : Never measured_at
unfolding measured_at
measured_never bytes e =
    elim (bind_negative (or_bad (number_at bytes)) (λ n. Ok ((n.0, length bytes - length n.1), n.1)) e) [
      | inl h ↦ or_bad_never (number_at bytes) h
      | inr h ↦ ok-negative _ h.2
    ]

pub jump_sound : (n : ℕ) (bytes r : List ℕ) → jump_at n bytes ≡ Ok r → (prefix : List ℕ) × (length prefix ≡ n) × (bytes ≡ prefix ++ r)
unfolding jump_at
jump_sound n bytes r e = tested (ltb (length bytes) n) refl e
  where
    tested : (b : Bool) → ltb (length bytes) n ≡ b → cond b (Err Bad) (Ok (drop n bytes)) ≡ Ok r → (prefix : List ℕ) × (length prefix ≡ n) × (bytes ≡ prefix ++ r)
    tested true q h = absurd (bad-ok r h)
    tested false q h =
        let same : drop n bytes ≡ r = cc in
        (take n bytes, length-take-le n bytes (ltb-false _ _ q), sym (take-append-drop n bytes) ∙ ap (λ (z : List ℕ). take n bytes ++ z) same)

pub jump_complete : (prefix r : List ℕ) (n : ℕ) → length prefix ≡ n → jump_at n (prefix ++ r) ≡ Ok r
unfolding jump_at
jump_complete prefix r n h =
    let long : ltb (length (prefix ++ r)) n ≡ false = le-ltb _ _ (omega (arith, length-append prefix r, h)) in
    rw (long, drop_at prefix r n h) refl

pub jump_never : (n : ℕ) (bytes : List ℕ) → jump_at n bytes ≡ Err Negative → ⊥
unfolding jump_at
jump_never n bytes e = tested (ltb (length bytes) n) e
  where
    tested : (b : Bool) → cond b (Err Bad) (Ok (drop n bytes)) ≡ Err Negative → ⊥
    tested true h = bad-negative h
    tested false h = ok-negative _ h

-- ---- flat kinds

some_of : {A : Type 0} (x y : A) → ◌≡◌ {A = Result A Fault} (Ok x) (Ok y) → x ≡ y
some_of x y e = cc

pub raw_sound : (n seen : ℕ) → Sound (skip_raw n seen) (SkipsRaw n seen)
unfolding skip_raw
raw_sound n seen bytes r x e =
    let b = bind_ok (jump_at n bytes) (λ rest. Ok (seen_only seen, rest)) (x, r) e in
    let one = jump_sound n bytes b.0 b.1 in
    let p = ok_pair_parts (seen_only seen) x b.0 r b.2 in
    (one.0, (one.1, sym p.0), one.2 ∙ ap (λ (z : List ℕ). one.0 ++ z) p.1)

pub raw_complete : (n seen : ℕ) → Complete (skip_raw n seen) (SkipsRaw n seen)
unfolding skip_raw
raw_complete n seen prefix r x h = rw (jump_complete prefix r n h.0, h.1) refl

pub raw_never : (n seen : ℕ) → Never (skip_raw n seen)
unfolding skip_raw
raw_never n seen bytes e =
    elim (bind_negative (jump_at n bytes) (λ rest. Ok (seen_only seen, rest)) e) [
      | inl h ↦ jump_never n bytes h
      | inr h ↦ ok-negative _ h.2
    ]

pub skip_number_sound : Sound skip_number SkipsNumber
unfolding skip_number
skip_number_sound bytes r x e =
    let b = bind_ok (measured_at bytes) (λ n. Ok (seen_only n.0.1, n.1)) (x, r) e in
    let one = measured_sound bytes b.0.1 b.0.0 b.1 in
    let p = ok_pair_parts (seen_only b.0.0.1) x b.0.1 r b.2 in
    (one.0, (b.0.0.0, one.1.0, sym p.0 ∙ ap seen_only one.1.1), one.2 ∙ ap (λ (z : List ℕ). one.0 ++ z) p.1)

pub skip_number_complete : Complete skip_number SkipsNumber
unfolding skip_number
skip_number_complete prefix r x h = rw (measured_complete prefix r (h.0, length prefix) (h.1, refl), h.2) refl

pub skip_number_never : Never skip_number
unfolding skip_number
skip_number_never bytes e =
    elim (bind_negative (measured_at bytes) (λ n. Ok (seen_only n.0.1, n.1)) e) [
      | inl h ↦ measured_never bytes h
      | inr h ↦ ok-negative _ h.2
    ]

abbrev Counted : ℤ × ℕ → Grammar Passed
Counted n back y = (n.0 ≡ pos (length back)) × (y ≡ seen_only n.1)

abbrev counted : ℤ × ℕ → Parser Passed
counted n bytes = jump_counted n.0 bytes >>= λ rest. Ok (seen_only n.1, rest)

counted_sound : (n : ℤ × ℕ) → Sound (counted n) (Counted n)
unfolding jump_counted
counted_sound (pos n, m) bytes r x e =
    let b = bind_ok (jump_at n bytes) (λ rest. Ok (seen_only m, rest)) (x, r) e in
    let one = jump_sound n bytes b.0 b.1 in
    let p = ok_pair_parts (seen_only m) x b.0 r b.2 in
    (one.0, (ap pos (sym one.1), sym p.0), one.2 ∙ ap (λ (z : List ℕ). one.0 ++ z) p.1)
counted_sound (negsuc n, m) bytes r x e = absurd (bad-ok (x, r) e)

counted_complete : (n : ℤ × ℕ) → Complete (counted n) (Counted n)
unfolding jump_counted
counted_complete n prefix r x h = rw (h.0, jump_complete prefix r (length prefix) refl, h.1) refl

counted_never : (n : ℤ) (bytes : List ℕ) → jump_counted n bytes ≡ Err Negative → ⊥
unfolding jump_counted
counted_never (pos n) bytes e = jump_never n bytes e
counted_never (negsuc n) bytes e = bad-negative e

pub skip_sized_sound : Sound skip_sized SkipsSized
unfolding skip_sized
skip_sized_sound bytes r x e = then_sound measured_at counted (Measured Number) Counted measured_sound counted_sound bytes r x e

pub skip_sized_complete : Complete skip_sized SkipsSized
unfolding skip_sized
skip_sized_complete prefix r x h = then_complete measured_at counted (Measured Number) Counted measured_complete counted_complete prefix r x h

pub skip_sized_never : Never skip_sized
unfolding skip_sized
skip_sized_never bytes e =
    elim (bind_negative (measured_at bytes) (λ n. counted n.0 n.1) e) [
      | inl h ↦ measured_never bytes h
      | inr h ↦
          elim (bind_negative (jump_counted h.0.0.0 h.0.1) (λ rest. Ok (seen_only h.0.0.1, rest)) h.2) [
            | inl k ↦ counted_never h.0.0.0 h.0.1 k
            | inr k ↦ ok-negative _ k.2
          ]
    ]
