-- Lists of entries are read exactly as they are encoded, for any reader of one entry.
use Rattle.std.proofs.Common.{◌≡◌, ◌⊎◌, inl, inr, ℕ, zero, suc, ◌<◌, ◌≤◌, Bool, true, false, cond, eqb, List, [], ◌∷◌, ◌++◌, length, refl, sym, ap, ◌∙◌, subst, append_assoc, arith}
use Rattle.std.proofs.lemmas.Bool.Decides.{nat_tests}
use Rattle.std.proofs.lemmas.Bool.{true≢false, eq-eqb}
use Rattle.std.proofs.lemmas.List.{append-nil, length-append}
use Rattle.json_tree.specs.Grammar.{is_space, Spaces, More, Listed}
use Rattle.json_tree.proofs.Reaching.{Before}
use Rattle.json_tree.specs.Reading.{Outcome, found, wrong, deep, bind, on_first, skip, more_at, entry_at, listed_at}

-- ---- outcomes

abbrev is_found : {A : Type 0} → Outcome A → Bool
is_found (found x r) = true
is_found wrong = false
is_found deep = false

abbrev is_wrong : {A : Type 0} → Outcome A → Bool
is_wrong (found x r) = false
is_wrong wrong = true
is_wrong deep = false

abbrev value_or : {A : Type 0} → A → Outcome A → A
value_or d (found x r) = x
value_or d wrong = d
value_or d deep = d

abbrev rest_of : {A : Type 0} → Outcome A → List ℕ
rest_of (found x r) = r
rest_of wrong = []
rest_of deep = []

pub wrong-found : {A : Type 0} (x : A) (r : List ℕ) → ◌≡◌ {A = Outcome A} wrong (found x r) → ⊥
wrong-found x r e = true≢false (sym (ap is_found e))

pub deep-found : {A : Type 0} (x : A) (r : List ℕ) → ◌≡◌ {A = Outcome A} deep (found x r) → ⊥
deep-found x r e = true≢false (sym (ap is_found e))

pub found_parts : {A : Type 0} (x y : A) (r s : List ℕ) → found x r ≡ found y s → (x ≡ y) × (r ≡ s)
found_parts x y r s e = (ap (value_or x) e, ap rest_of e)

pub bind_found : {A B : Type 0} (o : Outcome A) (k : A → List ℕ → Outcome B) (y : B) (s : List ℕ) → bind o k ≡ found y s → (x : A) × (r : List ℕ) × (o ≡ found x r) × (k x r ≡ found y s)
bind_found (found x r) k y s e = (x, r, refl, e)
bind_found wrong k y s e = absurd (wrong-found y s e)
bind_found deep k y s e = absurd (deep-found y s e)

-- ---- what is meant by a reader that is right

abbrev pub Reader : Type 0 → Type 0
Reader A = List ℕ → Outcome A

-- what it finds is encoded so
abbrev pub Sound : {A : Type 0} → Reader A → (A → List ℕ → Type 0) → Type 0
Sound {A} g P = (b r : List ℕ) (x : A) → g b ≡ found x r → (a : List ℕ) × P x a × (b ≡ a ++ r)

-- found, or deep where D allows it
abbrev pub Answers : {A : Type 0} → Type 0 → Outcome A → A → List ℕ → Type 0
Answers D o x r = (o ≡ found x r) ⊎ (D × (o ≡ deep))

-- what is encoded so it finds, before bytes that may follow a value
abbrev pub Complete : {A : Type 0} → Type 0 → (List ℕ → Bool) → Reader A → (A → List ℕ → Type 0) → Type 0
Complete {A} D ends g P = (a r : List ℕ) (x : A) → P x a → ends r ≡ true → Answers D (g (a ++ r)) x r

pub bind_answers : {A B : Type 0} (D : Type 0) (o : Outcome A) (k : A → List ℕ → Outcome B) (x : A) (r : List ℕ) (y : B) (s : List ℕ) → Answers D o x r → Answers D (k x r) y s → Answers D (bind o k) y s
bind_answers D o k x r y s (inl e) h = rw e h
bind_answers D o k x r y s (inr e) h = inr (e.0, ap (λ p. bind p k) e.1)

-- ---- white space

pub skip-cut : (b : List ℕ) → (w : List ℕ) × Spaces w × (b ≡ w ++ skip b)
unfolding skip
skip-cut [] = ([], tt, refl)
skip-cut (x ∷ xs) = tested (skip-cut xs) (is_space x) refl
  where
    tested : ((w : List ℕ) × Spaces w × (xs ≡ w ++ skip xs)) → (t : Bool) → is_space x ≡ t → (w : List ℕ) × Spaces w × (x ∷ xs ≡ w ++ cond t (skip xs) (x ∷ xs))
    tested h true e = (x ∷ h.0, (e, h.1), ap (λ l. x ∷ l) h.2)
    tested h false e = ([], tt, refl)

pub skip-spaces : (w r : List ℕ) → Spaces w → skip (w ++ r) ≡ skip r
unfolding skip
skip-spaces [] r h = refl
skip-spaces (x ∷ w) r h = rw h.0 (skip-spaces w r h.1)

pub skip-stop : (x : ℕ) (r : List ℕ) → is_space x ≡ false → skip (x ∷ r) ≡ x ∷ r
unfolding skip
skip-stop x r e = rw e refl

-- ---- more entries

abbrev first_more : {A : Type 0} → Reader A → ℕ → ℕ → List A → ℕ → List ℕ → Outcome (List A)
first_more g z n old x t = cond (eqb x 44) (bind (g t) (λ y r. more_at g z n (old ++ y ∷ []) r)) (cond (eqb x z) (found old t) wrong)

abbrev Told : {A : Type 0} → (A → List ℕ → Type 0) → ℕ → List A → List A → List ℕ → List ℕ → Type 0
Told {A} P z old all s r = (c : List ℕ) × (xs : List A) × More P z xs c × (all ≡ old ++ xs) × (s ≡ c ++ r)

pub more-sound : {A : Type 0} (g : Reader A) (P : A → List ℕ → Type 0) → Sound g P → (z n : ℕ) (old all : List A) (b r : List ℕ) → more_at g z n old b ≡ found all r → (w : List ℕ) × (c : List ℕ) × (xs : List A) × Spaces w × More P z xs c × (all ≡ old ++ xs) × (b ≡ w ++ (c ++ r))
unfolding more_at
more-sound g P h z zero old all b r e = absurd (wrong-found all r e)
more-sound {A} g P h z (suc n) old all b r e =
    let s = skip-cut b in
    let m = first (λ o q k. more-sound g P h z n o all q r k) (skip b) e in
    (s.0, m.0, m.1, s.1, m.2, m.3, s.2 ∙ ap (λ l. s.0 ++ l) m.4)
  where
    tested : ((o : List A) (q : List ℕ) → more_at g z n o q ≡ found all r → (w : List ℕ) × (c : List ℕ) × (xs : List A) × Spaces w × More P z xs c × (all ≡ o ++ xs) × (q ≡ w ++ (c ++ r))) → (x : ℕ) (t : List ℕ) (u v : Bool) → eqb x 44 ≡ u → eqb x z ≡ v → cond u (bind (g t) (λ y q. more_at g z n (old ++ y ∷ []) q)) (cond v (found old t) wrong) ≡ found all r → Told P z old all (x ∷ t) r
    tested again x t true v comma close q =
        let d = bind_found (g t) (λ y k. more_at g z n (old ++ y ∷ []) k) all r q in
        let one = h t d.1 d.0 d.2 in
        let k = again (old ++ d.0 ∷ []) d.1 d.3 in
        let is : x ≡ 44 = grind (arith, nat_tests) in (
          44 ∷ (one.0 ++ (k.0 ++ k.1)),
          d.0 ∷ k.2,
          (one.0, k.0, k.1, one.1, k.3, k.4, refl),
          k.5 ∙ append_assoc old (d.0 ∷ []) k.2,
          ap (λ l. x ∷ l) (one.2 ∙ ap (λ l. one.0 ++ l) (k.6 ∙ sym (append_assoc k.0 k.1 r)) ∙ sym (append_assoc one.0 (k.0 ++ k.1) r)) ∙ ap (λ y. y ∷ ((one.0 ++ (k.0 ++ k.1)) ++ r)) is,
        )
    tested again x t false true comma close q =
        let p = found_parts old all t r q in
        let is : x ≡ z = grind (arith, nat_tests) in
        (z ∷ [], [], refl, sym p.0 ∙ sym (append-nil old), ap (λ l. x ∷ l) p.1 ∙ ap (λ y. y ∷ r) is)
    tested again x t false false comma close q = absurd (wrong-found all r q)

    first : ((o : List A) (q : List ℕ) → more_at g z n o q ≡ found all r → (w : List ℕ) × (c : List ℕ) × (xs : List A) × Spaces w × More P z xs c × (all ≡ o ++ xs) × (q ≡ w ++ (c ++ r))) → (s : List ℕ) → on_first wrong (first_more g z n old) s ≡ found all r → Told P z old all s r
    first again [] q = absurd (wrong-found all r q)
    first again (x ∷ t) q = tested again x t (eqb x 44) (eqb x z) refl refl q

pub more-length : {A : Type 0} (P : A → List ℕ → Type 0) (z : ℕ) (xs : List A) (c : List ℕ) → More P z xs c → length xs < length c
more-length P z [] c e = omega (arith, ap length e)
more-length P z (x ∷ xs) c m =
    let k = more-length P z xs m.2 m.5 in
    omega (arith, k, ap length m.6, length-append m.0 (m.1 ++ m.2), length-append m.1 m.2)

-- what may follow an entry: white space, a comma or the closing byte
abbrev pub Stops : (List ℕ → Bool) → ℕ → Type 0
Stops ends z = ((w r : List ℕ) → Spaces w → ends (w ++ z ∷ r) ≡ true) × ((w r : List ℕ) → Spaces w → ends (w ++ 44 ∷ r) ≡ true) × (is_space z ≡ false) × (eqb z 44 ≡ false)

pub more-stops : {A : Type 0} (P : A → List ℕ → Type 0) (ends : List ℕ → Bool) (z : ℕ) → Stops ends z → (xs : List A) (w c r : List ℕ) → Spaces w → More P z xs c → ends (w ++ (c ++ r)) ≡ true
more-stops P ends z s [] w c r h m = rw m (s.0 w r h)
more-stops P ends z s (x ∷ xs) w c r h m = rw m.6 (s.1 w ((m.0 ++ (m.1 ++ m.2)) ++ r) h)

space_comma : is_space 44 ≡ false
unfolding is_space
space_comma = refl

pub more-complete : {A : Type 0} (D : Type 0) (ends : List ℕ → Bool) (g : Reader A) (P : A → List ℕ → Type 0) → Complete D ends g P → (z : ℕ) → Stops ends z → (xs old : List A) (n : ℕ) (w c r : List ℕ) → Spaces w → More P z xs c → length xs < n → Answers D (more_at g z n old (w ++ (c ++ r))) (old ++ xs) r
unfolding more_at
more-complete D ends g P h z s xs old zero w c r sp m l = absurd (omega (arith, l))
more-complete D ends g P h z s [] old (suc n) w c r sp m l =
    let cut : skip (w ++ (c ++ r)) ≡ z ∷ r = skip-spaces w (c ++ r) sp ∙ ap (λ l. skip (l ++ r)) m ∙ skip-stop z r s.2 in
    inl (rw (cut, s.3, eq-eqb z z refl, append-nil old) refl)
more-complete D ends g P h z s (x ∷ xs) old (suc n) w c r sp m l =
    let t = m.0 ++ (m.1 ++ m.2) in
    let cut : skip (w ++ (c ++ r)) ≡ 44 ∷ (t ++ r) = skip-spaces w (c ++ r) sp ∙ ap (λ l. skip (l ++ r)) m.6 ∙ skip-stop 44 (t ++ r) space_comma in
    let apart : t ++ r ≡ m.0 ++ (m.1 ++ (m.2 ++ r)) = append_assoc m.0 (m.1 ++ m.2) r ∙ ap (λ l. m.0 ++ l) (append_assoc m.1 m.2 r) in
    let one = h m.0 (m.1 ++ (m.2 ++ r)) x m.3 (more-stops P ends z s xs m.1 m.2 r m.4 m.5) in
    let rest = more-complete D ends g P h z s xs (old ++ x ∷ []) n m.1 m.2 r m.4 m.5 (omega (arith, l)) in
    let rest' = subst (λ ys. Answers D (more_at g z n (old ++ x ∷ []) (m.1 ++ (m.2 ++ r))) ys r) (append_assoc old (x ∷ []) xs) rest in
    rw (cut, apart) (bind_answers D (g (m.0 ++ (m.1 ++ (m.2 ++ r)))) (λ y q. more_at g z n (old ++ y ∷ []) q) x (m.1 ++ (m.2 ++ r)) (old ++ x ∷ xs) r one rest')

-- ---- a whole list

pub listed-sound : {A : Type 0} (g : Reader A) (P : A → List ℕ → Type 0) → Sound g P → (z : ℕ) (b r : List ℕ) (xs : List A) → listed_at g z b ≡ found xs r → (a : List ℕ) × Listed P z xs a × (b ≡ a ++ r)
unfolding listed_at
listed-sound {A} g P h z b r xs e = let s = skip-cut b in first (skip b) s.0 s.1 s.2 e
  where
    tested : (x : ℕ) (t : List ℕ) (u : Bool) → eqb x z ≡ u → (w : List ℕ) → Spaces w → b ≡ w ++ x ∷ t → cond u (found [] t) (entry_at g z (length b) [] b) ≡ found xs r → (a : List ℕ) × Listed P z xs a × (b ≡ a ++ r)
    tested x t true q w sp cut e =
        let p = found_parts [] xs t r e in
        let is : x ≡ z = grind (arith, nat_tests) in
        (w ++ z ∷ [], subst (λ ys. Listed P z ys (w ++ z ∷ [])) p.0 (w, sp, refl), cut ∙ ap (λ y. w ++ y ∷ t) is ∙ ap (λ l. w ++ z ∷ l) p.1 ∙ sym (append_assoc w (z ∷ []) r))
    tested x t false q w sp cut e =
        let d = bind_found (g b) (λ y k. more_at g z (length b) (y ∷ []) k) xs r e in
        let one = h b d.1 d.0 d.2 in
        let k = more-sound g P h z (length b) (d.0 ∷ []) xs d.1 r d.3 in
        let all : xs ≡ d.0 ∷ k.2 = k.5 in
        (one.0 ++ (k.0 ++ k.1), subst (λ ys. Listed P z ys (one.0 ++ (k.0 ++ k.1))) (sym all) (one.0, k.0, k.1, one.1, k.3, k.4, refl), one.2 ∙ ap (λ l. one.0 ++ l) (k.6 ∙ sym (append_assoc k.0 k.1 r)) ∙ sym (append_assoc one.0 (k.0 ++ k.1) r))

    first : (s w : List ℕ) → Spaces w → b ≡ w ++ s → on_first wrong (λ x t. cond (eqb x z) (found [] t) (entry_at g z (length b) [] b)) s ≡ found xs r → (a : List ℕ) × Listed P z xs a × (b ≡ a ++ r)
    first [] w sp cut e = absurd (wrong-found xs r e)
    first (x ∷ t) w sp cut e = tested x t (eqb x z) refl w sp cut e

-- no entry begins with the closing byte
abbrev pub Begins : {A : Type 0} → (A → List ℕ → Type 0) → ℕ → Type 0
Begins {A} P z = (x : A) (a r : List ℕ) → P x a → (y : ℕ) × (t : List ℕ) × (skip (a ++ r) ≡ y ∷ t) × (eqb y z ≡ false)

pub listed-complete : {A : Type 0} (D : Type 0) (ends : List ℕ → Bool) (g : Reader A) (P : A → List ℕ → Type 0) → Complete D ends g P → (z : ℕ) → Stops ends z → Begins P z → (xs : List A) (a r : List ℕ) → Listed P z xs a → Answers D (listed_at g z (a ++ r)) xs r
unfolding listed_at
listed-complete D ends g P h z s begins [] a r m =
    let cut : skip (a ++ r) ≡ z ∷ r = ap (λ l. skip (l ++ r)) m.2 ∙ ap skip (append_assoc m.0 (z ∷ []) r) ∙ skip-spaces m.0 (z ∷ r) m.1 ∙ skip-stop z r s.2 in
    inl (rw (cut, eq-eqb z z refl) refl)
listed-complete D ends g P h z s begins (x ∷ xs) a r m =
    let apart : a ++ r ≡ m.0 ++ (m.1 ++ (m.2 ++ r)) = ap (λ l. l ++ r) m.6 ∙ append_assoc m.0 (m.1 ++ m.2) r ∙ ap (λ l. m.0 ++ l) (append_assoc m.1 m.2 r) in
    let start = begins x m.0 (m.1 ++ (m.2 ++ r)) m.3 in
    let cut : skip (a ++ r) ≡ start.0 ∷ start.1 = ap skip apart ∙ start.2 in
    let one = h m.0 (m.1 ++ (m.2 ++ r)) x m.3 (more-stops P ends z s xs m.1 m.2 r m.4 m.5) in
    let few = more-length P z xs m.2 m.5 in
    let rest = more-complete D ends g P h z s xs (x ∷ []) (length (a ++ r)) m.1 m.2 r m.4 m.5 (omega (arith, few, length-append a r, ap length m.6, length-append m.0 (m.1 ++ m.2), length-append m.1 m.2)) in
    let one' = subst (λ l. Answers D (g l) x (m.1 ++ (m.2 ++ r))) (sym apart) one in
    rw (cut, start.3) (bind_answers D (g (a ++ r)) (λ y q. more_at g z (length (a ++ r)) (y ∷ []) q) x (m.1 ++ (m.2 ++ r)) (x ∷ xs) r one' rest)

-- ---- lists that are too deep

pub wrong-deep : {A : Type 0} → ◌≡◌ {A = Outcome A} wrong deep → ⊥
wrong-deep e = true≢false (ap is_wrong e)

pub found-deep : {A : Type 0} (x : A) (r : List ℕ) → ◌≡◌ {A = Outcome A} (found x r) deep → ⊥
found-deep x r e = true≢false (ap is_found e)

pub bind_deep : {A B : Type 0} (o : Outcome A) (k : A → List ℕ → Outcome B) → bind o k ≡ deep → (o ≡ deep) ⊎ ((x : A) × (r : List ℕ) × (o ≡ found x r) × (k x r ≡ deep))
bind_deep (found x r) k e = inr (x, r, refl, e)
bind_deep wrong k e = absurd (wrong-deep e)
bind_deep deep k e = inl refl

-- before something that is too deep, entries are skipped, or are too deep themselves
pub entry-deep : {A : Type 0} (ends : List ℕ → Bool) (g : Reader A) (P : A → List ℕ → Type 0) → Complete (Unit {0}) ends g P → (z : ℕ) → Stops ends z → (xs old : List A) (n : ℕ) (c d : List ℕ) → Before P xs c → g d ≡ deep → length xs ≤ n → entry_at g z n old (c ++ d) ≡ deep
unfolding more_at
entry-deep ends g P h z s [] old n c d m e l = rw (m, e) refl
entry-deep ends g P h z s (x ∷ xs) old zero c d m e l = absurd (omega (arith, l))
entry-deep {A} ends g P h z s (x ∷ xs) old (suc n) c d m e l =
    let after = m.1 ++ 44 ∷ (m.2 ++ d) in
    let apart : c ++ d ≡ m.0 ++ after = ap (λ l. l ++ d) m.6 ∙ append_assoc m.0 (m.1 ++ 44 ∷ m.2) d ∙ ap (λ l. m.0 ++ l) (append_assoc m.1 (44 ∷ m.2) d) in
    let one = h m.0 after x m.3 (s.1 m.1 (m.2 ++ d) m.4) in
    let cut : skip after ≡ 44 ∷ (m.2 ++ d) = skip-spaces m.1 (44 ∷ (m.2 ++ d)) m.4 ∙ skip-stop 44 (m.2 ++ d) space_comma in
    let rest = entry-deep ends g P h z s xs (old ++ x ∷ []) n m.2 d m.5 e (omega (arith, l)) in
    let more : more_at g z (suc n) (old ++ x ∷ []) after ≡ deep = rw cut rest in
    rw apart (either (g (m.0 ++ after)) one more)
  where
    either : (o : Outcome A) → Answers (Unit {0}) o x (m.1 ++ 44 ∷ (m.2 ++ d)) → more_at g z (suc n) (old ++ x ∷ []) (m.1 ++ 44 ∷ (m.2 ++ d)) ≡ deep → bind o (λ y r. more_at g z (suc n) (old ++ y ∷ []) r) ≡ deep
    either o (inl q) more = rw q more
    either o (inr q) more = rw q.1 refl

-- a list that is too deep has an entry that is
pub entry-why : {A : Type 0} (g : Reader A) (P : A → List ℕ → Type 0) (E : List ℕ → Type 0) → Sound g P → ((b : List ℕ) → g b ≡ deep → (e : List ℕ) × (r : List ℕ) × E e × (b ≡ e ++ r)) → (z n : ℕ) (old : List A) (b : List ℕ) → entry_at g z n old b ≡ deep → (xs : List A) × (c : List ℕ) × (e : List ℕ) × (r : List ℕ) × Before P xs c × E e × (b ≡ c ++ (e ++ r))
unfolding more_at
entry-why {A} g P E h why z zero old b q = here (bind_deep (g b) (λ y r. wrong) q)
  where
    here : (g b ≡ deep) ⊎ ((x : A) × (r : List ℕ) × (g b ≡ found x r) × (◌≡◌ {A = Outcome (List A)} wrong deep)) → (xs : List A) × (c : List ℕ) × (e : List ℕ) × (r : List ℕ) × Before P xs c × E e × (b ≡ c ++ (e ++ r))
    here (inl k) = let w = why b k in ([], [], w.0, w.1, refl, w.2, w.3)
    here (inr k) = absurd (wrong-deep k.3)
entry-why {A} g P E h why z (suc n) old b q = here (λ o t k. entry-why g P E h why z n o t k) (bind_deep (g b) (λ y r. more_at g z (suc n) (old ++ y ∷ []) r) q)
  where
    tested : ((o : List A) (t : List ℕ) → entry_at g z n o t ≡ deep → (xs : List A) × (c : List ℕ) × (e : List ℕ) × (r : List ℕ) × Before P xs c × E e × (t ≡ c ++ (e ++ r))) → (o : List A) (x : ℕ) (t : List ℕ) (u v : Bool) → eqb x 44 ≡ u → cond u (entry_at g z n o t) (cond v (found o t) wrong) ≡ deep → (x ≡ 44) × (entry_at g z n o t ≡ deep)
    tested again o x t true v comma k = let is : x ≡ 44 = grind (arith, nat_tests) in (is, k)
    tested again o x t false true comma k = absurd (found-deep o t k)
    tested again o x t false false comma k = absurd (wrong-deep k)

    first : ((o : List A) (t : List ℕ) → entry_at g z n o t ≡ deep → (xs : List A) × (c : List ℕ) × (e : List ℕ) × (r : List ℕ) × Before P xs c × E e × (t ≡ c ++ (e ++ r))) → (o : List A) (s : List ℕ) → on_first wrong (first_more g z n o) s ≡ deep → (t : List ℕ) × (s ≡ 44 ∷ t) × (entry_at g z n o t ≡ deep)
    first again o [] k = absurd (wrong-deep k)
    first again o (x ∷ t) k = let p = tested again o x t (eqb x 44) (eqb x z) refl k in (t, ap (λ y. y ∷ t) p.0, p.1)

    here : ((o : List A) (t : List ℕ) → entry_at g z n o t ≡ deep → (xs : List A) × (c : List ℕ) × (e : List ℕ) × (r : List ℕ) × Before P xs c × E e × (t ≡ c ++ (e ++ r))) → (g b ≡ deep) ⊎ ((x : A) × (r : List ℕ) × (g b ≡ found x r) × (more_at g z (suc n) (old ++ x ∷ []) r ≡ deep)) → (xs : List A) × (c : List ℕ) × (e : List ℕ) × (r : List ℕ) × Before P xs c × E e × (b ≡ c ++ (e ++ r))
    here again (inl k) = let w = why b k in ([], [], w.0, w.1, refl, w.2, w.3)
    here again (inr k) =
        let one = h b k.1 k.0 k.2 in
        let s = skip-cut k.1 in
        let f = first again (old ++ k.0 ∷ []) (skip k.1) k.3 in
        let rest = again (old ++ k.0 ∷ []) f.0 f.2 in (
          k.0 ∷ rest.0,
          one.0 ++ (s.0 ++ 44 ∷ rest.1),
          rest.2,
          rest.3,
          (one.0, s.0, rest.1, one.1, s.1, rest.4, refl),
          rest.5,
          one.2 ∙ ap (λ l. one.0 ++ l) (s.2 ∙ ap (λ l. s.0 ++ l) (f.1 ∙ ap (λ l. 44 ∷ l) rest.6) ∙ sym (append_assoc s.0 (44 ∷ rest.1) (rest.2 ++ rest.3))) ∙ sym (append_assoc one.0 (s.0 ++ 44 ∷ rest.1) (rest.2 ++ rest.3)),
        )
