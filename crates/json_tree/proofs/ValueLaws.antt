-- Values are read exactly as they are encoded.
use Rattle.std.proofs.Common.{◌≡◌, inl, inr, ℕ, zero, suc, ◌<◌, Bool, true, false, cond, eqb, List, [], ◌∷◌, ◌++◌, refl, sym, ap, ◌∙◌, subst, append_assoc, arith}
use Rattle.std.proofs.lemmas.Bool.Decides.{nat_tests}
use Rattle.json_tree.specs.Tree.{Json, array, object}
use Rattle.json_tree.specs.Grammar.{is_space, is_digit, Spaces, AfterSpaces, Quoted, Scalar, Member, Encodes}
use Rattle.json_tree.specs.Reading.{put_together, found, wrong, deep, bind, skip, strip, listed_at, led, string_at, scalar_at, member_at, array_at, object_at, value_at}
use Rattle.json_tree.proofs.Gathering.{gathers, gathered-once}
use Rattle.json_tree.proofs.ListLaws.{Reader, Sound, Complete, Stops, Begins, wrong-found, deep-found, found_parts, bind_found, bind_answers, skip-cut, skip-spaces, skip-stop, listed-sound, listed-complete}
use Rattle.json_tree.proofs.Scalars.{ends, Starts, string-sound, string-complete, scalar-sound, scalar-complete, scalar-starts, space-ends}

-- ---- what follows and what comes first

ends-at : (x : ℕ) → ((t : List ℕ) → ends (x ∷ t) ≡ true) → (w r : List ℕ) → Spaces w → ends (w ++ x ∷ r) ≡ true
ends-at x h [] r sp = h r
ends-at x h (y ∷ w) r sp = space-ends y (w ++ x ∷ r) sp.0

pub stops_array : Stops ends 93
unfolding ends is_space is_digit
stops_array = (ends-at 93 (λ t. refl), ends-at 44 (λ t. refl), refl, refl)

pub stops_object : Stops ends 125
unfolding ends is_space is_digit
stops_object = (ends-at 125 (λ t. refl), ends-at 44 (λ t. refl), refl, refl)

pub encodes-starts : (n : ℕ) (x : Json) (a r : List ℕ) → Encodes n x a → Starts (a ++ r)
unfolding is_space
encodes-starts zero x a r h = let s = scalar-starts x a r h in (s.0, s.1, s.2, s.3, s.4, s.5)
encodes-starts (suc n) x a r (inl h) = let s = scalar-starts x a r h in (s.0, s.1, s.2, s.3, s.4, s.5)
encodes-starts (suc n) x a r (inr (inl h)) = (91, h.1 ++ r, ap (λ l. l ++ r) h.4, refl, refl, refl)
encodes-starts (suc n) x a r (inr (inr h)) = (123, h.2 ++ r, ap (λ l. l ++ r) h.6, refl, refl, refl)

-- after white space
pub led-starts : (P : List ℕ → Type 0) → ((a r : List ℕ) → P a → Starts (a ++ r)) → (a r : List ℕ) → AfterSpaces P a → (y : ℕ) × (t : List ℕ) × (skip (a ++ r) ≡ y ∷ t) × (eqb y 93 ≡ false) × (eqb y 125 ≡ false)
led-starts P h a r l =
    let s = h l.1 r l.3 in
    (s.0, s.1, ap (λ b. skip (b ++ r)) l.4 ∙ ap skip (append_assoc l.0 l.1 r) ∙ skip-spaces l.0 (l.1 ++ r) l.2 ∙ ap skip s.2 ∙ skip-stop s.0 s.1 s.3, s.4, s.5)

-- the first byte of what is encoded after white space
pub led-skip : (P : List ℕ → Type 0) → ((a r : List ℕ) → P a → Starts (a ++ r)) → (a r : List ℕ) (l : AfterSpaces P a) → skip (a ++ r) ≡ l.1 ++ r
led-skip P h a r l =
    let s = h l.1 r l.3 in
    ap (λ b. skip (b ++ r)) l.4 ∙ ap skip (append_assoc l.0 l.1 r) ∙ skip-spaces l.0 (l.1 ++ r) l.2 ∙ ap skip s.2 ∙ skip-stop s.0 s.1 s.3 ∙ sym s.2

pub led-sound : (f : Reader Json) (P : Json → List ℕ → Type 0) → Sound f P → Sound (led f) (λ y. AfterSpaces (P y))
led-sound f P h b r x e =
    let s = skip-cut b in
    let o = h (skip b) r x e in
    (s.0 ++ o.0, (s.0, o.0, s.1, o.1, refl), s.2 ∙ ap (λ l. s.0 ++ l) o.2 ∙ sym (append_assoc s.0 o.0 r))

pub led-complete : (D : Type 0) (f : Reader Json) (P : Json → List ℕ → Type 0) → ((x : Json) (a r : List ℕ) → P x a → Starts (a ++ r)) → Complete D ends f P → Complete D ends (led f) (λ y. AfterSpaces (P y))
led-complete D f P st h a r x l e = rw (led-skip (P x) (st x) a r l) (h l.1 r x l.3 e)

-- ---- members

pub strip-colon : (b r : List ℕ) (u : Unit {0}) → strip (58 ∷ []) b ≡ found u r → b ≡ 58 ∷ r
unfolding strip
strip-colon [] r u e = absurd (wrong-found u r e)
strip-colon (x ∷ t) r u e = tested (eqb x 58) refl e
  where
    tested : (v : Bool) → eqb x 58 ≡ v → cond v (found tt t) wrong ≡ found u r → x ∷ t ≡ 58 ∷ r
    tested true q e = let is : x ≡ 58 = grind (arith, nat_tests) in rw is (ap (λ l. 58 ∷ l) (found_parts tt u t r e).1)
    tested false q e = absurd (wrong-found u r e)

pub member-sound : (f : Reader Json) (P : Json → List ℕ → Type 0) → Sound f P → Sound (member_at f) (Member P)
unfolding member_at
member-sound f P h b r m e =
    let k = bind_found (string_at (skip b)) (λ k r. bind (strip (58 ∷ []) (skip r)) (λ _ q. bind (led f q) (λ x p. found (k, x) p))) m r e in
    let c = bind_found (strip (58 ∷ []) (skip k.1)) (λ _ q. bind (led f q) (λ x p. found (k.0, x) p)) m r k.3 in
    let v = bind_found (led f c.1) (λ x p. found (k.0, x) p) m r c.3 in
    let p = found_parts (k.0, v.0) m v.1 r v.3 in
    let s = skip-cut b in
    let key = string-sound (skip b) k.1 k.0 k.2 in
    let w = skip-cut k.1 in
    let colon = strip-colon (skip k.1) c.1 c.0 c.2 in
    let value = led-sound f P h c.1 v.1 v.0 v.2 in
    let a = s.0 ++ key.0 in
    let all : Member P (k.0, v.0) (a ++ (w.0 ++ 58 ∷ value.0)) = (a, w.0, value.0, (s.0, key.0, s.1, key.1, refl), w.1, value.1, refl) in (
      a ++ (w.0 ++ 58 ∷ value.0),
      subst (λ o. Member P o (a ++ (w.0 ++ 58 ∷ value.0))) p.0 all,
      s.2 ∙ ap (λ l. s.0 ++ l) (key.2 ∙ ap (λ l. key.0 ++ l) (w.2 ∙ ap (λ l. w.0 ++ l) (colon ∙ ap (λ l. 58 ∷ l) (value.2 ∙ ap (λ l. value.0 ++ l) p.1)))) ∙ sym (append_assoc s.0 key.0 (w.0 ++ 58 ∷ (value.0 ++ r))) ∙ ap (λ l. a ++ l) (sym (append_assoc w.0 (58 ∷ value.0) r)) ∙ sym (append_assoc a (w.0 ++ 58 ∷ value.0) r),
    )

pub key-starts : (s a r : List ℕ) → Quoted s a → Starts (a ++ r)
unfolding is_space
key-starts s a r h = (34, (h.0 ++ 34 ∷ []) ++ r, ap (λ l. l ++ r) h.1, refl, refl, refl)

-- a key and its colon are skipped
pub member-key : (f : Reader Json) (k w v : List ℕ) (s : List ℕ) → AfterSpaces (Quoted s) k → Spaces w → member_at f (k ++ (w ++ 58 ∷ v)) ≡ bind (led f v) (λ x p. found (s, x) p)
unfolding member_at strip is_space
member-key f k w v s key sp =
    let first = led-skip (Quoted s) (key-starts s) k (w ++ 58 ∷ v) key in
    let one = string-complete s key.1 (w ++ 58 ∷ v) key.3 in
    let colon : skip (w ++ 58 ∷ v) ≡ 58 ∷ v = skip-spaces w (58 ∷ v) sp ∙ skip-stop 58 v refl in
    rw (first, one, colon) refl

pub member-complete : (D : Type 0) (f : Reader Json) (P : Json → List ℕ → Type 0) → ((x : Json) (a r : List ℕ) → P x a → Starts (a ++ r)) → Complete D ends f P → Complete D ends (member_at f) (Member P)
member-complete D f P st h a r m l e =
    let apart : a ++ r ≡ l.0 ++ (l.1 ++ 58 ∷ (l.2 ++ r)) = ap (λ b. b ++ r) l.6 ∙ append_assoc l.0 (l.1 ++ 58 ∷ l.2) r ∙ ap (λ b. l.0 ++ b) (append_assoc l.1 (58 ∷ l.2) r) in
    let v = led-complete D f P st h l.2 r m.1 l.5 e in
    rw (apart, member-key f l.0 l.1 (l.2 ++ r) m.0 l.3 l.4) (bind_answers D (led f (l.2 ++ r)) (λ x p. found (m.0, x) p) m.1 r m r v (inl refl))

-- ---- values

abbrev encoded : ℕ → Json → List ℕ → Type 0
encoded n y = AfterSpaces (Encodes n y)

pub begins_array : (n : ℕ) → Begins (λ y. AfterSpaces (Encodes n y)) 93
begins_array n x a r l = let s = led-starts (Encodes n x) (encodes-starts n x) a r l in (s.0, s.1, s.2, s.3)

pub begins_object : (P : Json → List ℕ → Type 0) → Begins (Member P) 125
begins_object P m a r l =
    let apart : a ++ r ≡ l.0 ++ ((l.1 ++ 58 ∷ l.2) ++ r) = ap (λ b. b ++ r) l.6 ∙ append_assoc l.0 (l.1 ++ 58 ∷ l.2) r in
    let s = led-starts (Quoted m.0) (key-starts m.0) l.0 ((l.1 ++ 58 ∷ l.2) ++ r) l.3 in
    (s.0, s.1, ap skip apart ∙ s.2, s.4)

abbrev Found : (Json → List ℕ → Type 0) → List ℕ → Json → List ℕ → Type 0
Found P b x r = (a : List ℕ) × P x a × (b ≡ a ++ r)

pub value-sound : (d : ℕ) → Sound (value_at d) (Encodes d)
unfolding value_at
value-sound zero [] r x e = absurd (wrong-found x r e)
value-sound zero (y ∷ t) r x e = tested (eqb y 91) (eqb y 123) e
  where
    tested : (u v : Bool) → cond u deep (cond v deep (scalar_at (y ∷ t))) ≡ found x r → Found Scalar (y ∷ t) x r
    tested true v e = absurd (deep-found x r e)
    tested false true e = absurd (deep-found x r e)
    tested false false e = scalar-sound (y ∷ t) r x e
value-sound (suc d) [] r x e = absurd (wrong-found x r e)
value-sound (suc d) (y ∷ t) r x e = tested (value-sound d) (eqb y 91) (eqb y 123) refl refl e
  where
    tested : Sound (value_at d) (Encodes d) → (u v : Bool) → eqb y 91 ≡ u → eqb y 123 ≡ v → cond u (array_at (value_at d) t) (cond v (object_at (value_at d) t) (scalar_at (y ∷ t))) ≡ found x r → Found (Encodes (suc d)) (y ∷ t) x r
    tested h true v p q e =
        let k = bind_found (listed_at (led (value_at d)) 93 t) (λ xs r. found (array xs) r) x r e in
        let w = found_parts (array (k.0)) x k.1 r k.3 in
        let l = listed-sound (led (value_at d)) (λ y. AfterSpaces (Encodes d y)) (led-sound (value_at d) (Encodes d) h) 93 t k.1 k.0 k.2 in
        let is : y ≡ 91 = grind (arith, nat_tests) in
        (91 ∷ l.0, inr (inl (k.0, l.0, l.1, sym w.0, refl)), rw is (ap (λ b. 91 ∷ b) (l.2 ∙ ap (λ b. l.0 ++ b) w.1)))
    tested h false true p q e =
        let k = bind_found (listed_at (member_at (value_at d)) 125 t) (λ xs r. found (object (put_together xs)) r) x r e in
        let w = found_parts (object (put_together k.0)) x k.1 r k.3 in
        let l = listed-sound (member_at (value_at d)) (Member (Encodes d)) (member-sound (value_at d) (Encodes d) h) 125 t k.1 k.0 k.2 in
        let is : y ≡ 123 = grind (arith, nat_tests) in
        (123 ∷ l.0, inr (inr (k.0, put_together k.0, l.0, l.1, gathers k.0, sym w.0, refl)), rw is (ap (λ b. 123 ∷ b) (l.2 ∙ ap (λ b. l.0 ++ b) w.1)))
    tested h false false p q e = let s = scalar-sound (y ∷ t) r x e in (s.0, inl s.1, s.2)

pub scalar-value : (d : ℕ) (x : Json) (a r : List ℕ) → Scalar x a → ends r ≡ true → value_at d (a ++ r) ≡ found x r
unfolding value_at
scalar-value zero x a r h e = let s = scalar-starts x a r h in rw (s.2, s.6, s.7, ← s.2) (scalar-complete x a r h e)
scalar-value (suc d) x a r h e = let s = scalar-starts x a r h in rw (s.2, s.6, s.7, ← s.2) (scalar-complete x a r h e)

-- found where n is at most d, and else found or too deep
pub value-complete : (D : Type 0) (n d : ℕ) → (d < n → D) → Complete D ends (value_at d) (Encodes n)
unfolding value_at
value-complete D zero d over a r x h e = inl (scalar-value d x a r h e)
value-complete D (suc n) d over a r x (inl h) e = inl (scalar-value d x a r h e)
value-complete D (suc n) zero over a r x (inr (inl h)) e = inr (over (omega arith), rw h.4 refl)
value-complete D (suc n) zero over a r x (inr (inr h)) e = inr (over (omega arith), rw h.6 refl)
value-complete D (suc n) (suc d) over a r x (inr (inl h)) e =
    let one = led-complete D (value_at d) (Encodes n) (encodes-starts n) (value-complete D n d (λ l. over (omega (arith, l)))) in
    let all = listed-complete D ends (led (value_at d)) (λ y. AfterSpaces (Encodes n y)) one 93 stops_array (begins_array n) h.0 h.1 r h.2 in
    rw (h.4, h.3) (bind_answers D (listed_at (led (value_at d)) 93 (h.1 ++ r)) (λ xs q. found (array xs) q) h.0 r (array (h.0)) r all (inl refl))
value-complete D (suc n) (suc d) over a r x (inr (inr h)) e =
    let one = member-complete D (value_at d) (Encodes n) (encodes-starts n) (value-complete D n d (λ l. over (omega (arith, l)))) in
    let all = listed-complete D ends (member_at (value_at d)) (Member (Encodes n)) one 125 stops_object (begins_object (Encodes n)) h.0 h.2 r h.3 in
    let is = h.5 ∙ ap object (gathered-once h.0 h.1 h.4) in
    rw (h.6, is) (bind_answers D (listed_at (member_at (value_at d)) 125 (h.2 ++ r)) (λ xs q. found (object (put_together xs)) q) h.0 r (object (put_together h.0)) r all (inl refl))
