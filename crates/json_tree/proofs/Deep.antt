-- A value is too deep exactly where its prefix reaches one bracket too many.
use Rattle.std.proofs.Common.{◌≡◌, ◌⊎◌, inl, inr, ℕ, zero, suc, ◌≤◌, Bool, true, false, cond, eqb, List, [], ◌∷◌, ◌++◌, length, refl, sym, ap, ◌∙◌, append_assoc, arith}
use Rattle.std.proofs.lemmas.Bool.Decides.{nat_tests}
use Rattle.std.proofs.lemmas.List.{length-append}
use Rattle.json_tree.specs.Tree.{Json, array, object}
use Rattle.json_tree.specs.Grammar.{is_space, Spaces, AfterSpaces, Quoted, Member, Encodes}
use Rattle.json_tree.proofs.Reaching.{Before, Reaches}
use Rattle.json_tree.specs.Reading.{put_together, Outcome, found, wrong, deep, bind, on_first, skip, strip, entry_at, listed_at, led, string_at, scalar_at, member_at, array_at, object_at, value_at}
use Rattle.json_tree.proofs.ListLaws.{Reader, Complete, Stops, Begins, bind_deep, wrong-deep, found-deep, skip-cut, entry-deep, entry-why}
use Rattle.json_tree.proofs.Scalars.{ends, Starts, string-sound, string-deep, scalar-deep}
use Rattle.json_tree.proofs.ValueLaws.{stops_array, stops_object, encodes-starts, led-skip, led-sound, led-complete, key-starts, member-key, member-sound, member-complete, strip-colon, begins_array, begins_object, led-starts, value-sound, value-complete}

pub reaches-starts : (d : ℕ) (p r : List ℕ) → Reaches d p → Starts (p ++ r)
unfolding is_space
reaches-starts zero p r (inl h) = (91, r, ap (λ l. l ++ r) h, refl, refl, refl)
reaches-starts zero p r (inr h) = (123, r, ap (λ l. l ++ r) h, refl, refl, refl)
reaches-starts (suc d) p r (inl h) = (91, (h.1 ++ h.2) ++ r, ap (λ l. l ++ r) h.5, refl, refl, refl)
reaches-starts (suc d) p r (inr h) = (123, (h.1 ++ (h.3 ++ (h.4 ++ 58 ∷ h.5))) ++ r, ap (λ l. l ++ r) h.10, refl, refl, refl)

before-length : {A : Type 0} (P : A → List ℕ → Type 0) (xs : List A) (c : List ℕ) → Before P xs c → length xs ≤ length c
before-length P [] c m = omega arith
before-length P (x ∷ xs) c m =
    let k = before-length P xs m.2 m.5 in
    omega (arith, k, ap length m.6, length-append m.0 (m.1 ++ 44 ∷ m.2), length-append m.1 (44 ∷ m.2))

-- a list with an entry that is too deep
listed-deep : {A : Type 0} (ends : List ℕ → Bool) (g : Reader A) (P : A → List ℕ → Type 0) → Complete (Unit {0}) ends g P → (z : ℕ) → Stops ends z → Begins P z → (xs : List A) (c d : List ℕ) → Before P xs c → g d ≡ deep → ((y : ℕ) × (t : List ℕ) × (skip d ≡ y ∷ t) × (eqb y z ≡ false)) → listed_at g z (c ++ d) ≡ deep
unfolding listed_at
listed-deep {A} ends g P h z s begins xs c d m e start =
    let all = entry-deep ends g P h z s xs [] (length (c ++ d)) c d m e (omega (arith, before-length P xs c m, length-append c d)) in
    let f = first xs m in
    rw (f.2, f.3) all
  where
    first : (xs : List A) → Before P xs c → (y : ℕ) × (t : List ℕ) × (skip (c ++ d) ≡ y ∷ t) × (eqb y z ≡ false)
    first [] m = (start.0, start.1, ap (λ l. skip (l ++ d)) m ∙ start.2, start.3)
    first (x ∷ xs) m =
        let b = begins x m.0 ((m.1 ++ 44 ∷ m.2) ++ d) m.3 in
        (b.0, b.1, ap (λ l. skip (l ++ d)) m.6 ∙ ap skip (append_assoc m.0 (m.1 ++ 44 ∷ m.2) d) ∙ b.2, b.3)

pub value-deep : (d : ℕ) (p r : List ℕ) → Reaches d p → value_at d (p ++ r) ≡ deep
unfolding value_at
value-deep zero p r (inl h) = rw h refl
value-deep zero p r (inr h) = rw h refl
value-deep (suc d) p r (inl h) =
    let inner : led (value_at d) (h.2 ++ r) ≡ deep = ap (value_at d) (led-skip (Reaches d) (reaches-starts d) h.2 r h.4) ∙ value-deep d h.4.1 r h.4.3 in
    let start = led-starts (Reaches d) (reaches-starts d) h.2 r h.4 in
    let one = led-complete (Unit {0}) (value_at d) (Encodes d) (encodes-starts d) (value-complete (Unit {0}) d d (λ _. tt)) in
    let all = listed-deep ends (led (value_at d)) (λ y. AfterSpaces (Encodes d y)) one 93 stops_array (begins_array d) h.0 h.1 (h.2 ++ r) h.3 inner (start.0, start.1, start.2, start.3) in
    rw (h.5, append_assoc h.1 h.2 r, all) refl
value-deep (suc d) p r (inr h) =
    let v = h.5 in
    let rest = h.3 ++ (h.4 ++ 58 ∷ (v ++ r)) in
    let inner : led (value_at d) (v ++ r) ≡ deep = ap (value_at d) (led-skip (Reaches d) (reaches-starts d) v r h.9) ∙ value-deep d h.9.1 r h.9.3 in
    let member : member_at (value_at d) rest ≡ deep = member-key (value_at d) h.3 h.4 (v ++ r) h.2 h.7 h.8 ∙ ap (λ o. bind o (λ x p. found (h.2, x) p)) inner in
    let start = led-starts (Quoted h.2) (key-starts h.2) h.3 (h.4 ++ 58 ∷ (v ++ r)) h.7 in
    let one = member-complete (Unit {0}) (value_at d) (Encodes d) (encodes-starts d) (value-complete (Unit {0}) d d (λ _. tt)) in
    let all = listed-deep ends (member_at (value_at d)) (Member (Encodes d)) one 125 stops_object (begins_object (Encodes d)) h.0 h.1 rest h.6 member (start.0, start.1, start.2, start.4) in
    let apart : (h.1 ++ (h.3 ++ (h.4 ++ 58 ∷ v))) ++ r ≡ h.1 ++ rest = append_assoc h.1 (h.3 ++ (h.4 ++ 58 ∷ v)) r ∙ ap (λ l. h.1 ++ l) (append_assoc h.3 (h.4 ++ 58 ∷ v) r ∙ ap (λ l. h.3 ++ l) (append_assoc h.4 (58 ∷ v) r)) in
    rw (h.10, apart, all) refl

-- ---- and back

abbrev pub Why : (List ℕ → Type 0) → List ℕ → Type 0
Why E b = (e : List ℕ) × (r : List ℕ) × E e × (b ≡ e ++ r)

pub led-why : (f : Reader Json) (E : List ℕ → Type 0) → ((b : List ℕ) → f b ≡ deep → Why E b) → (b : List ℕ) → led f b ≡ deep → Why (AfterSpaces E) b
led-why f E h b e =
    let s = skip-cut b in
    let w = h (skip b) e in
    (s.0 ++ w.0, w.1, (s.0, w.0, s.1, w.2, refl), s.2 ∙ ap (λ l. s.0 ++ l) w.3 ∙ sym (append_assoc s.0 w.0 w.1))

strip-deep : (b : List ℕ) → strip (58 ∷ []) b ≡ deep → ⊥
unfolding strip
strip-deep [] e = wrong-deep e
strip-deep (x ∷ t) e = tested (eqb x 58) e
  where
    tested : (v : Bool) → cond {A = Outcome (Unit {0})} v (found tt t) wrong ≡ deep → ⊥
    tested true e = found-deep tt t e
    tested false e = wrong-deep e

-- a key, a colon and what is too deep
abbrev pub KeyThen : (List ℕ → Type 0) → List ℕ → Type 0
KeyThen E b = (s : List ℕ) × (k : List ℕ) × (w : List ℕ) × (d : List ℕ) × AfterSpaces (Quoted s) k × Spaces w × AfterSpaces E d × (b ≡ k ++ (w ++ 58 ∷ d))

pub member-why : (f : Reader Json) (E : List ℕ → Type 0) → ((b : List ℕ) → f b ≡ deep → Why E b) → (b : List ℕ) → member_at f b ≡ deep → Why (KeyThen E) b
unfolding member_at
member-why f E h b e = key (bind_deep (string_at (skip b)) (λ k r. bind (strip (58 ∷ []) (skip r)) (λ _ q. bind (led f q) (λ x p. found (k, x) p))) e)
  where
    value : (s k r q : List ℕ) → AfterSpaces (Quoted s) k → b ≡ k ++ r → skip r ≡ 58 ∷ q → (led f q ≡ deep) ⊎ ((x : Json) × (p : List ℕ) × (led f q ≡ found x p) × (◌≡◌ {A = Outcome (List ℕ × Json)} (found (s, x) p) deep)) → Why (KeyThen E) b
    value s k r q key cut colon (inl e) =
        let w = skip-cut r in
        let v = led-why f E h q e in (
          k ++ (w.0 ++ 58 ∷ v.0),
          v.1,
          (s, k, w.0, v.0, key, w.1, v.2, refl),
          cut ∙ ap (λ l. k ++ l) (w.2 ∙ ap (λ l. w.0 ++ l) (colon ∙ ap (λ l. 58 ∷ l) v.3) ∙ sym (append_assoc w.0 (58 ∷ v.0) v.1)) ∙ sym (append_assoc k (w.0 ++ 58 ∷ v.0) v.1),
        )
    value s k r q key cut colon (inr e) = absurd (found-deep (s, e.0) e.1 e.3)

    colon : (s k r : List ℕ) → AfterSpaces (Quoted s) k → b ≡ k ++ r → (strip (58 ∷ []) (skip r) ≡ deep) ⊎ ((u : Unit {0}) × (q : List ℕ) × (strip (58 ∷ []) (skip r) ≡ found u q) × (bind {B = List ℕ × Json} (led f q) (λ x p. found (s, x) p) ≡ deep)) → Why (KeyThen E) b
    colon s k r key cut (inl e) = absurd (strip-deep (skip r) e)
    colon s k r key cut (inr e) = value s k r e.1 key cut (strip-colon (skip r) e.1 e.0 e.2) (bind_deep (led f e.1) (λ x p. found (s, x) p) e.3)

    key : (string_at (skip b) ≡ deep) ⊎ ((s : List ℕ) × (r : List ℕ) × (string_at (skip b) ≡ found s r) × (bind {B = List ℕ × Json} (strip (58 ∷ []) (skip r)) (λ _ q. bind (led f q) (λ x p. found (s, x) p)) ≡ deep)) → Why (KeyThen E) b
    key (inl e) = absurd (string-deep (skip b) e)
    key (inr e) =
        let c = skip-cut b in
        let k = string-sound (skip b) e.1 e.0 e.2 in
        colon e.0 (c.0 ++ k.0) e.1 (c.0, k.0, c.1, k.1, refl) (c.2 ∙ ap (λ l. c.0 ++ l) k.2 ∙ sym (append_assoc c.0 k.0 e.1)) (bind_deep (strip (58 ∷ []) (skip e.1)) (λ _ q. bind (led f q) (λ x p. found (e.0, x) p)) e.3)

-- an entry is why a list is too deep
pub listed-why : {A : Type 0} (g : Reader A) (z : ℕ) (b : List ℕ) → listed_at g z b ≡ deep → entry_at g z (length b) [] b ≡ deep
unfolding listed_at
listed-why {A} g z b e = first (skip b) e
  where
    tested : (x : ℕ) (t : List ℕ) (u : Bool) → cond u (found [] t) (entry_at g z (length b) [] b) ≡ deep → entry_at g z (length b) [] b ≡ deep
    tested x t true e = absurd (found-deep [] t e)
    tested x t false e = e

    first : (s : List ℕ) → on_first wrong (λ x t. cond (eqb x z) (found [] t) (entry_at g z (length b) [] b)) s ≡ deep → entry_at g z (length b) [] b ≡ deep
    first [] e = absurd (wrong-deep e)
    first (x ∷ t) e = tested x t (eqb x z) e

pub value-why : (d : ℕ) (b : List ℕ) → value_at d b ≡ deep → Why (Reaches d) b
unfolding value_at
value-why zero [] e = absurd (wrong-deep e)
value-why zero (y ∷ t) e = tested (eqb y 91) (eqb y 123) refl refl e
  where
    tested : (u v : Bool) → eqb y 91 ≡ u → eqb y 123 ≡ v → cond u deep (cond v deep (scalar_at (y ∷ t))) ≡ deep → Why (Reaches 0) (y ∷ t)
    tested true v p q e = let is : y ≡ 91 = grind (arith, nat_tests) in (91 ∷ [], t, inl refl, ap (λ x. x ∷ t) is)
    tested false true p q e = let is : y ≡ 123 = grind (arith, nat_tests) in (123 ∷ [], t, inr refl, ap (λ x. x ∷ t) is)
    tested false false p q e = absurd (scalar-deep (y ∷ t) e)
value-why (suc d) [] e = absurd (wrong-deep e)
value-why (suc d) (y ∷ t) e = tested (value-why d) (eqb y 91) (eqb y 123) refl refl e
  where
    tested : ((b : List ℕ) → value_at d b ≡ deep → Why (Reaches d) b) → (u v : Bool) → eqb y 91 ≡ u → eqb y 123 ≡ v → cond u (array_at (value_at d) t) (cond v (object_at (value_at d) t) (scalar_at (y ∷ t))) ≡ deep → Why (Reaches (suc d)) (y ∷ t)
    tested h true v p q e = array' (bind_deep (listed_at (led (value_at d)) 93 t) (λ xs r. found (array xs) r) e)
      where
        array' : (listed_at (led (value_at d)) 93 t ≡ deep) ⊎ ((xs : List Json) × (r : List ℕ) × (listed_at (led (value_at d)) 93 t ≡ found xs r) × (found (array xs) r ≡ deep)) → Why (Reaches (suc d)) (y ∷ t)
        array' (inl e) =
            let w = entry-why (led (value_at d)) (λ y. AfterSpaces (Encodes d y)) (AfterSpaces (Reaches d)) (led-sound (value_at d) (Encodes d) (value-sound d)) (led-why (value_at d) (Reaches d) h) 93 (length t) [] t (listed-why (led (value_at d)) 93 t e) in
            let is : y ≡ 91 = grind (arith, nat_tests) in
            (91 ∷ (w.1 ++ w.2), w.3, inl (w.0, w.1, w.2, w.4, w.5, refl), ap (λ x. x ∷ t) is ∙ ap (λ l. 91 ∷ l) (w.6 ∙ sym (append_assoc w.1 w.2 w.3)))
        array' (inr e) = absurd (found-deep (array (e.0)) e.1 e.3)
    tested h false true p q e = object' (bind_deep (listed_at (member_at (value_at d)) 125 t) (λ ms r. found (object (put_together ms)) r) e)
      where
        object' : (listed_at (member_at (value_at d)) 125 t ≡ deep) ⊎ ((ms : List (List ℕ × Json)) × (r : List ℕ) × (listed_at (member_at (value_at d)) 125 t ≡ found ms r) × (found (object (put_together ms)) r ≡ deep)) → Why (Reaches (suc d)) (y ∷ t)
        object' (inl e) =
            let w = entry-why (member_at (value_at d)) (Member (Encodes d)) (KeyThen (Reaches d)) (member-sound (value_at d) (Encodes d) (value-sound d)) (member-why (value_at d) (Reaches d) h) 125 (length t) [] t (listed-why (member_at (value_at d)) 125 t e) in
            let k = w.5 in
            let is : y ≡ 123 = grind (arith, nat_tests) in
            (123 ∷ (w.1 ++ w.2), w.3, inr (w.0, w.1, k.0, k.1, k.2, k.3, w.4, k.4, k.5, k.6, ap (λ l. 123 ∷ (w.1 ++ l)) k.7), ap (λ x. x ∷ t) is ∙ ap (λ l. 123 ∷ l) (w.6 ∙ sym (append_assoc w.1 w.2 w.3)))
        object' (inr e) = absurd (found-deep (object (put_together e.0)) e.1 e.3)
    tested h false false p q e = absurd (scalar-deep (y ∷ t) e)
