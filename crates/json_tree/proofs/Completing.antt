-- What reaches a bracket too many goes on to a JSON text, but to none within the bound.
use Rattle.std.proofs.Common.{◌≡◌, ◌⊎◌, inl, inr, ℕ, zero, suc, ◌<◌, ◌≤◌, ◌+◌, Bool, true, false, ltb, List, [], ◌∷◌, ◌++◌, length, refl, sym, ap, ◌∙◌, subst, append_assoc, arith}
use Rattle.std.proofs.lemmas.Bool.{ltb-true, ltb-false}
use Rattle.std.proofs.lemmas.List.{append-nil, length-append}
use Rattle.std.proofs.lemmas.Str.{IsUtf8-append}
use Rattle.std.specs.Str.{IsUtf8}
use Rattle.json_tree.specs.Tree.{Json, null, array, object}
use Rattle.json_tree.specs.Grammar.{AfterSpaces, More, Listed, text_null, Member, Encodes, IsText}
use Rattle.json_tree.specs.Reading.{found, deep, text_at, put_together}
use Rattle.json_tree.specs.Meaning.{IsJson, HoldsTooMany}
use Rattle.json_tree.proofs.Reaching.{Before, Reaches, IsDeep}
use Rattle.json_tree.proofs.Gathering.{gathers}
use Rattle.json_tree.proofs.ListLaws.{found-deep}
use Rattle.json_tree.proofs.TextLaws.{text-sound, text-complete, text-answers, text-why, text-deep, prefix-utf8, before-utf8, reaches-last, led-last, split}

-- ---- a bound may be larger

more-map : {A : Type 0} (P Q : A → List ℕ → Type 0) (z : ℕ) → ((x : A) (b : List ℕ) → P x b → Q x b) → (xs : List A) (b : List ℕ) → More P z xs b → More Q z xs b
more-map P Q z f [] b h = h
more-map P Q z f (x ∷ xs) b h = (h.0, h.1, h.2, f x h.0 h.3, h.4, more-map P Q z f xs h.2 h.5, h.6)

listed-map : {A : Type 0} (P Q : A → List ℕ → Type 0) (z : ℕ) → ((x : A) (b : List ℕ) → P x b → Q x b) → (xs : List A) (b : List ℕ) → Listed P z xs b → Listed Q z xs b
listed-map P Q z f [] b h = h
listed-map P Q z f (x ∷ xs) b h = (h.0, h.1, h.2, f x h.0 h.3, h.4, more-map P Q z f xs h.2 h.5, h.6)

before-map : {A : Type 0} (P Q : A → List ℕ → Type 0) → ((x : A) (b : List ℕ) → P x b → Q x b) → (xs : List A) (b : List ℕ) → Before P xs b → Before Q xs b
before-map P Q f [] b h = h
before-map P Q f (x ∷ xs) b h = (h.0, h.1, h.2, f x h.0 h.3, h.4, before-map P Q f xs h.2 h.5, h.6)

led-map : (P Q : List ℕ → Type 0) → ((b : List ℕ) → P b → Q b) → (b : List ℕ) → AfterSpaces P b → AfterSpaces Q b
led-map P Q f b h = (h.0, h.1, h.2, f h.1 h.3, h.4)

member-map : (P Q : Json → List ℕ → Type 0) → ((x : Json) (b : List ℕ) → P x b → Q x b) → (m : List ℕ × Json) (b : List ℕ) → Member P m b → Member Q m b
member-map P Q f m b l = (l.0, l.1, l.2, l.3, l.4, led-map (P m.1) (Q m.1) (f m.1) l.2 l.5, l.6)

encodes-within : (n m : ℕ) → n ≤ m → (x : Json) (b : List ℕ) → Encodes n x b → Encodes m x b
encodes-within zero zero le x b h = h
encodes-within zero (suc m) le x b h = inl h
encodes-within (suc n) zero le x b h = absurd (omega (arith, le))
encodes-within (suc n) (suc m) le x b (inl h) = inl h
encodes-within (suc n) (suc m) le x b (inr (inl h)) = inr (inl (h.0, h.1, listed-map (λ y. AfterSpaces (Encodes n y)) (λ y. AfterSpaces (Encodes m y)) 93 (λ y c l. led-map (Encodes n y) (Encodes m y) (encodes-within n m (omega (arith, le)) y) c l) h.0 h.1 h.2, h.3, h.4))
encodes-within (suc n) (suc m) le x b (inr (inr h)) = inr (inr (h.0, h.1, h.2, listed-map (Member (Encodes n)) (Member (Encodes m)) 125 (member-map (Encodes n) (Encodes m) (encodes-within n m (omega (arith, le)))) h.0 h.2 h.3, h.4, h.5, h.6))

-- ---- one more entry, and the closing byte

more-last : {A : Type 0} (P : A → List ℕ → Type 0) (z : ℕ) (y : A) (a : List ℕ) → P y a → (xs : List A) (c : List ℕ) → Before P xs c → More P z (xs ++ y ∷ []) (44 ∷ (c ++ (a ++ z ∷ [])))
more-last P z y a p [] c h = (a, [], z ∷ [], p, tt, refl, ap (λ l. 44 ∷ (l ++ (a ++ z ∷ []))) h)
more-last P z y a p (x ∷ xs) c h = (h.0, h.1, 44 ∷ (h.2 ++ (a ++ z ∷ [])), h.3, h.4, more-last P z y a p xs h.2 h.5, ap (λ l. 44 ∷ l) (ap (λ l. l ++ (a ++ z ∷ [])) h.6 ∙ append_assoc h.0 (h.1 ++ 44 ∷ h.2) (a ++ z ∷ []) ∙ ap (λ l. h.0 ++ l) (append_assoc h.1 (44 ∷ h.2) (a ++ z ∷ []))))

listed-last : {A : Type 0} (P : A → List ℕ → Type 0) (z : ℕ) (y : A) (a : List ℕ) → P y a → (xs : List A) (c : List ℕ) → Before P xs c → Listed P z (xs ++ y ∷ []) (c ++ (a ++ z ∷ []))
listed-last P z y a p [] c h = (a, [], z ∷ [], p, tt, refl, ap (λ l. l ++ (a ++ z ∷ [])) h)
listed-last P z y a p (x ∷ xs) c h = (h.0, h.1, 44 ∷ (h.2 ++ (a ++ z ∷ [])), h.3, h.4, more-last P z y a p xs h.2 h.5, ap (λ l. l ++ (a ++ z ∷ [])) h.6 ∙ append_assoc h.0 (h.1 ++ 44 ∷ h.2) (a ++ z ∷ []) ∙ ap (λ l. h.0 ++ l) (append_assoc h.1 (44 ∷ h.2) (a ++ z ∷ [])))

-- ---- bytes whose last bracket is filled

-- what stands for a bracket, and what follows it, so that they are a value of at most n open brackets
abbrev Start : (ℕ → List ℕ) → ℕ → Type 0
Start hole n = (x : ℕ) → (x ≡ 91) ⊎ (x ≡ 123) → (s : List ℕ) × (v : Json) × IsUtf8 s × Encodes n v (hole x ++ s)

-- the bytes end with a bracket, and with what stands for it, they go on to a value
abbrev Filled : (ℕ → List ℕ) → (Json → List ℕ → Type 0) → List ℕ → Type 0
Filled hole P e = (q : List ℕ) × (x : ℕ) × (s : List ℕ) × (v : Json) × (e ≡ q ++ x ∷ []) × (x < 128) × IsUtf8 s × P v (q ++ (hole x ++ s))

bracket : IsUtf8 (93 ∷ [])
unfolding lib.Utf8.encode
bracket = (93 ∷ [], (refl, refl))

brace : IsUtf8 (125 ∷ [])
unfolding lib.Utf8.encode
brace = (125 ∷ [], (refl, refl))

close-up : (w q o s : List ℕ) (z : ℕ) → (w ++ q) ++ (o ++ (s ++ z ∷ [])) ≡ (w ++ (q ++ (o ++ s))) ++ z ∷ []
close-up w q o s z =
    append_assoc w q (o ++ (s ++ z ∷ [])) ∙ ap (λ l. w ++ l) (ap (λ l. q ++ l) (sym (append_assoc o s (z ∷ []))) ∙ sym (append_assoc q (o ++ s) (z ∷ []))) ∙ sym (append_assoc w (q ++ (o ++ s)) (z ∷ []))

apart : (c k w v t : List ℕ) → (c ++ (k ++ (w ++ 58 ∷ v))) ++ t ≡ c ++ (k ++ (w ++ 58 ∷ (v ++ t)))
apart c k w v t = append_assoc c (k ++ (w ++ 58 ∷ v)) t ∙ ap (λ l. c ++ l) (append_assoc k (w ++ 58 ∷ v) t ∙ ap (λ l. k ++ l) (append_assoc w (58 ∷ v) t))

first : (hole : ℕ → List ℕ) (n : ℕ) → Start hole n → (x : ℕ) → x < 128 → (x ≡ 91) ⊎ (x ≡ 123) → (e : List ℕ) → e ≡ x ∷ [] → Filled hole (Encodes n) e
first hole n start x lt is e h = let k = start x is in ([], x, k.0, k.1, h, lt, k.2, k.3)

fills : (hole : ℕ → List ℕ) (n : ℕ) → Start hole n → (d j : ℕ) → j ≡ d + n → (e : List ℕ) → Reaches d e → Filled hole (Encodes j) e
fills hole n start zero j is e (inl h) = let same : n ≡ j = omega (arith, is) in subst (λ i. Filled hole (Encodes i) e) same (first hole n start 91 (omega arith) (inl refl) e h)
fills hole n start zero j is e (inr h) = let same : n ≡ j = omega (arith, is) in subst (λ i. Filled hole (Encodes i) e) same (first hole n start 123 (omega arith) (inr refl) e h)
fills hole n start (suc d) zero is e h = absurd (omega (arith, is))
fills hole n start (suc d) (suc j) is e (inl h) =
    let k = fills hole n start d j (omega (arith, is)) h.4.1 h.4.3 in
    let w = h.4.0 in
    let a = w ++ (k.0 ++ (hole k.1 ++ k.2)) in
    let entry : AfterSpaces (Encodes j k.3) a = (w, k.0 ++ (hole k.1 ++ k.2), h.4.2, k.7, refl) in
    let entries = before-map (λ y. AfterSpaces (Encodes d y)) (λ y. AfterSpaces (Encodes j y)) (λ y c l. led-map (Encodes d y) (Encodes j y) (encodes-within d j (omega (arith, is)) y) c l) h.0 h.1 h.3 in
    let all = listed-last (λ y. AfterSpaces (Encodes j y)) 93 k.3 a entry h.0 h.1 entries in
    let last : h.2 ≡ (w ++ k.0) ++ k.1 ∷ [] = h.4.4 ∙ ap (λ l. w ++ l) k.4 ∙ sym (append_assoc w k.0 (k.1 ∷ [])) in (
      91 ∷ (h.1 ++ (w ++ k.0)),
      k.1,
      k.2 ++ 93 ∷ [],
      array (h.0 ++ k.3 ∷ []),
      h.5 ∙ ap (λ l. 91 ∷ (h.1 ++ l)) last ∙ ap (λ l. 91 ∷ l) (sym (append_assoc h.1 (w ++ k.0) (k.1 ∷ []))),
      k.5,
      IsUtf8-append k.2 (93 ∷ []) k.6 bracket,
      inr (inl (h.0 ++ k.3 ∷ [], h.1 ++ (a ++ 93 ∷ []), all, refl, ap (λ l. 91 ∷ l) (append_assoc h.1 (w ++ k.0) (hole k.1 ++ (k.2 ++ 93 ∷ [])) ∙ ap (λ l. h.1 ++ l) (close-up w k.0 (hole k.1) k.2 93)))),
    )
fills hole n start (suc d) (suc j) is e (inr h) =
    let k = fills hole n start d j (omega (arith, is)) h.9.1 h.9.3 in
    let w = h.9.0 in
    let v = w ++ (k.0 ++ (hole k.1 ++ k.2)) in
    let a = h.3 ++ (h.4 ++ 58 ∷ v) in
    let ms = h.0 ++ (h.2, k.3) ∷ [] in
    let entry : Member (Encodes j) (h.2, k.3) a = (h.3, h.4, v, h.7, h.8, (w, k.0 ++ (hole k.1 ++ k.2), h.9.2, k.7, refl), refl) in
    let entries = before-map (Member (Encodes d)) (Member (Encodes j)) (member-map (Encodes d) (Encodes j) (encodes-within d j (omega (arith, is)))) h.0 h.1 h.6 in
    let all = listed-last (Member (Encodes j)) 125 (h.2, k.3) a entry h.0 h.1 entries in
    let last : h.5 ≡ (w ++ k.0) ++ k.1 ∷ [] = h.9.4 ∙ ap (λ l. w ++ l) k.4 ∙ sym (append_assoc w k.0 (k.1 ∷ [])) in
    let whole = apart h.1 h.3 h.4 (w ++ k.0) (hole k.1 ++ (k.2 ++ 125 ∷ [])) ∙ ap (λ l. h.1 ++ (h.3 ++ (h.4 ++ 58 ∷ l))) (close-up w k.0 (hole k.1) k.2 125) ∙ ap (λ l. h.1 ++ l) (sym (apart [] h.3 h.4 v (125 ∷ []))) in (
      123 ∷ (h.1 ++ (h.3 ++ (h.4 ++ 58 ∷ (w ++ k.0)))),
      k.1,
      k.2 ++ 125 ∷ [],
      object (put_together ms),
      h.10 ∙ ap (λ l. 123 ∷ (h.1 ++ (h.3 ++ (h.4 ++ 58 ∷ l)))) last ∙ ap (λ l. 123 ∷ l) (sym (apart h.1 h.3 h.4 (w ++ k.0) (k.1 ∷ []))),
      k.5,
      IsUtf8-append k.2 (125 ∷ []) k.6 brace,
      inr (inr (ms, put_together ms, h.1 ++ (a ++ 125 ∷ []), all, gathers ms, refl, ap (λ l. 123 ∷ l) whole)),
    )

text-fills : (hole : ℕ → List ℕ) (n : ℕ) → Start hole n → (d j : ℕ) → j ≡ d + n → (p : List ℕ) → AfterSpaces (Reaches d) p → Filled hole (IsText j) p
text-fills hole n start d j is p h =
    let k = fills hole n start d j is h.1 h.3 in
    let t = hole k.1 ++ k.2 in (
      h.0 ++ k.0,
      k.1,
      k.2,
      k.3,
      h.4 ∙ ap (λ l. h.0 ++ l) k.4 ∙ sym (append_assoc h.0 k.0 (k.1 ∷ [])),
      k.5,
      k.6,
      (h.0 ++ (k.0 ++ t), [], (h.0, k.0 ++ t, h.2, k.7, refl), tt, append_assoc h.0 k.0 t ∙ sym (append-nil (h.0 ++ (k.0 ++ t)))),
    )

-- null in place of the bracket
without : Start (λ x. []) zero
unfolding lib.Utf8.encode
without x is = (text_null, null, (text_null, (refl, refl)), inl (refl, refl))

-- the bracket, closed at once
within : Start (λ x. x ∷ []) (suc zero)
within x (inl e) = (93 ∷ [], array [], bracket, inr (inl ([], 93 ∷ [], ([], tt, refl), refl, ap (λ y. y ∷ 93 ∷ []) e)))
within x (inr e) = (125 ∷ [], object [], brace, inr (inr ([], [], 125 ∷ [], ([], tt, refl), gathers [], refl, ap (λ y. y ∷ 125 ∷ []) e)))

-- ---- a bracket too many

pub deep-too_many : (b : List ℕ) → IsDeep b → HoldsTooMany b
deep-too_many b h =
    let k = text-fills (λ x. x ∷ []) (suc zero) within 128 129 (omega arith) h.0 h.3 in
    let text = subst (IsText 129 k.3) (sym (append_assoc k.0 (k.1 ∷ []) k.2) ∙ ap (λ l. l ++ k.2) (sym k.4)) k.7 in
    (h.0, h.1, h.4, (k.2, k.3, (IsUtf8-append h.0 k.2 h.2 k.6, (129, text))), never)
  where
    never : (more : List ℕ) (v : Json) → IsJson v (h.0 ++ more) → ⊥
    never more v j = found-deep v [] (sym (text-complete 128 (h.0 ++ more) v j.1) ∙ text-deep 128 h.0 more h.3)

pub too_many-deep : (b : List ℕ) → HoldsTooMany b → IsDeep b
too_many-deep b h = at (text-answers h.3.2.1.0 128 (h.0 ++ h.3.0) h.3.1 h.3.2.1.1)
  where
    compared : (p r : List ℕ) → AfterSpaces (Reaches 128) p → h.0 ++ h.3.0 ≡ p ++ r → (t : Bool) → ltb (length h.0) (length p) ≡ t → IsDeep b
    compared p r l c true q =
        let lt = ltb-true (length h.0) (length p) q in
        let k = text-fills (λ x. []) zero without 128 128 (omega arith) p l in
        let cut = c ∙ ap (λ y. y ++ r) k.4 ∙ append_assoc k.0 (k.1 ∷ []) r in
        let s = split h.0 k.0 h.3.0 (k.1 ∷ r) cut (omega (arith, lt, ap length k.4, length-append k.0 (k.1 ∷ []))) in
        let u = before-utf8 k.0 r k.1 k.5 (subst IsUtf8 cut h.3.2.0) in
        let all : k.0 ++ k.2 ≡ h.0 ++ (s.0 ++ k.2) = ap (λ y. y ++ k.2) s.1 ∙ append_assoc h.0 s.0 k.2 in
        absurd (h.4 (s.0 ++ k.2) k.3 (subst IsUtf8 all (IsUtf8-append k.0 k.2 u k.6), subst (IsText 128 k.3) all k.7))
    compared p r l c false q =
        let s = split p h.0 r h.3.0 (sym c) (ltb-false (length h.0) (length p) q) in
        let u = prefix-utf8 p r (led-last (Reaches 128) p (reaches-last 128) l) (subst IsUtf8 c h.3.2.0) in
        (p, s.0 ++ h.1, u, l, h.2 ∙ ap (λ k. k ++ h.1) s.1 ∙ append_assoc p s.0 h.1)

    at : (text_at 128 (h.0 ++ h.3.0) ≡ found h.3.1 []) ⊎ (text_at 128 (h.0 ++ h.3.0) ≡ deep) → IsDeep b
    at (inl e) = absurd (h.4 h.3.0 h.3.1 (h.3.2.0, text-sound 128 (h.0 ++ h.3.0) [] h.3.1 e))
    at (inr e) = let w = text-why 128 (h.0 ++ h.3.0) e in compared w.0 w.1 w.2 w.3 (ltb (length h.0) (length w.0)) refl
