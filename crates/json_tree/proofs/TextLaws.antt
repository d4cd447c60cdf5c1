-- Whole texts.
use Rattle.std.proofs.Common.{◌≡◌, ◌⊎◌, inl, inr, ℕ, zero, suc, ◌<◌, ◌≤◌, ◌+◌, true, List, [], ◌∷◌, ◌++◌, length, take, drop, get_or, refl, sym, ap, ◌∙◌, subst, append_assoc, arith}
use Rattle.std.proofs.lemmas.List.{append-nil, length-append, take_at}
use Rattle.std.proofs.lemmas.Str.{IsCharBoundary-after_ascii, IsCharBoundary-before_ascii, IsUtf8-take}
use Rattle.std.specs.Str.{IsUtf8}
use Rattle.json_tree.specs.Tree.{Json, string}
use Rattle.json_tree.specs.Grammar.{Spaces, AfterSpaces, Encodes, IsText}
use Rattle.json_tree.proofs.Reaching.{Reaches}
use Rattle.json_tree.specs.Reading.{Outcome, found, wrong, deep, bind, skip, led, value_at, if_end, text_at}
use Rattle.json_tree.specs.Meaning.{IsJson, IsJsonText}
use Rattle.arrow_base.specs.JsonString.{JsonString}
use Rattle.json_tree.proofs.Reaching.{IsDeep}
use Rattle.json_tree.proofs.ListLaws.{Answers, found_parts, wrong-found, bind_found, bind_deep, wrong-deep, found-deep, skip-cut, skip-spaces}
use Rattle.json_tree.proofs.Scalars.{ends, space-ends}
use Rattle.json_tree.proofs.ValueLaws.{encodes-starts, led-sound, led-complete, led-skip, value-sound, value-complete}
use Rattle.json_tree.proofs.InTexts.{get_at}
use Rattle.json_tree.proofs.Deep.{led-why, reaches-starts, value-why, value-deep}

end-found : (x y : Json) (s r : List ℕ) → if_end x s ≡ found y r → (s ≡ []) × (x ≡ y) × (r ≡ [])
end-found x y [] r e = let p = found_parts x y [] r e in (refl, p.0, sym p.1)
end-found x y (z ∷ s) r e = absurd (wrong-found y r e)

pub end-deep : (x : Json) (s : List ℕ) → if_end x s ≡ deep → ⊥
end-deep x [] e = found-deep x [] e
end-deep x (z ∷ s) e = wrong-deep e

pub text-sound : (d : ℕ) (b r : List ℕ) (x : Json) → text_at d b ≡ found x r → IsText d x b
unfolding text_at
text-sound d b r x e =
    let k = bind_found (led (value_at d) b) (λ x r. if_end x (skip r)) x r e in
    let v = led-sound (value_at d) (Encodes d) (value-sound d) b k.1 k.0 k.2 in
    let f = end-found k.0 x (skip k.1) r k.3 in
    let w = skip-cut k.1 in
    (v.0, w.0, subst (λ y. AfterSpaces (Encodes d y) v.0) f.1 v.1, w.1, v.2 ∙ ap (λ l. v.0 ++ l) (w.2 ∙ ap (λ l. w.0 ++ l) f.0 ∙ append-nil w.0))

pub ends-spaces : (w : List ℕ) → Spaces w → ends w ≡ true
unfolding ends
ends-spaces [] h = refl
ends-spaces (x ∷ w) h = space-ends x w h.0

pub skip-all : (w : List ℕ) → Spaces w → skip w ≡ []
unfolding skip
skip-all w h = ap skip (sym (append-nil w)) ∙ skip-spaces w [] h

sure : {A : Type 0} (o : Outcome A) (x : A) (r : List ℕ) → Answers ⊥ o x r → o ≡ found x r
sure o x r (inl e) = e
sure o x r (inr e) = absurd e.0

pub text-within : (n d : ℕ) (b : List ℕ) (x : Json) → n ≤ d → IsText n x b → text_at d b ≡ found x []
unfolding text_at
text-within n d b x le h =
    let v = led-complete ⊥ (value_at d) (Encodes n) (encodes-starts n) (value-complete ⊥ n d (λ l. omega (arith, l, le))) h.0 h.1 x h.2 (ends-spaces h.1 h.3) in
    let q = sure (led (value_at d) (h.0 ++ h.1)) x h.1 v in
    rw (h.4, q, skip-all h.1 h.3) refl

pub text-complete : (d : ℕ) (b : List ℕ) (x : Json) → IsText d x b → text_at d b ≡ found x []
text-complete d b x h = text-within d d b x (omega arith) h

-- a text of any depth is read, or is too deep
pub text-answers : (n d : ℕ) (b : List ℕ) (x : Json) → IsText n x b → (text_at d b ≡ found x []) ⊎ (text_at d b ≡ deep)
unfolding text_at
text-answers n d b x h =
    at (led-complete (Unit {0}) (value_at d) (Encodes n) (encodes-starts n) (value-complete (Unit {0}) n d (λ l. tt)) h.0 h.1 x h.2 (ends-spaces h.1 h.3))
  where
    at : Answers (Unit {0}) (led (value_at d) (h.0 ++ h.1)) x h.1 → (bind (led (value_at d) b) (λ x r. if_end x (skip r)) ≡ found x []) ⊎ (bind (led (value_at d) b) (λ x r. if_end x (skip r)) ≡ deep)
    at (inl e) = inl (rw (h.4, e, skip-all h.1 h.3) refl)
    at (inr e) = inr (rw (h.4, e.1) refl)

pub text-why : (d : ℕ) (b : List ℕ) → text_at d b ≡ deep → (p : List ℕ) × (r : List ℕ) × AfterSpaces (Reaches d) p × (b ≡ p ++ r)
unfolding text_at
text-why d b e = at (bind_deep (led (value_at d) b) (λ x r. if_end x (skip r)) e)
  where
    at : (led (value_at d) b ≡ deep) ⊎ ((x : Json) × (r : List ℕ) × (led (value_at d) b ≡ found x r) × (if_end x (skip r) ≡ deep)) → (p : List ℕ) × (r : List ℕ) × AfterSpaces (Reaches d) p × (b ≡ p ++ r)
    at (inl k) = led-why (value_at d) (Reaches d) (value-why d) b k
    at (inr k) = absurd (end-deep k.0 (skip k.1) k.3)

pub text-deep : (d : ℕ) (p r : List ℕ) → AfterSpaces (Reaches d) p → text_at d (p ++ r) ≡ deep
unfolding text_at
text-deep d p r h =
    let q = ap (value_at d) (led-skip (Reaches d) (reaches-starts d) p r h) ∙ value-deep d h.1 r h.3 in
    rw q refl

-- ---- the last byte is a bracket

abbrev pub Last : List ℕ → Type 0
Last p = (q : List ℕ) × (x : ℕ) × (x < 128) × (p ≡ q ++ x ∷ [])

prefix-last : (a p : List ℕ) → Last p → Last (a ++ p)
prefix-last a p h = (a ++ h.0, h.1, h.2, ap (λ l. a ++ l) h.3 ∙ sym (append_assoc a h.0 (h.1 ∷ [])))

pub led-last : (P : List ℕ → Type 0) (p : List ℕ) → ((q : List ℕ) → P q → Last q) → AfterSpaces P p → Last p
led-last P p f h = subst Last (sym h.4) (prefix-last h.0 h.1 (f h.1 h.3))

pub reaches-last : (d : ℕ) (p : List ℕ) → Reaches d p → Last p
reaches-last zero p (inl h) = ([], 91, omega arith, h)
reaches-last zero p (inr h) = ([], 123, omega arith, h)
reaches-last (suc d) p (inl h) = subst Last (sym h.5) (prefix-last (91 ∷ h.1) h.2 (led-last (Reaches d) h.2 (reaches-last d) h.4))
reaches-last (suc d) p (inr h) =
    let k = led-last (Reaches d) h.5 (reaches-last d) h.9 in
    subst Last (sym h.10) (prefix-last (123 ∷ h.1) _ (prefix-last h.3 _ (prefix-last h.4 _ (prefix-last (58 ∷ []) h.5 k))))

-- in a text the prefix up to a bracket is a text
pub prefix-utf8 : (p r : List ℕ) → Last p → IsUtf8 (p ++ r) → IsUtf8 p
prefix-utf8 p r l u =
    let apart : p ++ r ≡ l.0 ++ (l.1 ∷ r) = ap (λ k. k ++ r) l.3 ∙ append_assoc l.0 (l.1 ∷ []) r in
    let at : get_or (p ++ r) (length l.0) 0 ≡ l.1 = ap (λ k. get_or k (length l.0) 0) apart ∙ get_at l.0 r l.1 in
    let n : length p ≡ length l.0 + 1 = omega (arith, ap length l.3, length-append l.0 (l.1 ∷ [])) in
    let b = IsCharBoundary-after_ascii (p ++ r) (length l.0) u (omega (arith, n, length-append p r)) (omega (arith, at, l.2)) in
    let t : take (length l.0 + 1) (p ++ r) ≡ p = ap (λ k. take k (p ++ r)) (sym n) ∙ take_at p r (length p) refl in
    subst IsUtf8 t (IsUtf8-take (p ++ r) (length l.0 + 1) u b)

-- so is the prefix up to before an ASCII byte
pub before-utf8 : (q r : List ℕ) (x : ℕ) → x < 128 → IsUtf8 (q ++ x ∷ r) → IsUtf8 q
before-utf8 q r x l u =
    let b = IsCharBoundary-before_ascii (q ++ x ∷ r) (length q) (omega (arith, length-append q (x ∷ r))) (omega (arith, get_at q r x, l)) in
    subst IsUtf8 (take_at q (x ∷ r) (length q) refl) (IsUtf8-take (q ++ x ∷ r) (length q) u b)

-- ---- the answers

pub json-found : (b r : List ℕ) (x : Json) → IsUtf8 b → text_at 128 b ≡ found x r → IsJson x b
json-found b r x u e = (u, text-sound 128 b r x e)

pub deep-why : (b more : List ℕ) → IsUtf8 b → text_at 128 b ≡ deep → IsDeep (b ++ more)
deep-why b more u e =
    let w = text-why 128 b e in
    let f = prefix-utf8 w.0 w.1 (led-last (Reaches 128) w.0 (reaches-last 128) w.2) (subst IsUtf8 w.3 u) in
    (w.0, w.1 ++ more, f, w.2, ap (λ l. l ++ more) w.3 ∙ append_assoc w.0 w.1 more)

pub split : (p f r m : List ℕ) → p ++ r ≡ f ++ m → length p ≤ length f → (t : List ℕ) × (f ≡ p ++ t)
split [] f r m e l = (f, refl)
split (x ∷ p) [] r m e l = absurd (omega (arith, l))
split (x ∷ p) (y ∷ f) r m e l =
    let t = split p f r m (ap (drop 1) e) (omega (arith, l)) in
    let xy : x ≡ y = ap (λ k. get_or k 0 0) e in
    (t.0, ap (λ k. y ∷ k) t.1 ∙ ap (λ z. z ∷ (p ++ t.0)) (sym xy))

-- deep bytes are deep in the longest prefix that is UTF-8
pub deep-there : (b prefix more : List ℕ) → b ≡ prefix ++ more → ((p r : List ℕ) → IsUtf8 p → b ≡ p ++ r → length p ≤ length prefix) → IsDeep b → text_at 128 prefix ≡ deep
deep-there b prefix more cut longest h =
    let l = longest h.0 h.1 h.2 h.4 in
    let s = split h.0 prefix h.1 more (sym h.4 ∙ cut) l in
    ap (text_at 128) s.1 ∙ text-deep 128 h.0 s.0 h.3

-- a text stands for one value
pub one_value : (b : List ℕ) (x y : Json) → IsJsonText x b → IsJsonText y b → x ≡ y
one_value b x y h k =
    let n = h.1.0 in
    let m = k.1.0 in
    (found_parts x y [] [] (sym (text-within n (n + m) b x (omega arith) h.1.1) ∙ text-within m (n + m) b y (omega arith) k.1.1)).0

pub not_wrong : (b : List ℕ) (x : Json) → IsJsonText x b → text_at 128 b ≡ wrong → ⊥
not_wrong b x h k = at (text-answers h.1.0 128 b x h.1.1)
  where
    at : (text_at 128 b ≡ found x []) ⊎ (text_at 128 b ≡ deep) → ⊥
    at (inl e) = wrong-found x [] (sym k ∙ e)
    at (inr e) = wrong-deep (sym k ∙ e)

-- the JSON string of a text is a JSON text
pub string-text : (text bytes : List ℕ) → JsonString bytes text → IsJsonText (string text) bytes
string-text text bytes h =
    (h.utf8, (0, (bytes, [], ([], bytes, tt, inr (inr (inr (inl (text, h.string, refl)))), refl), tt, sym (append-nil bytes))))
