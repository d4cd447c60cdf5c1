-- The turns of a loop over the characters of a string.
use Rattle.std.proofs.Common.{◌≡◌, ◌≢◌, ℕ, zero, suc, ◌≤◌, Bool, true, false, eqb, List, [], ◌∷◌, ◌++◌, length, refl, sym, ap, ◌∙◌, subst, arith}
use Rattle.std.proofs.Common.{not, append_assoc}
use Rattle.std.proofs.lemmas.List.{append-nil}
use Rattle.std.proofs.lemmas.Bool.{and_parts}
use Rattle.json_tree.specs.Tree.{Json, string}
use Rattle.json_tree.specs.Grammar.{Each}
use Rattle.arrow_base.specs.JsonString.{is_unescaped}
use Rattle.json_tree.specs.Reading.{Outcome, found, wrong, bind, First, escape_at, char_at, chars_at, string_at}
use Rattle.json_tree.specs.Gives.{Fails, Gives}
use Rattle.json_tree.specs.declared.value.JsonFault.{JsonFault}
use Rattle.json_tree.specs.declared.value.JsonFault.TheVariants.{Memory}
use Rattle.std.specs.Prelude.{Result, Ok, Err, MatchResult}
use Rattle.json_tree.proofs.Turns.{ne-eqb, fails-bind, fails-same}

pub string-open : (b t : List ℕ) → b ≡ 34 ∷ t → chars_at (suc (length t)) [] t ≡ string_at b
unfolding string_at
string-open b t e = rw e refl

pub string-bad : (b : List ℕ) → First (λ x t. x ≢ 34) b → string_at b ≡ wrong
unfolding string_at
string-bad [] h = refl
string-bad (x ∷ t) h = rw (ne-eqb x 34 h) refl

pub chars-end : (n : ℕ) (old r s : List ℕ) → r ≡ 34 ∷ s → chars_at (suc n) old r ≡ found old s
unfolding chars_at
chars-end n old r s e = rw e refl

pub chars-none : (n : ℕ) (old r : List ℕ) → r ≡ [] → chars_at (suc n) old r ≡ wrong
unfolding chars_at
chars-none n old r e = rw e refl

abbrev pub Turn : ℕ → List ℕ → List ℕ → List ℕ → Type 0
Turn n old r b = chars_at (suc n) old r ≡ string_at b

pub chars-escape : (n : ℕ) (old new c r s q b : List ℕ) → Turn n old r b → length r ≤ n → r ≡ 92 ∷ s → escape_at s ≡ found c q → length q ≤ length s → new ≡ old ++ c → (m : ℕ) × (length q ≤ m) × Turn m new q b
unfolding chars_at char_at is_unescaped
chars-escape zero old new c r s q b t l e h k a = absurd (omega (arith, l, ap length e))
chars-escape (suc n) old new c r s q b t l e h k a =
    let one : chars_at (suc (suc n)) old r ≡ chars_at (suc n) (old ++ c) q = rw (e, h) refl in
    (n, omega (arith, l, k, ap length e), ap (λ o. chars_at (suc n) o q) a ∙ sym one ∙ t)

pub escape-err : (f : JsonFault) (n : ℕ) (old r s b : List ℕ) → Turn n old r b → r ≡ 92 ∷ s → Fails f (escape_at s) → Fails f (string_at b)
unfolding chars_at char_at is_unescaped
escape-err f n old r s b t e h =
    let one : chars_at (suc n) old r ≡ bind (escape_at s) (λ c q. chars_at n (old ++ c) q) = rw e refl in
    fails-same f (bind (escape_at s) (λ c q. chars_at n (old ++ c) q)) (string_at b) (sym one ∙ t) (fails-bind f (escape_at s) (λ c q. chars_at n (old ++ c) q) h)

-- ---- plain bytes, a run at a time

not-false : (b : Bool) → not b ≡ true → b ≡ false
not-false true e = sym e
not-false false e = refl

plain-quote : (x : ℕ) → is_unescaped x ≡ true → eqb x 34 ≡ false
unfolding is_unescaped
plain-quote x h = not-false (eqb x 34) (and_parts _ _ (and_parts _ _ h).1).0

plain-turn : (n x : ℕ) (old r s b : List ℕ) → Turn n old r b → length r ≤ n → r ≡ x ∷ s → is_unescaped x ≡ true → (m : ℕ) × (length s ≤ m) × Turn m (old ++ x ∷ []) s b
unfolding chars_at char_at
plain-turn zero x old r s b t l e p = absurd (omega (arith, l, ap length e))
plain-turn (suc n) x old r s b t l e p =
    let one : chars_at (suc (suc n)) old r ≡ chars_at (suc n) (old ++ x ∷ []) s = rw (e, plain-quote x p, p) refl in
    (n, omega (arith, l, ap length e), sym one ∙ t)

pub chars-run : (run q : List ℕ) (n : ℕ) (old new r b : List ℕ) → Turn n old r b → length r ≤ n → r ≡ run ++ q → Each is_unescaped run → new ≡ old ++ run → (m : ℕ) × (length q ≤ m) × Turn m new q b
chars-run [] q n old new r b t l e p a =
    (n, omega (arith, l, ap length e), ap (λ o. chars_at (suc n) o q) (a ∙ append-nil old) ∙ ap (chars_at (suc n) old) (sym e) ∙ t)
chars-run (x ∷ run) q n old new r b t l e p a =
    let one = plain-turn n x old r (run ++ q) b t l e p.0 in
    chars-run run q one.0 (old ++ x ∷ []) new (run ++ q) b one.2 one.1 refl p.1 (a ∙ sym (append_assoc old (x ∷ []) run))

-- neither plain nor a quote nor a backslash
pub chars-stop : (n x : ℕ) (old r s : List ℕ) → r ≡ x ∷ s → is_unescaped x ≡ false → x ≢ 34 → x ≢ 92 → chars_at (suc n) old r ≡ wrong
unfolding chars_at char_at
chars-stop n x old r s e p a b = rw (e, ne-eqb x 34 a, p, ne-eqb x 92 b) refl

pub chars-bad : (n : ℕ) (old r : List ℕ) → First (λ x t. is_unescaped x ≡ false) r → First (λ x t. x ≢ 34) r → First (λ x t. x ≢ 92) r → chars_at (suc n) old r ≡ wrong
chars-bad n old [] p a b = chars-none n old [] refl
chars-bad n old (x ∷ s) p a b = chars-stop n x old (x ∷ s) s refl p a b

-- the text that was read, where there is memory for it
pub closed : (res : Result (List ℕ) JsonFault) (whole r : List ℕ) (o : Outcome (List ℕ)) → o ≡ found whole r → MatchResult res (λ t. t ≡ whole) (λ e. e ≡ Memory) → Gives (λ v. v) res r o
closed (Ok x) whole r o e h = e ∙ ap (λ w. found w r) (sym h)
closed (Err f) whole r o e h = subst (λ k. Fails k o) (sym h) tt

-- a string without escapes
pub plain-string : (b run r : List ℕ) → Each is_unescaped run → b ≡ 34 ∷ (run ++ 34 ∷ r) → string_at b ≡ found run r
plain-string b run r p e =
    let t = chars-run run (34 ∷ r) (length (run ++ 34 ∷ r)) [] run (run ++ 34 ∷ r) b (string-open b (run ++ 34 ∷ r) e) (omega arith) refl p refl in
    sym t.2 ∙ chars-end t.0 run (34 ∷ r) r refl

pub plain-gives : (res : Result (List ℕ) JsonFault) (b run r : List ℕ) → Each is_unescaped run × (b ≡ 34 ∷ (run ++ 34 ∷ r)) → MatchResult res (λ t. t ≡ run) (λ e. e ≡ Memory) → Gives (λ v. v) res r (string_at b)
plain-gives res b run r f h = closed res run r (string_at b) (plain-string b run r f.0 f.1) h

pub plain-value : (res : Result Unit JsonFault) (v : Json) (b run r : List ℕ) → Each is_unescaped run × (b ≡ 34 ∷ (run ++ 34 ∷ r)) → MatchResult res (λ x. v ≡ string run) (λ e. e ≡ Memory) → Gives (λ x. v) res r (bind (string_at b) (λ s q. found (string s) q))
plain-value (Ok x) v b run r f h = ap (λ o. bind o (λ s q. found (string s) q)) (plain-string b run r f.0 f.1) ∙ ap (λ w. found w r) (sym h)
plain-value (Err e) v b run r f h = subst (λ k. Fails k (bind (string_at b) (λ s q. found (string s) q))) (sym h) tt
