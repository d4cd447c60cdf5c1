-- A string compared with a text as it is read.
use Rattle.std.proofs.Common.{◌≡◌, ◌≢◌, ℕ, zero, suc, Bool, true, false, cond, eqb, List, [], ◌∷◌, ◌++◌, length, refl, sym, ap, ◌∙◌, append_assoc, arith}
use Rattle.std.proofs.lemmas.List.{append-nil, length-append}
use Rattle.std.proofs.lemmas.Slice.Eq.{bytes_eq-Decides}
use Rattle.std.specs.Str.{bytes_eq}
use Rattle.json_tree.specs.Reading.{Outcome, found, wrong, bind, char_at, chars_at, string_at}
use Rattle.json_tree.proofs.ListLaws.{bind_found, found_parts, wrong-found}
use Rattle.json_tree.proofs.CharTurns.{Turn}
use Rattle.json_tree.proofs.Turns.{ne-eqb}

-- what was read before stays as a prefix
chars-behind : (n : ℕ) (old b s r : List ℕ) → chars_at n old b ≡ found s r → (t : List ℕ) × (s ≡ old ++ t)
unfolding chars_at
chars-behind zero old b s r e = absurd (wrong-found s r e)
chars-behind (suc n) old [] s r e = absurd (wrong-found s r e)
chars-behind (suc n) old (x ∷ b) s r e = tested (λ o q k. chars-behind n o q s r k) (eqb x 34) e
  where
    tested : ((o q : List ℕ) → chars_at n o q ≡ found s r → (t : List ℕ) × (s ≡ o ++ t)) → (u : Bool) → cond u (found old b) (bind (char_at (x ∷ b)) (λ c q. chars_at n (old ++ c) q)) ≡ found s r → (t : List ℕ) × (s ≡ old ++ t)
    tested again true e = ([], sym (found_parts old s b r e).0 ∙ sym (append-nil old))
    tested again false e =
        let k = bind_found (char_at (x ∷ b)) (λ c q. chars_at n (old ++ c) q) s r e in
        let h = again (old ++ k.0) k.1 k.3 in
        (k.0 ++ h.0, h.1 ∙ append_assoc old k.0 h.0)

append-left : (a b c : List ℕ) → a ++ b ≡ a ++ c → b ≡ c
append-left [] b c e = e
append-left (x ∷ a) b c e = append-left a b c (ap tail e)
  where
    tail : List ℕ → List ℕ
    tail [] = []
    tail (x ∷ xs) = xs

differ : (s t : List ℕ) → (s ≡ t → ⊥) → false ≡ bytes_eq s t
differ s t h = at (bytes_eq s t) refl
  where
    at : (u : Bool) → bytes_eq s t ≡ u → false ≡ u
    at true e = absurd (h ((bytes_eq-Decides s t).0 e))
    at false e = refl

-- nothing is found, so nothing is said
pub nothing : (t : Bool) (o : Outcome (List ℕ)) (s r text : List ℕ) → o ≡ wrong → o ≡ found s r → t ≡ bytes_eq s text
nothing t o s r text w e = absurd (wrong-found s r (sym w ∙ e))

-- the text doesn't go on as the string does
pub unlike : (n : ℕ) (old piece r b s q text left : List ℕ) → Turn n (old ++ piece) r b → string_at b ≡ found s q → text ≡ old ++ left → ((rest : List ℕ) → left ≢ piece ++ rest) → false ≡ bytes_eq s text
unlike n old piece r b s q text left t e l h = differ s text same
  where
    same : s ≡ text → ⊥
    same p =
        let k = chars-behind (suc n) (old ++ piece) r s q (t ∙ e) in
        h k.0 (append-left old left (piece ++ k.0) (sym l ∙ sym p ∙ k.1 ∙ append_assoc old piece k.0))

-- the string ends, and the text too or not
pub ends-alike : (whole b s q r text left : List ℕ) (t : Bool) → string_at b ≡ found whole r → string_at b ≡ found s q → text ≡ whole ++ left → t ≡ eqb (length left) 0 → t ≡ bytes_eq s text
ends-alike whole b s q r text left t w e l h = at left refl
  where
    is : whole ≡ s
    is = (found_parts whole s r q (sym w ∙ e)).0

    at : (m : List ℕ) → left ≡ m → t ≡ bytes_eq s text
    at [] p =
        let alike : s ≡ text = sym is ∙ sym (l ∙ ap (λ k. whole ++ k) p ∙ append-nil whole) in
        h ∙ ap (λ k. eqb (length k) 0) p ∙ sym ((bytes_eq-Decides s text).1 alike)
    at (x ∷ m) p =
        let apart : s ≡ text → ⊥ = λ k. absurd (omega (arith, ap length is, ap length k, ap length l, length-append whole left, ap length p)) in
        let full : eqb (length left) 0 ≡ false = ne-eqb (length left) 0 (λ k. absurd (omega (arith, k, ap length p))) in
        h ∙ (full ∙ differ s text apart)
