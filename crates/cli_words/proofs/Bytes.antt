-- Which bytes names and numbers hold, and texts cut at a byte that they don't hold.
use Rattle.std.proofs.Common.{◌≡◌, ◌≢◌, ℕ, zero, suc, ◌<◌, ◌≤◌, List, [], ◌∷◌, ◌++◌, length, get_or, take, drop, None, sym, ap, ◌∙◌, refl, arith, subst, Bool, true, false, ◌&&◌}
use Rattle.std.specs.Char.{digit_value}
use Rattle.std.specs.List.{list_all}
use Rattle.std.specs.Prelude.{IsTrue}
use Rattle.std.specs.Str.Parse.{AllDigits}
use Rattle.std.specs.Str.Pattern.{FindsChar, SplitsAroundMatch}
use Rattle.std.proofs.lemmas.List.{take-append-drop}
use Rattle.std.proofs.lemmas.Str.{encode_ascii}
use Rattle.std.proofs.lemmas.Str.Pattern.{NoCharPasses-char}
use Rattle.cli_words.specs.Names.{name_byte, IsSize}

abbrev IsNot : Bool → Type 0
IsNot true = ⊥
IsNot false = Unit {0}

pub false_true : false ≡ true → ⊥
false_true e = subst IsNot e tt

pub all_parts : (a b : Bool) → IsTrue (a && b) → IsTrue a × IsTrue b
all_parts true true h = (refl, refl)
all_parts true false h = absurd (false_true h)
all_parts false b h = absurd (false_true h)

-- no byte of the text is c
abbrev pub Lacks : ℕ → List ℕ → Type 0
Lacks c text = (i : ℕ) → i < length text → get_or text i 0 ≢ c

lacks_more : (c b : ℕ) (bs : List ℕ) → b ≢ c → Lacks c bs → Lacks c (b ∷ bs)
lacks_more c b bs unlike rest zero low = unlike
lacks_more c b bs unlike rest (suc i) low = rest i (omega (arith, low))

pub name_lacks : (c : ℕ) (name : List ℕ) → name_byte c ≡ false → IsTrue (list_all name_byte name) → Lacks c name
name_lacks c [] other h = λ i low. absurd (omega (arith, low))
name_lacks c (b ∷ bs) other h =
    let parts = all_parts (name_byte b) (list_all name_byte bs) h in
    lacks_more c b bs (λ e. false_true (sym other ∙ ap name_byte (sym e) ∙ parts.0)) (name_lacks c bs other parts.1)

pub digits_lack : (c : ℕ) (digits : List ℕ) → 10 ≤ digit_value c → AllDigits 10 digits → Lacks c digits
digits_lack c [] other h = λ i low. absurd (omega (arith, low))
digits_lack c (b ∷ bs) other h =
    lacks_more c b bs (λ e. let same : digit_value b ≡ digit_value c = ap digit_value e in omega (arith, h.0, other, same)) (digits_lack c bs other h.1)

-- a comma ends what is before it
pub size_lacks : (digits : List ℕ) (size : ℕ) → IsSize digits size → Lacks 44 digits
size_lacks digits size h = digits_lack 44 digits (omega arith) h.0.1

-- a text holds the byte at which it is cut
pub holds : (c : ℕ) (prefix back : List ℕ) → Lacks c (prefix ++ (c ∷ back)) → ⊥
holds c [] back lacks = lacks 0 (omega arith) refl
holds c (b ∷ bs) back lacks = holds c bs back (λ i low. lacks (suc i) (omega (arith, low)))

unfoldable pub head_or : ℕ → List ℕ → ℕ
head_or d [] = d
head_or d (x ∷ xs) = x

-- two texts cut at the same byte, which isn't in either prefix
pub one_cut : (c : ℕ) (prefix other back more : List ℕ) → Lacks c prefix → Lacks c other → prefix ++ (c ∷ back) ≡ other ++ (c ∷ more) → (prefix ≡ other) × (back ≡ more)
unfolding head_or
one_cut c [] [] back more p q e = (refl, ap (drop 1) e)
one_cut c [] (y ∷ ys) back more p q e = absurd (q 0 (omega arith) (sym (ap (head_or 0) e)))
one_cut c (x ∷ xs) [] back more p q e = absurd (p 0 (omega arith) (ap (head_or 0) e))
one_cut c (x ∷ xs) (y ∷ ys) back more p q e =
    let rest = one_cut c xs ys back more (λ i low. p (suc i) (omega (arith, low))) (λ i low. q (suc i) (omega (arith, low))) (ap (drop 1) e) in
    let first : x ≡ y = ap (head_or 0) e in
    ((λ i. first i ∷ rest.0 i), rest.1)

-- ---- `split_once` at an ASCII character

pub none_lacks : (c : ℕ) (word : List ℕ) → c < 128 → FindsChar c word None → Lacks c word
none_lacks c word low none = λ i in_word. NoCharPasses-char c word i none low in_word

pub split_is : (c : ℕ) (word prefix back : List ℕ) → c < 128 → SplitsAroundMatch (FindsChar c) word prefix back → word ≡ prefix ++ (c ∷ back)
split_is c word prefix back ascii (i, j, (before, at), p, q, low, prefix_len, back_len) =
    let ending : drop i word ≡ c ∷ back = at.split ∙ ap (λ z. z ++ drop j word) (encode_ascii c ascii) ∙ ap (λ z. c ∷ z) (sym q) in
    sym (take-append-drop i word) ∙ ap (λ z. take i word ++ z) ending ∙ ap (λ z. z ++ (c ∷ back)) (sym p)

pub split_lacks : (c : ℕ) (word prefix back : List ℕ) → c < 128 → SplitsAroundMatch (FindsChar c) word prefix back → Lacks c prefix
split_lacks c word prefix back ascii (i, j, (before, at), p, q, low, prefix_len, back_len) =
    subst (Lacks c) (sym p) (λ k in_prefix. NoCharPasses-char c (take i word) k before ascii in_prefix)
