-- Symbols with commas between them, one after another.
use Rattle.std.proofs.Common.{◌≡◌, ℕ, suc, ◌+◌, ◌<◌, List, [], ◌∷◌, ◌++◌, length, length-append, get_or, drop, sym, ap, ◌∙◌, refl, arith, subst, append_assoc}
use Rattle.std.specs.Str.{IsUtf8}
use Rattle.std.proofs.lemmas.Str.{IsUtf8-drop, IsCharBoundary-after_ascii}
use Rattle.cli_words.specs.Names.{IsName}
use Rattle.cli_words.specs.Types.{AreSymbols}
use Rattle.cli_words.proofs.Bytes.{Lacks, name_lacks, holds, one_cut}

pub name_has_no_comma : (name : List ℕ) → IsName name → Lacks 44 name
name_has_no_comma name h = name_lacks 44 name refl h.1

-- a symbol before more of them
pub symbol_first : (text symbol back : List ℕ) (more : List (List ℕ)) → text ≡ symbol ++ (44 ∷ back) → IsName symbol → AreSymbols back more → AreSymbols text (symbol ∷ more)
symbol_first text symbol back [] at name h = absurd h
symbol_first text symbol back (m ∷ ms) at name h = (back, name, at, h)

-- where a symbol ends at a comma, symbols follow it
pub symbol_rest : (text symbol back : List ℕ) (all : List (List ℕ)) → text ≡ symbol ++ (44 ∷ back) → Lacks 44 symbol → AreSymbols text all → IsName symbol × ((more : List (List ℕ)) × AreSymbols back more)
symbol_rest text symbol back [] at lacks h = absurd h
symbol_rest text symbol back (s ∷ []) at lacks h = absurd (holds 44 symbol back (subst (Lacks 44) (sym h.1 ∙ at) (name_has_no_comma s h.0)))
symbol_rest text symbol back (s ∷ t ∷ ts) at lacks (rest, name, is, h) =
    let same = one_cut 44 symbol s back rest lacks (name_has_no_comma s name) (sym at ∙ is) in
    (subst IsName (sym same.0) name, (t ∷ ts, subst (λ z. AreSymbols z (t ∷ ts)) (sym same.1) h))

-- without a comma there is one symbol
pub last_symbol : (text : List ℕ) (all : List (List ℕ)) → Lacks 44 text → AreSymbols text all → IsName text
last_symbol text [] lacks h = absurd h
last_symbol text (s ∷ []) lacks h = subst IsName (sym h.1) h.0
last_symbol text (s ∷ t ∷ ts) lacks (rest, name, is, h) = absurd (holds 44 s rest (subst (Lacks 44) is lacks))

-- ---- the loop's turns

pub sound_more : (inside rest symbol back : List ℕ) (so_far : List (List ℕ)) → rest ≡ symbol ++ (44 ∷ back) → IsName symbol
    → ((more : List (List ℕ)) → AreSymbols rest more → AreSymbols inside (so_far ++ more))
    → (more : List (List ℕ)) → AreSymbols back more → AreSymbols inside ((so_far ++ (symbol ∷ [])) ++ more)
sound_more inside rest symbol back so_far at name sound more h =
    subst (AreSymbols inside) (sym (append_assoc so_far (symbol ∷ []) more)) (sound (symbol ∷ more) (symbol_first rest symbol back more at name h))

pub complete_more : (inside rest symbol back : List ℕ) → rest ≡ symbol ++ (44 ∷ back) → Lacks 44 symbol
    → ((all : List (List ℕ)) → AreSymbols inside all → (more : List (List ℕ)) × AreSymbols rest more)
    → (all : List (List ℕ)) → AreSymbols inside all → (more : List (List ℕ)) × AreSymbols back more
complete_more inside rest symbol back at lacks complete all h = let one = complete all h in (symbol_rest rest symbol back one.0 at lacks one.1).1

pub no_symbol : (inside rest symbol back : List ℕ) → rest ≡ symbol ++ (44 ∷ back) → Lacks 44 symbol
    → ((all : List (List ℕ)) → AreSymbols inside all → (more : List (List ℕ)) × AreSymbols rest more) → (IsName symbol → ⊥)
    → (all : List (List ℕ)) → AreSymbols inside all → ⊥
no_symbol inside rest symbol back at lacks complete none all h = let one = complete all h in none (symbol_rest rest symbol back one.0 at lacks one.1).0

pub no_last_symbol : (inside rest : List ℕ) → Lacks 44 rest
    → ((all : List (List ℕ)) → AreSymbols inside all → (more : List (List ℕ)) × AreSymbols rest more) → (IsName rest → ⊥)
    → (all : List (List ℕ)) → AreSymbols inside all → ⊥
no_last_symbol inside rest lacks complete none all h = let one = complete all h in none (last_symbol rest one.0 lacks one.1)

-- ---- what follows a comma or a semicolon is text

at_byte : (c : ℕ) (xs ys : List ℕ) → get_or (xs ++ (c ∷ ys)) (length xs) 0 ≡ c
at_byte c [] ys = refl
at_byte c (x ∷ xs) ys = at_byte c xs ys

after_byte : (c : ℕ) (xs ys : List ℕ) → drop (suc (length xs)) (xs ++ (c ∷ ys)) ≡ ys
after_byte c [] ys = refl
after_byte c (x ∷ xs) ys = after_byte c xs ys

behind_is_text : (c : ℕ) (rest symbol back : List ℕ) → c < 128 → rest ≡ symbol ++ (c ∷ back) → IsUtf8 rest → IsUtf8 back
behind_is_text c rest symbol back ascii at text =
    let whole : IsUtf8 (symbol ++ (c ∷ back)) = subst IsUtf8 at text in
    let low : length symbol < length (symbol ++ (c ∷ back)) = omega (arith, length-append symbol (c ∷ back)) in
    let low_byte : get_or (symbol ++ (c ∷ back)) (length symbol) 0 < 128 = omega (arith, ascii, at_byte c symbol back) in
    let cut = IsUtf8-drop (symbol ++ (c ∷ back)) (length symbol + 1) whole (IsCharBoundary-after_ascii (symbol ++ (c ∷ back)) (length symbol) whole low low_byte) in
    let more : length symbol + 1 ≡ suc (length symbol) = omega arith in
    subst IsUtf8 (ap (λ n. drop n (symbol ++ (c ∷ back))) more ∙ after_byte c symbol back) cut

pub rest_is_text : (rest symbol back : List ℕ) → rest ≡ symbol ++ (44 ∷ back) → IsUtf8 rest → IsUtf8 back
rest_is_text rest symbol back = behind_is_text 44 rest symbol back (omega arith)

pub after_semicolon_is_text : (rest field back : List ℕ) → rest ≡ field ++ (59 ∷ back) → IsUtf8 rest → IsUtf8 back
after_semicolon_is_text rest field back = behind_is_text 59 rest field back (omega arith)
