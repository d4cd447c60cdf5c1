-- Texts are written one after another, with the same bytes between each two.
use Rattle.std.proofs.Common.{◌≡◌, ℕ, List, [], ◌∷◌, ◌++◌, flat_map, refl, sym, ap, ◌∙◌, append_assoc}
use Rattle.cli_words.specs.Printed.{joined}

-- the texts that are left: this before the first of them, and what stands between each two before each of the others
abbrev pub led : List ℕ → List ℕ → List (List ℕ) → List ℕ
led between before [] = []
led between before (text ∷ texts) = before ++ (text ++ led between between texts)

others : (between : List ℕ) (texts : List (List ℕ)) → led between between texts ≡ flat_map (λ next. between ++ next) texts
others between [] = refl
others between (text ∷ texts) =
    ap (λ more. between ++ (text ++ more)) (others between texts) ∙ sym (append_assoc between text (flat_map (λ next. between ++ next) texts))

pub led_joined : (between : List ℕ) (texts : List (List ℕ)) → led between [] texts ≡ joined between texts
led_joined between [] = refl
led_joined between (text ∷ texts) = ap (λ more. text ++ more) (others between texts)
