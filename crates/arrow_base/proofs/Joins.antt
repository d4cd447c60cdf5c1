-- Texts are written one after another, with a comma between each two.
use Rattle.std.proofs.Common.{◌≡◌, ℕ, List, [], ◌∷◌, ◌++◌, flat_map, codes, refl, ap}
use Rattle.arrow_base.specs.Joined.{joined}

-- the texts that are left: this before the first of them, and a comma before each of the others
abbrev pub led : List ℕ → List (List ℕ) → List ℕ
led before [] = []
led before (text ∷ texts) = before ++ (text ++ led (codes ",") texts)

commas : (texts : List (List ℕ)) → led (codes ",") texts ≡ flat_map (λ next. codes "," ++ next) texts
commas [] = refl
commas (text ∷ texts) = ap (λ more. codes "," ++ (text ++ more)) (commas texts)

pub led_joined : (texts : List (List ℕ)) → led [] texts ≡ joined texts
led_joined [] = refl
led_joined (text ∷ texts) = ap (λ more. text ++ more) (commas texts)
