-- Texts one after another, as the parts of a JSON array or object stand.
use Rattle.std.specs.Prelude.{ℕ, List, [], ◌∷◌, ◌++◌, flat_map, codes}

-- with a comma between each two
abbrev pub joined : List (List ℕ) → List ℕ
joined [] = []
joined (text ∷ texts) = text ++ flat_map (λ next. codes "," ++ next) texts
