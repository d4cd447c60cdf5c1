-- What stands among the members of a union or the fields of a record, as code looks for it. Cited by private contracts alone; nothing here has to
-- be read to believe a public contract.
use Rattle.std.specs.Prelude.{List, [], ◌∷◌, ◌⊎◌}

-- P holds of an element
abbrev pub AnyOf : {X : Type 0} → (X → Type 0) → List X → Type 0
AnyOf P [] = ⊥
AnyOf P (x ∷ xs) = P x ⊎ AnyOf P xs
