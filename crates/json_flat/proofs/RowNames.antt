-- The names of the fields in a type are those of the fields that code sees.
use Rattle.std.proofs.Common.{◌≡◌, ℕ, List, [], ◌∷◌, refl, ap}
use Rattle.arrow_core.specs.declared.types.DataType.TheBlock.{shape-the_row-Field-1, hidden-the_row-Field-1}
use Rattle.arrow_core.specs.declared.types.Field.{Field}
use Rattle.json_flat.specs.Names.{names_of, row_names}

pub row_named : (fields : List Field) → row_names (hidden-the_row-Field-1 fields) ≡ names_of fields
unfolding shape-the_row-Field-1 hidden-the_row-Field-1 denote.Hole.Carrier.hidden
row_named [] = refl
row_named (f ∷ fields) = ap (λ (names : List (List ℕ)). f.name ∷ names) (row_named fields)
