-- The distinct types of each name. Contracts of private functions, of `Columns` and of what lends it cite this file, and, through
-- `Seen`, what contracts see of a `RowTypes` and the law that it suffices: nobody has to read it to believe another public contract.
use Rattle.std.specs.Prelude.{ℕ, List, [], ◌∷◌, map, if◌then◌else◌}
use Rattle.std.specs.Str.{bytes_eq}
use Rattle.arrow_core.specs.declared.types.DataType.{DataType}
use Rattle.arrow_core.specs.declared.types.Field.{Field}
use Rattle.json_infer.specs.Lists.{distinct, with_one, total}
use Rattle.json_infer.specs.Parts.{same, nullable, sizes}
use Rattle.json_infer.specs.Coercion.{coerce}

-- a name and its types
abbrev pub Column : Type 0
Column = List ℕ × List DataType

-- one more type of a name
abbrev pub with_type : List Column → List ℕ → DataType → List Column
with_type [] name t = (name, t ∷ []) ∷ []
with_type (c ∷ cs) name t = if bytes_eq name c.0 then (c.0, with_one same c.1 t) ∷ cs else c ∷ with_type cs name t

-- the names and types of one field after another
abbrev pub with_fields : List Column → List Field → List Column
with_fields cs [] = cs
with_fields cs (field ∷ fields) = with_fields (with_type cs field.name field.data_type) fields

-- the types of a name, none where the name isn't there
abbrev pub types_named : List ℕ → List Column → List DataType
types_named name [] = []
types_named name (c ∷ cs) = if bytes_eq name c.0 then c.1 else types_named name cs

-- a field for each name
abbrev pub coerced_columns : List Column → List Field
coerced_columns cs = map (λ c. nullable c.0 (coerce (distinct same c.1))) cs

-- how many types stand in the types of all names
abbrev pub column_sizes : List Column → ℕ
column_sizes cs = total (λ c. sizes c.1) cs
