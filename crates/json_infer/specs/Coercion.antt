-- The type that several types are coerced to: the rule table.
use Rattle.std.specs.Prelude.{ℕ, zero, suc, List, [], ◌∷◌, ◌++◌, map, Bool, true, ◌&&◌, ◌||◌, if◌then◌else◌, Option, Some, None, is_some}
use Rattle.std.specs.Str.{bytes_eq}
use Rattle.arrow_core.specs.declared.types.DataType.{DataType}
use Rattle.arrow_core.specs.declared.types.DataType as data_type
use Rattle.arrow_core.specs.declared.types.Field.{Field}
use Rattle.json_infer.specs.Lists.{distinct}
use Rattle.json_infer.specs.Parts.{same, item_of, fields_of, members_of, nullable, list_of, sizes}

-- ---- the members of several Structs

abbrev pub all_names : List DataType → List (List ℕ)
all_names [] = []
all_names (t ∷ ts) = map (λ field. field.name) (members_of t) ++ all_names ts

-- the names of all members, each once, in order of first appearance
abbrev pub names_of : List DataType → List (List ℕ)
names_of ts = distinct bytes_eq (all_names ts)

-- the types of the fields of one name
abbrev pub types_in : List ℕ → List Field → List DataType
types_in name [] = []
types_in name (field ∷ fields) = if bytes_eq field.name name then field.data_type ∷ types_in name fields else types_in name fields

abbrev pub all_types : List ℕ → List DataType → List DataType
all_types name [] = []
all_types name (t ∷ ts) = types_in name (members_of t) ++ all_types name ts

-- the types of the members of one name, each once, in order of first appearance
abbrev pub types_of : List ℕ → List DataType → List DataType
types_of name ts = distinct same (all_types name ts)

-- ---- tests

abbrev pub all_same : DataType → List DataType → Bool
all_same t [] = true
all_same t (u ∷ us) = same t u && all_same t us

abbrev pub all_structs : List DataType → Bool
all_structs [] = true
all_structs (t ∷ ts) = is_some (fields_of t) && all_structs ts

-- the types are a and b, in either order
abbrev pub are_both : DataType → DataType → DataType → DataType → Bool
are_both a b t u = (same t a && same u b) || (same t b && same u a)

-- ---- the rules, of which the first that applies holds

-- two types, neither of which is a List
abbrev pub flat : DataType → DataType → DataType
flat t u =
    if are_both data_type.Int64 data_type.Float64 t u then data_type.Float64 else (
    if are_both data_type.Int64 data_type.Boolean t u then data_type.Int64 else
    data_type.Utf8
    )

-- `deeper` coerces the parts of the types
module _ (deeper : List DataType → DataType) where
  abbrev pub columns : List DataType → List Field
  columns ts = map (λ name. nullable name (deeper (types_of name ts))) (names_of ts)

  -- two types, with their items where they are Lists
  abbrev pub pair : Option Field → Option Field → DataType → DataType → DataType
  pair (Some f) (Some g) t u = list_of (deeper (f.data_type ∷ g.data_type ∷ []))
  pair (Some f) None t u = list_of (deeper (u ∷ f.data_type ∷ []))
  pair None (Some g) t u = list_of (deeper (t ∷ g.data_type ∷ []))
  pair None None t u = flat t u

  abbrev pub of_two : DataType → List DataType → DataType
  of_two t [] = data_type.Utf8
  of_two t (u ∷ []) = pair (item_of t) (item_of u) t u
  of_two t (u ∷ v ∷ more) = data_type.Utf8

  abbrev pub by_rules : List DataType → DataType
  by_rules [] = data_type.Null
  by_rules (t ∷ ts) =
      if all_same t ts then t else (
      if all_structs (t ∷ ts) then data_type.Struct (columns (t ∷ ts)) else
      of_two t ts
      )

-- the rules, n levels deep
abbrev pub coerce_in : ℕ → List DataType → DataType
coerce_in zero = λ ts. data_type.Null
coerce_in (suc n) = by_rules (coerce_in n)

-- Each rule goes on with parts of the types, whose sizes are less. So these levels are enough, and
-- `coerce ts ≡ by_rules coerce ts`, which is the contract of `coercion_rules`.
unfoldable pub coerce : List DataType → DataType
coerce ts = coerce_in (suc (sizes ts)) ts
