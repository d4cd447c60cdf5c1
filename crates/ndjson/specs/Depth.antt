-- How many brackets are open at once in a text, at most (RFC 8259, section 9, lets a reader set a limit).
use Rattle.std.specs.Prelude.{ℕ, suc, max, List, [], ◌∷◌}
use Rattle.arrow_core.specs.declared.types.DataType.{DataType, Row_of-Field, end_of-Field, more_of-Field}
use Rattle.arrow_core.specs.declared.types.DataType as types

abbrev mutual
  -- in the text of a slot of a type: one for each list and struct around another
  pub depth : DataType → ℕ
  depth (types.List' shape item) = suc (deepest item)
  depth (types.LargeList' shape item) = suc (deepest item)
  depth (types.FixedSizeList' shape item size) = suc (deepest item)
  depth (types.Struct' shape fields) = suc (deepest fields)
  depth _ = 0

  -- in that of a slot of one of the fields
  pub deepest : {m : _} → Row_of-Field m → ℕ
  deepest end_of-Field = 0
  deepest (more_of-Field name t is_nullable metadata rest) = max (depth t) (deepest rest)

-- in that of a slot of one of the types
abbrev pub deepest_of : List DataType → ℕ
deepest_of [] = 0
deepest_of (t ∷ data_types) = max (depth t) (deepest_of data_types)

-- in the object of a row of these types
abbrev pub row_depth : List DataType → ℕ
row_depth data_types = suc (deepest_of data_types)
