-- What is kept of types that come one at a time. Contracts of private functions and what contracts see of a `RowTypes` cite this
-- file, and the law that it suffices: nobody has to read it to believe another public contract.
use Rattle.std.specs.Prelude.{ℕ, suc, ◌+◌, List, [], ◌∷◌, Bool, true, false, ◌||◌, if◌then◌else◌}
use Rattle.arrow_core.specs.declared.types.DataType.{DataType}
use Rattle.arrow_core.specs.declared.types.DataType as data_type
use Rattle.json_infer.specs.declared.seen.Seen.{Seen}
use Rattle.json_infer.specs.declared.seen.Seen.TheVariants as seen
use Rattle.json_infer.specs.Parts.{same, item_of, members_of, size_of}
use Rattle.json_infer.specs.Coercion.{all_structs, pair, coerce}
use Rattle.json_infer.specs.Columns.{with_fields, coerced_columns, column_sizes}

-- what is kept of two distinct types
abbrev pub of_both : DataType → DataType → Seen
of_both a b = if all_structs (a ∷ b ∷ []) then seen.Structs (with_fields (with_fields [] (members_of a)) (members_of b)) else seen.Two a b

-- after one more type
abbrev pub more : Seen → DataType → Seen
more seen.Nothing t = seen.One t
more (seen.One a) t = if same t a then seen.One a else of_both a t
more (seen.Two a b) t = if same t a || same t b then seen.Two a b else seen.Many
more (seen.Structs cs) t = if all_structs (t ∷ []) then seen.Structs (with_fields cs (members_of t)) else seen.Many
more seen.Many t = seen.Many

-- after one type after another
abbrev pub seen_after : Seen → List DataType → Seen
seen_after s [] = s
seen_after s (t ∷ ts) = seen_after (more s t) ts

-- two distinct types came, which aren't both Structs
abbrev pub are_two : Seen → Bool
are_two (seen.Two a b) = true
are_two _ = false

-- what the distinct types that came are coerced to
abbrev pub result_of : Seen → DataType
result_of seen.Nothing = data_type.Null
result_of (seen.One a) = a
result_of (seen.Two a b) = pair coerce (item_of a) (item_of b) a b
result_of (seen.Structs cs) = data_type.Struct (coerced_columns cs)
result_of seen.Many = data_type.Utf8

-- how many types stand in what is kept
abbrev pub seen_size : Seen → ℕ
seen_size seen.Nothing = 0
seen_size (seen.One a) = size_of a
seen_size (seen.Two a b) = size_of a + size_of b
seen_size (seen.Structs cs) = suc (column_sizes cs)
seen_size seen.Many = 0
