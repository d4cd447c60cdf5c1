-- How deep the types of arrays are.
use Rattle.std.specs.Prelude.{ℕ, ◌+◌, List}
use denote.Param.Weighed.{most}
use Rattle.arrow_core.specs.declared.types.DataType.{size-DataType}
use Rattle.arrow_array.specs.declared.array.Array.{Array}
use Rattle.arrow_array.specs.Arrays.{array_type}

-- one more than the depth of the deepest type of the arrays, and 0 where there are none
abbrev pub children_depth : List Array → ℕ
children_depth = most (λ a. size-DataType (array_type a) + 1)
