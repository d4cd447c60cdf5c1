-- How far nulls go down in a builder, by its shape.
use Rattle.std.proofs.Common.{ℕ, zero, suc, ◌+◌, ◌<◌, List, [], ◌∷◌, map, length, get_or, arith}
use Rattle.arrow_builders.specs.Children.{fields_of}
use Rattle.arrow_builders.specs.Shapes.{Shape, flat, dictionary, lists, fixed_lists, records, no_field, field, shape}
use Rattle.arrow_builders.specs.declared.array.MutableArray.{MutableArray}

abbrev pub weight : Shape → ℕ
weight (flat kind data_type) = 0
weight (dictionary data_type items) = 0
weight (lists kind data_type item) = 0
weight (fixed_lists data_type item) = weight item + 2
weight (records data_type fields) = weight fields + 2
weight no_field = 0
weight (field first more) = weight first + weight more + 1

pub child_lighter : (bs : List MutableArray) (i : ℕ) (x : MutableArray) → i < length bs → weight (shape (get_or bs i x)) < weight (fields_of (map shape bs))
child_lighter [] i x l = absurd (omega (arith, l))
child_lighter (b ∷ bs) zero x l = omega arith
child_lighter (b ∷ bs) (suc i) x l = omega (arith, child_lighter bs i x (omega (arith, l)))
