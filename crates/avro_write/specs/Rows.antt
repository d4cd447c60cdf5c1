-- The rows of several serializers.
use Rattle.std.specs.Prelude.{ℕ, List, [], flat_map, slice_index_or}
use Rattle.std.specs.List.{range_with_len}

-- row i: item i of each column, in order
abbrev pub row : ℕ → List (List (List ℕ)) → List ℕ
row i columns = flat_map (λ column. slice_index_or column i []) columns

-- n rows, one after another
abbrev pub rows : ℕ → List (List (List ℕ)) → List ℕ
rows n columns = flat_map (λ i. row i columns) (range_with_len 0 n)
