-- What contracts see of a source in memory that never fails.
use Rattle.std.specs.Prelude.{ℕ, List, drop}
use Rattle.arrow_base.specs.declared.steady_source.SteadySource.{SteadySource}

-- the bytes still to come
abbrev pub left_of : SteadySource → List ℕ
left_of source = drop source.pieces.at source.pieces.bytes

-- how many bytes a read gives at most
abbrev pub piece_of : SteadySource → ℕ
piece_of source = source.pieces.piece
