use Rattle.avro_schema.specs.NegativeSize.{BrokenRow}
use Rattle.avro_schema.specs.Rows.{Row, no_pieces}
use Rattle.avro_reference.specs.Block.{row}
use Rattle.avro_reference.proofs.Exact.{passes_all, is_negative_at, is_bad_elsewhere}
use Rattle.avro_reference.proofs.Rows.{row_sound, row_complete, row_breaks, row_broke}
use Rattle.avro_reference.proofs.laws.rows_are_read.Goals as goal

pub returns-clause-all : goal.returns-clause-all
returns-clause-all c = λ fs keeps. passes_all (row fs keeps) (Row fs keeps) (BrokenRow fs keeps) (row_sound fs keeps) (row_complete fs keeps) (row_breaks fs keeps no_pieces) (row_broke fs keeps no_pieces)

pub returns-clause-negative : goal.returns-clause-negative
returns-clause-negative c = λ fs keeps. is_negative_at (row fs keeps) (Row fs keeps) (BrokenRow fs keeps) (row_sound fs keeps) (row_complete fs keeps) (row_breaks fs keeps no_pieces) (row_broke fs keeps no_pieces)

pub returns-clause-bad : goal.returns-clause-bad
returns-clause-bad c = λ fs keeps. is_bad_elsewhere (row fs keeps) (Row fs keeps) (BrokenRow fs keeps) (row_sound fs keeps) (row_complete fs keeps) (row_breaks fs keeps no_pieces) (row_broke fs keeps no_pieces)
