-- What contracts see of a `FileWriter`.
use Rattle.std.specs.Prelude.{Bool}
use Rattle.ndjson.specs.declared.file_writer.FileWriter.{FileWriter}

module _ {K I : Type 0} where
  abbrev pub writer_of : FileWriter K I → K
  writer_of w = w.writer

  abbrev pub iterator_of : FileWriter K I → I
  iterator_of w = w.iterator

  -- it gave None or an error
  abbrev pub has_ended : FileWriter K I → Bool
  has_ended w = w.has_ended
