-- Roots are records: a text stands for one schema at most, and so for one root.
use Rattle.std.proofs.Common.{◌≡◌}
use Rattle.avro_schema.specs.declared.schema.Schema as schema
use Rattle.avro_schema.specs.declared.schema.Record.{Record}
use Rattle.avro_file.specs.Writing.{schema_text_of}
use Rattle.avro_file.proofs.Answered.{one_schema}
use Rattle.avro_file.proofs.ReadBack.{read_back}
use Rattle.avro_container.specs.Laws.{OneMeaning}
use Rattle.avro_container.proofs.OneFile.{canonical_is_file}
use Rattle.avro_file.specs.File.{StandsFor}
use Rattle.avro_file.specs.Laws.{CanonicalIsAvroFile}

same_root : (r q : Record) → schema.Record r ≡ schema.Record q → r ≡ q
same_root r q e = cc

pub one_root : OneMeaning StandsFor
one_root text r q a b = same_root r q (one_schema text (schema.Record r) (schema.Record q) a.means b.means)

pub canonical : CanonicalIsAvroFile
canonical root marker blocks writable small sixteen all =
    canonical_is_file StandsFor (schema_text_of (schema.Record root)) root marker blocks (record { means = read_back (schema.Record root) writable }) small sixteen all
