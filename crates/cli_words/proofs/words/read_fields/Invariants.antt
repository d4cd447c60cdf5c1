use Rattle.std.proofs.Common.{take}
use Rattle.cli_words.specs.Words.{AreFields}
use Rattle.cli_words.proofs.words.read_fields.Given as goal

abbrev pub invariant-loop-word : goal.invariant-loop-word
invariant-loop-word l = AreFields (take l.word-index l.words) l.projection.items l.avro_fields.items
