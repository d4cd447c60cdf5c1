use Rattle.std.proofs.Common.{take}
use Rattle.cli_words.specs.Words.{AreKeptFields}
use Rattle.cli_words.proofs.words.read_kept_fields.Given as goal

abbrev pub invariant-loop-word : goal.invariant-loop-word
invariant-loop-word l = AreKeptFields (take l.word-index l.words) l.avro_fields.items
