use Rattle.std.proofs.Common.{take}
use Rattle.cli_words.specs.Words.{AreKeepWords}
use Rattle.cli_words.proofs.words.read_numbers.Given as goal

abbrev pub invariant-loop-word : goal.invariant-loop-word
invariant-loop-word l = AreKeepWords (take l.word-index l.words) l.numbers.items
