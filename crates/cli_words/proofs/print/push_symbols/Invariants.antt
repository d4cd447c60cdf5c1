-- What was written and what is left to write are the whole.
use Rattle.std.proofs.Common.{◌≡◌, ◌++◌, drop, codes}
use Rattle.cli_words.specs.Printed.{joined}
use Rattle.cli_words.proofs.Joins.{led}
use Rattle.cli_words.proofs.print.push_symbols.Given as goal

abbrev pub invariant-loop-symbol : goal.invariant-loop-symbol
invariant-loop-symbol l = l.text.items ++ led (codes ",") l.before (drop l.symbol-index l.symbols) ≡ l.initial.text.items ++ joined (codes ",") l.symbols
