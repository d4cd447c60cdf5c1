-- Whether all are names is whether those that are left are.
use Rattle.std.proofs.Common.{◌≡◌, drop}
use Rattle.std.specs.List.{list_all}
use Rattle.cli_words.specs.Printed.{is_name_text}
use Rattle.cli_words.proofs.worded.are_names.Given as goal

abbrev pub invariant-loop-symbol : goal.invariant-loop-symbol
invariant-loop-symbol l = list_all is_name_text (drop l.symbol-index l.symbols) ≡ list_all is_name_text l.symbols
