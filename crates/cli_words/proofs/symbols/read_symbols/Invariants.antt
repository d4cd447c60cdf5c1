-- The symbols so far and those of the rest are all of them.
use Rattle.std.proofs.Common.{ℕ, List, ◌++◌, length}
use Rattle.std.specs.Str.{IsUtf8}
use Rattle.cli_words.specs.Types.{AreSymbols}
use Rattle.cli_words.proofs.symbols.read_symbols.Given as goal

abbrev pub invariant-loop-symbol : goal.invariant-loop-symbol
invariant-loop-symbol l =
    record {
      utf8 : IsUtf8 l.rest;
      sound : (more : List (List ℕ)) → AreSymbols l.rest more → AreSymbols l.inside (l.symbols.items ++ more);
      complete : (all : List (List ℕ)) → AreSymbols l.inside all → (more : List (List ℕ)) × AreSymbols l.rest more;
    }

abbrev pub decreases-loop-symbol : goal.decreases-loop-symbol
decreases-loop-symbol l = length l.rest
