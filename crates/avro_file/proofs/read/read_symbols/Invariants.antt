-- The symbols so far and those that are left give all.
use Rattle.std.proofs.Common.{◌≡◌, drop}
use Rattle.avro_file.specs.Attributes.{strings_of}
use Rattle.avro_file.proofs.Together.{strings_after}
use Rattle.avro_file.proofs.read.read_symbols.Given as goal

abbrev pub invariant-loop-item : goal.invariant-loop-item
invariant-loop-item l = strings_after l.symbols.items (strings_of (drop l.item-index l.items)) ≡ strings_of l.items
