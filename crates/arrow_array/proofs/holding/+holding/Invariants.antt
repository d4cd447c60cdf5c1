-- The type of no field before this one holds a dictionary.
use Rattle.std.proofs.Common.{◌≡◌, false, take}
use Rattle.arrow_array.specs.HoldsDictionary.{any_holds_dictionary}
use Rattle.arrow_array.proofs.holding.+holding.Given as goal

abbrev pub invariant-any_holds_dictionary-loop-field : goal.invariant-any_holds_dictionary-loop-field
invariant-any_holds_dictionary-loop-field l = any_holds_dictionary (take l.field-index l.fields) ≡ false
