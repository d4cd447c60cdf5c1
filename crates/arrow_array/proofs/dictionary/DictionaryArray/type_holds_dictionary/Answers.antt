use Rattle.std.proofs.Common.{◌∙◌, ap, sym}
use Rattle.arrow_array.specs.HoldsDictionary.{holds_dictionary}
use Rattle.arrow_array.proofs.Dictionaries.{dictionary_types_are}
use Rattle.arrow_array.proofs.HoldsDictionary.{is_dictionary}
use Rattle.arrow_array.proofs.dictionary.DictionaryArray.type_holds_dictionary.Goals as goal

pub returns : goal.returns
returns c = sym (ap holds_dictionary (dictionary_types_are c.self.view_is)) ∙ is_dictionary _ _ _ c.self.invariant.kind
