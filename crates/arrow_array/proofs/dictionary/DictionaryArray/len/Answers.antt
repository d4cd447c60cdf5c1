use Rattle.std.proofs.Common.{◌∙◌}
use Rattle.arrow_array.proofs.Dictionaries.{dictionary_slots_are, count_keys}
use Rattle.arrow_array.proofs.dictionary.DictionaryArray.len.Goals as goal

pub returns : goal.returns
returns c = c.len.ensures ∙ count_keys _ _ _ (dictionary_slots_are c.self.view_is)
