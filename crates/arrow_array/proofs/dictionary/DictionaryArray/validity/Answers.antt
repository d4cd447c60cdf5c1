use Rattle.arrow_array.proofs.Dictionaries.{dictionary_keys_are}
use Rattle.arrow_array.proofs.dictionary.DictionaryArray.validity.Goals as goal

pub returns : goal.returns
returns c = rw (← dictionary_keys_are c.self.view_is) c.validity.ensures
