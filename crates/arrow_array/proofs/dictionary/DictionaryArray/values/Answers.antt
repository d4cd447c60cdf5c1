use Rattle.arrow_array.proofs.DataTypes.{dictionary_over}
use Rattle.arrow_array.proofs.Dictionaries.{dictionary_types_are}
use Rattle.arrow_array.proofs.dictionary.DictionaryArray.values.Goals as goal

pub returns-clause-data_type : goal.returns-clause-data_type
returns-clause-data_type c = rw (c.get.ensures, ← dictionary_types_are c.self.view_is) (dictionary_over _ _ _ c.self.invariant.kind)
