use Rattle.std.proofs.Common.{arith, sym, ap, ◌∙◌}
use Rattle.arrow_array.specs.Kinds.{key_type}
use Rattle.arrow_array.proofs.DataTypes.{key_is}
use Rattle.arrow_array.proofs.Dictionaries.{dictionary_slots_are, dictionary_types_are, dictionary_keys_are, dictionary_items_are, count_keys}
use Rattle.arrow_array.proofs.dictionary.DictionaryArray.keys.Goals as goal

pub returns-clause-keys : goal.returns-clause-keys
returns-clause-keys c = dictionary_keys_are c.self.view_is

pub returns-clause-key_type : goal.returns-clause-key_type
returns-clause-key_type c = sym (key_is _ _ _ c.self.invariant.kind) ∙ ap key_type (dictionary_types_are c.self.view_is)

pub returns-clause-slots : goal.returns-clause-slots
returns-clause-slots c = rw (← dictionary_items_are c.self.view_is) (sym (dictionary_slots_are c.self.view_is))

pub returns-clause-within : goal.returns-clause-within
returns-clause-within c = λ i l. rw (← dictionary_items_are c.self.view_is) (c.self.invariant.keys_fit i (omega (arith, l, count_keys _ _ _ (dictionary_slots_are c.self.view_is))))
