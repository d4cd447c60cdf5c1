use Rattle.std.proofs.Common.{◌∙◌}
use Rattle.json_columns.specs.Dictionaries.{TooManyDistinct}
use Rattle.json_flat.specs.Reading.{reading}
use Rattle.json_columns.proofs.Counting.{always}
use Rattle.json_columns.proofs.DictionaryColumns as columns
use Rattle.json_columns.proofs.ListColumns.{memory_fault}
use Rattle.json_flat.specs.Columns.{lent}
use Rattle.json_columns.proofs.dictionary.read_dictionary.Goals as goal

pub dictionary_array-requires : goal.dictionary_array-requires
dictionary_array-requires c =
    let d = c.in_ok-keys in
    record { fits = columns.fit c.args.key c.args.value_type.now _ (lent c.args.values.now) d.keys d.items d.ensures.key d.ensures.data_type d.ensures.slots (c.requires.kind.0, c.in_ok-data_type.ensures.copy ∙ c.requires.kind.1) }

pub returns-clause-slots : goal.returns-clause-slots
returns-clause-slots c =
    let d = c.in_ok-keys in
    columns.slots c.args.key c.args.value_type.now c.args.data_type.now (lent c.args.values.now) d.keys d.items d.ensures.key d.ensures.data_type d.ensures.slots c.dictionary_array.result c.dictionary_array.ensures.slots

pub returns-clause-dictionaries : goal.returns-clause-dictionaries
returns-clause-dictionaries c =
    let d = c.in_ok-keys in
    columns.first_values c.args.key c.args.value_type.now c.args.data_type.now (lent c.args.values.now) d.keys d.items d.ensures.key d.ensures.data_type d.ensures.slots c.dictionary_array.result c.dictionary_array.ensures.dictionaries

pub returns-clause-counted : goal.returns-clause-counted
returns-clause-counted c = always c.dictionary_array.result (TooManyDistinct c.args.key c.args.value_type.now (lent c.args.values.now) → ⊥) c.in_ok-keys.ensures.counted

pub returns-clause-err : goal.returns-clause-err
returns-clause-err c =
    memory_fault (reading c.args.value_type.now) (TooManyDistinct c.args.key c.args.value_type.now (lent c.args.values.now)) (lent c.args.values.now) c.dictionary_array.result c.dictionary_array.ensures.memory
