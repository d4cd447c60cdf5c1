use Rattle.std.proofs.Common.{ap, map}
use Rattle.arrow_dictionaries.proofs.Joined as joined
use Rattle.arrow_dictionaries.proofs.encode.encode_primitives.Goals as goal

pub returns-clause-key : goal.returns-clause-key
returns-clause-key g c = joined.key_is c.primitive_keys-keys.result c.primitive_values-values.result c.args.key c.both.result c.primitive_keys-keys.ensures.key c.both.ensures.first

pub returns-clause-data_type : goal.returns-clause-data_type
returns-clause-data_type g c = joined.type_is c.primitive_keys-keys.result c.primitive_values-values.result c.both.result (λ a. a.data_type) _ _ c.data_type.ensures.data_type c.primitive_values-values.ensures.data_type c.both.ensures.second

pub returns-clause-slots : goal.returns-clause-slots
returns-clause-slots g c =
    joined.slots_are c.primitive_keys-keys.result c.primitive_values-values.result c.both.result (λ a. a.slots) c.args.array.now.slots _ _ c.primitive_keys-keys.ensures.slots c.primitive_values-values.ensures.slots (ap (map g.T.NativeType.native_slot) c.as_slice.ensures) c.both.ensures.first c.both.ensures.second

pub returns-clause-few : goal.returns-clause-few
returns-clause-few g c = joined.keys_tell c.primitive_keys-keys.result c.primitive_values-values.result c.both.result _ c.primitive_keys-keys.ensures.few c.both.ensures.first

pub returns-clause-err : goal.returns-clause-err
returns-clause-err g c = joined.primitive_fault c.primitive_keys-keys.result c.primitive_values-values.result c.both.result _ c.primitive_keys-keys.ensures.err c.primitive_values-values.ensures.memory c.both.ensures.err
