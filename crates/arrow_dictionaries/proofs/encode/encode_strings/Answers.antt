use Rattle.std.proofs.Common.{ap, map, refl}
use Rattle.arrow_core.specs.Numbers.{greatest_offset}
use Rattle.arrow_dictionaries.specs.Indices.{string_slot}
use Rattle.arrow_dictionaries.proofs.Joined as joined
use Rattle.arrow_dictionaries.proofs.encode.encode_strings.Goals as goal

pub returns-clause-key : goal.returns-clause-key
returns-clause-key g c = joined.key_is c.string_keys-keys.result c.string_values-values.result c.args.key c.both.result c.string_keys-keys.ensures.key c.both.ensures.first

pub returns-clause-data_type : goal.returns-clause-data_type
returns-clause-data_type g c = joined.type_is c.string_keys-keys.result c.string_values-values.result c.both.result (λ a. a.data_type) _ _ refl c.string_values-values.ensures.data_type c.both.ensures.second

pub returns-clause-slots : goal.returns-clause-slots
returns-clause-slots g c =
    joined.slots_are c.string_keys-keys.result c.string_values-values.result c.both.result (λ a. a.slots) c.args.array.now.slots _ _ c.string_keys-keys.ensures.slots c.string_values-values.ensures.slots (ap (map string_slot) c.as_slice.ensures) c.both.ensures.first c.both.ensures.second

pub returns-clause-few : goal.returns-clause-few
returns-clause-few g c = joined.keys_tell c.string_keys-keys.result c.string_values-values.result c.both.result _ c.string_keys-keys.ensures.few c.both.ensures.first

pub returns-clause-counted : goal.returns-clause-counted
returns-clause-counted g c = joined.short_enough c.string_keys-keys.result c.string_values-values.result c.both.result (greatest_offset g.P.Offset.IS_LARGE) c.args.array.now.slots _ _ c.string_keys-keys.ensures.slots c.string_values-values.ensures.counted (ap (map string_slot) c.as_slice.ensures) c.both.ensures.first c.both.ensures.second

pub returns-clause-err : goal.returns-clause-err
returns-clause-err g c = joined.string_fault c.string_keys-keys.result c.string_values-values.result c.both.result _ (greatest_offset g.P.Offset.IS_LARGE) c.args.array.now.slots _ _ c.string_keys-keys.ensures.slots (ap (map string_slot) c.as_slice.ensures) c.string_keys-keys.ensures.err c.string_values-values.ensures.err c.both.ensures.err
