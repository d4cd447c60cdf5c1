use Rattle.std.proofs.Common.{ap, map, subst}
use Rattle.arrow_dictionaries.specs.Encoding.{key_count}
use Rattle.arrow_dictionaries.specs.Indices.{IsKeyFault, index_key}
use Rattle.arrow_dictionaries.proofs.Faults.{all_keys_fault}
use Rattle.arrow_dictionaries.proofs.Firsts.{few_keys}
use Rattle.arrow_dictionaries.proofs.Steps.{keys_encode}
use Rattle.arrow_dictionaries.proofs.encode.primitive_keys.Goals as goal

pub returns-clause-slots : goal.returns-clause-slots
returns-clause-slots g c = keys_encode c.args.array.now.slots c.in_ok-indices.indices.items c.as_slice.result.now _ c.keys_of.result c.as_slice.ensures.value c.in_ok-indices.ensures.indices c.keys_of.ensures.slots

pub returns-clause-few : goal.returns-clause-few
returns-clause-few g c =
    few_keys c.args.key c.args.array.now.slots _ c.keys_of.result (keys_encode c.args.array.now.slots c.in_ok-indices.indices.items c.as_slice.result.now _ c.keys_of.result c.as_slice.ensures.value c.in_ok-indices.ensures.indices c.keys_of.ensures.slots)
    c.keys_of.ensures.within

pub returns-clause-err : goal.returns-clause-err
returns-clause-err g c = all_keys_fault c.args.key c.args.array.now.slots _ c.in_ok-indices.indices.items c.as_slice.result.now c.keys_of.result c.as_slice.ensures.value c.in_ok-indices.ensures.indices c.keys_of.ensures.err
