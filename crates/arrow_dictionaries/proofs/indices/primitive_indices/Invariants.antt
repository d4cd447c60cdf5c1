-- The slots so far are encoded.
use Rattle.std.proofs.Common.{map, take}
use Rattle.arrow_dictionaries.specs.Encoding.{EncodesSlots}
use Rattle.arrow_dictionaries.specs.Indices.{index_key}
use Rattle.arrow_dictionaries.proofs.indices.primitive_indices.Given as goal

abbrev pub invariant-loop-i : goal.invariant-loop-i
invariant-loop-i g l = EncodesSlots (take l.i l.array.slots) (map index_key l.indices.items) (map g.T.NativeType.native_slot l.distinct)
