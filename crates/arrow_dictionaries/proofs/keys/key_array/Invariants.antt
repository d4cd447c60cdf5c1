-- The keys so far are those of the indices so far, and keys number each.
use Rattle.std.proofs.Common.{◌≡◌, map, take}
use Rattle.std.specs.List.{All}
use Rattle.arrow_array.specs.Dictionaries.{IsKeyInto}
use Rattle.arrow_dictionaries.specs.Indices.{index_key}
use Rattle.arrow_dictionaries.proofs.keys.key_array.Given as goal

abbrev pub invariant-loop-index : goal.invariant-loop-index
invariant-loop-index g l = record {
  slots : l.builder.slots ≡ map index_key (take l.index-index l.indices);
  within : All (IsKeyInto g.K.Key.count) l.builder.slots;
}
