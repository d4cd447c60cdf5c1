use Rattle.std.proofs.Common.{◌≡◌, map, All}
use Rattle.arrow_array.specs.Arrays.{array_type, array_slots, dictionaries_of}
use Rattle.arrow_builders.specs.Fits.{TypesFit}
use Rattle.arrow_builders.specs.MutableArrays.{builder_type, builder_slots, builder_dictionaries}
use Rattle.arrow_builders.specs.NormalizedArrays.{IsNormalized}
use Rattle.arrow_builders.specs.Shapes.{shape}
use Rattle.arrow_builders.specs.Tight.{IsTight}
use Rattle.avro_decode.proofs.Frozen.{EmptySoFar}
use Rattle.avro_decode.proofs.Wholes.{DoneSoFar}
use Rattle.avro_decode.proofs.blocks.freeze.Given as goal

abbrev pub invariant-loop-i : goal.invariant-loop-i
invariant-loop-i l = record {
  shapes : map shape l.builders ≡ map shape l.fn.builders;
  emptied : EmptySoFar l.builders l.i;
  tight : All IsTight l.builders;
  types_fit : All (λ b. TypesFit (shape b)) l.builders;
  data_types : DoneSoFar array_type builder_type l.arrays.items l.builders l.i (map builder_type l.fn.builders);
  slots : DoneSoFar array_slots builder_slots l.arrays.items l.builders l.i (map builder_slots l.fn.builders);
  dictionaries : DoneSoFar dictionaries_of builder_dictionaries l.arrays.items l.builders l.i (map builder_dictionaries l.fn.builders);
  normalized : All IsNormalized l.arrays.items;
}
