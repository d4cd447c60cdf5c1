use Rattle.std.specs.List.{AllWithin}
use Rattle.arrow_builders.specs.FixedContent.{HasFixedContent}
use Rattle.avro_decode.proofs.blocks.all_content_is_whole.Given as goal

abbrev pub invariant-loop-builder : goal.invariant-loop-builder
invariant-loop-builder l = AllWithin HasFixedContent l.builders 0 l.builder-index
