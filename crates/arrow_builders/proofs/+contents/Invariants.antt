use Rattle.std.specs.List.{AllWithin}
use Rattle.arrow_builders.specs.FixedContent.{HasFixedContent}
use Rattle.arrow_builders.proofs.+contents.Given as goal

abbrev pub invariant-structs::all_content_is_whole-loop-child : goal.invariant-structs::all_content_is_whole-loop-child
invariant-structs::all_content_is_whole-loop-child l = AllWithin HasFixedContent l.children 0 l.child-index
