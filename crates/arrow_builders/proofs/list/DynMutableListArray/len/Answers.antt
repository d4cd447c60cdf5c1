use Rattle.std.proofs.Common.{◌∙◌, sym}
use Rattle.arrow_builders.specs.MutableArrays.{builder_slots}
use Rattle.arrow_flat.proofs.ListOffsets.{length-lists}
use Rattle.arrow_builders.proofs.list.DynMutableListArray.len.Goals as goal

pub returns : goal.returns
returns c = c.len.ensures ∙ sym (length-lists 0 c.args.self.now.lists.lens (builder_slots c.args.self.now.values.value))
