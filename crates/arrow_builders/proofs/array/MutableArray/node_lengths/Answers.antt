use Rattle.std.proofs.Common.{◌∙◌, ap, sym}
use Rattle.arrow_builders.specs.MutableArrays.{nodes}
use Rattle.arrow_builders.proofs.Finds.{found_is, ok_of}
use Rattle.arrow_builders.proofs.array.MutableArray.node_lengths.Goals as goal

pub returns-in-Ok : goal.returns-in-Ok
returns-in-Ok c = sym (found_is (nodes c.args.self.now) c.args.node ∙ ap ok_of (sym c.in-Ok.ensures))

pub returns-in-Err : goal.returns-in-Err
returns-in-Err c = sym (found_is (nodes c.args.self.now) c.args.node ∙ ap ok_of (sym c.in-Err.ensures))
