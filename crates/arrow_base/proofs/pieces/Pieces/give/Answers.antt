use Rattle.std.proofs.Common.{arith, ◌≡◌, length, drop, take}
use Rattle.std.proofs.lemmas.Grind.{common_steps}
use Rattle.arrow_base.proofs.PieceLemmas.{take-prefix, drop-split}
use Rattle.arrow_base.proofs.pieces.Pieces.give.Goals as goal

pub returns-clause-given : goal.returns-clause-given
returns-clause-given c =
    let n = c.min-n.result in
    let prefix = c.copy_from_slice.new.self in
    let len : length prefix ≡ n = grind (arith, common_steps) in
    let is : prefix ≡ take n (drop c.args.self.now.at c.args.self.now.bytes) = grind (arith, common_steps) in
    grind (arith, common_steps, take-prefix prefix (drop n c.args.buffer.now) n len, drop-split c.args.self.now.bytes c.args.self.now.at n)
