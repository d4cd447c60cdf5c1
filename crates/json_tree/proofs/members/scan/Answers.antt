use Rattle.std.proofs.Common.{inl}
use Rattle.json_tree.specs.Keys.{keys_of}
use Rattle.json_tree.specs.Layout.{key_index}
use Rattle.json_tree.proofs.KeyIndices.{scan-end}
use Rattle.json_tree.proofs.members.scan.Goals as goal

pub returns-after-loop-i : goal.returns-after-loop-i
returns-after-loop-i g c =
    let i = c.loop-i.invariant in
    scan-end c.args.pairs.now c.args.key.now c.loop-i.i (key_index c.args.key.now (keys_of c.args.pairs.now)) i.same i.within i.scanned (inl c.loop-i-test.false)
