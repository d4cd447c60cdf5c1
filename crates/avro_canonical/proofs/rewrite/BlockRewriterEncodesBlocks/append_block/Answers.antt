use Rattle.avro_container.proofs.AllRows.{appends_all_rows}
use Rattle.avro_canonical.specs.Canonical.{RewritesBlock}
use Rattle.avro_canonical.proofs.rewrite.BlockRewriterEncodesBlocks.append_block.Goals as goal

pub returns-clause-ok : goal.returns-clause-ok
returns-clause-ok c =
    let block = c.args.block.now in
    appends_all_rows (RewritesBlock c.args.self.now) block.number_of_rows block.bytes c.args.out.now.items c.push_block.new.out.items c.in_ok-push_block.ensures.ok
