use Rattle.avro_container.proofs.AllRows.{appends_all_rows}
use Rattle.avro_ndjson.specs.Shown.{ShowsBlock}
use Rattle.avro_ndjson.proofs.lines.BlockEncoderEncodesBlocks.append_block.Goals as goal

pub returns-clause-ok : goal.returns-clause-ok
returns-clause-ok c =
    let block = c.args.block.now in
    appends_all_rows (ShowsBlock c.args.self.now.decoder) block.number_of_rows block.bytes c.args.out.now.items c.push_block.new.out.items c.in_ok-push_block.ensures.ok
