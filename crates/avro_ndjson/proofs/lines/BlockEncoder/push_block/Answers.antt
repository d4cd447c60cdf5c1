use Rattle.std.proofs.Common.{ℕ, List, OnOk, refl, subst}
use Rattle.avro_container.specs.File.{the_block}
use Rattle.avro_container.specs.Written.{AppendsBlock}
use Rattle.avro_ndjson.specs.Shown.{ShowsBlock}
use Rattle.avro_ndjson.proofs.Chunks.{if_appended, if_wrong}
use Rattle.avro_ndjson.proofs.lines.BlockEncoder.push_block.Goals as goal

pub returns-clause-ok : goal.returns-clause-ok
returns-clause-ok c =
    let d = c.in_ok-chunk.ensures in
    let block = c.args.block.now in
    let r = c.requires in
    let same = c.if-push_rows.ensures.given_up refl in
    subst (λ (z : List ℕ). OnOk c.push.result (AppendsBlock (ShowsBlock c.args.self.now.decoder) (the_block block.number_of_rows block.bytes) z c.push.new.out.items)) same
    (if_appended c.args.self.now.decoder c.args.self.now.lines.fields c.in_ok-chunk.chunk block.number_of_rows block.bytes r.kept r.some r.texts r.offsets d.columns d.data_types d.counted d.together.symbols c.push.result _ _ c.push.ensures.ok c.push.ensures.accepted)

pub returns-clause-err : goal.returns-clause-err
returns-clause-err c =
    let d = c.in_ok-chunk.ensures in
    let block = c.args.block.now in
    let r = c.requires in
    if_wrong c.args.self.now.decoder c.args.self.now.lines.fields c.in_ok-chunk.chunk block.number_of_rows block.bytes r.kept r.some r.texts r.offsets d.columns d.data_types d.counted d.together.symbols c.push.result c.push.ensures.err
