use Rattle.std.proofs.Common.{◌≡◌, true, rules}
use Rattle.json_text.specs.Refusals.{has_text}
use Rattle.avro_ndjson.proofs.Texts.{text_more}
use Rattle.avro_ndjson.proofs.fields.check_texts.Goals as goal

pub loop-i-preserved : goal.loop-i-preserved
loop-i-preserved c =
    let here : has_text c.index-fields-i.result.data_type ≡ true = search rules in
    text_more c.args.fields.now c.loop-i.i c.index-fields-i.result c.loop-i-test.true c.index-fields-i.is here c.loop-i.invariant
