use Rattle.std.proofs.Common.{◌∙◌}
use Rattle.ndjson_avro.proofs.Held.{lines_are_rows}
use Rattle.ndjson_avro.proofs.encoder.encode_lines.Goals as goal

pub returns-in-Some : goal.returns-in-Some
returns-in-Some c row_type root is =
    lines_are_rows c.encode_lines.result c.is_ok.result row_type root c.args.plan.now c.in-Some.plan c.args.rows.now c.as_mut_vec.result.now.items c.encode_lines.new.out.items c.in-Some.is (c.as_mut_vec.ensures.value ∙ c.clear.ensures) c.is_ok.ensures.value is c.encode_lines.ensures
