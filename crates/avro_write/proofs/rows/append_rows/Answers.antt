use Rattle.std.proofs.Common.{◌∙◌, length, ap, arith}
use Rattle.std.proofs.lemmas.Result.{on_ok_weaker}
use Rattle.avro_write.proofs.Items.{one_column, left_of}
use Rattle.avro_write.proofs.rows.append_rows.Goals as goal

pub returns-in-len1 : goal.returns-in-len1
returns-in-len1 c = record {
  ok =
      let s = c.serializer-item.result in
      let many = ap (λ z. length (left_of z)) c.serializer-item.is ∙ c.requires.left 0 s (omega (arith, c.in-len1.len_at_least)) in
      on_ok_weaker c.append_left.result (λ e. one_column left_of c.args.serializers.now s c.args.count _ _ c.serializer-item.is c.in-len1.len_at_least c.in-len1.len_below many e) c.append_left.ensures.ok;
}
