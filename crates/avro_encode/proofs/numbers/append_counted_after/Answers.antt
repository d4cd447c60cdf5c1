use Rattle.std.proofs.Common.{refl}
use Rattle.std.proofs.lemmas.Result.{on_ok_weaker}
use Rattle.avro_encode.proofs.Groups.{after_byte, few_after}
use Rattle.avro_encode.proofs.numbers.append_counted_after.Goals as goal

pub returns-then-bytes-lt64 : goal.returns-then-bytes-lt64
returns-then-bytes-lt64 c = record {
  ok = on_ok_weaker c.append_bytes.result (λ e. few_after _ _ _ c.args.bytes.now c.args.byte _ c.if-bytes-lt64.true refl c.in_ok-extend_from_slice.ensures.items e) c.append_bytes.ensures.ok;
}

pub returns : goal.returns
returns c = record {
  ok = on_ok_weaker c.append_counted.result (λ e. after_byte _ _ _ _ _ c.in_ok-push.ensures.items e) c.append_counted.ensures.ok;
}
