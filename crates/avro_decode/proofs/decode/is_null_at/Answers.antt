use Rattle.std.proofs.Common.{pos, sym}
use Rattle.avro_decode.proofs.Pairs.{null_at_other}
use Rattle.avro_skip.proofs.Signed.{not_is}
use Rattle.avro_decode.proofs.decode.is_null_at.Goals as goal

pub returns-else-index-eq1 : goal.returns-else-index-eq1
returns-else-index-eq1 c =
    sym (null_at_other c.args.index c.args.null_first (not_is c.args.index (pos 0) c.if-index-eq0.false) (not_is c.args.index (pos 1) c.if-index-eq1.false))
