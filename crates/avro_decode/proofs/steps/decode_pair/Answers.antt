use Rattle.std.proofs.Common.{refl, sym, w64, rules}
use Rattle.std.proofs.lemmas.Int.{to_z-of_z}
use Rattle.avro_decode.proofs.Keeping.{keeps_unread}
use Rattle.avro_decode.proofs.Pairs.{pair_gives, pair_bad}
use Rattle.avro_decode.proofs.steps.decode_pair.Goals as goal

pub returns-in-Some-clause-reads : goal.returns-in-Some-clause-reads
returns-in-Some-clause-reads g c =
    pair_gives _ c.decode_member.result _ c.args.index c.args.null_first c.in-Some.null c.args.schema.now _ (sym (rw (to_z-of_z w64 c.args.index c.ranges.index) at c.in-Some.ensures)) c.decode_member.ensures.reads

pub returns-in-None-clause-keeps : goal.returns-in-None-clause-keeps
returns-in-None-clause-keeps g c = keeps_unread refl (search rules) tt

pub returns-in-None-clause-reads : goal.returns-in-None-clause-reads
returns-in-None-clause-reads g c =
    pair_bad _ c.args.index c.args.null_first c.args.schema.now _ (sym (rw (to_z-of_z w64 c.args.index c.ranges.index) at c.in-None.ensures))
