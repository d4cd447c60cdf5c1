use Rattle.std.proofs.Common.{rules, ◌≡◌, replicate, true}
use Rattle.avro_ndjson.proofs.Numbers.{all_kept}
use Rattle.avro_ndjson.proofs.keep.projection_of.Goals as goal

pub returns-in_ok-vec-in-None-clause-ok : goal.returns-in_ok-vec-in-None-clause-ok
returns-in_ok-vec-in-None-clause-ok c =
    let filled : c.in_ok-vec-in-None.field-0.items ≡ replicate c.args.count true = search rules in
    rw c.in-None.is (all_kept c.args.count c.in_ok-vec-in-None.field-0.items filled)
