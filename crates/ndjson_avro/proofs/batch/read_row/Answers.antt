-- A row was taken, and there was no memory for its copy.
use Rattle.std.proofs.Common.{inl}
use Rattle.ndjson_read.proofs.RowLemmas.{handed_on}
use Rattle.ndjson_avro.proofs.batch.read_row.Goals as goal

pub returns-in_err-push-in-Some-len1-up-clause-err : goal.returns-in_err-push-in-Some-len1-up-clause-err
returns-in_err-push-in-Some-len1-up-clause-err g c =
    let shows = c.in_ok-advance.ensures.ok c.requires.sound in
    handed_on _ _ c.from_residual-in_err-push-in-Some-len1-up.result c.from_residual-in_err-push-in-Some-len1-up.ensures.1 (inl (record { is = c.in_err-push-in-Some-len1-up.ensures.memory; taken = shows.taken; takes = shows.takes }))
