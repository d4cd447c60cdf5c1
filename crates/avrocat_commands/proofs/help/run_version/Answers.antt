use Rattle.std.proofs.Common.{◌≡◌, ℕ, List, ◌++◌, codes, ap, rules}
use Rattle.std.proofs.lemmas.Result.{err_from_is_err_and}
use Rattle.avro_container.specs.Changes.{Change, change_of}
use Rattle.avrocat_commands.specs.declared.help.TheConstants.{VERSION}
use Rattle.avrocat_commands.specs.Help.{version_text}
use Rattle.avrocat_commands.proofs.SchemaEndings.{first_breaks_off, second_breaks_off, both_written}
use Rattle.avrocat_commands.proofs.help.run_version.Goals as goal

pub returns-in_err-write_both-clause-fails : goal.returns-in_err-write_both-clause-fails
returns-in_err-write_both-clause-fails g c =
    let sink : Change = change_of (g.K.Sink.held c.args.sink.now) (g.K.Sink.faults c.args.sink.now) (g.K.Sink.held c.write_both.new.note) (g.K.Sink.faults c.write_both.new.note) in
    let is : c.as_bytes.result.now ≡ VERSION.now = search rules in
    let whole : (codes "avrocat " ++ c.as_bytes.result.now) ++ codes "\n" ≡ version_text = ap (λ (v : List ℕ). (codes "avrocat " ++ v) ++ codes "\n") is in
    let p = err_from_is_err_and c.from_residual.result c.from_residual.ensures.1 in
    rw (p.1, p.2) (first_breaks_off (codes "avrocat " ++ c.as_bytes.result.now) (codes "\n") version_text sink _ whole c.in_err-write_both.ensures.only c.in_err-write_both.ensures.prefix c.in_err-write_both.ensures.cause)

pub returns-clause-done : goal.returns-clause-done
returns-clause-done g c =
    let is : c.as_bytes.result.now ≡ VERSION.now = search rules in
    let whole : (codes "avrocat " ++ c.as_bytes.result.now) ++ codes "\n" ≡ version_text = ap (λ (v : List ℕ). (codes "avrocat " ++ v) ++ codes "\n") is in
    both_written (codes "avrocat " ++ c.as_bytes.result.now) (codes "\n") version_text whole (g.K.Sink.held c.args.sink.now) (g.K.Sink.held c.write_both.new.note) (g.K.Sink.held c.write_all.new.sink)
    (g.K.Sink.faults c.args.sink.now) (g.K.Sink.faults c.write_both.new.note) (g.K.Sink.faults c.write_all.new.sink) c.in_ok-write_both.ensures.ok c.in_ok-write_both.ensures.never_falls
    c.write_all.result c.write_all.ensures.ok

pub returns-clause-fails : goal.returns-clause-fails
returns-clause-fails g c =
    let is : c.as_bytes.result.now ≡ VERSION.now = search rules in
    let whole : (codes "avrocat " ++ c.as_bytes.result.now) ++ codes "\n" ≡ version_text = ap (λ (v : List ℕ). (codes "avrocat " ++ v) ++ codes "\n") is in
    second_breaks_off (codes "avrocat " ++ c.as_bytes.result.now) (codes "\n") version_text whole (g.K.Sink.held c.args.sink.now) (g.K.Sink.held c.write_both.new.note) (g.K.Sink.held c.write_all.new.sink)
    (g.K.Sink.faults c.args.sink.now) (g.K.Sink.faults c.write_both.new.note) (g.K.Sink.faults c.write_all.new.sink) c.in_ok-write_both.ensures.ok c.in_ok-write_both.ensures.never_falls
    c.write_all.result c.write_all.ensures.only c.write_all.ensures.prefix c.write_all.ensures.cause
