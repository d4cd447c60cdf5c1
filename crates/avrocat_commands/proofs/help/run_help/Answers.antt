use Rattle.std.proofs.Common.{◌≡◌, ℕ, List, IfErr, subst, rules}
use Rattle.avro_container.specs.Changes.{Change, change_of}
use Rattle.avrocat_commands.specs.Help.{help_text, BreaksOff}
use Rattle.avrocat_commands.proofs.SchemaEndings.{breaks_off}
use Rattle.avrocat_commands.proofs.help.run_help.Goals as goal

pub returns-clause-fails : goal.returns-clause-fails
returns-clause-fails g c =
    let sink : Change = change_of (g.K.Sink.held c.args.sink.now) (g.K.Sink.faults c.args.sink.now) (g.K.Sink.held c.write_all.new.sink) (g.K.Sink.faults c.write_all.new.sink) in
    let is : c.as_bytes.result.now ≡ help_text = search rules in
    subst (λ (text : List ℕ). IfErr c.write_all.result (BreaksOff text sink)) is (breaks_off c.as_bytes.result.now sink c.write_all.result c.write_all.ensures.only c.write_all.ensures.prefix c.write_all.ensures.cause)
