-- Each way in which a command ends, and what its status tells.
use Rattle.std.proofs.Common.{Err, ap, inl, inr, refl}
use Rattle.arrow_core.specs.declared.error.Error.TheVariants.{OutOfMemory}
use Rattle.avro_container.specs.Changes.{change_of}
use Rattle.avrocat_commands.proofs.Endings.{is_done, is_silent, not_one, is_refused, is_complete, is_due, keeps_same}
use Rattle.avrocat_commands.proofs.program.run.Goals as goal

pub returns-in-Ok-clause-done : goal.returns-in-Ok-clause-done
returns-in-Ok-clause-done g c =
    let source = change_of (g.S.Source.left c.args.source.now) (g.S.Source.faults c.args.source.now) (g.S.Source.left c.run_command.new.source) (g.S.Source.faults c.run_command.new.source) in
    let sink = change_of (g.K.Sink.held c.args.sink.now) (g.K.Sink.faults c.args.sink.now) (g.K.Sink.held c.run_command.new.sink) (g.K.Sink.faults c.run_command.new.sink) in
    let note = change_of (g.N.Sink.held c.args.note.now) (g.N.Sink.faults c.args.note.now) (g.N.Sink.held c.exit_status.new.note) (g.N.Sink.faults c.exit_status.new.note) in
    is_done c.exit_status.result c.args.words.now source sink note c.in-Ok.command c.in-Ok.ensures.command c.run_command.result c.exit_status.ensures c.run_command.ensures.done

pub returns-in-Ok-clause-silent : goal.returns-in-Ok-clause-silent
returns-in-Ok-clause-silent g c =
    let source = change_of (g.S.Source.left c.args.source.now) (g.S.Source.faults c.args.source.now) (g.S.Source.left c.run_command.new.source) (g.S.Source.faults c.run_command.new.source) in
    let sink = change_of (g.K.Sink.held c.args.sink.now) (g.K.Sink.faults c.args.sink.now) (g.K.Sink.held c.run_command.new.sink) (g.K.Sink.faults c.run_command.new.sink) in
    let note = change_of (g.N.Sink.held c.args.note.now) (g.N.Sink.faults c.args.note.now) (g.N.Sink.held c.exit_status.new.note) (g.N.Sink.faults c.exit_status.new.note) in
    is_silent c.exit_status.result c.args.words.now source sink note c.in-Ok.command c.in-Ok.ensures.command c.run_command.result c.exit_status.ensures

pub returns-in-Ok-clause-usage : goal.returns-in-Ok-clause-usage
returns-in-Ok-clause-usage g c =
    let source = change_of (g.S.Source.left c.args.source.now) (g.S.Source.faults c.args.source.now) (g.S.Source.left c.run_command.new.source) (g.S.Source.faults c.run_command.new.source) in
    let sink = change_of (g.K.Sink.held c.args.sink.now) (g.K.Sink.faults c.args.sink.now) (g.K.Sink.held c.run_command.new.sink) (g.K.Sink.faults c.run_command.new.sink) in
    let note = change_of (g.N.Sink.held c.args.note.now) (g.N.Sink.faults c.args.note.now) (g.N.Sink.held c.exit_status.new.note) (g.N.Sink.faults c.exit_status.new.note) in
    λ one. absurd (not_one c.exit_status.result c.args.words.now source sink note c.in-Ok.command c.in-Ok.ensures.command c.run_command.result c.exit_status.ensures one)

pub returns-in-Ok-clause-usage_noted : goal.returns-in-Ok-clause-usage_noted
returns-in-Ok-clause-usage_noted g c =
    let source = change_of (g.S.Source.left c.args.source.now) (g.S.Source.faults c.args.source.now) (g.S.Source.left c.run_command.new.source) (g.S.Source.faults c.run_command.new.source) in
    let sink = change_of (g.K.Sink.held c.args.sink.now) (g.K.Sink.faults c.args.sink.now) (g.K.Sink.held c.run_command.new.sink) (g.K.Sink.faults c.run_command.new.sink) in
    let note = change_of (g.N.Sink.held c.args.note.now) (g.N.Sink.faults c.args.note.now) (g.N.Sink.held c.exit_status.new.note) (g.N.Sink.faults c.exit_status.new.note) in
    λ one. absurd (not_one c.exit_status.result c.args.words.now source sink note c.in-Ok.command c.in-Ok.ensures.command c.run_command.result c.exit_status.ensures one)

pub returns-in-Ok-clause-unread : goal.returns-in-Ok-clause-unread
returns-in-Ok-clause-unread g c =
    let source = change_of (g.S.Source.left c.args.source.now) (g.S.Source.faults c.args.source.now) (g.S.Source.left c.run_command.new.source) (g.S.Source.faults c.run_command.new.source) in
    let sink = change_of (g.K.Sink.held c.args.sink.now) (g.K.Sink.faults c.args.sink.now) (g.K.Sink.held c.run_command.new.sink) (g.K.Sink.faults c.run_command.new.sink) in
    let note = change_of (g.N.Sink.held c.args.note.now) (g.N.Sink.faults c.args.note.now) (g.N.Sink.held c.exit_status.new.note) (g.N.Sink.faults c.exit_status.new.note) in
    λ one. absurd (not_one c.exit_status.result c.args.words.now source sink note c.in-Ok.command c.in-Ok.ensures.command c.run_command.result c.exit_status.ensures one)

pub returns-in-Ok-clause-unwritten : goal.returns-in-Ok-clause-unwritten
returns-in-Ok-clause-unwritten g c =
    let source = change_of (g.S.Source.left c.args.source.now) (g.S.Source.faults c.args.source.now) (g.S.Source.left c.run_command.new.source) (g.S.Source.faults c.run_command.new.source) in
    let sink = change_of (g.K.Sink.held c.args.sink.now) (g.K.Sink.faults c.args.sink.now) (g.K.Sink.held c.run_command.new.sink) (g.K.Sink.faults c.run_command.new.sink) in
    let note = change_of (g.N.Sink.held c.args.note.now) (g.N.Sink.faults c.args.note.now) (g.N.Sink.held c.exit_status.new.note) (g.N.Sink.faults c.exit_status.new.note) in
    λ one. absurd (not_one c.exit_status.result c.args.words.now source sink note c.in-Ok.command c.in-Ok.ensures.command c.run_command.result c.exit_status.ensures one)

pub returns-in-Ok-clause-refused : goal.returns-in-Ok-clause-refused
returns-in-Ok-clause-refused g c =
    let source = change_of (g.S.Source.left c.args.source.now) (g.S.Source.faults c.args.source.now) (g.S.Source.left c.run_command.new.source) (g.S.Source.faults c.run_command.new.source) in
    let sink = change_of (g.K.Sink.held c.args.sink.now) (g.K.Sink.faults c.args.sink.now) (g.K.Sink.held c.run_command.new.sink) (g.K.Sink.faults c.run_command.new.sink) in
    let note = change_of (g.N.Sink.held c.args.note.now) (g.N.Sink.faults c.args.note.now) (g.N.Sink.held c.exit_status.new.note) (g.N.Sink.faults c.exit_status.new.note) in
    is_refused c.exit_status.result c.args.words.now source sink note c.in-Ok.command c.in-Ok.ensures.command c.run_command.result c.exit_status.ensures c.run_command.ensures.fails

pub returns-in-Ok-clause-no_command : goal.returns-in-Ok-clause-no_command
returns-in-Ok-clause-no_command g c =
    λ none. absurd (none c.in-Ok.command c.in-Ok.ensures.command)

pub returns-in-Ok-clause-complete : goal.returns-in-Ok-clause-complete
returns-in-Ok-clause-complete g c =
    let source = change_of (g.S.Source.left c.args.source.now) (g.S.Source.faults c.args.source.now) (g.S.Source.left c.run_command.new.source) (g.S.Source.faults c.run_command.new.source) in
    let sink = change_of (g.K.Sink.held c.args.sink.now) (g.K.Sink.faults c.args.sink.now) (g.K.Sink.held c.run_command.new.sink) (g.K.Sink.faults c.run_command.new.sink) in
    let note = change_of (g.N.Sink.held c.args.note.now) (g.N.Sink.faults c.args.note.now) (g.N.Sink.held c.exit_status.new.note) (g.N.Sink.faults c.exit_status.new.note) in
    is_complete c.exit_status.result c.args.words.now source sink note c.in-Ok.command c.in-Ok.ensures.command c.run_command.result c.exit_status.ensures c.run_command.ensures.fails

pub returns-in-Ok-clause-due : goal.returns-in-Ok-clause-due
returns-in-Ok-clause-due g c =
    let source = change_of (g.S.Source.left c.args.source.now) (g.S.Source.faults c.args.source.now) (g.S.Source.left c.run_command.new.source) (g.S.Source.faults c.run_command.new.source) in
    let sink = change_of (g.K.Sink.held c.args.sink.now) (g.K.Sink.faults c.args.sink.now) (g.K.Sink.held c.run_command.new.sink) (g.K.Sink.faults c.run_command.new.sink) in
    let note = change_of (g.N.Sink.held c.args.note.now) (g.N.Sink.faults c.args.note.now) (g.N.Sink.held c.exit_status.new.note) (g.N.Sink.faults c.exit_status.new.note) in
    is_due c.exit_status.result c.args.words.now source sink note c.in-Ok.command c.in-Ok.ensures.command c.run_command.result c.exit_status.ensures c.run_command.ensures.done c.run_command.ensures.fails

pub returns-in-Err-Usage-clause-usage : goal.returns-in-Err-Usage-clause-usage
returns-in-Err-Usage-clause-usage g c =
    λ one. c.in-Err-Usage.ensures.usage (ap Err c.in-Err-Usage.field-0-is)

pub returns-in-Err-Usage-clause-no_command : goal.returns-in-Err-Usage-clause-no_command
returns-in-Err-Usage-clause-no_command g c =
    λ none. inl refl

pub returns-in-Err-Usage-clause-complete : goal.returns-in-Err-Usage-clause-complete
returns-in-Err-Usage-clause-complete g c =
    λ command stands can open_ended. absurd (c.in-Err-Usage.ensures.usage (ap Err c.in-Err-Usage.field-0-is) command stands)

pub returns-in-Err-Usage-clause-due : goal.returns-in-Err-Usage-clause-due
returns-in-Err-Usage-clause-due g c =
    λ command e stands due. absurd (c.in-Err-Usage.ensures.usage (ap Err c.in-Err-Usage.field-0-is) command stands)

pub returns-in-Err-Memory-clause-refused : goal.returns-in-Err-Memory-clause-refused
returns-in-Err-Memory-clause-refused g c =
    λ more. record { error = OutOfMemory; is = c.exit_status-in-Err-Memory.ensures.0; cause = inl (refl, keeps_same _, keeps_same _); noted = c.exit_status-in-Err-Memory.ensures.1 }

pub returns-in-Err-Memory-clause-no_command : goal.returns-in-Err-Memory-clause-no_command
returns-in-Err-Memory-clause-no_command g c =
    λ none. inr c.exit_status-in-Err-Memory.ensures.0

pub returns-in-Err-Memory-clause-complete : goal.returns-in-Err-Memory-clause-complete
returns-in-Err-Memory-clause-complete g c =
    λ command stands can open_ended. inr c.exit_status-in-Err-Memory.ensures.0

pub returns-in-Err-Memory-clause-due : goal.returns-in-Err-Memory-clause-due
returns-in-Err-Memory-clause-due g c =
    λ command e stands due. inr c.exit_status-in-Err-Memory.ensures.0
