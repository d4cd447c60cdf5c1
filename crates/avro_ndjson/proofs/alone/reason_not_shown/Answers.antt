-- What is answered of a record of the field is answered of the field.
use Rattle.std.proofs.Common.{List, Option, None, Result, IfOk, sym, subst}
use Rattle.arrow_core.specs.declared.error.Error.{Error}
use Rattle.arrow_core.specs.declared.error.Error.TheVariants.{NotYetImplemented}
use Rattle.arrow_core.specs.declared.error.Reason.{Reason}
use Rattle.avro_schema.specs.declared.schema.AvroField.{AvroField}
use Rattle.avro_schema.specs.declared.schema.Record.{out-Record}
use Rattle.avro_ndjson.specs.Alone.{IsAnswered}
use Rattle.avro_ndjson.specs.Refusals.{CannotBeShown}
use Rattle.avro_ndjson.specs.Shown.{CanBeShown}
use Rattle.avro_ndjson.proofs.alone.reason_not_shown.Goals.{in-Ok, in-Err-NotYetImplemented, in-Err}
use Rattle.avro_ndjson.proofs.alone.reason_not_shown.Goals as goal

pub returns-clause-answered : goal.returns-clause-answered
returns-clause-answered c = elim c.match-new.branch [
  | in-Ok w ↦ subst (λ (r : Result (Option Reason) Error). IfOk r (IsAnswered c.args.field.now)) (sym w.result-is)
      (w.in-Ok.field-0.decoder.fields, subst (λ (fs : List AvroField). CanBeShown None fs w.in-Ok.field-0.decoder.fields) c.in_ok-root.ensures.fields w.in-Ok.ensures.shown)
  | in-Err-NotYetImplemented w ↦ subst (λ (r : Result (Option Reason) Error). IfOk r (IsAnswered c.args.field.now)) (sym w.result-is)
      (subst (λ (fs : List AvroField). CannotBeShown None fs (NotYetImplemented w.in-Err-NotYetImplemented.reason)) c.in_ok-root.ensures.fields
      (subst (λ (e : Error). CannotBeShown None (out-Record c.in_ok-root.root).fields e) w.in-Err-NotYetImplemented.field-0-is w.in-Err-NotYetImplemented.ensures.err))
  | in-Err w ↦ subst (λ (r : Result (Option Reason) Error). IfOk r (IsAnswered c.args.field.now)) (sym w.result-is) tt
]
