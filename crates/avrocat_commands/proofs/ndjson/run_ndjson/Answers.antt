use Rattle.std.proofs.Common.{rules, ◌≡◌, ◌∙◌, ℕ, List, Option, Some, sym, ap, subst}
use Rattle.std.specs.Option.{option_copied}
use Rattle.avro_container.specs.Changes.{Change, change_of}
use Rattle.avro_ndjson.specs.Refusals.{ConversionFails}
use Rattle.avrocat_commands.specs.Input.{byte_limit}
use Rattle.avrocat_commands.specs.Ndjson.{keep_of}
use Rattle.avrocat_commands.proofs.KeepWords.{keep_none, keep_some}
use Rattle.avrocat_commands.proofs.ndjson.run_ndjson.Goals.{then-is_empty, else-is_empty}
use Rattle.avrocat_commands.proofs.ndjson.run_ndjson.Goals as goal

pub returns-clause-fails : goal.returns-clause-fails
returns-clause-fails g c =
    let items : c.as_slice-numbers.result.now ≡ c.args.numbers = search rules in
    let keep : option_copied c.if-is_empty.keep ≡ keep_of c.args.numbers = elim c.if-is_empty.branch [
      | then-is_empty w ↦ ap option_copied w.keep-is ∙ sym (keep_none c.as_slice-numbers.result.now c.args.numbers items w.if-is_empty.ensures)
      | else-is_empty w ↦ ap option_copied w.keep-is ∙ ap Some items ∙ sym (keep_some c.as_slice-numbers.result.now c.args.numbers items w.if-is_empty.ensures)
    ] in
    let source : Change = change_of (g.S.Source.left c.args.source.now) (g.S.Source.faults c.args.source.now) (g.S.Source.left c.avro_to_ndjson.new.source) (g.S.Source.faults c.avro_to_ndjson.new.source) in
    let sink : Change = change_of (g.K.Sink.held c.args.sink.now) (g.K.Sink.faults c.args.sink.now) (g.K.Sink.held c.avro_to_ndjson.new.sink) (g.K.Sink.faults c.avro_to_ndjson.new.sink) in
    subst (λ (k : Option (List ℕ)). ConversionFails k byte_limit source sink c.in-Err.error) keep c.in-Err.ensures.err
