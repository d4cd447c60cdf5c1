use Rattle.std.proofs.Common.{rules}
use Rattle.cli_words.proofs.WordsLemmas.{no_fields, fields_next}
use Rattle.cli_words.proofs.words.read_fields.Goals as goal

pub returns-in_err-field-clause-usage : goal.returns-in_err-field-clause-usage
returns-in_err-field-clause-usage c = λ e.
    no_fields c.args.words.now c.loop-word.word-index c.as_str.result.now (search rules) (search rules) (c.in_err-field.ensures.usage (search (rules, e)))

pub loop-word-preserved : goal.loop-word-preserved
loop-word-preserved c =
    let next = fields_next c.args.words.now c.loop-word.word-index c.loop-word.projection.items c.loop-word.avro_fields.items c.as_str.result.now c.in_ok-field.field.is_kept c.in_ok-field.field.avro_field
    (search rules) (search rules) c.loop-word.invariant c.in_ok-field.ensures.field in
    search (rules, next)
