use Rattle.std.proofs.Common.{◌≡◌, true, false, rules, subst}
use Rattle.cli_words.specs.Fields.{IsField}
use Rattle.cli_words.proofs.EachWord.{next, none_of}
use Rattle.cli_words.proofs.WordsLemmas.{kept_is_kept}
use Rattle.cli_words.proofs.words.read_kept_fields.Goals as goal

pub returns-in_err-field-clause-usage : goal.returns-in_err-field-clause-usage
returns-in_err-field-clause-usage c = λ e.
    none_of (λ word field. IsField word true field) c.args.words.now c.loop-word.word-index c.as_str.result.now (search rules) (search rules) (λ field h. c.in_err-field.ensures.usage (search (rules, e)) true field h)

pub returns-then-not-field-clause-usage : goal.returns-then-not-field-clause-usage
returns-then-not-field-clause-usage c = λ e.
    let field = c.in_ok-field.field in
    let skipped : field.is_kept ≡ false = search rules in
    none_of (λ word other. IsField word true other) c.args.words.now c.loop-word.word-index c.as_str.result.now (search rules) (search rules)
    (kept_is_kept c.as_str.result.now field.avro_field (subst (λ b. IsField c.as_str.result.now b field.avro_field) skipped c.in_ok-field.ensures.field))

pub loop-word-preserved : goal.loop-word-preserved
loop-word-preserved c =
    let more = next (λ word field. IsField word true field) c.args.words.now c.loop-word.word-index c.loop-word.avro_fields.items c.as_str.result.now c.in_ok-field.field.avro_field
    (search rules) (search rules) c.loop-word.invariant (search rules) in
    search (rules, more)
