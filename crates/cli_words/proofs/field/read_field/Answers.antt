use Rattle.std.proofs.Common.{Some, None, rules, arith}
use Rattle.std.proofs.lemmas.Str.Pattern.{strip_prefix_char}
use Rattle.cli_words.proofs.TypeSteps.{no_tilde_field, no_plain_field}
use Rattle.cli_words.proofs.field.read_field.Goals as goal

pub returns-in_err-read_named-in-Some-clause-usage :
    goal.returns-in_err-read_named-in-Some-clause-usage
returns-in_err-read_named-in-Some-clause-usage c = λ e.
    no_tilde_field c.args.word.now c.in-Some.named.now (strip_prefix_char 126 c.args.word.now (Some c.in-Some.named) c.in-Some.ensures.cases (omega arith))
    (c.in_err-read_named-in-Some.ensures.usage (search (rules, e)))

pub returns-in_err-read_named-in-None-clause-usage :
    goal.returns-in_err-read_named-in-None-clause-usage
returns-in_err-read_named-in-None-clause-usage c = λ e.
    no_plain_field c.args.word.now (strip_prefix_char 126 c.args.word.now None c.in-None.ensures.cases (omega arith)) (c.in_err-read_named-in-None.ensures.usage (search (rules, e)))
