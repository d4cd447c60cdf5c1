use Rattle.std.proofs.Common.{Some, None}
use Rattle.std.proofs.lemmas.Str.Pattern.{strip_prefix_char, strip_suffix_char}
use Rattle.cli_words.proofs.TypeSteps.{inside_some, inside_none}
use Rattle.cli_words.proofs.parts.inside_of.Goals as goal

pub returns-in_default-clause-none : goal.returns-in_default-clause-none
returns-in_default-clause-none c = λ e inside. strip_prefix_char c.args.opening c.args.word.now None c.in_default.ensures.cases c.requires.opening _

pub returns-clause-inside : goal.returns-clause-inside
returns-clause-inside c =
    inside_some c.args.word.now c.in-Some.rest.now c.args.opening c.args.closing c.strip_suffix.result
    (strip_prefix_char c.args.opening c.args.word.now (Some c.in-Some.rest) c.in-Some.ensures.cases c.requires.opening)
    (strip_suffix_char c.args.closing c.in-Some.rest.now c.strip_suffix.result c.strip_suffix.ensures.cases c.requires.closing)

pub returns-clause-none : goal.returns-clause-none
returns-clause-none c =
    inside_none c.args.word.now c.in-Some.rest.now c.args.opening c.args.closing c.strip_suffix.result
    (strip_prefix_char c.args.opening c.args.word.now (Some c.in-Some.rest) c.in-Some.ensures.cases c.requires.opening)
    (strip_suffix_char c.args.closing c.in-Some.rest.now c.strip_suffix.result c.strip_suffix.ensures.cases c.requires.closing)
