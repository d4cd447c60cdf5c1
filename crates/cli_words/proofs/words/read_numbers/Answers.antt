use Rattle.std.proofs.Common.{rules}
use Rattle.cli_words.specs.Names.{IsRows}
use Rattle.cli_words.proofs.EachWord.{next, none_of}
use Rattle.cli_words.proofs.words.read_numbers.Goals as goal

pub returns-in_default-clause-usage : goal.returns-in_default-clause-usage
returns-in_default-clause-usage c = λ e.
    none_of IsRows c.args.words.now c.loop-word.word-index c.as_str.result.now (search rules) (search rules) (search (rules, c.in_default.ensures.none))

pub loop-word-preserved : goal.loop-word-preserved
loop-word-preserved c =
    let next = next IsRows c.args.words.now c.loop-word.word-index c.loop-word.numbers.items c.as_str.result.now c.in-Some.number (search rules) (search rules) c.loop-word.invariant (search rules) in
    search (rules, next)
