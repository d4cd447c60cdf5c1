use Rattle.std.proofs.Common.{rules, arith, false, true}
use Rattle.cli_words.proofs.WordsLemmas.{no_block, begins, stands_for}
use Rattle.cli_words.proofs.words.read_words.Goals as goal

pub returns-in_err-read_block-in-block-clause-usage :
    goal.returns-in_err-read_block-in-block-clause-usage
returns-in_err-read_block-in-block-clause-usage c =
    λ e. no_block c.args.words.now c.command-item.result _ false (begins c.args.words.now c.command-item.result (omega (arith, c.in-len1-up.len_at_least)) c.command-item.is) (search rules) (c.in_err-read_block-in-block.ensures.usage (search (rules, e)))

pub returns-in_err-read_block-in-text-clause-usage :
    goal.returns-in_err-read_block-in-text-clause-usage
returns-in_err-read_block-in-text-clause-usage c =
    λ e. no_block c.args.words.now c.command-item.result _ true (begins c.args.words.now c.command-item.result (omega (arith, c.in-len1-up.len_at_least)) c.command-item.is) (search rules) (c.in_err-read_block-in-text.ensures.usage (search (rules, e)))

pub returns-in_ok-read_block-in-block-clause-command :
    goal.returns-in_ok-read_block-in-block-clause-command
returns-in_ok-read_block-in-block-clause-command c =
    let r = c.in_ok-read_block-in-block in
    stands_for c.args.words.now c.command-item.result _ false r.field-0 (begins c.args.words.now c.command-item.result (omega (arith, c.in-len1-up.len_at_least)) c.command-item.is) (search rules) r.ensures.large r.ensures.block

pub returns-in_ok-read_block-in-text-clause-command :
    goal.returns-in_ok-read_block-in-text-clause-command
returns-in_ok-read_block-in-text-clause-command c =
    let r = c.in_ok-read_block-in-text in
    stands_for c.args.words.now c.command-item.result _ true r.field-0 (begins c.args.words.now c.command-item.result (omega (arith, c.in-len1-up.len_at_least)) c.command-item.is) (search rules) r.ensures.large r.ensures.block
