-- The parts around the first parenthesis are the kind and its numbers.
use Rattle.std.proofs.Common.{arith}
use Rattle.std.proofs.lemmas.Result.{IfOk-weaker}
use Rattle.cli_words.proofs.Bytes.{none_lacks, split_is, split_lacks}
use Rattle.cli_words.proofs.Cuts.{no_parenthesis, fixed_is, decimal_is, not_fixed, not_decimal, not_sized}
use Rattle.cli_words.proofs.sized.read_sized.Goals as goal

pub returns-in_default-clause-usage : goal.returns-in_default-clause-usage
returns-in_default-clause-usage c = λ e. no_parenthesis c.args.word.now (none_lacks 40 c.args.word.now (omega arith) c.in_default.ensures.cases)

pub returns-in-fixed-clause-schema : goal.returns-in-fixed-clause-schema
returns-in-fixed-clause-schema c =
    let at = split_is 40 c.args.word.now c.in-Some.kind.now c.in-Some.numbers.now (omega arith) c.in-Some.ensures.cases in
    IfOk-weaker _ _ _ (λ s f. fixed_is c.args.word.now c.in-Some.kind.now c.in-Some.numbers.now s at c.in-fixed.is f) c.read_fixed.ensures.schema

pub returns-in-fixed-clause-usage : goal.returns-in-fixed-clause-usage
returns-in-fixed-clause-usage c = λ e.
    let at = split_is 40 c.args.word.now c.in-Some.kind.now c.in-Some.numbers.now (omega arith) c.in-Some.ensures.cases in
    let lacks = split_lacks 40 c.args.word.now c.in-Some.kind.now c.in-Some.numbers.now (omega arith) c.in-Some.ensures.cases in
    not_fixed c.args.word.now c.in-Some.kind.now c.in-Some.numbers.now at lacks c.in-fixed.is (c.read_fixed.ensures.usage e)

pub returns-in-decimal-clause-schema : goal.returns-in-decimal-clause-schema
returns-in-decimal-clause-schema c =
    let at = split_is 40 c.args.word.now c.in-Some.kind.now c.in-Some.numbers.now (omega arith) c.in-Some.ensures.cases in
    IfOk-weaker _ _ _ (λ s d. decimal_is c.args.word.now c.in-Some.kind.now c.in-Some.numbers.now s at c.in-decimal.is d) c.read_decimal.ensures.schema

pub returns-in-decimal-clause-usage : goal.returns-in-decimal-clause-usage
returns-in-decimal-clause-usage c = λ e.
    let at = split_is 40 c.args.word.now c.in-Some.kind.now c.in-Some.numbers.now (omega arith) c.in-Some.ensures.cases in
    let lacks = split_lacks 40 c.args.word.now c.in-Some.kind.now c.in-Some.numbers.now (omega arith) c.in-Some.ensures.cases in
    not_decimal c.args.word.now c.in-Some.kind.now c.in-Some.numbers.now at lacks c.in-decimal.is (c.read_decimal.ensures.usage e)

pub returns-in_default-kind-clause-usage : goal.returns-in_default-kind-clause-usage
returns-in_default-kind-clause-usage c = λ e.
    let at = split_is 40 c.args.word.now c.in-Some.kind.now c.in-Some.numbers.now (omega arith) c.in-Some.ensures.cases in
    let lacks = split_lacks 40 c.args.word.now c.in-Some.kind.now c.in-Some.numbers.now (omega arith) c.in-Some.ensures.cases in
    not_sized c.args.word.now c.in-Some.kind.now c.in-Some.numbers.now at lacks c.in_default-kind.not-fixed c.in_default-kind.not-decimal
