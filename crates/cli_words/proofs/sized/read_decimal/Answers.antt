-- The first comma ends the precision, and the second the scale.
use Rattle.std.proofs.Common.{arith}
use Rattle.std.proofs.lemmas.Result.{IfOk-weaker}
use Rattle.cli_words.proofs.Bytes.{none_lacks, split_is, split_lacks}
use Rattle.cli_words.proofs.Cuts.{no_comma, two_numbers, three_numbers, no_two, no_three}
use Rattle.cli_words.proofs.sized.read_decimal.Goals as goal

pub returns-in_default-clause-usage : goal.returns-in_default-clause-usage
returns-in_default-clause-usage c = λ e. no_comma c.args.numbers.now (none_lacks 44 c.args.numbers.now (omega arith) c.in_default.ensures.cases)

pub returns-in-None-clause-schema : goal.returns-in-None-clause-schema
returns-in-None-clause-schema c =
    let at = split_is 44 c.args.numbers.now c.in-Some.precision.now c.in-Some.rest.now (omega arith) c.in-Some.ensures.cases in
    IfOk-weaker _ _ _ (λ s d. two_numbers c.args.numbers.now c.in-Some.precision.now c.in-Some.rest.now s at d) c.read_bytes_decimal.ensures.schema

pub returns-in-None-clause-usage : goal.returns-in-None-clause-usage
returns-in-None-clause-usage c = λ e.
    let at = split_is 44 c.args.numbers.now c.in-Some.precision.now c.in-Some.rest.now (omega arith) c.in-Some.ensures.cases in
    let lacks = split_lacks 44 c.args.numbers.now c.in-Some.precision.now c.in-Some.rest.now (omega arith) c.in-Some.ensures.cases in
    no_two c.args.numbers.now c.in-Some.precision.now c.in-Some.rest.now at lacks (none_lacks 44 c.in-Some.rest.now (omega arith) c.in-None.ensures.cases) (c.read_bytes_decimal.ensures.usage e)

pub returns-in-Some-split_once-clause-schema : goal.returns-in-Some-split_once-clause-schema
returns-in-Some-split_once-clause-schema c =
    let at = split_is 44 c.args.numbers.now c.in-Some.precision.now c.in-Some.rest.now (omega arith) c.in-Some.ensures.cases in
    let more = split_is 44 c.in-Some.rest.now c.in-Some-split_once.scale.now c.in-Some-split_once.size.now (omega arith) c.in-Some-split_once.ensures.cases in
    IfOk-weaker _ _ _ (λ s d. three_numbers c.args.numbers.now c.in-Some.precision.now c.in-Some.rest.now c.in-Some-split_once.scale.now c.in-Some-split_once.size.now s at more d) c.read_fixed_decimal.ensures.schema

pub returns-in-Some-split_once-clause-usage : goal.returns-in-Some-split_once-clause-usage
returns-in-Some-split_once-clause-usage c = λ e.
    let at = split_is 44 c.args.numbers.now c.in-Some.precision.now c.in-Some.rest.now (omega arith) c.in-Some.ensures.cases in
    let lacks = split_lacks 44 c.args.numbers.now c.in-Some.precision.now c.in-Some.rest.now (omega arith) c.in-Some.ensures.cases in
    let more = split_is 44 c.in-Some.rest.now c.in-Some-split_once.scale.now c.in-Some-split_once.size.now (omega arith) c.in-Some-split_once.ensures.cases in
    let also = split_lacks 44 c.in-Some.rest.now c.in-Some-split_once.scale.now c.in-Some-split_once.size.now (omega arith) c.in-Some-split_once.ensures.cases in
    no_three c.args.numbers.now c.in-Some.precision.now c.in-Some.rest.now c.in-Some-split_once.scale.now c.in-Some-split_once.size.now at more lacks also (c.read_fixed_decimal.ensures.usage e)
