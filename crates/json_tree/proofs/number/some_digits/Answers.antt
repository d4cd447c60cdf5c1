use Rattle.std.proofs.Common.{◌≡◌, true, rules}
use Rattle.json_tree.specs.Grammar.{is_digit}
use Rattle.json_tree.proofs.Numbers.{digits-step}
use Rattle.json_tree.proofs.number.some_digits.Goals as goal

pub returns-else-not-is_decimal-clause-reads : goal.returns-else-not-is_decimal-clause-reads
returns-else-not-is_decimal-clause-reads c =
    let d : is_digit c.in-Some.byte ≡ true = search rules in
    rw c.skip_digits.ensures.skipped (digits-step c.args.reader.now c.next.new.self c.in-Some.byte c.in-Some.ensures d)
