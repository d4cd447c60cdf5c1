use Rattle.std.proofs.Common.{◌≡◌, true, rules}
use Rattle.json_tree.specs.Grammar.{is_exponent_mark}
use Rattle.json_tree.proofs.Turns.{next-known}
use Rattle.json_tree.proofs.Numbers.{exp-digits}
use Rattle.json_tree.proofs.number.exponent_part.Goals as goal

pub returns-then-is_exponent-clause-reads : goal.returns-then-is_exponent-clause-reads
returns-then-is_exponent-clause-reads c =
    let i : is_exponent_mark c.in-Some.byte ≡ true = search rules in
    let s = c.in-Some.ensures in
    let first = next-known c.next.result c.args.reader.now c.next.new.self s.0 c.in-Some.byte s.1 c.next.ensures in
    let g = c.optional_sign.ensures.reads in
    exp-digits c.some_digits.result c.args.reader.now c.next.new.self c.optional_sign.new.reader c.some_digits.new.reader g.0 c.in-Some.byte first i g.1 c.some_digits.ensures.reads
