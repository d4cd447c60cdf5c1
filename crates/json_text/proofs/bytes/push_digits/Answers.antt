-- There is capacity for the digits.
use Rattle.std.proofs.Common.{◌≤◌, arith, rules}
use Rattle.std.proofs.lemmas.Fmt.{length-decimal-le}
use Rattle.json_text.proofs.bytes.push_digits.Goals as goal

pub overflow_add-end : goal.overflow_add-end
overflow_add-end c =
    let short = length-decimal-le 20 c.args.integer (omega arith) (omega arith) c.ranges.integer.fits in
    let count : c.count_digits.result ≤ 20 = omega (arith, c.count_digits.ensures, short) in
    search (rules, count)

pub write_digits-requires : goal.write_digits-requires
write_digits-requires c =
    let short = length-decimal-le 20 c.args.integer (omega arith) (omega arith) c.ranges.integer.fits in
    let count : c.count_digits.result ≤ 20 = omega (arith, c.count_digits.ensures, short) in
    (omega (arith, c.count_digits.ensures), omega (arith, count, c.as_mut_slice.ensures.len, c.truncate.ensures.len, c.in_ok-extend_from_slice.ensures.len, c.len-start.ensures))
