use Rattle.std.proofs.Common.{◌≡◌, ◌/◌, ◌%◌, ◌^◌, ◌*◌, arith}
use Rattle.std.proofs.lemmas.Nat.{shr_le, and_mask, one_shl}
use Rattle.arrow_array.proofs.Counts.{ones_counted}
use Rattle.arrow_array.proofs.bitmap.set_in_word.Goals as goal

pub returns-then-n-eq64 : goal.returns-then-n-eq64
returns-then-n-eq64 c =
    let le = shr_le c.args.word c.args.from in
    let e : c.args.word / 2 ^ c.args.from ≡ c.args.word / 2 ^ c.args.from % 2 ^ c.args.n = rw c.if-n-eq64.true (omega (arith, le)) in
    ones_counted c.args.word c.args.from c.args.n _ e

pub returns-else-n-eq64 : goal.returns-else-n-eq64
returns-else-n-eq64 c =
    let one : 1 * 2 ^ c.args.n % 18446744073709551616 ≡ 2 ^ c.args.n = one_shl c.args.n 64 (omega arith) in
    ones_counted c.args.word c.args.from c.args.n _ (rw one (and_mask (c.args.word / 2 ^ c.args.from) c.args.n))
