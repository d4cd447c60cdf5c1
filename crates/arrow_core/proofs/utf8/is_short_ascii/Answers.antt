use Rattle.std.proofs.Common.{arith}
use Rattle.std.proofs.lemmas.Str.{IsUtf8-from_ascii}
use Rattle.arrow_core.proofs.Ends.{both_true, ascii_ends}
use Rattle.arrow_core.proofs.utf8.is_short_ascii.Goals as goal

pub returns-then-len-ge8 : goal.returns-then-len-ge8
returns-then-len-ge8 c =
    λ t. let both = both_true _ _ t in
    IsUtf8-from_ascii _ (ascii_ends 8 _ (omega (arith, c.if-len-ge8.true)) c.requires.short (c.eight_are_ascii.ensures both.0) (c.eight_are_ascii-then-len-ge8.ensures both.1))

pub returns-then-len-ge4 : goal.returns-then-len-ge4
returns-then-len-ge4 c =
    λ t. let both = both_true _ _ t in
    IsUtf8-from_ascii _ (ascii_ends 4 _ (omega (arith, c.if-len-ge4.true)) (omega (arith, c.if-len-ge8.false)) (c.four_are_ascii.ensures both.0) (c.four_are_ascii-then-len-ge4.ensures both.1))
