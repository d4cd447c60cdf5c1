use Rattle.std.proofs.Common.{arith}
use Rattle.std.proofs.lemmas.Str.{IsUtf8-from_ascii}
use Rattle.arrow_core.proofs.Ends.{both_true, ascii_ends}
use Rattle.arrow_core.proofs.utf8.is_middle_ascii.Goals as goal

pub returns-then-len-ge32 : goal.returns-then-len-ge32
returns-then-len-ge32 c =
    λ t. let both = both_true _ _ t in
    IsUtf8-from_ascii _ (ascii_ends 32 _ (omega (arith, c.if-len-ge32.true)) c.requires.short (c.thirty_two_are_ascii.ensures both.0) (c.thirty_two_are_ascii-then-len-ge32.ensures both.1))

pub returns : goal.returns
returns c =
    λ t. let both = both_true _ _ t in
    IsUtf8-from_ascii _ (ascii_ends 16 _ c.requires.long (omega (arith, c.if-len-ge32.false)) (c.sixteen_are_ascii.ensures both.0) (c.sixteen_are_ascii-2.ensures both.1))
