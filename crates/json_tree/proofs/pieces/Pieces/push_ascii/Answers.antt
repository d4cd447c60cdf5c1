use Rattle.std.proofs.Common.{ℕ, zero, suc, ◌<◌, [], ◌∷◌, arith}
use Rattle.std.proofs.lemmas.Str.{IsUtf8-from_ascii}
use Rattle.std.specs.Str.{IsAscii}
use Rattle.json_tree.proofs.pieces.Pieces.push_ascii.Goals as goal

one-IsAscii : (b : ℕ) → b < 128 → IsAscii (b ∷ [])
one-IsAscii b l zero = l
one-IsAscii b l (suc i) = omega arith

pub from_utf8_unchecked-requires : goal.from_utf8_unchecked-requires
from_utf8_unchecked-requires c = IsUtf8-from_ascii (c.args.byte ∷ []) (one-IsAscii c.args.byte c.requires)
