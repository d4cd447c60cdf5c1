use Rattle.std.proofs.Common.{refl, arith}
use Rattle.arrow_core.proofs.Ends.{ascii_lanes}
use Rattle.arrow_core.proofs.utf8.thirty_two_are_ascii.Goals as goal

pub returns : goal.returns
returns c = ascii_lanes 32 c.args.bytes (omega arith) refl c.fits-bytes.0
