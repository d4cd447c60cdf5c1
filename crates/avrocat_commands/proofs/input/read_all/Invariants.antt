-- The bytes so far were taken from the source. Each turn takes at least one, and the piece keeps its length.
use Rattle.std.proofs.Common.{◌≡◌, ◌-◌, ◌≤◌, vec_len}
use Rattle.std.specs.Io.KnownBytes.{Consumes}
use Rattle.avrocat_commands.proofs.input.read_all.Given as goal

abbrev pub invariant-loop-bytes : goal.invariant-loop-bytes
invariant-loop-bytes g l =
    record {
      piece : vec_len l.piece ≡ 65536;
      within : vec_len l.bytes ≤ 1073741825;
      taken : Consumes (g.S.Source.left l.fn.source) (g.S.Source.left l.source) l.bytes.items;
      faults : g.S.Source.faults l.fn.source ≤ g.S.Source.faults l.source;
      same : g.S.Source.identity l.source ≡ g.S.Source.identity l.fn.source;
    }

abbrev pub decreases-loop-bytes : goal.decreases-loop-bytes
decreases-loop-bytes g l = 1073741825 - vec_len l.bytes
