-- The rows of the first lines were appended.
use Rattle.std.proofs.Common.{take}
use Rattle.line_encode.specs.Plans.{PushesLines}
use Rattle.line_encode.proofs.lines.push_lines.Given as goal

abbrev pub invariant-loop-line : goal.invariant-loop-line
invariant-loop-line l = PushesLines l.names l.plans (take l.line-index l.lines) l.fn.out.items l.out.items
