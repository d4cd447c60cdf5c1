-- The plans of the first fields.
use Rattle.std.proofs.Common.{take}
use Rattle.line_encode.specs.Makes.{ArePlansOf}
use Rattle.line_encode.proofs.make.+plans.Given as goal

abbrev pub invariant-make_plans-loop-i : goal.invariant-make_plans-loop-i
invariant-make_plans-loop-i l = ArePlansOf (take l.i l.fields) (take l.i l.avro_fields) l.plans.items
