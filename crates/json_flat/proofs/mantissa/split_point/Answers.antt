use Rattle.std.proofs.Common.{sym, arith}
use Rattle.std.proofs.lemmas.Grind.{common_steps}
use Rattle.json_flat.proofs.Splitting.{no-point, a-point}
use Rattle.json_flat.proofs.mantissa.split_point.Goals as goal

pub returns-in-None-clause-integer : goal.returns-in-None-clause-integer
returns-in-None-clause-integer c = sym (no-point c.args.bytes.now (sym c.in-None.ensures)).2

pub returns-in-None-clause-fraction : goal.returns-in-None-clause-fraction
returns-in-None-clause-fraction c = let p = no-point c.args.bytes.now (sym c.in-None.ensures) in (p.0, p.1)

pub returns-in-Some-clause-fraction : goal.returns-in-Some-clause-fraction
returns-in-Some-clause-fraction c =
    let p = a-point c.args.bytes.now c.in-Some.point (sym c.in-Some.ensures) in
    let behind = p.1 in
    (p.0, grind (arith, common_steps, behind))
