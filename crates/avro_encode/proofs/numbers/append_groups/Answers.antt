use Rattle.std.proofs.Common.{ℕ, List, ◌++◌, ◌∙◌, ◌<◌, ◌/◌, ◌^◌, ap, arith}
use Rattle.std.proofs.lemmas.Result.{on_ok_weaker}
use Rattle.avro_encode.proofs.Groups.{same_four, same_two}
use Rattle.avro_encode.proofs.numbers.append_groups.Goals as goal

pub returns-then-number : goal.returns-then-number
returns-then-number c = record {
  ok = on_ok_weaker c.append_few_groups.result (λ e. e ∙ ap (λ (z : List ℕ). c.args.out.now.items ++ z) (same_four 0 6 c.args.number c.if-number.true)) c.append_few_groups.ensures.ok;
}

pub returns-then-rest : goal.returns-then-rest
returns-then-rest c =
    let low = c.in_ok-append_low_groups.ensures.ok 5 in
    record {
      ok =
          on_ok_weaker c.append_few_groups-then-rest.result
          (λ e. e ∙ ap (λ (z : List ℕ). c.append_low_groups.new.out.items ++ z) (same_four 0 2 (c.args.number / 2 ^ 28) c.if-rest.true) ∙ low) c.append_few_groups-then-rest.ensures.ok;
    }

pub returns : goal.returns
returns c =
    let rest = c.args.number / 2 ^ 28 in
    let low = c.in_ok-append_low_groups.ensures.ok 5 in
    let next = c.in_ok-append_low_groups-2.ensures.ok 1 in
    let few : rest / 2 ^ 28 < 2 ^ 14 = omega (arith, c.ranges.number.fits) in
    record {
      ok = on_ok_weaker c.append_few_groups-2.result (λ e. e ∙ ap (λ (z : List ℕ). c.append_low_groups-2.new.out.items ++ z) (same_two 2 0 (rest / 2 ^ 28) few) ∙ next ∙ low) c.append_few_groups-2.ensures.ok;
    }
