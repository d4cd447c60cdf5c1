use Rattle.std.proofs.Common.{ℕ, ◌/◌, List, [], ◌∷◌, ◌++◌, ◌∙◌, ap, arith}
use Rattle.std.proofs.lemmas.Result.{on_ok_weaker}
use Rattle.avro_encode.proofs.Groups.{appended, one_group, one_before, two_groups}
use Rattle.avro_encode.proofs.numbers.append_few_groups.Goals as goal

pub returns-then-number-lt128 : goal.returns-then-number-lt128
returns-then-number-lt128 c = record {
  ok = c.in_ok-push.ensures.items ∙ ap (λ (z : List ℕ). c.args.out.now.items ++ z) (one_group 3 c.args.number c.if-number-lt128.true);
}

pub returns-then-rest-lt128 : goal.returns-then-rest-lt128
returns-then-rest-lt128 c = record {
  ok =
      on_ok_weaker c.extend_from_slice.result
      (λ e. e ∙ ap (λ (z : List ℕ). c.args.out.now.items ++ z) (two_groups 2 c.args.number _ c.low_group-first.ensures (omega (arith, c.if-number-lt128.false)) c.if-rest-lt128.true)) (appended c.extend_from_slice.result c.args.out.now.items _ (c.low_group-first.result ∷ c.args.number / 128 ∷ []) c.extend_from_slice.ensures.items);
}

pub returns-then-rest-lt128-2 : goal.returns-then-rest-lt128-2
returns-then-rest-lt128-2 c =
    let rest = two_groups 1 _ _ c.low_group-second.ensures (omega (arith, c.if-rest-lt128.false)) c.if-rest-lt128-2.true in
    let all = one_before 2 c.args.number _ _ c.low_group-first.ensures (omega (arith, c.if-number-lt128.false)) rest in
    record { ok = on_ok_weaker c.extend_from_slice-then-rest-lt128-2.result (λ e. e ∙ ap (λ (z : List ℕ). c.args.out.now.items ++ z) all) (appended c.extend_from_slice-then-rest-lt128-2.result c.args.out.now.items _ (c.low_group-first.result ∷ c.low_group-second.result ∷ c.args.number / 128 / 128 ∷ []) c.extend_from_slice-then-rest-lt128-2.ensures.items) }

pub returns : goal.returns
returns c =
    let last = two_groups 0 _ _ c.low_group.ensures (omega (arith, c.if-rest-lt128-2.false)) (omega (arith, c.requires.few)) in
    let rest = one_before 1 _ _ _ c.low_group-second.ensures (omega (arith, c.if-rest-lt128.false)) last in
    let all = one_before 2 c.args.number _ _ c.low_group-first.ensures (omega (arith, c.if-number-lt128.false)) rest in
    record { ok = on_ok_weaker c.extend_from_slice-2.result (λ e. e ∙ ap (λ (z : List ℕ). c.args.out.now.items ++ z) all) (appended c.extend_from_slice-2.result c.args.out.now.items _ (c.low_group-first.result ∷ c.low_group-second.result ∷ c.low_group.result ∷ c.args.number / 128 / 128 / 128 ∷ []) c.extend_from_slice-2.ensures.items) }
