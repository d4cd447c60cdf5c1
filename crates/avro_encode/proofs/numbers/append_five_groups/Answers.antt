use Rattle.std.proofs.Common.{◌/◌, ◌^◌, ℕ, List, [], ◌∷◌, ◌++◌, ◌∙◌, ap}
use Rattle.std.proofs.lemmas.Result.{on_ok_weaker}
use Rattle.avro_encode.proofs.Groups.{appended, five_groups}
use Rattle.avro_encode.proofs.numbers.append_five_groups.Goals as goal

pub returns : goal.returns
returns c =
    let all = five_groups c.args.number _ _ _ _ c.requires.more c.requires.few c.low_group.ensures c.low_group-2.ensures c.low_group-3.ensures c.low_group-4.ensures in
    record { ok = on_ok_weaker c.extend_from_slice.result (λ e. e ∙ ap (λ (z : List ℕ). c.args.out.now.items ++ z) all) (appended c.extend_from_slice.result c.args.out.now.items _ (c.low_group.result ∷ c.low_group-2.result ∷ c.low_group-3.result ∷ c.low_group-4.result ∷ c.args.number / 2 ^ 28 ∷ []) c.extend_from_slice.ensures.items) }
