use Rattle.std.proofs.Common.{[], ◌∷◌}
use Rattle.std.proofs.lemmas.Result.{on_ok_weaker}
use Rattle.avro_encode.proofs.Groups.{appended, four_appended}
use Rattle.avro_encode.proofs.numbers.append_low_groups.Goals as goal

pub returns : goal.returns
returns c = record {
  ok = λ left.
      on_ok_weaker c.extend_from_slice.result
      (λ e. four_appended c.args.out.now.items _ left c.args.number _ _ _ _ c.requires.more c.low_group.ensures c.low_group-2.ensures c.low_group-3.ensures c.low_group-4.ensures e) (appended c.extend_from_slice.result c.args.out.now.items _ (c.low_group.result ∷ c.low_group-2.result ∷ c.low_group-3.result ∷ c.low_group-4.result ∷ []) c.extend_from_slice.ensures.items);
}
