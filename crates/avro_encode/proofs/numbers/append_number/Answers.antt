use Rattle.std.proofs.Common.{w64, ◌++◌, ap, ◌∙◌}
use Rattle.std.proofs.lemmas.Int.{to_z-of_z}
use Rattle.std.proofs.lemmas.Result.{on_ok_weaker}
use Rattle.avro_container.specs.Shortest.{groups, zigzagged}
use Rattle.avro_encode.proofs.numbers.append_number.Goals as goal

pub returns : goal.returns
returns c =
    let same = c.zigzagged.ensures ∙ ap zigzagged (to_z-of_z w64 c.args.value c.ranges.value) in
    record { ok = on_ok_weaker c.append_groups.result (λ e. e ∙ ap (λ n. c.args.out.now.items ++ groups 9 n) same) c.append_groups.ensures.ok }
