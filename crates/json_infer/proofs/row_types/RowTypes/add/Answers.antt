use Rattle.std.proofs.lemmas.Result.{on_ok_weaker}
use Rattle.json_infer.proofs.RowLaws.{one_more_row}
use Rattle.json_infer.proofs.row_types.RowTypes.add.Goals as goal

pub returns-clause-added : goal.returns-clause-added
returns-clause-added c =
    on_ok_weaker c.add_kept.result
    (λ h rows k. one_more_row c.self.inside.seen c.add_kept.new.seen rows c.args.json.now c.in_ok-data_type.data_type c.in_ok-data_type.ensures.inferred h (let v = c.self.view_is in cc))
    c.add_kept.ensures.kept
