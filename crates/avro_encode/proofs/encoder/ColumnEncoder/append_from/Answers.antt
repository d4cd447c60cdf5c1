use Rattle.std.proofs.Common.{◌∙◌, ◌++◌, ℕ, List, drop, ap}
use Rattle.std.specs.List.{concat}
use Rattle.std.proofs.lemmas.Result.{on_ok_weaker}
use Rattle.avro_encode.specs.Columns.{column_encoding, column_slots}
use Rattle.avro_encode.proofs.ColumnItems.{items_joined}
use Rattle.avro_encode.proofs.encoder.ColumnEncoder.append_from.Goals as goal

pub returns : goal.returns
returns c = record {
  ok =
      let inside = c.self.inside in
      on_ok_weaker c.append_from.result
      (λ e. e ∙ ap (λ (z : List ℕ). c.args.out.now.items ++ z) (items_joined (column_encoding inside.nulls inside.kind) (column_slots inside.kind) c.args.start ∙ ap (λ (z : List (List ℕ)). concat (drop c.args.start z)) c.self.view_is))
      c.append_from.ensures.ok;
}
