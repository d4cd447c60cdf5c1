-- Each turn adds the line of one column.
use Rattle.std.proofs.Common.{◌≡◌, ◌∙◌, ◌++◌, ap, get_or}
use Rattle.arrow_array.specs.Arrays.{array_slots}
use Rattle.avrocat_commands.specs.Shown.{line_of}
use Rattle.avrocat_commands.proofs.ShownLemmas.{lines_more}
use Rattle.avrocat_commands.proofs.lines.Lines.push_columns.Goals as goal

pub loop-i-preserved : goal.loop-i-preserved
loop-i-preserved c =
    let name : c.as_str.result.now ≡ get_or c.args.names.now c.loop-i.i c.index-names-i.result = c.as_str.ensures ∙ c.index-names-i.is in
    let column = c.index-columns-i.is in
    let line = c.in_ok-push_column.ensures.ok ∙ ap (λ z. c.loop-i.self.text.items ++ z) (λ i. line_of (name i) (array_slots (column i))) in
    lines_more _ _ _ _ _ c.loop-i.i c.index-names-i.result c.index-columns-i.result c.loop-i-test.true c.requires c.loop-i.invariant line
