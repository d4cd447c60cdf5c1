use Rattle.std.proofs.Common.{ap, sym, ◌∙◌, arith}
use Rattle.json_tree.specs.declared.value.Value.TheVariants as variant
use Rattle.json_columns.proofs.SizedLists.{no_list, sized_no, sized_yes}
use Rattle.json_columns.proofs.gather.sized_items.Goals as goal

pub returns-then-items-size : goal.returns-then-items-size
returns-then-items-size c =
    sized_yes c.args.size c.args.value.now c.as_slice-items.result.now (c.in-Array.is ∙ ap variant.Array (sym c.as_slice-items.ensures)) (omega (arith, c.if-items-size.true))

pub returns-else-items-size : goal.returns-else-items-size
returns-else-items-size c =
    sized_no c.args.size c.args.value.now c.as_slice-items.result.now (c.in-Array.is ∙ ap variant.Array (sym c.as_slice-items.ensures)) (λ e. c.if-items-size.false e)

pub returns-in_default : goal.returns-in_default
returns-in_default c = no_list c.args.size c.args.value.now c.in_default.not-Array
