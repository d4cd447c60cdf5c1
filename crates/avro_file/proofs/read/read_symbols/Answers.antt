-- Each symbol is the next string.
use Rattle.std.proofs.Common.{[], ◌∷◌, ◌++◌, drop, ◌+◌, sym, ap, ◌∙◌}
use Rattle.avro_file.specs.Outcome.{need, found}
use Rattle.avro_file.specs.Attributes.{strings_of}
use Rattle.avro_file.proofs.Together.{strings_after}
use Rattle.avro_file.proofs.Parts.{strings_more, strings_stop, strings_end}
use Rattle.avro_file.proofs.read.read_symbols.Goals as goal

pub returns-in_default : goal.returns-in_default
returns-in_default c =
    let stops = strings_stop c.args.items.now c.loop-item.item-index c.item-item.result c.loop-item.symbols.items c.loop-item-test.true c.item-item.is c.in_default.ensures in
    ap (λ strings. need strings found) (sym c.loop-item.invariant ∙ stops)

pub loop-item-preserved : goal.loop-item-preserved
loop-item-preserved c =
    let more = strings_more c.args.items.now c.loop-item.item-index c.item-item.result c.loop-item.symbols.items c.in-Some.symbol.now c.loop-item-test.true c.item-item.is c.in-Some.ensures in
    ap (λ symbols. strings_after symbols (strings_of (drop (c.loop-item.item-index + 1) c.args.items.now))) (c.in_ok-push.ensures.items ∙ ap (λ symbol. c.loop-item.symbols.items ++ symbol ∷ []) c.in_ok-copy_of.ensures.copy) ∙ sym more ∙ c.loop-item.invariant

pub returns : goal.returns
returns c =
    ap (λ strings. need strings found) (sym c.loop-item.invariant ∙ strings_end c.args.items.now c.loop-item.item-index c.loop-item.symbols.items c.loop-item-test.false) ∙ ap found (sym c.from_vec.ensures)
