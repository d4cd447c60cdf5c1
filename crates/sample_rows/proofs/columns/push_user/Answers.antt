use Rattle.std.proofs.Common.{◌≡◌, ◌∙◌, ◌%◌, arith, sym, ap}
use Rattle.std.proofs.lemmas.Bool.Decides.{nat_tests}
use Rattle.arrow_core.specs.declared.slot.Slot.TheVariants as slot
use Rattle.sample_rows.specs.Drawing.{drawn, user}
use Rattle.sample_rows.proofs.Growing.{no_user, same_slot, some_user}
use Rattle.sample_rows.proofs.columns.push_user.Goals as goal

pub returns-then-number-eq0-clause-ok : goal.returns-then-number-eq0-clause-ok
returns-then-number-eq0-clause-ok c =
    let none : c.drawn-number.result % 4 ≡ 0 = grind (arith, nat_tests, c.if-number-eq0.true) in
    same_slot c.push_string.result c.args.column.now.slots c.push_string.new.strings.slots slot.Null (user c.args.state)
    (no_user c.args.state c.drawn-number.result (c.drawn-number.ensures ∙ ap drawn c.next.ensures) none) c.push_string.ensures.ok

pub returns-clause-ok : goal.returns-clause-ok
returns-clause-ok c =
    let some : c.drawn-number.result % 4 ≡ 0 → ⊥ = λ z. grind (arith, nat_tests, z, c.if-number-eq0.false) in
    same_slot c.push_string-2.result c.args.column.now.slots c.push_string-2.new.strings.slots _ (user c.args.state)
    (ap slot.String (c.as_str.ensures.value ∙ c.in_ok-write_name.ensures.text) ∙ some_user c.args.state c.drawn-number.result (c.drawn-number.ensures ∙ ap drawn c.next.ensures) some)
    c.push_string-2.ensures.ok
