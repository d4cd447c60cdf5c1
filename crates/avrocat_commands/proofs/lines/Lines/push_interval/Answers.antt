-- The three numbers with commas between them, between braces.
use mir.Syntax.{w32, w64}
use mir.Val.{SFits}
use Rattle.std.proofs.Common.{rules, ◌≡◌, ◌∙◌, ◌++◌, ap}
use Rattle.std.specs.Fmt.{signed_decimal}
use Rattle.std.proofs.lemmas.Result.{on_ok_weaker}
use Rattle.avrocat_commands.proofs.SlotTexts.{given_32, given_64, numbers_done}
use Rattle.avrocat_commands.proofs.lines.Lines.push_interval.Goals as goal

pub returns-clause-ok : goal.returns-clause-ok
returns-clause-ok c =
    let i = c.args.interval in
    let fit : SFits w32 i.months = search rules in
    let fit_too : SFits w32 i.days = search rules in
    let fit_also : SFits w64 i.ns = search rules in
    let months : c.push_number.new.self.text.items ≡ c.push.new.self.text.items ++ signed_decimal i.months =
    c.in_ok-push_number.ensures.ok ∙ ap (λ n. c.push.new.self.text.items ++ signed_decimal n) (given_32 _ fit) in
    let days : c.push_number-2.new.self.text.items ≡ c.push-2.new.self.text.items ++ signed_decimal i.days =
    c.in_ok-push_number-2.ensures.ok ∙ ap (λ n. c.push-2.new.self.text.items ++ signed_decimal n) (given_32 _ fit_too) in
    let ns : c.push_number-3.new.self.text.items ≡ c.push-3.new.self.text.items ++ signed_decimal i.ns =
    c.in_ok-push_number-3.ensures.ok ∙ ap (λ n. c.push-3.new.self.text.items ++ signed_decimal n) (given_64 _ fit_also) in
    on_ok_weaker c.push-4.result
    (λ last. numbers_done _ _ _ _ _ _ _ _ i.months i.days i.ns c.in_ok-push.ensures.ok months c.in_ok-push-2.ensures.ok days c.in_ok-push-3.ensures.ok ns last)
    c.push-4.ensures.ok
