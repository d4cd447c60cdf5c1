-- The word is printed where the type has one.
use Rattle.std.proofs.Common.{◌≡◌, codes, true, false, if◌then◌else◌, sym, ap, ◌∙◌}
use Rattle.cli_words.specs.Printed.{has_type, type_word, type_text}
use Rattle.cli_words.proofs.Appends.{alone}
use Rattle.cli_words.proofs.print.push_type.Goals as goal

pub returns-then-has_type-clause-appended : goal.returns-then-has_type-clause-appended
unfolding type_text
returns-then-has_type-clause-appended c =
    let is : has_type 64 c.args.schema.now ≡ true = sym c.has_type.ensures ∙ c.if-has_type.true in
    alone c.push_word.result c.args.text.now.items c.push_word.new.text.items (type_word 64 c.args.schema.now) (type_text c.args.schema.now)
    (ap (λ b. if b then type_word 64 c.args.schema.now else codes "-") is) c.push_word.ensures.appended

pub returns-else-has_type-clause-appended : goal.returns-else-has_type-clause-appended
unfolding type_text
returns-else-has_type-clause-appended c =
    let is : has_type 64 c.args.schema.now ≡ false = sym c.has_type.ensures ∙ c.if-has_type.false in
    alone c.push.result c.args.text.now.items c.push.new.text.items (codes "-") (type_text c.args.schema.now)
    (ap (λ b. if b then type_word 64 c.args.schema.now else codes "-") is) c.push.ensures.appended
