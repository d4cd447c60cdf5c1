use Rattle.std.proofs.Common.{◌≡◌, ◌∙◌, [], ap, sym}
use Rattle.std.specs.Str.{bytes_eq}
use Rattle.json_tree.specs.Reading.{found, string_at}
use Rattle.json_lend.specs.Parts.{found_or}
use Rattle.json_lend.proofs.lent.EscapedString.is.Goals as goal

pub returns : goal.returns
returns c =
    let h = c.self.invariant in
    let here : string_at c.again-reader.result ≡ found h.0 h.1 = ap string_at c.again-reader.ensures ∙ h.2 in
    c.is_text.ensures h.0 h.1 here ∙ (ap (bytes_eq h.0) c.as_bytes.ensures.value ∙ ap (λ s. bytes_eq s c.args.text.now) (sym (ap (found_or []) h.2) ∙ c.self.view_is))
