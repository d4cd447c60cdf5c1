use Rattle.std.proofs.Common.{◌≡◌, ◌∙◌, ap, get_or, rules, subst, sym}
use Rattle.std.specs.Str.{bytes_eq}
use Rattle.first_seen.specs.Keys.{index_of}
use Rattle.json_infer.specs.Columns.{types_named}
use Rattle.json_infer.proofs.Entries.{named}
use Rattle.json_infer.proofs.columns.Columns.types_at.Goals as goal

pub returns : goal.returns
returns c =
    let same : c.in_ok-other.other.now ≡ c.args.name.now = search rules in
    named c.self.inside.names c.self.inside.types.items c.args.name.now c.args.index c.as_slice.result.now c.self.invariant (ap (index_of bytes_eq c.self.inside.names) (sym same) ∙ c.in_ok-other.ensures.index)
    (subst (λ z. z ≡ get_or c.self.inside.types.items c.args.index z) (sym c.as_slice.ensures) c.index.ensures)
    ∙ ap (types_named c.args.name.now) c.self.view_is
