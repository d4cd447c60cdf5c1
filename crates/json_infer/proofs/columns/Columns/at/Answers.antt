use Rattle.std.proofs.Common.{◌≡◌, ap, arith, get_or, length, option_copied, subst, sym, ◌∙◌}
use Rattle.std.specs.List.{slice_get}
use Rattle.json_infer.proofs.Entries.{length_zip, pair_at, some_at}
use Rattle.json_infer.proofs.columns.Columns.at.Goals as goal

pub unwrap-name-requires : goal.unwrap-name-requires
unwrap-name-requires c =
    some_at c.self.inside.names c.args.index c.get.result c.get.ensures.key
    (omega (arith, c.requires, ap length c.self.view_is, length_zip c.self.inside.names c.self.inside.types.items c.self.invariant, c.self.invariant))

pub index-requires : goal.index-requires
index-requires c = omega (arith, c.requires, ap length c.self.view_is, length_zip c.self.inside.names c.self.inside.types.items c.self.invariant, c.self.inside.types.ok.0)

pub returns : goal.returns
returns c =
    ap (λ cs. slice_get cs c.args.index) (sym c.self.view_is)
    ∙ pair_at c.self.inside.names c.self.inside.types.items c.args.index c.unwrap-name.result.now c.as_slice.result.now c.self.invariant
    (ap option_copied (sym c.unwrap-name.ensures) ∙ c.get.ensures.key) (subst (λ z. z ≡ get_or c.self.inside.types.items c.args.index z) (sym c.as_slice.ensures) c.index.ensures)
