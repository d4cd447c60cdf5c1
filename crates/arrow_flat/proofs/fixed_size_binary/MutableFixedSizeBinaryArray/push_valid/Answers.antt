use Rattle.std.proofs.Common.{◌∙◌, ap, sym, true, ◌++◌, ◌∷◌, [], List, Bool}
use Rattle.arrow_array.specs.Parts.{byte_width}
use Rattle.arrow_flat.proofs.FixedSizes.{fixed_slots-push}
use Rattle.arrow_flat.specs.Builders.{ContentBuilder}
use Rattle.arrow_flat.proofs.fixed_size_binary.MutableFixedSizeBinaryArray.push_valid.Goals as goal

pub returns-clause-ok : goal.returns-clause-ok
returns-clause-ok c =
    let w = c.requires ∙ ap (λ (b : ContentBuilder). byte_width b.data_type) (sym c.self.view_is) ∙ ap byte_width c.self.invariant.0 in
    rw (← c.self.view_is) (fixed_slots-push c.self.inside.size c.self.inside.values.items c.args.bytes.now _ c.self.inside.validity.items _ true c.self.invariant.2 w
    c.in_ok-extend_from_slice.ensures.items
    (c.push_reserved.ensures.items ∙ ap (λ (xs : List Bool). xs ++ true ∷ []) c.reserve_one.ensures.items))
