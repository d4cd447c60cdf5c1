use Rattle.std.proofs.Common.{◌∙◌, ap, ◌++◌, ◌∷◌, []}
use Rattle.arrow_flat.proofs.Slots.{natives_at-push}
use Rattle.arrow_flat.proofs.primitive.MutablePrimitiveArray.push_slot.Goals as goal

pub returns-clause-ok : goal.returns-clause-ok
returns-clause-ok g c = rw (← c.self.view_is) (natives_at-push g.T.NativeType.native_slot _ _ _ _ _ _ c.self.invariant.0
    (c.push_reserved.ensures.items ∙ ap (λ xs. xs ++ c.args.value ∷ []) c.reserve.ensures.items)
    c.in_ok-push.ensures.ok)
