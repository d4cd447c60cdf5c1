use Rattle.std.proofs.Common.{◌≡◌, ◌∙◌, ◌+◌, ◌-◌, ap, false, ◌++◌, ◌∷◌, [], List, Bool, length, take, replicate, vec_len, arith, refl}
use Rattle.std.proofs.lemmas.List.{take_all, length-replicate}
use Rattle.arrow_flat.proofs.FixedSizes.{fixed_slots-push}
use Rattle.arrow_flat.proofs.fixed_size_binary.MutableFixedSizeBinaryArray.push_null.Goals as goal

pub returns-clause-ok : goal.returns-clause-ok
returns-clause-ok c =
    let b = c.self.inside in
    let n : c.in-Some.end ≡ length b.values.items + b.size = omega (arith, c.in-Some.ensures, c.len.ensures, b.values.ok.0) in
    let k : c.in-Some.end - vec_len b.values ≡ b.size = omega (arith, n, b.values.ok.0) in
    let t : take c.in-Some.end b.values.items ≡ b.values.items = take_all _ _ (omega (arith, n)) in
    let r : c.resize.new.self.items ≡ b.values.items ++ replicate b.size 0 = c.in_ok-resize.ensures.items ∙ (rw (t, k) refl) in
    rw (← c.self.view_is) (fixed_slots-push b.size b.values.items (replicate b.size 0) _ b.validity.items _ false c.self.invariant.2 (length-replicate b.size 0) r
    (c.push_reserved.ensures.items ∙ ap (λ (xs : List Bool). xs ++ false ∷ []) c.reserve_one.ensures.items))
