use Rattle.std.proofs.Common.{◌≡◌, ◌∙◌, ap, Bool, length, ◌*◌, vec_len, arith}
use Rattle.arrow_flat.specs.Capacity.{Growing}
use Rattle.arrow_flat.proofs.FixedSizes.{fixed_fits, no_refusal}
use Rattle.arrow_flat.proofs.fixed_size_binary.MutableFixedSizeBinaryArray.as_box.Goals as goal

pub returns-clause-memory : goal.returns-clause-memory
returns-clause-memory c =
    let b = c.self.inside in
    let i = c.self.invariant in
    let t : c.in_ok-validity.validity.booleans ≡ b.validity.items = c.in_ok-validity.ensures.ok ∙ ap (λ (b : Growing Bool). b.items) c.replace-validity.ensures.value in
    let n : vec_len c.replace-values.result ≡ length b.validity.items * b.size = rw c.replace-values.ensures.value (omega (arith, b.values.ok.0, i.2)) in
    let d = c.in_ok-data_type.ensures.copy ∙ i.0 in
    no_refusal _ c.try_new.result c.try_new.ensures.err (rw d (fixed_fits b.size _ (length b.validity.items) c.in_ok-validity.validity i.1 n (ap length t)))
