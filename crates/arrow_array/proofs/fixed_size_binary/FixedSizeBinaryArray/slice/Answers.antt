use Rattle.std.proofs.Common.{arith, length, refl}
use Rattle.arrow_array.specs.Parts.{byte_width}
use Rattle.arrow_array.specs.Slots.{fixed_at}
use Rattle.arrow_array.proofs.Cuts.{bytes_within, count_fixed_cut, cut_made_slots, fixed_cut, fixed_fits_cut}
use Rattle.arrow_array.proofs.Fits.{fixed}
use Rattle.arrow_array.proofs.Windows.{slots_are, count_slots}
use Rattle.arrow_array.proofs.fixed_size_binary.FixedSizeBinaryArray.slice.Goals as goal

pub overflow_mul-offset : goal.overflow_mul-offset
overflow_mul-offset c =
    let n = count_slots (fixed c.self.inside.values c.self.invariant.0) (slots_are c.self.view_is) in
    let b = bytes_within c.args.offset c.args.count (byte_width c.self.inside.data_type) (length c.self.inside.values) (omega (arith, n, c.requires)) in
    rw c.self.invariant.1 (omega (arith, b, c.len.ensures, c.len.type_inv))

pub overflow_mul-count : goal.overflow_mul-count
overflow_mul-count c =
    let n = count_slots (fixed c.self.inside.values c.self.invariant.0) (slots_are c.self.view_is) in
    let b = bytes_within c.args.offset c.args.count (byte_width c.self.inside.data_type) (length c.self.inside.values) (omega (arith, n, c.requires)) in
    rw c.self.invariant.1 (omega (arith, b, c.len.ensures, c.len.type_inv))

pub slice-values-requires : goal.slice-values-requires
slice-values-requires c =
    let n = count_slots (fixed c.self.inside.values c.self.invariant.0) (slots_are c.self.view_is) in
    rw c.self.invariant.1 (bytes_within c.args.offset c.args.count (byte_width c.self.inside.data_type) (length c.self.inside.values) (omega (arith, n, c.requires)))

pub slice_with_type-parts-requires-clause-within : goal.slice_with_type-parts-requires-clause-within
slice_with_type-parts-requires-clause-within c =
    let n = count_slots (fixed c.self.inside.values c.self.invariant.0) (slots_are c.self.view_is) in
    rw (c.len.ensures, c.self.invariant.1) (omega (arith, n, c.requires))

pub invariant_of-result : goal.invariant_of-result
invariant_of-result c =
    let n = count_slots (fixed c.self.inside.values c.self.invariant.0) (slots_are c.self.view_is) in
    let values = rw c.in_ok-values.ensures.first at c.slice-values.ensures.values in
    let data_type = rw c.in_ok-values.ensures.second at c.slice_with_type-parts.ensures.data_type in
    let cut = rw c.in_ok-values.ensures.second at c.slice_with_type-parts.ensures.cut in
    rw (data_type, values, c.self.invariant.1)
    (fixed_fits_cut c.args.offset c.args.count c.self.inside.values c.in_ok-values.validity c.self.invariant.0 (omega (arith, n, c.requires)) cut, refl)

pub returns-clause-slots : goal.returns-clause-slots
returns-clause-slots c =
    let w = fixed c.self.inside.values c.self.invariant.0 in
    let n = count_slots w (slots_are c.self.view_is) in
    let values = rw c.in_ok-values.ensures.first at c.slice-values.ensures.values in
    let data_type = rw c.in_ok-values.ensures.second at c.slice_with_type-parts.ensures.data_type in
    let cut = rw c.in_ok-values.ensures.second at c.slice_with_type-parts.ensures.cut in
    rw (data_type, values, c.self.invariant.1)
    (cut_made_slots w (slots_are c.self.view_is) (fixed_at _ _) c.in_ok-values.validity c.args.offset c.args.count _
    (count_fixed_cut c.args.offset c.args.count _ c.self.inside.values c.self.invariant.0.kind (omega (arith, n, c.requires))) (omega (arith, n, c.requires)) cut
    (fixed_cut (byte_width c.self.inside.data_type) c.args.offset c.args.count c.self.inside.values))
