use Rattle.std.proofs.Common.{arith, ap, length}
use Rattle.arrow_array.specs.Parts.{byte_width}
use Rattle.arrow_array.proofs.Cuts.{slot_within}
use Rattle.arrow_array.proofs.Fits.{fixed}
use Rattle.arrow_array.proofs.Typed.{fixed_length}
use Rattle.arrow_array.proofs.Windows.{slots_are, types_are, count_slots, read_made}
use Rattle.arrow_array.proofs.fixed_size_binary.FixedSizeBinaryArray.value.Goals as goal

pub overflow_mul-start : goal.overflow_mul-start
overflow_mul-start c =
    let n = count_slots (fixed c.self.inside.values c.self.invariant.0) (slots_are c.self.view_is) in
    let b = slot_within c.args.i (byte_width c.self.inside.data_type) (length c.self.inside.values) (omega (arith, n, c.requires)) in
    rw c.self.invariant.1 (omega (arith, b, ap length c.as_slice-values.ensures, c.as_slice-values.type_inv.0))

pub run_of-requires : goal.run_of-requires
run_of-requires c =
    let n = count_slots (fixed c.self.inside.values c.self.invariant.0) (slots_are c.self.view_is) in
    rw (c.self.invariant.1, c.as_slice-values.ensures) (slot_within c.args.i (byte_width c.self.inside.data_type) (length c.self.inside.values) (omega (arith, n, c.requires)))

pub returns-clause-slot : goal.returns-clause-slot
returns-clause-slot c =
    let w = fixed c.self.inside.values c.self.invariant.0 in
    let n = count_slots w (slots_are c.self.view_is) in
    rw (c.run_of.ensures, c.self.invariant.1, c.as_slice-values.ensures) (read_made w (slots_are c.self.view_is) c.args.i (omega (arith, n, c.requires)))

pub returns-clause-width : goal.returns-clause-width
returns-clause-width c =
    let n = count_slots (fixed c.self.inside.values c.self.invariant.0) (slots_are c.self.view_is) in
    rw (c.run_of.ensures, c.self.invariant.1, c.as_slice-values.ensures, ← types_are c.self.view_is) (fixed_length (byte_width c.self.inside.data_type) c.args.i c.self.inside.values (omega (arith, n, c.requires)))
