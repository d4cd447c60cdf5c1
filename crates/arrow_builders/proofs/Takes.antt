-- One slot more at a node that keeps no content bytes.
use Rattle.std.proofs.Common.{◌≡◌, ap, Bool, ℕ, ◌+◌, [], ◌∷◌, ◌++◌, length, Option, arith}
use Rattle.std.proofs.lemmas.List.{length_push}
use Rattle.arrow_flat.specs.Nested.{ListMarks, Marks, lists_node, marks_node}
use Rattle.arrow_flat.specs.Nodes.{KeepsCapacity, Takes}

pub lists_take : (old new : ListMarks) (l : Option ℕ) → new.lens ≡ old.lens ++ l ∷ [] → KeepsCapacity (lists_node old) (lists_node new) → Takes 1 0 (lists_node old) (lists_node new)
lists_take old new l e k =
    let n : length new.lens ≡ length old.lens + 1 = omega (arith, ap length e, length_push old.lens l) in
    record { slots_added = omega (arith, n); slots_kept = omega (arith, n); bytes_added = omega arith; bytes_kept = omega arith; slot_capacity = k.slots; byte_capacity = k.bytes }

pub marks_take : (old new : Marks) (v : Bool) → new.booleans ≡ old.booleans ++ v ∷ [] → KeepsCapacity (marks_node old) (marks_node new) → Takes 1 0 (marks_node old) (marks_node new)
marks_take old new v e k =
    let n : length new.booleans ≡ length old.booleans + 1 = omega (arith, ap length e, length_push old.booleans v) in
    record { slots_added = omega (arith, n); slots_kept = omega (arith, n); bytes_added = omega arith; bytes_kept = omega arith; slot_capacity = k.slots; byte_capacity = k.bytes }
