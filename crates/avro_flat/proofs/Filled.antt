-- One node over two calls.
use Rattle.std.proofs.Common.{ℕ, ◌+◌, ◌≤◌, List, length, arith}
use Rattle.arrow_flat.specs.Nodes.{Node, Takes, HasSpare}
use Rattle.avro_schema.specs.Number.{MovesForward}
use Rattle.avro_reference.specs.Costs.{passed}
use Rattle.avro_flat.specs.Growing.{Fills}
use Rattle.avro_reference.proofs.Counting.{not_longer}

pub takes_more : (a b c d m n : ℕ) (x y z : Node) → Takes a b x y → Takes c d y z → a + c ≤ m → b + d ≤ n → Takes m n x z
takes_more a b c d m n x y z h k le less = record {
  slots_added = omega (arith, h.slots_added, k.slots_added, le);
  slots_kept = omega (arith, h.slots_kept, k.slots_kept);
  bytes_added = omega (arith, h.bytes_added, k.bytes_added, less);
  bytes_kept = omega (arith, h.bytes_kept, k.bytes_kept);
  slot_capacity = omega (arith, h.slot_capacity, k.slot_capacity);
  byte_capacity = omega (arith, h.byte_capacity, k.byte_capacity);
}

pub fills_then : (x y z : List ℕ) (a b c : Node) → MovesForward x y → MovesForward y z → Fills (passed x y) a b → Fills (passed y z) b c → Fills (passed x z) a c
fills_then x y z a b c f g h k =
    let l = not_longer x y f in
    let m = not_longer y z g in
    let le : passed x y + passed y z ≤ passed x z = omega (arith, l, m) in
    takes_more (passed x y) (passed x y) (passed y z) (passed y z) (passed x z) (passed x z) a b c h k le le

pub spare_after : (m n k : ℕ) (x y : Node) → Fills k x y → k + n ≤ m → HasSpare m x → HasSpare n y
spare_after m n k x y f le h = record {
  slots = omega (arith, le, h.slots, f.slots_added, f.slot_capacity);
  bytes = omega (arith, le, h.bytes, f.bytes_added, f.byte_capacity);
}

pub spare_then : (x y : List ℕ) (a b : Node) → MovesForward x y → Fills (passed x y) a b → HasSpare (length x) a → HasSpare (length y) b
spare_then x y a b f h r =
    let l = not_longer x y f in
    spare_after (length x) (length y) (passed x y) a b h (omega (arith, l)) r
