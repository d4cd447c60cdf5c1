-- The nodes of a builder: what each holds, and its spare capacity.
use Rattle.std.specs.Prelude.{◌≡◌, ℕ, ◌+◌, ◌≤◌}

-- a node: its slots, how many more fit before memory is asked for, and the same two numbers of its content bytes
pub record Node : Type 0 where
  pub slots : ℕ
  pub spare : ℕ
  pub bytes : ℕ
  pub byte_spare : ℕ

-- From x to y, neither slots and their spare capacity together become fewer, nor content bytes and theirs.
pub record KeepsCapacity (x y : Node) : Type 0 where
  pub slots : x.slots + x.spare ≤ y.slots + y.spare
  pub bytes : x.bytes + x.byte_spare ≤ y.bytes + y.byte_spare

-- From x to y at most so many slots and content bytes are added, none goes, and no capacity is lost besides.
pub record Takes (slots bytes : ℕ) (x y : Node) : Type 0 where
  pub slots_added : y.slots ≤ x.slots + slots
  pub slots_kept : x.slots ≤ y.slots
  pub bytes_added : y.bytes ≤ x.bytes + bytes
  pub bytes_kept : x.bytes ≤ y.bytes
  pub slot_capacity : x.slots + x.spare ≤ y.slots + y.spare
  pub byte_capacity : x.bytes + x.byte_spare ≤ y.bytes + y.byte_spare

-- y holds as much as x, and has no less spare capacity.
pub record NoLessSpare (x y : Node) : Type 0 where
  pub slots : y.slots ≡ x.slots
  pub slot_capacity : x.spare ≤ y.spare
  pub bytes : y.bytes ≡ x.bytes
  pub byte_capacity : x.byte_spare ≤ y.byte_spare

-- y is empty, and has spare capacity for all that x held or had spare capacity for.
pub record Emptied (x y : Node) : Type 0 where
  pub slots : y.slots ≡ 0
  pub slot_capacity : x.slots + x.spare ≤ y.spare
  pub bytes : y.bytes ≡ 0
  pub byte_capacity : x.bytes + x.byte_spare ≤ y.byte_spare

-- there is spare capacity for n more slots, and for n more content bytes
pub record HasSpare (n : ℕ) (x : Node) : Type 0 where
  pub slots : n ≤ x.spare
  pub bytes : n ≤ x.byte_spare

-- a node that holds nothing
pub record IsEmpty (x : Node) : Type 0 where
  pub slots : x.slots ≡ 0
  pub bytes : x.bytes ≡ 0
