-- What decoding values into a builder keeps. Contracts of private functions alone cite this file.
use Rattle.std.specs.Prelude.{◌≡◌, ℕ, ◌+◌, Bool, List, length, Result, OnOk}
use Rattle.arrow_builders.specs.MutableArrays.{nodes}
use Rattle.arrow_builders.specs.Shapes.{shape}
use Rattle.arrow_builders.specs.Tight.{IsTight}
use Rattle.arrow_builders.specs.declared.array.MutableArray.{MutableArray}
use Rattle.avro_reference.specs.Costs.{passed, Moves, CostsKept}
use Rattle.avro_flat.specs.Decoding.{HasMemory}
use Rattle.avro_flat.specs.declared.fault.DecodeFault.{DecodeFault}
use Rattle.avro_decode.specs.declared.fault.BlockFault.{BlockFault}
use Rattle.avro_decode.specs.Decoding.{BlockHasMemory}
use Rattle.avro_decode.specs.Growth.{Grows, HaveSpare}

-- Whatever the answer, the builder's shape is the same; each node has n slots more at most, and all nodes together n
-- content bytes more where the mask bounds them; where it bounds all, and each node has spare capacity for m, memory
-- doesn't run out; and the cursor is the same one and only moves forward. On Ok the builder is tight, and no more was
-- shown, by no more calls, than kept values cost.
pub record KeepsWithin {X Y E : Type 0} (rest : X → List ℕ) (shown calls identity : X → ℕ) (n m : ℕ) (mask : List Bool) (old new : X) (before now : MutableArray) (r : Result Y E) (has_memory : Result Y E → Type 0) : Type 0 where
  pub same_shape : shape now ≡ shape before
  pub tight : OnOk r (IsTight now)
  pub grows : Grows mask n (nodes before) (nodes now)
  pub has_capacity : HaveSpare mask m (nodes before) → has_memory r
  pub same : identity new ≡ identity old
  pub moves : Moves rest calls old new
  pub costs : OnOk r (CostsKept rest shown calls old new)

-- of values: by the bytes that were passed, and with capacity for the bytes ahead
abbrev pub Keeps : {X Y : Type 0} → (X → List ℕ) → (X → ℕ) → (X → ℕ) → (X → ℕ) → List Bool → X → X → MutableArray → MutableArray → Result Y DecodeFault → Type 0
Keeps rest shown calls identity mask old new before now r = KeepsWithin rest shown calls identity (passed (rest old) (rest new)) (length (rest old)) mask old new before now r HasMemory

-- the same, where the fault is a block's
abbrev pub KeepsField : {X Y : Type 0} → (X → List ℕ) → (X → ℕ) → (X → ℕ) → (X → ℕ) → List Bool → X → X → MutableArray → MutableArray → Result Y BlockFault → Type 0
KeepsField rest shown calls identity mask old new before now r = KeepsWithin rest shown calls identity (passed (rest old) (rest new)) (length (rest old)) mask old new before now r BlockHasMemory

-- of a union's member: one byte of the index before it counts too
abbrev pub KeepsMember : {X Y : Type 0} → (X → List ℕ) → (X → ℕ) → (X → ℕ) → (X → ℕ) → List Bool → X → X → MutableArray → MutableArray → Result Y DecodeFault → Type 0
KeepsMember rest shown calls identity mask old new before now r = KeepsWithin rest shown calls identity (passed (rest old) (rest new) + 1) (length (rest old) + 1) mask old new before now r HasMemory
