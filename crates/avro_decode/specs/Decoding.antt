-- What a call of the decoder gives, in terms of a reading function on the bytes ahead; out of memory says nothing
-- of the bytes. Contracts of private functions alone cite this file: what `deserialize` promises is told without it.
use Rattle.std.specs.Prelude.{◌≡◌, ℕ, zero, suc, ◌+◌, ◌-◌, ℤ, pos, Bool, true, false, List, [], ◌∷◌, ◌++◌, length, map, Option, Some, None, Result, Ok, Err, if◌then◌else◌}
use Rattle.arrow_core.specs.declared.slot.Slot.{Slot}
use Rattle.arrow_core.specs.declared.slot.Slot.TheVariants as slot
use Rattle.avro_schema.specs.declared.schema.Schema.{Schema}
use Rattle.avro_schema.specs.Skips.{Passed}
use Rattle.avro_schema.specs.Rows.{Pieces, total_kept, total_seen, total_hidden}
use Rattle.avro_schema.specs.AndThen.{◌>>=◌}
use Rattle.avro_reference.specs.Prefix.{Reader, number_at, is_count}
use Rattle.avro_reference.specs.Read.{items, blocks, read}
use Rattle.avro_reference.specs.Skip.{Fault, Bad, Negative}
use Rattle.avro_reference.specs.Costs.{Costs}
use Rattle.avro_flat.specs.Decoding.{Fails}
use Rattle.avro_flat.specs.declared.fault.DecodeFault.{DecodeFault}
use Rattle.avro_decode.specs.declared.fault.BlockFault.{BlockFault}
use Rattle.avro_decode.specs.declared.fault.BlockFault.TheVariants.{Bytes, NegativeSize, Memory}

-- ---- nested values

-- null, which has no bytes, or a value
abbrev pub null_or : Bool → Schema → Reader Slot
null_or null s bytes = if null then Some (slot.Null, bytes) else read s bytes

-- whether the member at an index is null, where null is the first one or the second
abbrev pub null_at : ℤ → Bool → Option Bool
null_at (pos zero) null_first = Some null_first
null_at (pos (suc zero)) null_first = Some (if null_first then false else true)
null_at _ null_first = None

-- the member at an index, where null is the first one or the second
abbrev pub pair_at : ℤ → Bool → Schema → Reader Slot
pair_at (pos zero) null_first s bytes = null_or null_first s bytes
pair_at (pos (suc zero)) null_first s bytes = null_or (if null_first then false else true) s bytes
pair_at _ null_first s bytes = None

-- n items after their size in bytes
abbrev pub sized_items : Reader Slot → ℕ → List Slot → Reader (List Slot)
sized_items f n old bytes = do
  size ← number_at bytes
  xs ← items f n old size.1
  if is_count size.0 (length size.1 - length xs.1) then Some xs else None

-- enough fuel for each block
abbrev pub all_blocks : Reader Slot → List Slot → Reader (List Slot)
all_blocks f old bytes = blocks f (suc (length bytes)) old bytes

-- ---- columns

-- each column with its slot of a row at its end
abbrev pub grown : List (List Slot) → List Slot → List (List Slot)
grown (c ∷ cs) (x ∷ xs) = (c ++ x ∷ []) ∷ grown cs xs
grown (c ∷ cs) [] = c ∷ cs
grown [] xs = []

abbrev pub grown_by : List (List Slot) → List (List Slot) → List (List Slot)
grown_by cs [] = cs
grown_by cs (row ∷ rows) = grown_by (grown cs row) rows

-- the fields of a record: each child's column has its slot of the row at its end
abbrev pub GivesFields : {X : Type 0} → List (List Slot) → List (List Slot) → List ℕ → Result X DecodeFault → Option (List Slot × List ℕ) → Type 0
GivesFields before now rest (Ok x) reading = (row : List Slot) × (reading ≡ Some (row, rest)) × (now ≡ grown before row) × (length row ≡ length before)
GivesFields before now rest (Err e) reading = Fails e reading

-- ---- rows, and blocks

abbrev pub IsFault : {Y : Type 0} → BlockFault → Result Y Fault → Type 0
IsFault Bytes parsing = parsing ≡ Err Bad
IsFault NegativeSize parsing = parsing ≡ Err Negative
IsFault Memory parsing = Unit {0}

-- the answer is not out of memory
abbrev pub BlockHasMemory : {X : Type 0} → Result X BlockFault → Type 0
BlockHasMemory (Err Memory) = ⊥
BlockHasMemory _ = Unit {0}

-- why a kept field isn't read
abbrev pub FieldFails : {Y : Type 0} → BlockFault → Option Y → Type 0
FieldFails Bytes reading = reading ≡ None
FieldFails NegativeSize reading = ⊥
FieldFails Memory reading = Unit {0}

-- what reading a kept field gives
abbrev pub GivesField : {X Y : Type 0} → (X → Y) → Result X BlockFault → Option Y → Type 0
GivesField view (Ok x) reading = reading ≡ Some (view x)
GivesField view (Err e) reading = FieldFails e reading

-- what passing another field gives
abbrev pub PassesField : {X Y : Type 0} → (X → List ℕ) → (X → ℕ) → (X → ℕ) → X → X → Result Y BlockFault → Result (Passed × List ℕ) Fault → Type 0
PassesField rest shown calls old new (Ok _) parsing = (p : Passed) × (parsing ≡ Ok (p, rest new)) × Costs rest shown calls old new p.seen p.hidden
PassesField rest shown calls old new (Err e) parsing = IsFault e parsing

-- the columns before and now: each kept field's slot has come to the end of its column
abbrev pub GivesRow : {X Y : Type 0} → (X → List ℕ) → (X → ℕ) → (X → ℕ) → X → X → List (List Slot) → List (List Slot) → Result Y BlockFault → Result (Pieces × List ℕ) Fault → Type 0
GivesRow rest shown calls old new before now (Ok _) parsing =
    (y : Pieces) × (parsing ≡ Ok (y, rest new)) × (now ≡ grown before y.slots) × (length y.slots ≡ length now) × Costs rest shown calls old new (y.kept + y.passed.seen) y.passed.hidden
GivesRow rest shown calls old new before now (Err e) parsing = IsFault e parsing

abbrev pub AreWide : ℕ → List (List Slot) → Type 0
AreWide n [] = Unit {0}
AreWide n (row ∷ rows) = (length row ≡ n) × AreWide n rows

abbrev pub GivesRows : {X Y : Type 0} → (X → List ℕ) → (X → ℕ) → (X → ℕ) → X → X → List (List Slot) → List (List Slot) → Result Y BlockFault → Result (List Pieces × List ℕ) Fault → Type 0
GivesRows rest shown calls old new before now (Ok _) parsing =
    (ys : List Pieces) × (parsing ≡ Ok (ys, rest new)) × (now ≡ grown_by before (map (λ y. y.slots) ys)) × AreWide (length now) (map (λ y. y.slots) ys) × Costs rest shown calls old new (total_kept ys + total_seen ys) (total_hidden ys)
GivesRows rest shown calls old new before now (Err e) parsing = IsFault e parsing

-- nothing is after a block
abbrev pub GivesBlock : {X Y : Type 0} → (X → List ℕ) → (X → ℕ) → (X → ℕ) → X → X → List (List Slot) → List (List Slot) → Result Y BlockFault → Result (List Pieces) Fault → Type 0
GivesBlock rest shown calls old new before now (Ok _) reading =
    (rest new ≡ []) × (ys : List Pieces) × (reading ≡ Ok ys) × (now ≡ grown_by before (map (λ y. y.slots) ys)) × AreWide (length now) (map (λ y. y.slots) ys) × Costs rest shown calls old new (total_kept ys + total_seen ys) (total_hidden ys)
GivesBlock rest shown calls old new before now (Err e) reading = IsFault e reading
