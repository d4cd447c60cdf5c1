-- What a call that skips gives, in terms of a skipping function on the bytes ahead, and what it costs.
use Rattle.std.specs.Prelude.{◌≡◌, ℕ, List, Result, Ok, Err, if◌then◌else◌}
use Rattle.avro_schema.specs.declared.schema.Schema.{Schema}
use Rattle.avro_schema.specs.Encodes.{is_null}
use Rattle.avro_schema.specs.Skips.{Passed, nothing, seen_only, both}
use Rattle.avro_reference.specs.Skip.{◌>>=◌, Fault, Bad, Negative, Parser, measured_at, skip_stated, skip}
use Rattle.avro_reference.specs.Costs.{Costs}
use Rattle.avro_skip.specs.declared.fault.SkipFault.{SkipFault}
use Rattle.avro_skip.specs.declared.fault.SkipFault.TheVariants.{Bytes, NegativeSize}

abbrev pub fault_of : SkipFault → Fault
fault_of Bytes = Bad
fault_of NegativeSize = Negative

-- the value is passed, for what it costs
abbrev pub Passes : {X Y : Type 0} → (X → List ℕ) → (X → ℕ) → (X → ℕ) → X → X → Result Y SkipFault → Result (Passed × List ℕ) Fault → Type 0
Passes rest shown calls old new (Ok _) parsing = (p : Passed) × (parsing ≡ Ok (p, rest new)) × Costs rest shown calls old new p.seen p.hidden
Passes rest shown calls old new (Err e) parsing = parsing ≡ Err (fault_of e)

-- the same of a parsing that adds to what was passed before, whatever that is
abbrev pub PassesMore : {X Y : Type 0} → (X → List ℕ) → (X → ℕ) → (X → ℕ) → X → X → Result Y SkipFault → (Passed → Result (Passed × List ℕ) Fault) → Type 0
PassesMore rest shown calls old new (Ok _) parsing = (p : Passed) × ((before : Passed) → parsing before ≡ Ok (both before p, rest new)) × Costs rest shown calls old new p.seen p.hidden
PassesMore rest shown calls old new (Err e) parsing = (before : Passed) → parsing before ≡ Err (fault_of e)

-- rest is what is after the bytes
abbrev pub Jumps : {X : Type 0} → List ℕ → Result X SkipFault → Result (List ℕ) Fault → Type 0
Jumps rest (Ok _) jumping = jumping ≡ Ok rest
Jumps rest (Err e) jumping = jumping ≡ Err (fault_of e)

-- a union's member, where null has no bytes
abbrev pub member_at : Schema → Parser Passed
member_at s bytes = if is_null s then Ok (nothing, bytes) else skip s bytes

-- the items of a block that states their size
abbrev pub sized_items_at : Passed → Parser Passed
sized_items_at before bytes =
    measured_at bytes >>= λ size. skip_stated size.0.0 (both before (seen_only size.0.1)) size.1
