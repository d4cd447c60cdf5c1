-- A value of a carried schema has a byte.
use Rattle.std.proofs.Common.{◌≡◌, ℕ, ◌+◌, ◌<◌, Option, Some, None, List, [], ◌∷◌, ◌++◌, length, ◌∙◌, ap, arith, length-append}
use Rattle.avro_schema.specs.declared.schema.Schema.{Schema, Null, Boolean, Int, Long, Float, Double, Bytes, String, Record, Enum, Array', Map', Union', Fixed}
use Rattle.avro_schema.specs.declared.schema.Record.{Record as TheRecord, Record', Row_of-AvroField, end_of-AvroField, more_of-AvroField}
use Rattle.avro_schema.specs.declared.schema.FixedLogical.{FixedLogical}
use Rattle.avro_schema.specs.declared.schema.FixedLogical.TheVariants as fixed_logical
use Rattle.avro_schema.specs.Number.{AreGroups}
use Rattle.avro_schema.specs.Parts.{Grammar}
use Rattle.avro_schema.specs.Carried.{Carried, CarriedRecord, IsFixedSize, HasFields, CarriedFields}
use Rattle.avro_schema.specs.Skips.{Passed, SkipsSized, SkipsBlocks, fixed_size, Skips, SkipsRecord, SkipsFields, SkipsItem}
use Rattle.avro_schema.specs.Skips as skips
use Rattle.avro_schema.specs.Encodes.{Encodes}
use Rattle.arrow_core.specs.declared.slot.Slot.{Slot}
use Rattle.avro_schema.proofs.Passes.{encodes_over}

groups_have : (bytes : List ℕ) → AreGroups bytes → 0 < length bytes
groups_have [] h = absurd h
groups_have (b ∷ bs) h = omega arith

-- what begins with a byte has one
pub prefix_has : (bytes prefix back : List ℕ) → bytes ≡ prefix ++ back → 0 < length prefix → 0 < length bytes
prefix_has bytes prefix back e h =
    let l : length bytes ≡ length prefix + length back = ap length e ∙ length-append prefix back in
    omega (arith, l, h)

sized_has : (bytes : List ℕ) (p : Passed) → SkipsSized bytes p → 0 < length bytes
sized_has bytes p h = prefix_has bytes h.prefix h.back h.joined (groups_have h.prefix h.first.0.groups)

blocks_have : (P : Grammar Passed) (bytes : List ℕ) (p : Passed) → SkipsBlocks P bytes p → 0 < length bytes
blocks_have P bytes p (skips.last n) = groups_have bytes n.groups
blocks_have P bytes p (skips.block prefix items rest count q r n h k) =
    let l : length (prefix ++ (items ++ rest)) ≡ length prefix + length (items ++ rest) = length-append prefix (items ++ rest) in
    let some : 0 < length prefix = groups_have prefix n.groups in
    omega (arith, l, some)

fixed_has : (size : ℕ) (logical : Option FixedLogical) → IsFixedSize size logical → 0 < fixed_size size logical
fixed_has size None h = h
fixed_has size (Some (fixed_logical.Decimal precision scale)) h = h
fixed_has size (Some fixed_logical.Duration) h = omega arith

mutual
  pub skips_have : (s : Schema) (bytes : List ℕ) (p : Passed) → Carried s → Skips s bytes p → 0 < length bytes
  skips_have Null bytes p c h = absurd c
  skips_have Boolean bytes p c h = let l : length bytes ≡ 1 = h.0 in omega (arith, l)
  skips_have (Int logical) bytes p c h = groups_have bytes h.1.groups
  skips_have (Long logical) bytes p c h = groups_have bytes h.1.groups
  skips_have Float bytes p c h = let l : length bytes ≡ 4 = h.0 in omega (arith, l)
  skips_have Double bytes p c h = let l : length bytes ≡ 8 = h.0 in omega (arith, l)
  skips_have (Bytes logical) bytes p c h = sized_has bytes p h
  skips_have (String logical) bytes p c h = sized_has bytes p h
  skips_have (Record r) bytes p c h = record_has r bytes p c h
  skips_have (Enum e) bytes p c h = groups_have bytes h.1.groups
  skips_have (Array' shape item) bytes p c h = blocks_have (SkipsItem item) bytes p h
  skips_have (Map' shape value) bytes p c h = absurd c
  skips_have (Union' shape members) bytes p c h = prefix_has bytes h.prefix h.back h.joined (groups_have h.prefix h.first.0.groups)
  skips_have (Fixed f) bytes p c h =
      let l : length bytes ≡ fixed_size f.size f.logical = h.0 in
      let some : 0 < fixed_size f.size f.logical = fixed_has f.size f.logical c in
      omega (arith, l, some)

  record_has : (r : TheRecord) (bytes : List ℕ) (p : Passed) → CarriedRecord r → SkipsRecord r bytes p → 0 < length bytes
  record_has (Record' name namespace doc shape fields) bytes p c h = fields_have fields bytes p c.0 c.1 h

  fields_have : {m : _} (row : Row_of-AvroField m) (bytes : List ℕ) (p : Passed) → HasFields row → CarriedFields row → SkipsFields row bytes p → 0 < length bytes
  fields_have end_of-AvroField bytes p some c h = absurd some
  fields_have (more_of-AvroField name doc s rest) bytes p some c h = prefix_has bytes h.prefix h.back h.joined (skips_have s h.prefix h.value c.0 h.first)

pub encodes_have : (s : Schema) (bytes : List ℕ) (x : Slot) → Carried s → Encodes s bytes x → 0 < length bytes
encodes_have s bytes x c h = let over : (p : Passed) × Skips s bytes p = encodes_over s bytes x h in skips_have s bytes over.0 c over.1
