-- The schemas whose values this library carries: all but a null by itself, maps, other unions than of null
-- and one type that is no union, fixed types of no bytes, durations of another size than 12 bytes, and
-- records of no fields.
use Rattle.std.specs.Prelude.{◌≡◌, ℕ, ◌≤◌, List, Option, Some, ◌⊎◌, All}
use Rattle.avro_schema.specs.declared.schema.AvroField.{AvroField}
use Rattle.avro_schema.specs.declared.schema.Schema.{Schema, Null, Boolean, Int, Long, Float, Double, Bytes, String, Record, Enum, Array', Map', Union', Fixed, Row_of-Schema, end_of-Schema, more_of-Schema}
use Rattle.avro_schema.specs.declared.schema.Record.{Record as TheRecord, Record', Row_of-AvroField, end_of-AvroField, more_of-AvroField}
use Rattle.avro_schema.specs.declared.schema.FixedLogical.{FixedLogical}
use Rattle.avro_schema.specs.declared.schema.FixedLogical.TheVariants as fixed_logical
use Rattle.avro_schema.specs.Encodes.{IsNull}

abbrev pub IsNoUnion : Schema → Type 0
IsNoUnion (Union' shape members) = ⊥
IsNoUnion _ = Unit {0}

abbrev pub IsFixedSize : ℕ → Option FixedLogical → Type 0
IsFixedSize size (Some fixed_logical.Duration) = size ≡ 12
IsFixedSize size _ = 1 ≤ size

abbrev pub HasFields : {m : _} → Row_of-AvroField m → Type 0
HasFields end_of-AvroField = ⊥
HasFields (more_of-AvroField name doc s rest) = Unit {0}

abbrev mutual
  pub Carried : Schema → Type 0
  Carried Null = ⊥
  Carried Boolean = Unit {0}
  Carried (Int logical) = Unit {0}
  Carried (Long logical) = Unit {0}
  Carried Float = Unit {0}
  Carried Double = Unit {0}
  Carried (Bytes logical) = Unit {0}
  Carried (String logical) = Unit {0}
  Carried (Record r) = CarriedRecord r
  Carried (Enum e) = Unit {0}
  Carried (Array' shape item) = CarriedItem item
  Carried (Map' shape value) = ⊥
  Carried (Union' shape members) = CarriedUnion members
  Carried (Fixed f) = IsFixedSize f.size f.logical

  pub CarriedRecord : TheRecord → Type 0
  CarriedRecord (Record' name namespace doc shape fields) = HasFields fields × CarriedFields fields

  pub CarriedItem : {m : _} → Row_of-Schema m → Type 0
  CarriedItem end_of-Schema = ⊥
  CarriedItem (more_of-Schema s rest) = Carried s

  -- two members, one null and the other carried and no union
  pub CarriedUnion : {m : _} → Row_of-Schema m → Type 0
  CarriedUnion (more_of-Schema s (more_of-Schema t end_of-Schema)) = (IsNull s × Carried t × IsNoUnion t) ⊎ (Carried s × IsNoUnion s × IsNull t)
  CarriedUnion _ = ⊥

  pub CarriedFields : {m : _} → Row_of-AvroField m → Type 0
  CarriedFields end_of-AvroField = Unit {0}
  CarriedFields (more_of-AvroField name doc s rest) = Carried s × CarriedFields rest

-- each of the fields is carried
abbrev pub CarriedList : List AvroField → Type 0
CarriedList = All (λ f. Carried f.schema)
