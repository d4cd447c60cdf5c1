-- `==` of schemas, and of what they are made of, is true of equal ones alone.
use mathlib.Core.Logic.{inl, inr}
use lib.Pointwise.{pointwise}
use lib.Dec.{eqb}
use denote.Enum.Bare.{sameb, same_true}
use denote.Enum.Compared.{Each}
use denote.Enum.Declared.{Choice, values_one}
use denote.Hole.Holds.{Such}
use Rattle.std.proofs.Common.{◌≡◌, ◌↔◌, refl, sym, ◌∙◌, subst, ℕ, Bool, true, ◌&&◌, List, Option, rules}
use Rattle.std.specs.Option.{option_eq}
use Rattle.arrow_core.proofs.Comparisons.{Tells, and_true, both, one, listed, list, optional, number, text, TellsAt, told_by, point, bare}
use Rattle.avro_schema.specs.declared.schema.AvroField.{AvroField}
use Rattle.avro_schema.specs.declared.schema.BytesLogical.{BytesLogical}
use Rattle.avro_schema.specs.declared.schema.Enum.{Enum}
use Rattle.avro_schema.specs.declared.schema.Fixed.{Fixed}
use Rattle.avro_schema.specs.declared.schema.FixedLogical.{FixedLogical}
use Rattle.avro_schema.specs.declared.schema.IntLogical.{IntLogical}
use Rattle.avro_schema.specs.declared.schema.LongLogical.{LongLogical}
use Rattle.avro_schema.specs.declared.schema.Record.{Record, out-Record, roll-Record, roll-out-Record}
use Rattle.avro_schema.specs.declared.schema.Schema.{Schema}
use Rattle.avro_schema.specs.declared.schema.StringLogical.{StringLogical}
use Rattle.avro_schema.specs.declared.schema.StringLogical.TheVariants as string_logical
use Rattle.avro_schema.specs.declared.schema.Schema.TheBlock.{the_family, split-Schema, member-Schema, member-AvroField, member-Record}
use Rattle.avro_schema.specs.declared.schema.Schema.TheViews as views
use Rattle.avro_schema.specs.declared.schema.Schema.TheFolds as folds
use Rattle.avro_schema.specs.declared.schema.Schema.TheOpen as layer
use Rattle.avro_schema.specs.contracts.schema.Schema as the_schemas
use Rattle.avro_schema.specs.contracts.schema.BytesLogical as bytes_logical
use Rattle.avro_schema.specs.contracts.schema.FixedLogical as fixed_logical
use Rattle.avro_schema.specs.contracts.schema.IntLogical as int_logical
use Rattle.avro_schema.specs.contracts.schema.LongLogical as long_logical
use Rattle.avro_schema.specs.contracts.schema.SchemaPartialEq.TheImpl.Laws as schema_laws
use Rattle.avro_schema.specs.contracts.schema.RecordPartialEq.TheImpl.Laws as record_laws
use Rattle.avro_schema.specs.contracts.schema.AvroFieldPartialEq.TheImpl.Laws as field_laws
use Rattle.avro_schema.specs.contracts.schema.EnumPartialEq.TheImpl as enum_comparison
use Rattle.avro_schema.specs.contracts.schema.FixedPartialEq.TheImpl as fixed_comparison
use Rattle.avro_schema.specs.contracts.schema.BytesLogicalPartialEq.TheImpl as bytes_comparison
use Rattle.avro_schema.specs.contracts.schema.FixedLogicalPartialEq.TheImpl as fixed_logical_comparison
use Rattle.avro_schema.specs.contracts.schema.StringLogicalPartialEq.TheImpl as string_comparison
use Rattle.avro_schema.specs.contracts.schema.SchemaEq.TheImpl.Laws as schema_equality
use Rattle.avro_schema.specs.contracts.schema.RecordEq.TheImpl.Laws as record_equality
use Rattle.avro_schema.specs.contracts.schema.AvroFieldEq.TheImpl.Laws as field_equality
use Rattle.avro_schema.specs.contracts.schema.EnumEq.TheImpl.Laws as enum_equality
use Rattle.avro_schema.specs.contracts.schema.FixedEq.TheImpl.Laws as fixed_equality
use Rattle.avro_schema.specs.contracts.schema.BytesLogicalEq.TheImpl.Laws as bytes_equality
use Rattle.avro_schema.specs.contracts.schema.FixedLogicalEq.TheImpl.Laws as fixed_logical_equality
use Rattle.avro_schema.specs.contracts.schema.IntLogicalEq.TheImpl.Laws as int_equality
use Rattle.avro_schema.specs.contracts.schema.LongLogicalEq.TheImpl.Laws as long_equality
use Rattle.avro_schema.specs.contracts.schema.StringLogicalEq.TheImpl.Laws as string_equality

optional_text : (o : Option (List ℕ)) → Tells (option_eq (pointwise eqb)) o
optional_text = optional (pointwise eqb) text

-- ---- logical types

int_told : (u : IntLogical) → Tells (sameb int_logical.the_type) u
int_told u v h = same_true int_logical.the_type (search rules) u v h

long_told : (u : LongLogical) → Tells (sameb long_logical.the_type) u
long_told u v h = same_true long_logical.the_type (search rules) u v h

abbrev strings_eq : StringLogical → StringLogical → Bool
strings_eq = (string_comparison.ghosts).eq

-- there is but one
string_told : (u : StringLogical) → Tells strings_eq u
string_told string_logical.Uuid string_logical.Uuid h = refl

abbrev bytes_eq : BytesLogical → BytesLogical → Bool
bytes_eq = (bytes_comparison.ghosts).eq

abbrev fixed_logical_eq : FixedLogical → FixedLogical → Bool
fixed_logical_eq = (fixed_logical_comparison.ghosts).eq

-- a precision and a scale
two_numbers : (precision scale : ℕ) → Tells (λ (p q : ℕ × (ℕ × Unit {0})). eqb p.0 q.0 && eqb p.1.0 q.1.0) (precision, (scale, tt))
two_numbers precision scale = both eqb (λ p q. eqb p.0 q.0) precision (scale, tt) (number precision) (one eqb scale (number scale))

abbrev bytes_tests : Each Bool bytes_logical.the_parts
bytes_tests = ((λ p q. eqb p.0 q.0 && eqb p.1.0 q.1.0), tt)

abbrev fixed_logical_tests : Each Bool fixed_logical.the_parts
fixed_logical_tests = ((λ p q. eqb p.0 q.0 && eqb p.1.0 q.1.0), (point, tt))

bytes_values : (c : Choice bytes_logical.the_parts) → TellsAt bytes_logical.the_parts bytes_tests c
bytes_values (inl p) = two_numbers p.0 p.1.0
bytes_values (inr c) = absurd c

fixed_logical_values : (c : Choice fixed_logical.the_parts) → TellsAt fixed_logical.the_parts fixed_logical_tests c
fixed_logical_values (inl p) = two_numbers p.0 p.1.0
fixed_logical_values (inr (inl p)) = bare
fixed_logical_values (inr (inr c)) = absurd c

bytes_told : (u : BytesLogical) → Tells bytes_eq u
bytes_told u v h =
    values_one bytes_logical.enum u v (told_by bytes_logical.the_parts bytes_tests (bytes_logical.as_values u) (bytes_logical.as_values v) (bytes_values (bytes_logical.as_values u)) h)

fixed_logical_told : (u : FixedLogical) → Tells fixed_logical_eq u
fixed_logical_told u v h =
    values_one fixed_logical.enum u v
    (told_by fixed_logical.the_parts fixed_logical_tests (fixed_logical.as_values u) (fixed_logical.as_values v) (fixed_logical_values (fixed_logical.as_values u)) h)

-- ---- enums and fixed types

abbrev enums_eq : Enum → Enum → Bool
enums_eq = (enum_comparison.ghosts).eq

abbrev fixed_eq : Fixed → Fixed → Bool
fixed_eq = (fixed_comparison.ghosts).eq

enum_told : (e : Enum) → Tells enums_eq e
enum_told e f h =
    let k = and_true (pointwise eqb e.name f.name) _ h in
    let l = and_true (option_eq (pointwise eqb) e.namespace f.namespace) _ k.1 in
    let m = and_true (option_eq (pointwise eqb) e.doc f.doc) _ l.1 in
    let name = text e.name f.name k.0 in
    let namespace = optional_text e.namespace f.namespace l.0 in
    let doc = optional_text e.doc f.doc m.0 in
    let symbols = list (pointwise eqb) text e.symbols f.symbols m.1 in
    λ i. record { name = name i; namespace = namespace i; doc = doc i; symbols = symbols i }

fixed_told : (e : Fixed) → Tells fixed_eq e
fixed_told e f h =
    let k = and_true (pointwise eqb e.name f.name) _ h in
    let l = and_true (option_eq (pointwise eqb) e.namespace f.namespace) _ k.1 in
    let m = and_true (option_eq (pointwise eqb) e.doc f.doc) _ l.1 in
    let n = and_true (eqb e.size f.size) _ m.1 in
    let name = text e.name f.name k.0 in
    let namespace = optional_text e.namespace f.namespace l.0 in
    let doc = optional_text e.doc f.doc m.0 in
    let size = number e.size f.size n.0 in
    let logical = optional fixed_logical_eq fixed_logical_told e.logical f.logical n.1 in
    λ i. record { name = name i; namespace = namespace i; doc = doc i; size = size i; logical = logical i }

-- ---- schemas, records and fields

abbrev schemas_eq : Schema → Schema → Bool
schemas_eq = schema_laws.family member-Schema

abbrev fields_eq : AvroField → AvroField → Bool
fields_eq = schema_laws.family member-AvroField

abbrev records_eq : Record → Record → Bool
records_eq = schema_laws.family member-Record

-- the tests of the variants, in order
abbrev tests_by_variant : Each Bool the_schemas.the_parts
tests_by_variant = (point, (point, ((λ p q. option_eq (sameb int_logical.the_type) p.0 q.0), ((λ p q. option_eq (sameb long_logical.the_type) p.0 q.0), (point, (point, ((λ p q. option_eq bytes_eq p.0 q.0), ((λ p q. option_eq strings_eq p.0 q.0), ((λ p q. records_eq p.0 q.0), ((λ p q. enums_eq p.0 q.0), ((λ p q. schemas_eq p.0 q.0), ((λ p q. schemas_eq p.0 q.0), ((λ p q. pointwise schemas_eq p.0 q.0), ((λ p q. fixed_eq p.0 q.0), tt))))))))))))))

abbrev SchemaTold : Schema → Type 0
SchemaTold = Tells schemas_eq

abbrev FieldTold : AvroField → Type 0
FieldTold = Tells fields_eq

abbrev RecordTold : Record → Type 0
RecordTold = Tells records_eq

from_values : (d e : Schema) → TellsAt the_schemas.the_parts tests_by_variant (the_schemas.as_values d) → schemas_eq d e ≡ true → d ≡ e
from_values d e t h =
    values_one the_schemas.enum d e (told_by the_schemas.the_parts tests_by_variant (the_schemas.as_values d) (the_schemas.as_values e) t (sym (schema_laws.is d e) ∙ h))

abbrev SuchSchema : Type 0
SuchSchema = Such the_family (folds.claims SchemaTold FieldTold RecordTold) member-Schema

abbrev SuchField : Type 0
SuchField = Such the_family (folds.claims SchemaTold FieldTold RecordTold) member-AvroField

abbrev SuchRecord : Type 0
SuchRecord = Such the_family (folds.claims SchemaTold FieldTold RecordTold) member-Record

layer_told : (y : layer.Schema-F SuchSchema SuchField SuchRecord)
    → TellsAt the_schemas.the_parts tests_by_variant (split-Schema the_family (folds.map-Schema SuchSchema SuchField SuchRecord Schema AvroField Record (λ e. e.0) (λ e. e.0) (λ e. e.0) y))
layer_told layer.Null = bare
layer_told layer.Boolean = bare
layer_told (layer.Int logical) = one (option_eq (sameb int_logical.the_type)) logical (optional (sameb int_logical.the_type) int_told logical)
layer_told (layer.Long logical) = one (option_eq (sameb long_logical.the_type)) logical (optional (sameb long_logical.the_type) long_told logical)
layer_told layer.Float = bare
layer_told layer.Double = bare
layer_told (layer.Bytes logical) = one (option_eq bytes_eq) logical (optional bytes_eq bytes_told logical)
layer_told (layer.String logical) = one (option_eq strings_eq) logical (optional strings_eq string_told logical)
layer_told (layer.Record r) = one records_eq r.0 r.1
layer_told (layer.Enum e) = one enums_eq e (enum_told e)
layer_told (layer.Array items) = one schemas_eq items.0 items.1
layer_told (layer.Map values) = one schemas_eq values.0 values.1
layer_told (layer.Union members) = one (pointwise schemas_eq) _ (listed schemas_eq (λ e. e.0) (λ e. e.1) members)
layer_told (layer.Fixed f) = one fixed_eq f (fixed_told f)

schema_step : (x : layer.Schema-F Schema AvroField Record) (y : layer.Schema-F SuchSchema SuchField SuchRecord)
    → folds.map-Schema SuchSchema SuchField SuchRecord Schema AvroField Record (λ e. e.0) (λ e. e.0) (λ e. e.0) y ≡ x → SchemaTold (views.roll-Schema x)
schema_step x y e d = from_values (views.roll-Schema x) d
    (subst (λ z. TellsAt the_schemas.the_parts tests_by_variant (split-Schema the_family z)) (e ∙ sym (views.out-roll-Schema x)) (layer_told y))

field_made : (f : AvroField) → SchemaTold f.schema → FieldTold f
field_made f t g h =
    let k = and_true (pointwise eqb f.name g.name) _ (sym (field_laws.is f g) ∙ h) in
    let l = and_true (option_eq (pointwise eqb) f.doc g.doc) _ k.1 in
    let name = text f.name g.name k.0 in
    let doc = optional_text f.doc g.doc l.0 in
    let schema = t g.schema l.1 in
    λ i. record { name = name i; doc = doc i; schema = schema i }

field_step : (x : layer.AvroField-F Schema AvroField Record) (y : layer.AvroField-F SuchSchema SuchField SuchRecord)
    → folds.map-AvroField SuchSchema SuchField SuchRecord Schema AvroField Record (λ e. e.0) (λ e. e.0) (λ e. e.0) y ≡ x → FieldTold (views.roll-AvroField x)
field_step x y e = subst (λ z. FieldTold (views.roll-AvroField z)) e (field_made _ y.schema.1)

record_made : (r : Record) → Tells (pointwise fields_eq) (out-Record r).fields → RecordTold r
record_made r t s h =
    let x = out-Record r in
    let y = out-Record s in
    let k = and_true (pointwise eqb x.name y.name) _ (sym (record_laws.is r s) ∙ h) in
    let l = and_true (option_eq (pointwise eqb) x.namespace y.namespace) _ k.1 in
    let m = and_true (option_eq (pointwise eqb) x.doc y.doc) _ l.1 in
    let name = text x.name y.name k.0 in
    let namespace = optional_text x.namespace y.namespace l.0 in
    let doc = optional_text x.doc y.doc m.0 in
    let fields = t y.fields m.1 in
    sym (roll-out-Record r) ∙ (λ i. roll-Record (record { name = name i; namespace = namespace i; doc = doc i; fields = fields i })) ∙ roll-out-Record s

record_step : (x : layer.Record-F Schema AvroField Record) (y : layer.Record-F SuchSchema SuchField SuchRecord)
    → folds.map-Record SuchSchema SuchField SuchRecord Schema AvroField Record (λ e. e.0) (λ e. e.0) (λ e. e.0) y ≡ x → RecordTold (views.roll-Record x)
record_step x y e =
    record_made (views.roll-Record x)
    (subst (λ z. Tells (pointwise fields_eq) z.fields) (e ∙ sym (views.out-roll-Record x)) (listed fields_eq (λ (s : SuchField). s.0) (λ s. s.1) y.fields))

schema_told : (s : Schema) → SchemaTold s
schema_told = folds.ind-Schema SchemaTold FieldTold RecordTold schema_step field_step record_step

field_told : (f : AvroField) → FieldTold f
field_told f = field_made f (schema_told f.schema)

record_told : (r : Record) → RecordTold r
record_told r = record_made r (list fields_eq field_told (out-Record r).fields)

-- ---- `==` is equality

pub schemas_equal : (s r : Schema) → (schemas_eq s r ≡ true) ↔ (s ≡ r)
schemas_equal s r = (schema_told s r, λ p. subst (λ z. schemas_eq s z ≡ true) p ((schema_equality.laws-law).refl s))

pub records_equal : (s r : Record) → (records_eq s r ≡ true) ↔ (s ≡ r)
records_equal s r = (record_told s r, λ p. subst (λ z. records_eq s z ≡ true) p ((record_equality.laws-law).refl s))

pub fields_equal : (s r : AvroField) → (fields_eq s r ≡ true) ↔ (s ≡ r)
fields_equal s r = (field_told s r, λ p. subst (λ z. fields_eq s z ≡ true) p ((field_equality.laws-law).refl s))

pub enums_equal : (s r : Enum) → (enums_eq s r ≡ true) ↔ (s ≡ r)
enums_equal s r = (enum_told s r, λ p. subst (λ z. enums_eq s z ≡ true) p ((enum_equality.laws-law).refl s))

pub fixed_equal : (s r : Fixed) → (fixed_eq s r ≡ true) ↔ (s ≡ r)
fixed_equal s r = (fixed_told s r, λ p. subst (λ z. fixed_eq s z ≡ true) p ((fixed_equality.laws-law).refl s))

pub ints_equal : (s r : IntLogical) → (sameb int_logical.the_type s r ≡ true) ↔ (s ≡ r)
ints_equal s r = (int_told s r, λ p. subst (λ z. sameb int_logical.the_type s z ≡ true) p ((int_equality.laws-law).refl s))

pub longs_equal : (s r : LongLogical) → (sameb long_logical.the_type s r ≡ true) ↔ (s ≡ r)
longs_equal s r = (long_told s r, λ p. subst (λ z. sameb long_logical.the_type s z ≡ true) p ((long_equality.laws-law).refl s))

pub strings_equal : (s r : StringLogical) → (strings_eq s r ≡ true) ↔ (s ≡ r)
strings_equal s r = (string_told s r, λ p. subst (λ z. strings_eq s z ≡ true) p ((string_equality.laws-law).refl s))

pub bytes_equal : (s r : BytesLogical) → (bytes_eq s r ≡ true) ↔ (s ≡ r)
bytes_equal s r = (bytes_told s r, λ p. subst (λ z. bytes_eq s z ≡ true) p ((bytes_equality.laws-law).refl s))

pub fixed_logical_equal : (s r : FixedLogical) → (fixed_logical_eq s r ≡ true) ↔ (s ≡ r)
fixed_logical_equal s r = (fixed_logical_told s r, λ p. subst (λ z. fixed_logical_eq s z ≡ true) p ((fixed_logical_equality.laws-law).refl s))
