-- `==` of types and of fields is true of equal ones alone.
use mathlib.Core.Bool.{beq}
use lib.Pointwise.{pointwise}
use lib.Dec.{eqb}
use denote.Enum.Bare.{sameb, same_true}
use denote.Enum.Compared.{Each}
use denote.Enum.Declared.{values_one}
use denote.Hole.Holds.{Such}
use Rattle.std.proofs.Common.{◌≡◌, ◌↔◌, refl, sym, ◌∙◌, subst, ℕ, Bool, true, ◌&&◌, List, int_eq, rules}
use Rattle.std.specs.Option.{option_eq}
use Rattle.arrow_core.proofs.Comparisons.{Tells, and_true, both, one, listed, list, optional, number, boolean, integer, text, TellsAt, told_by, point, bare}
use Rattle.arrow_core.specs.declared.types.DataType.{DataType}
use Rattle.arrow_core.specs.declared.types.Field.{Field}
use Rattle.arrow_core.specs.declared.types.IntegerType.{IntegerType}
use Rattle.arrow_core.specs.declared.types.IntervalUnit.{IntervalUnit}
use Rattle.arrow_core.specs.declared.types.Schema.{Schema}
use Rattle.arrow_core.specs.declared.types.TimeUnit.{TimeUnit}
use Rattle.arrow_core.specs.declared.types.UnionMode.{UnionMode}
use Rattle.arrow_core.specs.declared.types.DataType.TheBlock.{member-DataType, member-Field}
use Rattle.arrow_core.specs.declared.types.DataType.TheBlock.{the_family, split-DataType}
use Rattle.arrow_core.specs.declared.types.DataType.TheViews as views
use Rattle.arrow_core.specs.declared.types.DataType.TheFolds as folds
use Rattle.arrow_core.specs.declared.types.DataType.TheOpen as layer
use Rattle.arrow_core.specs.contracts.types.DataType as the_types
use Rattle.arrow_core.specs.contracts.types.TimeUnit as time_unit
use Rattle.arrow_core.specs.contracts.types.IntervalUnit as interval_unit
use Rattle.arrow_core.specs.contracts.types.UnionMode as union_mode
use Rattle.arrow_core.specs.contracts.types.IntegerType as integer_type
use Rattle.arrow_core.specs.contracts.types.DataTypePartialEq.TheImpl.Laws as type_laws
use Rattle.arrow_core.specs.contracts.types.FieldPartialEq.TheImpl.Laws as field_laws
use Rattle.arrow_core.specs.contracts.types.SchemaPartialEq.TheImpl as schema_comparison
use Rattle.arrow_core.specs.contracts.types.DataTypeEq.TheImpl.Laws as type_equality
use Rattle.arrow_core.specs.contracts.types.FieldEq.TheImpl.Laws as field_equality
use Rattle.arrow_core.specs.contracts.types.SchemaEq.TheImpl.Laws as schema_equality

time_unit_told : (u : TimeUnit) → Tells (sameb time_unit.the_type) u
time_unit_told u v h = same_true time_unit.the_type (search rules) u v h

interval_unit_told : (u : IntervalUnit) → Tells (sameb interval_unit.the_type) u
interval_unit_told u v h = same_true interval_unit.the_type (search rules) u v h

union_mode_told : (u : UnionMode) → Tells (sameb union_mode.the_type) u
union_mode_told u v h = same_true union_mode.the_type (search rules) u v h

integer_type_told : (u : IntegerType) → Tells (sameb integer_type.the_type) u
integer_type_told u v h = same_true integer_type.the_type (search rules) u v h

abbrev Entry : Type 0
Entry = List ℕ × List ℕ

entry : (p : Entry) → Tells (λ (a b : Entry). pointwise eqb a.0 b.0 && pointwise eqb a.1 b.1) p
entry p = both (pointwise eqb) (pointwise eqb) p.0 p.1 (text p.0) (text p.1)

abbrev pub types_eq : DataType → DataType → Bool
types_eq = type_laws.family member-DataType

abbrev pub fields_eq : Field → Field → Bool
fields_eq = type_laws.family member-Field

-- the tests of the variants, in order
abbrev tests_by_variant : Each Bool the_types.the_parts
tests_by_variant = (point, (point, (point, (point, (point, (point, (point, (point, (point, (point, (point, (point, (point, ((λ p q. sameb time_unit.the_type p.0 q.0 && option_eq (pointwise eqb) p.1.0 q.1.0), (point, (point, ((λ p q. sameb time_unit.the_type p.0 q.0), ((λ p q. sameb time_unit.the_type p.0 q.0), ((λ p q. sameb time_unit.the_type p.0 q.0), ((λ p q. sameb interval_unit.the_type p.0 q.0), (point, ((λ p q. eqb p.0 q.0), (point, (point, (point, ((λ p q. fields_eq p.0 q.0), ((λ p q. fields_eq p.0 q.0 && eqb p.1.0 q.1.0), ((λ p q. fields_eq p.0 q.0), ((λ p q. pointwise fields_eq p.0 q.0), ((λ p q. fields_eq p.0 q.0 && beq p.1.0 q.1.0), ((λ p q. pointwise fields_eq p.0 q.0 && (option_eq (pointwise int_eq) p.1.0 q.1.0 && sameb union_mode.the_type p.1.1.0 q.1.1.0)), ((λ p q. sameb integer_type.the_type p.0 q.0 && (types_eq p.1.0 q.1.0 && beq p.1.1.0 q.1.1.0)), ((λ p q. eqb p.0 q.0 && eqb p.1.0 q.1.0), ((λ p q. eqb p.0 q.0 && eqb p.1.0 q.1.0), ((λ p q. pointwise eqb p.0 q.0 && (types_eq p.1.0 q.1.0 && option_eq (pointwise eqb) p.1.1.0 q.1.1.0)), tt)))))))))))))))))))))))))))))))))))

abbrev TypeTold : DataType → Type 0
TypeTold = Tells types_eq

abbrev FieldTold : Field → Type 0
FieldTold = Tells fields_eq

from_values : (d e : DataType) → TellsAt the_types.the_parts tests_by_variant (the_types.as_values d) → types_eq d e ≡ true → d ≡ e
from_values d e t h =
    values_one the_types.enum d e (told_by the_types.the_parts tests_by_variant (the_types.as_values d) (the_types.as_values e) t (sym (type_laws.is d e) ∙ h))

abbrev SuchType : Type 0
SuchType = Such the_family (folds.claims TypeTold FieldTold) member-DataType

abbrev SuchField : Type 0
SuchField = Such the_family (folds.claims TypeTold FieldTold) member-Field

layer_told : (y : layer.DataType-F SuchType SuchField)
    → TellsAt the_types.the_parts tests_by_variant (split-DataType the_family (folds.map-DataType SuchType SuchField DataType Field (λ e. e.0) (λ e. e.0) y))
layer_told layer.Null = bare
layer_told layer.Boolean = bare
layer_told layer.Int8 = bare
layer_told layer.Int16 = bare
layer_told layer.Int32 = bare
layer_told layer.Int64 = bare
layer_told layer.UInt8 = bare
layer_told layer.UInt16 = bare
layer_told layer.UInt32 = bare
layer_told layer.UInt64 = bare
layer_told layer.Float16 = bare
layer_told layer.Float32 = bare
layer_told layer.Float64 = bare
layer_told (layer.Timestamp unit zone) =
    both (sameb time_unit.the_type) (λ p q. option_eq (pointwise eqb) p.0 q.0) unit (zone, tt) (time_unit_told unit)
    (one (option_eq (pointwise eqb)) zone (optional (pointwise eqb) text zone))
layer_told layer.Date32 = bare
layer_told layer.Date64 = bare
layer_told (layer.Time32 unit) = one (sameb time_unit.the_type) unit (time_unit_told unit)
layer_told (layer.Time64 unit) = one (sameb time_unit.the_type) unit (time_unit_told unit)
layer_told (layer.Duration unit) = one (sameb time_unit.the_type) unit (time_unit_told unit)
layer_told (layer.Interval unit) = one (sameb interval_unit.the_type) unit (interval_unit_told unit)
layer_told layer.Binary = bare
layer_told (layer.FixedSizeBinary size) = one eqb size (number size)
layer_told layer.LargeBinary = bare
layer_told layer.Utf8 = bare
layer_told layer.LargeUtf8 = bare
layer_told (layer.List item) = one fields_eq item.0 item.1
layer_told (layer.FixedSizeList item size) = both fields_eq (λ p q. eqb p.0 q.0) item.0 (size, tt) item.1 (one eqb size (number size))
layer_told (layer.LargeList item) = one fields_eq item.0 item.1
layer_told (layer.Struct fields) = one (pointwise fields_eq) _ (listed fields_eq (λ e. e.0) (λ e. e.1) fields)
layer_told (layer.Map entries sorted) = both fields_eq (λ p q. beq p.0 q.0) entries.0 (sorted, tt) entries.1 (one beq sorted (boolean sorted))
layer_told (layer.Union fields ids mode) =
    both (pointwise fields_eq) (λ p q. option_eq (pointwise int_eq) p.0 q.0 && sameb union_mode.the_type p.1.0 q.1.0) _ (ids, (mode, tt)) (listed fields_eq (λ e. e.0) (λ e. e.1) fields)
    (both (option_eq (pointwise int_eq)) (λ p q. sameb union_mode.the_type p.0 q.0) ids (mode, tt) (optional (pointwise int_eq) (list int_eq integer) ids)
    (one (sameb union_mode.the_type) mode (union_mode_told mode)))
layer_told (layer.Dictionary key value sorted) =
    both (sameb integer_type.the_type) (λ p q. types_eq p.0 q.0 && beq p.1.0 q.1.0) key (value.0, (sorted, tt)) (integer_type_told key)
    (both types_eq (λ p q. beq p.0 q.0) value.0 (sorted, tt) value.1 (one beq sorted (boolean sorted)))
layer_told (layer.Decimal precision scale) = both eqb (λ p q. eqb p.0 q.0) precision (scale, tt) (number precision) (one eqb scale (number scale))
layer_told (layer.Decimal256 precision scale) = both eqb (λ p q. eqb p.0 q.0) precision (scale, tt) (number precision) (one eqb scale (number scale))
layer_told (layer.Extension name inner metadata) =
    both (pointwise eqb) (λ p q. types_eq p.0 q.0 && option_eq (pointwise eqb) p.1.0 q.1.0) name (inner.0, (metadata, tt)) (text name)
    (both types_eq (λ p q. option_eq (pointwise eqb) p.0 q.0) inner.0 (metadata, tt) inner.1
    (one (option_eq (pointwise eqb)) metadata (optional (pointwise eqb) text metadata)))

type_step : (x : layer.DataType-F DataType Field) (y : layer.DataType-F SuchType SuchField)
    → folds.map-DataType SuchType SuchField DataType Field (λ e. e.0) (λ e. e.0) y ≡ x → TypeTold (views.roll-DataType x)
type_step x y e d = from_values (views.roll-DataType x) d
    (subst (λ z. TellsAt the_types.the_parts tests_by_variant (split-DataType the_family z)) (e ∙ sym (views.out-roll-DataType x)) (layer_told y))

made : (f : Field) → TypeTold f.data_type → FieldTold f
made f t g h =
    let k = and_true (pointwise eqb f.name g.name) _ (sym (field_laws.is f g) ∙ h) in
    let l = and_true (types_eq f.data_type g.data_type) _ k.1 in
    let m = and_true (beq f.is_nullable g.is_nullable) _ l.1 in
    let name = text f.name g.name k.0 in
    let data_type = t g.data_type l.0 in
    let is_nullable = boolean f.is_nullable g.is_nullable m.0 in
    let metadata = list _ entry f.metadata g.metadata m.1 in
    λ i. record { name = name i; data_type = data_type i; is_nullable = is_nullable i; metadata = metadata i }

field_step : (x : layer.Field-F DataType Field) (y : layer.Field-F SuchType SuchField)
    → folds.map-Field SuchType SuchField DataType Field (λ e. e.0) (λ e. e.0) y ≡ x → FieldTold (views.roll-Field x)
field_step x y e = subst (λ z. FieldTold (views.roll-Field z)) e (made _ y.data_type.1)

-- `==` is true of equal types alone
pub type_told : (d : DataType) → TypeTold d
type_told = folds.ind-DataType TypeTold FieldTold type_step field_step

-- `==` is true of equal fields alone
pub field_told : (f : Field) → FieldTold f
field_told f = made f (type_told f.data_type)

pub types_equal : (d e : DataType) → (types_eq d e ≡ true) ↔ (d ≡ e)
types_equal d e = (type_told d e, λ p. subst (λ z. types_eq d z ≡ true) p ((type_equality.laws-law).refl d))

pub fields_equal : (f g : Field) → (fields_eq f g ≡ true) ↔ (f ≡ g)
fields_equal f g = (field_told f g, λ p. subst (λ z. fields_eq f z ≡ true) p ((field_equality.laws-law).refl f))

abbrev pub schemas_eq : Schema → Schema → Bool
schemas_eq = (schema_comparison.ghosts).eq

schema_told : (s : Schema) → Tells schemas_eq s
schema_told s r h =
    let k = and_true (pointwise fields_eq s.fields r.fields) _ h in
    let fields = list fields_eq field_told s.fields r.fields k.0 in
    let metadata = list _ entry s.metadata r.metadata k.1 in
    λ i. record { fields = fields i; metadata = metadata i }

-- `==` is true of equal schemas alone
pub schemas_equal : (s r : Schema) → (schemas_eq s r ≡ true) ↔ (s ≡ r)
schemas_equal s r = (schema_told s r, λ p. subst (λ z. schemas_eq s z ≡ true) p ((schema_equality.laws-law).refl s))
