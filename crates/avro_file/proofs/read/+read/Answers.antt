-- What a value is tells which reader reads it, and what its parts give it gives the whole.
use Rattle.std.proofs.Common.{◌≡◌, ◌-◌, Err, rules, sym, ap, ◌∙◌, codes, map}
use Rattle.std.specs.Prelude.{unwrap_or}
use Rattle.json_tree.specs.Keys.{value_of}
use Rattle.avro_schema.specs.declared.schema.Schema.{Union, Array, Map, Int, Long, Bytes, String}
use Rattle.avro_file.specs.Outcome.{then_for, found, each}
use Rattle.avro_file.specs.Reading.{reading, named, field, record_of, enum_of, inner_at, fixed_of, typed, typed_as, of_object}
use Rattle.avro_file.proofs.Layers.{schema_string, schema_array, schema_object, schema_wrong, type_string, type_nested, type_wrong}
use Rattle.avro_file.proofs.Parts.{told, then_fault, then_found, record_unnamed, record_without, record_is, inner_without, inner_is, object_untyped, object_is, field_no_object, field_unnamed, field_untyped, field_is, too_deep, one_deep, passed}
use Rattle.avro_file.proofs.Tables.{none_of}
use Rattle.avro_file.proofs.read.+read.Goals as goal

pub read_field-returns-in_default : goal.read_field-returns-in_default
read_field-returns-in_default t c = field_no_object (reading c.args.depth) c.args.item.now c.in_default.ensures

pub read_field-returns-in_default-string_at : goal.read_field-returns-in_default-string_at
read_field-returns-in_default-string_at t c = field_unnamed (reading c.args.depth) c.args.item.now c.in-Some.object.now c.in-Some.ensures c.in_default-string_at.ensures

pub read_field-returns-in_default-get : goal.read_field-returns-in_default-get
read_field-returns-in_default-get t c = field_untyped (reading c.args.depth) c.args.item.now c.in-Some.object.now c.in-Some.ensures c.in-Some-string_at.name.now c.in-Some-string_at.ensures c.in_default-get.ensures

pub read_field-returns-in_err-schema : goal.read_field-returns-in_err-schema
read_field-returns-in_err-schema t c =
    let is : c.from_residual.result ≡ Err c.in_err-schema.field-0.0 = search rules in
    told c.from_residual.result (field (reading c.args.depth) c.args.item.now) _
    (field_is (reading c.args.depth) c.args.item.now c.in-Some.object.now c.in-Some.ensures c.in-Some-string_at.name.now c.in-Some-get.value.now c.in-Some-string_at.ensures c.in-Some-get.ensures)
    (then_fault c.from_residual.result c.in_err-schema.field-0.0 _ (reading c.args.depth c.in-Some-get.value.now) is c.in_err-schema.ensures)

pub read_field-returns : goal.read_field-returns
read_field-returns t c =
    let name = c.in_ok-copy_of.ensures.copy in
    let doc = c.in_ok-copy_at.ensures.copy in
    rw (name, doc)
    (field_is (reading c.args.depth) c.args.item.now c.in-Some.object.now c.in-Some.ensures c.in-Some-string_at.name.now c.in-Some-get.value.now c.in-Some-string_at.ensures c.in-Some-get.ensures ∙ then_found _ (reading c.args.depth c.in-Some-get.value.now) c.in_ok-schema.schema c.in_ok-schema.ensures)

pub read_inner-returns-in_default : goal.read_inner-returns-in_default
read_inner-returns-in_default t c = inner_without c.args.object.now (reading c.args.depth) c.args.name.now c.in_default.ensures

pub read_inner-returns-in_err-schema : goal.read_inner-returns-in_err-schema
read_inner-returns-in_err-schema t c =
    let is : c.from_residual.result ≡ Err c.in_err-schema.field-0.0 = search rules in
    told c.from_residual.result (inner_at (reading c.args.depth) c.args.name.now c.args.object.now) _ (inner_is c.args.object.now (reading c.args.depth) c.args.name.now c.in-Some.value.now c.in-Some.ensures)
    (passed c.from_residual.result c.in_err-schema.field-0.0 (reading c.args.depth c.in-Some.value.now) is c.in_err-schema.ensures)

pub read_inner-returns-in-Ok : goal.read_inner-returns-in-Ok
read_inner-returns-in-Ok t c =
    inner_is c.args.object.now (reading c.args.depth) c.args.name.now c.in-Some.value.now c.in-Some.ensures ∙ c.in_ok-schema.ensures ∙ ap found (sym c.in-Ok.ensures.holds)

pub read_object-returns-in_default : goal.read_object-returns-in_default
read_object-returns-in_default t c = object_untyped c.args.object.now (reading c.args.depth) c.in_default.ensures

pub read_object-returns-in-String : goal.read_object-returns-in-String
read_object-returns-in-String t c =
    told c.read_typed.result (of_object (reading c.args.depth) c.args.object.now) _
    (object_is c.args.object.now (reading c.args.depth) c.in-Some.type_value.now c.in-Some.ensures
    ∙ type_string (reading c.args.depth) c.args.object.now c.in-Some.type_value.now c.in-String.name c.in-String.is
    ∙ ap (typed_as (reading c.args.depth) c.args.object.now) (sym c.as_str.ensures))
    c.read_typed.ensures

pub read_object-returns-in_default-type_value : goal.read_object-returns-in_default-type_value
read_object-returns-in_default-type_value t c =
    object_is c.args.object.now (reading c.args.depth) c.in-Some.type_value.now c.in-Some.ensures
    ∙ type_wrong (reading c.args.depth) c.args.object.now c.in-Some.type_value.now c.in_default-type_value.not-String c.in_default-type_value.not-Array c.in_default-type_value.not-Object

pub read_object-returns-in-Array : goal.read_object-returns-in-Array
read_object-returns-in-Array t c =
    told c.read_value.result (of_object (reading c.args.depth) c.args.object.now) _
    (object_is c.args.object.now (reading c.args.depth) c.in-Some.type_value.now c.in-Some.ensures ∙ type_nested (reading c.args.depth) c.args.object.now c.in-Some.type_value.now c.in-Array.is)
    c.read_value.ensures

pub read_record-returns-in_default : goal.read_record-returns-in_default
read_record-returns-in_default t c = record_unnamed c.args.object.now (reading c.args.depth) c.in_default.ensures

pub read_record-returns-in_default-items_at : goal.read_record-returns-in_default-items_at
read_record-returns-in_default-items_at t c = record_without c.args.object.now (reading c.args.depth) c.in-Some.name.now c.in-Some.ensures c.in_default-items_at.ensures

pub read_record-returns-in_err-fields : goal.read_record-returns-in_err-fields
read_record-returns-in_err-fields t c =
    let is : c.from_residual.result ≡ Err c.in_err-fields.field-0.0 = search rules in
    told c.from_residual.result (record_of (reading c.args.depth) c.args.object.now) _
    (record_is c.args.object.now (reading c.args.depth) c.in-Some.name.now c.in-Some-items_at.items.now c.in-Some.ensures c.in-Some-items_at.ensures)
    (then_fault c.from_residual.result c.in_err-fields.field-0.0 _ _ is c.in_err-fields.ensures)

pub read_record-returns : goal.read_record-returns
read_record-returns t c =
    let name = c.in_ok-copy_of.ensures.copy in
    let namespace = c.in_ok-copy_at.ensures.copy in
    let doc = c.in_ok-copy_at-2.ensures.copy in
    rw (name, namespace, doc)
    (record_is c.args.object.now (reading c.args.depth) c.in-Some.name.now c.in-Some-items_at.items.now c.in-Some.ensures c.in-Some-items_at.ensures ∙ then_found _ _ c.in_ok-fields.fields c.in_ok-fields.ensures)

pub read_typed-returns-in_err-read_inner-in-array : goal.read_typed-returns-in_err-read_inner-in-array
unfolding typed_as typed
read_typed-returns-in_err-read_inner-in-array t c =
    let is : c.from_residual.result ≡ Err c.in_err-read_inner-in-array.field-0.0 = search rules in
    told c.from_residual.result (typed_as (reading c.args.depth) c.args.object.now c.args.name.now) (then_for Array (inner_at (reading c.args.depth) (codes "items") c.args.object.now))
    (ap (λ name. unwrap_or (value_of name (typed (reading c.args.depth) c.args.object.now)) (named name)) c.in-array.is)
    (then_fault c.from_residual.result c.in_err-read_inner-in-array.field-0.0 Array (inner_at (reading c.args.depth) (codes "items") c.args.object.now) is c.in_err-read_inner-in-array.ensures)

pub read_typed-returns-in_ok-read_inner-in-array : goal.read_typed-returns-in_ok-read_inner-in-array
unfolding typed_as typed
read_typed-returns-in_ok-read_inner-in-array t c =
    ap (λ name. unwrap_or (value_of name (typed (reading c.args.depth) c.args.object.now)) (named name)) c.in-array.is ∙ then_found Array (inner_at (reading c.args.depth) (codes "items") c.args.object.now) c.in_ok-read_inner-in-array.field-0 c.in_ok-read_inner-in-array.ensures

pub read_typed-returns-in_err-read_inner-in-map : goal.read_typed-returns-in_err-read_inner-in-map
unfolding typed_as typed
read_typed-returns-in_err-read_inner-in-map t c =
    let is : c.from_residual-in_err-read_inner-in-map.result ≡ Err c.in_err-read_inner-in-map.field-0.0 = search rules in
    told c.from_residual-in_err-read_inner-in-map.result (typed_as (reading c.args.depth) c.args.object.now c.args.name.now) (then_for Map (inner_at (reading c.args.depth) (codes "values") c.args.object.now))
    (ap (λ name. unwrap_or (value_of name (typed (reading c.args.depth) c.args.object.now)) (named name)) c.in-map.is)
    (then_fault c.from_residual-in_err-read_inner-in-map.result c.in_err-read_inner-in-map.field-0.0 Map (inner_at (reading c.args.depth) (codes "values") c.args.object.now) is c.in_err-read_inner-in-map.ensures)

pub read_typed-returns-in_ok-read_inner-in-map : goal.read_typed-returns-in_ok-read_inner-in-map
unfolding typed_as typed
read_typed-returns-in_ok-read_inner-in-map t c =
    ap (λ name. unwrap_or (value_of name (typed (reading c.args.depth) c.args.object.now)) (named name)) c.in-map.is ∙ then_found Map (inner_at (reading c.args.depth) (codes "values") c.args.object.now) c.in_ok-read_inner-in-map.field-0 c.in_ok-read_inner-in-map.ensures

pub read_typed-returns-in-record : goal.read_typed-returns-in-record
unfolding typed_as typed
read_typed-returns-in-record t c =
    told c.read_record.result (typed_as (reading c.args.depth) c.args.object.now c.args.name.now) (record_of (reading c.args.depth) c.args.object.now) (ap (λ name. unwrap_or (value_of name (typed (reading c.args.depth) c.args.object.now)) (named name)) c.in-record.is) c.read_record.ensures

pub read_typed-returns-in-enum : goal.read_typed-returns-in-enum
unfolding typed_as typed
read_typed-returns-in-enum t c =
    told c.read_enum.result (typed_as (reading c.args.depth) c.args.object.now c.args.name.now) (enum_of c.args.object.now) (ap (λ name. unwrap_or (value_of name (typed (reading c.args.depth) c.args.object.now)) (named name)) c.in-enum.is) c.read_enum.ensures

pub read_typed-returns-in-fixed : goal.read_typed-returns-in-fixed
unfolding typed_as typed
read_typed-returns-in-fixed t c =
    told c.read_fixed.result (typed_as (reading c.args.depth) c.args.object.now c.args.name.now) (fixed_of c.args.object.now) (ap (λ name. unwrap_or (value_of name (typed (reading c.args.depth) c.args.object.now)) (named name)) c.in-fixed.is) c.read_fixed.ensures

pub read_typed-returns-in-int : goal.read_typed-returns-in-int
unfolding typed_as typed
read_typed-returns-in-int t c = ap (λ name. unwrap_or (value_of name (typed (reading c.args.depth) c.args.object.now)) (named name)) c.in-int.is ∙ ap (λ logical. found (Int logical)) (sym c.int_logical.ensures)

pub read_typed-returns-in-long : goal.read_typed-returns-in-long
unfolding typed_as typed
read_typed-returns-in-long t c = ap (λ name. unwrap_or (value_of name (typed (reading c.args.depth) c.args.object.now)) (named name)) c.in-long.is ∙ ap (λ logical. found (Long logical)) (sym c.long_logical.ensures)

pub read_typed-returns-in-bytes : goal.read_typed-returns-in-bytes
unfolding typed_as typed
read_typed-returns-in-bytes t c = ap (λ name. unwrap_or (value_of name (typed (reading c.args.depth) c.args.object.now)) (named name)) c.in-bytes.is ∙ ap (λ logical. found (Bytes logical)) (sym c.bytes_logical.ensures)

pub read_typed-returns-in-string : goal.read_typed-returns-in-string
unfolding typed_as typed
read_typed-returns-in-string t c = ap (λ name. unwrap_or (value_of name (typed (reading c.args.depth) c.args.object.now)) (named name)) c.in-string.is ∙ ap (λ logical. found (String logical)) (sym c.string_logical.ensures)

pub read_typed-returns-in_default : goal.read_typed-returns-in_default
unfolding typed_as typed
read_typed-returns-in_default t c =
    told c.read_name.result (typed_as (reading c.args.depth) c.args.object.now c.args.name.now) (named c.args.name.now)
    (ap (λ o. unwrap_or o (named c.args.name.now)) (none_of c.args.name.now (typed (reading c.args.depth) c.args.object.now) (c.in_default.not-record, (c.in_default.not-enum, (c.in_default.not-array, (c.in_default.not-map, (c.in_default.not-fixed, (c.in_default.not-int, (c.in_default.not-long, (c.in_default.not-bytes, (c.in_default.not-string, tt)))))))))))
    c.read_name.ensures

pub read_value-returns-then-depth-eq0 : goal.read_value-returns-then-depth-eq0
read_value-returns-then-depth-eq0 t c = too_deep c.args.depth c.args.value.now c.if-depth-eq0.true

pub read_value-returns-in-String : goal.read_value-returns-in-String
read_value-returns-in-String t c =
    told c.read_name.result (reading c.args.depth c.args.value.now) _
    (one_deep c.args.depth c.args.value.now c.if-depth-eq0.false ∙ schema_string (reading (c.args.depth - 1)) c.args.value.now c.in-String.name c.in-String.is ∙ ap named (sym c.as_str.ensures))
    c.read_name.ensures

pub read_value-returns-in-Array : goal.read_value-returns-in-Array
read_value-returns-in-Array t c =
    told c.read_union.result (reading c.args.depth c.args.value.now) _
    (one_deep c.args.depth c.args.value.now c.if-depth-eq0.false ∙ schema_array (reading (c.args.depth - 1)) c.args.value.now c.in-Array.members c.in-Array.is
    ∙ ap (λ items. then_for Union (each (map (reading (c.args.depth - 1)) items))) (sym c.as_slice.ensures))
    c.read_union.ensures

pub read_value-returns-in-Object : goal.read_value-returns-in-Object
read_value-returns-in-Object t c =
    told c.read_object.result (reading c.args.depth c.args.value.now) _
    (one_deep c.args.depth c.args.value.now c.if-depth-eq0.false ∙ schema_object (reading (c.args.depth - 1)) c.args.value.now c.in-Object.object c.in-Object.is)
    c.read_object.ensures

pub read_value-returns-in_default : goal.read_value-returns-in_default
read_value-returns-in_default t c =
    one_deep c.args.depth c.args.value.now c.if-depth-eq0.false
    ∙ schema_wrong (reading (c.args.depth - 1)) c.args.value.now c.in_default.not-String c.in_default.not-Array c.in_default.not-Object
