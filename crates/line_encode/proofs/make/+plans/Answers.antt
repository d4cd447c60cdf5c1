-- A plan is made of the plans of what is within the type and the schema.
use Rattle.std.proofs.Common.{◌≡◌, ◌∙◌, ◌<◌, ◌++◌, ◌∷◌, [], true, false, ap, sym, subst, rules, arith, length}
use Rattle.arrow_core.specs.declared.types.DataType.TheVariants as types
use Rattle.avro_schema.specs.declared.schema.Schema.{Array, Union}
use Rattle.line_encode.specs.Makes.{ArePlansOf, IsHeldPlanOf, IsListPlanOf, IsPlanOf, IsRecordPlanOf}
use Rattle.line_encode.proofs.Making.{if_some, large_lists_plan, list_plan, lists_plan, nullable_plan, plans_more, record_plan, required_plan, struct_plan, two_members}
use Rattle.line_encode.proofs.make.+plans.Goals as goal

pub make_plan-returns-in_default : goal.make_plan-returns-in_default
make_plan-returns-in_default t c =
    if_some c.make_held.result (IsHeldPlanOf false c.args.data_type.now c.args.schema.now) (IsPlanOf c.args.data_type.now c.args.schema.now) (required_plan c.args.data_type.now c.args.schema.now) c.make_held.ensures

pub make_held-returns-in-Record : goal.make_held-returns-in-Record
make_held-returns-in-Record t c =
    let nullable = c.args.nullable in
    let data_type = c.args.data_type.now in
    let avro_fields = c.as_slice.result.now in
    if_some c.make_record.result (IsRecordPlanOf nullable data_type avro_fields) (IsHeldPlanOf nullable data_type c.args.schema.now) (λ p h. record_plan nullable data_type c.args.schema.now c.in-Record.record avro_fields p c.in-Record.is c.as_slice.ensures h) c.make_record.ensures

pub make_list-returns-in-List : goal.make_list-returns-in-List
make_list-returns-in-List t c =
    let nullable = c.args.nullable in
    let list = c.args.data_type.now in
    let item = c.args.item.now in
    let field = c.get.result.now in
    if_some c.make_items.result (IsListPlanOf nullable field.data_type item) (IsHeldPlanOf nullable list (Array item)) (λ p h. lists_plan nullable list field item p (c.in-List.is ∙ ap types.List (sym c.get.ensures)) h) c.make_items.ensures

pub make_list-returns-in-LargeList : goal.make_list-returns-in-LargeList
make_list-returns-in-LargeList t c =
    let nullable = c.args.nullable in
    let list = c.args.data_type.now in
    let item = c.args.item.now in
    let field = c.get-in-LargeList.result.now in
    if_some c.make_items-in-LargeList.result (IsListPlanOf nullable field.data_type item) (IsHeldPlanOf nullable list (Array item)) (λ p h. large_lists_plan nullable list field item p (c.in-LargeList.is ∙ ap types.LargeList (sym c.get-in-LargeList.ensures)) h) c.make_items-in-LargeList.ensures

pub make_items-returns-in-Ok : goal.make_items-returns-in-Ok
make_items-returns-in-Ok t c =
    let t = c.args.item_type.now in
    let s = c.args.item.now in
    list_plan c.args.nullable t s c.in-Ok.plan (subst (λ p. IsPlanOf t s p) (sym c.in-Ok.ensures.ok) c.in_ok-plan.ensures)

pub make_nullable-returns : goal.make_nullable-returns
make_nullable-returns t c =
    let data_type = c.args.data_type.now in
    let first = c.first-item.result in
    let second = c.second-item.result in
    let members = c.args.members.now in
    let two = two_members members first second (omega (arith, c.in-len2.len_at_least, c.in-len2.len_below)) c.first-item.is c.second-item.is in
    if_some c.make_held.result (IsHeldPlanOf true data_type second) (IsPlanOf data_type (Union members)) (λ p h. nullable_plan data_type first second members p (c.is_null.ensures c.if-not-is_null.false) two h) c.make_held.ensures

pub make_struct-returns : goal.make_struct-returns
make_struct-returns t c =
    struct_plan c.args.nullable c.args.fields.now c.args.avro_fields.now c.in_ok-names.names c.in_ok-plans.plans c.in_ok-names.ensures.names c.in_ok-names.ensures.named c.in_ok-plans.ensures

pub make_plans-loop-i-init : goal.make_plans-loop-i-init
make_plans-loop-i-init t c = subst (λ ps. ArePlansOf [] [] ps) (sym c.new-plans.ensures.items) tt

pub make_plans-loop-i-preserved : goal.make_plans-loop-i-preserved
make_plans-loop-i-preserved t c =
    let i = c.loop-i.i in
    let fields = c.args.fields.now in
    let avro_fields = c.args.avro_fields.now in
    let field = c.index-fields-i.result in
    let avro_field = c.index-avro_fields-i.result in
    let lt : i < length fields = c.loop-i-test.true in
    let same : length fields ≡ length avro_fields = c.if-fields-avro_fields.false in
    let pushed : c.push.new.self.items ≡ c.loop-i.plans.items ++ c.in_ok-plan.plan ∷ [] = search rules in
    plans_more fields avro_fields i field avro_field c.loop-i.plans.items c.push.new.self.items c.in_ok-plan.plan lt (omega (arith, lt, same)) c.index-fields-i.is c.index-avro_fields-i.is c.in_ok-plan.ensures pushed c.loop-i.invariant
