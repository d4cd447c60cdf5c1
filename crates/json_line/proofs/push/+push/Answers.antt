use Rattle.std.proofs.Common.{◌≡◌, ◌∙◌, ◌+◌, ◌-◌, ◌<◌, suc, length, map, get_or, refl, sym, ap, subst, rules, arith}
use denote.Param.Weighed.{at_most}
use Rattle.arrow_array.specs.FixedLists.{list_size}
use Rattle.arrow_builders.specs.MutableArrays.{builder_slots}
use Rattle.arrow_builders.specs.Shapes.{shape}
use Rattle.arrow_builders.specs.Tight.{IsTight}
use Rattle.arrow_builders.specs.declared.array.MutableArray.{MutableArray, FixedSizeList, LargeList, List, Struct}
use Rattle.arrow_builders.proofs.Rows.{shape_same}
use Rattle.json_tree.specs.Reading.{array_at, object_at, value_at}
use Rattle.json_tree.specs.Tree.{array, object}
use Rattle.json_tree.proofs.Turns.{value-array}
use Rattle.json_lend.proofs.SkipLaws.{value-object}
use Rattle.json_line.proofs.field_names.FieldNames.TheLaws.{the_size}
use Rattle.json_line.specs.declared.field_names.FieldNames.TheViews.{the_lemmas}
use Rattle.json_line.specs.Builders.{shape_reading, Suits}
use Rattle.json_line.proofs.Batches.{items-end, items-next, items-start, none-read}
use Rattle.json_line.proofs.Nested.{children_tight, list_taken, read_behind, read_into, struct_count, struct_taken, struct_tight}
use Rattle.json_line.proofs.SizedLists.{one_list_more, sized_list_taken, sized_tight}
use Rattle.json_line.proofs.Rows.{as-many-shapes, index-within, members-end, members-next, members-start, no-members, read-at, row-filled, shapes-step, tight-at, tight-so_far}
use Rattle.json_line.proofs.Suited.{fields_suit, items_of_lists, lent_suits, lent_tight, lists_suit, sized_of_lists, sized_suit, suits_at, suits_length, suits_same}
use Rattle.json_line.proofs.push.+push.Goals as goal

-- ---- lists

pub push_list-push_items-requires : goal.push_list-push_items-requires
push_list-push_items-requires t c =
    let v = c.mut_values.ensures.value in
    let d = c.decreases in
    (omega arith, (rw v c.requires.suits, rw v c.requires.tight.1))

pub push_list-returns-clause-ok : goal.push_list-returns-clause-ok
push_list-returns-clause-ok t c =
    let p = c.in_ok-push_items.ensures.ok in
    let took = rw c.mut_values.ensures.value at p.2 in
    read_into c.end_list.result (array_at (value_at c.args.depth)) c.args.reader.now c.push_items.new.reader (array p.0) (List c.args.lists.now) (List c.end_list.new.lists) p.1
    (list_taken c.end_list.result (shape_reading (shape c.args.lists.now.values.value)) p.0 (builder_slots c.args.lists.now.values.value) (builder_slots c.push_items.new.builder) _ _ _ c.args.lists.now.lists.lens c.requires.tight.0 took refl refl c.end_list.ensures.ok)

pub push_large_list-push_items-requires : goal.push_large_list-push_items-requires
push_large_list-push_items-requires t c =
    let v = c.mut_values.ensures.value in
    let d = c.decreases in
    (omega arith, (rw v c.requires.suits, rw v c.requires.tight.1))

pub push_large_list-returns-clause-ok : goal.push_large_list-returns-clause-ok
push_large_list-returns-clause-ok t c =
    let p = c.in_ok-push_items.ensures.ok in
    let took = rw c.mut_values.ensures.value at p.2 in
    read_into c.end_large_list.result (array_at (value_at c.args.depth)) c.args.reader.now c.push_items.new.reader (array p.0) (LargeList c.args.lists.now) (LargeList c.end_large_list.new.lists) p.1
    (list_taken c.end_large_list.result (shape_reading (shape c.args.lists.now.values.value)) p.0 (builder_slots c.args.lists.now.values.value) (builder_slots c.push_items.new.builder) _ _ _ c.args.lists.now.lists.lens c.requires.tight.0 took refl refl c.end_large_list.ensures.ok)

-- ---- lists of so many items

pub push_sized_list-push_sized_items-requires : goal.push_sized_list-push_sized_items-requires
push_sized_list-push_sized_items-requires t c =
    let v = c.mut_values.ensures.value in
    let d = c.decreases in
    (omega arith, (rw v c.requires.suits, rw v c.requires.tight.1))

pub push_sized_list-end_sized_list-requires : goal.push_sized_list-end_sized_list-requires
push_sized_list-end_sized_list-requires t c =
    let more = rw c.mut_values.ensures.value at c.in_ok-push_sized_items.ensures.more in
    one_list_more (length c.args.lists.now.marks.booleans) c.args.size (list_size c.args.lists.now.marks.data_type) (length (builder_slots c.args.lists.now.values.value)) (length (builder_slots c.push_sized_items.new.builder)) c.requires.size c.requires.tight.0 more

pub push_sized_list-returns-clause-tight : goal.push_sized_list-returns-clause-tight
push_sized_list-returns-clause-tight t c =
    let more = rw c.mut_values.ensures.value at c.in_ok-push_sized_items.ensures.more in
    let b = c.args.lists.now in
    let many = one_list_more (length b.marks.booleans) c.args.size (list_size b.marks.data_type) (length (builder_slots b.values.value)) (length (builder_slots c.push_sized_items.new.builder)) c.requires.size c.requires.tight.0 more in
    sized_tight c.end_sized_list.result b c.end_sized_list.new.lists c.push_sized_items.new.builder c.in_ok-push_sized_items.ensures.tight many (ap (λ v. v.value) c.end_sized_list.ensures.values) c.end_sized_list.ensures.data_type c.end_sized_list.ensures.booleans

pub push_sized_list-returns-clause-ok : goal.push_sized_list-returns-clause-ok
push_sized_list-returns-clause-ok t c =
    let b = c.args.lists.now in
    let p = c.in_ok-push_sized_items.ensures.ok in
    let took = rw c.mut_values.ensures.value at p.2 in
    let more = rw c.mut_values.ensures.value at c.in_ok-push_sized_items.ensures.more in
    read_into c.end_sized_list.result (array_at (value_at c.args.depth)) c.args.reader.now c.push_sized_items.new.reader (array p.0) (FixedSizeList b) (FixedSizeList c.end_sized_list.new.lists) p.1
    (sized_list_taken c.end_sized_list.result (shape_reading (shape b.values.value)) (list_size b.marks.data_type) b.marks.booleans p.0 (builder_slots b.values.value) (builder_slots c.push_sized_items.new.builder) _ _ _ c.requires.tight.0 (more ∙ ap (λ n. length (builder_slots b.values.value) + n) c.requires.size) took refl refl c.end_sized_list.ensures.ok)

-- ---- items

pub push_items-returns-then-closes-clause-ok : goal.push_items-returns-then-closes-clause-ok
push_items-returns-then-closes-clause-ok t c = none-read c.args.depth c.args.reader.now c.closes.new.reader c.args.builder.now c.if-closes.ensures.found

pub push_items-loop-reader-init : goal.push_items-loop-reader-init
push_items-loop-reader-init t c =
    let f = c.if-closes.ensures in
    record { same_shape = refl; tight = c.requires.tight; forward = f.forward; reads = items-start c.args.depth c.args.reader.now c.closes.new.reader c.args.builder.now f.found.0 f.found.1 }

pub push_items-push_value-requires : goal.push_items-push_value-requires
push_items-push_value-requires t c =
    let inv = c.loop-reader.invariant in
    let d = c.decreases in
    (omega arith, (subst (Suits c.args.names.now) (sym inv.same_shape) c.requires.suits, inv.tight))

pub push_items-returns-in_err-push_value-clause-same_shape : goal.push_items-returns-in_err-push_value-clause-same_shape
push_items-returns-in_err-push_value-clause-same_shape t c = c.push_value.ensures.same_shape ∙ c.loop-reader.invariant.same_shape

pub push_items-returns-in_err-goes_on-clause-same_shape : goal.push_items-returns-in_err-goes_on-clause-same_shape
push_items-returns-in_err-goes_on-clause-same_shape t c = c.push_value.ensures.same_shape ∙ c.loop-reader.invariant.same_shape

pub push_items-returns-then-not-branch-clause-same_shape : goal.push_items-returns-then-not-branch-clause-same_shape
push_items-returns-then-not-branch-clause-same_shape t c = c.push_value.ensures.same_shape ∙ c.loop-reader.invariant.same_shape

pub push_items-returns-then-not-branch-clause-ok : goal.push_items-returns-then-not-branch-clause-ok
push_items-returns-then-not-branch-clause-ok t c =
    let inv = c.loop-reader.invariant in
    let f = rw c.if-not-branch.true at c.in_ok-goes_on.ensures.found in
    items-end c.args.depth c.args.reader.now c.loop-reader.reader c.skip_spaces.new.self c.push_value.new.reader c.goes_on.new.reader c.args.builder.now c.loop-reader.builder c.push_value.new.builder inv.same_shape inv.reads c.skip_spaces.ensures.skipped c.push_value.ensures.forward c.in_ok-push_value.ensures.ok f.0

pub push_items-loop-reader-preserved : goal.push_items-loop-reader-preserved
push_items-loop-reader-preserved t c =
    let inv = c.loop-reader.invariant in
    let e = c.in_ok-push_value.ensures in
    let f = rw c.if-not-branch.false at c.in_ok-goes_on.ensures.found in
    record {
      same_shape = e.same_shape ∙ inv.same_shape;
      tight = e.tight;
      forward = omega (arith, c.in_ok-goes_on.ensures.forward, e.forward, c.skip_spaces.ensures.forward, inv.forward);
      reads = items-next c.args.depth c.args.reader.now c.loop-reader.reader c.skip_spaces.new.self c.push_value.new.reader c.goes_on.new.reader c.args.builder.now c.loop-reader.builder c.push_value.new.builder inv.same_shape inv.reads c.skip_spaces.ensures.skipped e.forward e.ok f;
    }

-- ---- values

pub push_value-push_object-requires : goal.push_value-push_object-requires
push_value-push_object-requires t c =
    let own = c.as_slice-own.ensures.value in
    let below = c.as_slice-below.ensures.value in
    ((let d = c.decreases in let e = ap the_size c.in-Fields.is in let a = below in search (rules, the_lemmas)), (fields_suit c.args.names.now c.in-Fields.own c.in-Fields.below c.as_slice-own.result.now c.as_slice-below.result.now (shape c.args.builder.now) c.in-Fields.is own below c.requires.suits, c.requires.tight))

pub push_value-push_null_list-requires-clause-lists : goal.push_value-push_null_list-requires-clause-lists
push_value-push_null_list-requires-clause-lists t c = items_of_lists c.in-Items.item.value _ (lists_suit c.args.names.now c.in-Items.item.value c.in-Items.item (shape c.args.builder.now) c.in-Items.is refl c.requires.suits)

pub push_value-push_null_list-requires-in-Sized-clause-lists : goal.push_value-push_null_list-requires-in-Sized-clause-lists
push_value-push_null_list-requires-in-Sized-clause-lists t c =
    sized_of_lists c.in-Sized.size c.in-Sized.item.value _ (sized_suit c.args.names.now c.in-Sized.item.value c.in-Sized.size c.in-Sized.item (shape c.args.builder.now) c.in-Sized.is refl c.requires.suits)

pub push_value-push_null_struct-requires-clause-suits : goal.push_value-push_null_struct-requires-clause-suits
push_value-push_null_struct-requires-clause-suits t c = (c.in-Fields.own.items, c.in-Fields.below.items, fields_suit c.args.names.now c.in-Fields.own c.in-Fields.below c.in-Fields.own.items c.in-Fields.below.items (shape c.args.builder.now) c.in-Fields.is refl refl c.requires.suits)

pub push_value-returns-then-opens-clause-ok : goal.push_value-returns-then-opens-clause-ok
push_value-returns-then-opens-clause-ok t c =
    let f = c.if-opens.ensures in
    let n : c.args.depth ≡ suc (c.args.depth - 1) = omega (arith, f.1) in
    let p = c.push_array in
    read_behind p.result (array_at (value_at (c.args.depth - 1))) (value_at c.args.depth) c.args.reader.now c.opens.new.reader p.new.reader c.args.builder.now p.new.builder (value-array c.args.depth (c.args.depth - 1) c.args.reader.now c.opens.new.reader n f.0) p.ensures.ok

pub push_value-returns-then-opens-2-clause-ok : goal.push_value-returns-then-opens-2-clause-ok
push_value-returns-then-opens-2-clause-ok t c =
    let f = c.if-opens-2.ensures in
    let n : c.args.depth ≡ suc (c.args.depth - 1) = omega (arith, f.1) in
    let p = c.push_sized_array in
    let behind = c.opens-in-Sized.new.reader in
    read_behind p.result (array_at (value_at (c.args.depth - 1))) (value_at c.args.depth) c.args.reader.now behind p.new.reader c.args.builder.now p.new.builder (value-array c.args.depth (c.args.depth - 1) c.args.reader.now behind n f.0) p.ensures.ok

pub push_value-returns-then-opens-3-clause-ok : goal.push_value-returns-then-opens-3-clause-ok
push_value-returns-then-opens-3-clause-ok t c =
    let f = c.if-opens-3.ensures in
    let n : c.args.depth ≡ suc (c.args.depth - 1) = omega (arith, f.1) in
    let p = c.push_object in
    let behind = c.opens-in-Fields.new.reader in
    read_behind p.result (object_at (value_at (c.args.depth - 1))) (value_at c.args.depth) c.args.reader.now behind p.new.reader c.args.builder.now p.new.builder (value-object c.args.depth (c.args.depth - 1) c.args.reader.now behind n f.0) p.ensures.ok

-- ---- structs

pub push_object-push_struct-requires : goal.push_object-push_struct-requires
push_object-push_struct-requires t c =
    let d = c.decreases in
    let b = c.args.builder.now in
    let s = lent_suits c.args.own.now c.args.below.now b c.in-Struct.structs _ c.in-Struct.is c.in-Struct.structs-is c.requires.suits in (
      omega arith,
      (s.0, (s.1, (s.2, (lent_tight c.args.own.now c.args.below.now b c.in-Struct.structs _ c.in-Struct.is c.in-Struct.structs-is c.requires.tight, struct_count b c.in-Struct.structs _ c.len-count.result c.in-Struct.is c.in-Struct.structs-is c.len-count.ensures)))),
    )

pub push_struct-read_fields-requires : goal.push_struct-read_fields-requires
push_struct-read_fields-requires t c =
    let d = c.decreases in
    (omega arith, (c.requires.distinct, (c.requires.suits, (rw c.requires.count at (children_tight c.args.structs.now c.requires.tight), search rules))))

pub push_struct-fill_fields-requires-clause-fields : goal.push_struct-fill_fields-requires-clause-fields
push_struct-fill_fields-requires-clause-fields t c =
    let s = suits_length c.args.below.now c.args.structs.now.values.items c.requires.suits in
    let n = as-many-shapes _ _ c.read_fields.ensures.shapes in
    omega (arith, s, n)

pub push_struct-fill_fields-requires-clause-tight : goal.push_struct-fill_fields-requires-clause-tight
push_struct-fill_fields-requires-clause-tight t c =
    let all = rw c.requires.count at (children_tight c.args.structs.now c.requires.tight) in
    tight-so_far c.args.count _ c.args.structs.now.values.items c.read_fields.new.structs.values.items all c.in_ok-read_fields.ensures.ok.2

pub push_struct-returns-in_err-read_fields-clause-same_shape : goal.push_struct-returns-in_err-read_fields-clause-same_shape
push_struct-returns-in_err-read_fields-clause-same_shape t c =
    let e = c.in_err-read_fields.ensures in
    shape_same c.args.structs.now c.read_fields.new.structs (ap (λ m. m.data_type) e.marks) e.shapes

pub push_struct-returns-in_err-fill_fields-clause-same_shape : goal.push_struct-returns-in_err-fill_fields-clause-same_shape
push_struct-returns-in_err-fill_fields-clause-same_shape t c =
    let e = c.read_fields.ensures in
    let f = c.in_err-fill_fields.ensures in
    shape_same c.args.structs.now c.fill_fields.new.structs (ap (λ m. m.data_type) (f.marks ∙ e.marks)) (f.shapes ∙ e.shapes)

pub push_struct-returns-clause-same_shape : goal.push_struct-returns-clause-same_shape
push_struct-returns-clause-same_shape t c =
    let e = c.read_fields.ensures in
    let f = c.fill_fields.ensures in
    let q = c.end_struct.ensures in
    shape_same c.args.structs.now c.end_struct.new.structs (q.data_type ∙ ap (λ m. m.data_type) (f.marks ∙ e.marks)) (ap (λ v. map shape v.items) q.values ∙ (f.shapes ∙ e.shapes))

pub push_struct-returns-clause-tight : goal.push_struct-returns-clause-tight
push_struct-returns-clause-tight t c =
    let b = c.args.structs.now in
    let n = c.requires.count in
    let r = c.in_ok-read_fields.ensures.ok in
    let q = c.end_struct.ensures in
    let all = row-filled c.args.count c.args.own.now r.0 b.values.items c.read_fields.new.structs.values.items c.fill_fields.new.structs.values.items (rw n at (children_tight b c.requires.tight)) r.2 c.in_ok-fill_fields.ensures.ok in
    struct_tight c.end_struct.result b c.fill_fields.new.structs c.end_struct.new.structs (c.fill_fields.ensures.marks ∙ c.read_fields.ensures.marks) (rw n all.1) q.values q.booleans

pub push_struct-returns-clause-ok : goal.push_struct-returns-clause-ok
push_struct-returns-clause-ok t c =
    let b = c.args.structs.now in
    let own = c.args.own.now in
    let new = c.fill_fields.new.structs in
    let r = c.in_ok-read_fields.ensures.ok in
    let all = row-filled c.args.count own r.0 b.values.items c.read_fields.new.structs.values.items new.values.items (rw c.requires.count at (children_tight b c.requires.tight)) r.2 c.in_ok-fill_fields.ensures.ok in
    let n = suits_length c.args.below.now b.values.items c.requires.suits in
    let same : length own ≡ length c.args.below.now = search rules in
    let wide : length b.values.items ≡ length own = omega (arith, n, same) in
    let shapes = c.fill_fields.ensures.shapes ∙ c.read_fields.ensures.shapes in
    read_into c.end_struct.result (object_at (value_at c.args.depth)) c.args.reader.now c.read_fields.new.reader (object r.0) (Struct b) (Struct c.end_struct.new.structs) r.1
    (struct_taken c.end_struct.result b new own r.0 _ (c.fill_fields.ensures.marks ∙ c.read_fields.ensures.marks) c.requires.tight c.requires.names wide (as-many-shapes b.values.items new.values.items shapes) all.0 c.end_struct.ensures.ok)

pub read_fields-returns-then-closes-clause-ok : goal.read_fields-returns-then-closes-clause-ok
read_fields-returns-then-closes-clause-ok t c =
    let n = suits_length c.args.below.now c.args.structs.now.values.items c.requires.suits in
    no-members c.args.depth c.args.own.now c.args.reader.now c.closes.new.reader c.args.structs.now.values.items (omega (arith, n, c.requires.wide)) c.if-closes.ensures.found

pub read_fields-loop-at-init : goal.read_fields-loop-at-init
read_fields-loop-at-init t c =
    let f = c.if-closes.ensures in
    let n = suits_length c.args.below.now c.args.structs.now.values.items c.requires.suits in
    record {
      marks = refl;
      shapes = refl;
      forward = f.forward;
      reads = members-start c.args.depth c.args.own.now c.args.reader.now c.closes.new.reader c.args.structs.now.values.items (omega (arith, n, c.requires.wide)) f.found.0 f.found.1;
    }

pub read_fields-read_field-requires : goal.read_fields-read_field-requires
read_fields-read_field-requires t c =
    let d = c.decreases in
    let i = c.loop-at.invariant in
    let begins = c.in_ok-at.ensures.reads in
    let old = c.args.structs.now.values.items in
    let now = c.loop-at.structs.values.items in (
      omega arith,
      (index-within c.args.own.now begins.0 c.in_ok-at.at (length c.args.below.now) begins.1 c.requires.wide, (suits_same c.args.below.now old now i.shapes c.requires.suits, tight-so_far c.args.count _ old now c.requires.tight i.reads.4)),
    )

pub read_fields-returns-in_err-read_field-clause-shapes : goal.read_fields-returns-in_err-read_field-clause-shapes
read_fields-returns-in_err-read_field-clause-shapes t c = c.read_field.ensures.shapes ∙ c.loop-at.invariant.shapes

pub read_fields-returns-in_err-read_field-clause-marks : goal.read_fields-returns-in_err-read_field-clause-marks
read_fields-returns-in_err-read_field-clause-marks t c = c.read_field.ensures.marks ∙ c.loop-at.invariant.marks

pub read_fields-returns-in_err-goes_on-clause-shapes : goal.read_fields-returns-in_err-goes_on-clause-shapes
read_fields-returns-in_err-goes_on-clause-shapes t c = c.read_field.ensures.shapes ∙ c.loop-at.invariant.shapes

pub read_fields-returns-in_err-goes_on-clause-marks : goal.read_fields-returns-in_err-goes_on-clause-marks
read_fields-returns-in_err-goes_on-clause-marks t c = c.read_field.ensures.marks ∙ c.loop-at.invariant.marks

pub read_fields-returns-then-not-branch-clause-shapes : goal.read_fields-returns-then-not-branch-clause-shapes
read_fields-returns-then-not-branch-clause-shapes t c = c.read_field.ensures.shapes ∙ c.loop-at.invariant.shapes

pub read_fields-returns-then-not-branch-clause-marks : goal.read_fields-returns-then-not-branch-clause-marks
read_fields-returns-then-not-branch-clause-marks t c = c.read_field.ensures.marks ∙ c.loop-at.invariant.marks

pub read_fields-returns-then-not-branch-clause-ok : goal.read_fields-returns-then-not-branch-clause-ok
read_fields-returns-then-not-branch-clause-ok t c =
    let i = c.loop-at.invariant in
    let f = rw c.if-not-branch.true at c.in_ok-goes_on.ensures.found in
    members-end c.args.depth c.args.count c.in_ok-at.at c.args.own.now c.args.reader.now c.loop-at.reader c.read_name.new.reader c.read_field.new.reader c.goes_on.new.reader c.args.structs.now.values.items c.loop-at.structs.values.items c.read_field.new.structs.values.items
    c.requires.distinct c.requires.tight i.reads c.in_ok-at.ensures.reads (omega (arith, c.read_field.ensures.forward, c.in_ok-at.ensures.forward)) c.in_ok-read_field.ensures.ok f.0

pub read_fields-loop-at-preserved : goal.read_fields-loop-at-preserved
read_fields-loop-at-preserved t c =
    let i = c.loop-at.invariant in
    let f = rw c.if-not-branch.false at c.in_ok-goes_on.ensures.found in
    record {
      marks = c.read_field.ensures.marks ∙ i.marks;
      shapes = c.read_field.ensures.shapes ∙ i.shapes;
      forward = omega (arith, c.in_ok-goes_on.ensures.forward, c.read_field.ensures.forward, c.in_ok-at.ensures.forward, i.forward);
      reads = members-next c.args.depth c.args.count c.in_ok-at.at c.args.own.now c.args.reader.now c.loop-at.reader c.read_name.new.reader c.read_field.new.reader c.goes_on.new.reader c.args.structs.now.values.items c.loop-at.structs.values.items c.read_field.new.structs.values.items
          c.requires.distinct c.requires.tight i.reads c.in_ok-at.ensures.reads (omega (arith, c.read_field.ensures.forward, c.in_ok-at.ensures.forward)) c.in_ok-read_field.ensures.ok f;
    }

pub read_field-mut_values-requires : goal.read_field-mut_values-requires
read_field-mut_values-requires t c =
    let s = suits_length c.args.below.now c.args.structs.now.values.items c.requires.suits in
    let lt = rw c.in-Some.is at c.requires.within in
    let v = c.args.structs.now.values.ok in
    omega (arith, s, v.0, lt)

pub read_field-push_once-requires : goal.read_field-push_once-requires
read_field-push_once-requires t c =
    let i = c.in-Some.i in
    let ns = c.args.below.now in
    let bs = c.args.structs.now.values.items in
    let names = c.index-below-i.result in
    let b = c.mut_values.result.now in
    let v = c.mut_values.ensures.value in
    let n = suits_length ns bs c.requires.suits in
    let lt : i < length ns = rw c.in-Some.is at c.requires.within in
    let m = at_most the_size ns i names lt in
    let d = c.decreases in
    let is = c.index-below-i.is in
    let q = ap the_size is in
    let suits = subst (λ n. Suits n (shape b)) (sym is) (subst (λ (x : MutableArray). Suits (get_or ns i names) (shape x)) (sym v) (suits_at ns bs i names b lt c.requires.suits)) in
    let tight = subst IsTight (sym v) (tight-at bs i b (omega (arith, n, lt)) c.requires.tight) in
    (omega arith, (suits, tight))

pub read_field-returns-in-Some-clause-shapes : goal.read_field-returns-in-Some-clause-shapes
read_field-returns-in-Some-clause-shapes t c =
    shapes-step c.args.structs.now.values.items c.in-Some.i c.mut_values.result.now c.push_once.new.builder _ c.mut_values.ensures.value c.push_once.ensures.same_shape refl

pub read_field-returns-in-Some-clause-ok : goal.read_field-returns-in-Some-clause-ok
read_field-returns-in-Some-clause-ok t c =
    let e = c.push_once.ensures in
    let bs = c.args.structs.now.values.items in
    let n = suits_length c.args.below.now bs c.requires.suits in
    let lt = rw c.in-Some.is at c.requires.within in
    read-at c.push_once.result c.args.depth c.args.count c.args.at c.in-Some.i c.args.reader.now c.push_once.new.reader bs _ c.mut_values.result.now c.push_once.new.builder c.in-Some.is (omega (arith, n, lt)) refl c.mut_values.ensures.value e.ok e.once e.tight
