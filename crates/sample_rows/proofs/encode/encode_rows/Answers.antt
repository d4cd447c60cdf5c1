-- The columns are encoded as the rows of the table.
use Rattle.std.proofs.Common.{◌≡◌, ◌∙◌, ℕ, List, length, pos, get_or, ap, sym, subst, arith}
use Rattle.arrow_core.specs.declared.slot.Slot.TheVariants as slot
use Rattle.arrow_array.specs.Arrays.{array_slots}
use Rattle.avro_schema.specs.declared.schema.AvroField.{AvroField}
use Rattle.avro_schema.specs.Rows.{Rows}
use Rattle.avro_write.specs.Laws.{all_kept}
use Rattle.avro_write.specs.Serializing.{Serializing}
use Rattle.sample_rows.specs.Drawing.{before_row, user, tags, is_ok, drawn_table}
use Rattle.sample_rows.specs.Fields.{row_fields}
use Rattle.sample_rows.proofs.ColumnLemmas.{bytes_are, many_left, rows_are}
use Rattle.sample_rows.proofs.RowFields.{below, each_of_four, first, second, third, fourth}
use Rattle.sample_rows.proofs.encode.encode_rows.Goals as goal

pub bounds-fields-0 : goal.bounds-fields-0
bounds-fields-0 c = below c.args.fields.now c.requires.fields 0 (omega arith)

pub bounds-fields-1 : goal.bounds-fields-1
bounds-fields-1 c = below c.args.fields.now c.requires.fields 1 (omega arith)

pub bounds-fields-2 : goal.bounds-fields-2
bounds-fields-2 c = below c.args.fields.now c.requires.fields 2 (omega arith)

pub bounds-fields-3 : goal.bounds-fields-3
bounds-fields-3 c = below c.args.fields.now c.requires.fields 3 (omega arith)

pub serialize-requires : goal.serialize-requires
serialize-requires c =
    let f0 = get_or c.args.fields.now 0 c.index-fields-0.result in
    let f1 = get_or c.args.fields.now 1 c.index-fields-1.result in
    let f2 = get_or c.args.fields.now 2 c.index-fields-2.result in
    let f3 = get_or c.args.fields.now 3 c.index-fields-3.result in
    record {
      left = each_of_four (λ (s : Serializing). length s.left ≡ c.args.rows) c.in_ok-ids.ids c.in_ok-users.users c.in_ok-tags.tags c.in_ok-oks.oks
          (many_left c.args.rows f0.schema (λ k. slot.Integer (pos k)) _ _ c.in_ok-ids.ensures.items c.in_ok-columns.ensures.ids)
          (many_left c.args.rows f1.schema (λ k. user (before_row c.args.start k)) _ _ c.in_ok-users.ensures.items c.in_ok-columns.ensures.users)
          (many_left c.args.rows f2.schema (λ k. slot.List (tags (before_row c.args.start k))) _ _ c.in_ok-tags.ensures.items c.in_ok-columns.ensures.tags)
          (many_left c.args.rows f3.schema (λ k. is_ok (before_row c.args.start k)) _ _ c.in_ok-oks.ensures.items c.in_ok-columns.ensures.oks);
    }

pub returns-clause-bytes : goal.returns-clause-bytes
returns-clause-bytes c =
    let fields = c.args.fields.now in
    let f0 = get_or fields 0 c.index-fields-0.result in
    let f1 = get_or fields 1 c.index-fields-1.result in
    let f2 = get_or fields 2 c.index-fields-2.result in
    let f3 = get_or fields 3 c.index-fields-3.result in
    let at0 = first fields f0 c.requires.fields (ap (λ (f : AvroField). get_or fields 0 f) c.index-fields-0.is) in
    let at1 = second fields f1 c.requires.fields (ap (λ (f : AvroField). get_or fields 1 f) c.index-fields-1.is) in
    let at2 = third fields f2 c.requires.fields (ap (λ (f : AvroField). get_or fields 2 f) c.index-fields-2.is) in
    let at3 = fourth fields f3 c.requires.fields (ap (λ (f : AvroField). get_or fields 3 f) c.index-fields-3.is) in
    let columns = c.in_ok-columns.columns in
    let all = bytes_are c.args.start c.args.rows f0.schema f1.schema f2.schema f3.schema (array_slots columns.ids) (array_slots columns.users) (array_slots columns.tags) (array_slots columns.oks)
    c.in_ok-ids.ids.left c.in_ok-users.users.left c.in_ok-tags.tags.left c.in_ok-oks.oks.left at0 at1 at2 at3
    c.in_ok-columns.ensures.ids c.in_ok-columns.ensures.users c.in_ok-columns.ensures.tags c.in_ok-columns.ensures.oks
    c.in_ok-ids.ensures.items c.in_ok-users.ensures.items c.in_ok-tags.ensures.items c.in_ok-oks.ensures.items
    c.in_ok-ids.ensures.pairs c.in_ok-users.ensures.pairs c.in_ok-tags.ensures.pairs c.in_ok-oks.ensures.pairs in
    c.in_ok-serialize.ensures.ok ∙ all

pub returns-clause-rows : goal.returns-clause-rows
returns-clause-rows c =
    let fields = c.args.fields.now in
    let f0 = get_or fields 0 c.index-fields-0.result in
    let f1 = get_or fields 1 c.index-fields-1.result in
    let f2 = get_or fields 2 c.index-fields-2.result in
    let f3 = get_or fields 3 c.index-fields-3.result in
    let at0 = first fields f0 c.requires.fields (ap (λ (f : AvroField). get_or fields 0 f) c.index-fields-0.is) in
    let at1 = second fields f1 c.requires.fields (ap (λ (f : AvroField). get_or fields 1 f) c.index-fields-1.is) in
    let at2 = third fields f2 c.requires.fields (ap (λ (f : AvroField). get_or fields 2 f) c.index-fields-2.is) in
    let at3 = fourth fields f3 c.requires.fields (ap (λ (f : AvroField). get_or fields 3 f) c.index-fields-3.is) in
    let columns = c.in_ok-columns.columns in
    let all = rows_are c.args.start c.args.rows f0.schema f1.schema f2.schema f3.schema (array_slots columns.ids) (array_slots columns.users) (array_slots columns.tags) (array_slots columns.oks)
    c.in_ok-ids.ids.left c.in_ok-users.users.left c.in_ok-tags.tags.left c.in_ok-oks.oks.left at0 at1 at2 at3
    c.in_ok-columns.ensures.ids c.in_ok-columns.ensures.users c.in_ok-columns.ensures.tags c.in_ok-columns.ensures.oks
    c.in_ok-ids.ensures.items c.in_ok-users.ensures.items c.in_ok-tags.ensures.items c.in_ok-oks.ensures.items
    c.in_ok-ids.ensures.pairs c.in_ok-users.ensures.pairs c.in_ok-tags.ensures.pairs c.in_ok-oks.ensures.pairs in
    subst (λ (bytes : List ℕ). Rows c.args.rows row_fields (all_kept row_fields) bytes (drawn_table c.args.start c.args.rows)) (sym c.in_ok-serialize.ensures.ok) all
