-- Rows that were shown: field by field, and one after another.
use Rattle.std.proofs.Common.{◌≡◌, ℕ, suc, ◌+◌, ◌-◌, ◌<◌, ◌≤◌, Bool, true, false, List, [], ◌∷◌, ◌++◌, length, map, drop, get_or, codes, refl, sym, ap, ◌∙◌, subst, append_assoc, append-nil, add-one, arith}
use Rattle.std.proofs.Math.Seq.{drop-cons, drop-length}
use Rattle.arrow_core.specs.declared.slot.Slot.{Slot}
use Rattle.arrow_core.specs.declared.types.Field.{Field}
use Rattle.avro_schema.specs.declared.schema.AvroField.{AvroField}
use Rattle.avro_schema.specs.Parts.{Many}
use Rattle.avro_schema.specs.Rows.{Pieces, no_pieces, with_kept, with_skipped, Row}
use Rattle.avro_schema.specs.ValidBlock.{kept}
use Rattle.avro_reference.specs.Read.{read}
use Rattle.avro_reference.proofs.SkippedValues.{skip_sound}
use Rattle.avro_reference.proofs.Values.{read_sound}
use Rattle.json_text.specs.declared.columns.Column.{Column}
use Rattle.json_text.specs.Columns.{key_bytes, key_of}
use Rattle.json_text.specs.JsonText.{field_members, member, object, text}
use Rattle.json_text.specs.Refusals.{all_in_range}
use Rattle.json_text.proofs.ColumnLemmas.{here}
use Rattle.json_text.proofs.Records.{and_both}
use Rattle.json_write.specs.Rows.{lines, members, names_of, row_object, texts}
use Rattle.avro_line.specs.Rows.{ArePreparedFrom, ArePrepared, SkipsTo, ShowsRow, ShowsLine, ShowsTable, ShowsLines, ShowsRowsOf}
use Rattle.avro_line.specs.Values.{ShowsSlot, ShowsValue, IsNextColumn}
use Rattle.avro_line.proofs.Items.{begun, begun_more}
use Rattle.avro_line.proofs.Lines.{opening_of, keyed, is_here, some_field, closed}

-- ---- the fields of a row

-- fields were shown after an opening, or skipped
pub record RowFrom (avro_fields : List AvroField) (projection : List Bool) (fields : List Field) (opening before after old new : List ℕ) : Type 0 where
  pub pieces : Pieces
  pub prefix : List ℕ
  pub joined : before ≡ prefix ++ after
  pub row : Row avro_fields projection prefix pieces
  pub many : length pieces.slots ≡ length fields
  pub shown : new ≡ old ++ begun opening (field_members fields pieces.slots)
  pub dates : all_in_range fields pieces.slots ≡ true

row_none : (opening before old : List ℕ) → RowFrom [] [] [] opening before before old old
row_none opening before old = record { pieces = no_pieces; prefix = []; joined = refl; row = (refl, refl); many = refl; shown = sym (append-nil old); dates = refl }

joined_up : (before p mid q after : List ℕ) → before ≡ p ++ mid → mid ≡ q ++ after → before ≡ (p ++ q) ++ after
joined_up before p mid q after e d = e ∙ ap (λ z. p ++ z) d ∙ sym (append_assoc p q after)

row_kept : (a : AvroField) (avros : List AvroField) (keeps : List Bool) (f : Field) (fs : List Field) (b : Bool) (key before mid after out with_key now new : List ℕ) → with_key ≡ out ++ key → key ≡ key_of b f.name → ShowsSlot (read a.schema) f.data_type before mid with_key now → RowFrom avros keeps fs (codes ",") mid after now new → RowFrom (a ∷ avros) (true ∷ keeps) (f ∷ fs) (opening_of b) before after out new
row_kept a avros keeps f fs b key before mid after out with_key now new e k x more =
    let one = read_sound a.schema before mid x.value x.read in
    record {
      pieces = with_kept (x.value, length one.0) more.pieces;
      prefix = one.0 ++ more.prefix;
      joined = joined_up before one.0 mid more.prefix after one.2 more.joined;
      row = record { prefix = one.0; back = more.prefix; joined = refl; value = (x.value, length one.0); first = (one.1, refl); second = (more.pieces, refl, more.row) };
      many = ap suc more.many;
      shown = begun_more out (opening_of b) (member f.name (text f.data_type x.value)) now new (field_members fs more.pieces.slots) (keyed b f.name (text f.data_type x.value) out key with_key now e k x.shown) more.shown;
      dates = and_both _ _ x.dates more.dates;
    }

row_skipped : (a : AvroField) (avros : List AvroField) (keeps : List Bool) (fs : List Field) (opening before mid after out new : List ℕ) → SkipsTo a.schema before mid → RowFrom avros keeps fs opening mid after out new → RowFrom (a ∷ avros) (false ∷ keeps) fs opening before after out new
row_skipped a avros keeps fs opening before mid after out new s more =
    let one = skip_sound a.schema before mid s.0 s.1 in
    record {
      pieces = with_skipped s.0 more.pieces;
      prefix = one.0 ++ more.prefix;
      joined = joined_up before one.0 mid more.prefix after one.2 more.joined;
      row = record { prefix = one.0; back = more.prefix; joined = refl; value = s.0; first = one.1; second = (more.pieces, refl, more.row) };
      many = more.many;
      shown = more.shown;
      dates = more.dates;
    }

-- k fields were shown or skipped: if the others are, all are
pub record RowUnderway (avro_fields : List AvroField) (projection : List Bool) (fields : List Field) (k : ℕ) (columns : List Column) (before rest old out : List ℕ) : Type 0 where
  pub is_first : Bool
  pub others : List Field
  pub prepared : ArePreparedFrom is_first (kept (drop k avro_fields) (drop k projection)) others columns
  pub left : (after new : List ℕ) → RowFrom (drop k avro_fields) (drop k projection) others (opening_of is_first) rest after out new → RowFrom avro_fields projection fields (codes "{") before after old new

abbrev pub RowUnderwayOf : List AvroField → List Bool → List Column → ℕ → List Column → List ℕ → List ℕ → List ℕ → List ℕ → Type 0
RowUnderwayOf avro_fields projection columns k left before rest old out = (fields : List Field) → ArePrepared (kept avro_fields projection) fields columns → RowUnderway avro_fields projection fields k left before rest old out

module _ (avro_fields : List AvroField) (projection : List Bool) (columns : List Column) where
  pub row_begun : (before old : List ℕ) → RowUnderwayOf avro_fields projection columns 0 columns before before old old
  row_begun before old fields p = record { is_first = true; others = fields; prepared = p; left = λ after new h. h }

  module _ (k : ℕ) (a : AvroField) (before rest mid old out : List ℕ) (lt : k < length avro_fields) (same : length avro_fields ≡ length projection) (is : a ≡ get_or avro_fields k a) where
    split_fields : drop k avro_fields ≡ a ∷ drop (k + 1) avro_fields
    split_fields = here avro_fields k a lt is

    split_flags : (b : Bool) → get_or projection k false ≡ b → drop k projection ≡ b ∷ drop (k + 1) projection
    split_flags b e =
        drop-cons projection k false (omega (arith, lt, same)) ∙ ap (λ (j : ℕ). get_or projection k false ∷ drop j projection) (sym (add-one k))
        ∙ ap (λ (c : Bool). c ∷ drop (k + 1) projection) e

    pub next_kept : (rest_columns : List Column) (column : Column) (within after_columns : List Column) (with_key now : List ℕ) → get_or projection k false ≡ true → RowUnderwayOf avro_fields projection columns k rest_columns before rest old out → IsNextColumn rest_columns column within after_columns
        → with_key ≡ out ++ key_bytes column.key → ShowsValue a.schema column.form within rest mid with_key now → RowUnderwayOf avro_fields projection columns (k + 1) after_columns before mid old now
    next_kept rest_columns column within after_columns with_key now holds h n e x fields p =
        let u = h fields p in
        let flags = split_flags true holds in
        let prepared : ArePreparedFrom u.is_first (a ∷ kept (drop (k + 1) avro_fields) (drop (k + 1) projection)) u.others rest_columns =
        subst (λ (ks : List Bool). ArePreparedFrom u.is_first (kept (a ∷ drop (k + 1) avro_fields) ks) u.others rest_columns) flags
        (subst (λ (avros : List AvroField). ArePreparedFrom u.is_first (kept avros (drop k projection)) u.others rest_columns) split_fields u.prepared) in
        let at = is_here u.is_first a (kept (drop (k + 1) avro_fields) (drop (k + 1) projection)) u.others rest_columns column within after_columns prepared n in
        record {
          is_first = false;
          others = at.others;
          prepared = at.prepared;
          left = λ after new more. u.left after new
              (subst (λ (avros : List AvroField). RowFrom avros (drop k projection) u.others (opening_of u.is_first) rest after out new) (sym split_fields)
              (subst (λ (ks : List Bool). RowFrom (a ∷ drop (k + 1) avro_fields) ks u.others (opening_of u.is_first) rest after out new) (sym flags)
              (subst (λ (fs : List Field). RowFrom (a ∷ drop (k + 1) avro_fields) (true ∷ drop (k + 1) projection) fs (opening_of u.is_first) rest after out new) (sym at.split)
              (row_kept a (drop (k + 1) avro_fields) (drop (k + 1) projection) at.field at.others u.is_first (key_bytes column.key) rest mid after out with_key now new e at.key (x at.field.data_type at.typed at.form at.are_within) more))));
        }

    pub next_skipped : (rest_columns : List Column) → get_or projection k false ≡ false → RowUnderwayOf avro_fields projection columns k rest_columns before rest old out → SkipsTo a.schema rest mid → RowUnderwayOf avro_fields projection columns (k + 1) rest_columns before mid old out
    next_skipped rest_columns skipped h s fields p =
        let u = h fields p in
        let flags = split_flags false skipped in
        record {
          is_first = u.is_first;
          others = u.others;
          prepared =
              subst (λ (ks : List Bool). ArePreparedFrom u.is_first (kept (a ∷ drop (k + 1) avro_fields) ks) u.others rest_columns) flags
              (subst (λ (avros : List AvroField). ArePreparedFrom u.is_first (kept avros (drop k projection)) u.others rest_columns) split_fields u.prepared);
          left = λ after new more. u.left after new
              (subst (λ (avros : List AvroField). RowFrom avros (drop k projection) u.others (opening_of u.is_first) rest after out new) (sym split_fields)
              (subst (λ (ks : List Bool). RowFrom (a ∷ drop (k + 1) avro_fields) ks u.others (opening_of u.is_first) rest after out new) (sym flags)
              (row_skipped a (drop (k + 1) avro_fields) (drop (k + 1) projection) u.others (opening_of u.is_first) rest mid after out new s more)));
        }

members_are : (fs : List Field) (xs : List Slot) → members (names_of fs) (texts (map (λ f. f.data_type) fs) xs) ≡ field_members fs xs
members_are [] [] = refl
members_are [] (x ∷ xs) = refl
members_are (f ∷ fs) [] = refl
members_are (f ∷ fs) (x ∷ xs) = ap (λ z. member f.name (text f.data_type x) ∷ z) (members_are fs xs)

line_closed : (fs : List Field) (xs : List Slot) (old body new : List ℕ) → 0 < length fs → length xs ≡ length fs → body ≡ old ++ begun (codes "{") (field_members fs xs) → new ≡ body ++ codes "}\n" → new ≡ old ++ (row_object (names_of fs) (map (λ f. f.data_type) fs) xs ++ codes "\n")
line_closed fs xs old body new some many e d =
    d ∙ sym (append_assoc body (codes "}") (codes "\n")) ∙ ap (λ z. z ++ codes "\n") (closed fs xs old body (body ++ codes "}") some many e refl)
    ∙ append_assoc old (object (field_members fs xs)) (codes "\n") ∙ ap (λ z. old ++ (object z ++ codes "\n")) (sym (members_are fs xs))

none_left : (b : Bool) (fs : List Field) (columns : List Column) → ArePreparedFrom b [] fs columns → fs ≡ []
none_left b [] columns q = refl
none_left b (f ∷ fs) columns q = absurd q.typed

pub row_ended : (avro_fields : List AvroField) (projection : List Bool) (columns : List Column) (k : ℕ) (left : List Column) (before rest old out new : List ℕ) → (length columns ≡ 0 → ⊥) → length avro_fields ≡ length projection → k ≡ length avro_fields → RowUnderwayOf avro_fields projection columns k left before rest old out → new ≡ out ++ codes "}\n" → ShowsLine avro_fields projection columns before rest old new
row_ended avro_fields projection columns k left before rest old out new some same e h d fields p =
    let u = h fields p in
    let no_fields : drop k avro_fields ≡ [] = ap (λ m. drop m avro_fields) e ∙ drop-length avro_fields in
    let no_flags : drop k projection ≡ [] = ap (λ m. drop m projection) (e ∙ same) ∙ drop-length projection in
    let prepared : ArePreparedFrom u.is_first [] u.others left =
    subst (λ (ks : List Bool). ArePreparedFrom u.is_first (kept [] ks) u.others left) no_flags
    (subst (λ (avros : List AvroField). ArePreparedFrom u.is_first (kept avros (drop k projection)) u.others left) no_fields u.prepared) in
    let none = none_left u.is_first u.others left prepared in
    let all = u.left rest out
    (subst (λ (avros : List AvroField). RowFrom avros (drop k projection) u.others (opening_of u.is_first) rest rest out out) (sym no_fields)
    (subst (λ (ks : List Bool). RowFrom [] ks u.others (opening_of u.is_first) rest rest out out) (sym no_flags)
    (subst (λ (fs : List Field). RowFrom [] [] fs (opening_of u.is_first) rest rest out out) (sym none) (row_none (opening_of u.is_first) rest out)))) in
    record {
      pieces = all.pieces;
      prefix = all.prefix;
      joined = all.joined;
      row = all.row;
      shown = line_closed fields all.pieces.slots old out new (some_field (kept avro_fields projection) fields columns some p) all.many all.shown d;
      dates = all.dates;
    }

-- ---- rows

module _ (avro_fields : List AvroField) (projection : List Bool) (fields : List Field) where
  no_rows : (before old : List ℕ) → ShowsTable 0 avro_fields projection fields before before old old
  no_rows before old = record { pieces = []; prefix = []; joined = refl; rows = (refl, refl); shown = sym (append-nil old); dates = refl }

  one_more_row : (m : ℕ) (before mid after old now new : List ℕ) → ShowsRow avro_fields projection fields before mid old now → ShowsTable m avro_fields projection fields mid after now new → ShowsTable (suc m) avro_fields projection fields before after old new
  one_more_row m before mid after old now new x more =
      let names = names_of fields in
      let types = map (λ (f : Field). f.data_type) fields in
      let others : List ℕ = lines names types (map (λ (row : Pieces). row.slots) more.pieces) in
      record {
        pieces = x.pieces ∷ more.pieces;
        prefix = x.prefix ++ more.prefix;
        joined = joined_up before x.prefix mid more.prefix after x.joined more.joined;
        rows = record { prefix = x.prefix; back = more.prefix; joined = refl; value = x.pieces; first = x.row; second = (more.pieces, refl, more.rows) };
        shown = more.shown ∙ ap (λ z. z ++ others) x.shown ∙ append_assoc old (row_object names types x.pieces.slots ++ codes "\n") others;
        dates = and_both _ _ x.dates more.dates;
      }

-- k of n rows were shown: if the others are, all are
abbrev pub RowsUnderwayOf : List AvroField → List Bool → List Column → ℕ → ℕ → List ℕ → List ℕ → List ℕ → List ℕ → Type 0
RowsUnderwayOf avro_fields projection columns n k before rest old out = (fields : List Field) → ArePrepared (kept avro_fields projection) fields columns
    → (after new : List ℕ) → ShowsTable (n - k) avro_fields projection fields rest after out new → ShowsTable n avro_fields projection fields before after old new

module _ (avro_fields : List AvroField) (projection : List Bool) (columns : List Column) (n : ℕ) where
  pub rows_begun : (before old : List ℕ) → RowsUnderwayOf avro_fields projection columns n 0 before before old old
  rows_begun before old fields p after new h = let all : n - 0 ≡ n = omega arith in subst (λ (m : ℕ). ShowsTable m avro_fields projection fields before after old new) all h

  pub rows_next : (k : ℕ) (before rest mid old out now : List ℕ) → k < n → RowsUnderwayOf avro_fields projection columns n k before rest old out → ShowsLine avro_fields projection columns rest mid out now → RowsUnderwayOf avro_fields projection columns n (k + 1) before mid old now
  rows_next k before rest mid old out now lt h x fields p after new more =
      let left : suc (n - (k + 1)) ≡ n - k = omega (arith, lt) in
      h fields p after new (subst (λ (m : ℕ). ShowsTable m avro_fields projection fields rest after out new) left (one_more_row avro_fields projection fields (n - (k + 1)) rest mid after out now new (x fields p) more))

  pub rows_ended : (k : ℕ) (before rest old out : List ℕ) → n ≤ k → RowsUnderwayOf avro_fields projection columns n k before rest old out → ShowsLines n avro_fields projection columns before rest old out
  rows_ended k before rest old out le h fields p =
      let none : 0 ≡ n - k = omega (arith, le) in
      h fields p rest out (subst (λ (m : ℕ). ShowsTable m avro_fields projection fields rest rest out out) none (no_rows avro_fields projection fields rest out))

  -- where nothing follows, the bytes are the rows
  pub whole_block : (bytes before after old new : List ℕ) → before ≡ bytes → length after ≡ 0 → ShowsLines n avro_fields projection columns before after old new → ShowsRowsOf n avro_fields projection columns bytes old new
  whole_block bytes before after old new same e h fields p =
      let t = h fields p in
      let whole : t.prefix ≡ bytes = sym (t.joined ∙ ap (λ z. t.prefix ++ z) (nothing after e) ∙ append-nil t.prefix) ∙ same in
      record {
        table = map (λ (row : Pieces). row.slots) t.pieces;
        rows = record { pieces = t.pieces; encoded = subst (λ (z : List ℕ). Many (Row avro_fields projection) n z t.pieces) whole t.rows; told = refl };
        shown = t.shown;
        dates = t.dates;
      }
    where
      nothing : (xs : List ℕ) → length xs ≡ 0 → xs ≡ []
      nothing [] q = refl
      nothing (x ∷ xs) q = absurd (omega (arith, q))
