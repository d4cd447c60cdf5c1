-- Of a source whose bytes the contract knows: lines of rows that can be written are written.
use Rattle.std.proofs.Common.{◌≡◌, ◌∙◌, ◌⊎◌, inl, inr, ℕ, ◌≤◌, true, false, List, [], ◌∷◌, ◌++◌, length, Option, Some, None, refl, sym, ap, subst, append_assoc, append-nil, length-append, arith}
use Rattle.std.specs.Prelude.{filter, All, IfSome, IsUtf8}
use Rattle.std.specs.List.{AllZip, Any}
use Rattle.std.specs.Io.KnownBytes.{Consumes, IsAtEnd}
use Rattle.std.proofs.lemmas.Bool.{false≢true}
use Rattle.std.proofs.lemmas.List.Elements.{All-drop, All-take, filter-append}
use Rattle.std.proofs.lemmas.Option.{same_Some}
use Rattle.std.proofs.Math.Seq.{drop-append_seam, take-append_seam}
use Rattle.arrow_base.specs.Outside.{RoseOrFull}
use Rattle.arrow_core.specs.declared.error.Error.{Error}
use Rattle.arrow_core.specs.declared.error.Error.TheVariants.{ExternalFormat, InvalidArgumentError, LimitExceeded, NotYetImplemented, Overflow, ReadFault, WriteFault, OutOfMemory}
use Rattle.arrow_core.specs.declared.error.Reason.TheVariants as reason
use Rattle.arrow_core.specs.declared.slot.Slot.{Slot}
use Rattle.arrow_core.specs.declared.types.DataType.{DataType}
use Rattle.arrow_core.specs.declared.types.DataType as types
use Rattle.arrow_core.specs.declared.types.Field.{Field}
use Rattle.avro_container.specs.Changes.{Change, change_of, CameFromOutside, IsTold}
use Rattle.avro_container.proofs.Steps.{rose_from}
use Rattle.avro_file.specs.Metadata.{WriteFails}
use Rattle.avro_types.specs.Named.{named_root}
use Rattle.avro_schema.specs.declared.schema.Record.{Record}
use Rattle.avro_schema.specs.declared.schema.Schema.{Schema}
use Rattle.avro_schema.specs.declared.schema.Schema as schema
use Rattle.json_columns.specs.Faults.{TooMany}
use Rattle.json_flat.specs.Reading.{reading}
use Rattle.json_tree.specs.Meaning.{IsJson}
use Rattle.json_tree.specs.Tree.{Json}
use Rattle.json_tree.proofs.Answering.{within}
use Rattle.ndjson_read.specs.Lines.{lines, is_row, rows_of, EndsLine}
use Rattle.ndjson_read.specs.Reading.{State, state, NoRows}
use Rattle.ndjson_read.proofs.LineLemmas.{lines-append}
use Rattle.ndjson_avro.specs.Answers.{AreLinesOf}
use Rattle.ndjson_avro.specs.Batches.{BatchFails, StopsAtBatch}
use Rattle.ndjson_avro.specs.Conversion.{ConversionFails}
use Rattle.ndjson_avro.specs.Rows.{AreNotWritten, AreRefused, AreRows, lacks_value}
use Rattle.ndjson_avro.specs.Taken.{AreRowsOf, TakesRows}
use Rattle.ndjson_avro.specs.Values.{FirstWithout, IsNoValue, is_object}
use Rattle.ndjson_avro.specs.Target.{HasTarget}
use Rattle.ndjson_avro.proofs.PartOf.{ArePart, as_text, has_value, no_timestamp, none_unfit, none_within, same_slots, rows_too_many, slots_within, values_within}
use Rattle.ndjson_avro.proofs.Refused.{target_or_not}

-- ---- bytes that are still to come

-- what is left of bytes that were told
left_of : (old new : Option (List ℕ)) (bytes taken : List ℕ) → old ≡ Some bytes → Consumes old new taken → (rest : List ℕ) × (new ≡ Some rest) × (bytes ≡ taken ++ rest)
left_of old None bytes taken told c = absurd (subst (λ (z : Option (List ℕ)). Consumes z None taken) told c)
left_of old (Some rest) bytes taken told c = (rest, refl, subst (λ (z : Option (List ℕ)). Consumes z (Some rest) taken) told c)

no_lines : lines [] ≡ []
unfolding lines
no_lines = refl

-- the lines that were taken whole, and then the others
whole_lines : (taken rest : List ℕ) (left : Option (List ℕ)) → left ≡ Some rest → EndsLine taken ⊎ IsAtEnd left → lines (taken ++ rest) ≡ lines taken ++ lines rest
whole_lines taken rest left is (inl ends) = lines-append taken rest ends
whole_lines taken rest left is (inr ends) =
    let none : rest ≡ [] = subst IsAtEnd is ends in
    ap (λ (z : List ℕ). lines (taken ++ z)) none ∙ ap lines (append-nil taken) ∙ sym (append-nil (lines taken)) ∙ ap (λ (z : List (List ℕ)). lines taken ++ z) (sym (ap lines none ∙ no_lines))

prefix_all : (P : List ℕ → Type 0) (prefix rest : List (List ℕ)) → All P (prefix ++ rest) → All P prefix
prefix_all P prefix rest all = subst (All P) (take-append_seam prefix rest) (All-take P (length prefix) (prefix ++ rest) all)

back_all : (P : List ℕ → Type 0) (prefix rest : List (List ℕ)) → All P (prefix ++ rest) → All P rest
back_all P prefix rest all = subst (All P) (drop-append_seam prefix rest) (All-drop P (length prefix) (prefix ++ rest) all)

-- the source tells lines in UTF-8, no more of them than the limit, which are the last of these rows
record RowsAhead (texts : List (List ℕ)) (s : State) : Type 0 where
  rest : List ℕ
  left : s.left ≡ Some rest
  within : length rest ≤ s.limit
  utf8 : All IsUtf8 (lines rest)
  before : List (List ℕ)
  rows : texts ≡ before ++ rows_of rest

-- rows that were taken are some of these, and what is left is ahead
record Went (texts some : List (List ℕ)) (new : State) : Type 0 where
  ahead : RowsAhead texts new
  prefix : List (List ℕ)
  back : List (List ℕ)
  rows : texts ≡ prefix ++ (some ++ back)

module _ (texts : List (List ℕ)) where
  goes : (old new : State) (some : List (List ℕ)) → RowsAhead texts old → TakesRows old new some → Went texts some new
  goes old new some a t =
      let l = left_of old.left new.left a.rest t.taken a.left t.takes.consumed in
      let told : AreRowsOf old new t.taken some = subst (λ (z : Option (List ℕ)). IfSome z (λ _. AreRowsOf old new t.taken some)) a.left t.told in
      let split = ap lines l.2 ∙ whole_lines t.taken l.0 new.left l.1 told.whole in
      let each : All IsUtf8 (lines t.taken ++ lines l.0) = subst (All IsUtf8) split a.utf8 in
      let all : texts ≡ a.before ++ (some ++ rows_of l.0) =
      a.rows ∙ ap (λ (z : List (List ℕ)). a.before ++ filter is_row z) split ∙ ap (λ (z : List (List ℕ)). a.before ++ z) (filter-append is_row (lines t.taken) (lines l.0)) ∙ ap (λ (z : List (List ℕ)). a.before ++ (z ++ rows_of l.0)) (sym told.rows) in
      record {
        ahead = record {
          rest = l.0;
          left = l.1;
          within = omega (arith, a.within, t.takes.limit, ap length l.2, length-append t.taken l.0);
          utf8 = back_all IsUtf8 (lines t.taken) (lines l.0) each;
          before = a.before ++ some;
          rows = all ∙ sym (append_assoc a.before some (rows_of l.0));
        };
        prefix = a.before;
        back = rows_of l.0;
        rows = all;
      }

  -- no row is missing
  row_is_there : (old new : State) (e : Error) → RowsAhead texts old → (RoseOrFull old.faults new.faults → ⊥) → NoRows 1 old new e → e ≡ OutOfMemory
  row_is_there old new (ReadFault (Some number)) a steady h = absurd (steady h.cause)
  row_is_there old new LimitExceeded a steady h =
      let l = left_of old.left new.left a.rest (h.taken ++ h.byte ∷ []) a.left h.takes.consumed in
      absurd (omega (arith, a.within, h.takes.limit, ap length l.2, length-append (h.taken ++ h.byte ∷ []) l.0, length-append h.taken (h.byte ∷ [])))
  row_is_there old new (ExternalFormat reason.Utf8Line) a steady h =
      let l = left_of old.left new.left a.rest h.taken a.left h.takes.consumed in
      let split = ap lines l.2 ∙ whole_lines h.taken l.0 new.left l.1 h.whole in
      absurd (h.wrong (prefix_all IsUtf8 (lines h.taken) (lines l.0) (subst (All IsUtf8) split a.utf8)))
  row_is_there old new OutOfMemory a steady h = refl
  row_is_there old new _ a steady h = absurd h

-- ---- rows of a batch

-- all of some values are objects, as all of these are
objects_within : (some all : List Json) → ArePart some all → All (λ v. is_object v ≡ true) all → Any (λ v. is_object v ≡ false) some → ⊥
objects_within some all p objects (k, v, lt, is, other) =
    let whole : All (λ v. is_object v ≡ true) (p.prefix ++ (some ++ p.back)) = subst (All (λ v. is_object v ≡ true)) p.joined objects in
    let behind = json_back p.prefix (some ++ p.back) whole in
    let own = json_prefix some p.back behind in
    let yes : is_object v ≡ true = subst (λ z. is_object z ≡ true) is (own k v lt) in
    false≢true (sym other ∙ yes)
  where
    json_prefix : (prefix rest : List Json) → All (λ v. is_object v ≡ true) (prefix ++ rest) → All (λ v. is_object v ≡ true) prefix
    json_prefix prefix rest h = subst (All (λ v. is_object v ≡ true)) (take-append_seam prefix rest) (All-take (λ v. is_object v ≡ true) (length prefix) (prefix ++ rest) h)

    json_back : (prefix rest : List Json) → All (λ v. is_object v ≡ true) (prefix ++ rest) → All (λ v. is_object v ≡ true) rest
    json_back prefix rest h = subst (All (λ v. is_object v ≡ true)) (drop-append_seam prefix rest) (All-drop (λ v. is_object v ≡ true) (length prefix) (prefix ++ rest) h)

module _ (t : DataType) (root : Schema) (texts : List (List ℕ)) (slots : List Slot) (are : AreRows t root texts slots) (few : TooMany t are.values → ⊥)
    (grows : (some all : List Json) → ArePart some all → TooMany t some → TooMany t all) where
  -- values of some of the rows are written
  written : (some : List Json) (e : Error) → ArePart some are.values → AreNotWritten t root some e → e ≡ OutOfMemory
  written some (ExternalFormat reason.NotAnObject) p h = absurd (objects_within some are.values p are.objects h)
  written some (NotYetImplemented reason.TextTimestamp) p h =
      let own = slots_within (reading t) some are.values slots p are.meant in
      absurd (no_timestamp (reading t) some own.own own.meant h.1)
  written some Overflow p (objects, no_text, inl h) =
      let own = slots_within (reading t) some are.values slots p are.meant in
      absurd (none_unfit (reading t) some own.own own.meant h)
  written some Overflow p (objects, no_text, inr h) = absurd (few (grows some are.values p h))
  written some (InvalidArgumentError reason.NullUnderRequired) p (objects, (others, meant, lacks)) =
      let own = slots_within (reading t) some are.values slots p are.meant in
      let same : others ≡ own.own = same_slots others own.own (sym meant ∙ own.meant) in
      let none : lacks_value root (own.prefix ++ (own.own ++ own.back)) ≡ false = sym (ap (lacks_value root) own.joined) ∙ are.complete in
      absurd (none_within _ own.prefix own.own own.back none (sym (ap (lacks_value root) same) ∙ lacks))
  written some OutOfMemory p h = refl
  written some _ p h = absurd h

  -- each of the rows has a value
  valued : (prefix some back : List (List ℕ)) (e : Error) → texts ≡ prefix ++ (some ++ back) → FirstWithout some e → e ≡ OutOfMemory
  valued prefix some back e is f =
      let split : texts ≡ (prefix ++ f.before) ++ f.text ∷ (f.after ++ back) =
      is ∙ ap (λ (z : List (List ℕ)). prefix ++ (z ++ back)) f.split ∙ ap (λ (z : List (List ℕ)). prefix ++ z) (append_assoc f.before (f.text ∷ f.after) back) ∙ sym (append_assoc prefix f.before (f.text ∷ (f.after ++ back))) in
      let found = has_value (prefix ++ f.before) f.text (f.after ++ back) are.values (subst (AllZip IsJson are.values) split are.have) in
      from e found.0 found.1 f.fault
    where
      from : (d : Error) (v : Json) → IsJson v f.text → IsNoValue f.text d → d ≡ OutOfMemory
      from (ExternalFormat reason.Json) v is h = absurd (h.1 v (as_text v f.text is))
      from LimitExceeded v is h = absurd (within f.text v is h)
      from OutOfMemory v is h = refl
      from _ v is h = absurd h

  not_refused : (prefix some back : List (List ℕ)) (e : Error) → texts ≡ prefix ++ (some ++ back) → AreRefused t root some e → e ≡ OutOfMemory
  not_refused prefix some back e is (inl f) = valued prefix some back e is f
  not_refused prefix some back e is (inr (values, have, h)) =
      written values e (values_within prefix some back are.values values (subst (AllZip IsJson are.values) is are.have) have) h

  -- ---- batches

  module _ (marker : List ℕ) (n : ℕ) (old new : State) (sink : Change) (ahead : RowsAhead texts old) (steady : RoseOrFull old.faults new.faults → ⊥) where
    batch_is_there : (between : State) (held : Option (List ℕ)) (e : Error) → RowsAhead texts between → (RoseOrFull between.faults new.faults → ⊥)
        → BatchFails t root marker n between new (change_of held sink.faults sink.bytes_after sink.faults_after) e → CameFromOutside sink e
    batch_is_there between held e a firm (inl (keeps, inl out)) = inl out.is
    batch_is_there between held e a firm (inl (keeps, inr (inl f))) =
        let w = goes texts between f.between f.texts a f.takes in
        inl (row_is_there texts f.between new e w.ahead (λ rose. firm (rose_from between.faults f.between.faults new.faults f.takes.takes.faults rose)) f.fails)
    batch_is_there between held e a firm (inl (keeps, inr (inr r))) =
        let w = goes texts between new r.texts a r.takes in
        inl (not_refused w.prefix r.texts w.back e w.rows r.why)
    batch_is_there between held e a firm (inr b) = inr (b.is, b.failed)

    all_are_there : (e : Error) → StopsAtBatch t root marker n old new sink e → CameFromOutside sink e
    all_are_there e s =
        let w = goes texts old s.between s.before.texts ahead s.before.takes in
        batch_is_there s.between s.held e w.ahead (λ rose. steady (rose_from old.faults s.between.faults new.faults s.before.takes.takes.faults rose)) s.fails

-- ---- the whole

-- fields have one record under a name
one_target : (fields : List Field) (name : List ℕ) (one other : Record) → HasTarget fields name one → HasTarget fields name other → one ≡ other
one_target fields name one other h k = h.named ∙ ap (named_root name) (same_Some h.nameless k.nameless (sym h.recorded ∙ k.recorded)) ∙ sym k.named

-- a header fails for memory or the sink alone
header_fails : (held held_after : Option (List ℕ)) (faults faults_after : ℕ) (bytes : List ℕ) (e : Error) → WriteFails held held_after faults faults_after bytes e → CameFromOutside (change_of held faults held_after faults_after) e
header_fails held held_after faults faults_after bytes WriteFault h = inr (refl, h.1)
header_fails held held_after faults faults_after bytes OutOfMemory h = inl refl
header_fails held held_after faults faults_after bytes _ h = absurd h

pub lines_are_written : (fields : List Field) (name marker bytes : List ℕ) (n limit : ℕ) (source sink : Change) (e : Error)
    → IsTold source limit bytes → AreLinesOf fields name bytes → ConversionFails fields name marker n limit source sink e → CameFromOutside sink e
lines_are_written fields name marker bytes n limit source sink e tells are (inl not_begun) = inl (target_or_not fields name are.target e are.has not_begun.why)
lines_are_written fields name marker bytes n limit source sink e tells are (inr (inl header)) = header_fails sink.bytes sink.bytes_after sink.faults sink.faults_after _ e header.why
lines_are_written fields name marker bytes n limit source sink e tells are (inr (inr batch)) =
    let start : State = state source.bytes source.faults limit 0 in
    let end : State = state source.bytes_after source.faults_after batch.limit_after batch.lines_after in
    let first : RowsAhead (rows_of bytes) start = record { rest = bytes; left = tells.told; within = tells.within; utf8 = are.utf8; before = []; rows = refl } in
    let same = one_target fields name batch.target are.target batch.has are.has in
    let stops = subst (λ (r : Record). StopsAtBatch (types.Struct fields) (schema.Record r) marker n start end (change_of batch.held sink.faults sink.bytes_after sink.faults_after) e) same batch.stops in
    from (all_are_there (types.Struct fields) (schema.Record are.target) (rows_of bytes) are.slots are.rows are.few (rows_too_many fields are.has.nameless are.has.recorded) marker n start end (change_of batch.held sink.faults sink.bytes_after sink.faults_after) first tells.steady e stops)
  where
    from : CameFromOutside (change_of batch.held sink.faults sink.bytes_after sink.faults_after) e → CameFromOutside sink e
    from h = h
