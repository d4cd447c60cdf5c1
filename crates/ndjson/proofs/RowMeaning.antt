-- The members of a row's value mean the row's slots.
use Rattle.std.proofs.Common.{◌≡◌, ℕ, true, false, List, [], ◌∷◌, ◌++◌, codes, length, map, refl, ap, ◌∙◌, arith}
use Rattle.std.proofs.lemmas.List.Elements.{All-head, All-tail, All-weaker}
use Rattle.std.specs.List.{All, AllZip}
use Rattle.arrow_core.specs.declared.slot.Slot.{Slot}
use Rattle.arrow_core.specs.declared.types.DataType.{DataType}
use Rattle.arrow_array.specs.SlotTypes.{SlotOf}
use Rattle.json_text.specs.Refusals.{has_text, in_range}
use Rattle.json_write.specs.Rows.{row_object}
use Rattle.json_tree.specs.Keys.{keys_of}
use Rattle.json_tree.specs.Tree.{Json, object, or_null}
use Rattle.json_tree.proofs.TextLaws.{one_value}
use Rattle.json_flat.specs.Meaning.{slot_of}
use Rattle.json_flat.specs.Columns.{means}
use Rattle.json_flat.specs.Names.{repeat}
use Rattle.json_flat.specs.Reading.{reading}
use Rattle.json_columns.proofs.Layers.{object_member}
use Rattle.ndjson.specs.Laws.{HasTexts, IsReadAsWritten, LinesReadBack, RowValuesMeanRows, row_meanings}
use Rattle.ndjson.specs.Values.{row_members, row_value}
use Rattle.ndjson.proofs.Gathered.{AllFound, all-found, gathered-same}
use Rattle.ndjson.proofs.MeaningLaw.{ranged, values_mean_slots}
use Rattle.ndjson.proofs.RowLaw.{rows_are_json}

row-keys : (names : List (List ℕ)) (data_types : List DataType) (row : List Slot) → length names ≡ length data_types → AllZip SlotOf data_types row
    → keys_of (row_members names data_types row) ≡ names
row-keys [] data_types row n h = refl
row-keys (name ∷ names) [] row n h = absurd (omega (arith, n))
row-keys (name ∷ names) (t ∷ data_types) [] n h = absurd h
row-keys (name ∷ names) (t ∷ data_types) (x ∷ row) n h = ap (λ l. name ∷ l) (row-keys names data_types row (omega (arith, n)) h.1)

-- each member is there
row-meant : (all : List (List ℕ × Json)) (names : List (List ℕ)) (data_types : List DataType) (row : List Slot) → length names ≡ length data_types → All IsReadAsWritten data_types
    → AllZip SlotOf data_types row → AllFound all (row_members names data_types row) → row_meanings names data_types (object all) ≡ map slot_of row
row-meant all [] [] [] n r h f = refl
row-meant all [] [] (x ∷ row) n r h f = absurd h
row-meant all [] (t ∷ data_types) row n r h f = absurd (omega (arith, n))
row-meant all (name ∷ names) [] row n r h f = absurd (omega (arith, n))
row-meant all (name ∷ names) (t ∷ data_types) [] n r h f = absurd h
row-meant all (name ∷ names) (t ∷ data_types) (x ∷ row) n r h f =
    let first = values_mean_slots t x (All-head IsReadAsWritten t data_types r) h.0 in
    let others = row-meant all names data_types row (omega (arith, n)) (All-tail IsReadAsWritten t data_types r) h.1 f.1 in
    let there = object_member name (object all) (record { members = all }) refl ∙ ap or_null f.0 in
    ap (λ v. means (reading t) v ∷ row_meanings names data_types (object all)) there
    ∙ ap (λ m. m ∷ row_meanings names data_types (object all)) first
    ∙ ap (λ ms. slot_of x ∷ ms) others

pub row_values_mean_rows : RowValuesMeanRows
row_values_mean_rows names data_types row h =
    let all = row_members names data_types row in
    let keys : repeat (keys_of all) ≡ false = ap repeat (row-keys names data_types row h.as_many h.typed) ∙ h.distinct in
    ap (λ l. row_meanings names data_types (object l)) (gathered-same all keys)
    ∙ row-meant all names data_types row h.as_many h.read h.typed (all-found all keys)

-- without dates each slot is in range
row-ranged : (data_types : List DataType) (row : List Slot) → All IsReadAsWritten data_types → AllZip SlotOf data_types row → AllZip (λ t x. in_range t x ≡ true) data_types row
row-ranged [] [] r h = tt
row-ranged [] (x ∷ row) r h = absurd h
row-ranged (t ∷ data_types) [] r h = absurd h
row-ranged (t ∷ data_types) (x ∷ row) r h =
    let one = All-head IsReadAsWritten t data_types r in
    (ranged t one.reading one.no_dates x, row-ranged data_types row (All-tail IsReadAsWritten t data_types r) h.1)

pub lines_read_back : LinesReadBack
lines_read_back names data_types row v h is =
    let texts : HasTexts names data_types row = record {
      names_utf8 = h.names_utf8;
      text = All-weaker IsReadAsWritten (λ t. has_text t ≡ true) (λ t r. r.text) data_types h.read;
      utf8 = h.utf8;
      typed = h.typed;
      in_range = row-ranged data_types row h.read h.typed;
    } in
    let own = (rows_are_json names data_types row texts).1 in
    ap (row_meanings names data_types) (one_value (row_object names data_types row ++ codes "\n") v (row_value names data_types row) is own)
    ∙ row_values_mean_rows names data_types row h
