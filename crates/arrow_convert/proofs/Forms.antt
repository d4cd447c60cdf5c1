-- A file has one canonical form, and canonical files tell their rows.
use Rattle.std.proofs.Common.{◌≡◌, ◌∙◌, ℕ, true, List, [], ◌∷◌, length, Some, refl, sym, ap, subst}
use Rattle.std.proofs.lemmas.Option.{same_Some}
use Rattle.std.specs.Prelude.{◌^◌, ◌<◌, sum_by}
use Rattle.std.specs.List.{AllByRecursion, AllZip}
use Rattle.arrow_core.specs.declared.slot.Slot.{Slot}
use Rattle.arrow_core.specs.declared.types.Field.{Field}
use Rattle.avro_schema.specs.declared.schema.AvroField.{AvroField}
use Rattle.avro_schema.specs.declared.schema.Schema as schema
use Rattle.avro_schema.specs.declared.schema.Record.{Record, out-Record}
use Rattle.avro_schema.specs.Inferred.{inferred_columns}
use Rattle.avro_schema.proofs.RowLaws.{same_table}
use Rattle.avro_container.specs.Canonical as container
use Rattle.avro_container.specs.File.{FileBlock, FileOf, the_block}
use Rattle.avro_container.specs.Laws.{AllSmall, IsItself}
use Rattle.avro_container.proofs.OneFile.{one_file, canonical_is_file}
use Rattle.avro_file.specs.Writing.{schema_text_of}
use Rattle.avro_file.specs.File.{StandsFor, canonical_file}
use Rattle.avro_file.proofs.Roots.{one_root}
use Rattle.avro_schema.specs.Projected.{Projected, projected, HasTable}
use Rattle.avro_types.specs.Named.{named_root}
use Rattle.avro_types.specs.Schemas.{record_of}
use Rattle.avro_write.specs.Laws.{all_kept, plain_table}
use Rattle.avro_write.proofs.TableLaw.{table_tells}
use Rattle.avro_canonical.specs.Canonical.{HasEncodings}
use Rattle.avro_canonical.specs.Rewritten.{HasCanonicalForm, table_blocks}
use Rattle.arrow_convert.specs.Laws.{CanBeStated, OneCanonicalForm, FilesTellRows, with_rows}

-- ---- one canonical form

-- blocks have one list of tables
tables_are_one : (p : Projected) (blocks : List FileBlock) (ts us : List (List (List Slot))) → AllZip (λ (b : FileBlock). HasTable p b.rows b.bytes) blocks ts → AllZip (λ (b : FileBlock). HasTable p b.rows b.bytes) blocks us → ts ≡ us
tables_are_one p [] [] [] h k = refl
tables_are_one p [] [] (u ∷ us) h k = absurd k
tables_are_one p [] (t ∷ ts) us h k = absurd h
tables_are_one p (b ∷ blocks) [] us h k = absurd h
tables_are_one p (b ∷ blocks) (t ∷ ts) [] h k = absurd k
tables_are_one p (b ∷ blocks) (t ∷ ts) (u ∷ us) h k =
    let first : t ≡ u = same_table b.rows p.avro_fields p.projection b.bytes t u h.0.rows k.0.rows in
    let rest : ts ≡ us = tables_are_one p blocks ts us h.1 k.1 in
    λ i. first i ∷ rest i

-- what the blocks of a file are read by
abbrev decoder_of : Record → List Field → Projected
decoder_of root columns = projected columns (out-Record root).fields (all_kept (out-Record root).fields)

-- what two forms of the same bytes have in common
record AreOne (bytes : List ℕ) (h k : HasCanonicalForm bytes) : Type 0 where
  blocks : h.blocks ≡ k.blocks
  nameless : h.nameless ≡ k.nameless
  tables : h.tables ≡ k.tables

are_one : (bytes : List ℕ) (h k : HasCanonicalForm bytes) → AreOne bytes h k
are_one bytes h k =
    let same = one_file StandsFor one_root bytes h.root k.root h.source_marker k.source_marker h.blocks k.blocks h.is_file k.is_file in
    let inferred : inferred_columns (out-Record k.root).fields ≡ Some h.columns = subst (λ (r : Record). inferred_columns (out-Record r).fields ≡ Some h.columns) same.0 h.can.inferred in
    let columns : h.columns ≡ k.columns = same_Some h.columns k.columns (sym inferred ∙ k.can.inferred) in
    let rows : AllZip (λ (b : FileBlock). HasTable (decoder_of k.root k.columns) b.rows b.bytes) k.blocks h.tables =
    subst (λ (x : Record × List Field × List FileBlock). AllZip (λ (b : FileBlock). HasTable (decoder_of x.0 x.1) b.rows b.bytes) x.2 h.tables) (λ i. (same.0 i, columns i, same.2 i)) h.rows in
    record {
      blocks = same.2;
      nameless = same_Some h.nameless k.nameless (sym h.can.recorded ∙ ap (record_of true) columns ∙ k.can.recorded);
      tables = tables_are_one (decoder_of k.root k.columns) k.blocks h.tables k.tables rows k.rows;
    }

-- the canonical file of tables
abbrev file_of : Record → List ℕ → List (List (List Slot)) → List ℕ
file_of target marker tables = canonical_file target marker (table_blocks (out-Record target).fields tables)

pub one_canonical_form : OneCanonicalForm
one_canonical_form name marker bytes text other count also h k =
    let same = are_one bytes h.form k.form in
    let target : h.target ≡ k.target = h.named ∙ ap (named_root name) same.nameless ∙ sym k.named in (
      h.is ∙ (λ i. file_of (target i) marker (same.tables i)) ∙ sym k.is,
      h.counted ∙ ap (sum_by (λ (b : FileBlock). b.rows)) same.blocks ∙ sym k.counted,
    )

-- ---- canonical files tell their rows

head_is : {X : Type 0} {x y : X} {xs ys : List X} → x ∷ xs ≡ y ∷ ys → x ≡ y
head_is q = cc

tail_is : {X : Type 0} {x y : X} {xs ys : List X} → x ∷ xs ≡ y ∷ ys → xs ≡ ys
tail_is q = cc

none_some : {X : Type 0} {x : X} {xs : List X} → [] ≡ x ∷ xs → ⊥
none_some q = cc

-- the blocks of tables are those of the tables that have a row
pub of_rows : (fields : List AvroField) (ts : List (List (List Slot))) → table_blocks fields ts ≡ table_blocks fields (with_rows ts)
of_rows fields [] = refl
of_rows fields ([] ∷ ts) = of_rows fields ts
of_rows fields ((row ∷ table) ∷ ts) = ap (λ (bs : List FileBlock). the_block (length (row ∷ table)) (plain_table fields (row ∷ table)) ∷ bs) (of_rows fields ts)

table_told : (fields : List AvroField) (t u : List (List Slot)) → HasEncodings fields t → HasEncodings fields u → the_block (length t) (plain_table fields t) ≡ the_block (length u) (plain_table fields u) → t ≡ u
table_told fields t u h k e = table_tells fields t u h k (ap (λ (b : FileBlock). b.rows) e) (ap (λ (b : FileBlock). b.bytes) e)

blocks_tell : (fields : List AvroField) (ts us : List (List (List Slot))) → AllByRecursion (HasEncodings fields) ts → AllByRecursion (HasEncodings fields) us → table_blocks fields ts ≡ table_blocks fields us → with_rows ts ≡ with_rows us
blocks_tell fields [] [] h k e = refl
blocks_tell fields [] ([] ∷ us) h k e = blocks_tell fields [] us h k.1 e
blocks_tell fields [] ((row ∷ table) ∷ us) h k e = absurd (none_some e)
blocks_tell fields ([] ∷ ts) us h k e = blocks_tell fields ts us h.1 k e
blocks_tell fields ((row ∷ table) ∷ ts) [] h k e = absurd (none_some (sym e))
blocks_tell fields ((row ∷ table) ∷ ts) ([] ∷ us) h k e = blocks_tell fields ((row ∷ table) ∷ ts) us h k.1 e
blocks_tell fields ((row ∷ table) ∷ ts) ((other ∷ more) ∷ us) h k e =
    let first = table_told fields (row ∷ table) (other ∷ more) h.0 k.0 (head_is e) in
    let rest = blocks_tell fields ts us h.1 k.1 (tail_is e) in
    λ i. first i ∷ rest i

one_text : (text r q : List ℕ) → IsItself text r → IsItself text q → r ≡ q
one_text text r q a b = a ∙ sym b

file_tells : (text marker : List ℕ) (bs cs : List FileBlock) → length text < 2 ^ 63 → length marker ≡ 16 → AllSmall bs → AllSmall cs → container.canonical_file text marker bs ≡ container.canonical_file text marker cs → bs ≡ cs
file_tells text marker bs cs small sixteen first second e =
    let one : FileOf IsItself (container.canonical_file text marker bs) text marker bs = canonical_is_file IsItself text text marker bs refl small sixteen first in
    let other : FileOf IsItself (container.canonical_file text marker cs) text marker cs = canonical_is_file IsItself text text marker cs refl small sixteen second in
    (one_file IsItself one_text (container.canonical_file text marker cs) text text marker marker bs cs (subst (λ (b : List ℕ). FileOf IsItself b text marker bs) e one) other).2

pub files_tell_rows : FilesTellRows
files_tell_rows name also marker bytes others text other count many h k target sixteen = (equal, told)
  where
    first : text ≡ file_of k.target marker h.form.tables
    first = h.is ∙ ap (λ (r : Record). file_of r marker h.form.tables) target

    equal : with_rows h.form.tables ≡ with_rows k.form.tables → text ≡ other
    equal e =
        let blocks : table_blocks (out-Record k.target).fields h.form.tables ≡ table_blocks (out-Record k.target).fields k.form.tables =
        of_rows (out-Record k.target).fields h.form.tables ∙ ap (table_blocks (out-Record k.target).fields) e ∙ sym (of_rows (out-Record k.target).fields k.form.tables) in
        first ∙ ap (canonical_file k.target marker) blocks ∙ sym k.is

    told : CanBeStated h.target h.form.tables → CanBeStated k.target k.form.tables → text ≡ other → with_rows h.form.tables ≡ with_rows k.form.tables
    told a b e =
        let small = subst (λ (r : Record). AllSmall (table_blocks (out-Record r).fields h.form.tables)) target a.1 in
        let blocks = file_tells (schema_text_of (schema.Record k.target)) marker (table_blocks (out-Record k.target).fields h.form.tables) (table_blocks (out-Record k.target).fields k.form.tables) b.0 sixteen small b.1 (sym first ∙ e ∙ k.is) in
        blocks_tell (out-Record k.target).fields h.form.tables k.form.tables (subst (λ (r : Record). AllByRecursion (HasEncodings (out-Record r).fields) h.form.tables) target h.encoded) k.encoded blocks
