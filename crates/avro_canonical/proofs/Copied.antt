-- A block that is canonical already is its canonical form.
use Rattle.std.proofs.Common.{◌≡◌, ◌∙◌, ℕ, ◌≤◌, Bool, IsTrue, List, length, inl, sym, ap, subst}
use Rattle.arrow_core.specs.declared.slot.Slot.{Slot}
use Rattle.avro_schema.specs.declared.schema.AvroField.{AvroField}
use Rattle.avro_schema.specs.Rows.{Rows}
use Rattle.avro_schema.specs.ValidBlock.{KeptEnumsFit, small_limit}
use Rattle.avro_container.specs.Canonical.{canonical_block}
use Rattle.avro_container.specs.File.{the_block}
use Rattle.avro_verbatim.specs.Alike.{AreAlike}
use Rattle.avro_verbatim.specs.Canonical.{AreCanonicalRows}
use Rattle.avro_verbatim.proofs.Alikes.{kept_fit, rows_alike}
use Rattle.avro_write.specs.Laws.{all_kept, plain_table}
use Rattle.avro_write.proofs.TableLaw.{table_encodes}
use Rattle.avro_canonical.specs.Canonical.{IsRewriter, IsRewriting, RewritesBlock, Rewriting}
use Rattle.avro_canonical.proofs.Rewriting.{some_block}

-- the rows are those of the canonical fields, and so those of the fields that are read
source_rows : (avros fields : List AvroField) → AreAlike avros fields → (n : ℕ) (bytes : List ℕ) (rows : AreCanonicalRows n fields bytes) → Rows n avros (all_kept avros) bytes rows.table
source_rows avros fields alike n bytes rows =
    let table : List (List Slot) = rows.table in
    let counted : Rows n fields (all_kept fields) (plain_table fields table) table = subst (λ k. Rows k fields (all_kept fields) (plain_table fields table) table) rows.counted (table_encodes fields table rows.encoded) in
    rows_alike avros fields alike n bytes table (subst (λ (bs : List ℕ). Rows n fields (all_kept fields) bs table) (sym rows.is) counted)

pub copied : (w : Rewriting) → IsRewriting w → AreAlike w.decoder.avro_fields w.fields → (n : ℕ) (bytes : List ℕ) → AreCanonicalRows n w.fields bytes → n ≤ length bytes → length bytes ≤ small_limit → (n ≡ 0 → ⊥) → RewritesBlock w (the_block n bytes) (canonical_block w.marker (the_block n bytes))
copied w is alike n bytes rows few small some =
    let avros = w.decoder.avro_fields in
    record {
      table = rows.table;
      has = record {
        rows = subst (λ (keeps : List Bool). Rows n avros keeps bytes rows.table) (sym is.whole) (source_rows avros w.fields alike n bytes rows);
        counted = (inl small, few);
        symbols = subst (KeptEnumsFit avros) (sym is.whole) (kept_fit avros w.fields alike);
      };
      encoded = rows.encoded;
      is = ap (λ (bs : List ℕ). canonical_block w.marker (the_block n bs)) rows.is ∙ some_block w.marker w.fields rows.table n rows.counted some;
    }

-- the same of a slice of the bytes and of the fields
pub copied_slice : (w : Rewriting) → IsRewriting w → AreAlike w.decoder.avro_fields w.fields → (n : ℕ) (bytes slice : List ℕ) (fields : List AvroField) → slice ≡ bytes → fields ≡ w.fields → AreCanonicalRows n fields slice → n ≤ length slice → length slice ≤ small_limit → (n ≡ 0 → ⊥) → RewritesBlock w (the_block n bytes) (canonical_block w.marker (the_block n bytes))
copied_slice w is alike n bytes slice fields e d rows few small some =
    subst (λ (bs : List ℕ). RewritesBlock w (the_block n bs) (canonical_block w.marker (the_block n bs))) e
    (copied w is alike n slice (subst (λ (fs : List AvroField). AreCanonicalRows n fs slice) d rows) few small some)

-- the fields that were compared are those that it reads and those that it writes
pub made_rewriter : (t : Bool) (w : Rewriting) (sources targets : List AvroField) → IsRewriting w → sources ≡ w.decoder.avro_fields → targets ≡ w.fields → (IsTrue t → AreAlike sources targets) → IsRewriter t w
made_rewriter t w sources targets is x y alike = record {
  rewriting = is;
  alike = λ told. subst (λ (fs : List AvroField). AreAlike fs w.fields) x (subst (AreAlike sources) y (alike told));
}
