-- What is sound and complete is exact: the answers where no prefix is encoded come with it.
use Rattle.std.proofs.Common.{◌≡◌, ℕ, ◌≤◌, List, ◌++◌, length, map, Option, Some, None, Result, Ok, Err, refl, sym, ◌∙◌, ap, subst}
use Rattle.std.proofs.lemmas.Option.{none-some}
use Rattle.arrow_core.specs.declared.slot.Slot.{Slot}
use Rattle.avro_schema.specs.Parts.{Grammar, Many}
use Rattle.avro_schema.specs.Rows.{Pieces, Row, Rows}
use Rattle.avro_schema.specs.NegativeSize.{NegativeSize}
use Rattle.avro_reference.specs.Prefix.{Reader}
use Rattle.avro_reference.specs.Skip.{Fault, Bad, Negative, Parser}
use Rattle.avro_reference.specs.Block.{block}
use Rattle.avro_reference.specs.Laws.{ReadsAll, ReadsNoMore, PassesAll, IsNegativeAt, IsBadElsewhere, BlockGivesRows, BlockIsNegative, BlockIsBad, CarriedBlocks}
use Rattle.avro_reference.proofs.Prefixes as prefixes
use Rattle.avro_reference.proofs.Parsers as parsers
use Rattle.avro_reference.proofs.Parsers.{bad-ok, negative-ok, bad-negative}
use Rattle.avro_schema.proofs.RowLaws.{rows_have}
use Rattle.avro_reference.proofs.Rows.{block_sound, block_complete, block_breaks, block_broke}

module _ {A : Type 0} (f : Reader A) (P : Grammar A) (sound : prefixes.Sound f P) (complete : prefixes.Complete f P) where
  pub reads_all : ReadsAll f P
  reads_all bytes rest x = (λ e. sound bytes rest x e, λ h. ap f h.2 ∙ complete h.0 rest x h.1)

  pub reads_no_more : ReadsNoMore f P
  reads_no_more bytes = (λ e rest x h. none-some (x, rest) (sym e ∙ ap f h.2 ∙ complete h.0 rest x h.1), λ none. nothing none (f bytes) refl)
    where
      nothing : ((rest : List ℕ) (x : A) → (prefix : List ℕ) × P prefix x × (bytes ≡ prefix ++ rest) → ⊥) → (o : Option (A × List ℕ)) → f bytes ≡ o → f bytes ≡ None
      nothing none None e = e
      nothing none (Some y) e = absurd (none y.1 y.0 (sound bytes y.1 y.0 e))

module _ {A : Type 0} (f : Parser A) (P : Grammar A) (B : List ℕ → Type 0) (sound : parsers.Sound f P) (complete : parsers.Complete f P) (breaks : parsers.Breaks f B) (broke : parsers.Broke f B) where
  pub passes_all : PassesAll f P
  passes_all bytes rest x = (λ e. sound bytes rest x e, λ h. ap f h.2 ∙ complete h.0 rest x h.1)

  pub is_negative_at : IsNegativeAt f B
  is_negative_at bytes = (λ e. breaks bytes e, λ b. broke bytes b)

  pub is_bad_elsewhere : IsBadElsewhere f P B
  is_bad_elsewhere bytes = (
    λ e. (λ rest x h. bad-ok (x, rest) (sym e ∙ ap f h.2 ∙ complete h.0 rest x h.1), λ b. bad-negative (sym e ∙ broke bytes b)),
    λ neither. bad neither.0 neither.1 (f bytes) refl,
  )
    where
      bad : ((rest : List ℕ) (x : A) → (prefix : List ℕ) × P prefix x × (bytes ≡ prefix ++ rest) → ⊥) → (B bytes → ⊥) → (o : Result (A × List ℕ) Fault) → f bytes ≡ o → f bytes ≡ Err Bad
      bad none whole (Ok y) e = absurd (none y.1 y.0 (sound bytes y.1 y.0 e))
      bad none whole (Err Bad) e = e
      bad none whole (Err Negative) e = absurd (whole (breaks bytes e))

pub block_gives_rows : BlockGivesRows
block_gives_rows n fields projection bytes pieces = (
  λ e. (let k = block_sound n fields projection bytes pieces e in (k.0, record { pieces = pieces; encoded = k.1; told = refl }, refl)),
  λ h. block_complete n fields projection bytes pieces h.0 (subst (Many (Row fields projection) n bytes) h.2 h.1.encoded),
)

pub block_is_negative : BlockIsNegative
block_is_negative n fields projection bytes = (block_breaks n fields projection bytes, block_broke n fields projection bytes)

pub block_is_bad : BlockIsBad
block_is_bad n fields projection bytes = (
  λ e. (
    λ table l h. bad-ok h.pieces (sym e ∙ block_complete n fields projection bytes h.pieces l h.encoded),
    λ h. bad-negative (sym e ∙ block_broke n fields projection bytes h),
  ),
  λ neither. bad neither.0 neither.1 (block n fields projection bytes) refl,
)
  where
    bad : ((table : List (List Slot)) → n ≤ length bytes → Rows n fields projection bytes table → ⊥) → (NegativeSize n fields projection bytes → ⊥) → (o : Result (List Pieces) Fault) → block n fields projection bytes ≡ o → block n fields projection bytes ≡ Err Bad
    bad none whole (Ok ys) e =
        let k = block_sound n fields projection bytes ys e in
        absurd (none (map (λ (row : Pieces). row.slots) ys) k.0 (record { pieces = ys; encoded = k.1; told = refl }))
    bad none whole (Err Bad) e = e
    bad none whole (Err Negative) e = absurd (whole (block_breaks n fields projection bytes e))

pub carried_blocks : CarriedBlocks
carried_blocks = record {
  rows = λ n fields projection bytes pieces some carried.
      let exact = block_gives_rows n fields projection bytes pieces in (
        λ e. ((exact.0 e).1, (exact.0 e).2),
        λ h. exact.1 (rows_have n fields projection bytes (map (λ (row : Pieces). row.slots) pieces) some carried h.0, h.0, h.1),
      );
  bad = λ n fields projection bytes some carried.
      let exact = block_is_bad n fields projection bytes in (
        λ e. (λ table h. (exact.0 e).0 table (rows_have n fields projection bytes table some carried h) h, (exact.0 e).1),
        λ h. exact.1 (λ table l rows. h.0 table rows, h.1),
      );
}
