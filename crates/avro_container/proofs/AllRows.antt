-- Blocks that become bytes with all of their rows.
use Rattle.std.proofs.Common.{◌≡◌, ◌∙◌, ◌+◌, ℕ, zero, suc, List, [], ◌∷◌, ◌++◌, map, All, refl, sym, arith}
use Rattle.std.specs.Prelude.{sum_by}
use Rattle.std.proofs.lemmas.List.Sums.{sum_by-cons}
use Rattle.std.specs.List.{concat, flat_map, AllZip}
use Rattle.avro_container.specs.File.{FileBlock, the_block}
use Rattle.avro_container.specs.Written.{AppendsBlock, AppendsRows, BlockText, ShowBlocks, WithAllRows}
use Rattle.avro_container.proofs.Reading.{IsGood}

module _ (Shows : FileBlock → List ℕ → Type 0) where
  pub appends_all_rows : (rows : ℕ) (bytes old new : List ℕ) → AppendsBlock Shows (the_block rows bytes) old new → AppendsRows (WithAllRows Shows) (the_block rows bytes) old new rows
  appends_all_rows rows bytes old new h = (h.0, (h.1, refl), h.2)

  pub with_all_rows : (blocks : List FileBlock) (texts : List (List ℕ)) → AllZip Shows blocks texts → All (IsGood (WithAllRows Shows)) blocks
  with_all_rows [] texts h k d lt = absurd (omega (arith, lt))
  with_all_rows (b ∷ blocks) [] h k d lt = absurd h
  with_all_rows (b ∷ blocks) (t ∷ texts) h zero d lt = (t, b.rows, (h.0, refl))
  with_all_rows (b ∷ blocks) (t ∷ texts) h (suc k) d lt = with_all_rows blocks texts h.1 k d (omega (arith, lt))

  pub whole_texts : (blocks : List FileBlock) (texts : List BlockText) → ShowBlocks (WithAllRows Shows) blocks texts → AllZip Shows blocks (map (λ (t : BlockText). t.text) texts)
  whole_texts [] [] h = tt
  whole_texts [] (t ∷ texts) h = absurd h
  whole_texts (b ∷ blocks) [] h = absurd h
  whole_texts (b ∷ blocks) (t ∷ texts) h = (h.0.0, whole_texts blocks texts h.1)

  pub rows_of_blocks : (blocks : List FileBlock) (texts : List BlockText) → ShowBlocks (WithAllRows Shows) blocks texts → sum_by (λ (t : BlockText). t.rows) texts ≡ sum_by (λ (b : FileBlock). b.rows) blocks
  rows_of_blocks [] [] h = refl
  rows_of_blocks [] (t ∷ texts) h = absurd h
  rows_of_blocks (b ∷ blocks) [] h = absurd h
  rows_of_blocks (b ∷ blocks) (t ∷ texts) h =
      sum_by-cons (λ (u : BlockText). u.rows) t texts ∙ (λ i. h.0.1 i + rows_of_blocks blocks texts h.1 i) ∙ sym (sum_by-cons (λ (c : FileBlock). c.rows) b blocks)

-- the texts one after another
pub texts_joined : (texts : List BlockText) → flat_map (λ (t : BlockText). t.text) texts ≡ concat (map (λ (t : BlockText). t.text) texts)
texts_joined [] = refl
texts_joined (t ∷ texts) = λ i. t.text ++ texts_joined texts i
