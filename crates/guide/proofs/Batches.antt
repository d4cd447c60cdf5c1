-- Batches of rows that are read, and the sum of the integers in one field of their columns.
use Rattle.std.proofs.Common.{◌≡◌, ◌∙◌, ℕ, ◌+◌, ◌^◌, ◌<◌, inl, inr, ◌⊎◌, ℤ, pos, List, [], ◌∷◌, ◌++◌, length, Option, Some, None, append_assoc, append-nil, refl, sym, ap, subst, arith}
use Rattle.std.specs.Prelude.{filter, fold}
use Rattle.std.specs.Io.KnownBytes.{IsAtEnd}
use Rattle.std.proofs.lemmas.List.{length-append}
use Rattle.std.proofs.lemmas.List.Elements.{filter-append}
use Rattle.std.proofs.lemmas.List.Sums.{fold-append}
use Rattle.arrow_array.specs.declared.array.Array.{Array}
use Rattle.arrow_array.specs.Arrays.{array_slots, array_type}
use Rattle.arrow_core.specs.declared.slot.Slot.{Slot}
use Rattle.arrow_core.specs.declared.types.DataType.{DataType}
use Rattle.ndjson.specs.Columns.{IsColumnOf}
use Rattle.ndjson_read.specs.FileReader.{fewer_of}
use Rattle.ndjson_read.specs.Inference.{Told, InfersType}
use Rattle.ndjson_read.specs.Lines.{lines, is_row, rows_of, EndsLine}
use Rattle.ndjson_read.specs.Reading.{State, ShowsRows}
use Rattle.ndjson_read.proofs.Complete.{left_of}
use Rattle.ndjson_read.proofs.LineLemmas.{lines-append, EndsLine-append}
use Rattle.guide.specs.LineSum.{added, rows_in, AreColumnsOf, HasFieldAt, IsSumOfLines}
use Rattle.guide.proofs.Sums.{zip_push}

-- these bytes were taken, and the rest is left; the rows that were taken are batches, whose columns have the sum n in a field
pub record SumsSoFar (row_type : DataType) (place : ℕ) (bytes : List ℕ) (left : Option (List ℕ)) (n : ℤ) : Type 0 where
  pub taken : List ℕ
  pub rest : List ℕ
  pub is_left : left ≡ Some rest
  pub parts : bytes ≡ taken ++ rest
  pub whole : EndsLine taken ⊎ (rest ≡ [])
  pub batches : List (List (List ℕ))
  pub rows : rows_in batches ≡ rows_of taken
  pub columns : List (List Slot)
  pub are_columns : AreColumnsOf row_type batches columns
  pub is_sum : n ≡ fold (added place) (pos 0) columns

no_rows : rows_of [] ≡ []
unfolding lines
no_rows = refl

-- ---- the loop ends

falls : (taken : List ℕ) (before after : ℕ) (shown : List (List ℕ)) → before ≡ length taken + after → shown ≡ rows_of taken → (shown ≡ [] → ⊥) → after < before
falls [] before after shown e rows some = absurd (some (rows ∙ no_rows))
falls (byte ∷ bytes) before after shown e rows some = omega (arith, e)

-- a batch that isn't empty took bytes
pub limit_falls : (wanted : ℕ) (old new : State) (shown : List (List ℕ)) → ShowsRows wanted old new shown → (shown ≡ [] → ⊥) → new.limit < old.limit
limit_falls wanted old new shown h some = falls h.taken old.limit new.limit shown h.takes.limit h.rows some

-- rows are wanted of each batch
pub wants_some : (limit : Option ℕ) (batch : ℕ) → limit ≡ None → batch ≡ 1000 → 0 < fewer_of limit batch
wants_some None batch none is = let some : 0 < batch = omega (arith, is) in some
wants_some (Some limit) batch none is = absurd cc

-- ---- one batch more

none_before : (xs ys : List ℕ) → xs ++ ys ≡ [] → xs ≡ []
none_before [] ys e = refl
none_before (x ∷ xs) ys e = absurd (omega (arith, length-append (x ∷ xs) ys, ap length e))

none_after : (xs ys : List ℕ) → xs ++ ys ≡ [] → ys ≡ []
none_after [] ys e = e
none_after (x ∷ xs) ys e = absurd (omega (arith, length-append (x ∷ xs) ys, ap length e))

-- of what is left after whole lines, or after all lines, some more is taken
module _ (taken rest more after : List ℕ) (so_far : EndsLine taken ⊎ (rest ≡ [])) (is : rest ≡ more ++ after) where
  rows_by : EndsLine taken ⊎ (rest ≡ []) → rows_of (taken ++ more) ≡ rows_of taken ++ rows_of more
  rows_by (inl ends) = ap (filter is_row) (lines-append taken more ends) ∙ filter-append is_row (lines taken) (lines more)
  rows_by (inr none) =
      let nothing : more ≡ [] = none_before more after (sym is ∙ none) in
      ap (λ (z : List ℕ). rows_of (taken ++ z)) nothing ∙ ap rows_of (append-nil taken)
      ∙ sym (ap (λ (z : List ℕ). rows_of taken ++ rows_of z) nothing ∙ ap (λ (z : List (List ℕ)). rows_of taken ++ z) no_rows ∙ append-nil (rows_of taken))

  more_rows : rows_of (taken ++ more) ≡ rows_of taken ++ rows_of more
  more_rows = rows_by so_far

  ends_by : (left : Option (List ℕ)) → left ≡ Some after → EndsLine taken ⊎ (rest ≡ []) → EndsLine more ⊎ IsAtEnd left → EndsLine (taken ++ more) ⊎ (after ≡ [])
  ends_by left told (inl ends) (inl feed) = inl (EndsLine-append taken more ends feed)
  ends_by left told (inl ends) (inr end) = inr (subst IsAtEnd told end)
  ends_by left told (inr none) (inl feed) = inr (none_after more after (sym is ∙ none))
  ends_by left told (inr none) (inr end) = inr (subst IsAtEnd told end)

  ends_more : (left : Option (List ℕ)) → left ≡ Some after → EndsLine more ⊎ IsAtEnd left → EndsLine (taken ++ more) ⊎ (after ≡ [])
  ends_more left told whole = ends_by left told so_far whole

-- the column of a copy of the type is of this type
of_type : (batch : List (List ℕ)) (t copy column_type : DataType) (slots : List Slot) → copy ≡ t → IsColumnOf batch copy column_type slots → IsColumnOf batch t t slots
of_type batch t copy column_type slots same h =
    let typed : IsColumnOf batch copy copy slots = subst (λ (z : DataType). IsColumnOf batch copy z slots) h.2.same_type h in
    subst (λ (z : DataType). IsColumnOf batch z z slots) same typed

batch_more : (batches : List (List (List ℕ))) (shown : List (List ℕ)) → rows_in (batches ++ shown ∷ []) ≡ rows_in batches ++ shown
batch_more batches shown = fold-append (λ (rows : List (List ℕ)) (batch : List (List ℕ)). rows ++ batch) [] batches (shown ∷ [])

sum_more : (place : ℕ) (columns : List (List Slot)) (column : List Slot) (n m total sum : ℤ) → n ≡ fold (added place) (pos 0) columns → m ≡ n → total ≡ added place m column → total ≡ sum
    → sum ≡ fold (added place) (pos 0) (columns ++ column ∷ [])
sum_more place columns column n m total sum so_far same_n adds same_sum =
    sym same_sum ∙ adds ∙ ap (λ (z : ℤ). added place z column) (same_n ∙ so_far) ∙ sym (fold-append (added place) (pos 0) columns (column ∷ []))

module _ (row_type : DataType) (place : ℕ) (bytes : List ℕ) where
  pub nothing_summed : (left : Option (List ℕ)) → left ≡ Some bytes → SumsSoFar row_type place bytes left (pos 0)
  nothing_summed left told = record {
    taken = [];
    rest = bytes;
    is_left = told;
    parts = refl;
    whole = inl (inl refl);
    batches = [];
    rows = sym no_rows;
    columns = [];
    are_columns = tt;
    is_sum = refl;
  }

  module _ (wanted : ℕ) (old new : State) (shown : List (List ℕ)) (n : ℤ) (s : SumsSoFar row_type place bytes old.left n) (h : ShowsRows wanted old new shown) where
    pub one_batch : (batch : List (List ℕ)) (copy : DataType) (column : Array) (m total sum : ℤ)
        → batch ≡ shown → copy ≡ row_type → IsColumnOf batch copy (array_type column) (array_slots column) → total ≡ added place m (array_slots column) → m ≡ n → total ≡ sum
        → SumsSoFar row_type place bytes new.left sum
    one_batch batch copy column m total sum is same is_column adds same_n same_sum =
        let l = left_of old.left new.left s.rest h.taken s.is_left h.takes.consumed in
        let typed = of_type shown row_type copy (array_type column) (array_slots column) same (subst (λ (z : List (List ℕ)). IsColumnOf z copy (array_type column) (array_slots column)) is is_column) in
        record {
          taken = s.taken ++ h.taken;
          rest = l.0;
          is_left = l.1;
          parts = s.parts ∙ ap (λ (z : List ℕ). s.taken ++ z) l.2 ∙ sym (append_assoc s.taken h.taken l.0);
          whole = ends_more s.taken s.rest h.taken l.0 s.whole l.2 new.left l.1 h.whole;
          batches = s.batches ++ shown ∷ [];
          rows = batch_more s.batches shown ∙ (λ i. s.rows i ++ h.rows i) ∙ sym (more_rows s.taken s.rest h.taken l.0 s.whole l.2);
          columns = s.columns ++ array_slots column ∷ [];
          are_columns = zip_push (λ (rows : List (List ℕ)) (slots : List Slot). IsColumnOf rows row_type row_type slots) s.batches s.columns shown (array_slots column) s.are_columns typed;
          is_sum = sum_more place s.columns (array_slots column) n m total sum s.is_sum same_n adds same_sum;
        }

    -- where no rows are shown though some are wanted, the source has ended
    all_rows : shown ≡ [] → 0 < wanted → rows_in s.batches ≡ rows_of bytes
    all_rows none some =
        let l = left_of old.left new.left s.rest h.taken s.is_left h.takes.consumed in
        let end : IsAtEnd new.left = h.fewer (subst (λ (z : List (List ℕ)). length z < wanted) (sym none) some) in
        let gone : l.0 ≡ [] = subst IsAtEnd l.1 end in
        let whole : bytes ≡ s.taken ++ h.taken = s.parts ∙ ap (λ (z : List ℕ). s.taken ++ z) (l.2 ∙ ap (λ (z : List ℕ). h.taken ++ z) gone ∙ append-nil h.taken) in
        s.rows ∙ sym (append-nil (rows_of s.taken)) ∙ ap (λ (z : List (List ℕ)). rows_of s.taken ++ z) (sym none ∙ h.rows)
        ∙ sym (more_rows s.taken s.rest h.taken l.0 s.whole l.2) ∙ ap rows_of (sym whole)

    pub sum_of_rows : (first after : Told) (key : List ℕ) (sum : ℤ) → InfersType (Some 1000) (2 ^ 40) first after row_type → HasFieldAt row_type place key → shown ≡ [] → 0 < wanted → n ≡ sum
        → IsSumOfLines first key bytes sum
    sum_of_rows first after key sum inferred named none some same_sum = record {
      row_type = row_type;
      after = after;
      inferred = inferred;
      place = place;
      named = named;
      batches = s.batches;
      all_rows = all_rows none some;
      columns = s.columns;
      are_columns = s.are_columns;
      is_sum = sym same_sum ∙ s.is_sum;
    }
