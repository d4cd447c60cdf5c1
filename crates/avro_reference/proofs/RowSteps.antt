-- One step of reading, as a loop makes it: what is left gives what the whole gives.
use Rattle.std.proofs.Common.{◌≡◌, ℕ, zero, suc, ◌+◌, ◌-◌, ◌<◌, ◌≤◌, Bool, true, false, eqb, List, [], ◌∷◌, ◌++◌, length, get_or, drop, Some, None, Result, Ok, Err, refl, sym, ap, ◌∙◌, add-one, arith}
use Rattle.std.proofs.Math.Seq.{drop-cons}
use Rattle.std.proofs.lemmas.Bool.{le-ltb, ne_eqb}
use Rattle.arrow_core.specs.declared.slot.Slot.{Slot}
use Rattle.avro_schema.specs.declared.schema.AvroField.{AvroField}
use Rattle.avro_schema.specs.Skips.{Passed}
use Rattle.avro_schema.specs.Rows.{Pieces}
use Rattle.avro_reference.specs.Prefix.{Reader}
use Rattle.avro_reference.specs.Read.{read, push_one, items}
use Rattle.avro_reference.specs.Skip.{Fault, Bad, or_bad, skip}
use Rattle.avro_reference.specs.Block.{add_kept, add_skipped, row_after, row, rows_after, rows, block}

none_left : {A : Type 0} (xs : List A) (k : ℕ) → length xs ≤ k → drop k xs ≡ []
none_left [] zero h = refl
none_left [] (suc k) h = refl
none_left (x ∷ xs) zero h = absurd (omega (arith, h))
none_left (x ∷ xs) (suc k) h = none_left xs k (omega (arith, h))

-- ---- the fields of a row

-- the pieces of the fields from index i on, after the older ones
abbrev pub row_left : ℕ → List AvroField → List Bool → Pieces → List ℕ → Result (Pieces × List ℕ) Fault
row_left i fields projection old bytes = row_after old (drop i fields) (drop i projection) bytes

module _ (i : ℕ) (fields : List AvroField) (projection : List Bool) (f : AvroField) (old : Pieces) (bytes : List ℕ) (lt : i < length fields) (same : length fields ≡ length projection) (is : f ≡ get_or fields i f) where
  field_at : drop i fields ≡ f ∷ drop (i + 1) fields
  field_at = drop-cons fields i f lt ∙ ap (λ x. x ∷ drop (suc i) fields) (sym is) ∙ ap (λ j. f ∷ drop j fields) (sym (add-one i))

  choice_at : drop i projection ≡ get_or projection i false ∷ drop (i + 1) projection
  choice_at =
      drop-cons projection i false (omega (arith, lt, same)) ∙ ap (λ j. get_or projection i false ∷ drop j projection) (sym (add-one i))

  module _ (taken : get_or projection i false ≡ true) where
    pub kept_next : (x : Slot) (rest : List ℕ) → read f.schema bytes ≡ Some (x, rest) → row_left i fields projection old bytes ≡ row_left (i + 1) fields projection (add_kept old (x, length bytes - length rest)) rest
    unfolding row_after or_bad
    kept_next x rest e = rw (field_at, choice_at, taken, e) refl

    pub kept_bad : read f.schema bytes ≡ None → row_left i fields projection old bytes ≡ Err Bad
    unfolding row_after or_bad
    kept_bad e = rw (field_at, choice_at, taken, e) refl

  module _ (passed : get_or projection i false ≡ false) where
    pub skipped_next : (p : Passed) (rest : List ℕ) → skip f.schema bytes ≡ Ok (p, rest) → row_left i fields projection old bytes ≡ row_left (i + 1) fields projection (add_skipped old p) rest
    unfolding row_after
    skipped_next p rest e = rw (field_at, choice_at, passed, e) refl

    pub skipped_err : (d : Fault) → skip f.schema bytes ≡ Err d → row_left i fields projection old bytes ≡ Err d
    unfolding row_after
    skipped_err d e = rw (field_at, choice_at, passed, e) refl

pub row_done : (i : ℕ) (fields : List AvroField) (projection : List Bool) (old : Pieces) (bytes : List ℕ) → length fields ≤ i → length fields ≡ length projection → row_left i fields projection old bytes ≡ Ok (old, bytes)
unfolding row_after
row_done i fields projection old bytes le same =
    rw (none_left fields i le, none_left projection i (omega (arith, le, same))) refl

-- ---- the rows of a block

pub rows_next : (n : ℕ) (fields : List AvroField) (projection : List Bool) (old : List Pieces) (y : Pieces) (bytes rest : List ℕ) → row fields projection bytes ≡ Ok (y, rest) → rows_after old (suc n) fields projection bytes ≡ rows_after (old ++ y ∷ []) n fields projection rest
unfolding rows_after
rows_next n fields projection old y bytes rest e = rw e refl

pub rows_err : (n : ℕ) (fields : List AvroField) (projection : List Bool) (old : List Pieces) (bytes : List ℕ) (d : Fault) → row fields projection bytes ≡ Err d → rows_after old (suc n) fields projection bytes ≡ Err d
unfolding rows_after
rows_err n fields projection old bytes d e = rw e refl

pub rows_done : (fields : List AvroField) (projection : List Bool) (old : List Pieces) (bytes : List ℕ) → rows_after old 0 fields projection bytes ≡ Ok (old, bytes)
unfolding rows_after
rows_done fields projection old bytes = refl

-- ---- the items of an array

pub items_next : (f : Reader Slot) (n : ℕ) (old : List Slot) (x : Slot) (bytes rest : List ℕ) → f bytes ≡ Some (x, rest) → items f (suc n) old bytes ≡ items f n (old ++ x ∷ []) rest
unfolding items push_one
items_next f n old x bytes rest e = rw e refl

pub items_none : (f : Reader Slot) (n : ℕ) (old : List Slot) (bytes : List ℕ) → f bytes ≡ None → items f (suc n) old bytes ≡ None
unfolding items push_one
items_none f n old bytes e = rw e refl

-- ---- a block from its rows

module _ (n : ℕ) (fields : List AvroField) (projection : List Bool) (bytes : List ℕ) where
  module _ (enough : n ≤ length bytes) where
    pub block_ended : (ys : List Pieces) → rows n fields projection bytes ≡ Ok (ys, []) → block n fields projection bytes ≡ Ok ys
    unfolding block
    block_ended ys e = rw (le-ltb (length bytes) n enough, e) refl

    pub block_left : (ys : List Pieces) (rest : List ℕ) → 0 < length rest → rows n fields projection bytes ≡ Ok (ys, rest) → block n fields projection bytes ≡ Err Bad
    unfolding block
    block_left ys [] some e = absurd (omega (arith, some))
    block_left ys (b ∷ rest) some e =
        let more : eqb (suc (length rest)) 0 ≡ false = ne_eqb (suc (length rest)) 0 (λ z. omega (arith, z)) in
        rw (le-ltb (length bytes) n enough, e, more) refl

    pub block_err : (d : Fault) → rows n fields projection bytes ≡ Err d → block n fields projection bytes ≡ Err d
    unfolding block
    block_err d e = rw (le-ltb (length bytes) n enough, e) refl
