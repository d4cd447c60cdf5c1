-- One step of the loops over fields and over rows.
use Rattle.std.proofs.Common.{◌≡◌, ◌∙◌, ℕ, zero, suc, ◌+◌, ◌-◌, ◌<◌, ◌≤◌, Bool, true, false, List, [], ◌∷◌, ◌++◌, length, get_or, set, drop, map, Some, Ok, Err, refl, sym, ap, add-one, arith}
use Rattle.std.proofs.lemmas.List.{map-set, get_or-map, map-append, length-append, drop_all}
use Rattle.std.proofs.Math.Seq.{drop-cons}
use Rattle.arrow_core.specs.declared.slot.Slot.{Slot}
use Rattle.arrow_builders.specs.declared.array.MutableArray.{MutableArray}
use Rattle.arrow_builders.specs.MutableArrays.{builder_slots}
use Rattle.avro_schema.specs.declared.schema.AvroField.{AvroField}
use Rattle.avro_schema.specs.Skips.{Passed}
use Rattle.avro_schema.specs.Rows.{Pieces, no_pieces, total_kept, total_seen, total_hidden}
use Rattle.avro_schema.specs.ValidBlock.{kept}
use Rattle.avro_reference.specs.Read.{read, push_one}
use Rattle.avro_reference.specs.Skip.{Bad, Negative, skip}
use Rattle.avro_reference.specs.Block.{row, rows, rows_after, block, add_kept, add_skipped}
use Rattle.avro_reference.proofs.RowSteps.{row_left, kept_next, kept_bad, skipped_next, skipped_err, row_done, rows_next, rows_err, rows_done, block_ended, block_left, block_err}
use Rattle.avro_reference.specs.Costs.{Costs, CostsKept}
use Rattle.avro_reference.proofs.Counting.{costs_none}
use Rattle.avro_decode.specs.Decoding.{grown, grown_by, FieldFails, IsFault, AreWide}
use Rattle.avro_decode.specs.declared.fault.BlockFault.{BlockFault}
use Rattle.avro_decode.specs.declared.fault.BlockFault.TheVariants.{Bytes, NegativeSize, Memory}
use Rattle.avro_decode.proofs.RowCosts.{kept_more, skipped_more, rows_more}
use Rattle.avro_decode.proofs.Columns.{grown_none, length-grown, grown_next, grown_by_next, wide_next, wide_same}
use Rattle.avro_decode.proofs.Reading.{push_parts, push_none_parts}

-- ---- the fields of a row

-- k slots of a row are in their columns, and the fields from index i on are left
abbrev pub RowSoFar : {X : Type 0} → (X → List ℕ) → (X → ℕ) → (X → ℕ) → X → X → ℕ → ℕ → List AvroField → List Bool → List (List Slot) → List (List Slot) → Type 0
RowSoFar rest shown calls start here k i fields projection before now =
    (old : Pieces) × (row_left i fields projection old (rest here) ≡ row fields projection (rest start)) × (now ≡ grown before old.slots) × (length old.slots ≡ k) × Costs rest shown calls start here (old.kept + old.passed.seen) old.passed.hidden

pub row_begun : {X : Type 0} (rest : X → List ℕ) (shown calls : X → ℕ) (start : X) (fields : List AvroField) (projection : List Bool) (before : List (List Slot)) → RowSoFar rest shown calls start start 0 0 fields projection before before
row_begun rest shown calls start fields projection before = (no_pieces, refl, sym (grown_none before), refl, costs_none rest shown calls start)

module _ {X : Type 0} (rest : X → List ℕ) (shown calls : X → ℕ) (start here : X) (k i : ℕ) (fields : List AvroField) (projection : List Bool) (before now : List (List Slot)) (f : AvroField) (lt : i < length fields) (same : length fields ≡ length projection) (is : f ≡ get_or fields i f) (so : RowSoFar rest shown calls start here k i fields projection before now) where
  pub kept_step : get_or projection i false ≡ true → k < length before → (new : List Slot) (next : X) → push_one (get_or now k []) (read f.schema (rest here)) ≡ Some (new, rest next) → CostsKept rest shown calls here next → RowSoFar rest shown calls start next (k + 1) (i + 1) fields projection before (set now k new)
  kept_step taken lk new next e c =
      let old = so.0 in
      let p = push_parts (get_or now k []) new (read f.schema (rest here)) (rest next) e in
      let n = kept_next i fields projection f old (rest here) lt same is taken p.0 (rest next) p.1 in
      let g : set now k new ≡ grown before (old.slots ++ p.0 ∷ []) =
      ap (λ (xs : List Slot). set now k xs) p.2 ∙ ap (λ (cs : List (List Slot)). set cs k (get_or cs k [] ++ p.0 ∷ [])) so.2 ∙ grown_next before old.slots p.0 k so.3 lk in
      (add_kept old (p.0, length (rest here) - length (rest next)), sym n ∙ so.1, g, length_more old.slots p.0 k so.3, kept_more rest shown calls start here next old.kept old.passed.seen old.passed.hidden so.4 c)
    where
      length_more : (xs : List Slot) (x : Slot) (m : ℕ) → length xs ≡ m → length (xs ++ x ∷ []) ≡ m + 1
      length_more xs x m h = omega (arith, h, length-append xs (x ∷ []))

  pub kept_fault : get_or projection i false ≡ true → (d : BlockFault) → FieldFails d (push_one (get_or now k []) (read f.schema (rest here))) → IsFault d (row fields projection (rest start))
  kept_fault taken Bytes e =
      sym so.1 ∙ kept_bad i fields projection f so.0 (rest here) lt same is taken (push_none_parts (get_or now k []) (read f.schema (rest here)) e)
  kept_fault taken NegativeSize e = absurd e
  kept_fault taken Memory e = tt

  pub skipped_step : get_or projection i false ≡ false → (next : X) → (p : Passed) × (skip f.schema (rest here) ≡ Ok (p, rest next)) × Costs rest shown calls here next p.seen p.hidden → RowSoFar rest shown calls start next k (i + 1) fields projection before now
  skipped_step passed next q =
      let old = so.0 in
      let p = q.0 in
      (add_skipped old p, sym (skipped_next i fields projection f old (rest here) lt same is passed p (rest next) q.1) ∙ so.1, so.2, so.3, skipped_more rest shown calls start here next old.kept old.passed.seen old.passed.hidden p.seen p.hidden so.4 q.2)

  pub skipped_fault : get_or projection i false ≡ false → (d : BlockFault) → IsFault d (skip f.schema (rest here)) → IsFault d (row fields projection (rest start))
  skipped_fault passed Bytes e = sym so.1 ∙ skipped_err i fields projection f so.0 (rest here) lt same is passed Bad e
  skipped_fault passed NegativeSize e = sym so.1 ∙ skipped_err i fields projection f so.0 (rest here) lt same is passed Negative e
  skipped_fault passed Memory e = tt

pub row_ended : {X : Type 0} (rest : X → List ℕ) (shown calls : X → ℕ) (start here : X) (k i : ℕ) (fields : List AvroField) (projection : List Bool) (before now : List (List Slot)) → length fields ≤ i → length fields ≡ length projection → length before ≡ k → RowSoFar rest shown calls start here k i fields projection before now → (y : Pieces) × (row fields projection (rest start) ≡ Ok (y, rest here)) × (now ≡ grown before y.slots) × (length y.slots ≡ length now) × Costs rest shown calls start here (y.kept + y.passed.seen) y.passed.hidden
row_ended rest shown calls start here k i fields projection before now le same all so =
    let l : length now ≡ length before = ap length so.2 ∙ length-grown before so.0.slots in
    (so.0, sym so.1 ∙ row_done i fields projection so.0 (rest here) le same, so.2, so.3 ∙ sym all ∙ sym l, so.4)

-- ---- the kept fields that are left

module _ (i k : ℕ) (fields : List AvroField) (projection : List Bool) (f : AvroField) (lt : i < length fields) (same : length fields ≡ length projection) (is : f ≡ get_or fields i f) (ks : List AvroField) (left : drop k ks ≡ kept (drop i fields) (drop i projection)) where
  field_at : drop i fields ≡ f ∷ drop (i + 1) fields
  field_at = drop-cons fields i f lt ∙ ap (λ (x : AvroField). x ∷ drop (suc i) fields) (sym is) ∙ ap (λ (j : ℕ). f ∷ drop j fields) (sym (add-one i))

  choice_at : drop i projection ≡ get_or projection i false ∷ drop (i + 1) projection
  choice_at = drop-cons projection i false (omega (arith, lt, same)) ∙ ap (λ (j : ℕ). get_or projection i false ∷ drop j projection) (sym (add-one i))

  here : drop k ks ≡ kept (f ∷ drop (i + 1) fields) (get_or projection i false ∷ drop (i + 1) projection)
  here = left ∙ (rw (field_at, choice_at) refl)

  parts : (xs : List AvroField) (j : ℕ) → drop j xs ≡ f ∷ kept (drop (i + 1) fields) (drop (i + 1) projection) → (j < length xs) × (get_or xs j f ≡ f) × (drop (j + 1) xs ≡ kept (drop (i + 1) fields) (drop (i + 1) projection))
  parts [] zero q = absurd cc
  parts [] (suc j) q = absurd cc
  parts (x ∷ xs) zero q = (omega arith, cc, cc)
  parts (x ∷ xs) (suc j) q =
      let h = parts xs j q in
      let n : suc j + 1 ≡ suc (j + 1) = omega arith in
      (omega (arith, h.0), h.1, rw n h.2)

  pub kept_here : get_or projection i false ≡ true → (k < length ks) × (get_or ks k f ≡ f) × (drop (k + 1) ks ≡ kept (drop (i + 1) fields) (drop (i + 1) projection))
  kept_here taken = parts ks k (here ∙ ap (λ (v : Bool). kept (f ∷ drop (i + 1) fields) (v ∷ drop (i + 1) projection)) taken)

  pub kept_later : get_or projection i false ≡ false → drop k ks ≡ kept (drop (i + 1) fields) (drop (i + 1) projection)
  kept_later passed = here ∙ ap (λ (v : Bool). kept (f ∷ drop (i + 1) fields) (v ∷ drop (i + 1) projection)) passed

all_dropped : {A : Type 0} (xs : List A) (k : ℕ) → drop k xs ≡ [] → length xs ≤ k
all_dropped [] k h = omega arith
all_dropped (x ∷ xs) zero h = absurd cc
all_dropped (x ∷ xs) (suc k) h = let r = all_dropped xs k h in omega (arith, r)

pub kept_ended : (i k : ℕ) (fields : List AvroField) (projection : List Bool) (ks : List AvroField) → length fields ≤ i → drop k ks ≡ kept (drop i fields) (drop i projection) → length ks ≤ k
kept_ended i k fields projection ks le left = all_dropped ks k (left ∙ (rw (drop_all i fields le) refl))

-- ---- one builder of many

pub slots_here : (k : ℕ) (builders : List MutableArray) (d : MutableArray) → k < length builders → get_or (map builder_slots builders) k [] ≡ builder_slots (get_or builders k d)
slots_here k builders d lt = get_or-map builder_slots builders k d [] lt

-- a field's step, told of the builders
module _ {X : Type 0} (rest : X → List ℕ) (shown calls : X → ℕ) (start here : X) (k i : ℕ) (fields : List AvroField) (projection : List Bool) (before : List (List Slot)) (builders : List MutableArray) (d : MutableArray) (f : AvroField) (lt : i < length fields) (same : length fields ≡ length projection) (is : f ≡ get_or fields i f) (taken : get_or projection i false ≡ true) (lk : k < length builders) (so : RowSoFar rest shown calls start here k i fields projection before (map builder_slots builders)) where
  pub builder_step : k < length before → (b : MutableArray) (next : X) → push_one (builder_slots (get_or builders k d)) (read f.schema (rest here)) ≡ Some (builder_slots b, rest next) → CostsKept rest shown calls here next → RowSoFar rest shown calls start next (k + 1) (i + 1) fields projection before (map builder_slots (set builders k b))
  builder_step lb b next e c =
      let h = kept_step rest shown calls start here k i fields projection before (map builder_slots builders) f lt same is so taken lb (builder_slots b) next (rw (slots_here k builders d lk) e) c in
      (h.0, h.1, map-set builder_slots builders k b ∙ h.2, h.3, h.4)

  pub builder_fault : (t : BlockFault) → FieldFails t (push_one (builder_slots (get_or builders k d)) (read f.schema (rest here))) → IsFault t (row fields projection (rest start))
  builder_fault t e =
      kept_fault rest shown calls start here k i fields projection before (map builder_slots builders) f lt same is so taken t (rw (slots_here k builders d lk) e)

-- ---- rows

-- m rows are left
abbrev pub RowsSoFar : {X : Type 0} → (X → List ℕ) → (X → ℕ) → (X → ℕ) → X → X → ℕ → ℕ → List AvroField → List Bool → List (List Slot) → List (List Slot) → Type 0
RowsSoFar rest shown calls start here n m fields projection before now =
    (ys : List Pieces) × (rows_after ys m fields projection (rest here) ≡ rows n fields projection (rest start)) × (now ≡ grown_by before (map (λ y. y.slots) ys)) × AreWide (length now) (map (λ y. y.slots) ys) × Costs rest shown calls start here (total_kept ys + total_seen ys) (total_hidden ys)

pub rows_begun : {X : Type 0} (rest : X → List ℕ) (shown calls : X → ℕ) (start : X) (n m : ℕ) (fields : List AvroField) (projection : List Bool) (before : List (List Slot)) → m ≡ n → RowsSoFar rest shown calls start start n m fields projection before before
rows_begun rest shown calls start n m fields projection before e = ([], rw e refl, refl, tt, costs_none rest shown calls start)

module _ {X : Type 0} (rest : X → List ℕ) (shown calls : X → ℕ) (start here : X) (n m l : ℕ) (fields : List AvroField) (projection : List Bool) (before now : List (List Slot)) (s : m ≡ suc l) (so : RowsSoFar rest shown calls start here n m fields projection before now) where
  pub rows_step : (next : X) (new : List (List Slot)) → (y : Pieces) × (row fields projection (rest here) ≡ Ok (y, rest next)) × (new ≡ grown now y.slots) × (length y.slots ≡ length new) × Costs rest shown calls here next (y.kept + y.passed.seen) y.passed.hidden → RowsSoFar rest shown calls start next n l fields projection before new
  rows_step next new g =
      let ys = so.0 in
      let y = g.0 in
      let more : map (λ (q : Pieces). q.slots) (ys ++ y ∷ []) ≡ map (λ (q : Pieces). q.slots) ys ++ y.slots ∷ [] = map-append (λ (q : Pieces). q.slots) ys (y ∷ []) in
      let e : rows_after (ys ++ y ∷ []) l fields projection (rest next) ≡ rows n fields projection (rest start) =
      sym (rows_next l fields projection ys y (rest here) (rest next) g.1) ∙ ap (λ (j : ℕ). rows_after ys j fields projection (rest here)) (sym s) ∙ so.1 in
      let same : length new ≡ length now = ap length g.2 ∙ length-grown now y.slots in
      let grow : new ≡ grown_by before (map (λ (q : Pieces). q.slots) ys ++ y.slots ∷ []) =
      g.2 ∙ ap (λ (cs : List (List Slot)). grown cs y.slots) so.2 ∙ sym (grown_by_next (map (λ (q : Pieces). q.slots) ys) before y.slots) in
      let wide = wide_next (length new) (map (λ (q : Pieces). q.slots) ys) y.slots (wide_same (length now) (length new) (map (λ (q : Pieces). q.slots) ys) (sym same) so.3) g.3 in
      (ys ++ y ∷ [], e, rw more grow, rw more wide, rows_more rest shown calls start here next ys y so.4 g.4)

  pub rows_fault : (d : BlockFault) → IsFault d (row fields projection (rest here)) → IsFault d (rows n fields projection (rest start))
  rows_fault Bytes e =
      sym so.1 ∙ ap (λ (j : ℕ). rows_after so.0 j fields projection (rest here)) s ∙ rows_err l fields projection so.0 (rest here) Bad e
  rows_fault NegativeSize e =
      sym so.1 ∙ ap (λ (j : ℕ). rows_after so.0 j fields projection (rest here)) s ∙ rows_err l fields projection so.0 (rest here) Negative e
  rows_fault Memory e = tt

pub rows_ended : {X : Type 0} (rest : X → List ℕ) (shown calls : X → ℕ) (start here : X) (n m : ℕ) (fields : List AvroField) (projection : List Bool) (before now : List (List Slot)) → m ≡ 0 → RowsSoFar rest shown calls start here n m fields projection before now → (ys : List Pieces) × (rows n fields projection (rest start) ≡ Ok (ys, rest here)) × (now ≡ grown_by before (map (λ y. y.slots) ys)) × AreWide (length now) (map (λ y. y.slots) ys) × Costs rest shown calls start here (total_kept ys + total_seen ys) (total_hidden ys)
rows_ended rest shown calls start here n m fields projection before now z so =
    (so.0, sym so.1 ∙ ap (λ (j : ℕ). rows_after so.0 j fields projection (rest here)) z ∙ rows_done fields projection so.0 (rest here), so.2, so.3, so.4)

-- ---- a block

module _ {X : Type 0} (rest : X → List ℕ) (shown calls : X → ℕ) (start here : X) (n : ℕ) (fields : List AvroField) (projection : List Bool) (before now : List (List Slot)) (enough : n ≤ length (rest start)) (g : (ys : List Pieces) × (rows n fields projection (rest start) ≡ Ok (ys, rest here)) × (now ≡ grown_by before (map (λ y. y.slots) ys)) × AreWide (length now) (map (λ y. y.slots) ys) × Costs rest shown calls start here (total_kept ys + total_seen ys) (total_hidden ys)) where
  pub block_read : length (rest here) ≡ 0 → (rest here ≡ []) × (ys : List Pieces) × (block n fields projection (rest start) ≡ Ok ys) × (now ≡ grown_by before (map (λ y. y.slots) ys)) × AreWide (length now) (map (λ y. y.slots) ys) × Costs rest shown calls start here (total_kept ys + total_seen ys) (total_hidden ys)
  block_read z =
      let e : rest here ≡ [] = empty (rest here) z in
      (e, g.0, block_ended n fields projection (rest start) enough g.0 (rw e at g.1), g.2, g.3, g.4)
    where
      empty : (xs : List ℕ) → length xs ≡ 0 → xs ≡ []
      empty [] h = refl
      empty (x ∷ xs) h = absurd (omega (arith, h))

  pub block_more : 0 < length (rest here) → block n fields projection (rest start) ≡ Err Bad
  block_more some = block_left n fields projection (rest start) enough g.0 (rest here) some g.1

pub block_fault : (n : ℕ) (fields : List AvroField) (projection : List Bool) (start : List ℕ) → n ≤ length start → (d : BlockFault) → IsFault d (rows n fields projection start) → IsFault d (block n fields projection start)
block_fault n fields projection start enough Bytes e = block_err n fields projection start enough Bad e
block_fault n fields projection start enough NegativeSize e = block_err n fields projection start enough Negative e
block_fault n fields projection start enough Memory e = tt
