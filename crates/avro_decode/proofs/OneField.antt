-- A block of one kept field: its rows are the items of one column.
use Rattle.std.proofs.Common.{◌≡◌, ◌∙◌, ℕ, zero, suc, ◌+◌, ◌-◌, ◌≤◌, Bool, true, false, List, [], ◌∷◌, ◌++◌, length, get_or, set, map, Option, Some, None, Result, Ok, Err, refl, sym, ap, subst, append_assoc, arith}
use Rattle.std.specs.Prelude.{OnOk}
use Rattle.std.proofs.lemmas.List.{append-nil}
use Rattle.std.proofs.lemmas.List.Sums.{sum_by-append}
use Rattle.arrow_core.specs.declared.slot.Slot.{Slot}
use Rattle.arrow_builders.specs.MutableArrays.{builder_slots}
use Rattle.arrow_builders.specs.declared.array.MutableArray.{MutableArray}
use Rattle.avro_schema.specs.declared.schema.AvroField.{AvroField}
use Rattle.avro_schema.specs.ValidBlock.{kept}
use Rattle.avro_schema.specs.Rows.{Pieces, no_pieces, total_kept, total_seen, total_hidden}
use Rattle.avro_reference.specs.Read.{read, items}
use Rattle.avro_reference.specs.Skip.{Bad, or_bad}
use Rattle.avro_reference.specs.Block.{row, row_after, rows, rows_after, add_kept}
use Rattle.avro_reference.proofs.RowSteps.{rows_next, rows_err, rows_done, items_next, items_none}
use Rattle.avro_reference.specs.Costs.{Costs, CostsKept}
use Rattle.avro_decode.specs.Decoding.{grown_by, AreWide, GivesField, GivesRows}
use Rattle.avro_decode.specs.declared.fault.BlockFault.{BlockFault}
use Rattle.avro_decode.specs.declared.fault.BlockFault.TheVariants.{Bytes, NegativeSize, Memory}

module _ (f : AvroField) where
  one_row : (x : Slot) (bytes rest : List ℕ) → read f.schema bytes ≡ Some (x, rest) → row (f ∷ []) (true ∷ []) bytes ≡ Ok (add_kept no_pieces (x, length bytes - length rest), rest)
  unfolding row_after or_bad
  one_row x bytes rest e = rw e refl

  no_row : (bytes : List ℕ) → read f.schema bytes ≡ None → row (f ∷ []) (true ∷ []) bytes ≡ Err Bad
  unfolding row_after or_bad
  no_row bytes e = rw e refl

  -- n rows after those that were read, by what reading as many items gives
  abbrev AreRows : List Pieces → ℕ → List Slot → List ℕ → Option (List Slot × List ℕ) → Type 0
  AreRows ys n old bytes None = rows_after ys n (f ∷ []) (true ∷ []) bytes ≡ Err Bad
  AreRows ys n old bytes (Some s) =
      (zs : List Pieces) × (rows_after ys n (f ∷ []) (true ∷ []) bytes ≡ Ok (ys ++ zs, s.1)) × (s.0 ∷ [] ≡ grown_by (old ∷ []) (map (λ y. y.slots) zs)) × AreWide 1 (map (λ y. y.slots) zs) × (length bytes - length s.1 ≤ total_kept zs) × (total_hidden zs ≡ 0)

  more_rows : (ys : List Pieces) (n : ℕ) (old : List Slot) (x : Slot) (bytes rest : List ℕ) → read f.schema bytes ≡ Some (x, rest) → (o : Option (List Slot × List ℕ)) → AreRows (ys ++ add_kept no_pieces (x, length bytes - length rest) ∷ []) n (old ++ x ∷ []) rest o → AreRows ys (suc n) old bytes o
  more_rows ys n old x bytes rest e None h = rows_next n (f ∷ []) (true ∷ []) ys (add_kept no_pieces (x, length bytes - length rest)) bytes rest (one_row x bytes rest e) ∙ h
  more_rows ys n old x bytes rest e (Some s) h =
      let p = add_kept no_pieces (x, length bytes - length rest) in
      let q : rows_after ys (suc n) (f ∷ []) (true ∷ []) bytes ≡ Ok (ys ++ p ∷ h.0, s.1) =
      rows_next n (f ∷ []) (true ∷ []) ys p bytes rest (one_row x bytes rest e) ∙ h.1 ∙ ap (λ (zs : List Pieces). Ok (zs, s.1)) (append_assoc ys (p ∷ []) h.0) in
      let k = sum_by-append (λ (y : Pieces). y.kept) (p ∷ []) h.0 in
      let l = sum_by-append (λ (y : Pieces). y.passed.hidden) (p ∷ []) h.0 in
      (p ∷ h.0, q, h.2, (refl, h.3), omega (arith, h.4, k), omega (arith, h.5, l))

  are_rows : (n : ℕ) (ys : List Pieces) (old : List Slot) (bytes : List ℕ) → AreRows ys n old bytes (items (read f.schema) n old bytes)
  unfolding items
  are_rows zero ys old bytes = ([], rows_done (f ∷ []) (true ∷ []) ys bytes ∙ ap (λ (zs : List Pieces). Ok (zs, bytes)) (sym (append-nil ys)), refl, tt, omega arith, refl)
  are_rows (suc n) ys old bytes = step (λ (zs : List Pieces) (now : List Slot) (left : List ℕ). are_rows n zs now left) (read f.schema bytes) refl
    where
      step : ((zs : List Pieces) (now : List Slot) (left : List ℕ) → AreRows zs n now left (items (read f.schema) n now left)) → (o : Option (Slot × List ℕ)) → read f.schema bytes ≡ o → AreRows ys (suc n) old bytes (items (read f.schema) (suc n) old bytes)
      step later None e = subst (AreRows ys (suc n) old bytes) (sym (items_none (read f.schema) n old bytes e)) (rows_err n (f ∷ []) (true ∷ []) ys bytes Bad (no_row bytes e))
      step later (Some x) e = subst (AreRows ys (suc n) old bytes) (sym (items_next (read f.schema) n old x.0 bytes x.1 e)) (more_rows ys n old x.0 bytes x.1 e (items (read f.schema) n (old ++ x.0 ∷ []) x.1) (later (ys ++ add_kept no_pieces (x.0, length bytes - length x.1) ∷ []) (old ++ x.0 ∷ []) x.1))

  pub rows_bad : (n : ℕ) (old : List Slot) (bytes : List ℕ) → items (read f.schema) n old bytes ≡ None → rows n (f ∷ []) (true ∷ []) bytes ≡ Err Bad
  rows_bad n old bytes e = subst (AreRows [] n old bytes) e (are_rows n [] old bytes)

  pub rows_given : {X : Type 0} (rest : X → List ℕ) (shown calls : X → ℕ) (start here : X) (n : ℕ) (old new : List Slot) → items (read f.schema) n old (rest start) ≡ Some (new, rest here) → CostsKept rest shown calls start here → (ys : List Pieces) × (rows n (f ∷ []) (true ∷ []) (rest start) ≡ Ok (ys, rest here)) × (new ∷ [] ≡ grown_by (old ∷ []) (map (λ y. y.slots) ys)) × AreWide 1 (map (λ y. y.slots) ys) × Costs rest shown calls start here (total_kept ys + total_seen ys) (total_hidden ys)
  rows_given rest shown calls start here n old new e c =
      let h = subst (AreRows [] n old (rest start)) e (are_rows n [] old (rest start)) in
      (h.0, h.1, h.2, h.3, record { few_shown = omega (arith, c.few_shown, h.4); few_calls = omega (arith, c.few_calls, h.5) })

pub one_field : (fields : List AvroField) (projection : List Bool) (f : AvroField) → length fields ≡ 1 → length fields ≡ length projection → f ≡ get_or fields 0 f → get_or projection 0 false ≡ true → (fields ≡ f ∷ []) × (projection ≡ true ∷ [])
one_field [] projection f l same is taken = absurd (omega (arith, l))
one_field (g ∷ []) [] f l same is taken = absurd (omega (arith, same))
one_field (g ∷ []) (v ∷ []) f l same is taken = (ap (λ (x : AvroField). x ∷ []) (sym is), ap (λ (w : Bool). w ∷ []) taken)
one_field (g ∷ []) (v ∷ w ∷ ws) f l same is taken = absurd (omega (arith, same))
one_field (g ∷ h ∷ fields) projection f l same is taken = absurd (omega (arith, l))

-- what the one builder took are the rows
pub one_column : {X Y : Type 0} (rest : X → List ℕ) (shown calls : X → ℕ) (start here : X) (n : ℕ) (fields : List AvroField) (projection : List Bool) (f : AvroField) (bs : List MutableArray) (b c : MutableArray) (r : Result Y BlockFault) → fields ≡ f ∷ [] → projection ≡ true ∷ [] → length (kept fields projection) ≡ length bs → OnOk r (CostsKept rest shown calls start here) → GivesField (λ _. (builder_slots c, rest here)) r (items (read f.schema) n (builder_slots (get_or bs 0 b)) (rest start)) → GivesRows rest shown calls start here (map builder_slots bs) (map builder_slots (set bs 0 c)) r (rows n fields projection (rest start))
one_column rest shown calls start here n fields projection f [] b c r e p l k g =
    let one : length (kept fields projection) ≡ 1 = rw (e, p) refl in
    absurd (omega (arith, l, one))
one_column rest shown calls start here n fields projection f (a ∷ []) b c (Ok y) e p l k g =
    let h = rows_given f rest shown calls start here n (builder_slots a) (builder_slots c) g k in
    (h.0, rw (e, p) h.1, h.2, h.3, h.4)
one_column rest shown calls start here n fields projection f (a ∷ []) b c (Err Bytes) e p l k g = rw (e, p) (rows_bad f n (builder_slots a) (rest start) g)
one_column rest shown calls start here n fields projection f (a ∷ []) b c (Err NegativeSize) e p l k g = absurd g
one_column rest shown calls start here n fields projection f (a ∷ []) b c (Err Memory) e p l k g = tt
one_column rest shown calls start here n fields projection f (a ∷ d ∷ bs) b c r e p l k g =
    let one : length (kept fields projection) ≡ 1 = rw (e, p) refl in
    absurd (omega (arith, l, one))
