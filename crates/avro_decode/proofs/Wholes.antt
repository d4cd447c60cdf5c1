-- A block's columns, and the arrays of its builders.
use Rattle.std.proofs.Common.{◌≡◌, ◌∙◌, ℕ, ◌+◌, ◌<◌, ◌≤◌, Bool, List, [], ◌∷◌, ◌++◌, length, get_or, drop, set, map, Result, Ok, Err, refl, sym, ap, add-one, arith}
use Rattle.std.specs.Prelude.{IfErr}
use Rattle.std.proofs.lemmas.List.{length-map, get_or-map, drop-set-lt}
use Rattle.std.proofs.lemmas.List.FromFn.{get_or-map-range_with_len}
use Rattle.std.proofs.Math.Seq.{drop-cons}
use Rattle.arrow_core.specs.declared.error.Error.TheVariants.{OutOfMemory}
use Rattle.arrow_core.specs.declared.slot.Slot.{Slot}
use Rattle.arrow_core.specs.declared.types.Field.{Field}
use Rattle.arrow_array.specs.declared.array.Array.{Array}
use Rattle.arrow_array.specs.Arrays.{array_slots}
use Rattle.arrow_array.specs.Chunks.{AreSameLength}
use Rattle.avro_schema.specs.declared.schema.AvroField.{AvroField}
use Rattle.avro_schema.specs.Rows.{Pieces, Rows, column, total_kept, total_seen, total_hidden}
use Rattle.avro_schema.specs.ValidBlock.{kept}
use Rattle.arrow_builders.specs.MutableArrays.{builder_slots}
use Rattle.arrow_builders.specs.Shapes.{shape}
use Rattle.arrow_builders.specs.declared.array.MutableArray.{MutableArray}
use Rattle.avro_decode.specs.Suits.{AllSuit}
use Rattle.avro_decode.proofs.Fields.{suit_length, shapes_length}
use Rattle.avro_reference.specs.Block.{block}
use Rattle.avro_reference.proofs.Exact.{block_gives_rows, block_is_bad, block_is_negative}
use Rattle.avro_schema.specs.Columns.{columns, AreColumns}
use Rattle.avro_decode.specs.Counting.{ShowsAtMost, CallsAtMost}
use Rattle.avro_reference.specs.Costs.{Costs}
use Rattle.avro_decode.specs.Decoding.{grown_by, BlockHasMemory, IsFault, AreWide}
use Rattle.avro_decode.specs.Faults.{fault_error}
use Rattle.avro_decode.specs.declared.fault.BlockFault.{BlockFault}
use Rattle.avro_decode.specs.declared.fault.BlockFault.TheVariants.{Bytes, NegativeSize as BelowZero, Memory}
use Rattle.avro_schema.specs.Refusals.{AreCounted, BytesRefused}
use Rattle.avro_decode.proofs.Columns.{AreEmpty, grown_columns, length-grown_by, wide_same}

-- a column for each field whose values its builders take
pub a_column_each : (fields : List AvroField) (old new : List MutableArray) → AllSuit fields old → map shape new ≡ map shape old → length (map builder_slots new) ≡ length fields
a_column_each fields old new suits same = length-map new builder_slots ∙ shapes_length old new same ∙ sym (suit_length fields old suits)

pub block_columns : (n : ℕ) (fields : List AvroField) (projection : List Bool) (before now : List (List Slot)) (start : List ℕ) → length now ≡ length (kept fields projection) → AreEmpty before → (ys : List Pieces) × (block n fields projection start ≡ Ok ys) × (now ≡ grown_by before (map (λ y. y.slots) ys)) × AreWide (length now) (map (λ y. y.slots) ys) → AreColumns n fields projection start now
block_columns n fields projection before now start many h g =
    let table = map (λ (y : Pieces). y.slots) g.0 in
    let rows = (block_gives_rows n fields projection start g.0).0 g.1 in
    let l : length now ≡ length before = ap length g.2 ∙ length-grown_by table before in
    (table, rows.1, many, g.2 ∙ grown_columns table before h (wide_same (length now) (length before) table l g.3) ∙ ap (λ (cs : List (List Slot)). columns (length cs) table) (sym g.2))

-- why bytes are refused, by the fault
pub bytes_refused : (n : ℕ) (fs : List Field) (fields : List AvroField) (projection : List Bool) (start : List ℕ) (d : BlockFault) → AreCounted n fs projection start → IsFault d (block n fields projection start) → BytesRefused n fs fields projection start (fault_error d)
bytes_refused n fs fields projection start Bytes c e =
    let b = (block_is_bad n fields projection start).0 e in
    (c, λ table r. b.0 table c.1 r, b.1)
bytes_refused n fs fields projection start BelowZero c e = (c, (block_is_negative n fields projection start).0 e)
bytes_refused n fs fields projection start Memory c e = tt

-- where memory doesn't run out, another fault comes
pub not_memory : (d : BlockFault) → BlockHasMemory {X = Unit {0}} (Err d) → fault_error d ≡ OutOfMemory → ⊥
not_memory Bytes h e = cc
not_memory BelowZero h e = cc
not_memory Memory h e = h

-- ---- what a block costs

-- a block has one way to be cut into pieces
same_pieces : (n : ℕ) (fields : List AvroField) (projection : List Bool) (start : List ℕ) (ys : List Pieces) → n ≤ length start → block n fields projection start ≡ Ok ys → (table : List (List Slot)) (r : Rows n fields projection start table) → ys ≡ r.pieces
same_pieces n fields projection start ys le e table r =
    ok_same (block n fields projection start) e ((block_gives_rows n fields projection start r.pieces).1 (le, record { pieces = r.pieces; encoded = r.encoded; told = refl }, refl))
  where
    ok_same : {E : Type 0} {x y : List Pieces} → (r : Result (List Pieces) E) → r ≡ Ok x → r ≡ Ok y → x ≡ y
    ok_same r h k = same (sym h ∙ k)
      where
        same : {E : Type 0} {x y : List Pieces} → ◌≡◌ {A = Result (List Pieces) E} (Ok x) (Ok y) → x ≡ y
        same q = cc

module _ {X : Type 0} (rest : X → List ℕ) (shown calls : X → ℕ) (start here : X) (n : ℕ) (fields : List AvroField) (projection : List Bool) (ys : List Pieces) (le : n ≤ length (rest start)) (e : block n fields projection (rest start) ≡ Ok ys) (c : Costs rest shown calls start here (total_kept ys + total_seen ys) (total_hidden ys)) where
  pub shows_at_most : ShowsAtMost n fields projection (rest start) (shown start) (shown here)
  shows_at_most = λ table r. rw (same_pieces n fields projection (rest start) ys le e table r) at c.few_shown

  pub calls_at_most : CallsAtMost n fields projection (rest start) (calls start) (calls here)
  calls_at_most = λ table r.
      let k = rw (same_pieces n fields projection (rest start) ys le e table r) at c.few_calls in
      omega (arith, k)

-- ---- the arrays of builders, one at a time

abbrev pub DoneSoFar : {A B X : Type 0} → (A → X) → (B → X) → List A → List B → ℕ → List X → Type 0
DoneSoFar f g done builders i whole = map f done ++ map g (drop i builders) ≡ whole

pub done_more : {A B X : Type 0} (f : A → X) (g : B → X) (done : List A) (builders : List B) (i : ℕ) (a : A) (b new : B) (whole : List X) → i < length builders → DoneSoFar f g done builders i whole → f a ≡ g (get_or builders i b) → DoneSoFar f g (done ++ a ∷ []) (set builders i new) (i + 1) whole
done_more {A} {B} {X} f g done builders i a b new whole lt so e =
    let d : drop i builders ≡ get_or builders i b ∷ drop (i + 1) builders = drop-cons builders i b lt ∙ ap (λ (j : ℕ). get_or builders i b ∷ drop j builders) (sym (add-one i)) in
    let s : drop (i + 1) (set builders i new) ≡ drop (i + 1) builders = drop-set-lt (i + 1) builders i new (omega arith) in
    pushed f done a (map g (drop (i + 1) (set builders i new)))
    ∙ ap (λ (bs : List B). map f done ++ f a ∷ map g bs) s
    ∙ ap (λ (x : X). map f done ++ x ∷ map g (drop (i + 1) builders)) e
    ∙ ap (λ (bs : List B). map f done ++ map g bs) (sym d) ∙ so
  where
    pushed : {A X : Type 0} (f : A → X) (xs : List A) (x : A) (more : List X) → map f (xs ++ x ∷ []) ++ more ≡ map f xs ++ f x ∷ more
    pushed f [] x more = refl
    pushed {A} {X} f (y ∷ xs) x more = ap (λ (zs : List X). f y ∷ zs) (pushed f xs x more)

-- ---- the columns of a table have one length

pub same_lengths : (n : ℕ) (fields : List AvroField) (projection : List Bool) (bytes : List ℕ) (arrays : List Array) → AreColumns n fields projection bytes (map array_slots arrays) → AreSameLength arrays
same_lengths n fields projection bytes arrays h = λ i j d lt less. long i d (omega (arith, lt, less)) ∙ sym (long j d less)
  where
    long : (k : ℕ) (d : Array) → k < length arrays → length (array_slots (get_or arrays k d)) ≡ length h.0
    long k d lt =
        let l = length-map arrays array_slots in
        let a : get_or (map array_slots arrays) k [] ≡ array_slots (get_or arrays k d) = get_or-map array_slots arrays k d [] lt in
        let b : get_or (columns (length (map array_slots arrays)) h.0) k [] ≡ column h.0 k = get_or-map-range_with_len (column h.0) 0 (length (map array_slots arrays)) k k [] (omega (arith, lt, l)) (omega arith) in
        ap length (sym a ∙ ap (λ (cs : List (List Slot)). get_or cs k []) h.3 ∙ b) ∙ length-map h.0 _

pub never_refused : {C E : Type 0} (P Q : E → Type 0) (r : Result C E) (A : Type 0) → A → IfErr r (λ e. P e × (A → ⊥)) → IfErr r Q
never_refused P Q (Ok x) A a h = tt
never_refused P Q (Err e) A a h = absurd (h.1 a)
