-- Sums of a file's columns, block after block.
use Rattle.std.proofs.Common.{◌≡◌, ◌∙◌, ℕ, suc, ◌-◌, ◌^◌, ◌<◌, ◌≤◌, inl, inr, ◌⊎◌, ℤ, pos, ◌+ℤ◌, take, get_or, SomeIff, ok_or, FitsSigned, take-suc, List, [], ◌∷◌, ◌++◌, map, length, Option, Some, None, Result, Ok, Err, IfOk, refl, sym, ap, subst, rules}
use Rattle.std.specs.Prelude.{Bool, IfSome, IfErr, IsOk}
use Rattle.std.specs.Int.{w128}
use Rattle.arrow_core.specs.declared.error.Error.{Error}
use Rattle.arrow_core.specs.declared.error.Error.TheVariants.{InvalidArgumentError, Overflow, OutOfMemory}
use Rattle.arrow_core.specs.declared.error.Reason.TheVariants.{KeepNumber}
use Rattle.std.specs.List.{AllZip}
use Rattle.std.proofs.KnownBytes.{Consumes-trans}
use Rattle.std.proofs.lemmas.List.{append-nil}
use Rattle.std.proofs.lemmas.List.Sums.{fold-append}
use Rattle.std.specs.Io.KnownBytes.{Consumes, IsAtEnd}
use Rattle.arrow_array.specs.declared.array.Array.{Array}
use Rattle.arrow_array.specs.Arrays.{array_slots}
use Rattle.arrow_core.specs.declared.slot.Slot.{Slot}
use Rattle.arrow_core.specs.declared.types.Field.{Field}
use Rattle.avro_schema.specs.declared.schema.Record.{Record, out-Record}
use Rattle.avro_schema.specs.declared.schema.Schema as schema
use Rattle.avro_container.specs.File.{IsFileBlock, none}
use Rattle.avro_container.specs.ReadHeader.{Change}
use Rattle.avro_container.specs.Taking.{State, state}
use Rattle.avro_container.proofs.Sequences.{one_more}
use Rattle.avro_container.proofs.Taken.{takes_nothing, takes_more}
use Rattle.avro_schema.specs.Columns.{AreColumns}
use Rattle.avro_schema.specs.Projected.{Projected, projected}
use Rattle.avro_file.specs.Metadata.{ReadsMetadata}
use Rattle.avro_file.specs.declared.metadata.Compression.{Compression}
use Rattle.avro_schema.specs.Inferred.{inferred_columns, HasMapOrUnion}
use Rattle.avro_types.specs.Inference.{SchemaRefused}
use Rattle.avro_read.specs.Projection.{ReaderRefused}
use Rattle.avro_read.specs.Reader.{ReadsChunk, Next}
use Rattle.guide.specs.Sum.{only, long_of, added, AddsColumn, SumsSoFar, SumsBlocks, IsSumOfFile, PassesBits, ColumnFails, StopsAtBlock, FieldFails, SumFails}

pub zip_push : {A B : Type 0} (R : A → B → Type 0) (xs : List A) (ys : List B) (x : A) (y : B) → AllZip R xs ys → R x y → AllZip R (xs ++ x ∷ []) (ys ++ y ∷ [])
zip_push R [] [] x y h r = (r, tt)
zip_push R [] (z ∷ ys) x y h r = absurd h
zip_push R (z ∷ xs) [] x y h r = absurd h
zip_push R (a ∷ xs) (b ∷ ys) x y h r = (h.0, zip_push R xs ys x y h.1 r)

pub sums_none : (p : Projected) (marker : List ℕ) (s : State) → SumsSoFar p marker s s (pos 0)
sums_none p marker s = record {
  bytes = [];
  taken = takes_nothing s;
  blocks = [];
  sequence = none;
  columns = [];
  are_columns = tt;
  is_sum = refl;
}

pub sums_more : (p : Projected) (marker : List ℕ) (a b c : State) (n total : ℤ) (chunk : List Array)
    → SumsSoFar p marker a b n → ReadsChunk p marker b c chunk → AddsColumn n (map array_slots chunk) total → SumsSoFar p marker a c total
sums_more p marker a b c n total chunk s r x = record {
  bytes = s.bytes ++ r.passed.0;
  taken = takes_more a b c s.bytes r.passed.0 s.taken r.passed.1;
  blocks = s.blocks ++ r.block ∷ [];
  sequence = one_more (IsFileBlock marker) s.bytes r.passed.0 s.blocks r.block s.sequence r.passed.2;
  columns = s.columns ++ x.column ∷ [];
  are_columns = zip_push (λ block column. AreColumns block.rows p.avro_fields p.projection block.bytes (column ∷ [])) s.blocks s.columns r.block x.column s.are_columns (subst (AreColumns r.block.rows p.avro_fields p.projection r.block.bytes) x.one r.columns);
  is_sum = x.adds ∙ ap (λ (m : ℤ). added m x.column) s.is_sum ∙ sym (fold-append added (pos 0) s.columns (x.column ∷ []));
}

all_taken : (bytes taken : List ℕ) (left : Option (List ℕ)) → Consumes (Some bytes) left taken → IsAtEnd left → bytes ≡ taken
all_taken bytes taken None h e = absurd h
all_taken bytes taken (Some rest) h e = h ∙ ap (λ (z : List ℕ). taken ++ z) e ∙ append-nil taken

pub sum_of_file : (field : ℕ) (bytes : List ℕ) (n : ℤ) (c : Change) (root : Record) (marker : List ℕ) (count : ℕ) (fields : List Field) (projection : List Bool) (old new : State)
    → c.left ≡ Some bytes → ReadsMetadata c root marker count → projection ≡ only field (length (out-Record root).fields) → old.left ≡ c.left_after
    → SumsBlocks (projected fields (out-Record root).fields projection) marker old new n → IsSumOfFile field bytes n
sum_of_file field bytes n c root marker count fields projection old new tells reads is after s =
    let head = reads.header in
    let w = s.sums in
    let rest : Consumes c.left_after new.left w.bytes = subst (λ (z : Option (List ℕ)). Consumes z new.left w.bytes) after w.taken.consumed in
    let whole : Consumes (Some bytes) new.left (head.bytes ++ w.bytes) = subst (λ (z : Option (List ℕ)). Consumes z new.left (head.bytes ++ w.bytes)) tells (Consumes-trans c.left c.left_after new.left head.bytes w.bytes head.consumed rest) in
    record {
      root = root;
      marker = marker;
      blocks = w.blocks;
      is_file = record { prefix = head.bytes; back = w.bytes; joined = all_taken bytes (head.bytes ++ w.bytes) new.left whole s.ended; entries = head.entries; head = head.head; text = reads.text; schema = head.schema; means = reads.means; codec = head.codec; blocks = w.sequence };
      columns = w.columns;
      are_columns = subst (λ (z : List Bool). AllZip (λ block column. AreColumns block.rows (out-Record root).fields z block.bytes (column ∷ [])) w.blocks w.columns) is w.are_columns;
      is_sum = w.is_sum;
    }

-- ---- the answers of calls

pub next_sums : (p q : Projected) (marker k : List ℕ) (a b c : State) (n m total sum : ℤ) (answer : Option (Result (List Array) Error)) (r : Result (List Array) Error) (chunk : List Array)
    → q ≡ p → k ≡ marker → answer ≡ Some r → r ≡ Ok chunk
    → SumsSoFar p marker a b n → Next q k b c answer → AddsColumn m (map array_slots chunk) total → m ≡ n → total ≡ sum → SumsSoFar p marker a c sum
next_sums p q marker k a b c n m total sum None r chunk e f is was s h x same_n same_sum = absurd cc
next_sums p q marker k a b c n m total sum (Some (Err d)) r chunk e f is was s h x same_n same_sum = absurd cc
next_sums p q marker k a b c n m total sum (Some (Ok d)) r chunk e f is was s h x same_n same_sum =
    let same : d ≡ chunk = cc in
    let one : ReadsChunk p k b c d = subst (λ (z : Projected). ReadsChunk z k b c d) e h in
    let two : ReadsChunk p marker b c d = subst (λ (z : List ℕ). ReadsChunk p z b c d) f one in
    let adds : AddsColumn n (map array_slots chunk) total = subst (λ (z : ℤ). AddsColumn z (map array_slots chunk) total) same_n x in
    subst (SumsSoFar p marker a c) same_sum (sums_more p marker a b c n total chunk s (subst (ReadsChunk p marker b c) same two) adds)

pub still_open : (P : Type 0) (answer : Option (Result (List Array) Error)) (r : Result (List Array) Error) (chunk : List Array) → answer ≡ Some r → r ≡ Ok chunk → IfSome answer (λ a. IsOk a → P) → P
still_open P None r chunk is was h = absurd cc
still_open P (Some (Err d)) r chunk is was h = absurd cc
still_open P (Some (Ok d)) r chunk is was h = h (search rules)

pub if_sum : (field : ℕ) (result : Result ℤ Error) (c : Change) (root : Record) (marker k : List ℕ) (count : ℕ) (fields : List Field) (p : Projected) (projection : List Bool) (old new : State)
    → ReadsMetadata c root marker count → p ≡ projected fields (out-Record root).fields projection → projection ≡ only field (length (out-Record root).fields) → k ≡ marker → old.left ≡ c.left_after
    → IfOk result (SumsBlocks p k old new) → IfOk result (λ n. (bytes : List ℕ) → c.left ≡ Some bytes → IsSumOfFile field bytes n)
if_sum field (Err e) c root marker k count fields p projection old new reads is one same after h = tt
if_sum field (Ok n) c root marker k count fields p projection old new reads is one same after h = λ bytes tells.
    sum_of_file field bytes n c root marker count fields projection old new tells reads one after (subst (λ (z : Projected). SumsBlocks z marker old new n) is (subst (λ (z : List ℕ). SumsBlocks p z old new n) same h))

-- ---- why there is no sum

-- the integer of slot i takes the sum past 128 bits
pub passes_at : (n : ℤ) (slots : List Slot) (i : ℕ) (d : Slot) (sum long : ℤ) → i < length slots → sum ≡ added n (take i slots) → long ≡ long_of (get_or slots i d)
    → (FitsSigned w128 (sum +ℤ long) → ⊥) → PassesBits n slots
passes_at n slots i d sum long l is one past =
    let more : added n (take (suc i) slots) ≡ sum +ℤ long =
    ap (added n) (take-suc slots i d l) ∙ fold-append (λ (m : ℤ) (x : Slot). m +ℤ long_of x) n (take i slots) (get_or slots i d ∷ []) ∙ (λ j. sym is j +ℤ sym one j) in
    (suc i, λ fits. past (subst (FitsSigned w128) more fits))

-- a sum that is checked, and was too great
pub too_great : (checked : Option ℤ) (result : Result ℤ Error) (e : Error) (P : Type 0) (v : ℤ) → result ≡ ok_or checked Overflow → result ≡ Err e → SomeIff checked P v
    → (e ≡ Overflow) × (P → ⊥)
too_great None result e P v made failed fits = (cc, fits)
too_great (Some x) result e P v made failed fits = absurd cc

pub block_stops : (p q : Projected) (marker k : List ℕ) (a b c : State) (n : ℤ) (answer : Option (Result (List Array) Error)) (r : Result (List Array) Error) (e : Error)
    → q ≡ p → k ≡ marker → answer ≡ Some r → r ≡ Err e → SumsSoFar p marker a b n → Next q k b c answer → StopsAtBlock p marker a c e
block_stops p q marker k a b c n answer r e same_p same_k is was s h =
    let one : Next p k b c answer = subst (λ (z : Projected). Next z k b c answer) same_p h in
    let two : Next p marker b c answer = subst (λ (z : List ℕ). Next p z b c answer) same_k one in
    let fails : answer ≡ Some (Err e) = is ∙ ap Some was in
    record { between = b; sum = n; before = s; why = inl (subst (Next p marker b c) fails two) }

pub column_stops : (p q : Projected) (marker k : List ℕ) (a b c : State) (n m : ℤ) (answer : Option (Result (List Array) Error)) (r : Result (List Array) Error) (chunk : List Array) (e : Error)
    → q ≡ p → k ≡ marker → answer ≡ Some r → r ≡ Ok chunk → SumsSoFar p marker a b n → Next q k b c answer → m ≡ n → ColumnFails m chunk e → StopsAtBlock p marker a c e
column_stops p q marker k a b c n m answer r chunk e same_p same_k is was s h same_n why =
    let one : Next p k b c answer = subst (λ (z : Projected). Next z k b c answer) same_p h in
    let two : Next p marker b c answer = subst (λ (z : List ℕ). Next p z b c answer) same_k one in
    let reads : answer ≡ Some (Ok chunk) = is ∙ ap Some was in
    record {
      between = b;
      sum = n;
      before = s;
      why = inr (record { chunk = chunk; reads = subst (Next p marker b c) reads two; why = subst (λ (z : ℤ). ColumnFails z chunk e) same_n why });
    }

pub no_projection : (field count : ℕ) (root : Record) (e : Error) → count ≡ length (out-Record root).fields
    → ((e ≡ InvalidArgumentError KeepNumber) × (count ≤ field)) ⊎ (e ≡ OutOfMemory) → FieldFails field root e
no_projection field count root e is (inl why) = inr (inl (why.0, subst (λ (n : ℕ). n ≤ field) is why.1))
no_projection field count root e is (inr why) = inl (subst (SchemaRefused (HasMapOrUnion (schema.Record root))) (sym why) tt)

pub no_reader : (field : ℕ) (root : Record) (fields : List Field) (compression : Option Compression) (projection : List Bool) (e : Error)
    → inferred_columns (out-Record root).fields ≡ Some fields → compression ≡ None → projection ≡ only field (length (out-Record root).fields)
    → ReaderRefused compression (projected fields (out-Record root).fields projection) e → FieldFails field root e
no_reader field root fields compression projection e inferred plain one refused =
    let at_none = subst (λ (z : Option Compression). ReaderRefused z (projected fields (out-Record root).fields projection) e) plain refused in
    inr (inr (fields, inferred, subst (λ (z : List Bool). ReaderRefused None (projected fields (out-Record root).fields z) e) one at_none))

module _ (field : ℕ) (h : Change) (within : h.limit ≡ 2 ^ 40) where
  module _ (root : Record) (marker : List ℕ) (count : ℕ) (reads : ReadsMetadata h root marker count) where
    pub no_field : (e : Error) → FieldFails field root e → SumFails field h.left h.faults e
    no_field e fails =
        record { header = h; from_left = refl; from_faults = refl; within = within; why = inr (record { root = root; marker = marker; count = count; reads = reads; why = inl fails }) }

    pub no_rows : (fields : List Field) (p : Projected) (k : List ℕ) (projection : List Bool) (old new : State) (result : Result ℤ Error)
        → p ≡ projected fields (out-Record root).fields projection → projection ≡ only field (length (out-Record root).fields) → k ≡ marker → old ≡ state h.left_after h.faults_after (h.limit - count) None
        → IfErr result (StopsAtBlock p k old new) → IfErr result (SumFails field h.left h.faults)
    no_rows fields p k projection old new (Ok total) is one same from stops = tt
    no_rows fields p k projection old new (Err e) is one same from stops =
        let q : Projected = projected fields (out-Record root).fields (only field (length (out-Record root).fields)) in
        let at : State = state h.left_after h.faults_after (h.limit - count) None in
        let kept : p ≡ q = is ∙ ap (projected fields (out-Record root).fields) one in
        let one_p : StopsAtBlock q k old new e = subst (λ (z : Projected). StopsAtBlock z k old new e) kept stops in
        let one_k : StopsAtBlock q marker old new e = subst (λ (z : List ℕ). StopsAtBlock q z old new e) same one_p in
        let here : StopsAtBlock q marker at new e = subst (λ (z : State). StopsAtBlock q marker z new e) from one_k in
        record { header = h; from_left = refl; from_faults = refl; within = within; why = inr (record { root = root; marker = marker; count = count; reads = reads; why = inr (fields, new, here) }) }
