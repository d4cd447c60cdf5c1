-- Rows and blocks are read exactly where the bytes are rows, and the answer is Negative exactly where
-- they break off at a size below 0.
use Rattle.std.proofs.Common.{◌≡◌, ℕ, zero, suc, ◌+◌, ◌-◌, ◌<◌, ◌≤◌, Bool, true, false, cond, eqb, ltb, List, [], ◌∷◌, ◌++◌, length, Result, Ok, Err, refl, sym, ◌∙◌, ap, subst, inl, inr, length-append, append_assoc, arith}
use Rattle.std.proofs.lemmas.Bool.{ltb-false, le-ltb, eqb-true}
use Rattle.std.proofs.lemmas.List.{append-nil}
use Rattle.arrow_core.specs.declared.slot.Slot.{Slot}
use Rattle.avro_schema.specs.declared.schema.AvroField.{AvroField}
use Rattle.avro_schema.specs.Parts.{Many}
use Rattle.avro_schema.specs.Skips.{Passed, both}
use Rattle.avro_schema.specs.Rows.{Pieces, no_pieces, with_kept, with_skipped, Row}
use Rattle.avro_schema.specs.NegativeSize.{BrokenRow, NegativeSize}
use Rattle.avro_reference.specs.Read.{read}
use Rattle.avro_reference.specs.Skip.{◌>>=◌, Fault, Bad, Negative, or_bad, skip}
use Rattle.avro_reference.specs.Block.{add_kept, add_skipped, row_after, row, rows_after, rows, block}
use Rattle.avro_reference.proofs.Prefixes.{joined_up, split_up}
use Rattle.avro_reference.proofs.Values.{read_sound, read_complete}
use Rattle.avro_reference.proofs.SkippedValues.{skip_sound, skip_complete, skip_breaks, skip_broke}
use Rattle.avro_reference.proofs.Parsers.{Sound, Complete, Breaks, Broke, bad-ok, ok-negative, bad-negative, ok_pair_parts, bind_ok, bind_negative, or_bad_ok, or_bad_never, both_assoc, both-nothing, nothing-both}

-- ---- pieces after older ones

abbrev pub joined : Pieces → Pieces → Pieces
joined old more = record { slots = old.slots ++ more.slots; kept = old.kept + more.kept; passed = both old.passed more.passed }

same : (a b : Pieces) → a.slots ≡ b.slots → a.kept ≡ b.kept → a.passed ≡ b.passed → a ≡ b
same a b s k p = λ i. record { slots = s i; kept = k i; passed = p i }

joined-nothing : (old : Pieces) → joined old no_pieces ≡ old
joined-nothing old = same (joined old no_pieces) old (append-nil old.slots) (omega arith) (both-nothing old.passed)

pub nothing-joined : (y : Pieces) → joined no_pieces y ≡ y
nothing-joined y = same (joined no_pieces y) y refl (omega arith) (nothing-both y.passed)

joined-kept : (old : Pieces) (x : Slot × ℕ) (more : Pieces) → joined (add_kept old x) more ≡ joined old (with_kept x more)
joined-kept old x more =
    same (joined (add_kept old x) more) (joined old (with_kept x more)) (append_assoc old.slots (x.0 ∷ []) more.slots) (omega arith) refl

joined-skipped : (old : Pieces) (p : Passed) (more : Pieces) → joined (add_skipped old p) more ≡ joined old (with_skipped p more)
joined-skipped old p more =
    same (joined (add_skipped old p) more) (joined old (with_skipped p more)) refl refl (both_assoc old.passed p more.passed)

passed_size : (bytes prefix r : List ℕ) → bytes ≡ prefix ++ r → length bytes - length r ≡ length prefix
passed_size bytes prefix r e =
    let l : length bytes ≡ length prefix + length r = ap length e ∙ length-append prefix r in omega (arith, l)

-- ---- one row

row_sound_after : (fs : List AvroField) (keeps : List Bool) (old all : Pieces) (bytes r : List ℕ) → row_after old fs keeps bytes ≡ Ok (all, r) → (prefix : List ℕ) × (y : Pieces) × Row fs keeps prefix y × (all ≡ joined old y) × (bytes ≡ prefix ++ r)
unfolding row_after
row_sound_after [] [] old all bytes r e =
    let p = ok_pair_parts old all bytes r e in ([], no_pieces, (refl, refl), sym p.0 ∙ sym (joined-nothing old), p.1)
row_sound_after [] (k ∷ keeps) old all bytes r e = absurd (bad-ok (all, r) e)
row_sound_after (f ∷ fs) [] old all bytes r e = absurd (bad-ok (all, r) e)
row_sound_after (f ∷ fs) (true ∷ keeps) old all bytes r e =
    let b = bind_ok (or_bad (read f.schema bytes)) (λ x. row_after (add_kept old (x.0, length bytes - length x.1)) fs keeps x.1) (all, r) e in
    let one = read_sound f.schema bytes b.0.1 b.0.0 (or_bad_ok (read f.schema bytes) b.0 b.1) in
    let size = passed_size bytes one.0 b.0.1 one.2 in
    let x : Slot × ℕ = (b.0.0, length bytes - length b.0.1) in
    let more = row_sound_after fs keeps (add_kept old x) all b.0.1 r b.2 in (
      one.0 ++ more.0,
      with_kept x more.1,
      record { prefix = one.0; back = more.0; joined = refl; value = x; first = (one.1, size); second = (more.1, refl, more.2) },
      more.3 ∙ joined-kept old x more.1,
      split_up bytes one.0 more.0 r b.0.1 one.2 more.4,
    )
row_sound_after (f ∷ fs) (false ∷ keeps) old all bytes r e =
    let b = bind_ok (skip f.schema bytes) (λ p. row_after (add_skipped old p.0) fs keeps p.1) (all, r) e in
    let one = skip_sound f.schema bytes b.0.1 b.0.0 b.1 in
    let more = row_sound_after fs keeps (add_skipped old b.0.0) all b.0.1 r b.2 in (
      one.0 ++ more.0,
      with_skipped b.0.0 more.1,
      record { prefix = one.0; back = more.0; joined = refl; value = b.0.0; first = one.1; second = (more.1, refl, more.2) },
      more.3 ∙ joined-skipped old b.0.0 more.1,
      split_up bytes one.0 more.0 r b.0.1 one.2 more.4,
    )

row_complete_after : (fs : List AvroField) (keeps : List Bool) (old y : Pieces) (prefix r : List ℕ) → Row fs keeps prefix y → row_after old fs keeps (prefix ++ r) ≡ Ok (joined old y, r)
unfolding row_after or_bad
row_complete_after [] [] old y prefix r h = rw (h.0, h.1, joined-nothing old) refl
row_complete_after [] (k ∷ keeps) old y prefix r h = absurd h
row_complete_after (f ∷ fs) [] old y prefix r h = absurd h
row_complete_after (f ∷ fs) (true ∷ keeps) old y prefix r h =
    let one = read_complete f.schema h.prefix (h.back ++ r) h.value.0 h.first.0 in
    let size : length (h.prefix ++ (h.back ++ r)) - length (h.back ++ r) ≡ h.value.1 = passed_size _ h.prefix (h.back ++ r) refl ∙ sym h.first.1 in
    let more = row_complete_after fs keeps (add_kept old h.value) h.second.0 h.back r h.second.2 in
    rw (joined_up prefix h.prefix h.back r h.joined, one, size, h.second.1)
    (more ∙ ap (λ (z : Pieces). Ok (z, r)) (joined-kept old h.value h.second.0))
row_complete_after (f ∷ fs) (false ∷ keeps) old y prefix r h =
    let one = skip_complete f.schema h.prefix (h.back ++ r) h.value h.first in
    let more = row_complete_after fs keeps (add_skipped old h.value) h.second.0 h.back r h.second.2 in
    rw (joined_up prefix h.prefix h.back r h.joined, one, h.second.1)
    (more ∙ ap (λ (z : Pieces). Ok (z, r)) (joined-skipped old h.value h.second.0))

pub row_sound : (fs : List AvroField) (keeps : List Bool) → Sound (row fs keeps) (Row fs keeps)
row_sound fs keeps bytes r y e =
    let k = row_sound_after fs keeps no_pieces y bytes r e in
    (k.0, subst (Row fs keeps k.0) (sym (k.3 ∙ nothing-joined k.1)) k.2, k.4)

pub row_complete : (fs : List AvroField) (keeps : List Bool) → Complete (row fs keeps) (Row fs keeps)
row_complete fs keeps prefix r y h = row_complete_after fs keeps no_pieces y prefix r h ∙ ap (λ (z : Pieces). Ok (z, r)) (nothing-joined y)

pub row_breaks : (fs : List AvroField) (keeps : List Bool) (old : Pieces) → Breaks (row_after old fs keeps) (BrokenRow fs keeps)
unfolding row_after
row_breaks [] [] old bytes e = absurd (ok-negative _ e)
row_breaks [] (k ∷ keeps) old bytes e = absurd (bad-negative e)
row_breaks (f ∷ fs) [] old bytes e = absurd (bad-negative e)
row_breaks (f ∷ fs) (true ∷ keeps) old bytes e =
    elim (bind_negative (or_bad (read f.schema bytes)) (λ x. row_after (add_kept old (x.0, length bytes - length x.1)) fs keeps x.1) e) [
      | inl here ↦ absurd (or_bad_never (read f.schema bytes) here)
      | inr there ↦
          let one = read_sound f.schema bytes there.0.1 there.0.0 (or_bad_ok (read f.schema bytes) there.0 there.1) in
          (one.0, there.0.1, one.2, there.0.0, one.1, row_breaks fs keeps (add_kept old (there.0.0, length bytes - length there.0.1)) there.0.1 there.2)
    ]
row_breaks (f ∷ fs) (false ∷ keeps) old bytes e =
    elim (bind_negative (skip f.schema bytes) (λ p. row_after (add_skipped old p.0) fs keeps p.1) e) [
      | inl here ↦ inl (skip_breaks f.schema bytes here)
      | inr there ↦
          let one = skip_sound f.schema bytes there.0.1 there.0.0 there.1 in
          inr (one.0, there.0.1, one.2, there.0.0, one.1, row_breaks fs keeps (add_skipped old there.0.0) there.0.1 there.2)
    ]

pub row_broke : (fs : List AvroField) (keeps : List Bool) (old : Pieces) → Broke (row_after old fs keeps) (BrokenRow fs keeps)
unfolding row_after or_bad
row_broke [] keeps old bytes b = absurd b
row_broke (f ∷ fs) [] old bytes b = absurd b
row_broke (f ∷ fs) (true ∷ keeps) old bytes b =
    rw (b.2, read_complete f.schema b.0 b.1 b.3 b.4) (row_broke fs keeps (add_kept old (b.3, length (b.0 ++ b.1) - length b.1)) b.1 b.5)
row_broke (f ∷ fs) (false ∷ keeps) old bytes (inl b) = rw (skip_broke f.schema bytes b) refl
row_broke (f ∷ fs) (false ∷ keeps) old bytes (inr b) =
    rw (b.2, skip_complete f.schema b.0 b.1 b.3 b.4) (row_broke fs keeps (add_skipped old b.3) b.1 b.5)

-- ---- n rows

rows_sound : (n : ℕ) (fs : List AvroField) (keeps : List Bool) (old all : List Pieces) (bytes r : List ℕ) → rows_after old n fs keeps bytes ≡ Ok (all, r) → (prefix : List ℕ) × (ys : List Pieces) × Many (Row fs keeps) n prefix ys × (all ≡ old ++ ys) × (bytes ≡ prefix ++ r)
unfolding rows_after
rows_sound zero fs keeps old all bytes r e =
    let p = ok_pair_parts old all bytes r e in ([], [], (refl, refl), sym p.0 ∙ sym (append-nil old), p.1)
rows_sound (suc n) fs keeps old all bytes r e =
    let b = bind_ok (row fs keeps bytes) (λ y. rows_after (old ++ y.0 ∷ []) n fs keeps y.1) (all, r) e in
    let one = row_sound fs keeps bytes b.0.1 b.0.0 b.1 in
    let more = rows_sound n fs keeps (old ++ b.0.0 ∷ []) all b.0.1 r b.2 in (
      one.0 ++ more.0,
      b.0.0 ∷ more.1,
      record { prefix = one.0; back = more.0; joined = refl; value = b.0.0; first = one.1; second = (more.1, refl, more.2) },
      more.3 ∙ append_assoc old (b.0.0 ∷ []) more.1,
      split_up bytes one.0 more.0 r b.0.1 one.2 more.4,
    )

rows_complete : (n : ℕ) (fs : List AvroField) (keeps : List Bool) (old ys : List Pieces) (prefix r : List ℕ) → Many (Row fs keeps) n prefix ys → rows_after old n fs keeps (prefix ++ r) ≡ Ok (old ++ ys, r)
unfolding rows_after
rows_complete zero fs keeps old ys prefix r h = rw (h.0, h.1, append-nil old) refl
rows_complete (suc n) fs keeps old ys prefix r h =
    let one = row_complete fs keeps h.prefix (h.back ++ r) h.value h.first in
    let more = rows_complete n fs keeps (old ++ h.value ∷ []) h.second.0 h.back r h.second.2 in
    rw (joined_up prefix h.prefix h.back r h.joined, one, h.second.1)
    (more ∙ ap (λ (z : List Pieces). Ok (z, r)) (append_assoc old (h.value ∷ []) h.second.0))

-- fewer than n rows, and then a broken one
record Stopped (n : ℕ) (fs : List AvroField) (keeps : List Bool) (bytes : List ℕ) : Type 0 where
  whole : ℕ
  fewer : whole < n
  prefix : List ℕ
  back : List ℕ
  split : bytes ≡ prefix ++ back
  pieces : List Pieces
  read : Many (Row fs keeps) whole prefix pieces
  broken : BrokenRow fs keeps back

rows_break : (n : ℕ) (fs : List AvroField) (keeps : List Bool) (old : List Pieces) (bytes : List ℕ) → rows_after old n fs keeps bytes ≡ Err Negative → Stopped n fs keeps bytes
unfolding rows_after
rows_break zero fs keeps old bytes e = absurd (ok-negative _ e)
rows_break (suc n) fs keeps old bytes e =
    elim (bind_negative (row fs keeps bytes) (λ y. rows_after (old ++ y.0 ∷ []) n fs keeps y.1) e) [
      | inl here ↦ record { whole = 0; fewer = omega arith; prefix = []; back = bytes; split = refl; pieces = []; read = (refl, refl); broken = row_breaks fs keeps no_pieces bytes here }
      | inr there ↦
          let one = row_sound fs keeps bytes there.0.1 there.0.0 there.1 in
          let more = rows_break n fs keeps (old ++ there.0.0 ∷ []) there.0.1 there.2 in
          record {
            whole = suc more.whole;
            fewer = let below = more.fewer in omega (arith, below);
            prefix = one.0 ++ more.prefix;
            back = more.back;
            split = split_up bytes one.0 more.prefix more.back there.0.1 one.2 more.split;
            pieces = there.0.0 ∷ more.pieces;
            read = record { prefix = one.0; back = more.prefix; joined = refl; value = there.0.0; first = one.1; second = (more.pieces, refl, more.read) };
            broken = more.broken;
          }
    ]

rows_broke : (m n : ℕ) (fs : List AvroField) (keeps : List Bool) (old : List Pieces) (prefix back : List ℕ) (ys : List Pieces) → m < n → Many (Row fs keeps) m prefix ys → BrokenRow fs keeps back → rows_after old n fs keeps (prefix ++ back) ≡ Err Negative
unfolding rows_after
rows_broke m zero fs keeps old prefix back ys l h b = absurd (omega (arith, l))
rows_broke zero (suc n) fs keeps old prefix back ys l h b = rw (h.0, row_broke fs keeps no_pieces back b) refl
rows_broke (suc m) (suc n) fs keeps old prefix back ys l h b =
    let one = row_complete fs keeps h.prefix (h.back ++ back) h.value h.first in
    rw (joined_up prefix h.prefix h.back back h.joined, one)
    (rows_broke m n fs keeps (old ++ h.value ∷ []) h.back back h.second.0 (omega (arith, l)) h.second.2 b)

-- ---- a block

empty_is : (bytes : List ℕ) → eqb (length bytes) 0 ≡ true → bytes ≡ []
empty_is [] e = refl
empty_is (b ∷ bytes) e = let z = eqb-true (suc (length bytes)) 0 e in absurd (omega (arith, z))

-- the rest must be empty
abbrev ended : List Pieces × List ℕ → Result (List Pieces) Fault
ended ys = cond (eqb (length ys.1) 0) (Ok ys.0) (Err Bad)

ended_ok : (ys : List Pieces × List ℕ) (all : List Pieces) → ended ys ≡ Ok all → (ys.0 ≡ all) × (ys.1 ≡ [])
ended_ok ys all e = tested (eqb (length ys.1) 0) refl e
  where
    tested : (t : Bool) → eqb (length ys.1) 0 ≡ t → cond t (Ok ys.0) (Err Bad) ≡ Ok all → (ys.0 ≡ all) × (ys.1 ≡ [])
    tested true q h = (cc, empty_is ys.1 q)
    tested false q h = absurd (bad-ok all h)

ended_never : (ys : List Pieces × List ℕ) → ended ys ≡ Err Negative → ⊥
ended_never ys e = tested (eqb (length ys.1) 0) e
  where
    tested : (t : Bool) → cond t (Ok ys.0) (Err Bad) ≡ Err Negative → ⊥
    tested true h = ok-negative _ h
    tested false h = bad-negative h

-- which way the test of the number of rows went
counted_ok : {A : Type 0} (b : Bool) (x : Result A Fault) (y : A) → cond b (Err Bad) x ≡ Ok y → (b ≡ false) × (x ≡ Ok y)
counted_ok true x y e = absurd (bad-ok y e)
counted_ok false x y e = (refl, e)

counted_negative : {A : Type 0} (b : Bool) (x : Result A Fault) → cond b (Err Bad) x ≡ Err Negative → (b ≡ false) × (x ≡ Err Negative)
counted_negative true x e = absurd (bad-negative e)
counted_negative false x e = (refl, e)

pub block_sound : (n : ℕ) (fs : List AvroField) (keeps : List Bool) (bytes : List ℕ) (ys : List Pieces) → block n fs keeps bytes ≡ Ok ys → (n ≤ length bytes) × Many (Row fs keeps) n bytes ys
unfolding block
block_sound n fs keeps bytes ys e =
    let c = counted_ok (ltb (length bytes) n) (rows n fs keeps bytes >>= ended) ys e in
    let b = bind_ok (rows n fs keeps bytes) ended ys c.1 in
    let d = ended_ok b.0 ys b.2 in
    let k = rows_sound n fs keeps [] b.0.0 bytes b.0.1 b.1 in
    let whole : bytes ≡ k.0 = k.4 ∙ ap (λ (z : List ℕ). k.0 ++ z) d.1 ∙ append-nil k.0 in
    (ltb-false (length bytes) n c.0, subst (λ (z : List ℕ). Many (Row fs keeps) n z ys) (sym whole) (subst (Many (Row fs keeps) n k.0) (sym k.3 ∙ d.0) k.2))

pub block_complete : (n : ℕ) (fs : List AvroField) (keeps : List Bool) (bytes : List ℕ) (ys : List Pieces) → n ≤ length bytes → Many (Row fs keeps) n bytes ys → block n fs keeps bytes ≡ Ok ys
unfolding block
block_complete n fs keeps bytes ys l h =
    let all : rows n fs keeps bytes ≡ Ok (ys, []) = ap (rows n fs keeps) (sym (append-nil bytes)) ∙ rows_complete n fs keeps [] ys bytes [] h in
    rw (le-ltb (length bytes) n l, all) refl

pub block_breaks : (n : ℕ) (fs : List AvroField) (keeps : List Bool) (bytes : List ℕ) → block n fs keeps bytes ≡ Err Negative → NegativeSize n fs keeps bytes
unfolding block
block_breaks n fs keeps bytes e =
    let c = counted_negative (ltb (length bytes) n) (rows n fs keeps bytes >>= ended) e in
    elim (bind_negative (rows n fs keeps bytes) ended c.1) [
      | inl here ↦
          let k = rows_break n fs keeps [] bytes here in
          record { enough = ltb-false (length bytes) n c.0; whole = k.whole; fewer = k.fewer; prefix = k.prefix; back = k.back; joined = k.split; pieces = k.pieces; rows = k.read; broken = k.broken }
      | inr there ↦ absurd (ended_never there.0 there.2)
    ]

pub block_broke : (n : ℕ) (fs : List AvroField) (keeps : List Bool) (bytes : List ℕ) → NegativeSize n fs keeps bytes → block n fs keeps bytes ≡ Err Negative
unfolding block
block_broke n fs keeps bytes h =
    let all : rows n fs keeps bytes ≡ Err Negative = ap (rows n fs keeps) h.joined ∙ rows_broke h.whole n fs keeps [] h.prefix h.back h.pieces h.fewer h.rows h.broken in
    rw (le-ltb (length bytes) n h.enough, all) refl
