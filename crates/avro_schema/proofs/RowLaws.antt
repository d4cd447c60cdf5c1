-- Rows: their pieces are told by the bytes, they are rows under each narrower projection, and they do
-- not break off.
use Rattle.std.proofs.Common.{◌≡◌, ℕ, zero, suc, ◌<◌, Bool, true, false, List, [], ◌∷◌, ◌++◌, map, refl, sym, ◌∙◌, ap, inl, inr, arith, ◌+◌, ◌≤◌, length-append, length}
use Rattle.std.proofs.lemmas.List.Elements.{recursion_from_All}
use Rattle.std.proofs.lemmas.List.{append_cancel_left, append_assoc, append-nil}
use Rattle.arrow_core.specs.declared.slot.Slot.{Slot}
use Rattle.avro_schema.specs.declared.schema.AvroField.{AvroField}
use Rattle.avro_schema.specs.Parts.{Grammar, Measured, Many}
use Rattle.avro_schema.specs.Encodes.{Encodes}
use Rattle.avro_schema.specs.Skips.{Passed, Skips}
use Rattle.avro_schema.specs.Rows.{Pieces, no_pieces, with_kept, with_skipped, Row, Rows}
use Rattle.avro_schema.specs.Laws.{KeepsNoMore, narrowed}
use Rattle.avro_schema.specs.NegativeSize.{BrokenRow, NegativeSize}
use Rattle.avro_schema.proofs.WholePrefixes.{Reads, then_reads, measured_reads, many_reads}
use Rattle.avro_schema.proofs.Encoded.{encodes_reads}
use Rattle.avro_schema.proofs.Skipped.{skips_reads}
use Rattle.avro_schema.proofs.Passes.{encodes_over}
use Rattle.avro_schema.specs.Carried.{Carried, CarriedList}
use Rattle.avro_schema.proofs.Bytes.{prefix_has, skips_have, encodes_have}
use Rattle.avro_schema.proofs.NeverWhole.{Excludes, broken_excludes}

-- ---- one table

pub row_reads : (fs : List AvroField) (keeps : List Bool) → Reads (Row fs keeps)
row_reads [] [] a b x y v w p q e = (p.0 ∙ sym q.0, p.1 ∙ sym q.1)
row_reads [] (k ∷ keeps) a b x y v w p q e = absurd p
row_reads (f ∷ fs) [] a b x y v w p q e = absurd p
row_reads (f ∷ fs) (true ∷ keeps) a b x y v w p q e =
    then_reads (Measured (Encodes f.schema)) (λ x back z. (more : Pieces) × (z ≡ with_kept x more) × Row fs keeps back more) (measured_reads (Encodes f.schema) (encodes_reads f.schema))
    (λ z a b x y v w p q e.
    let same : (a ≡ b) × (p.0 ≡ q.0) = row_reads fs keeps a b x y p.0 q.0 p.2 q.2 e in
    (same.0, p.1 ∙ ap (with_kept z) same.1 ∙ sym q.1))
    a b x y v w p q e
row_reads (f ∷ fs) (false ∷ keeps) a b x y v w p q e =
    then_reads (Skips f.schema) (λ p back z. (more : Pieces) × (z ≡ with_skipped p more) × Row fs keeps back more) (skips_reads f.schema)
    (λ z a b x y v w p q e.
    let same : (a ≡ b) × (p.0 ≡ q.0) = row_reads fs keeps a b x y p.0 q.0 p.2 q.2 e in
    (same.0, p.1 ∙ ap (with_skipped z) same.1 ∙ sym q.1))
    a b x y v w p q e

-- the pieces are told by the bytes
pub same_pieces : (n : ℕ) (fs : List AvroField) (keeps : List Bool) (bytes : List ℕ) (v w : List Pieces) → Many (Row fs keeps) n bytes v → Many (Row fs keeps) n bytes w → v ≡ w
same_pieces n fs keeps bytes v w p q = (many_reads (Row fs keeps) (row_reads fs keeps) n bytes bytes [] [] v w p q refl).1

pub same_table : (n : ℕ) (fs : List AvroField) (keeps : List Bool) (bytes : List ℕ) (t u : List (List Slot)) → Rows n fs keeps bytes t → Rows n fs keeps bytes u → t ≡ u
same_table n fs keeps bytes t u p q =
    p.told ∙ ap (map (λ (row : Pieces). row.slots)) (same_pieces n fs keeps bytes p.pieces q.pieces p.encoded q.encoded) ∙ sym q.told

-- ---- a narrower projection

row_narrower : (fs : List AvroField) (wide narrow : List Bool) → KeepsNoMore wide narrow → (bytes : List ℕ) (y : Pieces) → Row fs wide bytes y → (z : Pieces) × Row fs narrow bytes z × (z.slots ≡ narrowed wide narrow y.slots)
row_narrower [] [] [] k bytes y h = (no_pieces, (h.0, refl), refl)
row_narrower [] [] (m ∷ narrow) k bytes y h = absurd k
row_narrower [] (l ∷ wide) narrow k bytes y h = absurd h
row_narrower (f ∷ fs) [] narrow k bytes y h = absurd h
row_narrower (f ∷ fs) (true ∷ wide) [] k bytes y h = absurd k
row_narrower (f ∷ fs) (false ∷ wide) [] k bytes y h = absurd k
row_narrower (f ∷ fs) (true ∷ wide) (true ∷ narrow) k bytes y h =
    let more : (z : Pieces) × Row fs narrow h.back z × (z.slots ≡ narrowed wide narrow h.second.0.slots) = row_narrower fs wide narrow k h.back h.second.0 h.second.2 in (
      with_kept h.value more.0,
      record { prefix = h.prefix; back = h.back; joined = h.joined; value = h.value; first = h.first; second = (more.0, refl, more.1) },
      ap (λ z. h.value.0 ∷ z) more.2 ∙ sym (ap (λ (z : Pieces). narrowed (true ∷ wide) (true ∷ narrow) z.slots) h.second.1),
    )
row_narrower (f ∷ fs) (true ∷ wide) (false ∷ narrow) k bytes y h =
    let more : (z : Pieces) × Row fs narrow h.back z × (z.slots ≡ narrowed wide narrow h.second.0.slots) = row_narrower fs wide narrow k h.back h.second.0 h.second.2 in
    let here : (p : Passed) × Skips f.schema h.prefix p = encodes_over f.schema h.prefix h.value.0 h.first.0 in (
      with_skipped here.0 more.0,
      record { prefix = h.prefix; back = h.back; joined = h.joined; value = here.0; first = here.1; second = (more.0, refl, more.1) },
      more.2 ∙ sym (ap (λ (z : Pieces). narrowed (true ∷ wide) (false ∷ narrow) z.slots) h.second.1),
    )
row_narrower (f ∷ fs) (false ∷ wide) (true ∷ narrow) k bytes y h = absurd k
row_narrower (f ∷ fs) (false ∷ wide) (false ∷ narrow) k bytes y h =
    let more : (z : Pieces) × Row fs narrow h.back z × (z.slots ≡ narrowed wide narrow h.second.0.slots) = row_narrower fs wide narrow k h.back h.second.0 h.second.2 in (
      with_skipped h.value more.0,
      record { prefix = h.prefix; back = h.back; joined = h.joined; value = h.value; first = h.first; second = (more.0, refl, more.1) },
      more.2 ∙ sym (ap (λ (z : Pieces). narrowed (false ∷ wide) (false ∷ narrow) z.slots) h.second.1),
    )

abbrev slots_of : List Pieces → List (List Slot)
slots_of = map (λ (row : Pieces). row.slots)

rows_narrower : (fs : List AvroField) (wide narrow : List Bool) → KeepsNoMore wide narrow → (n : ℕ) (bytes : List ℕ) (ys : List Pieces) → Many (Row fs wide) n bytes ys → (zs : List Pieces) × Many (Row fs narrow) n bytes zs × (slots_of zs ≡ map (narrowed wide narrow) (slots_of ys))
rows_narrower fs wide narrow k zero bytes ys h = ([], (h.0, refl), sym (ap (λ z. map (narrowed wide narrow) (slots_of z)) h.1))
rows_narrower fs wide narrow k (suc n) bytes ys h =
    let one : (z : Pieces) × Row fs narrow h.prefix z × (z.slots ≡ narrowed wide narrow h.value.slots) = row_narrower fs wide narrow k h.prefix h.value h.first in
    let rest : (zs : List Pieces) × Many (Row fs narrow) n h.back zs × (slots_of zs ≡ map (narrowed wide narrow) (slots_of h.second.0)) = rows_narrower fs wide narrow k n h.back h.second.0 h.second.2 in (
      one.0 ∷ rest.0,
      record { prefix = h.prefix; back = h.back; joined = h.joined; value = one.0; first = one.1; second = (rest.0, refl, rest.1) },
      (λ i. one.2 i ∷ rest.2 i) ∙ sym (ap (λ z. map (narrowed wide narrow) (slots_of z)) h.second.1),
    )

pub narrower : (n : ℕ) (fs : List AvroField) (wide narrow : List Bool) (bytes : List ℕ) (t : List (List Slot)) → KeepsNoMore wide narrow → Rows n fs wide bytes t → Rows n fs narrow bytes (map (narrowed wide narrow) t)
narrower n fs wide narrow bytes t k h =
    let all : (zs : List Pieces) × Many (Row fs narrow) n bytes zs × (slots_of zs ≡ map (narrowed wide narrow) (slots_of h.pieces)) = rows_narrower fs wide narrow k n bytes h.pieces h.encoded in
    record { pieces = all.0; encoded = all.1; told = ap (map (narrowed wide narrow)) h.told ∙ sym all.2 }

-- ---- rows or a size below 0

many_exclude : {A : Type 0} (P : Grammar A) (B : List ℕ → Type 0) → Reads P → Excludes B P → (m n : ℕ) (items rest i z : List ℕ) (xs ys : List A) → m < n → Many P m items xs → B rest → Many P n i ys → items ++ rest ≡ i ++ z → ⊥
many_exclude P B reads excludes m zero items rest i z xs ys l h b k e = absurd (omega (arith, l))
many_exclude P B reads excludes zero (suc n) items rest i z xs ys l h b k e =
    excludes rest k.prefix (k.back ++ z) k.value b k.first
    (ap (λ w. w ++ rest) (sym h.0) ∙ e ∙ ap (λ w. w ++ z) k.joined ∙ append_assoc k.prefix k.back z)
many_exclude P B reads excludes (suc m) (suc n) items rest i z xs ys l h b k e =
    let e1 : h.prefix ++ (h.back ++ rest) ≡ k.prefix ++ (k.back ++ z) =
    sym (append_assoc h.prefix h.back rest) ∙ ap (λ w. w ++ rest) (sym h.joined) ∙ e ∙ ap (λ w. w ++ z) k.joined ∙ append_assoc k.prefix k.back z in
    let one : (h.prefix ≡ k.prefix) × (h.value ≡ k.value) = reads h.prefix k.prefix (h.back ++ rest) (k.back ++ z) h.value k.value h.first k.first e1 in
    let e2 : h.back ++ rest ≡ k.back ++ z = append_cancel_left k.prefix _ _ (ap (λ w. w ++ (h.back ++ rest)) (sym one.0) ∙ e1) in
    many_exclude P B reads excludes m n h.back rest k.back z h.second.0 k.second.0 (omega (arith, l)) h.second.2 b k.second.2 e2

pub broken_row_excludes : (fs : List AvroField) (keeps : List Bool) → Excludes (BrokenRow fs keeps) (Row fs keeps)
broken_row_excludes [] keeps bytes prefix back p h k e = h
broken_row_excludes (f ∷ fs) [] bytes prefix back p h k e = h
broken_row_excludes (f ∷ fs) (true ∷ keeps) bytes prefix back p h k e =
    let e1 : h.0 ++ h.1 ≡ k.prefix ++ (k.back ++ back) = sym h.2 ∙ e ∙ ap (λ z. z ++ back) k.joined ∙ append_assoc k.prefix k.back back in
    let one : (h.0 ≡ k.prefix) × (h.3 ≡ k.value.0) = encodes_reads f.schema h.0 k.prefix h.1 (k.back ++ back) h.3 k.value.0 h.4 k.first.0 e1 in
    let e2 : h.1 ≡ k.back ++ back = append_cancel_left k.prefix _ _ (ap (λ z. z ++ h.1) (sym one.0) ∙ e1) in
    broken_row_excludes fs keeps h.1 k.back back k.second.0 h.5 k.second.2 e2
broken_row_excludes (f ∷ fs) (false ∷ keeps) bytes prefix back p (inl h) k e =
    broken_excludes f.schema bytes k.prefix (k.back ++ back) k.value h k.first (e ∙ ap (λ z. z ++ back) k.joined ∙ append_assoc k.prefix k.back back)
broken_row_excludes (f ∷ fs) (false ∷ keeps) bytes prefix back p (inr h) k e =
    let e1 : h.0 ++ h.1 ≡ k.prefix ++ (k.back ++ back) = sym h.2 ∙ e ∙ ap (λ z. z ++ back) k.joined ∙ append_assoc k.prefix k.back back in
    let one : (h.0 ≡ k.prefix) × (h.3 ≡ k.value) = skips_reads f.schema h.0 k.prefix h.1 (k.back ++ back) h.3 k.value h.4 k.first e1 in
    let e2 : h.1 ≡ k.back ++ back = append_cancel_left k.prefix _ _ (ap (λ z. z ++ h.1) (sym one.0) ∙ e1) in
    broken_row_excludes fs keeps h.1 k.back back k.second.0 h.5 k.second.2 e2

pub rows_exclude : (n : ℕ) (fs : List AvroField) (keeps : List Bool) (bytes : List ℕ) (t : List (List Slot)) → Rows n fs keeps bytes t → NegativeSize n fs keeps bytes → ⊥
rows_exclude n fs keeps bytes t h k =
    many_exclude (Row fs keeps) (BrokenRow fs keeps) (row_reads fs keeps) (broken_row_excludes fs keeps) k.whole n k.prefix k.back bytes [] k.pieces h.pieces k.fewer k.rows k.broken h.encoded
    (sym k.joined ∙ sym (append-nil bytes))

-- ---- rows have bytes

row_has : (f : AvroField) (fs : List AvroField) (keeps : List Bool) (bytes : List ℕ) (y : Pieces) → Carried f.schema → Row (f ∷ fs) keeps bytes y → 0 < length bytes
row_has f fs [] bytes y c h = absurd h
row_has f fs (true ∷ keeps) bytes y c h = prefix_has bytes h.prefix h.back h.joined (encodes_have f.schema h.prefix h.value.0 c h.first.0)
row_has f fs (false ∷ keeps) bytes y c h = prefix_has bytes h.prefix h.back h.joined (skips_have f.schema h.prefix h.value c h.first)

many_have : (n : ℕ) (f : AvroField) (fs : List AvroField) (keeps : List Bool) (bytes : List ℕ) (ys : List Pieces) → Carried f.schema → Many (Row (f ∷ fs) keeps) n bytes ys → n ≤ length bytes
many_have zero f fs keeps bytes ys c h = omega arith
many_have (suc n) f fs keeps bytes ys c h =
    let l : length bytes ≡ length h.prefix + length h.back = ap length h.joined ∙ length-append h.prefix h.back in
    let one : 0 < length h.prefix = row_has f fs keeps h.prefix h.value c h.first in
    let rest : n ≤ length h.back = many_have n f fs keeps h.back h.second.0 c h.second.2 in
    omega (arith, l, one, rest)

pub rows_have : (n : ℕ) (fs : List AvroField) (keeps : List Bool) (bytes : List ℕ) (t : List (List Slot)) → 0 < length fs → CarriedList fs → Rows n fs keeps bytes t → n ≤ length bytes
rows_have n [] keeps bytes t some c h = absurd (omega (arith, some))
rows_have n (f ∷ fs) keeps bytes t some c h = many_have n f fs keeps bytes h.pieces (recursion_from_All (λ x. Carried x.schema) (f ∷ fs) c).0 h.encoded
