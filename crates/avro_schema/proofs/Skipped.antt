-- Under one schema one prefix of any bytes is skipped, with one count.
use Rattle.std.proofs.Common.{◌≡◌, ℕ, zero, suc, ◌<◌, ℤ, pos, negsuc, List, ◌++◌, length, sym, ◌∙◌, ap, subst, inl, inr}
use Rattle.std.proofs.lemmas.List.{append_cancel_left}
use Rattle.avro_schema.specs.declared.schema.Schema.{Schema, Null, Boolean, Int, Long, Float, Double, Bytes, String, Record, Enum, Array', Map', Union', Fixed, Row_of-Schema, end_of-Schema, more_of-Schema}
use Rattle.avro_schema.specs.declared.schema.Record.{Record as TheRecord, Record', Row_of-AvroField, end_of-AvroField, more_of-AvroField}
use Rattle.avro_schema.specs.Number.{Number}
use Rattle.avro_schema.specs.Parts.{Grammar, Measured}
use Rattle.avro_schema.specs.Encodes.{IsNull}
use Rattle.avro_schema.specs.Skips.{Passed, seen_only, both, SkipsNumber, SkipsRaw, SkipsSized, SkipsMany, SkipsBlockOf, SkipsBlocks, last, block, fixed_size, Skips, SkipsRecord, SkipsItem, SkipsMember, SkipsFields}
use Rattle.avro_schema.proofs.Prefixes.{same_length}
use Rattle.avro_schema.proofs.WholePrefixes.{Reads, number_reads, then_reads, measured_reads, apart, length_of}
use Rattle.avro_schema.proofs.Encoded.{pos_is}

skips_number_reads : Reads SkipsNumber
skips_number_reads a b x y v w p q e =
    let one : (a ≡ b) × (p.0 ≡ q.0) = number_reads a b x y p.0 q.0 p.1 q.1 e in
    (one.0, p.2 ∙ ap (λ z. seen_only (length z)) one.0 ∙ sym q.2)

skips_raw_reads : (n seen : ℕ) → Reads (SkipsRaw n seen)
skips_raw_reads n seen a b x y v w p q e = (same_length a b x y (p.0 ∙ sym q.0) e, p.1 ∙ sym q.1)

skips_sized_reads : Reads SkipsSized
skips_sized_reads =
    then_reads (Measured Number) (λ n back y. (n.0 ≡ pos (length back)) × (y ≡ seen_only n.1)) (measured_reads Number number_reads)
    (λ n a b x y v w p q e. (same_length a b x y (ap length_of (sym p.0 ∙ q.0)) e, p.1 ∙ sym q.1))

skips_many_reads : (P : Grammar Passed) → Reads P → (n : ℕ) → Reads (SkipsMany P n)
skips_many_reads P rp zero = λ a b x y v w p q e. (p.0 ∙ sym q.0, p.1 ∙ sym q.1)
skips_many_reads P rp (suc n) =
    then_reads P (λ p back z. (more : Passed) × (z ≡ both p more) × SkipsMany P n back more) rp
    (λ z a b x y v w p q e.
    let rest : (a ≡ b) × (p.0 ≡ q.0) = skips_many_reads P rp n a b x y p.0 q.0 p.2 q.2 e in
    (rest.0, p.1 ∙ ap (both z) rest.1 ∙ sym q.1))

pub skips_block_reads : (P : Grammar Passed) → Reads P → (c : ℤ) → Reads (SkipsBlockOf P c)
skips_block_reads P rp (pos zero) a b x y v w p q e = absurd p
skips_block_reads P rp (pos (suc n)) a b x y v w p q e = skips_many_reads P rp (suc n) a b x y v w p.1 q.1 e
skips_block_reads P rp (negsuc n) a b x y v w p q e =
    then_reads (Measured Number) (λ size back z. (size.0 ≡ pos (length back)) × (z ≡ record { seen = size.1; hidden = length back })) (measured_reads Number number_reads)
    (λ n a b x y v w p q e.
    let same : a ≡ b = same_length a b x y (ap length_of (sym p.0 ∙ q.0)) e in
    (same, p.1 ∙ ap (λ back. record { seen = n.1; hidden = length back }) same ∙ sym q.1))
    a b x y v w p.1 q.1 e

no_block : (P : Grammar Passed) (c : ℤ) (bytes : List ℕ) (y : Passed) → c ≡ pos 0 → SkipsBlockOf P c bytes y → ⊥
no_block P c bytes y e h = subst (λ z. SkipsBlockOf P z bytes y) e h

skips_blocks_read : (P : Grammar Passed) → Reads P → Reads (SkipsBlocks P)
skips_blocks_read P rp a b x y v w (last p) (last q) e =
    let same : a ≡ b = (number_reads a b x y _ _ p q e).0 in (same, ap (λ z. seen_only (length z)) same)
skips_blocks_read P rp a b x y v w (last p) (block f i r c s t n k m) e =
    absurd (no_block P c i s (sym (number_reads a f x (i ++ (r ++ y)) _ _ p n (e ∙ apart f i r y)).1) k)
skips_blocks_read P rp a b x y v w (block f i r c s t n k m) (last q) e =
    absurd (no_block P c i s (number_reads f b (i ++ (r ++ x)) y _ _ n q (sym (apart f i r x) ∙ e)).1 k)
skips_blocks_read P rp a b x y v w (block f i r c s t n k m) (block f' i' r' c' s' t' n' k' m') e =
    let e1 : f ++ (i ++ (r ++ x)) ≡ f' ++ (i' ++ (r' ++ y)) = sym (apart f i r x) ∙ e ∙ apart f' i' r' y in
    let one : (f ≡ f') × (c ≡ c') = number_reads f f' _ _ c c' n n' e1 in
    let e2 : i ++ (r ++ x) ≡ i' ++ (r' ++ y) = append_cancel_left f' _ _ (ap (λ z. z ++ (i ++ (r ++ x))) (sym one.0) ∙ e1) in
    let moved : SkipsBlockOf P c' i s = subst (λ z. SkipsBlockOf P z i s) one.1 k in
    let two : (i ≡ i') × (s ≡ s') = skips_block_reads P rp c' i i' _ _ s s' moved k' e2 in
    let e3 : r ++ x ≡ r' ++ y = append_cancel_left i' _ _ (ap (λ z. z ++ (r ++ x)) (sym two.0) ∙ e2) in
    let three : (r ≡ r') × (t ≡ t') = skips_blocks_read P rp r r' x y t t' m m' e3 in
    (λ j. one.0 j ++ (two.0 j ++ three.0 j), λ j. both (seen_only (length (one.0 j))) (both (two.1 j) (three.1 j)))

null_skips_nothing : (s : Schema) (bytes : List ℕ) (y : Passed) → IsNull s → Skips s bytes y → ⊥
null_skips_nothing Null bytes y n h = h
null_skips_nothing _ bytes y n h = n

mutual
  pub skips_reads : (s : Schema) → Reads (Skips s)
  skips_reads Null a b x y v w p q e = absurd p
  skips_reads Boolean a b x y v w p q e = skips_raw_reads 1 1 a b x y v w p q e
  skips_reads (Int logical) a b x y v w p q e = skips_number_reads a b x y v w p q e
  skips_reads (Long logical) a b x y v w p q e = skips_number_reads a b x y v w p q e
  skips_reads Float a b x y v w p q e = skips_raw_reads 4 0 a b x y v w p q e
  skips_reads Double a b x y v w p q e = skips_raw_reads 8 0 a b x y v w p q e
  skips_reads (Bytes logical) a b x y v w p q e = skips_sized_reads a b x y v w p q e
  skips_reads (String logical) a b x y v w p q e = skips_sized_reads a b x y v w p q e
  skips_reads (Record r) a b x y v w p q e = record_reads r a b x y v w p q e
  skips_reads (Enum s) a b x y v w p q e = skips_number_reads a b x y v w p q e
  skips_reads (Array' shape item) a b x y v w p q e = skips_blocks_read (SkipsItem item) (skips_item_reads item) a b x y v w p q e
  skips_reads (Map' shape value) a b x y v w p q e = absurd p
  skips_reads (Union' shape members) a b x y v w p q e =
      then_reads (Measured Number) (λ v back z. (k : ℕ) × (v.0 ≡ pos k) × (k < 2) × (p : Passed) × (z ≡ both (seen_only v.1) p) × SkipsMember members k back p) (measured_reads Number number_reads)
      (λ n a b x y v w p q e.
      let same : p.0 ≡ q.0 = pos_is (sym p.1 ∙ q.1) in
      let rest : (a ≡ b) × (p.3 ≡ q.3) = member_reads members q.0 a b x y p.3 q.3 (subst (λ k. SkipsMember members k a p.3) same p.5) q.5 e in
      (rest.0, p.4 ∙ ap (both (seen_only n.1)) rest.1 ∙ sym q.4))
      a b x y v w p q e
  skips_reads (Fixed f) a b x y v w p q e = skips_raw_reads (fixed_size f.size f.logical) 0 a b x y v w p q e

  record_reads : (r : TheRecord) → Reads (SkipsRecord r)
  record_reads (Record' name namespace doc shape fields) a b x y v w p q e = fields_read fields a b x y v w p q e

  pub skips_item_reads : {m : _} (row : Row_of-Schema m) → Reads (SkipsItem row)
  skips_item_reads end_of-Schema a b x y v w p q e = absurd p
  skips_item_reads (more_of-Schema s rest) a b x y v w p q e = skips_reads s a b x y v w p q e

  member_reads : {m : _} (row : Row_of-Schema m) (k : ℕ) → Reads (SkipsMember row k)
  member_reads end_of-Schema k a b x y v w p q e = absurd p
  member_reads (more_of-Schema s rest) zero a b x y v w (inl p) (inl q) e = skips_reads s a b x y v w p q e
  member_reads (more_of-Schema s rest) zero a b x y v w (inl p) (inr q) e = absurd (null_skips_nothing s a v q.0 p)
  member_reads (more_of-Schema s rest) zero a b x y v w (inr p) (inl q) e = absurd (null_skips_nothing s b w p.0 q)
  member_reads (more_of-Schema s rest) zero a b x y v w (inr p) (inr q) e = (p.1 ∙ sym q.1, p.2 ∙ sym q.2)
  member_reads (more_of-Schema s rest) (suc k) a b x y v w p q e = member_reads rest k a b x y v w p q e

  fields_read : {m : _} (row : Row_of-AvroField m) → Reads (SkipsFields row)
  fields_read end_of-AvroField a b x y v w p q e = (p.0 ∙ sym q.0, p.1 ∙ sym q.1)
  fields_read (more_of-AvroField name doc s rest) a b x y v w p q e =
      then_reads (Skips s) (λ p back z. (more : Passed) × (z ≡ both p more) × SkipsFields rest back more) (skips_reads s)
      (λ z a b x y v w p q e.
      let same : (a ≡ b) × (p.0 ≡ q.0) = fields_read rest a b x y p.0 q.0 p.2 q.2 e in
      (same.0, p.1 ∙ ap (both z) same.1 ∙ sym q.1))
      a b x y v w p q e
