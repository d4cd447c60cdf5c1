-- Broken bytes have no prefix that is skipped.
use Rattle.std.proofs.Common.{◌≡◌, ℕ, zero, suc, ◌<◌, pos, negsuc, List, ◌++◌, sym, ◌∙◌, ap, subst, inl, inr, arith}
use Rattle.std.proofs.lemmas.List.{append_cancel_left, append_assoc}
use Rattle.avro_schema.specs.declared.schema.Schema.{Schema, Null, Boolean, Int, Long, Float, Double, Bytes, String, Record, Enum, Array', Map', Union', Fixed, Row_of-Schema, end_of-Schema, more_of-Schema}
use Rattle.avro_schema.specs.declared.schema.Record.{Record as TheRecord, Record', Row_of-AvroField, end_of-AvroField, more_of-AvroField}
use Rattle.avro_schema.specs.Parts.{Grammar}
use Rattle.avro_schema.specs.Encodes.{IsNull}
use Rattle.avro_schema.specs.Skips.{Passed, SkipsMany, SkipsBlockOf, SkipsBlocks, Skips, SkipsRecord, SkipsItem, SkipsMember, SkipsFields}
use Rattle.avro_schema.specs.Skips as skips
use Rattle.avro_schema.specs.Broken.{BrokenBlocks, Broken, BrokenRecord, BrokenItem, BrokenMember, BrokenFields}
use Rattle.avro_schema.specs.Broken as broken
use Rattle.avro_schema.proofs.WholePrefixes.{Reads, number_reads}
use Rattle.avro_schema.proofs.Skipped.{skips_reads, skips_item_reads, skips_block_reads}
use Rattle.avro_schema.proofs.Encoded.{pos_is}

-- no prefix of bytes of B is of P
abbrev pub Excludes : {A : Type 0} → (List ℕ → Type 0) → Grammar A → Type 0
Excludes {A} B P = (bytes prefix back : List ℕ) (p : A) → B bytes → P prefix p → bytes ≡ prefix ++ back → ⊥

pub negative : (n : ℕ) (k : ℕ) → negsuc n ≡ pos k → ⊥
negative n k e = cc

pub not_zero : (n : ℕ) → pos (suc n) ≡ pos 0 → ⊥
not_zero n e = cc

after : (f i r y : List ℕ) → (f ++ (i ++ r)) ++ y ≡ f ++ (i ++ (r ++ y))
after f i r y = append_assoc f (i ++ r) y ∙ ap (λ z. f ++ z) (append_assoc i r y)

module _ (P : Grammar Passed) (B : List ℕ → Type 0) (reads : Reads P) (excludes : Excludes B P) where
  pub many_excludes : (m n : ℕ) (items rest i z : List ℕ) (p q : Passed) → m < suc n → SkipsMany P m items p → B rest → SkipsMany P (suc n) i q → items ++ rest ≡ i ++ z → ⊥
  many_excludes zero n items rest i z p q l h b k e =
      excludes rest k.prefix (k.back ++ z) k.value b k.first
      (ap (λ w. w ++ rest) (sym h.0) ∙ e ∙ ap (λ w. w ++ z) k.joined ∙ append_assoc k.prefix k.back z)
  many_excludes (suc m) zero items rest i z p q l h b k e = absurd (omega (arith, l))
  many_excludes (suc m) (suc n) items rest i z p q l h b k e =
      let e1 : h.prefix ++ (h.back ++ rest) ≡ k.prefix ++ (k.back ++ z) =
      sym (append_assoc h.prefix h.back rest) ∙ ap (λ w. w ++ rest) (sym h.joined) ∙ e ∙ ap (λ w. w ++ z) k.joined ∙ append_assoc k.prefix k.back z in
      let one : (h.prefix ≡ k.prefix) × (h.value ≡ k.value) = reads h.prefix k.prefix (h.back ++ rest) (k.back ++ z) h.value k.value h.first k.first e1 in
      let e2 : h.back ++ rest ≡ k.back ++ z = append_cancel_left k.prefix _ _ (ap (λ w. w ++ (h.back ++ rest)) (sym one.0) ∙ e1) in
      many_excludes m n h.back rest k.back z h.second.0 k.second.0 (omega (arith, l)) h.second.2 b k.second.2 e2

  blocks_exclude : Excludes (BrokenBlocks P B) (SkipsBlocks P)
  blocks_exclude bytes prefix back p (broken.false_size f m a n s h l k) (skips.last q) e =
      negative n 0 (number_reads f prefix (m ++ a) back _ _ h q e).1
  blocks_exclude bytes prefix back p (broken.broken_item f i r n m u h l k b) (skips.last q) e =
      not_zero n (number_reads f prefix (i ++ r) back _ _ h q e).1
  blocks_exclude bytes prefix back p (broken.whole_block f i r c u h k b) (skips.last q) e =
      subst (λ z. SkipsBlockOf P z i u) (number_reads f prefix (i ++ r) back _ _ h q e).1 k
  blocks_exclude bytes prefix back p (broken.false_size f m a n s h l k) (skips.block f' i' r' c' u' v' h' k' b') e =
      let e1 : f ++ (m ++ a) ≡ f' ++ (i' ++ (r' ++ back)) = e ∙ after f' i' r' back in
      let one : (f ≡ f') × (negsuc n ≡ c') = number_reads f f' _ _ _ _ h h' e1 in
      let e2 : m ++ a ≡ i' ++ (r' ++ back) = append_cancel_left f' _ _ (ap (λ z. z ++ (m ++ a)) (sym one.0) ∙ e1) in
      let moved : SkipsBlockOf P (negsuc n) i' u' = subst (λ z. SkipsBlockOf P z i' u') (sym one.1) k' in
      let e3 : m ++ a ≡ moved.1.prefix ++ (moved.1.back ++ (r' ++ back)) = e2 ∙ ap (λ z. z ++ (r' ++ back)) moved.1.joined ∙ append_assoc moved.1.prefix moved.1.back (r' ++ back) in
      negative s _ ((number_reads m moved.1.prefix a _ _ _ k moved.1.first.0 e3).1 ∙ moved.1.second.0)
  blocks_exclude bytes prefix back p (broken.broken_item f i r n m u h l k b) (skips.block f' i' r' c' u' v' h' k' b') e =
      let e1 : f ++ (i ++ r) ≡ f' ++ (i' ++ (r' ++ back)) = e ∙ after f' i' r' back in
      let one : (f ≡ f') × (pos (suc n) ≡ c') = number_reads f f' _ _ _ _ h h' e1 in
      let e2 : i ++ r ≡ i' ++ (r' ++ back) = append_cancel_left f' _ _ (ap (λ z. z ++ (i ++ r)) (sym one.0) ∙ e1) in
      let moved : SkipsBlockOf P (pos (suc n)) i' u' = subst (λ z. SkipsBlockOf P z i' u') (sym one.1) k' in
      many_excludes m n i r i' (r' ++ back) u u' l k b moved.1 e2
  blocks_exclude bytes prefix back p (broken.whole_block f i r c u h k b) (skips.block f' i' r' c' u' v' h' k' b') e =
      let e1 : f ++ (i ++ r) ≡ f' ++ (i' ++ (r' ++ back)) = e ∙ after f' i' r' back in
      let one : (f ≡ f') × (c ≡ c') = number_reads f f' _ _ _ _ h h' e1 in
      let e2 : i ++ r ≡ i' ++ (r' ++ back) = append_cancel_left f' _ _ (ap (λ z. z ++ (i ++ r)) (sym one.0) ∙ e1) in
      let moved : SkipsBlockOf P c' i u = subst (λ z. SkipsBlockOf P z i u) one.1 k in
      let two : (i ≡ i') × (u ≡ u') = skips_block_reads P reads c' i i' _ _ u u' moved k' e2 in
      let e3 : r ≡ r' ++ back = append_cancel_left i' _ _ (ap (λ z. z ++ r) (sym two.0) ∙ e2) in
      blocks_exclude r r' back v' b b' e3

null_is_whole : (s : Schema) (bytes : List ℕ) → IsNull s → Broken s bytes → ⊥
null_is_whole Null bytes n h = h
null_is_whole _ bytes n h = n

mutual
  pub broken_excludes : (s : Schema) → Excludes (Broken s) (Skips s)
  broken_excludes (Record r) bytes prefix back p h k e = record_excludes r bytes prefix back p h k e
  broken_excludes (Array' shape item) bytes prefix back p h k e =
      blocks_exclude (SkipsItem item) (BrokenItem item) (skips_item_reads item) (item_excludes item) bytes prefix back p h k e
  broken_excludes (Union' shape members) bytes prefix back p h k e =
      let e1 : h.0 ++ h.1 ≡ k.prefix ++ (k.back ++ back) = sym h.2 ∙ e ∙ ap (λ z. z ++ back) k.joined ∙ append_assoc k.prefix k.back back in
      let one : (h.0 ≡ k.prefix) × (pos h.3 ≡ k.value.0) = number_reads h.0 k.prefix h.1 (k.back ++ back) _ _ h.5 k.first.0 e1 in
      let e2 : h.1 ≡ k.back ++ back = append_cancel_left k.prefix _ _ (ap (λ z. z ++ h.1) (sym one.0) ∙ e1) in
      let same : h.3 ≡ k.second.0 = pos_is (one.1 ∙ k.second.1) in
      member_excludes members k.second.0 h.1 k.back back k.second.3 (subst (λ j. BrokenMember members j h.1) same h.6) k.second.5 e2
  broken_excludes Null bytes prefix back p h k e = h
  broken_excludes Boolean bytes prefix back p h k e = h
  broken_excludes (Int l) bytes prefix back p h k e = h
  broken_excludes (Long l) bytes prefix back p h k e = h
  broken_excludes Float bytes prefix back p h k e = h
  broken_excludes Double bytes prefix back p h k e = h
  broken_excludes (Bytes l) bytes prefix back p h k e = h
  broken_excludes (String l) bytes prefix back p h k e = h
  broken_excludes (Enum s) bytes prefix back p h k e = h
  broken_excludes (Map' shape value) bytes prefix back p h k e = h
  broken_excludes (Fixed f) bytes prefix back p h k e = h

  record_excludes : (r : TheRecord) → Excludes (BrokenRecord r) (SkipsRecord r)
  record_excludes (Record' name namespace doc shape fields) bytes prefix back p h k e = fields_exclude fields bytes prefix back p h k e

  pub item_excludes : {m : _} (row : Row_of-Schema m) → Excludes (BrokenItem row) (SkipsItem row)
  item_excludes end_of-Schema bytes prefix back p h k e = h
  item_excludes (more_of-Schema s rest) bytes prefix back p h k e = broken_excludes s bytes prefix back p h k e

  member_excludes : {m : _} (row : Row_of-Schema m) (j : ℕ) → Excludes (BrokenMember row j) (SkipsMember row j)
  member_excludes end_of-Schema j bytes prefix back p h k e = h
  member_excludes (more_of-Schema s rest) zero bytes prefix back p h (inl k) e = broken_excludes s bytes prefix back p h k e
  member_excludes (more_of-Schema s rest) zero bytes prefix back p h (inr k) e = null_is_whole s bytes k.0 h
  member_excludes (more_of-Schema s rest) (suc j) bytes prefix back p h k e = member_excludes rest j bytes prefix back p h k e

  fields_exclude : {m : _} (row : Row_of-AvroField m) → Excludes (BrokenFields row) (SkipsFields row)
  fields_exclude end_of-AvroField bytes prefix back p h k e = h
  fields_exclude (more_of-AvroField name doc s rest) bytes prefix back p (inl h) k e =
      broken_excludes s bytes k.prefix (k.back ++ back) k.value h k.first (e ∙ ap (λ z. z ++ back) k.joined ∙ append_assoc k.prefix k.back back)
  fields_exclude (more_of-AvroField name doc s rest) bytes prefix back p (inr h) k e =
      let e1 : h.0 ++ h.1 ≡ k.prefix ++ (k.back ++ back) = sym h.2 ∙ e ∙ ap (λ z. z ++ back) k.joined ∙ append_assoc k.prefix k.back back in
      let one : (h.0 ≡ k.prefix) × (h.3 ≡ k.value) = skips_reads s h.0 k.prefix h.1 (k.back ++ back) h.3 k.value h.4 k.first e1 in
      let e2 : h.1 ≡ k.back ++ back = append_cancel_left k.prefix _ _ (ap (λ z. z ++ h.1) (sym one.0) ∙ e1) in
      fields_exclude rest h.1 k.back back k.second.0 h.5 k.second.2 e2
