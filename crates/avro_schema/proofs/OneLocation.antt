-- Bytes break off at one location at most.
use Rattle.std.proofs.Common.{◌≡◌, ℕ, zero, suc, ◌<◌, ℤ, pos, negsuc, Bool, true, false, List, [], ◌∷◌, ◌++◌, length, refl, sym, ◌∙◌, ap, subst, inl, inr, arith}
use Rattle.std.proofs.lemmas.List.{append_cancel_left, append_assoc}
use Rattle.avro_schema.specs.declared.schema.Schema.{Schema, Null, Boolean, Int, Long, Float, Double, Bytes, String, Record, Enum, Array', Map', Union', Fixed, Row_of-Schema, end_of-Schema, more_of-Schema}
use Rattle.avro_schema.specs.declared.schema.Record.{Record as TheRecord, Record', Row_of-AvroField, end_of-AvroField, more_of-AvroField}
use Rattle.avro_schema.specs.declared.schema.AvroField.{AvroField}
use Rattle.avro_schema.specs.Number.{Number}
use Rattle.avro_schema.specs.Parts.{Grammar, Many}
use Rattle.avro_schema.specs.Skips.{Passed, SkipsMany, SkipsBlockOf, SkipsItem}
use Rattle.avro_schema.specs.Broken.{BrokenBlocks, Broken, BrokenRecord, BrokenItem, BrokenMember, BrokenFields}
use Rattle.avro_schema.specs.Broken as broken
use Rattle.avro_schema.specs.NegativeSize.{BrokenRow, NegativeSize}
use Rattle.avro_schema.specs.Rows.{Pieces, with_kept, with_skipped, Row}
use Rattle.avro_schema.specs.Location.{Location, within, one_further, location_in_blocks, location, location_in_record, location_in_item, location_in_member, location_in_fields, location_in_row, pieces_before}
use Rattle.avro_schema.specs.Laws.{SameBreak}
use Rattle.avro_schema.proofs.WholePrefixes.{Reads, number_reads}
use Rattle.avro_schema.proofs.Encoded.{pos_is, encodes_reads}
use Rattle.avro_schema.proofs.Skipped.{skips_reads, skips_item_reads, skips_block_reads}
use Rattle.avro_schema.proofs.NeverWhole.{Excludes, negative, broken_excludes, item_excludes, many_excludes}
use Rattle.avro_schema.proofs.RowLaws.{row_reads, broken_row_excludes}

-- wherever bytes of B are broken, it is at the location that the given function tells
abbrev OneAt : (B : List ℕ → Type 0) → ((bytes : List ℕ) → B bytes → Location) → Type 0
OneAt B told = (x y : List ℕ) (a : B x) (b : B y) → x ≡ y → told x a ≡ told y b

-- equal wholes of which equal prefixes are cut off
after_same : (a b x y : List ℕ) → a ≡ b → a ++ x ≡ b ++ y → x ≡ y
after_same a b x y same e = append_cancel_left b x y (ap (λ z. z ++ x) (sym same) ∙ e)

module _ (P : Grammar Passed) (B : List ℕ → Type 0) (told : (bytes : List ℕ) → B bytes → Location) (reads : Reads P) (excludes : Excludes B P) (one : OneAt B told) where
  items_one : (m n : ℕ) (i j r t : List ℕ) (p q : Passed) → SkipsMany P m i p → SkipsMany P n j q → (a : B r) (b : B t) → i ++ r ≡ j ++ t → within m (told r a) ≡ within n (told t b)
  items_one zero zero i j r t p q h k a b e = ap (within 0) (one r t a b (after_same i j r t (h.0 ∙ sym k.0) e))
  items_one zero (suc n) i j r t p q h k a b e =
      absurd (excludes r k.prefix (k.back ++ t) k.value a k.first (ap (λ w. w ++ r) (sym h.0) ∙ e ∙ ap (λ w. w ++ t) k.joined ∙ append_assoc k.prefix k.back t))
  items_one (suc m) zero i j r t p q h k a b e =
      absurd (excludes t h.prefix (h.back ++ r) h.value b h.first (ap (λ w. w ++ t) (sym k.0) ∙ sym e ∙ ap (λ w. w ++ r) h.joined ∙ append_assoc h.prefix h.back r))
  items_one (suc m) (suc n) i j r t p q h k a b e =
      let e1 : h.prefix ++ (h.back ++ r) ≡ k.prefix ++ (k.back ++ t) =
      sym (append_assoc h.prefix h.back r) ∙ ap (λ w. w ++ r) (sym h.joined) ∙ e ∙ ap (λ w. w ++ t) k.joined ∙ append_assoc k.prefix k.back t in
      let same : h.prefix ≡ k.prefix = (reads h.prefix k.prefix (h.back ++ r) (k.back ++ t) h.value k.value h.first k.first e1).0 in
      let rest : within m (told r a) ≡ within n (told t b) = items_one m n h.back k.back r t h.second.0 k.second.0 h.second.2 k.second.2 a b (after_same h.prefix k.prefix _ _ same e1) in
      ap one_further rest

  -- a block that is broken is no whole block
  false_size_or_whole : (n s : ℕ) (m a i z : List ℕ) (c : ℤ) (u : Passed) → Number m (negsuc s) → negsuc n ≡ c → SkipsBlockOf P c i u → m ++ a ≡ i ++ z → ⊥
  false_size_or_whole n s m a i z c u h same k e =
      let moved : SkipsBlockOf P (negsuc n) i u = subst (λ z. SkipsBlockOf P z i u) (sym same) k in
      let e1 : m ++ a ≡ moved.1.prefix ++ (moved.1.back ++ z) = e ∙ ap (λ w. w ++ z) moved.1.joined ∙ append_assoc moved.1.prefix moved.1.back z in
      negative s _ ((number_reads m moved.1.prefix a _ _ _ h moved.1.first.0 e1).1 ∙ moved.1.second.0)

  broken_item_or_whole : (n m : ℕ) (i r j z : List ℕ) (c : ℤ) (p u : Passed) → m < suc n → SkipsMany P m i p → B r → pos (suc n) ≡ c → SkipsBlockOf P c j u → i ++ r ≡ j ++ z → ⊥
  broken_item_or_whole n m i r j z c p u l h b same k e =
      let moved : SkipsBlockOf P (pos (suc n)) j u = subst (λ z. SkipsBlockOf P z j u) (sym same) k in
      many_excludes P B reads excludes m n i r j z p u l h b moved.1 e

  blocks_one : OneAt (BrokenBlocks P B) (location_in_blocks told)
  blocks_one x y (broken.false_size f m a n s h l k) (broken.false_size f' m' a' n' s' h' l' k') e = ap (λ z. record { path = 0 ∷ []; bytes = z }) e
  blocks_one x y (broken.false_size f m a n s h l k) (broken.broken_item f' i' r' n' m' p' h' l' k' b') e =
      absurd (negative n (suc n') (number_reads f f' _ _ _ _ h h' e).1)
  blocks_one x y (broken.broken_item f i r n m p h l k b) (broken.false_size f' m' a' n' s' h' l' k') e =
      absurd (negative n' (suc n) (number_reads f' f _ _ _ _ h' h (sym e)).1)
  blocks_one x y (broken.false_size f m a n s h l k) (broken.whole_block f' i' r' c' p' h' k' b') e =
      let same : (f ≡ f') × (negsuc n ≡ c') = number_reads f f' _ _ _ _ h h' e in
      absurd (false_size_or_whole n s m a i' r' c' p' k same.1 k' (after_same f f' _ _ same.0 e))
  blocks_one x y (broken.whole_block f i r c p h k b) (broken.false_size f' m' a' n' s' h' l' k') e =
      let same : (f' ≡ f) × (negsuc n' ≡ c) = number_reads f' f _ _ _ _ h' h (sym e) in
      absurd (false_size_or_whole n' s' m' a' i r c p k' same.1 k (after_same f' f _ _ same.0 (sym e)))
  blocks_one x y (broken.broken_item f i r n m p h l k b) (broken.whole_block f' i' r' c' p' h' k' b') e =
      let same : (f ≡ f') × (pos (suc n) ≡ c') = number_reads f f' _ _ _ _ h h' e in
      absurd (broken_item_or_whole n m i r i' r' c' p p' l k b same.1 k' (after_same f f' _ _ same.0 e))
  blocks_one x y (broken.whole_block f i r c p h k b) (broken.broken_item f' i' r' n' m' p' h' l' k' b') e =
      let same : (f' ≡ f) × (pos (suc n') ≡ c) = number_reads f' f _ _ _ _ h' h (sym e) in
      absurd (broken_item_or_whole n' m' i' r' i r c p' p l' k' b' same.1 k (after_same f' f _ _ same.0 (sym e)))
  blocks_one x y (broken.broken_item f i r n m p h l k b) (broken.broken_item f' i' r' n' m' p' h' l' k' b') e =
      let same : f ≡ f' = (number_reads f f' _ _ _ _ h h' e).0 in
      ap (within 0) (items_one m m' i i' r r' p p' k k' b b' (after_same f f' _ _ same e))
  blocks_one x y (broken.whole_block f i r c p h k b) (broken.whole_block f' i' r' c' p' h' k' b') e =
      let same : (f ≡ f') × (c ≡ c') = number_reads f f' _ _ _ _ h h' e in
      let e1 : i ++ r ≡ i' ++ r' = after_same f f' _ _ same.0 e in
      let moved : SkipsBlockOf P c' i p = subst (λ z. SkipsBlockOf P z i p) same.1 k in
      let block : i ≡ i' = (skips_block_reads P reads c' i i' r r' p p' moved k' e1).0 in
      ap one_further (blocks_one r r' b b' (after_same i i' _ _ block e1))

mutual
  pub location_one : (s : Schema) → OneAt (Broken s) (location s)
  location_one (Record r) x y a b e = record_one r x y a b e
  location_one (Array' shape item) x y a b e =
      blocks_one (SkipsItem item) (BrokenItem item) (location_in_item item) (skips_item_reads item) (item_excludes item) (item_one item) x y a b e
  location_one (Union' shape members) x y a b e =
      let e1 : a.0 ++ a.1 ≡ b.0 ++ b.1 = sym a.2 ∙ e ∙ b.2 in
      let same : (a.0 ≡ b.0) × (pos a.3 ≡ pos b.3) = number_reads a.0 b.0 a.1 b.1 _ _ a.5 b.5 e1 in
      member_one members a.3 b.3 (pos_is same.1) a.1 b.1 a.6 b.6 (after_same a.0 b.0 _ _ same.0 e1)
  location_one Null x y a b e = absurd a
  location_one Boolean x y a b e = absurd a
  location_one (Int l) x y a b e = absurd a
  location_one (Long l) x y a b e = absurd a
  location_one Float x y a b e = absurd a
  location_one Double x y a b e = absurd a
  location_one (Bytes l) x y a b e = absurd a
  location_one (String l) x y a b e = absurd a
  location_one (Enum s) x y a b e = absurd a
  location_one (Map' shape value) x y a b e = absurd a
  location_one (Fixed f) x y a b e = absurd a

  record_one : (r : TheRecord) → OneAt (BrokenRecord r) (location_in_record r)
  record_one (Record' name namespace doc shape fields) x y a b e = fields_one fields x y a b e

  item_one : {m : _} (row : Row_of-Schema m) → OneAt (BrokenItem row) (location_in_item row)
  item_one end_of-Schema x y a b e = absurd a
  item_one (more_of-Schema s rest) x y a b e = location_one s x y a b e

  member_one : {m : _} (row : Row_of-Schema m) (j k : ℕ) → j ≡ k → (x y : List ℕ) (a : BrokenMember row j x) (b : BrokenMember row k y) → x ≡ y → within j (location_in_member row j x a) ≡ within k (location_in_member row k y b)
  member_one end_of-Schema j k same x y a b e = absurd a
  member_one (more_of-Schema s rest) zero zero same x y a b e = ap (within 0) (location_one s x y a b e)
  member_one (more_of-Schema s rest) zero (suc k) same x y a b e = absurd (omega (arith, same))
  member_one (more_of-Schema s rest) (suc j) zero same x y a b e = absurd (omega (arith, same))
  member_one (more_of-Schema s rest) (suc j) (suc k) same x y a b e = ap one_further (member_one rest j k (omega (arith, same)) x y a b e)

  fields_one : {m : _} (row : Row_of-AvroField m) → OneAt (BrokenFields row) (location_in_fields row)
  fields_one end_of-AvroField x y a b e = absurd a
  fields_one (more_of-AvroField name doc s rest) x y (inl a) (inl b) e = ap (within 0) (location_one s x y a b e)
  fields_one (more_of-AvroField name doc s rest) x y (inl a) (inr b) e = absurd (broken_excludes s x b.0 b.1 b.3 a b.4 (e ∙ b.2))
  fields_one (more_of-AvroField name doc s rest) x y (inr a) (inl b) e = absurd (broken_excludes s y a.0 a.1 a.3 b a.4 (sym e ∙ a.2))
  fields_one (more_of-AvroField name doc s rest) x y (inr a) (inr b) e =
      let e1 : a.0 ++ a.1 ≡ b.0 ++ b.1 = sym a.2 ∙ e ∙ b.2 in
      let same : a.0 ≡ b.0 = (skips_reads s a.0 b.0 a.1 b.1 a.3 b.3 a.4 b.4 e1).0 in
      ap one_further (fields_one rest a.1 b.1 a.5 b.5 (after_same a.0 b.0 _ _ same e1))

-- ---- rows

row_one : (fs : List AvroField) (keeps : List Bool) → OneAt (BrokenRow fs keeps) (location_in_row fs keeps)
row_one [] keeps x y a b e = absurd a
row_one (f ∷ fs) [] x y a b e = absurd a
row_one (f ∷ fs) (true ∷ keeps) x y a b e =
    let e1 : a.0 ++ a.1 ≡ b.0 ++ b.1 = sym a.2 ∙ e ∙ b.2 in
    let same : a.0 ≡ b.0 = (encodes_reads f.schema a.0 b.0 a.1 b.1 a.3 b.3 a.4 b.4 e1).0 in
    ap one_further (row_one fs keeps a.1 b.1 a.5 b.5 (after_same a.0 b.0 _ _ same e1))
row_one (f ∷ fs) (false ∷ keeps) x y (inl a) (inl b) e = ap (within 0) (location_one f.schema x y a b e)
row_one (f ∷ fs) (false ∷ keeps) x y (inl a) (inr b) e = absurd (broken_excludes f.schema x b.0 b.1 b.3 a b.4 (e ∙ b.2))
row_one (f ∷ fs) (false ∷ keeps) x y (inr a) (inl b) e = absurd (broken_excludes f.schema y a.0 a.1 a.3 b a.4 (sym e ∙ a.2))
row_one (f ∷ fs) (false ∷ keeps) x y (inr a) (inr b) e =
    let e1 : a.0 ++ a.1 ≡ b.0 ++ b.1 = sym a.2 ∙ e ∙ b.2 in
    let same : a.0 ≡ b.0 = (skips_reads f.schema a.0 b.0 a.1 b.1 a.3 b.3 a.4 b.4 e1).0 in
    ap one_further (row_one fs keeps a.1 b.1 a.5 b.5 (after_same a.0 b.0 _ _ same e1))

before_one : (fs : List AvroField) (keeps : List Bool) (x y : List ℕ) (a : BrokenRow fs keeps x) (b : BrokenRow fs keeps y) → x ≡ y → pieces_before fs keeps x a ≡ pieces_before fs keeps y b
before_one [] keeps x y a b e = absurd a
before_one (f ∷ fs) [] x y a b e = absurd a
before_one (f ∷ fs) (true ∷ keeps) x y a b e =
    let e1 : a.0 ++ a.1 ≡ b.0 ++ b.1 = sym a.2 ∙ e ∙ b.2 in
    let same : (a.0 ≡ b.0) × (a.3 ≡ b.3) = encodes_reads f.schema a.0 b.0 a.1 b.1 a.3 b.3 a.4 b.4 e1 in
    let rest : pieces_before fs keeps a.1 a.5 ≡ pieces_before fs keeps b.1 b.5 = before_one fs keeps a.1 b.1 a.5 b.5 (after_same a.0 b.0 _ _ same.0 e1) in
    λ i. with_kept (same.1 i, length (same.0 i)) (rest i)
before_one (f ∷ fs) (false ∷ keeps) x y (inl a) (inl b) e = refl
before_one (f ∷ fs) (false ∷ keeps) x y (inl a) (inr b) e = absurd (broken_excludes f.schema x b.0 b.1 b.3 a b.4 (e ∙ b.2))
before_one (f ∷ fs) (false ∷ keeps) x y (inr a) (inl b) e = absurd (broken_excludes f.schema y a.0 a.1 a.3 b a.4 (sym e ∙ a.2))
before_one (f ∷ fs) (false ∷ keeps) x y (inr a) (inr b) e =
    let e1 : a.0 ++ a.1 ≡ b.0 ++ b.1 = sym a.2 ∙ e ∙ b.2 in
    let same : (a.0 ≡ b.0) × (a.3 ≡ b.3) = skips_reads f.schema a.0 b.0 a.1 b.1 a.3 b.3 a.4 b.4 e1 in
    let rest : pieces_before fs keeps a.1 a.5 ≡ pieces_before fs keeps b.1 b.5 = before_one fs keeps a.1 b.1 a.5 b.5 (after_same a.0 b.0 _ _ same.0 e1) in
    λ i. with_skipped (same.1 i) (rest i)

record Same (fs : List AvroField) (keeps : List Bool) (m n : ℕ) (i j r t : List ℕ) (v w : List Pieces) (a : BrokenRow fs keeps r) (b : BrokenRow fs keeps t) : Type 0 where
  pub count : m ≡ n
  pub prefix : i ≡ j
  pub pieces : v ≡ w
  pub before : pieces_before fs keeps r a ≡ pieces_before fs keeps t b
  pub location : location_in_row fs keeps r a ≡ location_in_row fs keeps t b

rows_one : (fs : List AvroField) (keeps : List Bool) (m n : ℕ) (i j r t : List ℕ) (v w : List Pieces) → Many (Row fs keeps) m i v → Many (Row fs keeps) n j w → (a : BrokenRow fs keeps r) (b : BrokenRow fs keeps t) → i ++ r ≡ j ++ t → Same fs keeps m n i j r t v w a b
rows_one fs keeps zero zero i j r t v w h k a b e =
    let same : i ≡ j = h.0 ∙ sym k.0 in
    let rest : r ≡ t = after_same i j r t same e in
    record { count = refl; prefix = same; pieces = h.1 ∙ sym k.1; before = before_one fs keeps r t a b rest; location = row_one fs keeps r t a b rest }
rows_one fs keeps zero (suc n) i j r t v w h k a b e =
    absurd (broken_row_excludes fs keeps r k.prefix (k.back ++ t) k.value a k.first (ap (λ w. w ++ r) (sym h.0) ∙ e ∙ ap (λ w. w ++ t) k.joined ∙ append_assoc k.prefix k.back t))
rows_one fs keeps (suc m) zero i j r t v w h k a b e =
    absurd (broken_row_excludes fs keeps t h.prefix (h.back ++ r) h.value b h.first (ap (λ w. w ++ t) (sym k.0) ∙ sym e ∙ ap (λ w. w ++ r) h.joined ∙ append_assoc h.prefix h.back r))
rows_one fs keeps (suc m) (suc n) i j r t v w h k a b e =
    let e1 : h.prefix ++ (h.back ++ r) ≡ k.prefix ++ (k.back ++ t) =
    sym (append_assoc h.prefix h.back r) ∙ ap (λ w. w ++ r) (sym h.joined) ∙ e ∙ ap (λ w. w ++ t) k.joined ∙ append_assoc k.prefix k.back t in
    let same : (h.prefix ≡ k.prefix) × (h.value ≡ k.value) = row_reads fs keeps h.prefix k.prefix (h.back ++ r) (k.back ++ t) h.value k.value h.first k.first e1 in
    let rest : Same fs keeps m n h.back k.back r t h.second.0 k.second.0 a b = rows_one fs keeps m n h.back k.back r t h.second.0 k.second.0 h.second.2 k.second.2 a b (after_same h.prefix k.prefix _ _ same.0 e1) in
    record {
      count = ap suc rest.count;
      prefix = h.joined ∙ (λ i. same.0 i ++ rest.prefix i) ∙ sym k.joined;
      pieces = h.second.1 ∙ (λ i. same.1 i ∷ rest.pieces i) ∙ sym k.second.1;
      before = rest.before;
      location = rest.location;
    }

pub one_break : (s : Schema) (bytes : List ℕ) (a b : Broken s bytes) → location s bytes a ≡ location s bytes b
one_break s bytes a b = location_one s bytes bytes a b refl

pub same_break : (n : ℕ) (fs : List AvroField) (keeps : List Bool) (bytes : List ℕ) (a b : NegativeSize n fs keeps bytes) → SameBreak n fs keeps bytes a b
same_break n fs keeps bytes a b =
    let same : Same fs keeps a.whole b.whole a.prefix b.prefix a.back b.back a.pieces b.pieces a.broken b.broken = rows_one fs keeps a.whole b.whole a.prefix b.prefix a.back b.back a.pieces b.pieces a.rows b.rows a.broken b.broken (sym a.joined ∙ b.joined) in
    record { whole = same.count; prefix = same.prefix; pieces = same.pieces; before = same.before; location = same.location }
