-- The lines of slots and of rows are rows.
use Rattle.std.proofs.Common.{◌≡◌, inl, inr, ℕ, zero, suc, ◌<◌, ◌==◌, ◌&&◌, not, nat_lt, true, false, cond, List, [], ◌∷◌, ◌++◌, codes, flat_map, length, map, refl, sym, ap, ◌∙◌, append_assoc, append-nil, arith}
use Rattle.std.proofs.lemmas.Bool.{and_parts}
use Rattle.std.proofs.lemmas.Bool.Decides.{nat_tests}
use Rattle.std.proofs.lemmas.List.Elements.{All-head, All-tail}
use Rattle.std.proofs.lemmas.Str.{encode_ascii}
use Rattle.std.specs.Char.{is_whitespace}
use Rattle.std.specs.List.{All, filter, list_all}
use Rattle.std.specs.Str.{chars, drop_trailing_whitespace, encode_utf8_all, skip_leading_whitespace, trim_end, trim_start}
use Rattle.arrow_core.specs.declared.slot.Slot.{Slot}
use Rattle.arrow_array.specs.SlotTypes.{SlotOf}
use Rattle.json_text.specs.JsonText.{text}
use Rattle.json_text.specs.Refusals.{in_range}
use Rattle.json_write.specs.Rows.{row_object}
use Rattle.json_tree.specs.Tree.{Json}
use Rattle.json_tree.specs.Grammar.{Encodes, IsInteger, IsMinus, Scalar, is_digit}
use Rattle.ndjson_read.specs.Lines.{is_row, lines, onto_first, rows_of}
use Rattle.ndjson.specs.Depth.{depth, row_depth}
use Rattle.ndjson.specs.Laws.{HasTexts, LinesAreRows, SlotLinesAreRows}
use Rattle.ndjson.specs.Values.{row_value, value}
use Rattle.ndjson.proofs.Clean.{Feedless}
use Rattle.ndjson.proofs.RowLaw.{row-good}
use Rattle.ndjson.proofs.TextLaw.{written}
use Rattle.ndjson.proofs.Written.{Good}

-- ---- a line by its line feed

lines-feed : (bytes rest : List ℕ) → Feedless bytes → lines (bytes ++ 10 ∷ rest) ≡ (bytes ++ 10 ∷ []) ∷ lines rest
unfolding lines onto_first
lines-feed [] rest h = refl
lines-feed (b ∷ bytes) rest h = rw h.0 (ap (onto_first b) (lines-feed bytes rest h.1))

-- ---- what begins with a character that shows is not blank

-- an ASCII character that is no white space
abbrev Shows : ℕ → Type 0
Shows c = (c < 128) × (is_whitespace c ≡ false)

abbrev Starts : ℕ → List ℕ → Type 0
Starts c bytes = (more : List ℕ) × (bytes ≡ c ∷ more)

module _ (c : ℕ) (h : Shows c) where
  first-char : (bytes : List ℕ) → Starts c (chars (c ∷ bytes))
  unfolding chars
  first-char bytes = let low : nat_lt c 128 ≡ true = grind (arith, nat_tests, h.0) in at bytes low
    where
      at : (bytes : List ℕ) → nat_lt c 128 ≡ true → Starts c (chars (c ∷ bytes))
      at [] low = ([], rw low refl)
      at (b ∷ bytes) low = (chars (b ∷ bytes), rw low refl)

  encoded : (cs : List ℕ) → encode_utf8_all (c ∷ cs) ≡ c ∷ encode_utf8_all cs
  encoded cs = ap (λ l. l ++ encode_utf8_all cs) (encode_ascii c h.0)

  start-kept : (bytes : List ℕ) → Starts c bytes → Starts c (trim_start bytes)
  unfolding trim_start
  start-kept bytes s =
      let k = first-char s.0 in (
        encode_utf8_all k.0,
        ap (λ l. encode_utf8_all (skip_leading_whitespace (chars l))) s.1
            ∙ ap (λ cs. encode_utf8_all (skip_leading_whitespace cs)) k.1
            ∙ ap (λ b. encode_utf8_all (cond b (skip_leading_whitespace k.0) (c ∷ k.0))) h.1 ∙ encoded k.0,
      )

  end-kept : (bytes : List ℕ) → Starts c bytes → Starts c (trim_end bytes)
  unfolding trim_end
  end-kept bytes s =
      let k = first-char s.0 in
      let rest = drop_trailing_whitespace k.0 in (
        encode_utf8_all rest,
        ap (λ l. encode_utf8_all (drop_trailing_whitespace (chars l))) s.1
            ∙ ap (λ cs. encode_utf8_all (drop_trailing_whitespace cs)) k.1
            ∙ ap (λ b. encode_utf8_all (cond (b && (length rest == 0)) [] (c ∷ rest))) h.1 ∙ encoded rest,
      )

some : (c : ℕ) (more : List ℕ) → not (length (c ∷ more) == 0) ≡ true
some c more = grind (arith, nat_tests)

-- some character that shows stands first
abbrev Visible : List ℕ → Type 0
Visible bytes = (c : ℕ) × Shows c × Starts c bytes

visible-row : (bytes more : List ℕ) → Visible bytes → is_row (bytes ++ more) ≡ true
visible-row bytes more v =
    let t = end-kept v.0 v.1 (trim_start (bytes ++ more)) (start-kept v.0 v.1 (bytes ++ more) (v.2.0 ++ more, ap (λ l. l ++ more) v.2.1)) in
    ap (λ l. not (length l == 0)) t.1 ∙ some v.0 t.0

-- ---- what stands for a value is visible

digit-shows : (d : ℕ) → is_digit d ≡ true → Shows d
unfolding is_digit
digit-shows d e = (grind (arith, nat_tests, e), grind (arith, nat_tests, e))

visible-more : (bytes more all : List ℕ) → Visible bytes → all ≡ bytes ++ more → Visible all
visible-more bytes more all v e = (v.0, v.1, (v.2.0 ++ more, e ∙ ap (λ l. l ++ more) v.2.1))

visible-integer : (bytes : List ℕ) → IsInteger bytes → Visible bytes
visible-integer bytes (inl h) = (0x30, (omega arith, refl), ([], h))
visible-integer bytes (inr h) = (h.0, digit-shows h.0 h.2, (h.1, h.5))

visible-signed : (minus integer fraction : List ℕ) → IsMinus minus → IsInteger integer → Visible (minus ++ (integer ++ fraction))
visible-signed minus integer fraction (inl h) k = visible-more integer fraction (minus ++ (integer ++ fraction)) (visible-integer integer k) (ap (λ l. l ++ (integer ++ fraction)) h)
visible-signed minus integer fraction (inr h) k = (0x2d, (omega arith, refl), (integer ++ fraction, ap (λ l. l ++ (integer ++ fraction)) h))

visible-scalar : (v : Json) (bytes : List ℕ) → Scalar v bytes → Visible bytes
visible-scalar v bytes (inl h) = (0x6e, (omega arith, refl), (_, h.1))
visible-scalar v bytes (inr (inl h)) = (0x74, (omega arith, refl), (_, h.1))
visible-scalar v bytes (inr (inr (inl h))) = (0x66, (omega arith, refl), (_, h.1))
visible-scalar v bytes (inr (inr (inr (inl h)))) = (0x22, (omega arith, refl), (_, h.1.1))
visible-scalar v bytes (inr (inr (inr (inr h)))) =
    let n = h.2 in
    visible-more h.0 n.3 bytes (visible-more (n.0 ++ (n.1 ++ n.2)) [] h.0 (visible-signed n.0 n.1 n.2 n.4 n.5) (n.8 ∙ sym (append-nil (n.0 ++ (n.1 ++ n.2))))) n.9

visible : (d : ℕ) (v : Json) (bytes : List ℕ) → Encodes d v bytes → Visible bytes
visible zero v bytes h = visible-scalar v bytes h
visible (suc d) v bytes (inl h) = visible-scalar v bytes h
visible (suc d) v bytes (inr (inl h)) = (0x5b, (omega arith, refl), (h.1, h.4))
visible (suc d) v bytes (inr (inr h)) = (0x7b, (omega arith, refl), (h.2, h.6))

-- ---- lines

module _ {A : Type 0} (f : A → List ℕ) where
  -- each thing has a text
  abbrev AllGood : List A → Type 0
  AllGood [] = Unit {0}
  AllGood (x ∷ xs) = ((d : ℕ) × (v : Json) × Good d v (f x)) × AllGood xs

  lines-of : (xs : List A) → AllGood xs → rows_of (flat_map (λ x. f x ++ codes "\n") xs) ≡ map (λ x. f x ++ codes "\n") xs
  unfolding lines
  lines-of [] h = refl
  lines-of (x ∷ xs) h =
      let rest = flat_map (λ y. f y ++ codes "\n") xs in
      let good = h.0.2 in
      ap rows_of (append_assoc (f x) (codes "\n") rest)
      ∙ ap (filter is_row) (lines-feed (f x) rest good.0.one_line)
      ∙ ap (λ b. cond b ((f x ++ codes "\n") ∷ rows_of rest) (rows_of rest)) (visible-row (f x) (codes "\n") (visible h.0.0 h.0.1 (f x) good.1))
      ∙ ap (λ rows. (f x ++ codes "\n") ∷ rows) (lines-of xs h.1)

pub lines_are_rows : LinesAreRows
lines_are_rows names data_types table h = lines-of (row_object names data_types) table (all table h)
  where
    all : (table : List (List Slot)) → All (HasTexts names data_types) table → AllGood (row_object names data_types) table
    all [] h = tt
    all (row ∷ table) h =
        ((row_depth data_types, row_value names data_types row, row-good names data_types row (row_depth data_types) (omega arith) (All-head (HasTexts names data_types) row table h)), all table (All-tail (HasTexts names data_types) row table h))

pub slot_lines_are_rows : SlotLinesAreRows
slot_lines_are_rows t xs e n h r = lines-of (text t) xs (all xs h r)
  where
    all : (xs : List Slot) → All (SlotOf t) xs → list_all (in_range t) xs ≡ true → AllGood (text t) xs
    all [] h r = tt
    all (x ∷ xs) h r =
        let r = and_parts _ _ r in
        ((depth t, value t x, written t (depth t) x (omega arith) e n (All-head (SlotOf t) x xs h) r.0), all xs (All-tail (SlotOf t) x xs h) r.1)
