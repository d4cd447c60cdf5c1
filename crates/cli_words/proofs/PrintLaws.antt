-- What is printed for a type is a shortest word of it, and what has a word is printed.
use Rattle.std.proofs.Common.{◌≡◌, ◌∙◌, ◌⊎◌, inl, inr, ℕ, zero, suc, ◌≤◌, ◌==◌, ◌&&◌, nat_le, Bool, true, false, if◌then◌else◌, List, [], ◌∷◌, ◌++◌, map, codes, decimal, Option, Some, None, refl, sym, ap, subst, append_assoc, append-nil, arith}
use Rattle.std.proofs.lemmas.Fmt.{decimal_is_IsNumeral, length-decimal-le}
use Rattle.std.proofs.lemmas.Bool.Decides.{nat_tests}
use Rattle.std.specs.List.{list_all}
use Rattle.std.specs.Option.{option_map_or}
use Rattle.avro_schema.specs.declared.schema.AvroField.{AvroField}
use Rattle.avro_schema.specs.declared.schema.Record.{out-Record}
use Rattle.avro_schema.specs.declared.schema.Schema.{Schema, out-Schema, Null, Union}
use Rattle.avro_schema.specs.declared.schema.Schema.TheOpen as layer
use Rattle.avro_schema.specs.declared.schema.Schema.TheVariants as variant
use Rattle.avro_schema.specs.declared.schema.IntLogical.TheVariants as int_logical
use Rattle.avro_schema.specs.declared.schema.LongLogical.TheVariants as long_logical
use Rattle.avro_schema.specs.declared.schema.StringLogical.TheVariants as string_logical
use Rattle.avro_schema.specs.declared.schema.BytesLogical.TheVariants as bytes_logical
use Rattle.avro_schema.specs.declared.schema.FixedLogical.{FixedLogical}
use Rattle.avro_schema.specs.declared.schema.FixedLogical.TheVariants as fixed_logical
use Rattle.avro_schema.specs.TypeExamples.{fixed_of}
use Rattle.avro_schema.specs.Encodes.{is_null}
use Rattle.cli_words.specs.Names.{IsName, IsSize}
use Rattle.cli_words.specs.Printed.{unnamed, is_name_text, is_size, are_digits, has_fixed, has_symbols, has_field, layer_has_base, has_base, members_of, has_marked, has_type, joined, fixed_word, field_word, layer_word, base_word, marked_word, type_word}
use Rattle.cli_words.specs.Types.{AreDigits, AreSymbols, AreNamed, AreFields, IsNamed, IsBase, IsNullFirst, IsNullSecond, IsType}
use Rattle.cli_words.proofs.Bytes.{false_true}
use Rattle.cli_words.proofs.Unnamed.{Layer, unnamed_field, without, unnamed_is, name_is, doc_is, schema_is, null_is, null_unnamed, union_is}

-- ---- tests

pub and_parts : (a b : Bool) → (a && b) ≡ true → (a ≡ true) × (b ≡ true)
and_parts true true h = (refl, refl)
and_parts true false h = absurd (false_true h)
and_parts false b h = absurd (false_true h)

pub both : (a b : Bool) → a ≡ true → b ≡ true → (a && b) ≡ true
both a b p q = (λ i. p i && q i)

pub le_true : (m n : ℕ) → m ≤ n → nat_le m n ≡ true
le_true m n l = grind (arith, nat_tests, l)

true_le : (m n : ℕ) → nat_le m n ≡ true → m ≤ n
true_le m n l = grind (arith, nat_tests, l)

true_eq : (m n : ℕ) → (m == n) ≡ true → m ≡ n
true_eq m n l = grind (arith, nat_tests, l)

-- ---- names and numbers

is_name : (word : List ℕ) → is_name_text word ≡ true → IsName word
is_name [] h = absurd (false_true h)
is_name (b ∷ bs) h = (omega arith, h)

size_word : (n : ℕ) → is_size n ≡ true → IsSize (decimal n) n
size_word n h =
    let low : n ≤ 2147483647 = true_le n 2147483647 h in
    let digits = decimal_is_IsNumeral n (omega arith) in
    (digits.0, length-decimal-le 10 n (omega arith) (omega arith) (omega arith), low, sym digits.1)

digits_word : (p s : ℕ) → are_digits p s ≡ true → AreDigits (decimal p) (decimal s) p s
digits_word p s h =
    let first = and_parts (is_size p) (is_size s && (nat_le 1 p && nat_le s p)) h in
    let second = and_parts (is_size s) (nat_le 1 p && nat_le s p) first.1 in
    let third = and_parts (nat_le 1 p) (nat_le s p) second.1 in
    (size_word p first.0, size_word s second.0, true_le 1 p third.0, true_le s p third.1)

-- ---- what is printed is a word

symbols_word : (x : List ℕ) (xs : List (List ℕ)) → list_all is_name_text (x ∷ xs) ≡ true → AreSymbols (joined (codes ",") (x ∷ xs)) (x ∷ xs)
symbols_word x [] h = (is_name x (and_parts (is_name_text x) true h).0, append-nil x)
symbols_word x (y ∷ ys) h =
    let parts = and_parts (is_name_text x) (list_all is_name_text (y ∷ ys)) h in
    (joined (codes ",") (y ∷ ys), is_name x parts.0, refl, symbols_word y ys parts.1)

module _ (Inner : List ℕ → Schema → Type 0) (Has : Schema → Bool) (Word : Schema → List ℕ) (sound : (s : Schema) → Has s ≡ true → Inner (Word s) (unnamed s)) where
  named_word : (f : AvroField) → has_field Has f ≡ true → IsNamed Inner (field_word Word f) (unnamed_field f)
  named_word f h =
      let parts = and_parts (is_name_text f.name) (Has f.schema) h in (
        subst IsName (sym (name_is f)) (is_name f.name parts.0),
        doc_is f,
        (Word f.schema, subst (Inner (Word f.schema)) (sym (schema_is f)) (sound f.schema parts.1), ap (λ n. n ++ (codes "=" ++ Word f.schema)) (sym (name_is f))),
      )

  list_word : (f : AvroField) (fs : List AvroField) → list_all (has_field Has) (f ∷ fs) ≡ true → AreNamed Inner (joined (codes ";") (map (field_word Word) (f ∷ fs))) (map unnamed_field (f ∷ fs))
  list_word f [] h = subst (λ z. IsNamed Inner z (unnamed_field f)) (sym (append-nil (field_word Word f))) (named_word f (and_parts (has_field Has f) true h).0)
  list_word f (g ∷ gs) h =
      let parts = and_parts (has_field Has f) (list_all (has_field Has) (g ∷ gs)) h in
      (field_word Word f, joined (codes ";") (map (field_word Word) (g ∷ gs)), named_word f parts.0, refl, list_word g gs parts.1)

  fields_word : (fs : List AvroField) → list_all (has_field Has) fs ≡ true → AreFields Inner (joined (codes ";") (map (field_word Word) fs)) (map unnamed_field fs)
  fields_word [] h = inl (refl, refl)
  fields_word (f ∷ fs) h = inr (list_word f fs h)

  fixed_sound : (size : ℕ) (logical : Option FixedLogical) → has_fixed size logical ≡ true → IsBase Inner (fixed_word size logical) (fixed_of size logical)
  fixed_sound size None h = inr (inl (decimal size, inl ((size, size_word size h, refl), refl)))
  fixed_sound size (Some fixed_logical.Duration) h = inl (refl, ap (λ n. fixed_of n (Some fixed_logical.Duration)) (true_eq size 12 h))
  fixed_sound size (Some (fixed_logical.Decimal p s)) h =
      let parts = and_parts (are_digits p s) (is_size size) h in
      inr (inl (
        decimal p ++ (codes "," ++ (decimal s ++ (codes "," ++ decimal size))),
        inr (inr (decimal p, decimal s, decimal size, p, s, size, digits_word p s parts.0, size_word size parts.1, refl, refl), simp append_assoc),
      ))

  layer_sound : (l : Layer) → layer_has_base Has l ≡ true → IsBase Inner (layer_word Word l) (without l)
  layer_sound layer.Null h = inl refl
  layer_sound layer.Boolean h = inl refl
  layer_sound (layer.Int None) h = inl refl
  layer_sound (layer.Int (Some int_logical.Date)) h = inl refl
  layer_sound (layer.Int (Some int_logical.Time)) h = inl refl
  layer_sound (layer.Long None) h = inl refl
  layer_sound (layer.Long (Some long_logical.Time)) h = inl refl
  layer_sound (layer.Long (Some long_logical.TimestampMillis)) h = inl refl
  layer_sound (layer.Long (Some long_logical.TimestampMicros)) h = inl refl
  layer_sound (layer.Long (Some long_logical.TimestampNanos)) h = inl refl
  layer_sound (layer.Long (Some long_logical.LocalTimestampMillis)) h = inl refl
  layer_sound (layer.Long (Some long_logical.LocalTimestampMicros)) h = inl refl
  layer_sound (layer.Long (Some long_logical.LocalTimestampNanos)) h = inl refl
  layer_sound layer.Float h = inl refl
  layer_sound layer.Double h = inl refl
  layer_sound (layer.Bytes None) h = inl refl
  layer_sound (layer.Bytes (Some (bytes_logical.Decimal p s))) h =
      inr (inl (decimal p ++ (codes "," ++ decimal s), inr (inl (decimal p, decimal s, p, s, digits_word p s h, refl, refl), refl)))
  layer_sound (layer.String None) h = inl refl
  layer_sound (layer.String (Some string_logical.Uuid)) h = inl refl
  layer_sound (layer.Record r) h = inr (inr (inr (inl (joined (codes ";") (map (field_word Word) (out-Record r).fields), map unnamed_field (out-Record r).fields, fields_word (out-Record r).fields h, refl, refl))))
  layer_sound (layer.Enum e) h = inr (inr (inl (joined (codes ",") e.symbols, e.symbols, some e.symbols h, refl, refl)))
    where
      some : (xs : List (List ℕ)) → has_symbols xs ≡ true → AreSymbols (joined (codes ",") xs) xs
      some [] i = absurd (false_true i)
      some (x ∷ xs) i = symbols_word x xs i
  layer_sound (layer.Array item) h = inr (inr (inr (inr (Word item, unnamed item, sound item h, refl, refl))))
  layer_sound (layer.Map value) h = absurd (false_true h)
  layer_sound (layer.Union members) h = absurd (false_true h)
  layer_sound (layer.Fixed f) h = fixed_sound f.size f.logical h

  base_sound : (s : Schema) → has_base Has s ≡ true → IsBase Inner (base_word Word s) (unnamed s)
  base_sound s h = subst (IsBase Inner (base_word Word s)) (sym (unnamed_is s (out-Schema s) refl)) (layer_sound (out-Schema s) h)

  marked_sound : (ms : List Schema) → has_marked (has_base Has) ms ≡ true → IsNullFirst Inner (marked_word (base_word Word) ms) (Union (map unnamed ms)) ⊎ IsNullSecond Inner (marked_word (base_word Word) ms) (Union (map unnamed ms))
  marked_sound [] h = absurd (false_true h)
  marked_sound (a ∷ []) h = absurd (false_true h)
  marked_sound (a ∷ b ∷ c ∷ ms) h = absurd (false_true h)
  marked_sound (a ∷ b ∷ []) h = by (is_null a) refl h
    where
      unnamed_null : (s : Schema) → is_null s ≡ true → unnamed s ≡ Null
      unnamed_null s e = ap unnamed (null_is s e) ∙ null_unnamed

      by : (n : Bool) → is_null a ≡ n → (if n then has_base Has b else (is_null b && has_base Has a)) ≡ true
          → IsNullFirst Inner (if n then base_word Word b ++ codes "?" else base_word Word a ++ codes "!") (Union (unnamed a ∷ unnamed b ∷ []))
          ⊎ IsNullSecond Inner (if n then base_word Word b ++ codes "?" else base_word Word a ++ codes "!") (Union (unnamed a ∷ unnamed b ∷ []))
      by true e i = inl (base_word Word b, unnamed b, base_sound b i, refl, ap (λ z. Union (z ∷ unnamed b ∷ [])) (unnamed_null a e))
      by false e i =
          let parts = and_parts (is_null b) (has_base Has a) i in
          inr (base_word Word a, unnamed a, base_sound a parts.1, refl, ap (λ z. Union (unnamed a ∷ z ∷ [])) (unnamed_null b parts.0))

pub printed_is_word : (depth : ℕ) (s : Schema) → has_type depth s ≡ true → IsType depth (type_word depth s) (unnamed s)
printed_is_word zero s h = absurd (false_true h)
printed_is_word (suc depth) s h = by (λ t i. printed_is_word depth t i) (members_of s) refl h
  where
    by : ((t : Schema) → has_type depth t ≡ true → IsType depth (type_word depth t) (unnamed t)) → (m : Option (List Schema)) → members_of s ≡ m → option_map_or (has_marked (has_base (has_type depth))) m (has_base (has_type depth) s) ≡ true
        → IsType (suc depth) (option_map_or (marked_word (base_word (type_word depth))) m (base_word (type_word depth) s)) (unnamed s)
    by below None e i = inl (base_sound (IsType depth) (has_type depth) (type_word depth) below s i)
    by below (Some ms) e i =
        let is : unnamed s ≡ Union (map unnamed ms) = ap unnamed (union_is s ms e) ∙ unnamed_is (Union ms) (layer.Union ms) (variant.outs-Union ms) in
        inr (subst (λ z. IsNullFirst (IsType depth) (marked_word (base_word (type_word depth)) ms) z ⊎ IsNullSecond (IsType depth) (marked_word (base_word (type_word depth)) ms) z) (sym is)
        (marked_sound (IsType depth) (has_type depth) (type_word depth) below ms i))
