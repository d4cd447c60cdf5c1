-- A type that has a word is printed as one, and no word of it is shorter.
use Rattle.std.proofs.Common.{◌≡◌, ◌∙◌, ◌⊎◌, inl, inr, ℕ, zero, suc, ◌<◌, ◌≤◌, ◌^◌, ◌==◌, ◌&&◌, nat_le, Bool, true, false, if◌then◌else◌, List, [], ◌∷◌, ◌++◌, length, map, codes, decimal, Option, Some, None, refl, sym, ap, subst, append_assoc, append-nil, length-append, arith}
use Rattle.std.proofs.lemmas.Option.{same_Some, none-some}
use Rattle.std.proofs.lemmas.Fmt.{length-decimal-le}
use Rattle.std.proofs.lemmas.Int.Digits.{digits_value-lt}
use Rattle.std.proofs.lemmas.Bool.Decides.{nat_tests}
use Rattle.std.specs.List.{list_all}
use Rattle.std.specs.Option.{option_map_or, option_map}
use Rattle.std.specs.Str.Parse.{digits_value}
use Rattle.avro_schema.specs.declared.schema.AvroField.{AvroField}
use Rattle.avro_schema.specs.declared.schema.Record.{out-Record, out-roll-Record}
use Rattle.avro_schema.specs.declared.schema.Schema.{Schema, out-Schema, roll-Schema, roll-out-Schema, Null, Boolean, Int, Long, Float, Double, Bytes, String, Union, Fixed}
use Rattle.avro_schema.specs.declared.schema.Schema.TheOpen as layer
use Rattle.avro_schema.specs.declared.schema.Schema.TheVariants as variant
use Rattle.avro_schema.specs.declared.schema.IntLogical.TheVariants as int_logical
use Rattle.avro_schema.specs.declared.schema.LongLogical.TheVariants as long_logical
use Rattle.avro_schema.specs.declared.schema.StringLogical.TheVariants as string_logical
use Rattle.avro_schema.specs.declared.schema.BytesLogical.TheVariants as bytes_logical
use Rattle.avro_schema.specs.declared.schema.FixedLogical.{FixedLogical}
use Rattle.avro_schema.specs.declared.schema.FixedLogical.TheVariants as fixed_logical
use Rattle.avro_schema.specs.TypeExamples.{fixed_of}
use Rattle.avro_schema.specs.Encodes.{is_null}
use Rattle.cli_words.specs.Names.{IsName, IsSize}
use Rattle.cli_words.specs.Printed.{unnamed, is_name_text, is_size, are_digits, has_fixed, has_symbols, has_field, layer_has_base, has_base, members_of, has_marked, has_type, joined, fixed_word, field_word, layer_word, base_word, marked_word, type_word, type_text, IsTypeText}
use Rattle.cli_words.specs.Types.{IsPlain, AreDigits, AreSymbols, AreNamed, AreFields, IsNamed, IsBase, IsNullFirst, IsNullSecond, IsType}
use Rattle.cli_words.proofs.Bytes.{false_true}
use Rattle.cli_words.proofs.PrintLaws.{both, printed_is_word, le_true}
use Rattle.cli_words.proofs.Unnamed.{Layer, unnamed_field, bare, out_unnamed, name_is, schema_is, null_is, null_unnamed, union_is, members_union, members_unnamed}

-- a test passes, and the word is no longer than this one
abbrev NoLonger : Bool → List ℕ → List ℕ → Type 0
NoLonger test printed word = (test ≡ true) × (length printed ≤ length word)

same_length : (a b : List ℕ) → b ≡ a → length a ≤ length b
same_length a b e = let same : length b ≡ length a = ap length e in omega (arith, same)

around : (a x y z word : List ℕ) → length x ≤ length y → word ≡ a ++ (y ++ z) → length (a ++ (x ++ z)) ≤ length word
around a x y z word le e =
    let same : length word ≡ length (a ++ (y ++ z)) = ap length e in
    omega (arith, same, length-append a (y ++ z), length-append y z, length-append a (x ++ z), length-append x z)

-- two parts with something between them
beside : (x y b z w : List ℕ) → length x ≤ length y → length z ≤ length w → length (x ++ (b ++ z)) ≤ length (y ++ (b ++ w))
beside x y b z w p q = omega (arith, p, q, length-append x (b ++ z), length-append b z, length-append y (b ++ w), length-append b w)

eq_true : (m n : ℕ) → m ≡ n → (m == n) ≡ true
eq_true m n l = grind (arith, nat_tests, l)

-- ---- names and numbers

name_text : (word : List ℕ) → IsName word → is_name_text word ≡ true
name_text [] h = absurd (omega (arith, h.0))
name_text (b ∷ bs) h = h.1

size_least : (word : List ℕ) (n : ℕ) → IsSize word n → NoLonger (is_size n) (decimal n) word
size_least word n h =
    let below : digits_value 10 word < 10 ^ length word = digits_value-lt 10 word h.0.1 in
    let fits : n < 10 ^ length word = subst (λ z. z < 10 ^ length word) (sym h.3) below in
    (le_true n 2147483647 h.2, length-decimal-le (length word) n h.0.0 fits (omega (arith, h.2)))

digits_least : (a b : List ℕ) (p s : ℕ) → AreDigits a b p s → NoLonger (are_digits p s) (decimal p ++ (codes "," ++ decimal s)) (a ++ (codes "," ++ b))
digits_least a b p s h =
    let first = size_least a p h.0 in
    let second = size_least b s h.1 in (
      both (is_size p) (is_size s && (nat_le 1 p && nat_le s p)) first.0 (both (is_size s) (nat_le 1 p && nat_le s p) second.0 (both (nat_le 1 p) (nat_le s p) (le_true 1 p h.2) (le_true s p h.3))),
      beside (decimal p) a (codes ",") (decimal s) b first.1 second.1,
    )

-- ---- what a word of a base is, by the layer of the base

abbrev FixedParts : List ℕ → ℕ → Option FixedLogical → Type 0
FixedParts word size None = (text : List ℕ) × IsSize text size × (word ≡ codes "fixed(" ++ (text ++ codes ")"))
FixedParts word size (Some fixed_logical.Duration) = (word ≡ codes "duration") × (size ≡ 12)
FixedParts word size (Some (fixed_logical.Decimal p s)) = (a : List ℕ) × (b : List ℕ) × (n : List ℕ) × AreDigits a b p s × IsSize n size
    × (word ≡ codes "decimal(" ++ ((a ++ (codes "," ++ (b ++ (codes "," ++ n)))) ++ codes ")"))

module _ (Inner : List ℕ → Schema → Type 0) where
  abbrev Parts : List ℕ → Layer → Type 0
  Parts word (layer.Bytes (Some (bytes_logical.Decimal p s))) = (a : List ℕ) × (b : List ℕ) × AreDigits a b p s × (word ≡ codes "decimal(" ++ ((a ++ (codes "," ++ b)) ++ codes ")"))
  Parts word (layer.Fixed f) = FixedParts word f.size f.logical
  Parts word (layer.Enum e) = (inside : List ℕ) × AreSymbols inside e.symbols × (word ≡ codes "<" ++ (inside ++ codes ">"))
  Parts word (layer.Record r) = (inside : List ℕ) × AreFields Inner inside (out-Record r).fields × (word ≡ codes "{" ++ (inside ++ codes "}"))
  Parts word (layer.Array item) = (inside : List ℕ) × Inner inside item × (word ≡ codes "[" ++ (inside ++ codes "]"))
  Parts word (layer.Map value) = ⊥
  Parts word (layer.Union members) = ⊥
  Parts word l = word ≡ layer_word (λ _. []) l

  at_fixed : (word : List ℕ) (size : ℕ) (logical : Option FixedLogical) (s : Schema) → s ≡ fixed_of size logical → FixedParts word size logical → Parts word (out-Schema s)
  at_fixed word size logical s e h = subst (Parts word) (sym (ap out-Schema e ∙ variant.outs-Fixed _)) h

  plain_parts : (word : List ℕ) (s : Schema) → IsPlain word s → Parts word (out-Schema s)
  plain_parts word Null e = subst (Parts word) (sym variant.outs-Null) e
  plain_parts word Boolean e = subst (Parts word) (sym variant.outs-Boolean) e
  plain_parts word (Int None) e = subst (Parts word) (sym (variant.outs-Int None)) e
  plain_parts word (Int (Some int_logical.Date)) e = subst (Parts word) (sym (variant.outs-Int _)) e
  plain_parts word (Int (Some int_logical.Time)) e = subst (Parts word) (sym (variant.outs-Int _)) e
  plain_parts word (Long None) e = subst (Parts word) (sym (variant.outs-Long None)) e
  plain_parts word (Long (Some long_logical.Time)) e = subst (Parts word) (sym (variant.outs-Long _)) e
  plain_parts word (Long (Some long_logical.TimestampMillis)) e = subst (Parts word) (sym (variant.outs-Long _)) e
  plain_parts word (Long (Some long_logical.TimestampMicros)) e = subst (Parts word) (sym (variant.outs-Long _)) e
  plain_parts word (Long (Some long_logical.TimestampNanos)) e = subst (Parts word) (sym (variant.outs-Long _)) e
  plain_parts word (Long (Some long_logical.LocalTimestampMillis)) e = subst (Parts word) (sym (variant.outs-Long _)) e
  plain_parts word (Long (Some long_logical.LocalTimestampMicros)) e = subst (Parts word) (sym (variant.outs-Long _)) e
  plain_parts word (Long (Some long_logical.LocalTimestampNanos)) e = subst (Parts word) (sym (variant.outs-Long _)) e
  plain_parts word Float e = subst (Parts word) (sym variant.outs-Float) e
  plain_parts word Double e = subst (Parts word) (sym variant.outs-Double) e
  plain_parts word (Bytes None) e = subst (Parts word) (sym (variant.outs-Bytes None)) e
  plain_parts word (String None) e = subst (Parts word) (sym (variant.outs-String None)) e
  plain_parts word (String (Some string_logical.Uuid)) e = subst (Parts word) (sym (variant.outs-String _)) e
  plain_parts word (Fixed f) e = at_fixed word 12 (Some fixed_logical.Duration) (Fixed f) e.1 (e.0, refl)
  plain_parts word _ e = absurd e

  base_parts : (word : List ℕ) (s : Schema) → IsBase Inner word s → Parts word (out-Schema s)
  base_parts word s (inl p) = plain_parts word s p
  base_parts word s (inr (inl (text, inl ((size, is_size, e), is)))) = at_fixed word size None s e (text, is_size, is)
  base_parts word s (inr (inl (text, inr (inl (a, b, p, q, digits, t, e), is)))) =
      subst (Parts word) (sym (ap out-Schema e ∙ variant.outs-Bytes _)) (a, b, digits, is ∙ ap (λ z. codes "decimal(" ++ (z ++ codes ")")) t)
  base_parts word s (inr (inl (text, inr (inr (a, b, n, p, q, size, digits, is_size, t, e), is)))) =
      at_fixed word size (Some (fixed_logical.Decimal p q)) s e (a, b, n, digits, is_size, is ∙ ap (λ z. codes "decimal(" ++ (z ++ codes ")")) t)
  base_parts word s (inr (inr (inl (inside, symbols, are, is, e)))) = subst (Parts word) (sym (ap out-Schema e ∙ variant.outs-Enum _)) (inside, are, is)
  base_parts word s (inr (inr (inr (inl (inside, fields, are, is, e))))) =
      subst (Parts word) (sym (ap out-Schema e ∙ variant.outs-Record _)) (inside, subst (λ fs. AreFields Inner inside fs) (sym (ap (λ o. o.fields) (out-roll-Record _))) are, is)
  base_parts word s (inr (inr (inr (inr (inside, item, type, is, e))))) = subst (Parts word) (sym (ap out-Schema e ∙ variant.outs-Array _)) (inside, type, is)

-- ---- symbols

symbols_least : (inside x : List ℕ) (xs : List (List ℕ)) → AreSymbols inside (x ∷ xs) → NoLonger (list_all is_name_text (x ∷ xs)) (joined (codes ",") (x ∷ xs)) inside
symbols_least inside x [] h = (both (is_name_text x) true (name_text x h.0) refl, same_length (x ++ []) inside (h.1 ∙ sym (append-nil x)))
symbols_least inside x (y ∷ ys) (rest, name, is, more) =
    let next = symbols_least rest y ys more in
    let here : length x ≤ length x = omega arith in
    let all : length (x ++ (codes "," ++ joined (codes ",") (y ∷ ys))) ≤ length (x ++ (codes "," ++ rest)) = beside x x (codes ",") (joined (codes ",") (y ∷ ys)) rest here next.1 in
    (both (is_name_text x) (list_all is_name_text (y ∷ ys)) (name_text x name) next.0, subst (λ z. length (x ++ (codes "," ++ joined (codes ",") (y ∷ ys))) ≤ length z) (sym is) all)

enum_least : (inside : List ℕ) (xs : List (List ℕ)) → AreSymbols inside xs → NoLonger (has_symbols xs) (joined (codes ",") xs) inside
enum_least inside [] h = absurd h
enum_least inside (x ∷ xs) h = symbols_least inside x xs h

-- ---- null

is_null_of : (s : Schema) → unnamed s ≡ Null → is_null s ≡ true
is_null_of s h = from (out-Schema s) refl
  where
    at : (l : Layer) → out-Schema s ≡ l → bare l ≡ layer.Null
    at l e = sym (out_unnamed s l e) ∙ ap out-Schema h ∙ variant.outs-Null

    from : (l : Layer) → out-Schema s ≡ l → is_null s ≡ true
    from layer.Null e = ap is_null (sym (roll-out-Schema s) ∙ ap roll-Schema e ∙ variant.rolls-Null)
    from layer.Boolean e = let no = at layer.Boolean e in absurd cc
    from (layer.Int logical) e = let no = at (layer.Int logical) e in absurd cc
    from (layer.Long logical) e = let no = at (layer.Long logical) e in absurd cc
    from layer.Float e = let no = at layer.Float e in absurd cc
    from layer.Double e = let no = at layer.Double e in absurd cc
    from (layer.Bytes logical) e = let no = at (layer.Bytes logical) e in absurd cc
    from (layer.String logical) e = let no = at (layer.String logical) e in absurd cc
    from (layer.Record r) e = let no = at (layer.Record r) e in absurd cc
    from (layer.Enum n) e = let no = at (layer.Enum n) e in absurd cc
    from (layer.Array item) e = let no = at (layer.Array item) e in absurd cc
    from (layer.Map value) e = let no = at (layer.Map value) e in absurd cc
    from (layer.Union members) e = let no = at (layer.Union members) e in absurd cc
    from (layer.Fixed f) e = let no = at (layer.Fixed f) e in absurd cc

-- ---- types in types

module _ (Inner : List ℕ → Schema → Type 0) (Has : Schema → Bool) (Word : Schema → List ℕ) (least : (word : List ℕ) (s : Schema) → Inner word (unnamed s) → NoLonger (Has s) (Word s) word) where
  field_least : (word : List ℕ) (f : AvroField) → IsNamed Inner word (unnamed_field f) → NoLonger (has_field Has f) (field_word Word f) word
  field_least word f (name, doc, (type, t, is)) =
      let inner = least type f.schema (subst (Inner type) (schema_is f) t) in
      let at : word ≡ f.name ++ (codes "=" ++ type) = is ∙ ap (λ n. n ++ (codes "=" ++ type)) (name_is f) in
      let here : length f.name ≤ length f.name = omega arith in
      let all : length (f.name ++ (codes "=" ++ Word f.schema)) ≤ length (f.name ++ (codes "=" ++ type)) = beside f.name f.name (codes "=") (Word f.schema) type here inner.1 in
      (both (is_name_text f.name) (Has f.schema) (name_text f.name (subst IsName (name_is f) name)) inner.0, subst (λ z. length (field_word Word f) ≤ length z) (sym at) all)

  list_least : (inside : List ℕ) (f : AvroField) (fs : List AvroField) → AreNamed Inner inside (map unnamed_field (f ∷ fs)) → NoLonger (list_all (has_field Has) (f ∷ fs)) (joined (codes ";") (map (field_word Word) (f ∷ fs))) inside
  list_least inside f [] h =
      let one = field_least inside f h in
      (both (has_field Has f) true one.0 refl, subst (λ z. length z ≤ length inside) (sym (append-nil (field_word Word f))) one.1)
  list_least inside f (g ∷ gs) (one, rest, named, is, more) =
      let first = field_least one f named in
      let next = list_least rest g gs more in (
        both (has_field Has f) (list_all (has_field Has) (g ∷ gs)) first.0 next.0,
        subst (λ z. length (field_word Word f ++ (codes ";" ++ joined (codes ";") (map (field_word Word) (g ∷ gs)))) ≤ length z) (sym is)
            (beside (field_word Word f) one (codes ";") (joined (codes ";") (map (field_word Word) (g ∷ gs))) rest first.1 next.1),
      )

  fields_least : (inside : List ℕ) (fs : List AvroField) → AreFields Inner inside (map unnamed_field fs) → NoLonger (list_all (has_field Has) fs) (joined (codes ";") (map (field_word Word) fs)) inside
  fields_least inside [] h = (refl, omega arith)
  fields_least inside (f ∷ fs) (inl none) = absurd (no_fields f fs none.1)
    where
      no_fields : (f : AvroField) (fs : List AvroField) → map unnamed_field (f ∷ fs) ≡ [] → ⊥
      no_fields f fs e = let same : length (map unnamed_field (f ∷ fs)) ≡ 0 = ap length e in omega (arith, same)
  fields_least inside (f ∷ fs) (inr named) = list_least inside f fs named

  fixed_least : (word : List ℕ) (size : ℕ) (logical : Option FixedLogical) → FixedParts word size logical → NoLonger (has_fixed size logical) (fixed_word size logical) word
  fixed_least word size None (text, is_text, is) =
      let number = size_least text size is_text in
      (number.0, around (codes "fixed(") (decimal size) text (codes ")") word number.1 is)
  fixed_least word size (Some fixed_logical.Duration) h = (eq_true size 12 h.1, same_length (codes "duration") word h.0)
  fixed_least word size (Some (fixed_logical.Decimal p s)) (a, b, n, digits, is_n, is) =
      let two = digits_least a b p s digits in
      let number = size_least n size is_n in
      let at : word ≡ codes "decimal(" ++ (((a ++ (codes "," ++ b)) ++ (codes "," ++ n)) ++ codes ")") = is ∙ simp append_assoc in
      let printed : fixed_word size (Some (fixed_logical.Decimal p s)) ≡ codes "decimal(" ++ (((decimal p ++ (codes "," ++ decimal s)) ++ (codes "," ++ decimal size)) ++ codes ")") = simp append_assoc in (
        both (are_digits p s) (is_size size) two.0 number.0,
        subst (λ z. length z ≤ length word) (sym printed)
            (around (codes "decimal(") ((decimal p ++ (codes "," ++ decimal s)) ++ (codes "," ++ decimal size)) ((a ++ (codes "," ++ b)) ++ (codes "," ++ n)) (codes ")") word
            (beside (decimal p ++ (codes "," ++ decimal s)) (a ++ (codes "," ++ b)) (codes ",") (decimal size) n two.1 number.1) at),
      )

  layer_least : (word : List ℕ) (l : Layer) → Parts Inner word (bare l) → NoLonger (layer_has_base Has l) (layer_word Word l) word
  layer_least word layer.Null h = (refl, same_length _ word h)
  layer_least word layer.Boolean h = (refl, same_length _ word h)
  layer_least word (layer.Int logical) h = (refl, same_length _ word h)
  layer_least word (layer.Long logical) h = (refl, same_length _ word h)
  layer_least word layer.Float h = (refl, same_length _ word h)
  layer_least word layer.Double h = (refl, same_length _ word h)
  layer_least word (layer.Bytes None) h = (refl, same_length _ word h)
  layer_least word (layer.Bytes (Some (bytes_logical.Decimal p s))) (a, b, digits, is) =
      let two = digits_least a b p s digits in
      (two.0, around (codes "decimal(") (decimal p ++ (codes "," ++ decimal s)) (a ++ (codes "," ++ b)) (codes ")") word two.1 is)
  layer_least word (layer.String logical) h = (refl, same_length _ word h)
  layer_least word (layer.Record r) (inside, are, is) =
      let all = fields_least inside (out-Record r).fields (subst (λ fs. AreFields Inner inside fs) (ap (λ o. o.fields) (out-roll-Record _)) are) in
      (all.0, around (codes "{") (joined (codes ";") (map (field_word Word) (out-Record r).fields)) inside (codes "}") word all.1 is)
  layer_least word (layer.Enum e) (inside, are, is) =
      let all = enum_least inside e.symbols are in
      (all.0, around (codes "<") (joined (codes ",") e.symbols) inside (codes ">") word all.1 is)
  layer_least word (layer.Array item) (inside, type, is) =
      let inner = least inside item type in
      (inner.0, around (codes "[") (Word item) inside (codes "]") word inner.1 is)
  layer_least word (layer.Map value) h = absurd h
  layer_least word (layer.Union members) h = absurd h
  layer_least word (layer.Fixed f) h = fixed_least word f.size f.logical h

  base_least : (word : List ℕ) (s : Schema) → IsBase Inner word (unnamed s) → NoLonger (has_base Has s) (base_word Word s) word
  base_least word s h = layer_least word (out-Schema s) (subst (Parts Inner word) (out_unnamed s (out-Schema s) refl) (base_parts Inner word (unnamed s) h))

  ending : (x y z w word : List ℕ) → length x ≤ length y → length z ≡ length w → word ≡ y ++ w → length (x ++ z) ≤ length word
  ending x y z w word le same e =
      let is : length word ≡ length (y ++ w) = ap length e in
      omega (arith, le, same, is, length-append x z, length-append y w)

  first_least : (word base : List ℕ) (item : Schema) (ms : List Schema) → IsBase Inner base item → word ≡ base ++ codes "?" → map unnamed ms ≡ Null ∷ (item ∷ []) → NoLonger (has_marked (has_base Has) ms) (marked_word (base_word Word) ms) word
  first_least word base item [] b is e = absurd cc
  first_least word base item (x ∷ []) b is e = absurd cc
  first_least word base item (x ∷ y ∷ z ∷ zs) b is e = absurd cc
  first_least word base item (x ∷ y ∷ []) b is e =
      let first : unnamed x ≡ Null = cc in
      let second : unnamed y ≡ item = cc in
      let inner = base_least base y (subst (IsBase Inner base) (sym second) b) in
      subst (λ n. NoLonger (if n then has_base Has y else (is_null y && has_base Has x)) (if n then base_word Word y ++ codes "?" else base_word Word x ++ codes "!") word) (sym (is_null_of x first))
      (inner.0, ending (base_word Word y) base (codes "?") (codes "?") word inner.1 refl is)

  second_least : (word base : List ℕ) (item : Schema) (ms : List Schema) → IsBase Inner base item → word ≡ base ++ codes "!" → map unnamed ms ≡ item ∷ (Null ∷ []) → NoLonger (has_marked (has_base Has) ms) (marked_word (base_word Word) ms) word
  second_least word base item [] b is e = absurd cc
  second_least word base item (x ∷ []) b is e = absurd cc
  second_least word base item (x ∷ y ∷ z ∷ zs) b is e = absurd cc
  second_least word base item (x ∷ y ∷ []) b is e = by (is_null x) refl
    where
      first : unnamed x ≡ item
      first = cc

      second : unnamed y ≡ Null
      second = cc

      by : (n : Bool) → is_null x ≡ n → NoLonger (if n then has_base Has y else (is_null y && has_base Has x)) (if n then base_word Word y ++ codes "?" else base_word Word x ++ codes "!") word
      by true null =
          let same : item ≡ unnamed y = sym first ∙ ap unnamed (null_is x null) ∙ null_unnamed ∙ sym second in
          let inner = base_least base y (subst (IsBase Inner base) same b) in
          (inner.0, ending (base_word Word y) base (codes "?") (codes "!") word inner.1 refl is)
      by false other =
          let inner = base_least base x (subst (IsBase Inner base) (sym first) b) in
          (both (is_null y) (has_base Has x) (is_null_of y second) inner.0, ending (base_word Word x) base (codes "!") (codes "!") word inner.1 refl is)

pub word_is_printed : (depth : ℕ) (word : List ℕ) (s : Schema) → IsType depth word (unnamed s) → (has_type depth s ≡ true) × (length (type_word depth s) ≤ length word)
word_is_printed zero word s h = absurd h
word_is_printed (suc depth) word s h = by (λ v t i. word_is_printed depth v t i) (members_of s) refl h
  where
    members : (m : Option (List Schema)) (others : List Schema) → members_of s ≡ m → unnamed s ≡ Union others → option_map (map unnamed) m ≡ Some others
    members m others e u = sym (ap (option_map (map unnamed)) e) ∙ sym (members_unnamed s) ∙ ap members_of u ∙ members_union others

    by : ((v : List ℕ) (t : Schema) → IsType depth v (unnamed t) → NoLonger (has_type depth t) (type_word depth t) v) → (m : Option (List Schema)) → members_of s ≡ m → IsBase (IsType depth) word (unnamed s) ⊎ (IsNullFirst (IsType depth) word (unnamed s) ⊎ IsNullSecond (IsType depth) word (unnamed s))
        → NoLonger (option_map_or (has_marked (has_base (has_type depth))) m (has_base (has_type depth) s)) (option_map_or (marked_word (base_word (type_word depth))) m (base_word (type_word depth) s)) word
    by below None e (inl b) = base_least (IsType depth) (has_type depth) (type_word depth) below word s b
    by below None e (inr (inl (base, item, b, is, u))) = absurd (none-some (Null ∷ (item ∷ [])) (members None (Null ∷ (item ∷ [])) e u))
    by below None e (inr (inr (base, item, b, is, u))) = absurd (none-some (item ∷ (Null ∷ [])) (members None (item ∷ (Null ∷ [])) e u))
    by below (Some ms) e (inl b) =
        absurd (subst (Parts (IsType depth) word) (out_unnamed s (layer.Union ms) (ap out-Schema (union_is s ms e) ∙ variant.outs-Union ms)) (base_parts (IsType depth) word (unnamed s) b))
    by below (Some ms) e (inr (inl (base, item, b, is, u))) =
        first_least (IsType depth) (has_type depth) (type_word depth) below word base item ms b is (same_Some (map unnamed ms) (Null ∷ (item ∷ [])) (members (Some ms) (Null ∷ (item ∷ [])) e u))
    by below (Some ms) e (inr (inr (base, item, b, is, u))) =
        second_least (IsType depth) (has_type depth) (type_word depth) below word base item ms b is (same_Some (map unnamed ms) (item ∷ (Null ∷ [])) (members (Some ms) (item ∷ (Null ∷ [])) e u))

abbrev TextAt : ℕ → Schema → List ℕ → Type 0
TextAt depth s text =
    (IsType depth text (unnamed s) × ((word : List ℕ) → IsType depth word (unnamed s) → length text ≤ length word))
    ⊎ ((text ≡ codes "-") × ((word : List ℕ) → IsType depth word (unnamed s) → ⊥))

text_at : (depth : ℕ) (s : Schema) (b : Bool) → has_type depth s ≡ b → TextAt depth s (if b then type_word depth s else codes "-")
text_at depth s true e = inl (printed_is_word depth s e, λ word t. (word_is_printed depth word s t).1)
text_at depth s false e = inr (refl, λ word t. false_true (sym e ∙ (word_is_printed depth word s t).0))

pub printed_is_right : (s : Schema) → IsTypeText s (type_text s)
unfolding type_text
printed_is_right s = text_at 64 s (has_type 64 s) refl
