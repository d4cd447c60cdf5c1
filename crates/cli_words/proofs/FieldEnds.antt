-- No text of a type has a semicolon outside of its braces, and its braces are balanced: the scan for a field's end passes it.
use Rattle.std.proofs.Common.{◌≡◌, ◌≢◌, ℕ, zero, suc, ◌+◌, ◌-◌, ◌<◌, ◌==◌, ◌&&◌, if◌then◌else◌, List, [], ◌∷◌, ◌++◌, length, length-append, append_assoc, get_or, take, drop, codes, ◌⊎◌, inl, inr, Some, None, sym, ap, ◌∙◌, refl, arith, subst, true, false}
use Rattle.std.specs.Prelude.{IsTrue}
use Rattle.std.specs.List.{list_all}
use Rattle.std.proofs.lemmas.Bool.{ne_eqb}
use Rattle.std.proofs.lemmas.Bool.Decides.{eqb_tells}
use Rattle.std.proofs.lemmas.List.{take-append-drop}
use Rattle.std.proofs.Math.Seq.{drop-cons}
use Rattle.avro_schema.specs.declared.schema.AvroField.{AvroField}
use Rattle.avro_schema.specs.declared.schema.Schema.{Schema, Null, Boolean, Int, Long, Float, Double, Bytes, String, Fixed}
use Rattle.avro_schema.specs.declared.schema.IntLogical.TheVariants as int_logical
use Rattle.avro_schema.specs.declared.schema.LongLogical.TheVariants as long_logical
use Rattle.avro_schema.specs.declared.schema.StringLogical.TheVariants as string_logical
use Rattle.cli_words.specs.FieldEnd.{field_length, level_after}
use Rattle.cli_words.specs.Names.{name_byte, IsName, IsSize}
use Rattle.cli_words.specs.Types.{IsPlain, IsSized, IsDecimal, AreSymbols, IsEnum, IsNamed, AreNamed, AreFields, IsRecord, IsList, IsBase, IsNullFirst, IsNullSecond, IsType}
use Rattle.cli_words.proofs.Bytes.{Lacks, name_lacks, digits_lack}

-- the scan comes out after the text at the level at which it came in
abbrev pub Passed : ℕ → List ℕ → Type 0
Passed level text = (rest : List ℕ) → field_length level (text ++ rest) ≡ length text + field_length level rest

step : (level b : ℕ) (bs : List ℕ) → b ≢ 59 → b ≢ 123 → b ≢ 125 → field_length level (b ∷ bs) ≡ field_length level bs + 1
step level b bs no_end no_open no_close =
    let e = ne_eqb b 59 no_end in
    let o = ne_eqb b 123 no_open in
    let c = ne_eqb b 125 no_close in
    λ i. if (e i) && (level == 0) then 0 else (field_length (if o i then level + 1 else (if c i then level - 1 else level)) bs + 1)

pub lacking_passed : (text : List ℕ) → Lacks 59 text → Lacks 123 text → Lacks 125 text → (level : ℕ) → Passed level text
lacking_passed [] p q r level rest = omega arith
lacking_passed (b ∷ bs) p q r level rest =
    let one = step level b (bs ++ rest) (p 0 (omega arith)) (q 0 (omega arith)) (r 0 (omega arith)) in
    let more = lacking_passed bs (λ i low. p (suc i) (omega (arith, low))) (λ i low. q (suc i) (omega (arith, low))) (λ i low. r (suc i) (omega (arith, low))) level rest in
    omega (arith, one, more)

pub passed_append : (level : ℕ) (xs ys : List ℕ) → Passed level xs → Passed level ys → Passed level (xs ++ ys)
passed_append level xs ys p q rest =
    let a : field_length level ((xs ++ ys) ++ rest) ≡ field_length level (xs ++ (ys ++ rest)) = ap (field_length level) (append_assoc xs ys rest) in
    omega (arith, a, p (ys ++ rest), q rest, length-append xs ys)

byte_passed : (b level : ℕ) → b ≢ 59 → b ≢ 123 → b ≢ 125 → Passed level (b ∷ [])
byte_passed b level p q r rest = let one = step level b rest p q r in omega (arith, one)

before : (b level : ℕ) (text : List ℕ) → b ≢ 59 → b ≢ 123 → b ≢ 125 → Passed level text → Passed level (b ∷ text)
before b level text p q r h = passed_append level (b ∷ []) text (byte_passed b level p q r) h

after : (b level : ℕ) (text : List ℕ) → b ≢ 59 → b ≢ 123 → b ≢ 125 → Passed level text → Passed level (text ++ (b ∷ []))
after b level text p q r h = passed_append level text (b ∷ []) h (byte_passed b level p q r)

all_passed : (text : List ℕ) → IsTrue (list_all name_byte text) → (level : ℕ) → Passed level text
all_passed text h = lacking_passed text (name_lacks 59 text refl h) (name_lacks 123 text refl h) (name_lacks 125 text refl h)

name_passed : (name : List ℕ) → IsName name → (level : ℕ) → Passed level name
name_passed name h = all_passed name h.1

size_passed : (text : List ℕ) (size : ℕ) → IsSize text size → (level : ℕ) → Passed level text
size_passed text size h = lacking_passed text (digits_lack 59 text (omega arith) h.0.1) (digits_lack 123 text (omega arith) h.0.1) (digits_lack 125 text (omega arith) h.0.1)

-- ---- types of one word, of numbers and of symbols

word_passed : (word text : List ℕ) → word ≡ text → IsTrue (list_all name_byte text) → (level : ℕ) → Passed level word
word_passed word text e h level = subst (Passed level) (sym e) (all_passed text h level)

plain_passed : (word : List ℕ) (s : Schema) → IsPlain word s → (level : ℕ) → Passed level word
plain_passed word Null e = word_passed word _ e refl
plain_passed word Boolean e = word_passed word _ e refl
plain_passed word (Int None) e = word_passed word _ e refl
plain_passed word (Int (Some int_logical.Date)) e = word_passed word _ e refl
plain_passed word (Int (Some int_logical.Time)) e = word_passed word _ e refl
plain_passed word (Long None) e = word_passed word _ e refl
plain_passed word (Long (Some long_logical.Time)) e = word_passed word _ e refl
plain_passed word (Long (Some long_logical.TimestampMillis)) e = word_passed word _ e refl
plain_passed word (Long (Some long_logical.TimestampMicros)) e = word_passed word _ e refl
plain_passed word (Long (Some long_logical.TimestampNanos)) e = word_passed word _ e refl
plain_passed word (Long (Some long_logical.LocalTimestampMillis)) e = word_passed word _ e refl
plain_passed word (Long (Some long_logical.LocalTimestampMicros)) e = word_passed word _ e refl
plain_passed word (Long (Some long_logical.LocalTimestampNanos)) e = word_passed word _ e refl
plain_passed word Float e = word_passed word _ e refl
plain_passed word Double e = word_passed word _ e refl
plain_passed word (Bytes None) e = word_passed word _ e refl
plain_passed word (String None) e = word_passed word _ e refl
plain_passed word (String (Some string_logical.Uuid)) e = word_passed word _ e refl
plain_passed word (Fixed f) e = word_passed word _ e.0 refl
plain_passed word _ e = absurd e

-- two texts with a byte between them
around : (b level : ℕ) (xs ys : List ℕ) → b ≢ 59 → b ≢ 123 → b ≢ 125 → Passed level xs → Passed level ys → Passed level (xs ++ (b ∷ ys))
around b level xs ys p q r h d = passed_append level xs (b ∷ ys) h (before b level ys p q r d)

comma : (level : ℕ) (xs ys : List ℕ) → Passed level xs → Passed level ys → Passed level (xs ++ (44 ∷ ys))
comma level xs ys = around 44 level xs ys (λ e. omega (arith, e)) (λ e. omega (arith, e)) (λ e. omega (arith, e))

decimal_passed : (text : List ℕ) (s : Schema) → IsDecimal text s → (level : ℕ) → Passed level text
decimal_passed text s (inl (p, q, precision, scale, d, is, e)) level =
    subst (Passed level) (sym is) (comma level p q (size_passed p precision d.0 level) (size_passed q scale d.1 level))
decimal_passed text s (inr (p, q, n, precision, scale, size, d, z, is, e)) level =
    subst (Passed level) (sym is) (comma level p (q ++ (44 ∷ n)) (size_passed p precision d.0 level) (comma level q n (size_passed q scale d.1 level) (size_passed n size z level)))

-- a text in parentheses, after a name
called : (name text word : List ℕ) → IsTrue (list_all name_byte name) → ((level : ℕ) → Passed level text) → word ≡ name ++ (40 ∷ (text ++ (41 ∷ []))) → (level : ℕ) → Passed level word
called name text word h d is level =
    subst (Passed level) (sym is) (around 40 level name (text ++ (41 ∷ [])) (λ e. omega (arith, e)) (λ e. omega (arith, e)) (λ e. omega (arith, e)) (all_passed name h level)
    (after 41 level text (λ e. omega (arith, e)) (λ e. omega (arith, e)) (λ e. omega (arith, e)) (d level)))

sized_passed : (word : List ℕ) (s : Schema) → IsSized word s → (level : ℕ) → Passed level word
sized_passed word s (text, inl (f, is)) = called (codes "fixed") text word refl (size_passed text f.0 f.1) is
sized_passed word s (text, inr (d, is)) = called (codes "decimal") text word refl (decimal_passed text s d) is

symbols_passed : (text : List ℕ) (xs : List (List ℕ)) → AreSymbols text xs → (level : ℕ) → Passed level text
symbols_passed text [] h level = absurd h
symbols_passed text (x ∷ []) h level = subst (Passed level) (sym h.1) (name_passed x h.0 level)
symbols_passed text (x ∷ y ∷ ys) (rest, name, is, h) level =
    subst (Passed level) (sym is) (comma level x rest (name_passed x name level) (symbols_passed rest (y ∷ ys) h level))

-- a text between two brackets that are no braces
between : (o c level : ℕ) (text : List ℕ) → o ≢ 59 → o ≢ 123 → o ≢ 125 → c ≢ 59 → c ≢ 123 → c ≢ 125 → Passed level text → Passed level (o ∷ (text ++ (c ∷ [])))
between o c level text a b d e f g h = before o level (text ++ (c ∷ [])) a b d (after c level text e f g h)

enum_passed : (word : List ℕ) (s : Schema) → IsEnum word s → (level : ℕ) → Passed level word
enum_passed word s (inside, symbols, are, is, e) level = subst (Passed level) (sym is)
    (between 60 62 level inside (λ n. omega (arith, n)) (λ n. omega (arith, n)) (λ n. omega (arith, n)) (λ n. omega (arith, n)) (λ n. omega (arith, n)) (λ n. omega (arith, n)) (symbols_passed inside symbols are level))

-- ---- braces

opening : (level : ℕ) (bs : List ℕ) → field_length level (123 ∷ bs) ≡ field_length (suc level) bs + 1
opening level bs = let e : level + 1 ≡ suc level = omega arith in ap (λ n. field_length n bs + 1) e

closing : (level : ℕ) (bs : List ℕ) → field_length (suc level) (125 ∷ bs) ≡ field_length level bs + 1
closing level bs = let e : suc level - 1 ≡ level = omega arith in ap (λ n. field_length n bs + 1) e

semicolon : (level : ℕ) (bs : List ℕ) → field_length (suc level) (59 ∷ bs) ≡ field_length (suc level) bs + 1
semicolon level bs = let e = ne_eqb (suc level) 0 (λ n. omega (arith, n)) in λ i. if true && (e i) then 0 else (field_length (suc level) bs + 1)

braced : (level : ℕ) (text : List ℕ) → Passed (suc level) text → Passed level (123 ∷ (text ++ (125 ∷ [])))
braced level text h rest =
    let a : field_length (suc level) ((text ++ (125 ∷ [])) ++ rest) ≡ field_length (suc level) (text ++ (125 ∷ rest)) = ap (field_length (suc level)) (append_assoc text (125 ∷ []) rest) in
    omega (arith, opening level ((text ++ (125 ∷ [])) ++ rest), a, h (125 ∷ rest), closing level rest, length-append text (125 ∷ []))

-- ---- types that stand in types

module _ (Inner : List ℕ → Schema → Type 0) (passed : (word : List ℕ) (s : Schema) → Inner word s → (level : ℕ) → Passed level word) where
  pub named_passed : (word : List ℕ) (f : AvroField) → IsNamed Inner word f → (level : ℕ) → Passed level word
  named_passed word f (name, doc, (type, t, is)) level = subst (Passed level) (sym is)
      (around 61 level f.name type (λ e. omega (arith, e)) (λ e. omega (arith, e)) (λ e. omega (arith, e)) (name_passed f.name name level) (passed type f.schema t level))

  fields_passed : (text : List ℕ) (fs : List AvroField) → AreNamed Inner text fs → (level : ℕ) → Passed (suc level) text
  fields_passed text [] h level = absurd h
  fields_passed text (f ∷ []) h level = named_passed text f h (suc level)
  fields_passed text (f ∷ g ∷ gs) (one, rest, named, is, h) level = subst (Passed (suc level)) (sym is)
      (passed_append (suc level) one (59 ∷ rest) (named_passed one f named (suc level))
      (passed_append (suc level) (59 ∷ []) rest (λ z. omega (arith, semicolon level z)) (fields_passed rest (g ∷ gs) h level)))

  inside_passed : (text : List ℕ) (fs : List AvroField) → AreFields Inner text fs → (level : ℕ) → Passed (suc level) text
  inside_passed text fs (inl none) level = subst (Passed (suc level)) (sym none.0) (λ rest. omega arith)
  inside_passed text fs (inr h) level = fields_passed text fs h level

  record_passed : (word : List ℕ) (s : Schema) → IsRecord Inner word s → (level : ℕ) → Passed level word
  record_passed word s (inside, fields, are, is, e) level = subst (Passed level) (sym is) (braced level inside (inside_passed inside fields are level))

  list_passed : (word : List ℕ) (s : Schema) → IsList Inner word s → (level : ℕ) → Passed level word
  list_passed word s (inside, item, type, is, e) level = subst (Passed level) (sym is)
      (between 91 93 level inside (λ n. omega (arith, n)) (λ n. omega (arith, n)) (λ n. omega (arith, n)) (λ n. omega (arith, n)) (λ n. omega (arith, n)) (λ n. omega (arith, n)) (passed inside item type level))

  base_passed : (word : List ℕ) (s : Schema) → IsBase Inner word s → (level : ℕ) → Passed level word
  base_passed word s (inl p) = plain_passed word s p
  base_passed word s (inr (inl p)) = sized_passed word s p
  base_passed word s (inr (inr (inl p))) = enum_passed word s p
  base_passed word s (inr (inr (inr (inl p)))) = record_passed word s p
  base_passed word s (inr (inr (inr (inr p)))) = list_passed word s p

  marked_passed : (word : List ℕ) (s : Schema) → IsBase Inner word s ⊎ (IsNullFirst Inner word s ⊎ IsNullSecond Inner word s) → (level : ℕ) → Passed level word
  marked_passed word s (inl b) level = base_passed word s b level
  marked_passed word s (inr (inl (base, item, b, is, e))) level = subst (Passed level) (sym is)
      (after 63 level base (λ n. omega (arith, n)) (λ n. omega (arith, n)) (λ n. omega (arith, n)) (base_passed base item b level))
  marked_passed word s (inr (inr (base, item, b, is, e))) level = subst (Passed level) (sym is)
      (after 33 level base (λ n. omega (arith, n)) (λ n. omega (arith, n)) (λ n. omega (arith, n)) (base_passed base item b level))

pub type_passed : (depth : ℕ) (word : List ℕ) (s : Schema) → IsType depth word s → (level : ℕ) → Passed level word
type_passed zero word s h = absurd h
type_passed (suc depth) word s h = marked_passed (IsType depth) (type_passed depth) word s h

-- ---- where the scan ends: after the text, or at a semicolon in it

abbrev pub Ends : ℕ → List ℕ → Type 0
Ends level text = (field_length level text ≡ length text) ⊎ ((field_length level text < length text) × (get_or text (field_length level text) 0 ≡ 59))

ends_more : (level b : ℕ) (bs : List ℕ) → field_length level (b ∷ bs) ≡ field_length (level_after b level) bs + 1 → Ends (level_after b level) bs → Ends level (b ∷ bs)
ends_more level b bs scan (inl all) = inl (omega (arith, scan, all))
ends_more level b bs scan (inr (low, at)) =
    let next : field_length level (b ∷ bs) ≡ suc (field_length (level_after b level) bs) = omega (arith, scan) in
    inr (omega (arith, scan, low), ap (λ n. get_or (b ∷ bs) n 0) next ∙ at)

ends_turn : (level b : ℕ) (bs : List ℕ) → (((b == 59) ≡ true) × (b ≡ 59)) ⊎ (((b == 59) ≡ false) × (b ≢ 59)) → (((level == 0) ≡ true) × (level ≡ 0)) ⊎ (((level == 0) ≡ false) × (level ≢ 0))
    → Ends (level_after b level) bs → Ends level (b ∷ bs)
ends_turn level b bs (inl (e, is)) (inl (z, at)) more =
    let scan : field_length level (b ∷ bs) ≡ 0 = λ i. if (e i) && (z i) then 0 else (field_length (level_after b level) bs + 1) in
    inr (omega (arith, scan), ap (λ n. get_or (b ∷ bs) n 0) scan ∙ is)
ends_turn level b bs (inl (e, is)) (inr (z, other)) more =
    ends_more level b bs (λ i. if (e i) && (z i) then 0 else (field_length (level_after b level) bs + 1)) more
ends_turn level b bs (inr (e, other)) either more =
    ends_more level b bs (λ i. if (e i) && (level == 0) then 0 else (field_length (level_after b level) bs + 1)) more

pub ends : (level : ℕ) (text : List ℕ) → Ends level text
ends level [] = inl refl
ends level (b ∷ bs) = ends_turn level b bs (eqb_tells b 59) (eqb_tells level 0) (ends (level_after b level) bs)

pub cut : (text : List ℕ) (end : ℕ) → end ≡ field_length 0 text → end ≢ length text → (end < length text) × (get_or text end 0 ≡ 59)
cut text end is other = from (ends 0 text)
  where
    from : Ends 0 text → (end < length text) × (get_or text end 0 ≡ 59)
    from (inl all) = absurd (other (is ∙ all))
    from (inr (low, at)) = (omega (arith, is, low), ap (λ n. get_or text n 0) is ∙ at)

pub cut_is : (text : List ℕ) (end : ℕ) → end < length text → get_or text end 0 ≡ 59 → text ≡ take end text ++ (59 ∷ drop (end + 1) text)
cut_is text end low at =
    let next : suc end ≡ end + 1 = omega arith in
    sym (take-append-drop end text) ∙ ap (λ z. take end text ++ z) (drop-cons text end 0 low ∙ ap (λ b. b ∷ drop (suc end) text) at ∙ ap (λ n. 59 ∷ drop n text) next)
