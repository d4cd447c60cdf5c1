-- The last byte of a type tells its form.
use Rattle.std.proofs.Common.{◌≡◌, ◌≢◌, ℕ, ◌≤◌, List, [], ◌∷◌, ◌++◌, codes, ◌⊎◌, inl, inr, Some, None, sym, ap, ◌∙◌, refl, arith, subst}
use Rattle.std.proofs.lemmas.List.{append_cancel_right}
use Rattle.avro_schema.specs.declared.schema.Schema.{Schema, Null, Boolean, Int, Long, Float, Double, Bytes, String, Fixed}
use Rattle.avro_schema.specs.declared.schema.IntLogical.TheVariants as int_logical
use Rattle.avro_schema.specs.declared.schema.LongLogical.TheVariants as long_logical
use Rattle.avro_schema.specs.declared.schema.StringLogical.TheVariants as string_logical
use Rattle.cli_words.specs.Types.{IsPlain, IsSized, IsEnum, IsRecord, IsList, IsBase, IsNullFirst, IsNullSecond}

abbrev pub last_or : ℕ → List ℕ → ℕ
last_or d [] = d
last_or d (x ∷ xs) = last_or x xs

pub last_is : (d : ℕ) (xs : List ℕ) (x : ℕ) → last_or d (xs ++ (x ∷ [])) ≡ x
last_is d [] x = refl
last_is d (y ∷ ys) x = last_is y ys x

pub last_of : (word prefix : List ℕ) (x : ℕ) → word ≡ prefix ++ (x ∷ []) → last_or 0 word ≡ x
last_of word prefix x e = ap (last_or 0) e ∙ last_is 0 prefix x

-- a letter
abbrev IsLetter : ℕ → Type 0
IsLetter x = (97 ≤ x) × (x ≤ 122)

ends : (word text : List ℕ) (x : ℕ) → word ≡ text → last_or 0 text ≡ x → last_or 0 word ≡ x
ends word text x e is = ap (last_or 0) e ∙ is

letter : (word : List ℕ) (x : ℕ) → last_or 0 word ≡ x → 97 ≤ x → x ≤ 122 → IsLetter (last_or 0 word)
letter word x is low high = (omega (arith, is, low), omega (arith, is, high))

pub plain_ends : (word : List ℕ) (s : Schema) → IsPlain word s → IsLetter (last_or 0 word)
plain_ends word Null e = letter word 108 (ap (last_or 0) e) (omega arith) (omega arith)
plain_ends word Boolean e = letter word 110 (ap (last_or 0) e) (omega arith) (omega arith)
plain_ends word (Int None) e = letter word 116 (ap (last_or 0) e) (omega arith) (omega arith)
plain_ends word (Int (Some int_logical.Date)) e = letter word 101 (ap (last_or 0) e) (omega arith) (omega arith)
plain_ends word (Int (Some int_logical.Time)) e = letter word 115 (ap (last_or 0) e) (omega arith) (omega arith)
plain_ends word (Long None) e = letter word 103 (ap (last_or 0) e) (omega arith) (omega arith)
plain_ends word (Long (Some long_logical.Time)) e = letter word 115 (ap (last_or 0) e) (omega arith) (omega arith)
plain_ends word (Long (Some long_logical.TimestampMillis)) e = letter word 115 (ap (last_or 0) e) (omega arith) (omega arith)
plain_ends word (Long (Some long_logical.TimestampMicros)) e = letter word 115 (ap (last_or 0) e) (omega arith) (omega arith)
plain_ends word (Long (Some long_logical.TimestampNanos)) e = letter word 115 (ap (last_or 0) e) (omega arith) (omega arith)
plain_ends word (Long (Some long_logical.LocalTimestampMillis)) e = letter word 115 (ap (last_or 0) e) (omega arith) (omega arith)
plain_ends word (Long (Some long_logical.LocalTimestampMicros)) e = letter word 115 (ap (last_or 0) e) (omega arith) (omega arith)
plain_ends word (Long (Some long_logical.LocalTimestampNanos)) e = letter word 115 (ap (last_or 0) e) (omega arith) (omega arith)
plain_ends word Float e = letter word 116 (ap (last_or 0) e) (omega arith) (omega arith)
plain_ends word Double e = letter word 101 (ap (last_or 0) e) (omega arith) (omega arith)
plain_ends word (Bytes None) e = letter word 115 (ap (last_or 0) e) (omega arith) (omega arith)
plain_ends word (String None) e = letter word 103 (ap (last_or 0) e) (omega arith) (omega arith)
plain_ends word (String (Some string_logical.Uuid)) e = letter word 100 (ap (last_or 0) e) (omega arith) (omega arith)
plain_ends word (Fixed f) e = letter word 110 (ap (last_or 0) e.0) (omega arith) (omega arith)
plain_ends word _ e = absurd e

pub sized_ends : (word : List ℕ) (s : Schema) → IsSized word s → last_or 0 word ≡ 41
sized_ends word s (text, inl (f, is)) = ap (last_or 0) is ∙ last_is 40 text 41
sized_ends word s (text, inr (d, is)) = ap (last_or 0) is ∙ last_is 40 text 41

pub enum_ends : (word : List ℕ) (s : Schema) → IsEnum word s → last_or 0 word ≡ 62
enum_ends word s (inside, symbols, are, is, e) = ap (last_or 0) is ∙ last_is 60 inside 62

pub record_ends : (Inner : List ℕ → Schema → Type 0) (word : List ℕ) (s : Schema) → IsRecord Inner word s → last_or 0 word ≡ 125
record_ends Inner word s (inside, fields, are, is, e) = ap (last_or 0) is ∙ last_is 123 inside 125

pub list_ends : (Inner : List ℕ → Schema → Type 0) (word : List ℕ) (s : Schema) → IsList Inner word s → last_or 0 word ≡ 93
list_ends Inner word s (inside, item, is_type, is, e) = ap (last_or 0) is ∙ last_is 91 inside 93

module _ (Inner : List ℕ → Schema → Type 0) (word : List ℕ) where
  pub only_list : (s : Schema) → last_or 0 word ≡ 93 → IsBase Inner word s → IsList Inner word s
  only_list s at (inl p) = let l = plain_ends word s p in absurd (omega (arith, at, l.0))
  only_list s at (inr (inl p)) = absurd (omega (arith, at, sized_ends word s p))
  only_list s at (inr (inr (inl p))) = absurd (omega (arith, at, enum_ends word s p))
  only_list s at (inr (inr (inr (inl p)))) = absurd (omega (arith, at, record_ends Inner word s p))
  only_list s at (inr (inr (inr (inr p)))) = p

  pub only_record : (s : Schema) → last_or 0 word ≡ 125 → IsBase Inner word s → IsRecord Inner word s
  only_record s at (inl p) = let l = plain_ends word s p in absurd (omega (arith, at, l.1))
  only_record s at (inr (inl p)) = absurd (omega (arith, at, sized_ends word s p))
  only_record s at (inr (inr (inl p))) = absurd (omega (arith, at, enum_ends word s p))
  only_record s at (inr (inr (inr (inl p)))) = p
  only_record s at (inr (inr (inr (inr p)))) = absurd (omega (arith, at, list_ends Inner word s p))

  pub only_enum : (s : Schema) → last_or 0 word ≡ 62 → IsBase Inner word s → IsEnum word s
  only_enum s at (inl p) = let l = plain_ends word s p in absurd (omega (arith, at, l.0))
  only_enum s at (inr (inl p)) = absurd (omega (arith, at, sized_ends word s p))
  only_enum s at (inr (inr (inl p))) = p
  only_enum s at (inr (inr (inr (inl p)))) = absurd (omega (arith, at, record_ends Inner word s p))
  only_enum s at (inr (inr (inr (inr p)))) = absurd (omega (arith, at, list_ends Inner word s p))

  pub only_sized : (s : Schema) → last_or 0 word ≡ 41 → IsBase Inner word s → IsSized word s
  only_sized s at (inl p) = let l = plain_ends word s p in absurd (omega (arith, at, l.0))
  only_sized s at (inr (inl p)) = p
  only_sized s at (inr (inr (inl p))) = absurd (omega (arith, at, enum_ends word s p))
  only_sized s at (inr (inr (inr (inl p)))) = absurd (omega (arith, at, record_ends Inner word s p))
  only_sized s at (inr (inr (inr (inr p)))) = absurd (omega (arith, at, list_ends Inner word s p))

  -- a base ends with no mark
  pub no_mark : (s : Schema) (x : ℕ) → IsBase Inner word s → last_or 0 word ≡ x → (x ≡ 33) ⊎ (x ≡ 63) → ⊥
  no_mark s x (inl p) at mark = let l = plain_ends word s p in from mark
    where
      from : (x ≡ 33) ⊎ (x ≡ 63) → ⊥
      from (inl e) = omega (arith, at, e, (plain_ends word s p).0)
      from (inr e) = omega (arith, at, e, (plain_ends word s p).0)
  no_mark s x (inr (inl p)) at (inl e) = omega (arith, at, e, sized_ends word s p)
  no_mark s x (inr (inl p)) at (inr e) = omega (arith, at, e, sized_ends word s p)
  no_mark s x (inr (inr (inl p))) at (inl e) = omega (arith, at, e, enum_ends word s p)
  no_mark s x (inr (inr (inl p))) at (inr e) = omega (arith, at, e, enum_ends word s p)
  no_mark s x (inr (inr (inr (inl p)))) at (inl e) = omega (arith, at, e, record_ends Inner word s p)
  no_mark s x (inr (inr (inr (inl p)))) at (inr e) = omega (arith, at, e, record_ends Inner word s p)
  no_mark s x (inr (inr (inr (inr p)))) at (inl e) = omega (arith, at, e, list_ends Inner word s p)
  no_mark s x (inr (inr (inr (inr p)))) at (inr e) = omega (arith, at, e, list_ends Inner word s p)

  -- no bracket at either end, and no closing parenthesis: a type of one word
  pub only_plain : ((inside : List ℕ) → word ≢ (91 ∷ []) ++ (inside ++ (93 ∷ []))) → ((inside : List ℕ) → word ≢ (123 ∷ []) ++ (inside ++ (125 ∷ [])))
      → ((inside : List ℕ) → word ≢ (60 ∷ []) ++ (inside ++ (62 ∷ []))) → ((prefix : List ℕ) → word ≢ prefix ++ (41 ∷ [])) → (s : Schema) → IsBase Inner word s → IsPlain word s
  only_plain no_list no_record no_enum no_sized s (inl p) = p
  only_plain no_list no_record no_enum no_sized s (inr (inl (text, inl (f, is)))) = absurd (no_sized (codes "fixed(" ++ text) is)
  only_plain no_list no_record no_enum no_sized s (inr (inl (text, inr (d, is)))) = absurd (no_sized (codes "decimal(" ++ text) is)
  only_plain no_list no_record no_enum no_sized s (inr (inr (inl (inside, symbols, are, is, e)))) = absurd (no_enum inside is)
  only_plain no_list no_record no_enum no_sized s (inr (inr (inr (inl (inside, fields, are, is, e))))) = absurd (no_record inside is)
  only_plain no_list no_record no_enum no_sized s (inr (inr (inr (inr (inside, item, is_type, is, e))))) = absurd (no_list inside is)

  -- ---- marks

  pub no_null_first : (base : List ℕ) → word ≡ base ++ (63 ∷ []) → ((s : Schema) → IsBase Inner base s → ⊥)
      → (s : Schema) → IsBase Inner word s ⊎ (IsNullFirst Inner word s ⊎ IsNullSecond Inner word s) → ⊥
  no_null_first base e none s (inl b) = no_mark s 63 b (last_of word base 63 e) (inr refl)
  no_null_first base e none s (inr (inl (prefix, item, b, is, u))) = none item (subst (λ z. IsBase Inner z item) (append_cancel_right prefix base (63 ∷ []) (sym is ∙ e)) b)
  no_null_first base e none s (inr (inr (prefix, item, b, is, u))) = omega (arith, last_of word base 63 e, last_of word prefix 33 is)

  pub no_null_second : (base : List ℕ) → word ≡ base ++ (33 ∷ []) → ((s : Schema) → IsBase Inner base s → ⊥)
      → (s : Schema) → IsBase Inner word s ⊎ (IsNullFirst Inner word s ⊎ IsNullSecond Inner word s) → ⊥
  no_null_second base e none s (inl b) = no_mark s 33 b (last_of word base 33 e) (inl refl)
  no_null_second base e none s (inr (inl (prefix, item, b, is, u))) = omega (arith, last_of word base 33 e, last_of word prefix 63 is)
  no_null_second base e none s (inr (inr (prefix, item, b, is, u))) = none item (subst (λ z. IsBase Inner z item) (append_cancel_right prefix base (33 ∷ []) (sym is ∙ e)) b)

  pub no_type : ((prefix : List ℕ) → word ≢ prefix ++ (63 ∷ [])) → ((prefix : List ℕ) → word ≢ prefix ++ (33 ∷ [])) → ((s : Schema) → IsBase Inner word s → ⊥)
      → (s : Schema) → IsBase Inner word s ⊎ (IsNullFirst Inner word s ⊎ IsNullSecond Inner word s) → ⊥
  no_type p q none s (inl b) = none s b
  no_type p q none s (inr (inl (prefix, item, b, is, u))) = p prefix is
  no_type p q none s (inr (inr (prefix, item, b, is, u))) = q prefix is
