-- Steps of the readers of types: brackets, marks and depth.
use Rattle.std.proofs.Common.{◌≡◌, ◌≢◌, ℕ, zero, suc, ◌-◌, ◌<◌, List, [], ◌∷◌, ◌++◌, drop, ◌⊎◌, inl, inr, Option, Some, None, sym, ap, ◌∙◌, refl, arith, subst, Bool, true, false}
use Rattle.std.proofs.lemmas.List.{append_cancel_right}
use Rattle.std.proofs.lemmas.Option.{none-some}
use Rattle.std.specs.Prelude.{IfSome, MatchOption}
use denote.Ref.{Bor}
use Rattle.avro_schema.specs.declared.schema.AvroField.{AvroField}
use Rattle.avro_schema.specs.declared.schema.Schema.{Schema, Array}
use Rattle.cli_words.specs.Fields.{IsField}
use Rattle.cli_words.specs.Names.{IsName}
use Rattle.cli_words.specs.Types.{IsBase, IsNullFirst, IsNullSecond, IsType, IsList, IsRecord, IsEnum, IsSized, IsNamed, AreFields, AreSymbols, record_of}
use Rattle.cli_words.proofs.Bytes.{Lacks, name_lacks, holds, one_cut}
use Rattle.cli_words.proofs.Ends.{last_of, only_list, only_record, only_enum, only_sized}

-- ---- between brackets

abbrev Ended : ℕ → List ℕ → Option (Bor (List ℕ)) → Type 0
Ended c rest r = MatchOption r ((prefix : List ℕ) → rest ≢ prefix ++ (c ∷ [])) (λ x. rest ≡ x.now ++ (c ∷ []))

pub inside_some : (word rest : List ℕ) (o c : ℕ) (r : Option (Bor (List ℕ))) → word ≡ o ∷ rest → Ended c rest r → IfSome r (λ inside. word ≡ o ∷ (inside.now ++ (c ∷ [])))
inside_some word rest o c None at m = tt
inside_some word rest o c (Some x) at m = at ∙ ap (λ z. o ∷ z) m

pub inside_none : (word rest : List ℕ) (o c : ℕ) (r : Option (Bor (List ℕ))) → word ≡ o ∷ rest → Ended c rest r → r ≡ None → (inside : List ℕ) → word ≡ o ∷ (inside ++ (c ∷ [])) → ⊥
inside_none word rest o c None at m none inside e = m inside (ap (drop 1) (sym at ∙ e))
inside_none word rest o c (Some x) at m none inside e = none-some x (sym none)

pub is_list : (Inner : List ℕ → Schema → Type 0) (word inside : List ℕ) (item s : Schema) → word ≡ 91 ∷ (inside ++ (93 ∷ [])) → Inner inside item → s ≡ Array item → IsBase Inner word s
is_list Inner word inside item s at type e = inr (inr (inr (inr (inside, item, type, at, e))))

pub no_list : (Inner : List ℕ → Schema → Type 0) (word inside : List ℕ) → word ≡ 91 ∷ (inside ++ (93 ∷ [])) → ((s : Schema) → Inner inside s → ⊥) → (s : Schema) → IsBase Inner word s → ⊥
no_list Inner word inside at none s h = from (only_list Inner word s (last_of word (91 ∷ inside) 93 at) h)
  where
    from : IsList Inner word s → ⊥
    from (other, item, type, is, e) = none item (subst (λ z. Inner z item) (append_cancel_right other inside (93 ∷ []) (ap (drop 1) (sym is ∙ at))) type)

pub is_record : (Inner : List ℕ → Schema → Type 0) (word inside : List ℕ) (fields : List AvroField) (s : Schema) → word ≡ 123 ∷ (inside ++ (125 ∷ [])) → AreFields Inner inside fields → s ≡ record_of fields → IsBase Inner word s
is_record Inner word inside fields s at are e = inr (inr (inr (inl (inside, fields, are, at, e))))

pub no_record : (Inner : List ℕ → Schema → Type 0) (word inside : List ℕ) → word ≡ 123 ∷ (inside ++ (125 ∷ [])) → ((fields : List AvroField) → AreFields Inner inside fields → ⊥) → (s : Schema) → IsBase Inner word s → ⊥
no_record Inner word inside at none s h = from (only_record Inner word s (last_of word (123 ∷ inside) 125 at) h)
  where
    from : IsRecord Inner word s → ⊥
    from (other, fields, are, is, e) = none fields (subst (λ z. AreFields Inner z fields) (append_cancel_right other inside (125 ∷ []) (ap (drop 1) (sym is ∙ at))) are)

pub no_enum : (Inner : List ℕ → Schema → Type 0) (word inside : List ℕ) → word ≡ 60 ∷ (inside ++ (62 ∷ [])) → ((symbols : List (List ℕ)) → AreSymbols inside symbols → ⊥) → (s : Schema) → IsBase Inner word s → ⊥
no_enum Inner word inside at none s h = from (only_enum Inner word s (last_of word (60 ∷ inside) 62 at) h)
  where
    from : IsEnum word s → ⊥
    from (other, symbols, are, is, e) = none symbols (subst (λ z. AreSymbols z symbols) (append_cancel_right other inside (62 ∷ []) (ap (drop 1) (sym is ∙ at))) are)

pub is_sized : (Inner : List ℕ → Schema → Type 0) (word sized : List ℕ) (s : Schema) → word ≡ sized ++ (41 ∷ []) → IsSized (sized ++ (41 ∷ [])) s → IsBase Inner word s
is_sized Inner word sized s at h = inr (inl (subst (λ z. IsSized z s) (sym at) h))

pub no_sized : (Inner : List ℕ → Schema → Type 0) (word sized : List ℕ) → word ≡ sized ++ (41 ∷ []) → ((s : Schema) → IsSized (sized ++ (41 ∷ [])) s → ⊥) → (s : Schema) → IsBase Inner word s → ⊥
no_sized Inner word sized at none s h = none s (subst (λ z. IsSized z s) at (only_sized Inner word s (last_of word sized 41 at) h))

-- ---- depth

abbrev pub Marked : ℕ → List ℕ → Schema → Type 0
Marked depth word s = IsBase (IsType depth) word s ⊎ (IsNullFirst (IsType depth) word s ⊎ IsNullSecond (IsType depth) word s)

pub is_type : (depth : ℕ) (word : List ℕ) (s : Schema) → 0 < depth → Marked (depth - 1) word s → IsType depth word s
is_type zero word s low h = absurd (omega (arith, low))
is_type (suc depth) word s low h = let e : suc depth - 1 ≡ depth = omega arith in subst (λ n. Marked n word s) e h

pub type_is : (depth : ℕ) (word : List ℕ) (s : Schema) → IsType depth word s → Marked (depth - 1) word s
type_is zero word s h = absurd h
type_is (suc depth) word s h = let e : depth ≡ suc depth - 1 = omega arith in subst (λ n. Marked n word s) e h

-- ---- names of fields

pub no_mark_no_field : (Inner : List ℕ → Schema → Type 0) (word : List ℕ) → Lacks 61 word → (field : AvroField) → IsNamed Inner word field → ⊥
no_mark_no_field Inner word lacks field (name, doc, (type, t, is)) = holds 61 field.name type (subst (Lacks 61) is lacks)

pub named_parts : (Inner : List ℕ → Schema → Type 0) (word prefix back : List ℕ) → word ≡ prefix ++ (61 ∷ back) → Lacks 61 prefix → (field : AvroField) → IsNamed Inner word field → IsName prefix × Inner back field.schema
named_parts Inner word prefix back at lacks field (name, doc, (type, t, is)) =
    let same = one_cut 61 prefix field.name back type lacks (name_lacks 61 field.name refl name.1) (sym at ∙ is) in
    (subst IsName (sym same.0) name, subst (λ z. Inner z field.schema) (sym same.1) t)

pub named : (Inner : List ℕ → Schema → Type 0) (word prefix back : List ℕ) (field : AvroField) → word ≡ prefix ++ (61 ∷ back) → IsName prefix → field.name ≡ prefix → field.doc ≡ None → Inner back field.schema → IsNamed Inner word field
named Inner word prefix back field at name is doc type = (subst IsName (sym is) name, doc, (back, type, at ∙ ap (λ z. z ++ (61 ∷ back)) (sym is)))

-- ---- the tilde

name_before_tilde : (name : List ℕ) → IsName name → Lacks 126 name
name_before_tilde name h = name_lacks 126 name refl h.1

abbrev first_or : List ℕ → ℕ
first_or [] = 0
first_or (x ∷ xs) = x

tilde_name : (name rest back : List ℕ) → IsName name → 126 ∷ back ≡ name ++ rest → ⊥
tilde_name [] rest back h e = absurd (omega (arith, h.0))
tilde_name (b ∷ bs) rest back h e = name_before_tilde (b ∷ bs) h 0 (omega arith) (sym (ap first_or e))

pub no_tilde_field : (word rest : List ℕ) → word ≡ 126 ∷ rest → ((field : AvroField) → IsNamed (IsType 64) rest field → ⊥) → (is_kept : Bool) (field : AvroField) → IsField word is_kept field → ⊥
no_tilde_field word rest e none true field (same, named, is) = tilde_name field.name _ rest named.0 (sym e ∙ is ∙ named.2.2)
no_tilde_field word rest e none false field (back, named, is) = none field (subst (λ z. IsNamed (IsType 64) z field) (ap (drop 1) (sym is ∙ e)) named)

pub no_plain_field : (word : List ℕ) → ((rest : List ℕ) → word ≢ 126 ∷ rest) → ((field : AvroField) → IsNamed (IsType 64) word field → ⊥) → (is_kept : Bool) (field : AvroField) → IsField word is_kept field → ⊥
no_plain_field word unlike none true field (back, named, is) = none field (subst (λ z. IsNamed (IsType 64) z field) (sym is) named)
no_plain_field word unlike none false field (back, named, is) = unlike back is
