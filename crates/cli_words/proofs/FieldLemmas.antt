-- Fields with semicolons between them, one after another: the scan for a field's end tells the first.
use Rattle.std.proofs.Common.{◌≡◌, ℕ, ◌+◌, List, [], ◌∷◌, ◌++◌, length, length-append, drop, inl, inr, sym, ap, ◌∙◌, refl, arith, subst, append_assoc, append-nil}
use Rattle.avro_schema.specs.declared.schema.AvroField.{AvroField}
use Rattle.cli_words.specs.FieldEnd.{field_length}
use Rattle.cli_words.specs.Types.{IsNamed, AreNamed, AreFields, IsType}
use Rattle.cli_words.proofs.FieldEnds.{named_passed, type_passed}
use Rattle.cli_words.proofs.Bytes.{head_or}

-- two texts cut at the same byte, after as many bytes
same_cut : (c : ℕ) (prefix other back more : List ℕ) → length prefix ≡ length other → prefix ++ (c ∷ back) ≡ other ++ (c ∷ more) → (prefix ≡ other) × (back ≡ more)
unfolding head_or
same_cut c [] [] back more n e = (refl, ap (drop 1) e)
same_cut c [] (y ∷ ys) back more n e = absurd (omega (arith, n))
same_cut c (x ∷ xs) [] back more n e = absurd (omega (arith, n))
same_cut c (x ∷ xs) (y ∷ ys) back more n e =
    let rest = same_cut c xs ys back more (omega (arith, n)) (ap (drop 1) e) in
    let first : x ≡ y = ap (head_or 0) e in
    ((λ i. first i ∷ rest.0 i), rest.1)

-- the scan finds no end
abbrev pub Whole : List ℕ → Type 0
Whole text = field_length 0 text ≡ length text

-- the first field and what follows its semicolon
abbrev pub Split : List ℕ → List ℕ → List ℕ → Type 0
Split text one back = (text ≡ one ++ (59 ∷ back)) × (length one ≡ field_length 0 text)

not_both : (text one back : List ℕ) → Whole text → Split text one back → ⊥
not_both text one back whole split = omega (arith, whole, split.1, ap length split.0, length-append one (59 ∷ back))

module _ (depth : ℕ) where
  named_end : (text one back : List ℕ) (f : AvroField) → IsNamed (IsType depth) one f → text ≡ one ++ (59 ∷ back) → Split text one back
  named_end text one back f h at =
      let scan : field_length 0 (one ++ (59 ∷ back)) ≡ length one + 0 = named_passed (IsType depth) (type_passed depth) one f h 0 (59 ∷ back) in
      (at, omega (arith, ap (field_length 0) at, scan))

  named_whole : (text : List ℕ) (f : AvroField) → IsNamed (IsType depth) text f → Whole text
  named_whole text f h =
      let scan : field_length 0 (text ++ []) ≡ length text + 0 = named_passed (IsType depth) (type_passed depth) text f h 0 [] in
      omega (arith, ap (field_length 0) (append-nil text), scan)

  pub one_split : (text one other back more : List ℕ) → Split text one back → Split text other more → (one ≡ other) × (back ≡ more)
  one_split text one other back more p q = same_cut 59 one other back more (p.1 ∙ sym q.1) (sym p.0 ∙ q.0)

  -- a field before more of them
  pub field_first : (text one back : List ℕ) (f : AvroField) (more : List AvroField) → text ≡ one ++ (59 ∷ back) → IsNamed (IsType depth) one f → AreNamed (IsType depth) back more → AreNamed (IsType depth) text (f ∷ more)
  field_first text one back f [] at named h = absurd h
  field_first text one back f (m ∷ ms) at named h = (one, back, named, at, h)

  -- where the scan finds an end, a field is before it and fields are after it
  pub field_rest : (text one back : List ℕ) (all : List AvroField) → Split text one back → AreNamed (IsType depth) text all
      → ((f : AvroField) × IsNamed (IsType depth) one f) × ((more : List AvroField) × AreNamed (IsType depth) back more)
  field_rest text one back [] split h = absurd h
  field_rest text one back (f ∷ []) split h = absurd (not_both text one back (named_whole text f h) split)
  field_rest text one back (f ∷ g ∷ gs) split (other, rest, named, is, h) =
      let same = one_split text one other back rest split (named_end text other rest f named is) in
      ((f, subst (λ z. IsNamed (IsType depth) z f) (sym same.0) named), (g ∷ gs, subst (λ z. AreNamed (IsType depth) z (g ∷ gs)) (sym same.1) h))

  -- where it finds none there is one field
  pub last_field : (text : List ℕ) (all : List AvroField) → Whole text → AreNamed (IsType depth) text all → (f : AvroField) × IsNamed (IsType depth) text f
  last_field text [] whole h = absurd h
  last_field text (f ∷ []) whole h = (f, h)
  last_field text (f ∷ g ∷ gs) whole (other, rest, named, is, h) = absurd (not_both text other rest whole (named_end text other rest f named is))

  -- ---- the loop's turns

  pub sound_more : (inside rest one back : List ℕ) (f : AvroField) (so_far : List AvroField) → rest ≡ one ++ (59 ∷ back) → IsNamed (IsType depth) one f
      → ((more : List AvroField) → AreNamed (IsType depth) rest more → AreNamed (IsType depth) inside (so_far ++ more))
      → (more : List AvroField) → AreNamed (IsType depth) back more → AreNamed (IsType depth) inside ((so_far ++ (f ∷ [])) ++ more)
  sound_more inside rest one back f so_far at named sound more h =
      subst (AreNamed (IsType depth) inside) (sym (append_assoc so_far (f ∷ []) more)) (sound (f ∷ more) (field_first rest one back f more at named h))

  pub complete_more : (inside rest one back : List ℕ) → Split rest one back
      → ((all : List AvroField) → AreNamed (IsType depth) inside all → (more : List AvroField) × AreNamed (IsType depth) rest more)
      → (all : List AvroField) → AreNamed (IsType depth) inside all → (more : List AvroField) × AreNamed (IsType depth) back more
  complete_more inside rest one back split complete all h = let part = complete all h in (field_rest rest one back part.0 split part.1).1

  pub no_field : (inside rest one back : List ℕ) → Split rest one back
      → ((all : List AvroField) → AreNamed (IsType depth) inside all → (more : List AvroField) × AreNamed (IsType depth) rest more) → ((f : AvroField) → IsNamed (IsType depth) one f → ⊥)
      → (all : List AvroField) → AreNamed (IsType depth) inside all → ⊥
  no_field inside rest one back split complete none all h = let part = complete all h in let field = (field_rest rest one back part.0 split part.1).0 in none field.0 field.1

  pub no_last_field : (inside rest : List ℕ) → Whole rest
      → ((all : List AvroField) → AreNamed (IsType depth) inside all → (more : List AvroField) × AreNamed (IsType depth) rest more) → ((f : AvroField) → IsNamed (IsType depth) rest f → ⊥)
      → (all : List AvroField) → AreNamed (IsType depth) inside all → ⊥
  no_last_field inside rest whole complete none all h = let part = complete all h in let field = last_field rest part.0 whole part.1 in none field.0 field.1

  -- no field's text is empty
  named_empty : (f : AvroField) → IsNamed (IsType depth) [] f → ⊥
  named_empty f (name, doc, (type, t, is)) = omega (arith, ap length is, length-append f.name (61 ∷ type))

  pub named_not_empty : (text : List ℕ) (all : List AvroField) → text ≡ [] → AreNamed (IsType depth) text all → ⊥
  named_not_empty text [] e h = h
  named_not_empty text (f ∷ []) e h = named_empty f (subst (λ z. IsNamed (IsType depth) z f) e h)
  named_not_empty text (f ∷ g ∷ gs) e (other, rest, named, is, h) = omega (arith, ap length (sym e ∙ is), length-append other (59 ∷ rest))

  -- ---- one reading

  module _ (one : (word : List ℕ) (f g : AvroField) → IsNamed (IsType depth) word f → IsNamed (IsType depth) word g → f ≡ g) where
    one_named_fields : (text : List ℕ) (xs ys : List AvroField) → AreNamed (IsType depth) text xs → AreNamed (IsType depth) text ys → xs ≡ ys
    one_named_fields text [] ys h d = absurd h
    one_named_fields text (x ∷ []) [] h d = absurd d
    one_named_fields text (x ∷ []) (y ∷ []) h d = ap (λ z. z ∷ []) (one text x y h d)
    one_named_fields text (x ∷ []) (y ∷ z ∷ zs) h (part, rest, named, is, d) = absurd (not_both text part rest (named_whole text x h) (named_end text part rest y named is))
    one_named_fields text (x ∷ z ∷ zs) [] h d = absurd d
    one_named_fields text (x ∷ z ∷ zs) (y ∷ []) (part, rest, named, is, h) d = absurd (not_both text part rest (named_whole text y d) (named_end text part rest x named is))
    one_named_fields text (x ∷ z ∷ zs) (y ∷ w ∷ ws) (part, rest, name, is, h) (other, back, named, so, d) =
        let same = one_split text part other rest back (named_end text part rest x name is) (named_end text other back y named so) in
        let first = one other x y (subst (λ v. IsNamed (IsType depth) v x) same.0 name) named in
        let more = one_named_fields back (z ∷ zs) (w ∷ ws) (subst (λ v. AreNamed (IsType depth) v (z ∷ zs)) same.1 h) d in
        λ i. first i ∷ more i

    pub one_fields : (text : List ℕ) (xs ys : List AvroField) → AreFields (IsType depth) text xs → AreFields (IsType depth) text ys → xs ≡ ys
    one_fields text xs ys (inl none) (inl also) = none.1 ∙ sym also.1
    one_fields text xs ys (inl none) (inr d) = absurd (named_not_empty text ys none.0 d)
    one_fields text xs ys (inr h) (inl none) = absurd (named_not_empty text xs none.0 h)
    one_fields text xs ys (inr h) (inr d) = one_named_fields text xs ys h d
