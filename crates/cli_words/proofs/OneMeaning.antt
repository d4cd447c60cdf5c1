-- A word means one type at most, and names one field at most.
use Rattle.std.proofs.Common.{◌≡◌, ℕ, zero, suc, ◌==◌, ◌&&◌, if◌then◌else◌, Bool, true, false, Some, None, List, [], ◌∷◌, ◌++◌, drop, codes, ◌⊎◌, inl, inr, refl, sym, ap, subst, ◌∙◌, arith}
use Rattle.std.proofs.lemmas.List.{append_cancel_right}
use Rattle.std.specs.Prelude.{IsTrue}
use Rattle.std.specs.List.{list_all}
use Rattle.avro_schema.specs.declared.schema.AvroField.{AvroField}
use Rattle.avro_schema.specs.declared.schema.Schema.{Schema, Null, Boolean, Int, Long, Float, Double, Bytes, String, Fixed, Array, Union}
use Rattle.avro_schema.specs.declared.schema.IntLogical.TheVariants as int_logical
use Rattle.avro_schema.specs.declared.schema.LongLogical.TheVariants as long_logical
use Rattle.avro_schema.specs.declared.schema.StringLogical.TheVariants as string_logical
use Rattle.avro_schema.specs.declared.schema.BytesLogical.TheVariants as bytes_logical
use Rattle.avro_schema.specs.declared.schema.FixedLogical.TheVariants as fixed_logical
use Rattle.avro_schema.specs.TypeExamples.{fixed_of}
use Rattle.cli_words.specs.Fields.{IsField}
use Rattle.cli_words.specs.Names.{name_byte, IsName, IsSize}
use Rattle.cli_words.specs.Types.{IsPlain, IsDecimal, IsSized, AreSymbols, IsEnum, AreFields, IsRecord, IsList, IsBase, IsNullFirst, IsNullSecond, IsNamed, IsType, record_of, enum_of}
use Rattle.cli_words.proofs.Bytes.{Lacks, false_true, name_lacks, size_lacks, holds, one_cut, head_or}
use Rattle.cli_words.proofs.Ends.{last_of, plain_ends, sized_ends, enum_ends, record_ends, list_ends, no_mark}
use Rattle.cli_words.proofs.FieldLemmas.{one_fields}
use Rattle.cli_words.proofs.SymbolLemmas.{name_has_no_comma}

-- ---- types of one word

abbrev same_word : List ℕ → List ℕ → Bool
same_word [] [] = true
same_word (x ∷ xs) (y ∷ ys) = (x == y) && same_word xs ys
same_word _ _ = false

abbrev plain_of : List ℕ → Schema
plain_of w = if same_word w (codes "null") then Null else (if same_word w (codes "boolean") then Boolean else (if same_word w (codes "int") then Int None
    else (if same_word w (codes "date") then Int (Some int_logical.Date) else (if same_word w (codes "time-millis") then Int (Some int_logical.Time)
    else (if same_word w (codes "long") then Long None else (if same_word w (codes "time-micros") then Long (Some long_logical.Time)
    else (if same_word w (codes "timestamp-millis") then Long (Some long_logical.TimestampMillis) else (if same_word w (codes "timestamp-micros") then Long (Some long_logical.TimestampMicros)
    else (if same_word w (codes "timestamp-nanos") then Long (Some long_logical.TimestampNanos) else (if same_word w (codes "local-timestamp-millis") then Long (Some long_logical.LocalTimestampMillis)
    else (if same_word w (codes "local-timestamp-micros") then Long (Some long_logical.LocalTimestampMicros) else (if same_word w (codes "local-timestamp-nanos") then Long (Some long_logical.LocalTimestampNanos)
    else (if same_word w (codes "float") then Float else (if same_word w (codes "double") then Double else (if same_word w (codes "bytes") then Bytes None
    else (if same_word w (codes "string") then String None else (if same_word w (codes "uuid") then String (Some string_logical.Uuid) else fixed_of 12 (Some fixed_logical.Duration))))))))))))))))))

plain_is : (w : List ℕ) (s : Schema) → IsPlain w s → s ≡ plain_of w
plain_is w Null e = sym (ap plain_of e)
plain_is w Boolean e = sym (ap plain_of e)
plain_is w (Int None) e = sym (ap plain_of e)
plain_is w (Int (Some int_logical.Date)) e = sym (ap plain_of e)
plain_is w (Int (Some int_logical.Time)) e = sym (ap plain_of e)
plain_is w (Long None) e = sym (ap plain_of e)
plain_is w (Long (Some long_logical.Time)) e = sym (ap plain_of e)
plain_is w (Long (Some long_logical.TimestampMillis)) e = sym (ap plain_of e)
plain_is w (Long (Some long_logical.TimestampMicros)) e = sym (ap plain_of e)
plain_is w (Long (Some long_logical.TimestampNanos)) e = sym (ap plain_of e)
plain_is w (Long (Some long_logical.LocalTimestampMillis)) e = sym (ap plain_of e)
plain_is w (Long (Some long_logical.LocalTimestampMicros)) e = sym (ap plain_of e)
plain_is w (Long (Some long_logical.LocalTimestampNanos)) e = sym (ap plain_of e)
plain_is w Float e = sym (ap plain_of e)
plain_is w Double e = sym (ap plain_of e)
plain_is w (Bytes None) e = sym (ap plain_of e)
plain_is w (String None) e = sym (ap plain_of e)
plain_is w (String (Some string_logical.Uuid)) e = sym (ap plain_of e)
plain_is w (Fixed f) e = e.1 ∙ sym (ap plain_of e.0)
plain_is w _ e = absurd e

-- ---- types with numbers

one_size : (text : List ℕ) (m n : ℕ) → IsSize text m → IsSize text n → m ≡ n
one_size text m n h d = h.3 ∙ sym d.3

one_decimal : (text : List ℕ) (s u : Schema) → IsDecimal text s → IsDecimal text u → s ≡ u
one_decimal text s u (inl (p, q, m, n, d, is, e)) (inl (a, b, k, l, c, so, f)) =
    let same = one_cut 44 p a q b (size_lacks p m d.0) (size_lacks a k c.0) (sym is ∙ so) in
    let first : m ≡ k = one_size a m k (subst (λ z. IsSize z m) same.0 d.0) c.0 in
    let second : n ≡ l = one_size b n l (subst (λ z. IsSize z n) same.1 d.1) c.1 in
    e ∙ (λ i. Bytes (Some (bytes_logical.Decimal (first i) (second i)))) ∙ sym f
one_decimal text s u (inl (p, q, m, n, d, is, e)) (inr (a, b, r, k, l, z, c, y, so, f)) =
    let same = one_cut 44 p a q (b ++ (44 ∷ r)) (size_lacks p m d.0) (size_lacks a k c.0) (sym is ∙ so) in
    absurd (holds 44 b r (subst (Lacks 44) same.1 (size_lacks q n d.1)))
one_decimal text s u (inr (a, b, r, k, l, z, c, y, so, f)) (inl (p, q, m, n, d, is, e)) =
    let same = one_cut 44 p a q (b ++ (44 ∷ r)) (size_lacks p m d.0) (size_lacks a k c.0) (sym is ∙ so) in
    absurd (holds 44 b r (subst (Lacks 44) same.1 (size_lacks q n d.1)))
one_decimal text s u (inr (p, q, t, m, n, x, d, w, is, e)) (inr (a, b, r, k, l, z, c, y, so, f)) =
    let same = one_cut 44 p a (q ++ (44 ∷ t)) (b ++ (44 ∷ r)) (size_lacks p m d.0) (size_lacks a k c.0) (sym is ∙ so) in
    let more = one_cut 44 q b t r (size_lacks q n d.1) (size_lacks b l c.1) same.1 in
    let first : m ≡ k = one_size a m k (subst (λ v. IsSize v m) same.0 d.0) c.0 in
    let second : n ≡ l = one_size b n l (subst (λ v. IsSize v n) more.0 d.1) c.1 in
    let third : x ≡ z = one_size r x z (subst (λ v. IsSize v x) more.1 w) y in
    e ∙ (λ i. fixed_of (third i) (Some (fixed_logical.Decimal (first i) (second i)))) ∙ sym f

one_sized : (word : List ℕ) (s u : Schema) → IsSized word s → IsSized word u → s ≡ u
unfolding head_or
one_sized word s u (text, inl (f, is)) (other, inl (g, so)) =
    let same : text ≡ other = append_cancel_right text other (41 ∷ []) (ap (drop 6) (sym is ∙ so)) in
    let size : f.0 ≡ g.0 = one_size other f.0 g.0 (subst (λ z. IsSize z f.0) same f.1) g.1 in
    f.2 ∙ ap (λ z. fixed_of z None) size ∙ sym g.2
one_sized word s u (text, inr (f, is)) (other, inr (g, so)) =
    let same : text ≡ other = append_cancel_right text other (41 ∷ []) (ap (drop 8) (sym is ∙ so)) in
    one_decimal other s u (subst (λ z. IsDecimal z s) same f) g
one_sized word s u (text, inl (f, is)) (other, inr (g, so)) = let same : 102 ≡ 100 = ap (head_or 0) (sym is ∙ so) in absurd (omega (arith, same))
one_sized word s u (text, inr (f, is)) (other, inl (g, so)) = let same : 100 ≡ 102 = ap (head_or 0) (sym is ∙ so) in absurd (omega (arith, same))

-- ---- enums

one_symbols : (text : List ℕ) (xs ys : List (List ℕ)) → AreSymbols text xs → AreSymbols text ys → xs ≡ ys
one_symbols text [] ys h d = absurd h
one_symbols text (x ∷ []) [] h d = absurd d
one_symbols text (x ∷ []) (y ∷ []) h d = ap (λ z. z ∷ []) (sym h.1 ∙ d.1)
one_symbols text (x ∷ []) (y ∷ z ∷ zs) h (rest, name, is, d) = absurd (holds 44 y rest (subst (Lacks 44) (sym h.1 ∙ is) (name_has_no_comma x h.0)))
one_symbols text (x ∷ z ∷ zs) [] h d = absurd d
one_symbols text (x ∷ z ∷ zs) (y ∷ []) (rest, name, is, h) d = absurd (holds 44 x rest (subst (Lacks 44) (sym d.1 ∙ is) (name_has_no_comma y d.0)))
one_symbols text (x ∷ z ∷ zs) (y ∷ w ∷ ws) (rest, name, is, h) (back, named, so, d) =
    let same = one_cut 44 x y rest back (name_has_no_comma x name) (name_has_no_comma y named) (sym is ∙ so) in
    let more = one_symbols back (z ∷ zs) (w ∷ ws) (subst (λ v. AreSymbols v (z ∷ zs)) same.1 h) d in
    λ i. same.0 i ∷ more i

one_enum : (word : List ℕ) (s u : Schema) → IsEnum word s → IsEnum word u → s ≡ u
one_enum word s u (inside, xs, are, is, e) (other, ys, also, so, f) =
    let same : inside ≡ other = append_cancel_right inside other (62 ∷ []) (ap (drop 1) (sym is ∙ so)) in
    e ∙ ap enum_of (one_symbols other xs ys (subst (λ z. AreSymbols z xs) same are) also) ∙ sym f

-- ---- types that stand in types

module _ (depth : ℕ) (one : (word : List ℕ) (s u : Schema) → IsType depth word s → IsType depth word u → s ≡ u) where
  one_list : (word : List ℕ) (s u : Schema) → IsList (IsType depth) word s → IsList (IsType depth) word u → s ≡ u
  one_list word s u (inside, item, type, is, e) (other, part, typed, so, f) =
      let same : inside ≡ other = append_cancel_right inside other (93 ∷ []) (ap (drop 1) (sym is ∙ so)) in
      e ∙ ap Array (one other item part (subst (λ z. IsType depth z item) same type) typed) ∙ sym f

  one_named : (word : List ℕ) (f g : AvroField) → IsNamed (IsType depth) word f → IsNamed (IsType depth) word g → f ≡ g
  one_named word f g (name, doc, (type, t, e)) (named, docs, (typed, u, d)) =
      let same = one_cut 61 f.name g.name type typed (name_lacks 61 f.name refl name.1) (name_lacks 61 g.name refl named.1) (sym e ∙ d) in
      let schema : f.schema ≡ g.schema = one typed f.schema g.schema (subst (λ z. IsType depth z f.schema) same.1 t) u in
      λ i. record { name = same.0 i; doc = (doc ∙ sym docs) i; schema = schema i }

  one_record : (word : List ℕ) (s u : Schema) → IsRecord (IsType depth) word s → IsRecord (IsType depth) word u → s ≡ u
  one_record word s u (inside, xs, are, is, e) (other, ys, also, so, f) =
      let same : inside ≡ other = append_cancel_right inside other (125 ∷ []) (ap (drop 1) (sym is ∙ so)) in
      e ∙ ap record_of (one_fields depth one_named other xs ys (subst (λ z. AreFields (IsType depth) z xs) same are) also) ∙ sym f

  one_base : (word : List ℕ) (s u : Schema) → IsBase (IsType depth) word s → IsBase (IsType depth) word u → s ≡ u
  one_base word s u (inl p) (inl q) = plain_is word s p ∙ sym (plain_is word u q)
  one_base word s u (inl p) (inr (inl q)) = absurd (omega (arith, (plain_ends word s p).0, sized_ends word u q))
  one_base word s u (inl p) (inr (inr (inl q))) = absurd (omega (arith, (plain_ends word s p).0, enum_ends word u q))
  one_base word s u (inl p) (inr (inr (inr (inl q)))) = absurd (omega (arith, (plain_ends word s p).1, record_ends (IsType depth) word u q))
  one_base word s u (inl p) (inr (inr (inr (inr q)))) = absurd (omega (arith, (plain_ends word s p).0, list_ends (IsType depth) word u q))
  one_base word s u (inr (inl p)) (inl q) = absurd (omega (arith, sized_ends word s p, (plain_ends word u q).0))
  one_base word s u (inr (inl p)) (inr (inl q)) = one_sized word s u p q
  one_base word s u (inr (inl p)) (inr (inr (inl q))) = absurd (omega (arith, sized_ends word s p, enum_ends word u q))
  one_base word s u (inr (inl p)) (inr (inr (inr (inl q)))) = absurd (omega (arith, sized_ends word s p, record_ends (IsType depth) word u q))
  one_base word s u (inr (inl p)) (inr (inr (inr (inr q)))) = absurd (omega (arith, sized_ends word s p, list_ends (IsType depth) word u q))
  one_base word s u (inr (inr (inl p))) (inl q) = absurd (omega (arith, enum_ends word s p, (plain_ends word u q).0))
  one_base word s u (inr (inr (inl p))) (inr (inl q)) = absurd (omega (arith, enum_ends word s p, sized_ends word u q))
  one_base word s u (inr (inr (inl p))) (inr (inr (inl q))) = one_enum word s u p q
  one_base word s u (inr (inr (inl p))) (inr (inr (inr (inl q)))) = absurd (omega (arith, enum_ends word s p, record_ends (IsType depth) word u q))
  one_base word s u (inr (inr (inl p))) (inr (inr (inr (inr q)))) = absurd (omega (arith, enum_ends word s p, list_ends (IsType depth) word u q))
  one_base word s u (inr (inr (inr (inl p)))) (inl q) = absurd (omega (arith, record_ends (IsType depth) word s p, (plain_ends word u q).1))
  one_base word s u (inr (inr (inr (inl p)))) (inr (inl q)) = absurd (omega (arith, record_ends (IsType depth) word s p, sized_ends word u q))
  one_base word s u (inr (inr (inr (inl p)))) (inr (inr (inl q))) = absurd (omega (arith, record_ends (IsType depth) word s p, enum_ends word u q))
  one_base word s u (inr (inr (inr (inl p)))) (inr (inr (inr (inl q)))) = one_record word s u p q
  one_base word s u (inr (inr (inr (inl p)))) (inr (inr (inr (inr q)))) = absurd (omega (arith, record_ends (IsType depth) word s p, list_ends (IsType depth) word u q))
  one_base word s u (inr (inr (inr (inr p)))) (inl q) = absurd (omega (arith, list_ends (IsType depth) word s p, (plain_ends word u q).0))
  one_base word s u (inr (inr (inr (inr p)))) (inr (inl q)) = absurd (omega (arith, list_ends (IsType depth) word s p, sized_ends word u q))
  one_base word s u (inr (inr (inr (inr p)))) (inr (inr (inl q))) = absurd (omega (arith, list_ends (IsType depth) word s p, enum_ends word u q))
  one_base word s u (inr (inr (inr (inr p)))) (inr (inr (inr (inl q)))) = absurd (omega (arith, list_ends (IsType depth) word s p, record_ends (IsType depth) word u q))
  one_base word s u (inr (inr (inr (inr p)))) (inr (inr (inr (inr q)))) = one_list word s u p q

  marked : (word prefix back : List ℕ) (x : ℕ) (s u : Schema) → word ≡ prefix ++ (x ∷ []) → word ≡ back ++ (x ∷ []) → IsBase (IsType depth) prefix s → IsBase (IsType depth) back u → s ≡ u
  marked word prefix back x s u p q b d = one_base prefix s u b (subst (λ z. IsBase (IsType depth) z u) (append_cancel_right back prefix (x ∷ []) (sym q ∙ p)) d)

  one_marked : (word : List ℕ) (s u : Schema) → IsBase (IsType depth) word s ⊎ (IsNullFirst (IsType depth) word s ⊎ IsNullSecond (IsType depth) word s)
      → IsBase (IsType depth) word u ⊎ (IsNullFirst (IsType depth) word u ⊎ IsNullSecond (IsType depth) word u) → s ≡ u
  one_marked word s u (inl b) (inl d) = one_base word s u b d
  one_marked word s u (inl b) (inr (inl (base, item, d, is, n))) = absurd (no_mark (IsType depth) word s 63 b (last_of word base 63 is) (inr refl))
  one_marked word s u (inl b) (inr (inr (base, item, d, is, n))) = absurd (no_mark (IsType depth) word s 33 b (last_of word base 33 is) (inl refl))
  one_marked word s u (inr (inl (base, item, b, is, n))) (inl d) = absurd (no_mark (IsType depth) word u 63 d (last_of word base 63 is) (inr refl))
  one_marked word s u (inr (inr (base, item, b, is, n))) (inl d) = absurd (no_mark (IsType depth) word u 33 d (last_of word base 33 is) (inl refl))
  one_marked word s u (inr (inl (base, item, b, is, n))) (inr (inl (other, part, d, so, m))) = n ∙ ap (λ z. Union (Null ∷ z ∷ [])) (marked word base other 63 item part is so b d) ∙ sym m
  one_marked word s u (inr (inr (base, item, b, is, n))) (inr (inr (other, part, d, so, m))) = n ∙ ap (λ z. Union (z ∷ Null ∷ [])) (marked word base other 33 item part is so b d) ∙ sym m
  one_marked word s u (inr (inl (base, item, b, is, n))) (inr (inr (other, part, d, so, m))) = absurd (omega (arith, last_of word base 63 is, last_of word other 33 so))
  one_marked word s u (inr (inr (base, item, b, is, n))) (inr (inl (other, part, d, so, m))) = absurd (omega (arith, last_of word base 33 is, last_of word other 63 so))

pub one_type : (depth : ℕ) (word : List ℕ) (s u : Schema) → IsType depth word s → IsType depth word u → s ≡ u
one_type zero word s u h d = absurd h
one_type (suc depth) word s u h d = one_marked depth (one_type depth) word s u h d

-- ---- fields

tilde_name : (name rest back : List ℕ) → IsName name → 126 ∷ back ≡ name ++ rest → ⊥
unfolding head_or
tilde_name [] rest back h e = absurd (omega (arith, h.0))
tilde_name (b ∷ bs) rest back h e = let same : 126 ≡ b = ap (head_or 0) e in false_true (subst (λ z. IsTrue (list_all name_byte (z ∷ bs))) (sym same) h.1)

pub one_field : (word : List ℕ) (k l : Bool) (f g : AvroField) → IsField word k f → IsField word l g → (k ≡ l) × (f ≡ g)
one_field word true true f g (rest, n, is) (back, m, so) = (refl, one_named 64 (one_type 64) rest f g n (subst (λ z. IsNamed (IsType 64) z g) (sym so ∙ is) m))
one_field word false false f g (rest, n, is) (back, m, so) = (refl, one_named 64 (one_type 64) rest f g n (subst (λ z. IsNamed (IsType 64) z g) (ap (drop 1) (sym so ∙ is)) m))
one_field word true false f g (rest, n, is) (back, m, so) = absurd (tilde_name f.name _ back n.0 (sym so ∙ is ∙ n.2.2))
one_field word false true f g (rest, n, is) (back, m, so) = absurd (tilde_name g.name _ rest m.0 (sym is ∙ so ∙ m.2.2))
