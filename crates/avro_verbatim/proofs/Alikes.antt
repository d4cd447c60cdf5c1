-- Schemas are alike where their parts are.
use Rattle.std.proofs.Common.{◌≡◌, inl, inr, ℕ, zero, suc, ◌+◌, ◌<◌, ◌≤◌, ℤ, pos, negsuc, true, List, [], ◌∷◌, length, map, Option, None, refl, sym, ap, ◌∙◌, subst, get_or, drop, drop-cons, add-one, arith}
use Rattle.std.specs.Prelude.{All, Bool}
use Rattle.std.specs.List.{AllByRecursion}
use Rattle.std.proofs.lemmas.List.{drop_all}
use Rattle.std.proofs.lemmas.List.Elements.{All-from_recursion}
use Rattle.arrow_core.specs.declared.slot.Slot.{Slot}
use Rattle.avro_schema.specs.declared.schema.AvroField.{AvroField}
use Rattle.avro_schema.specs.declared.schema.FixedLogical.{FixedLogical}
use Rattle.avro_schema.specs.declared.schema.Record.{Record as TheRecord, out-Record}
use Rattle.avro_schema.specs.declared.schema.Schema.{Schema, Null, Array, Union, Record}
use Rattle.avro_schema.specs.Parts.{Grammar, Many, BlockOf, Blocks, last, block}
use Rattle.avro_schema.specs.Encodes.{Encodes, EncodesFixed}
use Rattle.avro_schema.specs.Listed.{EncodesMemberOf, EncodesFieldsOf, EncodesUnionOf}
use Rattle.avro_schema.specs.Rows.{Pieces, Row, Rows}
use Rattle.avro_schema.specs.ValidBlock.{EnumsFit, KeptEnumsFit, kept}
use Rattle.avro_schema.proofs.ByLists.{encodes_array, encodes_union, encodes_record, moved}
use Rattle.avro_schema.proofs.TypeLemmas.{enum_composites}
use Rattle.avro_verbatim.specs.Alike.{AreAlike, MayBeCopied}

-- ---- arrays

module _ {A : Type 0} (P Q : Grammar A) (f : (bytes : List ℕ) (x : A) → P bytes x → Q bytes x) where
  pub many_alike : (n : ℕ) (bytes : List ℕ) (xs : List A) → Many P n bytes xs → Many Q n bytes xs
  many_alike zero bytes xs h = h
  many_alike (suc n) bytes xs h =
      record { prefix = h.prefix; back = h.back; joined = h.joined; value = h.value; first = f h.prefix h.value h.first; second = (h.second.0, h.second.1, many_alike n h.back h.second.0 h.second.2) }

  block_alike : (count : ℤ) (bytes : List ℕ) (xs : List A) → BlockOf P count bytes xs → BlockOf Q count bytes xs
  block_alike (pos zero) bytes xs h = h
  block_alike (pos (suc n)) bytes xs h = (h.0, many_alike (suc n) bytes xs h.1)
  block_alike (negsuc n) bytes xs h = (
    h.0,
    record { prefix = h.1.prefix; back = h.1.back; joined = h.1.joined; value = h.1.value; first = h.1.first; second = (h.1.second.0, many_alike (suc n) h.1.back xs h.1.second.1) },
  )

  blocks_alike : {bytes : List ℕ} {xs : List A} → Blocks P bytes xs → Blocks Q bytes xs
  blocks_alike (last n) = last n
  blocks_alike (block prefix items rest count xs ys n b more) = block prefix items rest count xs ys n (block_alike count items xs b) (blocks_alike more)

array_alike : (s t : Schema) → MayBeCopied s t → MayBeCopied (Array s) (Array t)
array_alike s t h = record {
  encodes = λ bytes x e.
      let m = moved (λ i. encodes_array t i bytes x) e in
      moved (λ i. sym (encodes_array s) i bytes x) (record { value = m.value; encoded = blocks_alike (Encodes t) (Encodes s) h.encodes m.encoded; allowed = tt; means = m.means });
  symbols = (enum_composites.array s).1 h.symbols;
  some = λ n. n;
}

pub of_array : (s t a b i j : Schema) → s ≡ Array a → t ≡ Array b → i ≡ a → j ≡ b → MayBeCopied i j → MayBeCopied s t
of_array s t a b i j e d x y h = subst (λ (z : Schema). MayBeCopied z t) (ap Array x ∙ sym e) (subst (λ (z : Schema). MayBeCopied (Array i) z) (ap Array y ∙ sym d) (array_alike i j h))

-- ---- unions

member_alike : (s t : Schema) → MayBeCopied s t → (k : ℕ) (bytes : List ℕ) (x : Slot) → k < 2 → EncodesMemberOf (Null ∷ t ∷ []) k bytes x → EncodesMemberOf (Null ∷ s ∷ []) k bytes x
member_alike s t h zero bytes x l e = e
member_alike s t h (suc zero) bytes x l (inl e) = inl (h.encodes bytes x e)
member_alike s t h (suc zero) bytes x l (inr e) = absurd (h.some e.0)
member_alike s t h (suc (suc k)) bytes x l e = absurd (omega (arith, l))

union_alike : (s t : Schema) → MayBeCopied s t → MayBeCopied (Union (Null ∷ s ∷ [])) (Union (Null ∷ t ∷ []))
union_alike s t h = record {
  encodes = λ bytes x e.
      let u : EncodesUnionOf (Null ∷ t ∷ []) bytes x = moved (λ i. encodes_union (Null ∷ t ∷ []) i bytes x) e in
      let k = u.second.0 in
      let o : EncodesUnionOf (Null ∷ s ∷ []) bytes x = record { prefix = u.prefix; back = u.back; joined = u.joined; value = u.value; first = u.first; second = (k, u.second.1, u.second.2, member_alike s t h k u.back x u.second.2 u.second.3) } in
      moved (λ i. sym (encodes_union (Null ∷ s ∷ [])) i bytes x) o;
  symbols = (enum_composites.union (Null ∷ s ∷ [])).1 (All-from_recursion EnumsFit (Null ∷ s ∷ []) ((λ n. n), (h.symbols, tt)));
  some = λ n. n;
}

-- a list of two
two_are : {A : Type 0} (xs : List A) (a b : A) → 2 ≤ length xs → length xs < 3 → a ≡ get_or xs 0 a → b ≡ get_or xs 1 b → xs ≡ a ∷ b ∷ []
two_are [] a b l h e d = absurd (omega (arith, l))
two_are (x ∷ []) a b l h e d = absurd (omega (arith, l))
two_are (x ∷ y ∷ []) a b l h e d = rw (e, d) refl
two_are (x ∷ y ∷ z ∷ more) a b l h e d = absurd (omega (arith, h))

pub union_is : (ms : List Schema) (a s : Schema) → 2 ≤ length ms → length ms < 3 → a ≡ get_or ms 0 a → s ≡ get_or ms 1 s → a ≡ Null → ms ≡ Null ∷ s ∷ []
union_is ms a s l h e d n = two_are ms a s l h e d ∙ ap (λ (z : Schema). z ∷ s ∷ []) n

pub of_union : (ms ns : List Schema) (s t : Schema) → ms ≡ Null ∷ s ∷ [] → ns ≡ Null ∷ t ∷ [] → MayBeCopied s t → MayBeCopied (Union ms) (Union ns)
of_union ms ns s t e d h =
    subst (λ (zs : List Schema). MayBeCopied (Union zs) (Union ns)) (sym e) (subst (λ (zs : List Schema). MayBeCopied (Union (Null ∷ s ∷ [])) (Union zs)) (sym d) (union_alike s t h))

-- ---- records

fields_alike : (fs gs : List AvroField) → AreAlike fs gs → (bytes : List ℕ) (xs : List Slot) → EncodesFieldsOf gs bytes xs → EncodesFieldsOf fs bytes xs
fields_alike [] [] h bytes xs e = e
fields_alike [] (g ∷ gs) h bytes xs e = absurd h
fields_alike (f ∷ fs) [] h bytes xs e = absurd h
fields_alike (f ∷ fs) (g ∷ gs) h bytes xs e =
    record { prefix = e.prefix; back = e.back; joined = e.joined; value = e.value; first = h.0.encodes e.prefix e.value e.first; second = (e.second.0, e.second.1, fields_alike fs gs h.1 e.back e.second.0 e.second.2) }

symbols_fit : (fs gs : List AvroField) → AreAlike fs gs → AllByRecursion (λ a. EnumsFit a.schema) fs
symbols_fit [] [] h = tt
symbols_fit [] (g ∷ gs) h = tt
symbols_fit (f ∷ fs) [] h = absurd h
symbols_fit (f ∷ fs) (g ∷ gs) h = (h.0.symbols, symbols_fit fs gs h.1)

all_fit : (fs gs : List AvroField) → AreAlike fs gs → All (λ a. EnumsFit a.schema) fs
all_fit fs gs h = All-from_recursion (λ a. EnumsFit a.schema) fs (symbols_fit fs gs h)

record_alike : (r q : TheRecord) → AreAlike (out-Record r).fields (out-Record q).fields → MayBeCopied (Record r) (Record q)
record_alike r q h = record {
  encodes = λ bytes x e.
      let m = moved (λ i. encodes_record q i bytes x) e in
      moved (λ i. sym (encodes_record r) i bytes x) (record { value = m.value; encoded = fields_alike (out-Record r).fields (out-Record q).fields h bytes m.value m.encoded; allowed = tt; means = m.means });
  symbols = (enum_composites.fields r).1 (all_fit (out-Record r).fields (out-Record q).fields h);
  some = λ n. n;
}

pub of_record : (s t : Schema) (r q : TheRecord) (fs gs : List AvroField) → s ≡ Record r → t ≡ Record q → fs ≡ (out-Record r).fields → gs ≡ (out-Record q).fields → AreAlike fs gs → MayBeCopied s t
of_record s t r q fs gs e d x y h =
    let alike : AreAlike (out-Record r).fields (out-Record q).fields = subst (λ (zs : List AvroField). AreAlike zs (out-Record q).fields) x (subst (AreAlike fs) y h) in
    subst (λ (z : Schema). MayBeCopied z t) (sym e) (subst (λ (z : Schema). MayBeCopied (Record r) z) (sym d) (record_alike r q alike))

-- ---- fields one after another

drop_at : {A : Type 0} (xs : List A) (i : ℕ) (x : A) → i < length xs → drop i xs ≡ get_or xs i x ∷ drop (i + 1) xs
drop_at xs i x l = drop-cons xs i x l ∙ ap (λ k. get_or xs i x ∷ drop k xs) (sym (add-one i))

pub one_more : (fs gs : List AvroField) (i : ℕ) (f g : AvroField) → i < length fs → length fs ≡ length gs → MayBeCopied (get_or fs i f).schema (get_or gs i g).schema → (AreAlike (drop i fs) (drop i gs) → AreAlike fs gs) → AreAlike (drop (i + 1) fs) (drop (i + 1) gs) → AreAlike fs gs
one_more fs gs i f g l same h whole rest =
    let both : AreAlike (get_or fs i f ∷ drop (i + 1) fs) (get_or gs i g ∷ drop (i + 1) gs) = (h, rest) in
    whole (subst (λ (zs : List AvroField). AreAlike zs (drop i gs)) (sym (drop_at fs i f l)) (subst (AreAlike (get_or fs i f ∷ drop (i + 1) fs)) (sym (drop_at gs i g (omega (arith, l, same)))) both))

pub none_left : (fs gs : List AvroField) (i : ℕ) → length fs ≤ i → length fs ≡ length gs → (AreAlike (drop i fs) (drop i gs) → AreAlike fs gs) → AreAlike fs gs
none_left fs gs i l same whole =
    let none : AreAlike [] [] = tt in
    whole (subst (λ (zs : List AvroField). AreAlike zs (drop i gs)) (sym (drop_all i fs l)) (subst (AreAlike []) (sym (drop_all i gs (omega (arith, l, same)))) none))

-- ---- rows, all of whose fields are kept

abbrev AllKept : List AvroField → List Bool
AllKept = map (λ f. true)

row_alike : (fs gs : List AvroField) → AreAlike fs gs → (bytes : List ℕ) (y : Pieces) → Row gs (AllKept gs) bytes y → Row fs (AllKept fs) bytes y
row_alike [] [] h bytes y e = e
row_alike [] (g ∷ gs) h bytes y e = absurd h
row_alike (f ∷ fs) [] h bytes y e = absurd h
row_alike (f ∷ fs) (g ∷ gs) h bytes y e =
    record { prefix = e.prefix; back = e.back; joined = e.joined; value = e.value; first = (h.0.encodes e.prefix e.value.0 e.first.0, e.first.1); second = (e.second.0, e.second.1, row_alike fs gs h.1 e.back e.second.0 e.second.2) }

-- rows of the targets are rows of the sources
pub rows_alike : (fs gs : List AvroField) → AreAlike fs gs → (n : ℕ) (bytes : List ℕ) (table : List (List Slot)) → Rows n gs (map (λ g. true) gs) bytes table → Rows n fs (map (λ f. true) fs) bytes table
rows_alike fs gs h n bytes table r = record { pieces = r.pieces; encoded = many_alike (Row gs (AllKept gs)) (Row fs (AllKept fs)) (row_alike fs gs h) n bytes r.pieces r.encoded; told = r.told }

kept_all : (fs : List AvroField) → kept fs (AllKept fs) ≡ fs
kept_all [] = refl
kept_all (f ∷ fs) = ap (λ (zs : List AvroField). f ∷ zs) (kept_all fs)

-- and dictionaries can hold the symbols of the sources
pub kept_fit : (fs gs : List AvroField) → AreAlike fs gs → KeptEnumsFit fs (map (λ f. true) fs)
kept_fit fs gs h = subst (All (λ a. EnumsFit a.schema)) (sym (kept_all fs)) (all_fit fs gs h)

-- ---- schemas without others in them

fixed_parts : (size other : ℕ) (a b : Option FixedLogical) → a ≡ None → b ≡ None → size ≡ other → (bytes : List ℕ) (x : Slot) → EncodesFixed other b bytes x → EncodesFixed size a bytes x
fixed_parts size other a b e d same bytes x h =
    subst (λ (z : Option FixedLogical). EncodesFixed size z bytes x) (sym e) (subst (λ n. EncodesFixed n None bytes x) (sym same) (subst (λ (z : Option FixedLogical). EncodesFixed other z bytes x) d h))
