-- Columns that are made of others, one after another.
use Rattle.std.proofs.Common.{◌≡◌, ◌∙◌, ℕ, zero, suc, ◌<◌, ◌≤◌, List, [], ◌∷◌, ◌++◌, length, get_or, set, take, drop, refl, sym, ap, subst, arith}
use Rattle.std.specs.List.{AllZip}
use Rattle.std.proofs.lemmas.List.{append-nil, take_all}
use Rattle.std.proofs.lemmas.List.Elements.{All-append, All-nil}
use Rattle.arrow_array.specs.Arrays.{all_dictionaries, array_slots, dictionaries_of}
use Rattle.arrow_array.specs.declared.array.Array.{Array}
use Rattle.arrow_dictionaries.specs.Encoding.{FirstSlots, HaveFirstValues}
use Rattle.arrow_core.specs.declared.types.Field.{Field}
use Rattle.json_tree.specs.Tree.{Json}
use Rattle.json_flat.specs.Columns.{AreSlotsOf}
use Rattle.json_flat.specs.Meaning.{Layer, Meaning}
use Rattle.json_flat.specs.Reading.{reading}
use Rattle.json_line.specs.Lines.{values_named, AreColumnsOf, IsColumnOf}
use Rattle.ndjson.specs.LineColumns.{AreMadeOf, AreStoredFor, IsMadeOf, IsStoredFor}

-- ---- several columns

-- those before an index were made, and the others stay
abbrev pub MadeUpto : ℕ → List Field → List Array → List Array → Type 0
MadeUpto i [] [] [] = Unit {0}
MadeUpto zero (f ∷ fields) (a ∷ olds) (b ∷ news) = (b ≡ a) × MadeUpto zero fields olds news
MadeUpto (suc i) (f ∷ fields) (a ∷ olds) (b ∷ news) = IsMadeOf f.data_type a b × MadeUpto i fields olds news
MadeUpto _ _ _ _ = ⊥

pub none_made : (fs : List Field) (olds : List Array) → length fs ≡ length olds → MadeUpto zero fs olds olds
none_made [] [] l = tt
none_made [] (a ∷ olds) l = absurd (omega (arith, l))
none_made (f ∷ fs) [] l = absurd (omega (arith, l))
none_made (f ∷ fs) (a ∷ olds) l = (refl, none_made fs olds (omega (arith, l)))

-- as many
pub made_length : (i : ℕ) (fs : List Field) (olds bs : List Array) → MadeUpto i fs olds bs → length bs ≡ length fs
made_length i [] [] [] h = refl
made_length i [] [] (b ∷ bs) h = absurd h
made_length i [] (a ∷ olds) bs h = absurd h
made_length zero (f ∷ fs) [] bs h = absurd h
made_length (suc i) (f ∷ fs) [] bs h = absurd h
made_length zero (f ∷ fs) (a ∷ olds) [] h = absurd h
made_length (suc i) (f ∷ fs) (a ∷ olds) [] h = absurd h
made_length zero (f ∷ fs) (a ∷ olds) (b ∷ bs) h = ap suc (made_length zero fs olds bs h.1)
made_length (suc i) (f ∷ fs) (a ∷ olds) (b ∷ bs) h = ap suc (made_length i fs olds bs h.1)

pub one_made : (i : ℕ) (fs : List Field) (olds bs : List Array) (f : Field) (b x : Array) → i < length bs → MadeUpto i fs olds bs → IsMadeOf (get_or fs i f).data_type (get_or bs i b) x → MadeUpto (suc i) fs olds (set bs i x)
one_made i [] [] [] f y x lt h m = absurd (omega (arith, lt))
one_made i [] [] (b ∷ bs) f y x lt h m = absurd h
one_made i [] (a ∷ olds) bs f y x lt h m = absurd h
one_made zero (g ∷ fs) [] bs f y x lt h m = absurd h
one_made (suc i) (g ∷ fs) [] bs f y x lt h m = absurd h
one_made zero (g ∷ fs) (a ∷ olds) [] f y x lt h m = absurd h
one_made (suc i) (g ∷ fs) (a ∷ olds) [] f y x lt h m = absurd h
one_made zero (g ∷ fs) (a ∷ olds) (b ∷ bs) f y x lt h m = (subst (λ (z : Array). IsMadeOf g.data_type z x) h.0 m, h.1)
one_made (suc i) (g ∷ fs) (a ∷ olds) (b ∷ bs) f y x lt h m = (h.0, one_made i fs olds bs f y x (omega (arith, lt)) h.1 m)

pub all_made : (i : ℕ) (fs : List Field) (olds bs : List Array) → length bs ≤ i → MadeUpto i fs olds bs → AreMadeOf fs olds bs
all_made i [] [] [] le h = tt
all_made i [] [] (b ∷ bs) le h = absurd h
all_made i [] (a ∷ olds) bs le h = absurd h
all_made zero (f ∷ fs) [] bs le h = absurd h
all_made (suc i) (f ∷ fs) [] bs le h = absurd h
all_made zero (f ∷ fs) (a ∷ olds) [] le h = absurd h
all_made (suc i) (f ∷ fs) (a ∷ olds) [] le h = absurd h
all_made zero (f ∷ fs) (a ∷ olds) (b ∷ bs) le h = absurd (omega (arith, le))
all_made (suc i) (f ∷ fs) (a ∷ olds) (b ∷ bs) le h = (h.0, all_made i fs olds bs (omega (arith, le)) h.1)

-- as many columns as were read
many_made : (fs : List Field) (olds news : List Array) → AreMadeOf fs olds news → length news ≡ length olds
many_made [] [] [] m = refl
many_made [] [] (b ∷ bs) m = absurd m
many_made [] (a ∷ olds) bs m = absurd m
many_made (f ∷ fs) [] bs m = absurd m
many_made (f ∷ fs) (a ∷ olds) [] m = absurd m
many_made (f ∷ fs) (a ∷ olds) (b ∷ bs) m = ap suc (many_made fs olds bs m.1)

none_left : {A : Type 0} (n : ℕ) (xs : List A) → length xs ≤ n → drop n xs ≡ []
none_left zero [] le = refl
none_left zero (x ∷ xs) le = absurd (omega (arith, le))
none_left (suc n) [] le = refl
none_left (suc n) (x ∷ xs) le = none_left n xs (omega (arith, le))

-- they stand in place of those
pub all_written : (fs : List Field) (olds news : List Array) (n : ℕ) → AreMadeOf fs olds news → n ≡ length olds → take n (news ++ drop (length news) olds) ≡ news
all_written fs olds news n m e =
    let l = many_made fs olds news m in
    ap (λ (xs : List Array). take n (news ++ xs)) (none_left (length news) olds (omega (arith, l))) ∙ ap (λ (xs : List Array). take n xs) (append-nil news) ∙ take_all n news (omega (arith, l, e))

-- ---- the columns of lines

column_made : (rows : List (List (List ℕ × Json))) (f g : Field) (a b : Array) → IsStoredFor f g → IsColumnOf rows g a → IsMadeOf f.data_type a b → IsColumnOf rows f b
column_made rows f g a b s c m = record {
  data_type = m.data_type;
  slots =
      subst (AreSlotsOf (reading f.data_type) (values_named rows f.name)) (sym m.slots)
      (subst (λ (n : List ℕ). AreSlotsOf (reading f.data_type) (values_named rows n) (array_slots a)) s.name
      (subst (λ (r : Layer → Meaning). AreSlotsOf r (values_named rows g.name) (array_slots a)) s.data_type.meaning c.slots));
}

columns_made : (rows : List (List (List ℕ × Json))) (fs gs : List Field) (olds bs : List Array) → AreStoredFor fs gs → AllZip (IsColumnOf rows) gs olds → AreMadeOf fs olds bs → AllZip (IsColumnOf rows) fs bs
columns_made rows [] [] [] [] s c m = tt
columns_made rows [] [] [] (b ∷ bs) s c m = absurd m
columns_made rows [] [] (a ∷ olds) bs s c m = absurd c
columns_made rows [] (g ∷ gs) olds bs s c m = absurd s
columns_made rows (f ∷ fs) [] olds bs s c m = absurd s
columns_made rows (f ∷ fs) (g ∷ gs) [] bs s c m = absurd c
columns_made rows (f ∷ fs) (g ∷ gs) (a ∷ olds) [] s c m = absurd m
columns_made rows (f ∷ fs) (g ∷ gs) (a ∷ olds) (b ∷ bs) s c m = (column_made rows f g a b s.0 c.0 m.0, columns_made rows fs gs olds bs s.1 c.1 m.1)

pub lines_made : (fs gs : List Field) (lines : List (List ℕ)) (olds bs : List Array) → AreStoredFor fs gs → AreColumnsOf gs lines olds → AreMadeOf fs olds bs → AreColumnsOf fs lines bs
lines_made fs gs lines olds bs s c m = record { rows = c.rows; objects = c.objects; members = columns_made c.rows fs gs olds bs s c.members m }

pub values_made : (fs : List Field) (olds bs : List Array) → AreMadeOf fs olds bs → HaveFirstValues bs
values_made [] [] [] m = All-nil (λ d. FirstSlots d.0 d.1)
values_made [] [] (b ∷ bs) m = absurd m
values_made [] (a ∷ olds) bs m = absurd m
values_made (f ∷ fs) [] bs m = absurd m
values_made (f ∷ fs) (a ∷ olds) [] m = absurd m
values_made (f ∷ fs) (a ∷ olds) (b ∷ bs) m = All-append (λ d. FirstSlots d.0 d.1) (dictionaries_of b) (all_dictionaries bs) m.0.dictionaries (values_made fs olds bs m.1)
