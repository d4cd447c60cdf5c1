-- The texts of lists and records, over the lists of their slots.
use Rattle.std.proofs.Common.{◌≡◌, ℕ, zero, suc, ◌+◌, ◌<◌, List, [], ◌∷◌, ◌++◌, length, take, map, codes, slice_index_or, refl, sym, ap, ◌∙◌, append_assoc, arith}
use Rattle.std.specs.Prelude.{flat_map, ℤ}
use Rattle.std.specs.Fmt.{signed_decimal}
use Rattle.std.proofs.lemmas.List.{append-nil}
use mathlib.Core.Former.{Count}
use mir.Syntax.{w32, w64}
use mir.Val.{SFits, of_z, to_z}
use Rattle.std.proofs.lemmas.Int.{ints}
use Rattle.arrow_core.specs.declared.slot.Slot.{Slot, List' as ListSlot', Struct' as StructSlot', Row_of-Slot, end_of-Slot, more_of-Slot, items-the_row-Slot, items_hidden-the_row-Slot-0}
use Rattle.arrow_core.specs.declared.slot.Slot.TheVariants as slot
use Rattle.arrow_array.specs.declared.array.Array.{Array}
use Rattle.arrow_array.specs.Arrays.{array_slots}
use Rattle.arrow_array.specs.Slots.{slot_at}
use Rattle.avrocat_commands.specs.Shown.{hexadecimal, joined, slot_text, slot_texts}

abbrev listed_row : Slot → (n : Count) × Row_of-Slot n
listed_row (ListSlot' _ row) = (_, row)
listed_row _ = (_, end_of-Slot)

abbrev fields_row : Slot → (n : Count) × Row_of-Slot n
fields_row (StructSlot' _ row) = (_, row)
fields_row _ = (_, end_of-Slot)

texts-row : (n : _) (row : Row_of-Slot n) → slot_texts row ≡ map slot_text (items-the_row-Slot n row)
texts-row n end_of-Slot = refl
texts-row n (more_of-Slot x rest) = ap (λ (ts : List (List ℕ)). slot_text x ∷ ts) (texts-row _ rest)

-- the text of a list
pub listed_text : (xs : List Slot) → slot_text (slot.List xs) ≡ codes "[" ++ (joined (map slot_text xs) ++ codes "]")
listed_text xs =
    let row = listed_row (slot.List xs) in
    ap (λ ts. codes "[" ++ (joined ts ++ codes "]")) (texts-row row.0 row.1 ∙ ap (map slot_text) (items_hidden-the_row-Slot-0 xs))

-- the text of a record
pub fields_text : (xs : List Slot) → slot_text (slot.Struct xs) ≡ codes "{" ++ (joined (map slot_text xs) ++ codes "}")
fields_text xs =
    let row = fields_row (slot.Struct xs) in
    ap (λ ts. codes "{" ++ (joined ts ++ codes "}")) (texts-row row.0 row.1 ∙ ap (map slot_text) (items_hidden-the_row-Slot-0 xs))

-- what follows a text, a bracket and the slots: the other bracket, and so the text of the list
pub list_done : (old before now : List ℕ) (xs : List Slot) → before ≡ (old ++ codes "[") ++ joined (map slot_text xs) → now ≡ before ++ codes "]" → now ≡ old ++ slot_text (slot.List xs)
list_done old before now xs e d =
    let J : List ℕ = joined (map slot_text xs) in
    let grouped : ((old ++ codes "[") ++ J) ++ codes "]" ≡ old ++ (codes "[" ++ (J ++ codes "]")) = append_assoc (old ++ codes "[") J (codes "]") ∙ append_assoc old (codes "[") (J ++ codes "]") in
    d ∙ ap (λ z. z ++ codes "]") e ∙ grouped ∙ ap (λ z. old ++ z) (sym (listed_text xs))

pub record_done : (old before now : List ℕ) (xs : List Slot) → before ≡ (old ++ codes "{") ++ joined (map slot_text xs) → now ≡ before ++ codes "}" → now ≡ old ++ slot_text (slot.Struct xs)
record_done old before now xs e d =
    let J : List ℕ = joined (map slot_text xs) in
    let grouped : ((old ++ codes "{") ++ J) ++ codes "}" ≡ old ++ (codes "{" ++ (J ++ codes "}")) = append_assoc (old ++ codes "{") J (codes "}") ∙ append_assoc old (codes "{") (J ++ codes "}") in
    d ∙ ap (λ z. z ++ codes "}") e ∙ grouped ∙ ap (λ z. old ++ z) (sym (fields_text xs))

-- the slots of the children at index i
abbrev pub fields_at : List Array → ℕ → List Slot
fields_at children i = map (λ slots. slot_at slots i) (map array_slots children)

pub field_at : (children : List Array) (i k : ℕ) (a : Array) → k < length children → a ≡ slice_index_or children k a → slot_at (fields_at children i) k ≡ slot_at (array_slots a) i
field_at [] i k a l e = absurd (omega (arith, l))
field_at (b ∷ children) i zero a l e = ap (λ z. slot_at (array_slots z) i) (sym e)
field_at (b ∷ children) i (suc k) a l e = field_at children i k a (omega (arith, l)) e

pub fields_length : (children : List Array) (i : ℕ) → length (fields_at children i) ≡ length children
fields_length [] i = refl
fields_length (a ∷ children) i = omega (arith, fields_length children i)

-- three texts between braces
pub three_done : (old a b c : List ℕ) → ((((((old ++ codes "{") ++ a) ++ codes ",") ++ b) ++ codes ",") ++ c) ++ codes "}" ≡ old ++ (codes "{" ++ (joined (a ∷ b ∷ c ∷ []) ++ codes "}"))
three_done old a b c = simp append_assoc

next : (bytes : List ℕ) (i b : ℕ) → i < length bytes → b ≡ slice_index_or bytes i b → flat_map hexadecimal (take i bytes) ++ hexadecimal b ≡ flat_map hexadecimal (take (suc i) bytes)
next [] i b l e = absurd (omega (arith, l))
next (x ∷ bytes) zero b l e = let d : b ≡ x = e in rw d (sym (append-nil (hexadecimal x)))
next (x ∷ bytes) (suc i) b l e = append_assoc (hexadecimal x) (flat_map hexadecimal (take i bytes)) (hexadecimal b) ∙ ap (λ z. hexadecimal x ++ z) (next bytes i b (omega (arith, l)) e)

-- three numbers with commas between them, between braces
pub numbers_done : (old t u v w x y now : List ℕ) (a b c : ℤ) → t ≡ old ++ codes "{" → u ≡ t ++ signed_decimal a → v ≡ u ++ codes "," → w ≡ v ++ signed_decimal b → x ≡ w ++ codes "," → y ≡ x ++ signed_decimal c
    → now ≡ y ++ codes "}" → now ≡ old ++ slot_text (slot.Struct (slot.Integer a ∷ slot.Integer b ∷ slot.Integer c ∷ []))
numbers_done old t u v w x y now a b c d e f g h i j =
    j ∙ ap (λ z. z ++ codes "}") (i ∙ ap (λ z. z ++ signed_decimal c) (h ∙ ap (λ z. z ++ codes ",") (g ∙ ap (λ z. z ++ signed_decimal b) (f ∙ ap (λ z. z ++ codes ",") (e ∙ ap (λ z. z ++ signed_decimal a) d)))))
    ∙ three_done old (signed_decimal a) (signed_decimal b) (signed_decimal c) ∙ ap (λ z. old ++ z) (sym (fields_text (slot.Integer a ∷ slot.Integer b ∷ slot.Integer c ∷ [])))

-- a number of 32 bits, and one of 64, as a call is given it
pub given_32 : (z : ℤ) → SFits w32 z → to_z w32 (of_z w32 z) ≡ z
given_32 z fits = omega (arith, ints)

pub given_64 : (z : ℤ) → SFits w64 z → to_z w64 (of_z w64 z) ≡ z
given_64 z fits = omega (arith, ints)
