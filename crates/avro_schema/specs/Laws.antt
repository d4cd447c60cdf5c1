-- Laws of the definitions, each of which a function of this crate has for its contract. Nobody has to believe
-- them: they are proved.
use Rattle.std.specs.Prelude.{◌≡◌, ℕ, ◌<◌, ◌≤◌, List, [], ◌∷◌, ◌++◌, length, map, Bool, true, false}
use Rattle.arrow_core.specs.declared.slot.Slot.{Slot}
use Rattle.avro_schema.specs.declared.schema.Schema.{Schema}
use Rattle.avro_schema.specs.declared.schema.AvroField.{AvroField}
use Rattle.avro_schema.specs.Parts.{Grammar, Many}
use Rattle.avro_schema.specs.Encodes.{Encodes}
use Rattle.avro_schema.specs.Skips.{Passed, Skips}
use Rattle.avro_schema.specs.Broken.{Broken}
use Rattle.avro_schema.specs.Carried.{Carried, CarriedList}
use Rattle.avro_schema.specs.Rows.{Pieces, Row, Rows}
use Rattle.avro_schema.specs.NegativeSize.{NegativeSize}
use Rattle.avro_schema.specs.Location.{location, location_in_row, pieces_before}

-- under one schema no bytes of P are a proper prefix of other bytes of P
abbrev pub NoProperPrefix : {A : Type 0} → (Schema → Grammar A) → Type 0
NoProperPrefix {A} P = (s : Schema) (bytes more : List ℕ) (v w : A) → P s bytes v → P s (bytes ++ more) w → more ≡ []

-- under one schema bytes of P have one value
abbrev pub OneValue : {A : Type 0} → (Schema → Grammar A) → Type 0
OneValue {A} P = (s : Schema) (bytes : List ℕ) (v w : A) → P s bytes v → P s bytes w → v ≡ w

-- both at once: of any bytes one prefix at most is of P, with one value
abbrev pub OnePrefix : {A : Type 0} → (Schema → Grammar A) → Type 0
OnePrefix {A} P = (s : Schema) (a b x y : List ℕ) (v w : A) → P s a v → P s b w → a ++ x ≡ b ++ y → (a ≡ b) × (v ≡ w)

-- what is encoded can be skipped
abbrev pub KeptCanBeSkipped : Type 0
KeptCanBeSkipped = (s : Schema) (bytes : List ℕ) (x : Slot) → Encodes s bytes x → (p : Passed) × Skips s bytes p

-- a value of a carried schema has a byte
abbrev pub HasAByte : {A : Type 0} → (Schema → Grammar A) → Type 0
HasAByte {A} P = (s : Schema) (bytes : List ℕ) (v : A) → Carried s → P s bytes v → 0 < length bytes

-- rows of carried schemas have no fewer bytes than they are
abbrev pub RowsHaveBytes : Type 0
RowsHaveBytes = (n : ℕ) (fields : List AvroField) (projection : List Bool) (bytes : List ℕ) (t : List (List Slot)) → 0 < length fields → CarriedList fields → Rows n fields projection bytes t → n ≤ length bytes

-- broken bytes have no prefix that is skipped
abbrev pub BrokenIsNeverWhole : Type 0
BrokenIsNeverWhole = (s : Schema) (bytes prefix back : List ℕ) (p : Passed) → Broken s bytes → Skips s prefix p → bytes ≡ prefix ++ back → ⊥

-- bytes are at most one table
abbrev pub OneTable : Type 0
OneTable = (n : ℕ) (fields : List AvroField) (projection : List Bool) (bytes : List ℕ) (t u : List (List Slot)) → Rows n fields projection bytes t → Rows n fields projection bytes u → t ≡ u

-- bytes are rows of one list of pieces at most; so their counts of bytes that are kept, seen and hidden are
-- determined, too
abbrev pub OneListOfPieces : Type 0
OneListOfPieces = (n : ℕ) (fields : List AvroField) (projection : List Bool) (bytes : List ℕ) (ps qs : List Pieces) → Many (Row fields projection) n bytes ps → Many (Row fields projection) n bytes qs → ps ≡ qs

-- two projections of the same fields, of which the second keeps no field that the first doesn't keep
abbrev pub KeepsNoMore : List Bool → List Bool → Type 0
KeepsNoMore [] [] = Unit {0}
KeepsNoMore (true ∷ wide) (k ∷ narrow) = KeepsNoMore wide narrow
KeepsNoMore (false ∷ wide) (false ∷ narrow) = KeepsNoMore wide narrow
KeepsNoMore _ _ = ⊥

-- of a row's slots under the first projection those that the second keeps too
abbrev pub narrowed : List Bool → List Bool → List Slot → List Slot
narrowed (true ∷ wide) (true ∷ narrow) (x ∷ xs) = x ∷ narrowed wide narrow xs
narrowed (true ∷ wide) (false ∷ narrow) (x ∷ xs) = narrowed wide narrow xs
narrowed (false ∷ wide) (k ∷ narrow) xs = narrowed wide narrow xs
narrowed _ _ xs = []

-- bytes that are rows are rows under each projection that keeps no more, and the table is then the
-- columns that this one keeps
abbrev pub NarrowerRows : Type 0
NarrowerRows = (n : ℕ) (fields : List AvroField) (wide narrow : List Bool) (bytes : List ℕ) (t : List (List Slot)) → KeepsNoMore wide narrow → Rows n fields wide bytes t → Rows n fields narrow bytes (map (narrowed wide narrow) t)

-- no bytes are rows and break off at a size below 0
abbrev pub RowsOrNegativeSize : Type 0
RowsOrNegativeSize = (n : ℕ) (fields : List AvroField) (projection : List Bool) (bytes : List ℕ) (t : List (List Slot)) → Rows n fields projection bytes t → NegativeSize n fields projection bytes → ⊥

-- bytes break off at one location at most
abbrev pub OneBreak : Type 0
OneBreak = (s : Schema) (bytes : List ℕ) (a b : Broken s bytes) → location s bytes a ≡ location s bytes b

-- after the same whole rows, and in the next row after the same whole pieces, at the same location
pub record SameBreak (n : ℕ) (fields : List AvroField) (projection : List Bool) (bytes : List ℕ) (a b : NegativeSize n fields projection bytes) : Type 0 where
  pub whole : a.whole ≡ b.whole
  pub prefix : a.prefix ≡ b.prefix
  pub pieces : a.pieces ≡ b.pieces
  pub before : pieces_before fields projection a.back a.broken ≡ pieces_before fields projection b.back b.broken
  pub location : location_in_row fields projection a.back a.broken ≡ location_in_row fields projection b.back b.broken

-- rows break off at one location at most
abbrev pub OneNegativeSize : Type 0
OneNegativeSize = (n : ℕ) (fields : List AvroField) (projection : List Bool) (bytes : List ℕ) (a b : NegativeSize n fields projection bytes) → SameBreak n fields projection bytes a b
