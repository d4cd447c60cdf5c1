-- Laws of the reading functions: each is sound and complete for its relation.
use Rattle.std.specs.Prelude.{◌≡◌, ℕ, ◌<◌, ◌≤◌, ◌↔◌, List, ◌++◌, length, map, Bool, Some, None, Ok, Err}
use Rattle.arrow_core.specs.declared.slot.Slot.{Slot}
use Rattle.avro_schema.specs.declared.schema.AvroField.{AvroField}
use Rattle.avro_schema.specs.Parts.{Grammar}
use Rattle.avro_schema.specs.Carried.{CarriedList}
use Rattle.avro_schema.specs.Rows.{Pieces, Rows}
use Rattle.avro_schema.specs.NegativeSize.{NegativeSize}
use Rattle.avro_reference.specs.Prefix.{Reader}
use Rattle.avro_reference.specs.Skip.{Parser, Bad, Negative}
use Rattle.avro_reference.specs.Block.{block}

-- a prefix of the bytes encodes a value of P, and rest follows it
abbrev pub InPrefix : {A : Type 0} → Grammar A → List ℕ → List ℕ → A → Type 0
InPrefix P bytes rest x = (prefix : List ℕ) × P prefix x × (bytes ≡ prefix ++ rest)

abbrev pub NothingInPrefix : {A : Type 0} → Grammar A → List ℕ → Type 0
NothingInPrefix {A} P bytes = (rest : List ℕ) (x : A) → InPrefix P bytes rest x → ⊥

-- f gives the value of P that a prefix encodes, and None exactly where no prefix encodes one
abbrev pub ReadsAll : {A : Type 0} → Reader A → Grammar A → Type 0
ReadsAll {A} f P = (bytes rest : List ℕ) (x : A) → (f bytes ≡ Some (x, rest)) ↔ InPrefix P bytes rest x

abbrev pub ReadsNoMore : {A : Type 0} → Reader A → Grammar A → Type 0
ReadsNoMore f P = (bytes : List ℕ) → (f bytes ≡ None) ↔ NothingInPrefix P bytes

-- f gives what a prefix is by P, is Negative exactly where the bytes are broken, and Bad exactly where
-- neither is so
abbrev pub PassesAll : {A : Type 0} → Parser A → Grammar A → Type 0
PassesAll {A} f P = (bytes rest : List ℕ) (x : A) → (f bytes ≡ Ok (x, rest)) ↔ InPrefix P bytes rest x

abbrev pub IsNegativeAt : {A : Type 0} → Parser A → (List ℕ → Type 0) → Type 0
IsNegativeAt f B = (bytes : List ℕ) → (f bytes ≡ Err Negative) ↔ B bytes

abbrev pub IsBadElsewhere : {A : Type 0} → Parser A → Grammar A → (List ℕ → Type 0) → Type 0
IsBadElsewhere f P B = (bytes : List ℕ) → (f bytes ≡ Err Bad) ↔ (NothingInPrefix P bytes × (B bytes → ⊥))

-- the bytes are n rows of these pieces, and as many bytes at least
abbrev pub AreRows : ℕ → List AvroField → List Bool → List ℕ → List Pieces → Type 0
AreRows n fields projection bytes pieces =
    (n ≤ length bytes) × (table : Rows n fields projection bytes (map (λ row. row.slots) pieces)) × (table.pieces ≡ pieces)

abbrev pub BlockGivesRows : Type 0
BlockGivesRows = (n : ℕ) (fields : List AvroField) (projection : List Bool) (bytes : List ℕ) (pieces : List Pieces) → (block n fields projection bytes ≡ Ok pieces) ↔ AreRows n fields projection bytes pieces

abbrev pub BlockIsNegative : Type 0
BlockIsNegative = (n : ℕ) (fields : List AvroField) (projection : List Bool) (bytes : List ℕ) → (block n fields projection bytes ≡ Err Negative) ↔ NegativeSize n fields projection bytes

abbrev pub BlockIsBad : Type 0
BlockIsBad = (n : ℕ) (fields : List AvroField) (projection : List Bool) (bytes : List ℕ) → (block n fields projection bytes ≡ Err Bad) ↔ (((table : List (List Slot)) → n ≤ length bytes → Rows n fields projection bytes table → ⊥) × (NegativeSize n fields projection bytes → ⊥))

-- of carried fields, of which there is one at least, no rows are more than their bytes, so a block's
-- answer is about rows alone
pub record CarriedBlocks : Type 0 where
  pub rows : (n : ℕ) (fields : List AvroField) (projection : List Bool) (bytes : List ℕ) (pieces : List Pieces) → 0 < length fields → CarriedList fields → (block n fields projection bytes ≡ Ok pieces) ↔ ((table : Rows n fields projection bytes (map (λ row. row.slots) pieces)) × (table.pieces ≡ pieces))
  pub bad : (n : ℕ) (fields : List AvroField) (projection : List Bool) (bytes : List ℕ) → 0 < length fields → CarriedList fields → (block n fields projection bytes ≡ Err Bad) ↔ (((table : List (List Slot)) → Rows n fields projection bytes table → ⊥) × (NegativeSize n fields projection bytes → ⊥))
