-- Rows that an iterator gives.
use Rattle.std.proofs.Common.{◌≡◌, ℕ, inl, inr, List, [], ◌∷◌, ◌++◌, Option, Result, Ok, Err, IfErr, refl, sym, ap, subst}
use Rattle.std.specs.Borrow.{Bor}
use Rattle.std.specs.Iterator.{Yields}
use Rattle.arrow_core.specs.declared.error.Error.{Error}
use Rattle.arrow_core.specs.declared.error.Error.TheVariants.{ExternalFormat, LimitExceeded, OutOfMemory}
use Rattle.arrow_core.specs.declared.error.Reason.TheVariants as reason
use Rattle.arrow_core.specs.declared.types.DataType.{DataType}
use Rattle.json_tree.specs.declared.value.Value.{Value}
use Rattle.json_tree.specs.Meaning.{IsJson}
use Rattle.json_tree.proofs.Answering.{within}
use Rattle.ndjson_read.specs.Needed.{StandFor}
use Rattle.ndjson_read.specs.Inference.{NoValue}
use Rattle.ndjson_read.specs.GivenRows.{texts_of, FailsAt, GivesValues}
use Rattle.ndjson_read.proofs.Values.{as_text, stand_for-append, stands_for}

texts_more : (given : List (Bor (List ℕ))) (row : Bor (List ℕ)) → texts_of (given ++ row ∷ []) ≡ texts_of given ++ row.now ∷ []
texts_more [] row = refl
texts_more (first ∷ given) row = ap (λ (z : List (List ℕ)). first.now ∷ z) (texts_more given row)

-- one more row stands for a value
pub stand_more : (given : List (Bor (List ℕ))) (row : Bor (List ℕ)) (values : List Value) (value : Value) → StandFor (texts_of given) values → IsJson value row.now
    → StandFor (texts_of (given ++ row ∷ [])) (values ++ value ∷ [])
stand_more given row values value stand json =
    subst (λ (z : List (List ℕ)). StandFor z (values ++ value ∷ [])) (sym (texts_more given row)) (stand_for-append (texts_of given) (row.now ∷ []) values (value ∷ []) stand (json, tt))

-- a row that stands for none ends it
pub fails_at : {I : Type 0} (next_gives : I → Option (Bor (List ℕ)) → I → Type 0) (rows after : I) (given : List (Bor (List ℕ))) (row : Bor (List ℕ)) (values : List Value) (e : Error)
    → Yields next_gives rows (given ++ row ∷ []) after → StandFor (texts_of given) values → NoValue row.now e → FailsAt next_gives rows e
fails_at next_gives rows after given row values e yielded stand fault = inl (record { given = given; row = row; after = after; yielded = yielded; values = values; stand = stand; fault = fault })

-- a row that stands for a value has no fault
no_fault : (row : List ℕ) (value : Value) (e : Error) → IsJson value row → NoValue row e → e ≡ OutOfMemory
no_fault row value LimitExceeded json fault = absurd (within row value json fault)
no_fault row value (ExternalFormat reason.Json) json fault = absurd (fault.1 value (as_text value row json))
no_fault row value OutOfMemory json fault = refl
no_fault row value e json fault = absurd fault

pub only_memory : {I : Type 0} (next_gives : I → Option (Bor (List ℕ)) → I → Type 0) (rows : I) (result : Result DataType Error) → IfErr result (FailsAt next_gives rows) → GivesValues next_gives rows
    → IfErr result (λ e. e ≡ OutOfMemory)
only_memory next_gives rows (Ok data_type) fails gives = tt
only_memory next_gives rows (Err e) (inr is) gives = is
only_memory next_gives rows (Err e) (inl h) gives =
    let all = gives (h.given ++ h.row ∷ []) h.after h.yielded in
    let one = stands_for (texts_of h.given) h.row.now [] all.0 (subst (λ (z : List (List ℕ)). StandFor z all.0) (texts_more h.given h.row) all.1) in
    no_fault h.row.now one.0 e one.1 h.fault
