-- What one `advance` of a `FileReader` does, and what `next` then gives.
use Rattle.std.specs.Prelude.{◌≡◌, ◌≢◌, ◌-◌, ℕ, List, [], Option, Some, None, Result, Ok, Err, IfSome, IfErr, OnOk, OnErr, MatchOption, MatchResult, length}
use Rattle.std.specs.Option.{option_map}
use Rattle.std.specs.Borrow.{Bor}
use Rattle.arrow_core.specs.declared.error.Error.{Error}
use Rattle.ndjson_read.specs.declared.file_reader.FileReader.{FileReader}
use Rattle.ndjson_read.specs.FileReader.{source_of, batch_of, limit_of, shown_of, failure_of, wanted_of, state_of}
use Rattle.ndjson_read.specs.Reading.{ShowsRows, NoRows}

module _ {S : Type 0} (left : S → Option (List ℕ)) (faults identity : S → ℕ) where
  -- one `advance`: what the reader was before, what was answered, and what it is after
  pub record Advances (before : FileReader S) (answer : Result (Unit {0}) Error) (after : FileReader S) : Type 0 where
    pub failed : IfSome (failure_of before) (λ e. (answer ≡ Ok tt) × (source_of after ≡ source_of before) × (shown_of after ≡ []) × (failure_of after ≡ Some e))
    pub ok : failure_of before ≡ None → OnOk answer (ShowsRows (wanted_of before) (state_of left faults before) (state_of left faults after) (shown_of after))
    pub err : failure_of before ≡ None → IfErr answer (NoRows (wanted_of before) (state_of left faults before) (state_of left faults after))
    pub hidden : OnErr answer (shown_of after ≡ [])
    pub now : failure_of before ≡ None → MatchResult answer (λ _. failure_of after ≡ None) (λ e. failure_of after ≡ Some e)
    pub limit : limit_of after ≡ option_map (λ limit. limit - length (shown_of after)) (limit_of before)
    pub batch : batch_of after ≡ batch_of before
    pub same : identity (source_of after) ≡ identity (source_of before)

  -- a reference to the rows that are shown, if there are any
  abbrev pub AreShown : Option (Bor (List (List ℕ))) → FileReader S → Type 0
  AreShown result reader = MatchOption result (shown_of reader ≡ []) (λ rows. (rows.now ≡ shown_of reader) × (shown_of reader ≢ []))

  -- an `advance`, and then its error, or the rows that are shown
  abbrev pub AdvancesNext : FileReader S → Result (Option (Bor (List (List ℕ)))) Error → FileReader S → Type 0
  AdvancesNext before result after =
      (answer : Result (Unit {0}) Error) × Advances before answer after × MatchResult result (λ rows. (answer ≡ Ok tt) × AreShown rows after) (λ e. answer ≡ Err e)
