-- Of the same bytes a conversion has one error at most, those from outside aside, and none where they are converted.
use Rattle.std.proofs.Common.{◌≡◌, ◌≢◌, ◌∙◌, ◌⊎◌, inl, inr, ℕ, ◌-◌, ◌≤◌, List, [], ◌++◌, length, Option, Some, None, sym, ap, subst}
use Rattle.std.proofs.lemmas.List.{append-nil}
use Rattle.std.proofs.lemmas.Option.{same_Some}
use Rattle.std.specs.Io.KnownBytes.{Consumes, IsAtEnd}
use Rattle.arrow_base.specs.Outside.{RoseOrFull}
use Rattle.arrow_core.specs.declared.error.Error.{Error}
use Rattle.arrow_core.specs.declared.error.Error.TheVariants.{OutOfMemory}
use Rattle.arrow_core.specs.declared.types.Field.{Field}
use Rattle.avro_schema.specs.declared.schema.Record.{Record, out-Record}
use Rattle.avro_schema.specs.Inferred.{inferred_columns}
use Rattle.avro_container.specs.Laws.{told}
use Rattle.avro_container.specs.Taking.{State, state}
use Rattle.avro_container.specs.Changes.{Change}
use Rattle.avro_container.specs.Written.{WithAllRows}
use Rattle.avro_container.proofs.OneBlock.{AreOne, AreOneOr, or_outside, one_stop}
use Rattle.avro_container.proofs.Reading.{consumed_some}
use Rattle.avro_container.proofs.Results.{memory_or_not}
use Rattle.avro_container.proofs.Steps.{rose_from}
use Rattle.avro_schema.specs.Projected.{Projected, CanBeDecoded}
use Rattle.avro_ndjson.specs.Laws.{CanBeConverted, OneErrorComes, ConvertedDoesNotFail}
use Rattle.avro_ndjson.specs.Refusals.{CannotBeShown, HeaderNotShown, BlockNotShown, ConversionFails}
use Rattle.avro_ndjson.specs.Shown.{CanBeShown, projected_of, ShowsBlock}
use Rattle.avro_ndjson.specs.Taken.{BlockIsWrong, StopsAtBlock}
use Rattle.avro_ndjson.proofs.Complete.{good_block, files_end}
use Rattle.avro_ndjson.proofs.Decoders.{can_be_decoded}
use Rattle.avro_ndjson.proofs.OneBlock.{one_wrong}
use Rattle.avro_ndjson.proofs.OneMetadata.{told_change, Stands, stands, stands_or_none, stands_once, one_metadata}
use Rattle.avro_ndjson.proofs.Reasons.{shown_or_not, one_reason}

-- ---- the whole, of two sources of these bytes

module _ (keep : Option (List ℕ)) (all : List ℕ) (limit f g f_after g_after : ℕ) (left also_left : Option (List ℕ)) (sink another : Change) (steady : RoseOrFull f f_after → ⊥) (also_steady : RoseOrFull g g_after → ⊥) where
  abbrev one : Change
  one = told_change all f left f_after

  abbrev two : Change
  two = told_change all g also_left g_after

  abbrev Same : Error → Error → Type 0
  Same e d = AreOneOr sink another e d

  by_reason : (e d : Error) (root : Record) → CannotBeShown keep (out-Record root).fields e → CannotBeShown keep (out-Record root).fields d → (e ≡ OutOfMemory) ⊎ (e ≢ OutOfMemory) → (d ≡ OutOfMemory) ⊎ (d ≢ OutOfMemory) → AreOne e d
  by_reason e d root h k (inl memory) more = inr (inl memory)
  by_reason e d root h k (inr other) (inl memory) = inr (inr memory)
  by_reason e d root h k (inr other) (inr also) = inl (one_reason keep (out-Record root).fields e d h k other also)

  both_not_shown : (e d : Error) → HeaderNotShown keep limit one e → HeaderNotShown keep limit two d → AreOne e d
  both_not_shown e d h k =
      let s = stands all limit f f_after left h.root h.marker h.count h.reads in
      let r = stands_once all limit g g_after k.count also_left h.root k.root h.marker k.marker s k.reads in
      by_reason e d h.root h.why (subst (λ (root : Record). CannotBeShown keep (out-Record root).fields d) r.0 k.why) (memory_or_not e) (memory_or_not d)

  both_stop : (e d : Error) → BlockNotShown keep limit one sink e → BlockNotShown keep limit two another d → Same e d
  both_stop e d h k = one_stop (WithAllRows (ShowsBlock p)) (BlockIsWrong p) (good_block p can) (one_wrong p can) h.marker s.rest h.faults k.faults (limit - h.count) new other sink another e d still also_still first second
    where
      s : Stands all limit h.root h.marker
      s = stands all limit f h.faults h.left h.root h.marker h.count h.reads

      own : (h.root ≡ h.root) × (h.marker ≡ h.marker) × (h.count ≡ length s.prefix) × (h.left ≡ Some s.rest)
      own = stands_once all limit f h.faults h.count h.left h.root h.root h.marker h.marker s h.reads

      r : (k.root ≡ h.root) × (k.marker ≡ h.marker) × (k.count ≡ length s.prefix) × (k.left ≡ Some s.rest)
      r = stands_once all limit g k.faults k.count k.left h.root k.root h.marker k.marker s k.reads

      same : k.fields ≡ h.fields
      same = same_Some k.fields h.fields (sym (subst (λ (root : Record). inferred_columns (out-Record root).fields ≡ Some k.fields) r.0 k.shown.columns) ∙ h.shown.columns)

      p : Projected
      p = projected_of keep h.root h.fields

      can : CanBeDecoded p
      can = can_be_decoded keep h.root h.fields h.shown

      new : State
      new = state left f_after h.limit_after None

      other : State
      other = state also_left g_after k.limit_after None

      still : RoseOrFull h.faults f_after → ⊥
      still rose = steady (rose_from f h.faults f_after h.never_falls rose)

      also_still : RoseOrFull k.faults g_after → ⊥
      also_still rose = also_steady (rose_from g k.faults g_after k.never_falls rose)

      first : StopsAtBlock p h.marker (told s.rest h.faults (limit - h.count)) new sink e
      first = subst (λ (z : Option (List ℕ)). StopsAtBlock p h.marker (state z h.faults (limit - h.count) None) new sink e) own.3 h.stops

      second : StopsAtBlock p h.marker (told s.rest k.faults (limit - h.count)) other another d
      second = subst (λ (x : Record × List Field × List ℕ × Option (List ℕ) × ℕ). StopsAtBlock (projected_of keep x.0 x.1) x.2 (state x.3 k.faults (limit - x.4) None) other another d) (λ i. (r.0 i, same i, r.1 i, r.3 i, (r.2 ∙ sym own.2) i)) k.stops

  shown_or_refused : (e : Error) (root also : Record) (fields : List Field) → also ≡ root → CannotBeShown keep (out-Record also).fields e → CanBeShown keep (out-Record root).fields fields → e ≡ OutOfMemory
  shown_or_refused e root also fields same why shown = shown_or_not keep (out-Record root).fields fields shown e (subst (λ (r : Record). CannotBeShown keep (out-Record r).fields e) same why)

  one_error : (e d : Error) → ConversionFails keep limit one sink e → ConversionFails keep limit two another d → Same e d
  one_error e d (inl (keeps, inl h)) (inl (holds, inl k)) = or_outside sink another e d (one_metadata all limit f g left also_left f_after g_after steady also_steady e d h k)
  one_error e d (inl (keeps, inl h)) (inl (holds, inr k)) =
      inr (inl (inl (stands_or_none all limit f f_after left k.root k.marker (stands all limit g g_after also_left k.root k.marker k.count k.reads) steady e h)))
  one_error e d (inl (keeps, inl h)) (inr k) =
      inr (inl (inl (stands_or_none all limit f f_after left k.root k.marker (stands all limit g k.faults k.left k.root k.marker k.count k.reads) steady e h)))
  one_error e d (inl (keeps, inr h)) (inl (holds, inl k)) =
      inr (inr (inl (stands_or_none all limit g g_after also_left h.root h.marker (stands all limit f f_after left h.root h.marker h.count h.reads) also_steady d k)))
  one_error e d (inl (keeps, inr h)) (inl (holds, inr k)) = or_outside sink another e d (both_not_shown e d h k)
  one_error e d (inl (keeps, inr h)) (inr k) =
      let s = stands all limit g k.faults k.left k.root k.marker k.count k.reads in
      let r = stands_once all limit f f_after h.count left k.root h.root k.marker h.marker s h.reads in
      inr (inl (inl (shown_or_refused e k.root h.root k.fields r.0 h.why k.shown)))
  one_error e d (inr h) (inl (holds, inl k)) =
      inr (inr (inl (stands_or_none all limit g g_after also_left h.root h.marker (stands all limit f h.faults h.left h.root h.marker h.count h.reads) also_steady d k)))
  one_error e d (inr h) (inl (holds, inr k)) =
      let s = stands all limit f h.faults h.left h.root h.marker h.count h.reads in
      let r = stands_once all limit g g_after k.count also_left h.root k.root h.marker k.marker s k.reads in
      inr (inr (inl (shown_or_refused d h.root k.root h.fields r.0 k.why h.shown)))
  one_error e d (inr h) (inr k) = both_stop e d h k

-- ---- of what sources tell

told_is : (source : Change) (bytes : List ℕ) → source.bytes ≡ Some bytes → source ≡ told_change bytes source.faults source.bytes_after source.faults_after
told_is source bytes e = λ i. record { bytes = e i; faults = source.faults; bytes_after = source.bytes_after; faults_after = source.faults_after }

pub one_error_comes : OneErrorComes
one_error_comes keep bytes limit source other sink another e d tells also_tells steady also_steady h k =
    one_error keep bytes limit source.faults other.faults source.faults_after other.faults_after source.bytes_after other.bytes_after sink another steady also_steady e d
    (subst (λ (s : Change). ConversionFails keep limit s sink e) (told_is source bytes tells) h)
    (subst (λ (s : Change). ConversionFails keep limit s another d) (told_is other bytes also_tells) k)

-- ---- where the bytes are converted

all_taken : (all taken : List ℕ) (left : Option (List ℕ)) → Consumes (Some all) left taken → IsAtEnd left → taken ≡ all
all_taken all taken left c end =
    let t = consumed_some all taken left c in
    let none : t.0 ≡ [] = subst IsAtEnd t.1 end in
    sym (append-nil taken) ∙ ap (λ (z : List ℕ). taken ++ z) (sym none) ∙ sym t.2

pub converted_does_not_fail : ConvertedDoesNotFail
converted_does_not_fail keep bytes limit count source other sink another e tells also_tells steady c h =
    let same : c.bytes ≡ bytes = all_taken bytes c.bytes source.bytes_after (subst (λ (z : Option (List ℕ)). Consumes z source.bytes_after c.bytes) tells c.taken) c.whole in
    let can : CanBeConverted keep bytes = subst (CanBeConverted keep) same (c.text, count, c.shows) in
    files_end keep bytes limit other another e (record { told = also_tells; within = subst (λ (b : List ℕ). length b ≤ limit) same c.within; steady = steady }) can h
