-- Why a header isn't read.
use Rattle.std.proofs.Common.{◌≡◌, ℕ, inl, inr, List, Option, Some, None, length, ◌+◌, ◌-◌, arith, sym, ◌∙◌, subst}
use Rattle.arrow_core.specs.declared.error.Error.TheVariants.{ExternalFormat, NotYetImplemented}
use Rattle.arrow_core.specs.declared.error.Reason.TheVariants as reason
use Rattle.avro_container.specs.declared.parts.Stop.{Stop}
use Rattle.avro_container.specs.declared.parts.Stop.TheVariants as stop
use Rattle.avro_container.specs.File.{HeaderParts, header_parts, IsPlain}
use Rattle.avro_container.specs.FileForms.{magic_form, after_magic, header}
use Rattle.avro_container.specs.Forms.{Form}
use Rattle.avro_container.specs.Kept.{TakesHeader}
use Rattle.avro_container.specs.ReadHeader.{error_of, NoHeader, ReadsHeader}
use Rattle.avro_container.specs.Taking.{State, state, UsesUp, Passed, Stopped}
use Rattle.avro_container.proofs.Taken.{first_stops, second_stops, both_pass}

never_full : (a : Option ℕ) (n : ℕ) → a ≡ None → UsesUp a n → ⊥
never_full None n e h = h
never_full (Some a) n e h = absurd cc

abbrev behind : List ℕ → Form HeaderParts
behind b = after_magic

pub magic_fails : (a c : State) (e : Stop) → a.size_left ≡ None → Stopped magic_form a c e → NoHeader a c (error_of e reason.Magic)
magic_fails a c stop.Ended r h = inr h
magic_fails a c stop.Wrong r h = inl h
magic_fails a c stop.UsedUp r h = absurd (never_full a.size_left _ r h.1.2)
magic_fails a c stop.Limit r h = first_stops magic_form behind a c stop.Limit h
magic_fails a c stop.Fault r h = first_stops magic_form behind a c stop.Fault h
magic_fails a c stop.Memory r h = first_stops magic_form behind a c stop.Memory h

pub rest_fails : (a b c : State) (m : List ℕ) (e : Stop) → b.size_left ≡ None → Passed magic_form a b m → Stopped after_magic b c e → NoHeader a c (error_of e reason.Header)
rest_fails a b c m stop.Ended r p h = record { between = b; first = (m, p); rest = inl (inr h) }
rest_fails a b c m stop.Wrong r p h = record { between = b; first = (m, p); rest = inl (inl h) }
rest_fails a b c m stop.UsedUp r p h = absurd (never_full b.size_left _ r h.1.2)
rest_fails a b c m stop.Limit r p h = second_stops magic_form behind a b c m stop.Limit p h
rest_fails a b c m stop.Fault r p h = second_stops magic_form behind a b c m stop.Fault p h
rest_fails a b c m stop.Memory r p h = second_stops magic_form behind a b c m stop.Memory p h

pub no_schema : (a b c : State) (m : List ℕ) (schema codec : Option (List ℕ)) (marker : List ℕ) → schema ≡ None → Passed magic_form a b m → TakesHeader after_magic b c schema codec marker → NoHeader a c (ExternalFormat reason.Header)
no_schema a b c m schema codec marker none p h = record { between = b; first = (m, p); rest = inr (h.entries, marker, h.passed, sym h.schema_is ∙ none) }

pub other_codec : (a b c : State) (m text : List ℕ) (schema codec : Option (List ℕ)) (marker : List ℕ) → schema ≡ Some text → (IsPlain codec → ⊥) → Passed magic_form a b m → TakesHeader after_magic b c schema codec marker → NoHeader a c (NotYetImplemented reason.Codec)
other_codec a b c m text schema codec marker some other p h = record {
  entries = h.entries;
  marker = marker;
  passed = both_pass magic_form behind a b c m (header_parts h.entries marker) p h.passed;
  schema = (text, sym h.schema_is ∙ some);
  other = λ plain. other (subst IsPlain (sym h.codec_is) plain);
}

pub reads : (left left_after : Option (List ℕ)) (faults faults_after limit after : ℕ) (size_left : Option ℕ) (b : State) (m text : List ℕ) (schema codec : Option (List ℕ)) (marker : List ℕ)
    → schema ≡ Some text → IsPlain codec → Passed magic_form (state left faults limit None) b m → TakesHeader after_magic b (state left_after faults_after after size_left) schema codec marker
    → ReadsHeader (record { left = left; faults = faults; left_after = left_after; faults_after = faults_after; limit = limit }) text marker (limit - after)
reads left left_after faults faults_after limit after size_left b m text schema codec marker some plain p h =
    let all : Passed header (state left faults limit None) (state left_after faults_after after size_left) (header_parts h.entries marker) = both_pass magic_form behind _ b _ m (header_parts h.entries marker) p h.passed in
    let whole : limit ≡ length all.0 + after = all.1.limit in
    record {
      entries = h.entries;
      bytes = all.0;
      consumed = all.1.consumed;
      head = all.2;
      count_is = omega (arith, whole);
      within = omega (arith, whole);
      schema = sym h.schema_is ∙ some;
      codec = subst IsPlain h.codec_is plain;
    }
