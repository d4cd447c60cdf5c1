-- Of the same bytes one error of the metadata's reader is right at most, out of memory aside.
use Rattle.std.proofs.Common.{◌≡◌, ◌∙◌, ◌⊎◌, inl, inr, ℕ, ◌≤◌, List, ◌++◌, length, Option, Some, None, refl, sym, ap, subst, append_assoc, arith}
use Rattle.arrow_base.specs.Outside.{RoseOrFull}
use Rattle.arrow_core.specs.declared.error.Error.{Error}
use Rattle.arrow_core.specs.declared.error.Error.TheVariants.{NotYetImplemented, ExternalFormat, LimitExceeded, ReadFault, OutOfMemory}
use Rattle.arrow_core.specs.declared.error.Reason.TheVariants as reason
use Rattle.json_tree.specs.Meaning.{IsJson}
use Rattle.avro_schema.specs.declared.schema.Record.{Record}
use Rattle.avro_schema.specs.declared.schema.Schema.{Schema}
use Rattle.avro_file.specs.Outcome.{Outcome, wrong, reference}
use Rattle.avro_file.specs.Reading.{schema_of, SchemaTextRefused}
use Rattle.avro_file.specs.declared.fault.SchemaTextFault.{SchemaTextFault}
use Rattle.avro_file.specs.declared.fault.SchemaTextFault.TheVariants.{Form, Reference, Depth, Memory}
use Rattle.avro_file.specs.Laws.{IsMetadata}
use Rattle.avro_file.proofs.Answered.{only_memory}
use Rattle.avro_file.proofs.Complete.{metadata_is_read, metadata_is_right}
use Rattle.avro_container.specs.File.{Entry, HeaderParts, header_parts, Header, schema_entry, magic}
use Rattle.avro_container.specs.Changes.{Change, change_of}
use Rattle.avro_container.specs.FileForms.{magic_form, after_magic, header}
use Rattle.avro_container.specs.Forms.{Form as BytesForm}
use Rattle.avro_container.specs.Laws.{told, BeginsWith, NamesOtherCodec}
use Rattle.avro_container.specs.ReadHeader.{Change as SourceChange, Broken, BrokenHeader, OtherCodec, NoHeader, ReadsHeader, HeaderFails}
use Rattle.avro_container.specs.Taking.{State, state, Passed}
use Rattle.avro_container.proofs.Complete.{magic_cause, header_cause, codec_cause, header_limit_cause, header_is_read}
use Rattle.avro_container.proofs.OneFile.{header_reads}
use Rattle.avro_container.proofs.SettledBlocks.{header_settles}
use Rattle.avro_container.proofs.Taken.{takes_more, both_pass}
use Rattle.avro_container.proofs.OneBlock.{AreOne, limit_or_end, limit_or_wrong}
use Rattle.avro_container.proofs.Reading.{consumed_some}
use Rattle.avro_file.specs.Metadata.{RootFails, NoRecord, ReadsMetadata, MetadataFails}

-- ---- headers

abbrev after : List ℕ → BytesForm HeaderParts
after b = after_magic

module _ (all : List ℕ) (f g limit : ℕ) (new other : State) where
  limit_or_whole : NoHeader (told all f limit) new LimitExceeded → (x : HeaderParts) → Passed header (told all g limit) other x → ⊥
  limit_or_whole h x p =
      let t = consumed_some all p.0 other.left p.1.consumed in
      header_limit_cause all f limit new h p.0 t.0 x t.2 p.2 (omega (arith, p.1.limit))

  limit_or_magic : NoHeader (told all f limit) new LimitExceeded → Broken magic_form (told all g limit) other → ⊥
  limit_or_magic h (inl w) = limit_or_wrong header all f g limit new other h.0 h.1.0 header_settles h.1.1 w.0 w.1.0 (inl w.1.1)
  limit_or_magic h (inr w) = limit_or_end header all f g limit new other h.0 h.1.0 w.0 w.1.0 w.1.3

  limit_or_broken : NoHeader (told all f limit) new LimitExceeded → BrokenHeader (told all g limit) other → ⊥
  limit_or_broken h b = from b.rest
    where
      first : Passed magic_form (told all g limit) b.between b.first.0
      first = b.first.1

      from : Broken after_magic b.between other ⊎ ((es : List Entry) × (m : List ℕ) × Passed after_magic b.between other (header_parts es m) × (schema_entry es ≡ None)) → ⊥
      from (inl (inl w)) =
          limit_or_wrong header all f g limit new other h.0 h.1.0 header_settles h.1.1 (first.0 ++ w.0) (takes_more (told all g limit) b.between other first.0 w.0 first.1 w.1.0)
          (inr (record { prefix = first.0; back = w.0; joined = refl; value = b.first.0; first = first.2; second = w.1.1 }))
      from (inl (inr w)) =
          limit_or_end header all f g limit new other h.0 h.1.0 (first.0 ++ w.0) (takes_more (told all g limit) b.between other first.0 w.0 first.1 w.1.0) w.1.3
      from (inr (es, m, p, nothing)) = limit_or_whole h (header_parts es m) (both_pass magic_form after (told all g limit) b.between other b.first.0 (header_parts es m) first p)

  magic_or_broken : Broken magic_form (told all f limit) new → BrokenHeader (told all g limit) other → ⊥
  magic_or_broken h b =
      let c = header_cause all g limit other b in
      magic_cause all f limit new h c.0.0 c.0.1

  magic_or_codec : Broken magic_form (told all f limit) new → OtherCodec (told all g limit) other → ⊥
  magic_or_codec h o =
      let c : BeginsWith Header NamesOtherCodec all = codec_cause all g limit other o in
      let w = c.first in
      let same : w.prefix ≡ magic = sym w.first.encoded.1 ∙ w.first.allowed in
      magic_cause all f limit new h (w.back ++ c.rest) (c.joined ∙ ap (λ (z : List ℕ). z ++ c.rest) w.joined ∙ append_assoc w.prefix w.back c.rest ∙ ap (λ (z : List ℕ). z ++ (w.back ++ c.rest)) same)

  broken_or_codec : BrokenHeader (told all f limit) new → OtherCodec (told all g limit) other → ⊥
  broken_or_codec h o =
      let c : BeginsWith Header NamesOtherCodec all = codec_cause all g limit other o in
      (header_cause all f limit new h).1 c.prefix c.rest c.value.entries c.value.marker c.holds.0.0 c.joined c.first c.holds.0.1

module _ (all : List ℕ) (f g limit : ℕ) (new other : State) (steady : RoseOrFull f new.faults → ⊥) (also_steady : RoseOrFull g other.faults → ⊥) where
  one_header : (e d : Error) → NoHeader (told all f limit) new e → NoHeader (told all g limit) other d → AreOne e d
  one_header OutOfMemory d h k = inr (inl refl)
  one_header (ReadFault None) d h k = absurd (steady h.1.3)
  one_header LimitExceeded OutOfMemory h k = inr (inr refl)
  one_header LimitExceeded (ReadFault None) h k = absurd (also_steady k.1.3)
  one_header LimitExceeded LimitExceeded h k = inl refl
  one_header LimitExceeded (ExternalFormat reason.Magic) h k = absurd (limit_or_magic all f g limit new other h k)
  one_header LimitExceeded (ExternalFormat reason.Header) h k = absurd (limit_or_broken all f g limit new other h k)
  one_header LimitExceeded (NotYetImplemented reason.Codec) h k = absurd (limit_or_whole all f g limit new other h (header_parts k.entries k.marker) k.passed)
  one_header LimitExceeded _ h k = absurd k
  one_header (ExternalFormat reason.Magic) OutOfMemory h k = inr (inr refl)
  one_header (ExternalFormat reason.Magic) (ReadFault None) h k = absurd (also_steady k.1.3)
  one_header (ExternalFormat reason.Magic) LimitExceeded h k = absurd (limit_or_magic all g f limit other new k h)
  one_header (ExternalFormat reason.Magic) (ExternalFormat reason.Magic) h k = inl refl
  one_header (ExternalFormat reason.Magic) (ExternalFormat reason.Header) h k = absurd (magic_or_broken all f g limit new other h k)
  one_header (ExternalFormat reason.Magic) (NotYetImplemented reason.Codec) h k = absurd (magic_or_codec all f g limit new other h k)
  one_header (ExternalFormat reason.Magic) _ h k = absurd k
  one_header (ExternalFormat reason.Header) OutOfMemory h k = inr (inr refl)
  one_header (ExternalFormat reason.Header) (ReadFault None) h k = absurd (also_steady k.1.3)
  one_header (ExternalFormat reason.Header) LimitExceeded h k = absurd (limit_or_broken all g f limit other new k h)
  one_header (ExternalFormat reason.Header) (ExternalFormat reason.Magic) h k = absurd (magic_or_broken all g f limit other new k h)
  one_header (ExternalFormat reason.Header) (ExternalFormat reason.Header) h k = inl refl
  one_header (ExternalFormat reason.Header) (NotYetImplemented reason.Codec) h k = absurd (broken_or_codec all f g limit new other h k)
  one_header (ExternalFormat reason.Header) _ h k = absurd k
  one_header (NotYetImplemented reason.Codec) OutOfMemory h k = inr (inr refl)
  one_header (NotYetImplemented reason.Codec) (ReadFault None) h k = absurd (also_steady k.1.3)
  one_header (NotYetImplemented reason.Codec) LimitExceeded h k = absurd (limit_or_whole all g f limit other new k (header_parts h.entries h.marker) h.passed)
  one_header (NotYetImplemented reason.Codec) (ExternalFormat reason.Magic) h k = absurd (magic_or_codec all g f limit other new k h)
  one_header (NotYetImplemented reason.Codec) (ExternalFormat reason.Header) h k = absurd (broken_or_codec all g f limit other new k h)
  one_header (NotYetImplemented reason.Codec) (NotYetImplemented reason.Codec) h k = inl refl
  one_header (NotYetImplemented reason.Codec) _ h k = absurd k
  one_header _ d h k = absurd h

-- ---- the schema's text

wrong_or_reference : (o : Outcome Schema) → o ≡ wrong → o ≡ reference → ⊥
wrong_or_reference o e f = cc

module _ (text : List ℕ) where
  form_or_reference : SchemaTextRefused text Form → SchemaTextRefused text Reference → ⊥
  form_or_reference f r = wrong_or_reference (schema_of r.0) (f.1 r.0 r.1) r.2

  depth_or_reference : SchemaTextRefused text Depth → SchemaTextRefused text Reference → ⊥
  depth_or_reference d r = d.4 d.1 r.0 (subst (λ b. IsJson r.0 b) d.2 r.1)

  -- a text that stands for a schema isn't refused
  stands_or_refused : NoRecord text → (fault : SchemaTextFault) → (fault ≡ Memory → ⊥) → SchemaTextRefused text fault → ⊥
  stands_or_refused n fault other f = other (only_memory text n.other n.means fault f)

  one_text : (e d : Error) → RootFails text e → RootFails text d → AreOne e d
  one_text OutOfMemory d h k = inr (inl refl)
  one_text (ExternalFormat reason.SchemaText) OutOfMemory h k = inr (inr refl)
  one_text (ExternalFormat reason.SchemaText) (ExternalFormat reason.SchemaText) h k = inl refl
  one_text (ExternalFormat reason.SchemaText) (NotYetImplemented reason.TypeReference) h k = absurd (form_or_reference h k)
  one_text (ExternalFormat reason.SchemaText) LimitExceeded h k = absurd (h.0 k)
  one_text (ExternalFormat reason.SchemaText) (NotYetImplemented reason.RootNotRecord) h k = absurd (stands_or_refused k Form (λ q. cc) h)
  one_text (ExternalFormat reason.SchemaText) _ h k = absurd k
  one_text (NotYetImplemented reason.TypeReference) OutOfMemory h k = inr (inr refl)
  one_text (NotYetImplemented reason.TypeReference) (ExternalFormat reason.SchemaText) h k = absurd (form_or_reference k h)
  one_text (NotYetImplemented reason.TypeReference) (NotYetImplemented reason.TypeReference) h k = inl refl
  one_text (NotYetImplemented reason.TypeReference) LimitExceeded h k = absurd (depth_or_reference k h)
  one_text (NotYetImplemented reason.TypeReference) (NotYetImplemented reason.RootNotRecord) h k = absurd (stands_or_refused k Reference (λ q. cc) h)
  one_text (NotYetImplemented reason.TypeReference) _ h k = absurd k
  one_text LimitExceeded OutOfMemory h k = inr (inr refl)
  one_text LimitExceeded (ExternalFormat reason.SchemaText) h k = absurd (k.0 h)
  one_text LimitExceeded (NotYetImplemented reason.TypeReference) h k = absurd (depth_or_reference h k)
  one_text LimitExceeded LimitExceeded h k = inl refl
  one_text LimitExceeded (NotYetImplemented reason.RootNotRecord) h k = absurd (stands_or_refused k Depth (λ q. cc) h)
  one_text LimitExceeded _ h k = absurd k
  one_text (NotYetImplemented reason.RootNotRecord) OutOfMemory h k = inr (inr refl)
  one_text (NotYetImplemented reason.RootNotRecord) (ExternalFormat reason.SchemaText) h k = absurd (stands_or_refused h Form (λ q. cc) k)
  one_text (NotYetImplemented reason.RootNotRecord) (NotYetImplemented reason.TypeReference) h k = absurd (stands_or_refused h Reference (λ q. cc) k)
  one_text (NotYetImplemented reason.RootNotRecord) LimitExceeded h k = absurd (stands_or_refused h Depth (λ q. cc) k)
  one_text (NotYetImplemented reason.RootNotRecord) (NotYetImplemented reason.RootNotRecord) h k = inl refl
  one_text (NotYetImplemented reason.RootNotRecord) _ h k = absurd k
  one_text _ d h k = absurd h

-- ---- metadata

-- what a source of these bytes tells before the metadata is read, and after it
abbrev pub reading_of : List ℕ → ℕ → ℕ → Option (List ℕ) → ℕ → SourceChange
reading_of all limit faults left_after faults_after = record { left = Some all; faults = faults; left_after = left_after; faults_after = faults_after; limit = limit }

some_is : (a b : List ℕ) → Some a ≡ Some b → a ≡ b
some_is a b e = cc

module _ (all : List ℕ) (limit f g : ℕ) (left_after also_left : Option (List ℕ)) (f_after g_after : ℕ) where
  abbrev one : SourceChange
  one = reading_of all limit f left_after f_after

  abbrev two : SourceChange
  two = reading_of all limit g also_left g_after

  -- where a header is read, the other reader has no error but out of memory
  header_or_none : (text marker : List ℕ) (count : ℕ) → ReadsHeader one text marker count → (RoseOrFull g g_after → ⊥) → (d : Error) → HeaderFails two d → d ≡ OutOfMemory
  header_or_none text marker count h steady d (l, s, n) =
      let t = consumed_some all h.bytes left_after h.consumed in
      header_is_read all h.bytes t.0 h.entries marker text g limit (state also_left g_after l s) t.2 h.head h.schema h.codec h.within steady d n

  same_text : (text also marker also_marker : List ℕ) (count also_count : ℕ) → ReadsHeader one text marker count → ReadsHeader two also also_marker also_count → text ≡ also
  same_text text also marker also_marker count also_count h k =
      let t = consumed_some all h.bytes left_after h.consumed in
      let u = consumed_some all k.bytes also_left k.consumed in
      let heads = header_reads h.bytes k.bytes t.0 u.0 (header_parts h.entries marker) (header_parts k.entries also_marker) h.head k.head (sym t.2 ∙ u.2) in
      some_is text also (sym h.schema ∙ ap (λ (p : HeaderParts). schema_entry p.entries) heads.1 ∙ k.schema)

module _ (all : List ℕ) (limit f g : ℕ) (left_after also_left : Option (List ℕ)) (f_after g_after : ℕ) (steady : RoseOrFull f f_after → ⊥) (also_steady : RoseOrFull g g_after → ⊥) where
  pub one_metadata : (e d : Error) → MetadataFails (reading_of all limit f left_after f_after) e → MetadataFails (reading_of all limit g also_left g_after) d → AreOne e d
  one_metadata e d (inl (l, s, n)) (inl (m, t, k)) = one_header all f g limit (state left_after f_after l s) (state also_left g_after m t) steady also_steady e d n k
  one_metadata e d (inl h) (inr k) = inr (inl (header_or_none all limit g f also_left left_after g_after f_after k.text k.marker k.count k.header steady e h))
  one_metadata e d (inr h) (inl k) = inr (inr (header_or_none all limit f g left_after also_left f_after g_after h.text h.marker h.count h.header also_steady d k))
  one_metadata e d (inr h) (inr k) =
      one_text k.text e d (subst (λ text. RootFails text e) (same_text all limit f g left_after also_left f_after g_after h.text k.text h.marker k.marker h.count k.count h.header k.header) h.fails) k.fails

-- ---- metadata at the beginning of a source's bytes

-- a source told these bytes, and after the call this is left of them
abbrev pub told_change : List ℕ → ℕ → Option (List ℕ) → ℕ → Change
told_change all faults left_after faults_after = change_of (Some all) faults left_after faults_after

-- the bytes begin with the metadata, within the limit
pub record Stands (all : List ℕ) (limit : ℕ) (root : Record) (marker : List ℕ) : Type 0 where
  pub prefix : List ℕ
  pub rest : List ℕ
  pub joined : all ≡ prefix ++ rest
  pub is : IsMetadata prefix root marker
  pub within : length prefix ≤ limit

pub stands : (all : List ℕ) (limit f f_after : ℕ) (left : Option (List ℕ)) (root : Record) (marker : List ℕ) (count : ℕ) → ReadsMetadata (reading_of all limit f left f_after) root marker count → Stands all limit root marker
stands all limit f f_after left root marker count r =
    let h = r.header in
    let t = consumed_some all h.bytes left h.consumed in
    record {
      prefix = h.bytes;
      rest = t.0;
      joined = t.2;
      is = record { entries = h.entries; head = h.head; text = r.text; schema = h.schema; means = r.means; codec = h.codec };
      within = h.within;
    }

-- where metadata stands, no error but out of memory is answered
pub stands_or_none : (all : List ℕ) (limit g g_after : ℕ) (also_left : Option (List ℕ)) (root : Record) (marker : List ℕ) → Stands all limit root marker → (RoseOrFull g g_after → ⊥) → (d : Error) → MetadataFails (reading_of all limit g also_left g_after) d → d ≡ OutOfMemory
stands_or_none all limit g g_after also_left root marker s steady d h =
    metadata_is_read s.prefix s.rest marker root (reading_of all limit g also_left g_after) (ap (λ (z : List ℕ). Some z) s.joined) s.is s.within steady d h

-- and it is what is read
pub stands_once : (all : List ℕ) (limit g g_after also_count : ℕ) (also_left : Option (List ℕ)) (root also : Record) (marker also_marker : List ℕ) (s : Stands all limit root marker)
    → ReadsMetadata (reading_of all limit g also_left g_after) also also_marker also_count → (also ≡ root) × (also_marker ≡ marker) × (also_count ≡ length s.prefix) × (also_left ≡ Some s.rest)
stands_once all limit g g_after also_count also_left root also marker also_marker s r =
    metadata_is_right s.prefix s.rest marker root (reading_of all limit g also_left g_after) (ap (λ (z : List ℕ). Some z) s.joined) s.is also_marker also also_count r
