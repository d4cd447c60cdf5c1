-- Of a source whose bytes the contract knows: a block or header that stands there within the limit is read, and each error
-- that speaks of the bytes is right.
use Rattle.std.proofs.Common.{◌≡◌, ◌≢◌, ℕ, ◌≤◌, true, ◌⊎◌, inl, inr, List, [], ◌∷◌, ◌++◌, length, Option, Some, None, refl, sym, ◌∙◌, ap, subst, append_assoc, arith}
use Rattle.std.proofs.lemmas.List.{append-nil}
use Rattle.std.specs.Io.KnownBytes.{Consumes, IsAtEnd}
use Rattle.arrow_base.specs.Outside.{RoseOrFull}
use Rattle.arrow_core.specs.declared.error.Error.{Error}
use Rattle.arrow_core.specs.declared.error.Error.TheVariants.{ExternalFormat, NotYetImplemented, LimitExceeded, ReadFault, OutOfMemory}
use Rattle.arrow_core.specs.declared.error.Reason.TheVariants as reason
use Rattle.avro_schema.proofs.Prefixes.{head_is, tail_is}
use Rattle.std.proofs.lemmas.Option.{none-some}
use Rattle.avro_schema.proofs.WholePrefixes.{raw_reads}
use Rattle.avro_container.specs.declared.parts.Stop.TheVariants as stop
use Rattle.avro_container.specs.BlockReader.{NoBlock, CutShort, OtherMarker, AtEnd, Next}
use Rattle.avro_container.specs.File.{FileBlock, the_block, MarkedBlock, IsFileBlock, Entry, HeaderParts, Header, header_parts, magic, schema_entry, codec_entry, IsPlain}
use Rattle.avro_container.specs.FileForms.{marked_block, magic_form, after_magic, header}
use Rattle.avro_container.specs.Forms.{Form, raw}
use Rattle.avro_container.specs.Laws.{Settles, told, NoPrefix, NoPrefixWithin, BeginsWith, NamesNoSchema, NamesOtherCodec}
use Rattle.avro_container.specs.ReadHeader.{Broken, BrokenHeader, OtherCodec, NoHeader}
use Rattle.avro_container.specs.Taking.{State, TakesPast, Passed, Stopped}
use Rattle.avro_container.proofs.OneFile.{block_reads, header_reads, groups_some, prefix_none, block_some}
use Rattle.avro_container.proofs.Settled.{block_settles, meaning_settles, raw_settles}
use Rattle.avro_container.proofs.SettledBlocks.{header_settles}
use Rattle.avro_container.proofs.Taken.{second_stops, both_pass}

-- the shorter of two prefixes is a prefix of the other
longer_prefix : (a b x y : List ℕ) → a ++ x ≡ b ++ y → length a ≤ length b → (z : List ℕ) × (b ≡ a ++ z)
longer_prefix [] b x y e l = (b, refl)
longer_prefix (c ∷ a) [] x y e l = absurd (omega (arith, l))
longer_prefix (c ∷ a) (d ∷ b) x y e l =
    let more = longer_prefix a b x y (tail_is e) (omega (arith, l)) in
    (more.0, λ i. head_is (sym e) i ∷ more.1 i)

taken_of : (all taken : List ℕ) (left : Option (List ℕ)) → Consumes (Some all) left taken → (rest : List ℕ) × (all ≡ taken ++ rest) × (IsAtEnd left → rest ≡ [])
taken_of all taken None c = absurd c
taken_of all taken (Some rest) c = (rest, c, λ end. end)

-- at the end the bytes taken are all
all_taken : (all taken : List ℕ) (left : Option (List ℕ)) → Consumes (Some all) left taken → IsAtEnd left → taken ≡ all
all_taken all taken left c end =
    let t = taken_of all taken left c in
    sym (append-nil taken) ∙ ap (λ (z : List ℕ). taken ++ z) (sym (t.2 end)) ∙ sym t.1

-- ---- of any form

module _ {A : Type 0} (F : Form A) (sf : Settles F) (all prefix rest : List ℕ) (v : A) (f limit : ℕ) (new : State) (split : all ≡ prefix ++ rest) (whole : F.whole prefix v) where
  never_wrong : Stopped F (told all f limit) new stop.Wrong → ⊥
  never_wrong h = let t = taken_of all h.0 new.left h.1.0.consumed in sf.whole_or_wrong prefix h.0 rest t.0 v whole h.1.1 (sym split ∙ t.1)

  never_ended_in : (taken : List ℕ) → Consumes (Some all) new.left taken → F.begun taken → IsAtEnd new.left → ⊥
  never_ended_in taken c g end = sf.whole_or_begun prefix rest v whole (subst F.begun (all_taken all taken new.left c end ∙ split) g)

  never_ended : Stopped F (told all f limit) new stop.Ended → ⊥
  never_ended h = never_ended_in h.0 h.1.0.consumed h.1.1 h.1.3

  never_limit : length prefix ≤ limit → Stopped F (told all f limit) new stop.Limit → ⊥
  never_limit within h =
      let t = taken_of all (h.0 ++ h.1.0.byte ∷ []) new.left h.1.0.consumed in
      let z = longer_prefix prefix h.0 rest (h.1.0.byte ∷ t.0) (sym split ∙ t.1 ∙ append_assoc h.0 (h.1.0.byte ∷ []) t.0) (omega (arith, within, h.1.0.limit)) in
      sf.whole_or_begun prefix z.0 v whole (subst F.begun z.1 h.1.1)

-- ---- blocks

module _ (m all prefix rest : List ℕ) (x : FileBlock) (f limit : ℕ) (new : State) (split : all ≡ prefix ++ rest) (whole : IsFileBlock m prefix x) (within : length prefix ≤ limit) (steady : RoseOrFull f new.faults → ⊥) where
  pub block_is_read : (e : Error) → NoBlock m (told all f limit) new e → e ≡ OutOfMemory
  block_is_read (ReadFault None) h = absurd (steady h.1.3)
  block_is_read LimitExceeded h = absurd (never_limit marked_block block_settles all prefix rest (x, m) f limit new split whole within h)
  block_is_read (ExternalFormat reason.Container) (inl h) = absurd (never_wrong marked_block block_settles all prefix rest (x, m) f limit new split whole h)
  block_is_read (ExternalFormat reason.Container) (inr h) = absurd (never_ended_in marked_block block_settles all prefix rest (x, m) f limit new split whole h.taken h.takes.consumed h.begun h.ended)
  block_is_read (ExternalFormat reason.Marker) h =
      let t = taken_of all h.taken.0 new.left h.taken.1.consumed in
      let one = block_reads prefix h.taken.0 rest t.0 (x, m) (h.block, h.other) whole h.taken.2 (sym split ∙ t.1) in
      absurd (h.differs (sym (ap (λ (p : FileBlock × List ℕ). p.1) one.1)))
  block_is_read OutOfMemory h = refl
  block_is_read _ h = absurd h

pub end_is_end : (all : List ℕ) (f limit : ℕ) (new : State) → AtEnd (told all f limit) new → all ≡ []
end_is_end all f limit new h = sym (all_taken all [] new.left h.0.consumed h.1)

no_end : (a : List ℕ) (x : ℕ) → a ++ x ∷ [] ≡ [] → ⊥
no_end [] x e = cc
no_end (b ∷ a) x e = cc

wrong_some : (b : List ℕ) → marked_block.wrong b → b ≡ [] → ⊥
wrong_some b (inl (inl n)) e = no_end n.prefix n.last (sym n.joined ∙ e)
wrong_some b (inl (inr (v, n, r))) e = groups_some b n.groups e
wrong_some b (inr w) e = groups_some w.prefix w.first.encoded.groups (prefix_none w.prefix w.back (sym w.joined ∙ e))

pub container_cause : (m all : List ℕ) (f limit : ℕ) (new : State) → Stopped marked_block (told all f limit) new stop.Wrong ⊎ CutShort (told all f limit) new → NoPrefix MarkedBlock all × (all ≡ [] → ⊥)
container_cause m all f limit new (inl h) =
    let t = taken_of all h.0 new.left h.1.0.consumed in
    (λ prefix rest v split whole. never_wrong marked_block block_settles all prefix rest v f limit new split whole h, λ e. wrong_some h.0 h.1.1 (prefix_none h.0 t.0 (sym t.1 ∙ e)))
container_cause m all f limit new (inr h) =
    let t = taken_of all h.taken new.left h.takes.consumed in (
      λ prefix rest v split whole. never_ended_in marked_block block_settles all prefix rest v f limit new split whole h.taken h.takes.consumed h.begun h.ended,
      λ e. (let n : length h.taken ≡ 0 = ap length (prefix_none h.taken t.0 (sym t.1 ∙ e)) in omega (arith, n, h.some)),
    )

pub block_limit_cause : (m all : List ℕ) (f limit : ℕ) (new : State) → Stopped marked_block (told all f limit) new stop.Limit → NoPrefixWithin limit MarkedBlock all
block_limit_cause m all f limit new h prefix rest v split whole within = never_limit marked_block block_settles all prefix rest v f limit new split whole within h

pub marker_cause : (m all : List ℕ) (f limit : ℕ) (new : State) → OtherMarker m (told all f limit) new → BeginsWith MarkedBlock (λ b. b.1 ≢ m) all × NoPrefix (IsFileBlock m) all
marker_cause m all f limit new h =
    let t = taken_of all h.taken.0 new.left h.taken.1.consumed in (
      record { prefix = h.taken.0; rest = t.0; joined = t.1; value = (h.block, h.other); first = h.taken.2; holds = h.differs },
      λ prefix rest x split whole. h.differs (sym (ap (λ (p : FileBlock × List ℕ). p.1) (block_reads prefix h.taken.0 rest t.0 (x, m) (h.block, h.other) whole h.taken.2 (sym split ∙ t.1)).1)),
    )

-- ---- where there are no bytes

module _ (m : List ℕ) (f limit : ℕ) (new : State) where
  abbrev none_left : State
  none_left = told [] f limit

  no_block : (x : FileBlock) (n : List ℕ) → Passed marked_block none_left new (x, n) → ⊥
  no_block x n h = let t = taken_of [] h.0 new.left h.1.consumed in block_some n h.0 x h.2 (prefix_none h.0 t.0 (sym t.1))

  not_past : (taken : List ℕ) → TakesPast none_left new taken → ⊥
  not_past taken h =
      let t = taken_of [] (taken ++ h.byte ∷ []) new.left h.consumed in
      no_end taken h.byte (prefix_none (taken ++ h.byte ∷ []) t.0 (sym t.1))

  module _ (steady : RoseOrFull f new.faults → ⊥) where
    no_error : (e : Error) → NoBlock m none_left new e → e ≡ OutOfMemory
    no_error (ReadFault None) h = absurd (steady h.1.3)
    no_error LimitExceeded h = absurd (not_past h.0 h.1.0)
    no_error (ExternalFormat reason.Container) h = absurd ((container_cause m [] f limit new h).1 refl)
    no_error (ExternalFormat reason.Marker) h = absurd (no_block h.block h.other h.taken)
    no_error OutOfMemory h = refl
    no_error _ h = absurd h

    pub no_bytes_are_end : ((rows : ℕ) (block : List ℕ) → Next m none_left new rows block true → ⊥) × ((e : Error) → NoBlock m none_left new e → e ≡ OutOfMemory)
    no_bytes_are_end = (λ rows block h. no_block (the_block rows block) m h, no_error)

-- ---- headers

magic_settles : Settles magic_form
magic_settles = meaning_settles (raw 4) (λ b. b ≡ magic) (λ b. b) (raw_reads 4) (raw_settles 4)

magic_whole : magic_form.whole magic magic
magic_whole = record { value = magic; encoded = (refl, refl); allowed = refl; means = refl }

pub magic_cause : (all : List ℕ) (f limit : ℕ) (new : State) → Broken magic_form (told all f limit) new → (rest : List ℕ) → all ≡ magic ++ rest → ⊥
magic_cause all f limit new (inl h) rest split = never_wrong magic_form magic_settles all magic rest magic f limit new split magic_whole h
magic_cause all f limit new (inr h) rest split = never_ended magic_form magic_settles all magic rest magic f limit new split magic_whole h

abbrev behind : List ℕ → Form HeaderParts
behind b = after_magic

module _ (all prefix rest : List ℕ) (entries : List Entry) (marker text : List ℕ) (f limit : ℕ) (new : State) (split : all ≡ prefix ++ rest) (whole : header.whole prefix (header_parts entries marker)) (schema : schema_entry entries ≡ Some text) where
  abbrev old : State
  old = told all f limit

  same_entries : (es : List Entry) (m : List ℕ) → Passed header old new (header_parts es m) → es ≡ entries
  same_entries es m p =
      let t = taken_of all p.0 new.left p.1.consumed in
      sym (ap (λ (h : HeaderParts). h.entries) (header_reads prefix p.0 rest t.0 (header_parts entries marker) (header_parts es m) whole p.2 (sym split ∙ t.1)).1)

  not_broken : BrokenHeader old new → ⊥
  not_broken h = by_rest h.rest
    where
      by_rest : Broken after_magic h.between new ⊎ ((es : List Entry) × (m : List ℕ) × Passed after_magic h.between new (header_parts es m) × (schema_entry es ≡ None)) → ⊥
      by_rest (inl (inl w)) =
          never_wrong header header_settles all prefix rest (header_parts entries marker) f limit new split whole (second_stops magic_form behind old h.between new h.first.0 stop.Wrong h.first.1 w)
      by_rest (inl (inr w)) =
          never_ended header header_settles all prefix rest (header_parts entries marker) f limit new split whole (second_stops magic_form behind old h.between new h.first.0 stop.Ended h.first.1 w)
      by_rest (inr (es, m, p, none)) =
          let same = same_entries es m (both_pass magic_form behind old h.between new h.first.0 (header_parts es m) h.first.1 p) in
          none-some text (sym none ∙ ap schema_entry same ∙ schema)

  not_magic : Broken magic_form old new → ⊥
  not_magic h =
      let same : whole.prefix ≡ magic = sym whole.first.encoded.1 ∙ whole.first.allowed in
      magic_cause all f limit new h (whole.back ++ rest) (split ∙ ap (λ (z : List ℕ). z ++ rest) whole.joined ∙ append_assoc whole.prefix whole.back rest ∙ ap (λ (z : List ℕ). z ++ (whole.back ++ rest)) same)

  module _ (codec : IsPlain (codec_entry entries)) (within : length prefix ≤ limit) (steady : RoseOrFull f new.faults → ⊥) where
    pub header_is_read : (e : Error) → NoHeader old new e → e ≡ OutOfMemory
    header_is_read (ReadFault None) h = absurd (steady h.1.3)
    header_is_read LimitExceeded h = absurd (never_limit header header_settles all prefix rest (header_parts entries marker) f limit new split whole within h)
    header_is_read (ExternalFormat reason.Magic) h = absurd (not_magic h)
    header_is_read (ExternalFormat reason.Header) h = absurd (not_broken h)
    header_is_read (NotYetImplemented reason.Codec) h =
        absurd (h.other (subst (λ es. IsPlain (codec_entry es)) (sym (same_entries h.entries h.marker h.passed)) codec))
    header_is_read OutOfMemory h = refl
    header_is_read _ h = absurd h

magic_first : (all : List ℕ) (f limit : ℕ) (between : State) → (b : List ℕ) × Passed magic_form (told all f limit) between b → (rest : List ℕ) × (all ≡ magic ++ rest)
magic_first all f limit between (b, p) =
    let t = taken_of all p.0 between.left p.1.consumed in
    let same : p.0 ≡ magic = sym p.2.encoded.1 ∙ p.2.allowed in
    (t.0, t.1 ∙ ap (λ (z : List ℕ). z ++ t.0) same)

pub header_cause : (all : List ℕ) (f limit : ℕ) (new : State) → BrokenHeader (told all f limit) new → ((rest : List ℕ) × (all ≡ magic ++ rest)) × NamesNoSchema all
header_cause all f limit new h =
    (magic_first all f limit h.between h.first, λ prefix rest entries marker text split whole schema. not_broken all prefix rest entries marker text f limit new split whole schema h)

pub codec_cause : (all : List ℕ) (f limit : ℕ) (new : State) → OtherCodec (told all f limit) new → BeginsWith Header NamesOtherCodec all
codec_cause all f limit new h =
    let t = taken_of all h.passed.0 new.left h.passed.1.consumed in
    record { prefix = h.passed.0; rest = t.0; joined = t.1; value = header_parts h.entries h.marker; first = h.passed.2; holds = (h.schema, h.other) }

pub header_limit_cause : (all : List ℕ) (f limit : ℕ) (new : State) → Stopped header (told all f limit) new stop.Limit → NoPrefixWithin limit Header all
header_limit_cause all f limit new h prefix rest v split whole within = never_limit header header_settles all prefix rest v f limit new split whole within h
