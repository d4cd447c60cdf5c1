-- Of the same bytes one error of a block is right at most, out of memory and a failing sink aside.
use Rattle.std.proofs.Common.{◌≡◌, ◌∙◌, ◌⊎◌, inl, inr, ℕ, ◌+◌, ◌≤◌, List, [], ◌∷◌, ◌++◌, length, All, Option, Some, None, refl, sym, ap, subst, append_assoc, length-append, arith}
use Rattle.std.proofs.lemmas.List.{append_cancel_left}
use Rattle.std.proofs.lemmas.List.Elements.{All-tail}
use Rattle.std.specs.Io.KnownBytes.{IsAtEnd}
use Rattle.arrow_base.specs.Outside.{RoseOrFull}
use Rattle.arrow_core.specs.declared.error.Error.{Error}
use Rattle.arrow_core.specs.declared.error.Error.TheVariants.{ExternalFormat, LimitExceeded, ReadFault, OutOfMemory}
use Rattle.arrow_core.specs.declared.error.Reason.TheVariants as reason
use Rattle.avro_schema.proofs.Prefixes.{head_is, tail_is}
use Rattle.avro_container.specs.BlockReader.{NoBlock, OtherMarker}
use Rattle.avro_container.specs.File.{FileBlock, IsFileBlock, Sequence, none, one}
use Rattle.avro_container.specs.FileForms.{marked_block}
use Rattle.avro_container.specs.Forms.{Form as BytesForm}
use Rattle.avro_container.specs.Laws.{Settles, told}
use Rattle.avro_container.specs.Taking.{State, Takes, TakesPast, Passed}
use Rattle.avro_container.proofs.Complete.{block_is_read, container_cause, block_limit_cause}
use Rattle.avro_container.proofs.Settled.{block_settles}
use Rattle.avro_container.specs.Changes.{Change, change_of, CameFromOutside}
use Rattle.avro_container.specs.Written.{WritesBlocks, BlockFails, StopsAtBlock}
use Rattle.avro_container.proofs.Reading.{consumed_some, file_block_reads, IsGood, all_good, state_told, no_size}
use Rattle.avro_container.proofs.Steps.{rose_from}

-- the errors are one, out of memory aside
abbrev pub AreOne : Error → Error → Type 0
AreOne e d = (e ≡ d) ⊎ (e ≡ OutOfMemory) ⊎ (d ≡ OutOfMemory)

-- ---- of any form: what the limit cuts off is neither wrong nor at the end

-- the shorter of two prefixes is a prefix of the other
longer_prefix : (a b x y : List ℕ) → a ++ x ≡ b ++ y → length a ≤ length b → (z : List ℕ) × (b ≡ a ++ z)
longer_prefix [] b x y e l = (b, refl)
longer_prefix (c ∷ a) [] x y e l = absurd (omega (arith, l))
longer_prefix (c ∷ a) (d ∷ b) x y e l =
    let more = longer_prefix a b x y (tail_is e) (omega (arith, l)) in
    (more.0, λ i. head_is (sym e) i ∷ more.1 i)

module _ {A : Type 0} (F : BytesForm A) (all : List ℕ) (f g limit : ℕ) (new other : State) (before : List ℕ) (past : TakesPast (told all f limit) new before) where
  cut : (rest : List ℕ) × (new.left ≡ Some rest) × (all ≡ (before ++ past.byte ∷ []) ++ rest)
  cut = consumed_some all (before ++ past.byte ∷ []) new.left past.consumed

  pub limit_or_end : (taken : List ℕ) → Takes (told all g limit) other taken → IsAtEnd other.left → ⊥
  limit_or_end taken takes end =
      let t = consumed_some all taken other.left takes.consumed in
      let nothing : t.0 ≡ [] = subst IsAtEnd t.1 end in
      omega (arith, ap length t.2, length-append taken t.0, ap length nothing, takes.limit, ap length cut.2, length-append (before ++ past.byte ∷ []) cut.0, length-append before (past.byte ∷ []), past.limit)

  pub limit_or_wrong : Settles F → F.begun before → (taken : List ℕ) → Takes (told all g limit) other taken → F.wrong taken → ⊥
  limit_or_wrong sf begun taken takes w =
      let t = consumed_some all taken other.left takes.consumed in
      let z = longer_prefix taken before t.0 (past.byte ∷ cut.0) (sym t.2 ∙ cut.2 ∙ append_assoc before (past.byte ∷ []) cut.0) (omega (arith, takes.limit, past.limit)) in
      sf.wrong_or_begun taken z.0 w (subst F.begun z.1 begun)

-- ---- no block

module _ (marker all : List ℕ) (f g limit : ℕ) (new other : State) where
  limit_or_container : NoBlock marker (told all f limit) new LimitExceeded → NoBlock marker (told all g limit) other (ExternalFormat reason.Container) → ⊥
  limit_or_container h (inl w) = limit_or_wrong marked_block all f g limit new other h.0 h.1.0 block_settles h.1.1 w.0 w.1.0 w.1.1
  limit_or_container h (inr c) = limit_or_end marked_block all f g limit new other h.0 h.1.0 c.taken c.takes c.ended

  limit_or_marker : NoBlock marker (told all f limit) new LimitExceeded → OtherMarker marker (told all g limit) other → ⊥
  limit_or_marker h o =
      let t = consumed_some all o.taken.0 other.left o.taken.1.consumed in
      block_limit_cause marker all f limit new h o.taken.0 t.0 (o.block, o.other) t.2 o.taken.2 (omega (arith, o.taken.1.limit))

  container_or_marker : NoBlock marker (told all f limit) new (ExternalFormat reason.Container) → OtherMarker marker (told all g limit) other → ⊥
  container_or_marker h o =
      let t = consumed_some all o.taken.0 other.left o.taken.1.consumed in
      (container_cause marker all f limit new h).0 o.taken.0 t.0 (o.block, o.other) t.2 o.taken.2

module _ (marker all : List ℕ) (f g limit : ℕ) (new other : State) (steady : RoseOrFull f new.faults → ⊥) (also_steady : RoseOrFull g other.faults → ⊥) where
  one_reading : (e d : Error) → NoBlock marker (told all f limit) new e → NoBlock marker (told all g limit) other d → AreOne e d
  one_reading OutOfMemory d h k = inr (inl refl)
  one_reading (ReadFault None) d h k = absurd (steady h.1.3)
  one_reading LimitExceeded OutOfMemory h k = inr (inr refl)
  one_reading LimitExceeded (ReadFault None) h k = absurd (also_steady k.1.3)
  one_reading LimitExceeded LimitExceeded h k = inl refl
  one_reading LimitExceeded (ExternalFormat reason.Container) h k = absurd (limit_or_container marker all f g limit new other h k)
  one_reading LimitExceeded (ExternalFormat reason.Marker) h k = absurd (limit_or_marker marker all f g limit new other h k)
  one_reading LimitExceeded _ h k = absurd k
  one_reading (ExternalFormat reason.Container) OutOfMemory h k = inr (inr refl)
  one_reading (ExternalFormat reason.Container) (ReadFault None) h k = absurd (also_steady k.1.3)
  one_reading (ExternalFormat reason.Container) LimitExceeded h k = absurd (limit_or_container marker all g f limit other new k h)
  one_reading (ExternalFormat reason.Container) (ExternalFormat reason.Container) h k = inl refl
  one_reading (ExternalFormat reason.Container) (ExternalFormat reason.Marker) h k = absurd (container_or_marker marker all f g limit new other h k)
  one_reading (ExternalFormat reason.Container) _ h k = absurd k
  one_reading (ExternalFormat reason.Marker) OutOfMemory h k = inr (inr refl)
  one_reading (ExternalFormat reason.Marker) (ReadFault None) h k = absurd (also_steady k.1.3)
  one_reading (ExternalFormat reason.Marker) LimitExceeded h k = absurd (limit_or_marker marker all g f limit other new k h)
  one_reading (ExternalFormat reason.Marker) (ExternalFormat reason.Container) h k = absurd (container_or_marker marker all g f limit other new k h)
  one_reading (ExternalFormat reason.Marker) (ExternalFormat reason.Marker) h k = inl refl
  one_reading (ExternalFormat reason.Marker) _ h k = absurd k
  one_reading _ d h k = absurd h

-- ---- the next block

-- the errors are one, those from outside aside
abbrev pub AreOneOr : Change → Change → Error → Error → Type 0
AreOneOr sink another e d = (e ≡ d) ⊎ CameFromOutside sink e ⊎ CameFromOutside another d

pub or_outside : (sink another : Change) (e d : Error) → AreOne e d → AreOneOr sink another e d
or_outside sink another e d (inl same) = inl same
or_outside sink another e d (inr (inl memory)) = inr (inl (inl memory))
or_outside sink another e d (inr (inr memory)) = inr (inr (inl memory))

module _ (Shows : FileBlock → List ℕ → ℕ → Type 0) (Wrong : FileBlock → Error → Type 0) (good_block : (b : FileBlock) (e : Error) → IsGood Shows b → Wrong b e → e ≡ OutOfMemory)
    (one_wrong : (b : FileBlock) (e d : Error) → Wrong b e → Wrong b d → AreOne e d) (marker : List ℕ) where
  -- where a block is taken whole, the other reader has no error but out of memory
  block_or_none : (all : List ℕ) (f g limit : ℕ) (new other : State) (b : FileBlock) → Passed marked_block (told all f limit) new (b, marker) → (RoseOrFull g other.faults → ⊥) → (d : Error) → NoBlock marker (told all g limit) other d → d ≡ OutOfMemory
  block_or_none all f g limit new other b passed steady d h =
      let t = consumed_some all passed.0 new.left passed.1.consumed in
      block_is_read marker all passed.0 t.0 b g limit other t.2 passed.2 (omega (arith, passed.1.limit)) steady d h

  same_block : (all : List ℕ) (f g limit : ℕ) (new other : State) (b c : FileBlock) → Passed marked_block (told all f limit) new (b, marker) → Passed marked_block (told all g limit) other (c, marker) → b ≡ c
  same_block all f g limit new other b c h k =
      let t = consumed_some all h.0 new.left h.1.consumed in
      let u = consumed_some all k.0 other.left k.1.consumed in
      (file_block_reads marker h.0 k.0 t.0 u.0 b c h.2 k.2 (sym t.2 ∙ u.2)).1

  one_failure : (all : List ℕ) (f g limit : ℕ) (new other : State) (sink another : Change) (e d : Error) → (RoseOrFull f new.faults → ⊥) → (RoseOrFull g other.faults → ⊥)
      → BlockFails Shows Wrong marker (told all f limit) new sink e → BlockFails Shows Wrong marker (told all g limit) other another d → AreOneOr sink another e d
  one_failure all f g limit new other sink another e d steady also_steady (inr h) k = inr (inl (inr (h.is, h.failed)))
  one_failure all f g limit new other sink another e d steady also_steady (inl h) (inr k) = inr (inr (inr (k.is, k.failed)))
  one_failure all f g limit new other sink another e d steady also_steady (inl (keeps, inl h)) (inl (holds, inl k)) =
      or_outside sink another e d (one_reading marker all f g limit new other steady also_steady e d h k)
  one_failure all f g limit new other sink another e d steady also_steady (inl (keeps, inl h)) (inl (holds, inr k)) =
      inr (inl (inl (block_or_none all g f limit other new k.block k.passed steady e h)))
  one_failure all f g limit new other sink another e d steady also_steady (inl (keeps, inr h)) (inl (holds, inl k)) =
      inr (inr (inl (block_or_none all f g limit new other h.block h.passed also_steady d k)))
  one_failure all f g limit new other sink another e d steady also_steady (inl (keeps, inr h)) (inl (holds, inr k)) =
      let same : h.block ≡ k.block = same_block all f g limit new other h.block k.block h.passed k.passed in
      or_outside sink another e d (one_wrong k.block e d (subst (λ (b : FileBlock). Wrong b e) same h.wrong) k.wrong)

  -- ---- after as many blocks, or fewer

  -- a block becomes some bytes that stands at the start of these bytes, and ends no later than so many bytes from another start
  record NextIsGood (before after : ℕ) (rest : List ℕ) : Type 0 where
    prefix : List ℕ
    back : List ℕ
    joined : rest ≡ prefix ++ back
    block : FileBlock
    is : IsFileBlock marker prefix block
    good : IsGood Shows block
    fits : before + length prefix ≤ after

  good_next : (all : List ℕ) (f limit before after : ℕ) (new : State) (sink : Change) (e : Error) → NextIsGood before after all → after ≤ before + limit → (RoseOrFull f new.faults → ⊥) → BlockFails Shows Wrong marker (told all f limit) new sink e → CameFromOutside sink e
  good_next all f limit before after new sink e n within steady (inr h) = inr (h.is, h.failed)
  good_next all f limit before after new sink e n within steady (inl (keeps, inl h)) =
      inl (block_is_read marker all n.prefix n.back n.block f limit new n.joined n.is (omega (arith, within, n.fits)) steady e h)
  good_next all f limit before after new sink e n within steady (inl (keeps, inr h)) =
      let t = consumed_some all h.passed.0 new.left h.passed.1.consumed in
      let same = (file_block_reads marker n.prefix h.passed.0 n.back t.0 n.block h.block n.is h.passed.2 (sym n.joined ∙ t.2)).1 in
      inl (good_block h.block e (subst (IsGood Shows) same n.good) h.wrong)

  -- after two sequences the same bytes stand, or the shorter one is followed by a block of the longer one
  abbrev Compared : ℕ → ℕ → List ℕ → List ℕ → Type 0
  Compared m n x y = ((m ≡ n) × (x ≡ y)) ⊎ NextIsGood m n x ⊎ NextIsGood n m y

  later : (q r : List ℕ) (m n : ℕ) (x : List ℕ) → length q ≡ length r → NextIsGood m n x → NextIsGood (length q + m) (length r + n) x
  later q r m n x e h = record { prefix = h.prefix; back = h.back; joined = h.joined; block = h.block; is = h.is; good = h.good; fits = omega (arith, h.fits, e) }

  compared_later : (q r a b x y : List ℕ) → length q ≡ length r → Compared (length a) (length b) x y → Compared (length (q ++ a)) (length (r ++ b)) x y
  compared_later q r a b x y e c = subst (λ (n : ℕ). Compared n (length (r ++ b)) x y) (sym (length-append q a)) (subst (λ (n : ℕ). Compared (length q + length a) n x y) (sym (length-append r b)) (from c))
    where
      from : Compared (length a) (length b) x y → Compared (length q + length a) (length r + length b) x y
      from (inl same) = inl (omega (arith, e, same.0), same.1)
      from (inr (inl h)) = inr (inl (later q r (length a) (length b) x e h))
      from (inr (inr h)) = inr (inr (later r q (length b) (length a) y (sym e) h))

  compare : (a b x y : List ℕ) (xs ys : List FileBlock) → Sequence (IsFileBlock marker) a xs → Sequence (IsFileBlock marker) b ys → a ++ x ≡ b ++ y → All (IsGood Shows) xs → All (IsGood Shows) ys → Compared (length a) (length b) x y
  compare a b x y xs ys none none e good fine = inl (refl, e)
  compare a b x y xs ys none (one q r z more h t) e good fine =
      inr (inl (record { prefix = q; back = r ++ y; joined = e ∙ append_assoc q r y; block = z; is = h; good = fine 0 z (omega arith); fits = omega (arith, length-append q r) }))
  compare a b x y xs ys (one q r z more h t) none e good fine =
      inr (inr (record { prefix = q; back = r ++ x; joined = sym e ∙ append_assoc q r x; block = z; is = h; good = good 0 z (omega arith); fits = omega (arith, length-append q r) }))
  compare a b x y xs ys (one q r z more h t) (one s u w others k v) e good fine =
      let both : q ++ (r ++ x) ≡ s ++ (u ++ y) = sym (append_assoc q r x) ∙ e ∙ append_assoc s u y in
      let here = file_block_reads marker q s (r ++ x) (u ++ y) z w h k both in
      let left : r ++ x ≡ u ++ y = append_cancel_left s (r ++ x) (u ++ y) (ap (λ (i : List ℕ). i ++ (r ++ x)) (sym here.0) ∙ both) in
      compared_later q s r u x y (ap length here.0) (compare r u x y more others t v left (All-tail (IsGood Shows) z more good) (All-tail (IsGood Shows) w others fine))

  -- ---- two readers of blocks

  -- the sink's change from these bytes on
  abbrev changed_from : Option (List ℕ) → Change → Change
  changed_from held sink = change_of held sink.faults sink.bytes_after sink.faults_after

  pub one_stop : (all : List ℕ) (f g limit : ℕ) (new other : State) (sink another : Change) (e d : Error) → (RoseOrFull f new.faults → ⊥) → (RoseOrFull g other.faults → ⊥)
      → StopsAtBlock Shows Wrong marker (told all f limit) new sink e → StopsAtBlock Shows Wrong marker (told all g limit) other another d → AreOneOr sink another e d
  one_stop all f g limit new other sink another e d steady also_steady h k =
      from (compare w.bytes v.bytes t.0 u.0 w.blocks v.blocks w.sequence v.sequence (sym t.2 ∙ u.2) (all_good Shows w.blocks w.texts w.shows) (all_good Shows v.blocks v.texts v.shows))
    where
      w : WritesBlocks Shows marker (told all f limit) h.between sink.bytes h.held h.count
      w = h.before

      v : WritesBlocks Shows marker (told all g limit) k.between another.bytes k.held k.count
      v = k.before

      t : (rest : List ℕ) × (h.between.left ≡ Some rest) × (all ≡ w.bytes ++ rest)
      t = consumed_some all w.bytes h.between.left w.taken.consumed

      u : (rest : List ℕ) × (k.between.left ≡ Some rest) × (all ≡ v.bytes ++ rest)
      u = consumed_some all v.bytes k.between.left v.taken.consumed

      still : RoseOrFull h.between.faults new.faults → ⊥
      still rose = steady (rose_from f h.between.faults new.faults w.taken.faults rose)

      also_still : RoseOrFull k.between.faults other.faults → ⊥
      also_still rose = also_steady (rose_from g k.between.faults other.faults v.taken.faults rose)

      fails : BlockFails Shows Wrong marker (told t.0 h.between.faults h.between.limit) new (changed_from h.held sink) e
      fails = subst (λ (s : State). BlockFails Shows Wrong marker s new (changed_from h.held sink) e) (state_told h.between t.0 t.1 (no_size h.between.size_left (length w.bytes) w.taken.size_left)) h.fails

      also_fails : BlockFails Shows Wrong marker (told u.0 k.between.faults k.between.limit) other (changed_from k.held another) d
      also_fails = subst (λ (s : State). BlockFails Shows Wrong marker s other (changed_from k.held another) d) (state_told k.between u.0 u.1 (no_size k.between.size_left (length v.bytes) v.taken.size_left)) k.fails

      from : Compared (length w.bytes) (length v.bytes) t.0 u.0 → AreOneOr sink another e d
      from (inl (long, same)) =
          let limits : k.between.limit ≡ h.between.limit = omega (arith, long, w.taken.limit, v.taken.limit) in
          one_failure t.0 h.between.faults k.between.faults h.between.limit new other (changed_from h.held sink) (changed_from k.held another) e d still also_still fails
          (subst (λ (n : ℕ). BlockFails Shows Wrong marker (told t.0 k.between.faults n) other (changed_from k.held another) d) limits (subst (λ (rest : List ℕ). BlockFails Shows Wrong marker (told rest k.between.faults k.between.limit) other (changed_from k.held another) d) (sym same) also_fails))
      from (inr (inl n)) = inr (inl (good_next t.0 h.between.faults h.between.limit (length w.bytes) (length v.bytes) new (changed_from h.held sink) e n (omega (arith, w.taken.limit, v.taken.limit)) still fails))
      from (inr (inr n)) = inr (inr (good_next u.0 k.between.faults k.between.limit (length v.bytes) (length w.bytes) other (changed_from k.held another) d n (omega (arith, w.taken.limit, v.taken.limit)) also_still also_fails))
