-- Of a source whose bytes the contract knows: where they are blocks that can be written, no other error comes than from outside.
use Rattle.std.proofs.Common.{◌≡◌, ◌∙◌, inl, inr, ℕ, zero, suc, ◌+◌, ◌≤◌, List, [], ◌∷◌, ◌++◌, length, All, Option, Some, None, refl, sym, ap, subst, append_assoc, length-append, arith}
use Rattle.std.proofs.lemmas.List.{append_cancel_left}
use Rattle.std.specs.Io.KnownBytes.{Consumes}
use Rattle.arrow_base.specs.Outside.{RoseOrFull}
use Rattle.arrow_core.specs.declared.error.Error.{Error}
use Rattle.arrow_core.specs.declared.error.Error.TheVariants.{OutOfMemory}
use Rattle.avro_container.specs.BlockReader.{NoBlock}
use Rattle.avro_container.specs.File.{FileBlock, IsFileBlock, Sequence, none, one}
use Rattle.avro_container.specs.Laws.{told}
use Rattle.avro_container.specs.Taking.{State, SizeFalls}
use Rattle.avro_container.proofs.Complete.{block_is_read, no_bytes_are_end}
use Rattle.avro_container.proofs.OneFile.{block_reads, block_some, prefix_none}
use Rattle.avro_container.specs.Changes.{Change, change_of, CameFromOutside}
use Rattle.avro_container.specs.Written.{BlockText, ShowBlocks, WritesBlocks, WrongBlock, BlockFails, StopsAtBlock}
use Rattle.avro_container.proofs.Steps.{rose_from}

pub consumed_some : (all taken : List ℕ) (left : Option (List ℕ)) → Consumes (Some all) left taken → (rest : List ℕ) × (left ≡ Some rest) × (all ≡ taken ++ rest)
consumed_some all taken None h = absurd h
consumed_some all taken (Some rest) h = (rest, refl, h)

all_after : {A : Type 0} (P : A → Type 0) (xs zs : List A) → All P (xs ++ zs) → All P zs
all_after P [] zs h = h
all_after P (x ∷ xs) zs h = all_after P xs zs (λ k d lt. h (suc k) d (omega (arith, lt)))

-- a source that tells these bytes, of no stated size
pub state_told : (s : State) (rest : List ℕ) → s.left ≡ Some rest → s.size_left ≡ None → s ≡ told rest s.faults s.limit
state_told s rest e n = λ i. record { left = e i; faults = s.faults; limit = s.limit; size_left = n i }

pub no_size : (size : Option ℕ) (n : ℕ) → SizeFalls None size n → size ≡ None
no_size None n h = refl
no_size (Some a) n h = absurd h

-- ---- whole blocks that were taken are the first ones of the file

-- bytes begin with one block of a marker at most
pub file_block_reads : (m a b x y : List ℕ) (v w : FileBlock) → IsFileBlock m a v → IsFileBlock m b w → a ++ x ≡ b ++ y → (a ≡ b) × (v ≡ w)
file_block_reads m a b x y v w p q e =
    let both = block_reads a b x y (v, m) (w, m) p q e in
    (both.0, ap (λ (z : FileBlock × List ℕ). z.0) both.1)

split : (marker a b rest : List ℕ) (xs ys : List FileBlock) → Sequence (IsFileBlock marker) a xs → Sequence (IsFileBlock marker) b ys → b ≡ a ++ rest
    → (zs : List FileBlock) × (ys ≡ xs ++ zs) × Sequence (IsFileBlock marker) rest zs
split marker a b rest xs ys none s e = (ys, refl, subst (λ z. Sequence (IsFileBlock marker) z ys) e s)
split marker a b rest xs ys (one q r x more h t) none e = absurd (block_some marker q x h (prefix_none q (r ++ rest) (sym (e ∙ append_assoc q r rest))))
split marker a b rest xs ys (one q r x more h t) (one p s y others g u) e =
    let both : p ++ s ≡ q ++ (r ++ rest) = e ∙ append_assoc q r rest in
    let here = file_block_reads marker p q s (r ++ rest) y x g h both in
    let left : s ≡ r ++ rest = append_cancel_left q s (r ++ rest) (ap (λ (z : List ℕ). z ++ s) (sym here.0) ∙ both) in
    let next = split marker r s rest more others t u left in
    (next.0, (λ i. here.1 i ∷ next.1 i), next.2)

-- ---- the next block of such a file

-- the block becomes some bytes
abbrev pub IsGood : (FileBlock → List ℕ → ℕ → Type 0) → FileBlock → Type 0
IsGood Shows b = (text : List ℕ) × (rows : ℕ) × Shows b text rows

pub all_good : (Shows : FileBlock → List ℕ → ℕ → Type 0) (blocks : List FileBlock) (texts : List BlockText) → ShowBlocks Shows blocks texts → All (IsGood Shows) blocks
all_good Shows [] texts h k d lt = absurd (omega (arith, lt))
all_good Shows (b ∷ blocks) [] h k d lt = absurd h
all_good Shows (b ∷ blocks) (t ∷ texts) h zero d lt = (t.text, t.rows, h.0)
all_good Shows (b ∷ blocks) (t ∷ texts) h (suc k) d lt = all_good Shows blocks texts h.1 k d (omega (arith, lt))

-- of blocks of which Good holds nothing is wrong
module _ (Shows : FileBlock → List ℕ → ℕ → Type 0) (Wrong : FileBlock → Error → Type 0) (Good : FileBlock → Type 0) (good_block : (b : FileBlock) (e : Error) → Good b → Wrong b e → e ≡ OutOfMemory) (marker : List ℕ) where
  next_fails : (rest : List ℕ) (zs : List FileBlock) (faults limit : ℕ) (new : State) (e : Error) → Sequence (IsFileBlock marker) rest zs → length rest ≤ limit → (RoseOrFull faults new.faults → ⊥) → NoBlock marker (told rest faults limit) new e → e ≡ OutOfMemory
  next_fails rest zs faults limit new e none within steady h = (no_bytes_are_end marker faults limit new steady).1 e h
  next_fails rest zs faults limit new e (one q r x more g t) within steady h =
      block_is_read marker (q ++ r) q r x faults limit new refl g (omega (arith, within, length-append q r)) steady e h

  next_wrong : (rest : List ℕ) (zs : List FileBlock) (faults limit : ℕ) (new : State) (e : Error) → Sequence (IsFileBlock marker) rest zs → All Good zs → WrongBlock Wrong marker (told rest faults limit) new e → e ≡ OutOfMemory
  next_wrong rest zs faults limit new e s good w = from rest zs s good (consumed_some rest w.passed.0 new.left w.passed.1.consumed)
    where
      from : (rest : List ℕ) (zs : List FileBlock) → Sequence (IsFileBlock marker) rest zs → All Good zs → (more : List ℕ) × (new.left ≡ Some more) × (rest ≡ w.passed.0 ++ more) → e ≡ OutOfMemory
      from rest zs none good t = absurd (block_some marker w.passed.0 w.block w.passed.2 (prefix_none w.passed.0 t.0 (sym t.2)))
      from rest zs (one q r x more g u) good t =
          let here = file_block_reads marker w.passed.0 q t.0 r w.block x w.passed.2 g (sym t.2) in
          good_block w.block e (subst Good (sym here.1) (good 0 x (omega arith))) w.wrong

  pub stops_for_memory : (back : List ℕ) (blocks : List FileBlock) (faults limit : ℕ) (new : State) (sink : Change) (e : Error) → Sequence (IsFileBlock marker) back blocks → All Good blocks
      → length back ≤ limit → (RoseOrFull faults new.faults → ⊥) → StopsAtBlock Shows Wrong marker (told back faults limit) new sink e → CameFromOutside sink e
  stops_for_memory back blocks faults limit new sink e s good within steady h = from h.fails
    where
      w : WritesBlocks Shows marker (told back faults limit) h.between sink.bytes h.held h.count
      w = h.before

      t : (rest : List ℕ) × (h.between.left ≡ Some rest) × (back ≡ w.bytes ++ rest)
      t = consumed_some back w.bytes h.between.left w.taken.consumed

      z : (zs : List FileBlock) × (blocks ≡ w.blocks ++ zs) × Sequence (IsFileBlock marker) t.0 zs
      z = split marker w.bytes back t.0 w.blocks blocks w.sequence s t.2

      is : h.between ≡ told t.0 h.between.faults h.between.limit
      is = state_told h.between t.0 t.1 (no_size h.between.size_left (length w.bytes) w.taken.size_left)

      lengths : length back ≡ length w.bytes + length t.0
      lengths = ap length t.2 ∙ length-append w.bytes t.0

      rest_good : All Good z.0
      rest_good = all_after Good w.blocks z.0 (subst (All Good) z.1 good)

      from : BlockFails Shows Wrong marker h.between new (change_of h.held sink.faults sink.bytes_after sink.faults_after) e → CameFromOutside sink e
      from (inl (keeps, inl nb)) =
          inl (next_fails t.0 z.0 h.between.faults h.between.limit new e z.2 (omega (arith, lengths, within, w.taken.limit)) (λ rose. steady (rose_from faults h.between.faults new.faults w.taken.faults rose))
          (subst (λ (b : State). NoBlock marker b new e) is nb))
      from (inl (keeps, inr wrong)) =
          inl (next_wrong t.0 z.0 h.between.faults h.between.limit new e z.2 rest_good (subst (λ (b : State). WrongBlock Wrong marker b new e) is wrong))
      from (inr b) = inr (b.is, b.failed)
