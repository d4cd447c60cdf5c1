-- One block after another.
use Rattle.std.proofs.Common.{◌≡◌, ◌∙◌, inl, inr, ℕ, ◌+◌, ◌≤◌, List, [], ◌∷◌, ◌++◌, length, Option, Some, refl, sym, ap, subst, length-append, arith}
use Rattle.std.specs.List.{flat_map, AllZip}
use Rattle.std.proofs.KnownBytes.{Appends-nil, Appends-trans}
use Rattle.std.proofs.lemmas.List.{append-nil}
use Rattle.std.proofs.lemmas.Grind.{flat_map-append}
use Rattle.std.proofs.lemmas.List.Sums.{sum_by_push}
use Rattle.std.specs.Io.KnownBytes.{Appends}
use Rattle.arrow_base.specs.Outside.{RoseOrFull}
use Rattle.arrow_core.specs.declared.error.Error.{Error}
use Rattle.avro_container.specs.File.{FileBlock, MarkedBlock, IsFileBlock, none}
use Rattle.avro_container.specs.FileForms.{marked_block}
use Rattle.avro_container.specs.Taking.{State, Passed}
use Rattle.avro_container.proofs.Sequences.{one_more}
use Rattle.avro_container.proofs.Taken.{takes_nothing, takes_more}
use Rattle.avro_container.specs.Blocks.{WritesBlock, NextWritten}
use Rattle.avro_container.specs.Changes.{change_of}
use Rattle.avro_container.specs.Written.{BlockText, WritesBlocks, BlockFails, StopsAtBlock}

-- ---- how many rows a block has at most

pub block_within : (bytes marker : List ℕ) (block : FileBlock) → MarkedBlock bytes (block, marker) → length block.bytes ≤ length bytes
block_within bytes marker block h =
    let second = h.second in
    let third = second.second in
    let is : block.bytes ≡ third.prefix = ap (λ (p : FileBlock × List ℕ). p.0.bytes) third.second.means ∙ third.first.1 in
    omega (arith, ap length is, ap length h.joined, length-append h.prefix h.back, ap length second.joined, length-append second.prefix second.back, ap length third.joined, length-append third.prefix third.back)

pub few_rows : (marker : List ℕ) (old new : State) (block : FileBlock) (rows : ℕ) → Passed marked_block old new (block, marker) → rows ≤ length block.bytes → rows + new.limit ≤ old.limit
few_rows marker old new block rows (taken, takes, whole) few = omega (arith, few, block_within taken marker block whole, takes.limit)

-- ---- whole blocks

abbrev block_text : List ℕ → ℕ → BlockText
block_text text rows = record { text = text; rows = rows }

pub writes_none : (shows : FileBlock → List ℕ → ℕ → Type 0) (marker : List ℕ) (s : State) (held : Option (List ℕ)) → WritesBlocks shows marker s s held held 0
writes_none shows marker s held = record {
  bytes = [];
  taken = takes_nothing s;
  blocks = [];
  sequence = none;
  texts = [];
  shows = tt;
  written = Appends-nil held;
  counted = refl;
}

zip_push : {A B : Type 0} (R : A → B → Type 0) (xs : List A) (ys : List B) (x : A) (y : B) → AllZip R xs ys → R x y → AllZip R (xs ++ x ∷ []) (ys ++ y ∷ [])
zip_push R [] [] x y h r = (r, tt)
zip_push R [] (z ∷ ys) x y h r = absurd h
zip_push R (z ∷ xs) [] x y h r = absurd h
zip_push R (a ∷ xs) (b ∷ ys) x y h r = (h.0, zip_push R xs ys x y h.1 r)

abbrev bytes_of : List BlockText → List ℕ
bytes_of = flat_map (λ (t : BlockText). t.text)

texts_push : (texts : List BlockText) (t : BlockText) → bytes_of (texts ++ t ∷ []) ≡ bytes_of texts ++ t.text
texts_push texts t = flat_map-append (λ (t : BlockText). t.text) texts (t ∷ []) ∙ ap (λ z. bytes_of texts ++ z) (append-nil t.text)

pub writes_more : (shows : FileBlock → List ℕ → ℕ → Type 0) (marker : List ℕ) (a b c : State) (first between last : Option (List ℕ)) (n m : ℕ)
    → WritesBlocks shows marker a b first between n → WritesBlock shows marker b c between last m → WritesBlocks shows marker a c first last (n + m)
writes_more shows marker a b c first between last n m w x = record {
  bytes = w.bytes ++ x.passed.0;
  taken = takes_more a b c w.bytes x.passed.0 w.taken x.passed.1;
  blocks = w.blocks ++ x.block ∷ [];
  sequence = one_more (IsFileBlock marker) w.bytes x.passed.0 w.blocks x.block w.sequence x.passed.2;
  texts = w.texts ++ block_text x.text m ∷ [];
  shows = zip_push (λ (d : FileBlock) (t : BlockText). shows d t.text t.rows) w.blocks w.texts x.block (block_text x.text m) w.shows x.shows;
  written = subst (Appends first last) (sym (texts_push w.texts (block_text x.text m))) (Appends-trans first between last (bytes_of w.texts) x.text w.written x.written);
  counted = omega (arith, w.counted, sum_by_push (λ (t : BlockText). t.rows) w.texts (block_text x.text m));
}

-- and the next one, by a call that answers so many rows
pub next_written : {E : Type 0} (shows : E → FileBlock → List ℕ → ℕ → Type 0) (p q : E) (marker other : List ℕ) (a b c : State) (first between last : Option (List ℕ)) (n m : ℕ) (next : Option ℕ) → q ≡ p → other ≡ marker → next ≡ Some m
    → WritesBlocks (shows p) marker a b first between n → NextWritten (shows q) other b c between last next → WritesBlocks (shows p) marker a c first last (n + m)
next_written {E} shows p q marker other a b c first between last n m next same_encoder same_marker is w h =
    writes_more (shows p) marker a b c first between last n m w
    (subst (λ (x : E × List ℕ × Option ℕ). NextWritten (shows x.0) x.1 b c between last x.2) (λ i. (same_encoder i, same_marker i, is i)) h)

-- ---- where the next block isn't written

pub rose_from : (a b c : ℕ) → a ≤ b → RoseOrFull b c → RoseOrFull a c
rose_from a b c le (inl h) = inl (omega (arith, le, h))
rose_from a b c le (inr h) = inr h

fails_from : (shows : FileBlock → List ℕ → ℕ → Type 0) (wrong : FileBlock → Error → Type 0) (marker : List ℕ) (old new : State) (held held_after : Option (List ℕ)) (first faults last : ℕ) (e : Error) → first ≤ faults
    → BlockFails shows wrong marker old new (change_of held faults held_after last) e → BlockFails shows wrong marker old new (change_of held first held_after last) e
fails_from shows wrong marker old new held held_after first faults last e le (inl h) = inl h
fails_from shows wrong marker old new held held_after first faults last e le (inr b) =
    inr (record { is = b.is; block = b.block; passed = b.passed; text = b.text; rows = b.rows; shows = b.shows; prefix = b.prefix; failed = rose_from first faults last le b.failed })

pub stops : (shows : FileBlock → List ℕ → ℕ → Type 0) (wrong : FileBlock → Error → Type 0) (marker : List ℕ) (old between new : State) (first held held_after : Option (List ℕ)) (at_first faults last n : ℕ) (e : Error) → at_first ≤ faults
    → WritesBlocks shows marker old between first held n → BlockFails shows wrong marker between new (change_of held faults held_after last) e
    → StopsAtBlock shows wrong marker old new (change_of first at_first held_after last) e
stops shows wrong marker old between new first held held_after at_first faults last n e le w f = record {
  between = between;
  held = held;
  count = n;
  before = w;
  fails = fails_from shows wrong marker between new held held_after at_first faults last e le f;
}
