-- The same of many, of entries under a stated size, of blocks, and of a file's header.
use Rattle.std.proofs.Common.{◌≡◌, ℕ, zero, suc, inl, inr, ℤ, pos, negsuc, List, [], ◌∷◌, ◌++◌, length, refl, sym, ◌∙◌, ap, subst, append_assoc, length-append, arith}
use Rattle.std.proofs.lemmas.List.{append_cancel_left, append-nil}
use Rattle.std.specs.Str.{IsUtf8}
use Rattle.avro_schema.specs.Number.{Number}
use Rattle.avro_schema.proofs.Prefixes.{same_length}
use Rattle.avro_schema.specs.Parts.{Many, BlockOf, Blocks, Raw}
use Rattle.avro_schema.specs.Parts as parts
use Rattle.avro_schema.specs.Encodes.{Any}
use Rattle.avro_schema.proofs.WholePrefixes.{Reads, number_reads, raw_reads, meaning_reads, many_reads, block_reads, blocks_read, apart}
use Rattle.avro_container.specs.File.{IsCount, the_entry, magic, header_parts}
use Rattle.avro_container.specs.FileForms.{entry, key_form, after_key, magic_form, after_magic, after_map, header}
use Rattle.avro_container.specs.Forms.{Form, number, count, raw, both, sized, many, BegunMany, WrongMany, under, sized_many_of, block_of, BegunBlocks, WrongBlocks, blocks}
use Rattle.avro_container.specs.Laws.{Settles}
use Rattle.avro_container.specs.Forms as forms
use Rattle.avro_container.proofs.OneFile.{count_reads, sized_reads, entry_reads}
use Rattle.avro_container.proofs.Settled.{both_settles, meaning_settles, raw_settles, number_settles, count_settles}

pos_same : (z : ℤ) (m n : ℕ) → z ≡ pos m → z ≡ pos n → m ≡ n
pos_same z m n e f = let g : pos m ≡ pos n = sym e ∙ f in cc

module _ {A : Type 0} (P : Form A) (rp : Reads P.whole) (sp : Settles P) where
  abbrev next : ℕ → A → Form (List A)
  next n x = record { whole = λ back ys. (more : List A) × (ys ≡ x ∷ more) × Many P.whole n back more; begun = BegunMany P n; wrong = WrongMany P n }

  pub many_settles : (n : ℕ) → Settles (many P n)
  many_settles zero = record { whole_or_wrong = λ a b x y v p w e. w; whole_or_begun = λ a x v p g. g; wrong_or_begun = λ b x w g. g }
  many_settles (suc n) =
      let rest : Settles (many P n) = many_settles n in
      let all : Settles (both P (next n)) =
      both_settles P (next n) rp sp
      (λ z. record {
        whole_or_wrong = λ a b x y v p w e. rest.whole_or_wrong a b x y p.0 p.2 w e;
        whole_or_begun = λ a x v p g. rest.whole_or_begun a x p.0 p.2 g;
        wrong_or_begun = rest.wrong_or_begun;
      }) in
      record { whole_or_wrong = all.whole_or_wrong; whole_or_begun = all.whole_or_begun; wrong_or_begun = all.wrong_or_begun }

module _ {A : Type 0} (z : ℤ) (P : Form A) (rp : Reads P.whole) (sp : Settles P) where
  under_whole_or_wrong : (a b x y : List ℕ) (v : A) → (under z P).whole a v → (under z P).wrong b → a ++ x ≡ b ++ y → ⊥
  under_whole_or_wrong a b x y v p (inl w) e = w.0 (subst IsCount (sym p.0) tt)
  under_whole_or_wrong a b x y v p (inr (s, is, inl w)) e = sp.whole_or_wrong a b x y v p.1 w.1 e
  under_whole_or_wrong a b x y v p (inr (s, is, inr (inl (l, u, q)))) e =
      let same = rp a b x y v u p.1 q e in omega (arith, pos_same z (length a) s p.0 is, ap length same.0, l)
  under_whole_or_wrong a b x y v p (inr (s, is, inr (inr (l, g)))) e =
      let same : a ≡ b = same_length a b x y (pos_same z (length a) s p.0 is ∙ sym l) e in
      sp.whole_or_begun a [] v p.1 (subst P.begun (sym (append-nil a ∙ same)) g)

  under_whole_or_begun : (a x : List ℕ) (v : A) → (under z P).whole a v → (under z P).begun (a ++ x) → ⊥
  under_whole_or_begun a x v p (s, is, l, g) = omega (arith, pos_same z (length a) s p.0 is, length-append a x, l)

  under_wrong_or_begun : (b x : List ℕ) → (under z P).wrong b → (under z P).begun (b ++ x) → ⊥
  under_wrong_or_begun b x (inl w) (s, is, l, g) = w.0 (subst IsCount (sym is) tt)
  under_wrong_or_begun b x (inr (t, ist, inl w)) (s, is, l, g) = sp.wrong_or_begun b x w.1 g
  under_wrong_or_begun b x (inr (t, ist, inr (inl (k, u, q)))) (s, is, l, g) = sp.whole_or_begun b x u q g
  under_wrong_or_begun b x (inr (t, ist, inr (inr (k, h)))) (s, is, l, g) = omega (arith, pos_same z t s ist is, k, length-append b x, l)

  pub under_settles : Settles (under z P)
  under_settles = record { whole_or_wrong = under_whole_or_wrong; whole_or_begun = under_whole_or_begun; wrong_or_begun = under_wrong_or_begun }

module _ {A : Type 0} (P : Form A) (rp : Reads P.whole) (sp : Settles P) where
  sized_settles : (n : ℕ) → Settles (sized_many_of P n)
  sized_settles n = both_settles number (λ z. under z (many P n)) number_reads number_settles (λ z. under_settles z (many P n) (many_reads P.whole rp n) (many_settles P rp sp n))

  pub block_settles : (c : ℤ) → Settles (block_of P c)
  block_settles (pos zero) = record { whole_or_wrong = λ a b x y v p w e. w; whole_or_begun = λ a x v p g. g; wrong_or_begun = λ b x w g. g }
  block_settles (pos (suc n)) = record { whole_or_wrong = ww; whole_or_begun = λ a x v p g. all.whole_or_begun a x v p.1 g.1; wrong_or_begun = wb }
    where
      all : Settles (many P (suc n))
      all = many_settles P rp sp (suc n)

      ww : (a b x y : List ℕ) (v : List A) → (block_of P (pos (suc n))).whole a v → (block_of P (pos (suc n))).wrong b → a ++ x ≡ b ++ y → ⊥
      ww a b x y v p (inl w) e = omega (arith, p.0, w.0)
      ww a b x y v p (inr w) e = all.whole_or_wrong a b x y v p.1 w e

      wb : (b x : List ℕ) → (block_of P (pos (suc n))).wrong b → (block_of P (pos (suc n))).begun (b ++ x) → ⊥
      wb b x (inl w) g = omega (arith, g.0, w.0)
      wb b x (inr w) g = all.wrong_or_begun b x w g.1
  block_settles (negsuc n) = record { whole_or_wrong = ww; whole_or_begun = λ a x v p g. all.whole_or_begun a x v p.1 g.1; wrong_or_begun = wb }
    where
      all : Settles (sized_many_of P (suc n))
      all = sized_settles (suc n)

      ww : (a b x y : List ℕ) (v : List A) → (block_of P (negsuc n)).whole a v → (block_of P (negsuc n)).wrong b → a ++ x ≡ b ++ y → ⊥
      ww a b x y v p (inl w) e = omega (arith, p.0, w.0)
      ww a b x y v p (inr w) e = all.whole_or_wrong a b x y v p.1 w e

      wb : (b x : List ℕ) → (block_of P (negsuc n)).wrong b → (block_of P (negsuc n)).begun (b ++ x) → ⊥
      wb b x (inl w) g = omega (arith, g.0, w.0)
      wb b x (inr w) g = all.wrong_or_begun b x w g.1

  here_whole : (c : ℤ) (b : List ℕ) (v : List A) → BlockOf P.whole c b v → (block_of P c).whole b v
  here_whole (pos zero) b v h = h
  here_whole (pos (suc n)) b v h = h
  here_whole (negsuc n) b v h = h

  no_wrong : (c : ℤ) (b : List ℕ) → c ≡ pos 0 → (block_of P c).wrong b → ⊥
  no_wrong c b e h = subst (λ z. (block_of P z).wrong b) e h

  no_begun : (c : ℤ) (b : List ℕ) → c ≡ pos 0 → (block_of P c).begun b → ⊥
  no_begun c b e h = subst (λ z. (block_of P z).begun b) e h

  no_block : (c : ℤ) (b : List ℕ) (v : List A) → c ≡ pos 0 → BlockOf P.whole c b v → ⊥
  no_block c b v e h = subst (λ z. BlockOf P.whole z b v) e h

  -- behind two equal counts
  same_count : (f g x y : List ℕ) (c d : ℤ) → Number f c → Number g d → f ++ x ≡ g ++ y → (c ≡ d) × (x ≡ y)
  same_count f g x y c d n m e =
      let s = number_reads f g x y c d n m e in (s.1, append_cancel_left g x y (ap (λ (z : List ℕ). z ++ x) (sym s.0) ∙ e))

  same_block : (i j x y : List ℕ) (c d : ℤ) (v w : List A) → c ≡ d → BlockOf P.whole c i v → BlockOf P.whole d j w → i ++ x ≡ j ++ y → x ≡ y
  same_block i j x y c d v w s h k e =
      let b = block_reads P.whole rp d i j x y v w (subst (λ z. BlockOf P.whole z i v) s h) k e in
      append_cancel_left j x y (ap (λ (z : List ℕ). z ++ x) (sym b.0) ∙ e)

  two : (f i x : List ℕ) → (f ++ i) ++ x ≡ f ++ (i ++ x)
  two f i x = append_assoc f i x

  ww : (a b x y : List ℕ) (v : List A) → Blocks P.whole a v → WrongBlocks P b → a ++ x ≡ b ++ y → ⊥
  ww a b x y v (parts.last p) (forms.WrongBlocks.broken w) e = number_settles.whole_or_wrong a b x y _ p w e
  ww a b x y v (parts.last p) (forms.WrongBlocks.here g j d m w) e = no_wrong d j (sym (same_count a g x (j ++ y) _ d p m (e ∙ two g j y)).0) w
  ww a b x y v (parts.last p) (forms.WrongBlocks.later g j s d ws m k h) e = no_block d j ws (sym (same_count a g x (j ++ (s ++ y)) _ d p m (e ∙ apart g j s y)).0) k
  ww a b x y v (parts.block f i r c vs us n k h) (forms.WrongBlocks.broken w) e = number_settles.whole_or_wrong f b (i ++ (r ++ x)) y c n w (sym (apart f i r x) ∙ e)
  ww a b x y v (parts.block f i r c vs us n k h) (forms.WrongBlocks.here g j d m w) e =
      let s = same_count f g (i ++ (r ++ x)) (j ++ y) c d n m (sym (apart f i r x) ∙ e ∙ two g j y) in
      (block_settles d).whole_or_wrong i j (r ++ x) y vs (here_whole d i vs (subst (λ z. BlockOf P.whole z i vs) s.0 k)) w s.1
  ww a b x y v (parts.block f i r c vs us n k h) (forms.WrongBlocks.later g j s d ws m l o) e =
      let t = same_count f g (i ++ (r ++ x)) (j ++ (s ++ y)) c d n m (sym (apart f i r x) ∙ e ∙ apart g j s y) in
      ww r s x y us h o (same_block i j (r ++ x) (s ++ y) c d vs ws t.0 k l t.1)

  wg : (a b x : List ℕ) (v : List A) → Blocks P.whole a v → BegunBlocks P b → a ++ x ≡ b → ⊥
  wg a b x v (parts.last p) (forms.BegunBlocks.broken g) e = number_settles.whole_or_begun a x _ p (subst number.begun (sym e) g)
  wg a b x v (parts.last p) (forms.BegunBlocks.here f j d m g) e = no_begun d j (sym (same_count a f x j _ d p m e).0) g
  wg a b x v (parts.last p) (forms.BegunBlocks.later f j s d ws m k h) e = no_block d j ws (sym (same_count a f x (j ++ s) _ d p m e).0) k
  wg a b x v (parts.block f i r c vs us n k h) (forms.BegunBlocks.broken g) e = number_settles.whole_or_begun f (i ++ (r ++ x)) c n (subst number.begun (sym e ∙ apart f i r x) g)
  wg a b x v (parts.block f i r c vs us n k h) (forms.BegunBlocks.here f2 j d m g) e =
      let s = same_count f f2 (i ++ (r ++ x)) j c d n m (sym (apart f i r x) ∙ e) in
      (block_settles d).whole_or_begun i (r ++ x) vs (here_whole d i vs (subst (λ z. BlockOf P.whole z i vs) s.0 k)) (subst (block_of P d).begun (sym s.1) g)
  wg a b x v (parts.block f i r c vs us n k h) (forms.BegunBlocks.later f2 j s d ws m l o) e =
      let t = same_count f f2 (i ++ (r ++ x)) (j ++ s) c d n m (sym (apart f i r x) ∙ e) in
      wg r s x us h o (same_block i j (r ++ x) s c d vs ws t.0 k l t.1)

  gw : (b d x : List ℕ) → WrongBlocks P b → BegunBlocks P d → b ++ x ≡ d → ⊥
  gw b d x (forms.WrongBlocks.broken w) (forms.BegunBlocks.broken g) e = number_settles.wrong_or_begun b x w (subst number.begun (sym e) g)
  gw b d x (forms.WrongBlocks.broken w) (forms.BegunBlocks.here f j c m g) e = number_settles.whole_or_wrong f b j x c m w (sym e)
  gw b d x (forms.WrongBlocks.broken w) (forms.BegunBlocks.later f j s c ws m k h) e = number_settles.whole_or_wrong f b (j ++ s) x c m w (sym e)
  gw b d x (forms.WrongBlocks.here f i c n w) (forms.BegunBlocks.broken g) e = number_settles.whole_or_begun f (i ++ x) c n (subst number.begun (sym e ∙ two f i x) g)
  gw b d x (forms.WrongBlocks.here f i c n w) (forms.BegunBlocks.here f2 j c2 m g) e =
      let s = same_count f f2 (i ++ x) j c c2 n m (sym (two f i x) ∙ e) in
      (block_settles c2).wrong_or_begun i x (subst (λ z. (block_of P z).wrong i) s.0 w) (subst (block_of P c2).begun (sym s.1) g)
  gw b d x (forms.WrongBlocks.here f i c n w) (forms.BegunBlocks.later f2 j r c2 ws m k h) e =
      let s = same_count f f2 (i ++ x) (j ++ r) c c2 n m (sym (two f i x) ∙ e) in
      (block_settles c2).whole_or_wrong j i r x ws (here_whole c2 j ws k) (subst (λ z. (block_of P z).wrong i) s.0 w) (sym s.1)
  gw b d x (forms.WrongBlocks.later f i r c vs n k h) (forms.BegunBlocks.broken g) e = number_settles.whole_or_begun f (i ++ (r ++ x)) c n (subst number.begun (sym e ∙ apart f i r x) g)
  gw b d x (forms.WrongBlocks.later f i r c vs n k h) (forms.BegunBlocks.here f2 j c2 m g) e =
      let s = same_count f f2 (i ++ (r ++ x)) j c c2 n m (sym (apart f i r x) ∙ e) in
      (block_settles c2).whole_or_begun i (r ++ x) vs (here_whole c2 i vs (subst (λ z. BlockOf P.whole z i vs) s.0 k)) (subst (block_of P c2).begun (sym s.1) g)
  gw b d x (forms.WrongBlocks.later f i r c vs n k h) (forms.BegunBlocks.later f2 j s c2 ws m l o) e =
      let t = same_count f f2 (i ++ (r ++ x)) (j ++ s) c c2 n m (sym (apart f i r x) ∙ e) in
      gw r s x h o (same_block i j (r ++ x) s c c2 vs ws t.0 k l t.1)

  pub blocks_settle : Settles (blocks P)
  blocks_settle = record { whole_or_wrong = ww; whole_or_begun = λ a x v p g. wg a (a ++ x) x v p g refl; wrong_or_begun = λ b x w g. gw b (b ++ x) x w g refl }

sized_settle : Settles sized
sized_settle = both_settles count raw count_reads count_settles raw_settles

entry_settles : Settles entry
entry_settles =
    both_settles key_form after_key (meaning_reads sized.whole IsUtf8 (λ k. k) sized_reads) (meaning_settles sized IsUtf8 (λ k. k) sized_reads sized_settle)
    (λ k. meaning_settles sized Any (the_entry k) sized_reads sized_settle)

pub header_settles : Settles header
header_settles =
    both_settles magic_form (λ _. after_magic) (meaning_reads (Raw 4) (λ b. b ≡ magic) (λ b. b) (raw_reads 4)) (meaning_settles (raw 4) (λ b. b ≡ magic) (λ b. b) (raw_reads 4) (raw_settles 4))
    (λ _. both_settles (blocks entry) after_map (blocks_read entry.whole entry_reads) (blocks_settle entry entry_reads entry_settles)
    (λ es. meaning_settles (raw 16) Any (header_parts es) (raw_reads 16) (raw_settles 16)))
