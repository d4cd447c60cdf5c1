-- One step of reading items and blocks, and what stood before them.
use Rattle.std.proofs.Common.{◌≡◌, ℕ, ℤ, pos, negsuc, zero, suc, ◌-◌, ◌^◌, ◌<◌, Bool, true, false, cond, eqb, ltb, List, [], ◌∷◌, ◌++◌, length, Option, Some, None, refl, sym, ap, ◌∙◌, append_assoc, subst, arith}
use Rattle.std.proofs.lemmas.Bool.Decides.{nat_tests}
use Rattle.std.proofs.lemmas.List.{append-nil}
use Rattle.std.proofs.lemmas.Option.{some_pair_parts, none-some}
use Rattle.arrow_core.specs.declared.slot.Slot.{Slot}
use Rattle.arrow_core.specs.declared.slot.Slot.TheVariants as slot
use Rattle.avro_schema.specs.AndThen.{◌>>=◌}
use Rattle.avro_reference.specs.Prefix.{Reader, number_at, is_count}
use Rattle.avro_reference.specs.Read.{push_one, items, block_items, blocks, array_at}
use Rattle.avro_flat.specs.Decoding.{Fails}
use Rattle.avro_decode.specs.Decoding.{all_blocks, sized_items}
use Rattle.avro_flat.specs.declared.fault.DecodeFault.{DecodeFault}
use Rattle.avro_flat.specs.declared.fault.DecodeFault.TheVariants.{Bytes, Memory}

abbrev State : Type 0
State = Option (List Slot × List ℕ)

pub push_parts : (old new : List Slot) (o : Option (Slot × List ℕ)) (rest : List ℕ) → push_one old o ≡ Some (new, rest) → (x : Slot) × (o ≡ Some (x, rest)) × (new ≡ old ++ x ∷ [])
unfolding push_one
push_parts old new None rest h = absurd cc
push_parts old new (Some (x, r)) rest h = let p = some_pair_parts (old ++ x ∷ []) new r rest h in (x, rw p.1 refl, sym p.0)

pub push_none_parts : (old : List Slot) (o : Option (Slot × List ℕ)) → push_one old o ≡ None → o ≡ None
unfolding push_one
push_none_parts old None h = refl
push_none_parts old (Some (x, r)) h = absurd cc

-- ---- blocks

other_count : (v : ℤ) → (v ≡ pos 0 → ⊥) → is_count v 0 ≡ false
other_count (pos zero) h = absurd (h refl)
other_count (pos (suc n)) h = let t : eqb (suc n) 0 ≡ false = grind (arith, nat_tests) in t
other_count (negsuc n) h = refl

pub blocks-next : (f : Reader Slot) (fuel : ℕ) (v : ℤ) (old xs : List Slot) (bytes r r2 : List ℕ) (target : State) → length bytes < fuel → length r2 < length bytes → number_at bytes ≡ Some (v, r) → (v ≡ pos 0 → ⊥) → block_items f v old r ≡ Some (xs, r2) → blocks f fuel old bytes ≡ target → (more : ℕ) × (length r2 < more) × (blocks f more xs r2 ≡ target)
unfolding blocks
blocks-next f zero v old xs bytes r r2 target lt sh p z q e = absurd (omega arith)
blocks-next f (suc fuel) v old xs bytes r r2 target lt sh p z q e =
    let e1 = rw p at e in
    let e2 = rw (other_count v z) at e1 in
    let e3 = rw q at e2 in
    (fuel, omega (arith, lt, sh), e3)

pub blocks-end : (f : Reader Slot) (fuel : ℕ) (v : ℤ) (old : List Slot) (bytes r : List ℕ) (target : State) → length bytes < fuel → number_at bytes ≡ Some (v, r) → v ≡ pos 0 → blocks f fuel old bytes ≡ target → target ≡ Some (old, r)
unfolding blocks
blocks-end f zero v old bytes r target lt p z e = absurd (omega arith)
blocks-end f (suc fuel) v old bytes r target lt p z e =
    let e1 = rw p at e in
    sym (rw z at e1)

pub blocks-no_count : (f : Reader Slot) (fuel : ℕ) (old : List Slot) (bytes : List ℕ) (target : State) → number_at bytes ≡ None → blocks f fuel old bytes ≡ target → target ≡ None
unfolding blocks
blocks-no_count f zero old bytes target p e = sym e
blocks-no_count f (suc fuel) old bytes target p e = sym (rw p at e)

pub blocks-bad : (d : DecodeFault) (f : Reader Slot) (fuel : ℕ) (v : ℤ) (old : List Slot) (bytes r : List ℕ) (target : State) → number_at bytes ≡ Some (v, r) → (v ≡ pos 0 → ⊥) → Fails d (block_items f v old r) → blocks f fuel old bytes ≡ target → Fails d target
unfolding blocks
blocks-bad Bytes f zero v old bytes r target p z q e = sym e
blocks-bad Bytes f (suc fuel) v old bytes r target p z q e =
    let e1 = rw p at e in
    let e2 = rw (other_count v z) at e1 in
    sym (rw q at e2)
blocks-bad Memory f fuel v old bytes r target p z q e = tt

-- ---- blocks of items

pub block_counted : (f : Reader Slot) (n : ℕ) (old : List Slot) (bytes : List ℕ) → block_items f (pos n) old bytes ≡ items f n old bytes
unfolding block_items
block_counted f n old bytes = refl

pub block_sized : (f : Reader Slot) (n : ℕ) (old : List Slot) (bytes : List ℕ) → ltb (suc n) (2 ^ 63) ≡ true → block_items f (negsuc n) old bytes ≡ sized_items f (suc n) old bytes
unfolding block_items
block_sized f n old bytes e = rw e refl

pub block_too_many : (f : Reader Slot) (n : ℕ) (old : List Slot) (bytes : List ℕ) → ltb (suc n) (2 ^ 63) ≡ false → block_items f (negsuc n) old bytes ≡ None
unfolding block_items
block_too_many f n old bytes e = rw e refl

-- ---- what stood before

abbrev pub with_prefix : List Slot → State → State
with_prefix prefix read = read >>= λ x. Some (prefix ++ x.0, x.1)

push_one-after : (cs old : List Slot) (read : Option (Slot × List ℕ)) → push_one (cs ++ old) read ≡ with_prefix cs (push_one old read)
unfolding push_one
push_one-after cs old None = refl
push_one-after cs old (Some x) = ap (λ (xs : List Slot). Some (xs, x.1)) (append_assoc cs old (x.0 ∷ []))

-- a step after a prefix
prefix_bind : (cs : List Slot) (r : State) (k l : List Slot × List ℕ → State) → ((xs : List Slot) (b : List ℕ) → k (cs ++ xs, b) ≡ with_prefix cs (l (xs, b))) → (with_prefix cs r >>= k) ≡ with_prefix cs (r >>= l)
prefix_bind cs None k l h = refl
prefix_bind cs (Some x) k l h = h x.0 x.1

items-after : (f : Reader Slot) (n : ℕ) (cs old : List Slot) (bytes : List ℕ) → items f n (cs ++ old) bytes ≡ with_prefix cs (items f n old bytes)
unfolding items
items-after f zero cs old bytes = refl
items-after f (suc n) cs old bytes =
    rw (push_one-after cs old (f bytes)) (prefix_bind cs (push_one old (f bytes)) (λ x. items f n x.0 x.1) (λ x. items f n x.0 x.1) (λ xs b. items-after f n cs xs b))

sized-after : (f : Reader Slot) (n : ℕ) (cs old : List Slot) (bytes : List ℕ) → sized_items f n (cs ++ old) bytes ≡ with_prefix cs (sized_items f n old bytes)
sized-after f n cs old bytes = from (number_at bytes)
  where
    kept : (b : Bool) (xs : List Slot) (r : List ℕ) → cond b (Some (cs ++ xs, r)) None ≡ with_prefix cs (cond b (Some (xs, r)) None)
    kept true xs r = refl
    kept false xs r = refl

    from : (o : Option (ℤ × List ℕ)) → (o >>= λ s. items f n (cs ++ old) s.1 >>= λ xs. cond (is_count s.0 (length s.1 - length xs.1)) (Some xs) None) ≡ with_prefix cs (o >>= λ s. items f n old s.1 >>= λ xs. cond (is_count s.0 (length s.1 - length xs.1)) (Some xs) None)
    from None = refl
    from (Some s) = rw (items-after f n cs old s.1) (prefix_bind cs (items f n old s.1) (λ xs. cond (is_count s.0 (length s.1 - length xs.1)) (Some xs) None) (λ xs. cond (is_count s.0 (length s.1 - length xs.1)) (Some xs) None) (λ xs r. kept (is_count s.0 (length s.1 - length r)) xs r))

block-after : (f : Reader Slot) (v : ℤ) (cs old : List Slot) (bytes : List ℕ) → block_items f v (cs ++ old) bytes ≡ with_prefix cs (block_items f v old bytes)
unfolding block_items
block-after f (pos n) cs old bytes = items-after f n cs old bytes
block-after f (negsuc n) cs old bytes = from (ltb (suc n) (2 ^ 63))
  where
    from : (b : Bool) → cond b (sized_items f (suc n) (cs ++ old) bytes) None ≡ with_prefix cs (cond b (sized_items f (suc n) old bytes) None)
    from true = sized-after f (suc n) cs old bytes
    from false = refl

blocks-after : (f : Reader Slot) (fuel : ℕ) (cs old : List Slot) (bytes : List ℕ) → blocks f fuel (cs ++ old) bytes ≡ with_prefix cs (blocks f fuel old bytes)
unfolding blocks
blocks-after f zero cs old bytes = refl
blocks-after f (suc fuel) cs old bytes = counted (λ xs b. blocks-after f fuel cs xs b) (number_at bytes)
  where
    tested : ((xs : List Slot) (b : List ℕ) → blocks f fuel (cs ++ xs) b ≡ with_prefix cs (blocks f fuel xs b)) → (b : Bool) (v : ℤ) (r : List ℕ) → cond b (Some (cs ++ old, r)) (block_items f v (cs ++ old) r >>= λ xs. blocks f fuel xs.0 xs.1) ≡ with_prefix cs (cond b (Some (old, r)) (block_items f v old r >>= λ xs. blocks f fuel xs.0 xs.1))
    tested again true v r = refl
    tested again false v r = rw (block-after f v cs old r) (prefix_bind cs (block_items f v old r) (λ x. blocks f fuel x.0 x.1) (λ x. blocks f fuel x.0 x.1) again)

    counted : ((xs : List Slot) (b : List ℕ) → blocks f fuel (cs ++ xs) b ≡ with_prefix cs (blocks f fuel xs b)) → (o : Option (ℤ × List ℕ)) → (o >>= λ c. cond (is_count c.0 0) (Some (cs ++ old, c.1)) (block_items f c.0 (cs ++ old) c.1 >>= λ xs. blocks f fuel xs.0 xs.1)) ≡ with_prefix cs (o >>= λ c. cond (is_count c.0 0) (Some (old, c.1)) (block_items f c.0 old c.1 >>= λ xs. blocks f fuel xs.0 xs.1))
    counted again None = refl
    counted again (Some c) = tested again (is_count c.0 0) c.0 c.1

-- what a list column gets from its items
pub blocks-all : (f : Reader Slot) (cs all : List Slot) (bytes r : List ℕ) → all_blocks f cs bytes ≡ Some (all, r) → (xs : List Slot) × (all ≡ cs ++ xs) × (all_blocks f [] bytes ≡ Some (xs, r))
blocks-all f cs all bytes r e = ended _ refl
  where
    whole : blocks f (suc (length bytes)) cs bytes ≡ with_prefix cs (blocks f (suc (length bytes)) [] bytes)
    whole = subst (λ (l : List Slot). blocks f (suc (length bytes)) l bytes ≡ with_prefix cs (blocks f (suc (length bytes)) [] bytes)) (append-nil cs) (blocks-after f (suc (length bytes)) cs [] bytes)

    ended : (o : State) → blocks f (suc (length bytes)) [] bytes ≡ o → (xs : List Slot) × (all ≡ cs ++ xs) × (blocks f (suc (length bytes)) [] bytes ≡ Some (xs, r))
    ended None q = let w : ◌≡◌ {A = State} None (Some (all, r)) = rw q at (sym whole ∙ e) in absurd (none-some (all, r) w)
    ended (Some x) q =
        let w : ◌≡◌ {A = State} (Some (cs ++ x.0, x.1)) (Some (all, r)) = rw q at (sym whole ∙ e) in
        let p = some_pair_parts _ _ _ _ w in
        (x.0, sym p.0, q ∙ ap (λ (b : List ℕ). Some (x.0, b)) p.1)

blocks-none : (f : Reader Slot) (cs : List Slot) (bytes : List ℕ) → all_blocks f cs bytes ≡ None → all_blocks f [] bytes ≡ None
blocks-none f cs bytes e = ended _ refl
  where
    whole : blocks f (suc (length bytes)) cs bytes ≡ with_prefix cs (blocks f (suc (length bytes)) [] bytes)
    whole = subst (λ (l : List Slot). blocks f (suc (length bytes)) l bytes ≡ with_prefix cs (blocks f (suc (length bytes)) [] bytes)) (append-nil cs) (blocks-after f (suc (length bytes)) cs [] bytes)

    ended : (o : State) → blocks f (suc (length bytes)) [] bytes ≡ o → blocks f (suc (length bytes)) [] bytes ≡ None
    ended None q = q
    ended (Some x) q = let w : ◌≡◌ {A = State} (Some (cs ++ x.0, x.1)) None = rw q at (sym whole ∙ e) in absurd (none-some (cs ++ x.0, x.1) (sym w))

pub array-reads : (f : Reader Slot) (cs all : List Slot) (old new : List Slot) (bytes r : List ℕ) → all_blocks f cs bytes ≡ Some (all, r) → ((xs : List Slot) → all ≡ cs ++ xs → new ≡ old ++ slot.List xs ∷ []) → push_one old (array_at f bytes) ≡ Some (new, r)
unfolding push_one array_at
array-reads f cs all old new bytes r e h =
    let b = blocks-all f cs all bytes r e in
    rw (b.2, h b.0 b.1) refl

pub array-err : (d : DecodeFault) (f : Reader Slot) (cs old : List Slot) (bytes : List ℕ) → Fails d (all_blocks f cs bytes) → Fails d (push_one old (array_at f bytes))
unfolding push_one array_at
array-err Bytes f cs old bytes h = let e = blocks-none f cs bytes h in rw e refl
array-err Memory f cs old bytes h = tt
