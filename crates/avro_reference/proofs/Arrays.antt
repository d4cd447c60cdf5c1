-- Readers of an array's blocks against their grammar.
use Rattle.std.proofs.Common.{◌≡◌, ℕ, zero, suc, ◌+◌, ◌-◌, ◌^◌, ◌≤◌, ℤ, pos, negsuc, Bool, true, false, cond, ltb, List, [], ◌∷◌, ◌++◌, length, Option, Some, None, refl, sym, ◌∙◌, ap, subst, append_assoc, length-append, arith}
use Rattle.std.proofs.lemmas.Bool.{ltb-true, lt-ltb, ne_eqb, false≢true}
use Rattle.std.proofs.lemmas.List.{append-nil}
use Rattle.std.proofs.lemmas.Option.{some_pair_parts, none-some}
use Rattle.arrow_core.specs.declared.slot.Slot.{Slot}
use Rattle.arrow_core.specs.declared.slot.Slot.TheVariants as slot
use Rattle.avro_schema.specs.Number.{Number}
use Rattle.avro_schema.specs.Parts.{Grammar, Meaning, Many, BlockOf, Blocks, last, block}
use Rattle.avro_schema.specs.Encodes.{Any}
use Rattle.avro_schema.specs.AndThen.{◌>>=◌}
use Rattle.avro_reference.specs.Prefix.{Reader, number_at, is_count}
use Rattle.avro_reference.specs.Read.{push_one, items, block_items, blocks, array_at}
use Rattle.avro_schema.proofs.Basics.{bind_some}
use Rattle.avro_reference.proofs.Prefixes.{Sound, Complete, chosen, joined_up, split_up, number_sound, number_complete, number_below, groups_long, count_is, count_of}

pub push_one-some : (old all : List Slot) (o : Option (Slot × List ℕ)) (r : List ℕ) → push_one old o ≡ Some (all, r) → (x : Slot) × (o ≡ Some (x, r)) × (all ≡ old ++ x ∷ [])
unfolding push_one
push_one-some old all None r e = absurd (none-some (all, r) e)
push_one-some old all (Some x) r e =
    let p = some_pair_parts (old ++ x.0 ∷ []) all x.1 r e in (x.0, ap (λ (b : List ℕ). Some (x.0, b)) p.1, sym p.0)

-- what stands after older items
abbrev Behind : List Slot → List Slot → List Slot → Type 0
Behind old all xs = all ≡ old ++ xs

module _ (f : Reader Slot) (P : Grammar Slot) where
  items_sound : Sound f P → (n : ℕ) (old all : List Slot) (bytes r : List ℕ) → items f n old bytes ≡ Some (all, r) → (prefix : List ℕ) × (xs : List Slot) × Many P n prefix xs × Behind old all xs × (bytes ≡ prefix ++ r)
  unfolding items
  items_sound h zero old all bytes r e =
      let p = some_pair_parts old all bytes r e in ([], [], (refl, refl), sym p.0 ∙ sym (append-nil old), p.1)
  items_sound h (suc n) old all bytes r e =
      let b = bind_some (push_one old (f bytes)) (λ x. items f n x.0 x.1) (all, r) e in
      let o = push_one-some old b.0.0 (f bytes) b.0.1 b.1 in
      let one = h bytes b.0.1 o.0 o.1 in
      let rest = items_sound h n b.0.0 all b.0.1 r b.2 in (
        one.0 ++ rest.0,
        o.0 ∷ rest.1,
        record { prefix = one.0; back = rest.0; joined = refl; value = o.0; first = one.1; second = (rest.1, refl, rest.2) },
        rest.3 ∙ ap (λ (ys : List Slot). ys ++ rest.1) o.2 ∙ append_assoc old (o.0 ∷ []) rest.1,
        split_up bytes one.0 rest.0 r b.0.1 one.2 rest.4,
      )

  items_complete : Complete f P → (n : ℕ) (xs old : List Slot) (prefix r : List ℕ) → Many P n prefix xs → items f n old (prefix ++ r) ≡ Some (old ++ xs, r)
  unfolding items push_one
  items_complete h zero xs old prefix r m = rw (m.0, m.1, append-nil old) refl
  items_complete h (suc n) xs old prefix r m =
      let one = h m.prefix (m.back ++ r) m.value m.first in
      let rest = items_complete h n m.second.0 (old ++ m.value ∷ []) m.back r m.second.2 in
      rw (joined_up prefix m.prefix m.back r m.joined, one, m.second.1)
      (rest ∙ ap (λ (ys : List Slot). Some (ys, r)) (append_assoc old (m.value ∷ []) m.second.0))

  same_size : (bytes prefix r : List ℕ) → bytes ≡ prefix ++ r → length bytes - length r ≡ length prefix
  same_size bytes prefix r e =
      let l : length bytes ≡ length prefix + length r = ap length e ∙ length-append prefix r in omega (arith, l)

  moved_end : (bytes prefix r s : List ℕ) → bytes ≡ prefix ++ r → r ≡ s → bytes ≡ prefix ++ s
  moved_end bytes prefix r s e d = e ∙ ap (λ (z : List ℕ). prefix ++ z) d

  ended : (old all here xs : List Slot) → here ≡ all → Behind old here xs → Behind old all xs
  ended old all here xs e b = sym e ∙ b

  count_of_prefix : (size : ℤ) (bytes prefix r : List ℕ) → is_count size (length bytes - length r) ≡ true → bytes ≡ prefix ++ r → size ≡ pos (length prefix)
  count_of_prefix size bytes prefix r counted e = count_is size (length bytes - length r) counted ∙ ap pos (same_size bytes prefix r e)

  block_sound : Sound f P → (count : ℤ) (old all : List Slot) (a bytes r : List ℕ) → Number a count → is_count count 0 ≡ false → block_items f count old bytes ≡ Some (all, r) → (prefix : List ℕ) × (xs : List Slot) × BlockOf P count prefix xs × Behind old all xs × (bytes ≡ prefix ++ r)
  unfolding block_items
  block_sound h (pos zero) old all a bytes r num some e = absurd (false≢true (sym some))
  block_sound h (pos (suc n)) old all a bytes r num some e =
      let i = items_sound h (suc n) old all bytes r e in (i.0, i.1, (number_below a (suc n) num, i.2), i.3, i.4)
  block_sound h (negsuc n) old all a bytes r num some e = whole (ltb (suc n) (2 ^ 63)) refl e
    where
      whole : (t : Bool) → ltb (suc n) (2 ^ 63) ≡ t → cond t (number_at bytes >>= λ size. items f (suc n) old size.1 >>= λ xs. cond (is_count size.0 (length size.1 - length xs.1)) (Some xs) None) None ≡ Some (all, r) → (prefix : List ℕ) × (xs : List Slot) × BlockOf P (negsuc n) prefix xs × Behind old all xs × (bytes ≡ prefix ++ r)
      whole false q e = absurd (none-some (all, r) e)
      whole true q e =
          let b = bind_some (number_at bytes) (λ size. items f (suc n) old size.1 >>= λ xs. cond (is_count size.0 (length size.1 - length xs.1)) (Some xs) None) (all, r) e in
          let c = bind_some (items f (suc n) old b.0.1) (λ xs. cond (is_count b.0.0 (length b.0.1 - length xs.1)) (Some xs) None) (all, r) b.2 in
          let d = chosen (is_count b.0.0 (length b.0.1 - length c.0.1)) c.0 (all, r) c.2 in
          let p = some_pair_parts c.0.0 all c.0.1 r d.1 in
          let size = number_sound bytes b.0.1 b.0.0 b.1 in
          let i = items_sound h (suc n) old c.0.0 b.0.1 c.0.1 c.1 in
          let same : b.0.0 ≡ pos (length i.0) = count_of_prefix b.0.0 b.0.1 i.0 c.0.1 d.0 i.4 in (
            size.0 ++ i.0,
            i.1,
            (ltb-true (suc n) (2 ^ 63) q, record { prefix = size.0; back = i.0; joined = refl {a = size.0 ++ i.0}; value = b.0.0; first = size.1; second = (same, i.2) }),
            ended old all c.0.0 i.1 p.0 i.3,
            split_up bytes size.0 i.0 r b.0.1 size.2 (moved_end b.0.1 i.0 c.0.1 r i.4 p.1),
          )

  block_complete : Complete f P → (count : ℤ) (xs old : List Slot) (prefix r : List ℕ) → BlockOf P count prefix xs → block_items f count old (prefix ++ r) ≡ Some (old ++ xs, r)
  unfolding block_items
  block_complete h (pos zero) xs old prefix r m = absurd m
  block_complete h (pos (suc n)) xs old prefix r m = items_complete h (suc n) xs old prefix r m.1
  block_complete h (negsuc n) xs old prefix r m =
      let size = number_complete m.1.prefix (m.1.back ++ r) m.1.value m.1.first in
      let i = items_complete h (suc n) xs old m.1.back r m.1.second.1 in
      let same = count_of m.1.value (length (m.1.back ++ r) - length r) (m.1.second.0 ∙ ap pos (sym (same_size (m.1.back ++ r) m.1.back r refl))) in
      rw (lt-ltb (suc n) (2 ^ 63) m.0, joined_up prefix m.1.prefix m.1.back r m.1.joined, size, i, same) refl

  blocks_sound : Sound f P → (fuel : ℕ) (old all : List Slot) (bytes r : List ℕ) → blocks f fuel old bytes ≡ Some (all, r) → (prefix : List ℕ) × (xs : List Slot) × Blocks P prefix xs × Behind old all xs × (bytes ≡ prefix ++ r)
  unfolding blocks
  blocks_sound h zero old all bytes r e = absurd (none-some (all, r) e)
  blocks_sound h (suc fuel) old all bytes r e =
      let c = bind_some (number_at bytes) (λ k. cond (is_count k.0 0) (Some (old, k.1)) (block_items f k.0 old k.1 >>= λ xs. blocks f fuel xs.0 xs.1)) (all, r) e in
      let n = number_sound bytes c.0.1 c.0.0 c.1 in
      tested (λ o b q. blocks_sound h fuel o all b r q) c.0.0 c.0.1 n.0 n.1 n.2 (is_count c.0.0 0) refl c.2
    where
      tested : ((o : List Slot) (b : List ℕ) → blocks f fuel o b ≡ Some (all, r) → (prefix : List ℕ) × (xs : List Slot) × Blocks P prefix xs × Behind o all xs × (b ≡ prefix ++ r)) → (n : ℤ) (after a : List ℕ) → Number a n → bytes ≡ a ++ after → (t : Bool) → is_count n 0 ≡ t → cond t (Some (old, after)) (block_items f n old after >>= λ xs. blocks f fuel xs.0 xs.1) ≡ Some (all, r) → (prefix : List ℕ) × (xs : List Slot) × Blocks P prefix xs × Behind old all xs × (bytes ≡ prefix ++ r)
      tested again n after a num cut true t q =
          let p = some_pair_parts old all after r q in
          (a, [], last (subst (Number a) (count_is n 0 t) num), sym p.0 ∙ sym (append-nil old), cut ∙ ap (λ (z : List ℕ). a ++ z) p.1)
      tested again n after a num cut false t q =
          let b = bind_some (block_items f n old after) (λ xs. blocks f fuel xs.0 xs.1) (all, r) q in
          let i = block_sound h n old b.0.0 a after b.0.1 num t b.1 in
          let m = again b.0.0 b.0.1 b.2 in (
            a ++ (i.0 ++ m.0),
            i.1 ++ m.1,
            block a i.0 m.0 n i.1 m.1 num i.2 m.2,
            m.3 ∙ ap (λ (ys : List Slot). ys ++ m.1) i.3 ∙ append_assoc old i.1 m.1,
            split_up bytes a (i.0 ++ m.0) r after cut (split_up after i.0 m.0 r b.0.1 i.4 m.4),
          )

  not_last : (count : ℤ) (prefix : List ℕ) (xs : List Slot) → BlockOf P count prefix xs → is_count count 0 ≡ false
  not_last (pos zero) prefix xs m = absurd m
  not_last (pos (suc n)) prefix xs m = ne_eqb (suc n) 0 (λ e. omega (arith, e))
  not_last (negsuc n) prefix xs m = refl

  blocks_complete : Complete f P → {prefix : List ℕ} {xs : List Slot} → Blocks P prefix xs → (fuel : ℕ) (old : List Slot) (r : List ℕ) → length prefix ≤ fuel → blocks f fuel old (prefix ++ r) ≡ Some (old ++ xs, r)
  unfolding blocks
  blocks_complete h (last {bytes} num) zero old r le = let some = groups_long bytes num.groups in absurd (omega (arith, some, le))
  blocks_complete h (last {bytes} num) (suc fuel) old r le = rw (number_complete bytes r (pos 0) num, append-nil old) refl
  blocks_complete h (block a i m n xs ys num here more) zero old r le =
      let some = groups_long a num.groups in absurd (omega (arith, some, le, length-append a (i ++ m)))
  blocks_complete h (block a i m n xs ys num here more) (suc fuel) old r le =
      let some = groups_long a num.groups in
      let small : length m ≤ fuel = omega (arith, some, le, length-append a (i ++ m), length-append i m) in
      let rest = blocks_complete h more fuel (old ++ xs) r small in
      rw (joined_up (a ++ (i ++ m)) a (i ++ m) r refl, number_complete a ((i ++ m) ++ r) n num, not_last n i xs here, append_assoc i m r, block_complete h n xs old i (m ++ r) here, rest)
      (ap (λ (zs : List Slot). Some (zs, r)) (append_assoc old xs ys))

  pub array_sound : Sound f P → Sound (array_at f) (Meaning (Blocks P) Any slot.List)
  unfolding array_at
  array_sound h bytes r y e =
      let b = bind_some (blocks f (suc (length bytes)) [] bytes) (λ xs. Some (slot.List xs.0, xs.1)) (y, r) e in
      let p = some_pair_parts (slot.List b.0.0) y b.0.1 r b.2 in
      let k = blocks_sound h (suc (length bytes)) [] b.0.0 bytes b.0.1 b.1 in
      (k.0, record { value = k.1; encoded = k.2; allowed = tt; means = sym p.0 ∙ ap slot.List k.3 }, k.4 ∙ ap (λ (z : List ℕ). k.0 ++ z) p.1)

  pub array_complete : Complete f P → Complete (array_at f) (Meaning (Blocks P) Any slot.List)
  unfolding array_at
  array_complete h prefix r y m =
      let b = blocks_complete h m.encoded (suc (length (prefix ++ r))) [] r (omega (arith, length-append prefix r)) in
      rw (b, m.means) refl
