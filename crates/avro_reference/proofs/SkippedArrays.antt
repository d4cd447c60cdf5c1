-- Parsers over an array's blocks against what is skipped, and what breaks.
use Rattle.std.proofs.Common.{◌≡◌, ℕ, zero, suc, ◌^◌, ◌<◌, ◌≤◌, ℤ, pos, negsuc, Bool, true, false, cond, ltb, List, [], ◌++◌, length, Ok, Err, refl, sym, ◌∙◌, ap, subst, inl, inr, length-append, append_assoc, arith}
use Rattle.std.proofs.lemmas.Bool.{ltb-true, lt-ltb, ne_eqb, false≢true}
use Rattle.avro_schema.specs.Number.{Number}
use Rattle.avro_schema.specs.Parts.{Grammar}
use Rattle.avro_schema.specs.Skips.{Passed, nothing, seen_only, both, SkipsMany, SkipsBlockOf, SkipsBlocks, last, block}
use Rattle.avro_schema.specs.Broken.{BrokenBlocks, false_size, broken_item, whole_block}
use Rattle.avro_reference.specs.Prefix.{is_count}
use Rattle.avro_reference.specs.Skip.{◌>>=◌, Negative, Parser, measured_at, jump_at, skip_items, skip_stated, skip_block_items, skip_blocks, skip_array}
use Rattle.avro_reference.proofs.Prefixes.{joined_up, split_up, number_below, groups_long, count_is}
use Rattle.avro_reference.proofs.Parsers.{Sound, Complete, Breaks, Broke, bad-ok, negative-ok, ok-negative, bad-negative, ok_pair_parts, bind_ok, bind_negative, chosen, chosen_negative, both_assoc, both-nothing, nothing-both, stated, measured_sound, measured_complete, measured_never, jump_sound, jump_complete, jump_never}

-- all is what p adds to old
abbrev Added : Passed → Passed → Passed → Type 0
Added old all p = all ≡ both old p

module _ (f : Parser Passed) (P : Grammar Passed) where
  items_sound : Sound f P → (n : ℕ) (old all : Passed) (bytes r : List ℕ) → skip_items f n old bytes ≡ Ok (all, r) → (prefix : List ℕ) × (p : Passed) × SkipsMany P n prefix p × Added old all p × (bytes ≡ prefix ++ r)
  unfolding skip_items
  items_sound h zero old all bytes r e =
      let p = ok_pair_parts old all bytes r e in ([], nothing, (refl, refl), sym p.0 ∙ sym (both-nothing old), p.1)
  items_sound h (suc n) old all bytes r e =
      let b = bind_ok (f bytes) (λ p. skip_items f n (both old p.0) p.1) (all, r) e in
      let one = h bytes b.0.1 b.0.0 b.1 in
      let rest = items_sound h n (both old b.0.0) all b.0.1 r b.2 in (
        one.0 ++ rest.0,
        both b.0.0 rest.1,
        record { prefix = one.0; back = rest.0; joined = refl; value = b.0.0; first = one.1; second = (rest.1, refl, rest.2) },
        rest.3 ∙ both_assoc old b.0.0 rest.1,
        split_up bytes one.0 rest.0 r b.0.1 one.2 rest.4,
      )

  items_complete : Complete f P → (n : ℕ) (p old : Passed) (prefix r : List ℕ) → SkipsMany P n prefix p → skip_items f n old (prefix ++ r) ≡ Ok (both old p, r)
  unfolding skip_items
  items_complete h zero p old prefix r m = rw (m.0, m.1, both-nothing old) refl
  items_complete h (suc n) p old prefix r m =
      let one = h m.prefix (m.back ++ r) m.value m.first in
      let rest = items_complete h n m.second.0 (both old m.value) m.back r m.second.2 in
      rw (joined_up prefix m.prefix m.back r m.joined, one, m.second.1)
      (rest ∙ ap (λ (q : Passed). Ok (q, r)) (both_assoc old m.value m.second.0))

  stated_sound : (size : ℤ) (old all : Passed) (bytes r : List ℕ) → skip_stated size old bytes ≡ Ok (all, r) → (prefix : List ℕ) × (size ≡ pos (length prefix)) × Added old all (record { seen = 0; hidden = length prefix }) × (bytes ≡ prefix ++ r)
  unfolding skip_stated
  stated_sound (pos n) old all bytes r e =
      let b = bind_ok (jump_at n bytes) (λ rest. Ok (both old (record { seen = 0; hidden = n }), rest)) (all, r) e in
      let one = jump_sound n bytes b.0 b.1 in
      let p = ok_pair_parts (both old (record { seen = 0; hidden = n })) all b.0 r b.2 in
      (one.0, ap pos (sym one.1), sym p.0 ∙ ap (λ k. both old (record { seen = 0; hidden = k })) (sym one.1), one.2 ∙ ap (λ (z : List ℕ). one.0 ++ z) p.1)
  stated_sound (negsuc n) old all bytes r e = absurd (negative-ok (all, r) e)

  stated_complete : (size : ℤ) (old : Passed) (prefix r : List ℕ) → size ≡ pos (length prefix) → skip_stated size old (prefix ++ r) ≡ Ok (both old (record { seen = 0; hidden = length prefix }), r)
  unfolding skip_stated
  stated_complete size old prefix r e = rw (e, jump_complete prefix r (length prefix) refl) refl

  block_sound : Sound f P → (count : ℤ) (old all : Passed) (a bytes r : List ℕ) → Number a count → is_count count 0 ≡ false → skip_block_items f count old bytes ≡ Ok (all, r) → (prefix : List ℕ) × (p : Passed) × SkipsBlockOf P count prefix p × Added old all p × (bytes ≡ prefix ++ r)
  unfolding skip_block_items
  block_sound h (pos zero) old all a bytes r num some e = absurd (false≢true (sym some))
  block_sound h (pos (suc n)) old all a bytes r num some e =
      let i = items_sound h (suc n) old all bytes r e in (i.0, i.1, (number_below a (suc n) num, i.2), i.3, i.4)
  block_sound h (negsuc n) old all a bytes r num some e =
      let c = chosen (ltb (suc n) (2 ^ 63)) (measured_at bytes >>= λ size. skip_stated size.0.0 (both old (seen_only size.0.1)) size.1) (all, r) e in
      let b = bind_ok (measured_at bytes) (λ size. skip_stated size.0.0 (both old (seen_only size.0.1)) size.1) (all, r) c.1 in
      let size = measured_sound bytes b.0.1 b.0.0 b.1 in
      let i = stated_sound b.0.0.0 (both old (seen_only b.0.0.1)) all b.0.1 r b.2 in (
        size.0 ++ i.0,
        record { seen = b.0.0.1; hidden = length i.0 },
        (ltb-true (suc n) (2 ^ 63) c.0, record { prefix = size.0; back = i.0; joined = refl; value = b.0.0; first = size.1; second = (i.1, refl) }),
        i.2 ∙ both_assoc old (seen_only b.0.0.1) (record { seen = 0; hidden = length i.0 }) ∙ ap (both old) (stated b.0.0.1 (length i.0)),
        split_up bytes size.0 i.0 r b.0.1 size.2 i.3,
      )

  block_complete : Complete f P → (count : ℤ) (p old : Passed) (prefix r : List ℕ) → SkipsBlockOf P count prefix p → skip_block_items f count old (prefix ++ r) ≡ Ok (both old p, r)
  unfolding skip_block_items
  block_complete h (pos zero) p old prefix r m = absurd m
  block_complete h (pos (suc n)) p old prefix r m = items_complete h (suc n) p old prefix r m.1
  block_complete h (negsuc n) p old prefix r m =
      let t = m.1 in
      let size = measured_complete t.prefix (t.back ++ r) t.value t.first in
      let i = stated_complete t.value.0 (both old (seen_only t.value.1)) t.back r t.second.0 in
      rw (lt-ltb (suc n) (2 ^ 63) m.0, joined_up prefix t.prefix t.back r t.joined, size, i, t.second.1)
      (ap (λ (q : Passed). Ok (q, r)) (both_assoc old (seen_only t.value.1) (record { seen = 0; hidden = length t.back }) ∙ ap (both old) (stated t.value.1 (length t.back))))

  added_up : (old p q all : Passed) (s : ℕ) (here : Passed) → here ≡ both (both old (seen_only s)) p → all ≡ both here q → all ≡ both old (both (seen_only s) (both p q))
  added_up old p q all s here e1 e2 =
      e2 ∙ ap (λ z. both z q) e1 ∙ both_assoc (both old (seen_only s)) p q ∙ both_assoc old (seen_only s) (both p q)

  blocks_sound : Sound f P → (fuel : ℕ) (old all : Passed) (bytes r : List ℕ) → skip_blocks f fuel old bytes ≡ Ok (all, r) → (prefix : List ℕ) × (p : Passed) × SkipsBlocks P prefix p × Added old all p × (bytes ≡ prefix ++ r)
  unfolding skip_blocks
  blocks_sound h zero old all bytes r e = absurd (bad-ok (all, r) e)
  blocks_sound h (suc fuel) old all bytes r e =
      let c = bind_ok (measured_at bytes) (λ k. cond (is_count k.0.0 0) (Ok (both old (seen_only k.0.1), k.1)) (skip_block_items f k.0.0 (both old (seen_only k.0.1)) k.1 >>= λ p. skip_blocks f fuel p.0 p.1)) (all, r) e in
      let n = measured_sound bytes c.0.1 c.0.0 c.1 in
      tested (λ o b q. blocks_sound h fuel o all b r q) c.0.0.0 c.0.0.1 c.0.1 n.0 n.1.0 n.1.1 n.2 (is_count c.0.0.0 0) refl c.2
    where
      tested : ((o : Passed) (b : List ℕ) → skip_blocks f fuel o b ≡ Ok (all, r) → (prefix : List ℕ) × (p : Passed) × SkipsBlocks P prefix p × Added o all p × (b ≡ prefix ++ r)) → (n : ℤ) (s : ℕ) (after a : List ℕ) → Number a n → s ≡ length a → bytes ≡ a ++ after → (t : Bool) → is_count n 0 ≡ t → cond t (Ok (both old (seen_only s), after)) (skip_block_items f n (both old (seen_only s)) after >>= λ p. skip_blocks f fuel p.0 p.1) ≡ Ok (all, r) → (prefix : List ℕ) × (p : Passed) × SkipsBlocks P prefix p × Added old all p × (bytes ≡ prefix ++ r)
      tested again n s after a num size cut true t q =
          let p = ok_pair_parts (both old (seen_only s)) all after r q in
          (a, seen_only (length a), last (subst (Number a) (count_is n 0 t) num), sym p.0 ∙ ap (λ k. both old (seen_only k)) size, cut ∙ ap (λ (z : List ℕ). a ++ z) p.1)
      tested again n s after a num size cut false t q =
          let b = bind_ok (skip_block_items f n (both old (seen_only s)) after) (λ p. skip_blocks f fuel p.0 p.1) (all, r) q in
          let i = block_sound h n (both old (seen_only s)) b.0.0 a after b.0.1 num t b.1 in
          let m = again b.0.0 b.0.1 b.2 in (
            a ++ (i.0 ++ m.0),
            both (seen_only (length a)) (both i.1 m.1),
            block a i.0 m.0 n i.1 m.1 num i.2 m.2,
            added_up old i.1 m.1 all s b.0.0 i.3 m.3 ∙ ap (λ k. both old (both (seen_only k) (both i.1 m.1))) size,
            split_up bytes a (i.0 ++ m.0) r after cut (split_up after i.0 m.0 r b.0.1 i.4 m.4),
          )

  not_last : (count : ℤ) (prefix : List ℕ) (p : Passed) → SkipsBlockOf P count prefix p → is_count count 0 ≡ false
  not_last (pos zero) prefix p m = absurd m
  not_last (pos (suc n)) prefix p m = ne_eqb (suc n) 0 (λ e. omega (arith, e))
  not_last (negsuc n) prefix p m = refl

  blocks_complete : Complete f P → {prefix : List ℕ} {p : Passed} → SkipsBlocks P prefix p → (fuel : ℕ) (old : Passed) (r : List ℕ) → length prefix ≤ fuel → skip_blocks f fuel old (prefix ++ r) ≡ Ok (both old p, r)
  unfolding skip_blocks
  blocks_complete h (last {bytes} num) zero old r le = let some = groups_long bytes num.groups in absurd (omega (arith, some, le))
  blocks_complete h (last {bytes} num) (suc fuel) old r le = rw (measured_complete bytes r (pos 0, length bytes) (num, refl)) refl
  blocks_complete h (block a i m n p q num here more) zero old r le =
      let some = groups_long a num.groups in absurd (omega (arith, some, le, length-append a (i ++ m)))
  blocks_complete h (block a i m n p q num here more) (suc fuel) old r le =
      let some = groups_long a num.groups in
      let small : length m ≤ fuel = omega (arith, some, le, length-append a (i ++ m), length-append i m) in
      let rest = blocks_complete h more fuel (both (both old (seen_only (length a))) p) r small in
      rw (joined_up (a ++ (i ++ m)) a (i ++ m) r refl, measured_complete a ((i ++ m) ++ r) (n, length a) (num, refl), not_last n i p here, append_assoc i m r, block_complete h n p (both old (seen_only (length a))) i (m ++ r) here, rest)
      (ap (λ (z : Passed). Ok (z, r)) (added_up old p q _ (length a) _ refl refl))

  pub array_sound : Sound f P → Sound (skip_array f) (SkipsBlocks P)
  unfolding skip_array
  array_sound h bytes r y e =
      let k = blocks_sound h (suc (length bytes)) nothing y bytes r e in
      (k.0, subst (SkipsBlocks P k.0) (sym (k.3 ∙ nothing-both k.1)) k.2, k.4)

  pub array_complete : Complete f P → Complete (skip_array f) (SkipsBlocks P)
  unfolding skip_array
  array_complete h prefix r y m =
      blocks_complete h m (suc (length (prefix ++ r))) nothing r (omega (arith, length-append prefix r)) ∙ ap (λ (z : Passed). Ok (z, r)) (nothing-both y)

  module _ (B : List ℕ → Type 0) where
    -- fewer than n items, and then a broken one
    abbrev Stopped : ℕ → List ℕ → Type 0
    Stopped n bytes = (m : ℕ) × (items : List ℕ) × (rest : List ℕ) × (p : Passed) × (m < n) × SkipsMany P m items p × B rest × (bytes ≡ items ++ rest)

    items_break : Sound f P → Breaks f B → (n : ℕ) (old : Passed) (bytes : List ℕ) → skip_items f n old bytes ≡ Err Negative → Stopped n bytes
    unfolding skip_items
    items_break h k zero old bytes e = absurd (ok-negative _ e)
    items_break h k (suc n) old bytes e =
        elim (bind_negative (f bytes) (λ p. skip_items f n (both old p.0) p.1) e) [
          | inl here ↦ (0, [], bytes, nothing, omega arith, (refl, refl), k bytes here, refl)
          | inr there ↦
              let one = h bytes there.0.1 there.0.0 there.1 in
              let more = items_break h k n (both old there.0.0) there.0.1 there.2 in (
                suc more.0,
                one.0 ++ more.1,
                more.2,
                both there.0.0 more.3,
                (let below = more.4 in omega (arith, below)),
                record { prefix = one.0; back = more.1; joined = refl; value = there.0.0; first = one.1; second = (more.3, refl, more.5) },
                more.6,
                split_up bytes one.0 more.1 more.2 there.0.1 one.2 more.7,
              )
        ]

    items_broke : Complete f P → Broke f B → (m n : ℕ) (old : Passed) (items rest : List ℕ) (p : Passed) → m < n → SkipsMany P m items p → B rest → skip_items f n old (items ++ rest) ≡ Err Negative
    unfolding skip_items
    items_broke h k m zero old items rest p l s b = absurd (omega (arith, l))
    items_broke h k zero (suc n) old items rest p l s b = rw (s.0, k rest b) refl
    items_broke h k (suc m) (suc n) old items rest p l s b =
        let one = h s.prefix (s.back ++ rest) s.value s.first in
        rw (joined_up items s.prefix s.back rest s.joined, one)
        (items_broke h k m n (both old s.value) s.back rest s.second.0 (omega (arith, l)) s.second.2 b)

    stated_break : (size : ℤ) (old : Passed) (bytes : List ℕ) → skip_stated size old bytes ≡ Err Negative → (n : ℕ) × (size ≡ negsuc n)
    unfolding skip_stated
    stated_break (pos n) old bytes e =
        elim (bind_negative (jump_at n bytes) (λ rest. Ok (both old (record { seen = 0; hidden = n }), rest)) e) [
          | inl here ↦ absurd (jump_never n bytes here)
          | inr there ↦ absurd (ok-negative _ there.2)
        ]
    stated_break (negsuc n) old bytes e = (n, refl)

    block_break : Sound f P → Breaks f B → (count : ℤ) (old : Passed) (a bytes : List ℕ) → Number a count → is_count count 0 ≡ false → skip_block_items f count old bytes ≡ Err Negative → BrokenBlocks P B (a ++ bytes)
    unfolding skip_block_items
    block_break h k (pos zero) old a bytes num some e = absurd (false≢true (sym some))
    block_break h k (pos (suc n)) old a bytes num some e =
        let i = items_break h k (suc n) old bytes e in
        subst (λ z. BrokenBlocks P B (a ++ z)) (sym i.7) (broken_item a i.1 i.2 n i.0 i.3 num i.4 i.5 i.6)
    block_break h k (negsuc n) old a bytes num some e =
        let c = chosen_negative (ltb (suc n) (2 ^ 63)) (measured_at bytes >>= λ size. skip_stated size.0.0 (both old (seen_only size.0.1)) size.1) e in
        elim (bind_negative (measured_at bytes) (λ size. skip_stated size.0.0 (both old (seen_only size.0.1)) size.1) c.1) [
          | inl here ↦ absurd (measured_never bytes here)
          | inr there ↦
              let size = measured_sound bytes there.0.1 there.0.0 there.1 in
              let s = stated_break there.0.0.0 (both old (seen_only there.0.0.1)) there.0.1 there.2 in
              subst (λ z. BrokenBlocks P B (a ++ z)) (sym size.2)
              (false_size a size.0 there.0.1 n s.0 num (ltb-true (suc n) (2 ^ 63) c.0) (subst (Number size.0) s.1 size.1.0))
        ]

    blocks_break : Sound f P → Breaks f B → (fuel : ℕ) (old : Passed) (bytes : List ℕ) → skip_blocks f fuel old bytes ≡ Err Negative → BrokenBlocks P B bytes
    unfolding skip_blocks
    blocks_break h k zero old bytes e = absurd (bad-negative e)
    blocks_break h k (suc fuel) old bytes e =
        elim (bind_negative (measured_at bytes) (λ c. cond (is_count c.0.0 0) (Ok (both old (seen_only c.0.1), c.1)) (skip_block_items f c.0.0 (both old (seen_only c.0.1)) c.1 >>= λ p. skip_blocks f fuel p.0 p.1)) e) [
          | inl here ↦ absurd (measured_never bytes here)
          | inr there ↦
              let n = measured_sound bytes there.0.1 there.0.0 there.1 in
              subst (BrokenBlocks P B) (sym n.2)
              (tested (λ o b q. blocks_break h k fuel o b q) there.0.0.0 there.0.0.1 there.0.1 n.0 n.1.0 (is_count there.0.0.0 0) refl there.2)
        ]
      where
        tested : ((o : Passed) (b : List ℕ) → skip_blocks f fuel o b ≡ Err Negative → BrokenBlocks P B b) → (n : ℤ) (s : ℕ) (after a : List ℕ) → Number a n → (t : Bool) → is_count n 0 ≡ t → cond t (Ok (both old (seen_only s), after)) (skip_block_items f n (both old (seen_only s)) after >>= λ p. skip_blocks f fuel p.0 p.1) ≡ Err Negative → BrokenBlocks P B (a ++ after)
        tested again n s after a num true t q = absurd (ok-negative _ q)
        tested again n s after a num false t q =
            elim (bind_negative (skip_block_items f n (both old (seen_only s)) after) (λ p. skip_blocks f fuel p.0 p.1) q) [
              | inl here ↦ block_break h k n (both old (seen_only s)) a after num t here
              | inr there ↦
                  let i = block_sound h n (both old (seen_only s)) there.0.0 a after there.0.1 num t there.1 in
                  let m = again there.0.0 there.0.1 there.2 in
                  subst (λ z. BrokenBlocks P B (a ++ z)) (sym i.4) (whole_block a i.0 there.0.1 n i.1 num i.2 m)
            ]

    blocks_broke : Complete f P → Broke f B → {bytes : List ℕ} → BrokenBlocks P B bytes → (fuel : ℕ) (old : Passed) → length bytes ≤ fuel → skip_blocks f fuel old bytes ≡ Err Negative
    unfolding skip_blocks skip_block_items skip_stated
    blocks_broke h k (false_size a m any n s num l size) zero old le =
        let some = groups_long a num.groups in absurd (omega (arith, some, le, length-append a (m ++ any)))
    blocks_broke h k (false_size a m any n s num l size) (suc fuel) old le =
        rw (measured_complete a (m ++ any) (negsuc n, length a) (num, refl), lt-ltb (suc n) (2 ^ 63) l, measured_complete m any (negsuc s, length m) (size, refl)) refl
    blocks_broke h k (broken_item a i rest n m p num l here b) zero old le =
        let some = groups_long a num.groups in absurd (omega (arith, some, le, length-append a (i ++ rest)))
    blocks_broke h k (broken_item a i rest n m p num l here b) (suc fuel) old le =
        let some : is_count (pos (suc n)) 0 ≡ false = ne_eqb (suc n) 0 (λ e. omega (arith, e)) in
        rw (measured_complete a (i ++ rest) (pos (suc n), length a) (num, refl), some, items_broke h k m (suc n) (both old (seen_only (length a))) i rest p l here b) refl
    blocks_broke h k (whole_block a i rest n p num here more) zero old le =
        let some = groups_long a num.groups in absurd (omega (arith, some, le, length-append a (i ++ rest)))
    blocks_broke h k (whole_block a i rest n p num here more) (suc fuel) old le =
        let some = groups_long a num.groups in
        let small : length rest ≤ fuel = omega (arith, some, le, length-append a (i ++ rest), length-append i rest) in
        rw (measured_complete a (i ++ rest) (n, length a) (num, refl), not_last n i p here, block_complete h n p (both old (seen_only (length a))) i rest here)
        (blocks_broke h k more fuel (both (both old (seen_only (length a))) p) small)

    pub array_breaks : Sound f P → Breaks f B → Breaks (skip_array f) (BrokenBlocks P B)
    unfolding skip_array
    array_breaks h k bytes e = blocks_break h k (suc (length bytes)) nothing bytes e

    pub array_broke : Complete f P → Broke f B → Broke (skip_array f) (BrokenBlocks P B)
    unfolding skip_array
    array_broke h k bytes b = blocks_broke h k b (suc (length bytes)) nothing (omega arith)
