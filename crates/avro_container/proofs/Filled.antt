-- A vector that is filled from an index on.
use Rattle.std.proofs.Common.{◌≡◌, ℕ, ◌+◌, ◌-◌, ◌<◌, ◌≤◌, max, true, false, ℤ, pos, negsuc, List, ◌++◌, length, take, drop, refl, sym, ◌∙◌, ap, subst, append_assoc, length-append, take-append-drop, arith}
use Rattle.std.specs.Int.Signed.{lt_z}
use Rattle.std.proofs.lemmas.Bool.{ltb-true}
use Rattle.std.specs.Prelude.{nat_abs}
use Rattle.std.proofs.lemmas.List.{take-take, take_at, length-take, length-take-le}
use Rattle.avro_container.specs.File.{IsCount, count_of}
use Rattle.avro_container.specs.Forms.{number, count}
use Rattle.avro_container.specs.OneRead.{TakesMore}
use Rattle.avro_container.specs.Taking.{State, Takes, Passed, Stopped}
use Rattle.avro_container.proofs.Taken.{takes_more, meaning_passes, meaning_fails}
use Rattle.avro_container.specs.declared.parts.Stop.TheVariants as stop

split_prefix : (n m : ℕ) (xs : List ℕ) → n ≤ m → take n (take m xs) ≡ take n xs
split_prefix n m xs l = take-take n m xs l

regroup : (a b c d e : List ℕ) → (a ++ ((b ++ c) ++ d)) ++ e ≡ (a ++ b) ++ (c ++ (d ++ e))
regroup a b c d e =
    append_assoc a ((b ++ c) ++ d) e ∙ ap (λ z. a ++ z) (append_assoc (b ++ c) d e ∙ append_assoc b c (d ++ e)) ∙ sym (append_assoc a b (c ++ (d ++ e)))

pub written : (at n len : ℕ) (xs buffer rest more : List ℕ) → at ≤ length xs → n ≤ length buffer → at + n ≤ len
    → take (at + n) (take len ((take at xs ++ (buffer ++ rest)) ++ more)) ≡ take at xs ++ take n buffer
written at n len xs buffer rest more l m k =
    let prefix = take at xs ++ take n buffer in
    let size : length prefix ≡ at + n = length-append (take at xs) (take n buffer) ∙ (λ i. length-take-le at xs l i + length-take-le n buffer m i) in
    let shape : (take at xs ++ (buffer ++ rest)) ++ more ≡ prefix ++ (drop n buffer ++ (rest ++ more)) =
    ap (λ (z : List ℕ). (take at xs ++ (z ++ rest)) ++ more) (sym (take-append-drop n buffer)) ∙ regroup (take at xs) (take n buffer) (drop n buffer) rest more in
    split_prefix (at + n) len _ k ∙ ap (take (at + n)) shape ∙ take_at prefix _ (at + n) size

pub filling : (a b c : State) (at n : ℕ) (old new : List ℕ) → Takes a b (take at old) → TakesMore b c (take at old) (take (at + n) new) → Takes a c (take (at + n) new)
filling a b c at n old new p q = subst (Takes a c) (sym q.appended) (takes_more a b c (take at old) q.taken p q.takes)

pub some_left : (at n : ℕ) (xs : List ℕ) → at < n → length (take at xs) < n
some_left at n xs l = omega (arith, length-take at xs, l)

-- ---- how long it gets: no longer than it was, or than what was taken and a piece

-- once a piece was asked for behind what was taken, and more was taken or not
pub still_grown : (a b : State) (after at was len more : ℕ) (xs : List ℕ) → Takes a b (take at xs) → at ≤ length xs → after ≤ b.limit
    → len ≤ max was (a.limit - b.limit + 65536) → more ≤ max len (at + 65536) → more ≤ max was (a.limit - after + 65536)
still_grown a b after at was len more xs t l k g m =
    pieces a.limit b.limit after at was len more (omega (arith, t.limit, length-take-le at xs l)) k g m
  where
    pieces : (limit before after at was len more : ℕ) → limit ≡ at + before → after ≤ before
        → len ≤ max was (limit - before + 65536) → more ≤ max len (at + 65536) → more ≤ max was (limit - after + 65536)
    pieces limit before after at was len more e k g m = omega (arith, e, k, g, m)

-- ---- numbers of 0 or more

is_count : (z : ℤ) → lt_z z (pos 0) ≡ false → IsCount z × (nat_abs z ≡ count_of z)
is_count (pos n) h = (tt, refl)
is_count (negsuc n) h = absurd cc

no_count : (z : ℤ) → lt_z z (pos 0) ≡ true → IsCount z → ⊥
no_count (pos n) h i = omega (arith, ltb-true n 0 h)
no_count (negsuc n) h i = i

pub count_passes : (a b : State) (w z : ℤ) → w ≡ z → lt_z w (pos 0) ≡ false → Passed number a b z → Passed count a b (nat_abs w)
count_passes a b w z e h p =
    let i = is_count z (ap (λ (u : ℤ). lt_z u (pos 0)) (sym e) ∙ h) in
    subst (Passed count a b) (sym (ap nat_abs e ∙ i.1)) (meaning_passes number IsCount count_of a b z p i.0)

pub count_fails : (a b : State) (w z : ℤ) → w ≡ z → lt_z w (pos 0) ≡ true → Passed number a b z → Stopped count a b stop.Wrong
count_fails a b w z e h p = meaning_fails number IsCount count_of a b z p (no_count z (ap (λ (u : ℤ). lt_z u (pos 0)) (sym e) ∙ h))
