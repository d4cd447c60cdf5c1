-- Entries under a stated size.
use Rattle.std.proofs.Common.{◌≡◌, ℕ, zero, suc, ◌+◌, ◌^◌, ◌<◌, ◌≤◌, ◌≢◌, Bool, true, false, inl, inr, ℤ, pos, negsuc, List, [], length, Option, Some, None, refl, sym, ◌∙◌, ap, subst, arith}
use Rattle.std.proofs.lemmas.List.{append-nil}
use Rattle.avro_schema.specs.Number.{Number}
use Rattle.avro_container.specs.File.{IsCount, count_of}
use Rattle.avro_container.specs.Forms.{Form, number, count, both, under, many, block_of, sized_many_of, signed_of}
use Rattle.avro_container.specs.Taking.{State, state, SizeFalls, Takes, Passed, Stopped}
use Rattle.avro_container.specs.declared.parts.Stop.{Stop}
use Rattle.avro_container.specs.declared.parts.Stop.TheVariants as stop
use Rattle.avro_container.proofs.Taken.{ends_as, takes_nothing}

-- the stated size left aside
abbrev pub outside : State → State
outside s = record { left = s.left; faults = s.faults; limit = s.limit; size_left = None }

takes_outside : (a b : State) (t : List ℕ) → Takes a b t → Takes (outside a) (outside b) t
takes_outside a b t p = record { consumed = p.consumed; limit = p.limit; size_left = tt; faults = p.faults }

-- what a use of the whole size means outside
abbrev pub outer : Stop → Stop
outer stop.UsedUp = stop.Wrong
outer e = e

within : (s n : ℕ) (r : Option ℕ) → SizeFalls (Some s) r n → n ≤ s
within s n None h = absurd h
within s n (Some k) h = omega (arith, h)

size_left_is : (s n k : ℕ) (r : Option ℕ) → r ≡ Some k → SizeFalls (Some s) r n → s ≡ n + k
size_left_is s n k None is h = absurd cc
size_left_is s n k (Some m) is h = let same : m ≡ k = cc in omega (arith, h, same)

module _ {A : Type 0} (P : Form A) (s : ℕ) (l l2 : Option (List ℕ)) (f f2 m m2 : ℕ) (r : Option ℕ) where
  abbrev from : State
  from = state l f m (Some s)

  abbrev to : State
  to = state l2 f2 m2 r

  pub under_short : (x : A) (k : ℕ) → r ≡ Some k → 0 < k → Passed P from to x → Stopped (under (pos s) P) (outside from) (outside to) stop.Wrong
  under_short x k is some p =
      let all : s ≡ length p.0 + k = size_left_is s (length p.0) k r is p.1.size_left in
      (p.0, (takes_outside from to p.0 p.1, inr (s, refl, inr (inl (omega (arith, all, some), x, p.2)))))

-- a size is a number of 0 or more
counted : (z : ℤ) (s : ℕ) → IsCount z → s ≡ count_of z → z ≡ pos s
counted (pos n) s h e = ap pos (sym e)
counted (negsuc n) s h e = absurd h

pub size_passes : (a b : State) (s : ℕ) → Passed count a b s → Passed number a b (pos s)
size_passes a b s p = (p.0, p.1, subst (Number p.0) (counted p.2.value s p.2.allowed p.2.means) p.2.encoded)

module _ {A : Type 0} (P : Form A) (a c : State) where
  pub size_stops : (e : Stop) → Stopped count a c e → Stopped (both number (λ z. under z P)) a c e
  size_stops e h = (h.0, ends_as count (both number (λ z. under z P)) a c h.0 inl wrong e h.1)
    where
      wrong : count.wrong h.0 → (both number (λ z. under z P)).wrong h.0
      wrong (inl w) = inl w
      wrong (inr w) = inr (record { prefix = h.0; back = []; joined = sym (append-nil h.0); value = w.0; first = w.1; second = inl (w.2, refl) })

-- ---- what stands behind a count

size_none : (a b : Option ℕ) (n : ℕ) → a ≡ None → SizeFalls a b n → b ≡ None
size_none None None n e p = refl
size_none None (Some b) n e p = absurd p
size_none (Some a) b n e p = absurd cc

pub still_none : {A : Type 0} (F : Form A) (a b : State) (x : A) → a.size_left ≡ None → Passed F a b x → b.size_left ≡ None
still_none F a b x e p = size_none a.size_left b.size_left (length p.0) e p.1.size_left

module _ {A : Type 0} (P : Form A) (a c : State) where
  pub plain_stops : (sized : Bool) (n : ℕ) (e : Stop) → sized ≡ false → 0 < n → n < 2 ^ 63 → Stopped (many P n) a c e → Stopped (block_of P (signed_of sized n)) a c e
  plain_stops true n e s l m h = absurd cc
  plain_stops false zero e s l m h = absurd (omega (arith, l))
  plain_stops false (suc n) e s l m h = (h.0, ends_as (many P (suc n)) (block_of P (pos (suc n))) a c h.0 (λ g. (m, g)) inr e h.1)

  pub plain_passes : (sized : Bool) (n : ℕ) (xs : List A) → sized ≡ false → 0 < n → n < 2 ^ 63 → Passed (many P n) a c xs → Passed (block_of P (signed_of sized n)) a c xs
  plain_passes true n xs s l m p = absurd cc
  plain_passes false zero xs s l m p = absurd (omega (arith, l))
  plain_passes false (suc n) xs s l m p = (p.0, p.1, (m, p.2))

  pub sized_stops : (sized : Bool) (n : ℕ) (e : Stop) → sized ≡ true → 0 < n → n < 2 ^ 63 → Stopped (sized_many_of P n) a c e → Stopped (block_of P (signed_of sized n)) a c e
  sized_stops false n e s l m h = absurd cc
  sized_stops true zero e s l m h = absurd (omega (arith, l))
  sized_stops true (suc n) e s l m h = (h.0, ends_as (sized_many_of P (suc n)) (block_of P (negsuc n)) a c h.0 (λ g. (m, g)) inr e h.1)

  pub sized_passes : (sized : Bool) (n : ℕ) (xs : List A) → sized ≡ true → 0 < n → n < 2 ^ 63 → Passed (sized_many_of P n) a c xs → Passed (block_of P (signed_of sized n)) a c xs
  sized_passes false n xs s l m p = absurd cc
  sized_passes true zero xs s l m p = absurd (omega (arith, l))
  sized_passes true (suc n) xs s l m p = (p.0, p.1, (m, p.2))

pub too_many : {A : Type 0} (P : Form A) (a : State) (sized : Bool) (n : ℕ) → 0 < n → 2 ^ 63 ≤ n → Stopped (block_of P (signed_of sized n)) a a stop.Wrong
too_many P a sized zero l m = absurd (omega (arith, l))
too_many P a false (suc n) l m = ([], (takes_nothing a, inl (m, refl)))
too_many P a true (suc n) l m = ([], (takes_nothing a, inl (m, refl)))

pub no_entries : (sized : Bool) (n : ℕ) → n ≡ 0 → signed_of sized n ≡ pos 0
no_entries false n e = ap pos e
no_entries true zero e = refl
no_entries true (suc n) e = absurd (omega (arith, e))

pub not_zero : (left : Option ℕ) (n s : ℕ) → left ≢ Some 0 → SizeFalls (Some s) left n → (k : ℕ) × (left ≡ Some k) × (0 < k)
not_zero None n s d p = absurd p
not_zero (Some zero) n s d p = absurd (d refl)
not_zero (Some (suc k)) n s d p = (suc k, refl, omega arith)

module _ {A : Type 0} (P : Form A) (s : ℕ) (l l2 : Option (List ℕ)) (f f2 m m2 : ℕ) (r : Option ℕ) where
  pub under_ended_early : (size_left : Option ℕ) (x : A) → size_left ≡ None → r ≢ Some 0 → Passed P (state l f m (Some s)) (state l2 f2 m2 r) x → (e : Stop) → e ≡ stop.Wrong → Stopped (under (pos s) P) (state l f m size_left) (state l2 f2 m2 None) e
  under_ended_early size_left x none short p e is =
      let k = not_zero r (length p.0) s short p.1.size_left in
      rw (is, none) (under_short P s l l2 f f2 m m2 r x k.0 k.1 k.2 p)
