-- Bytes that are given through a byte.
use Rattle.std.proofs.Common.{◌≡◌, ℕ, ◌≤◌, Option, Some, None, List, [], ◌∷◌, ◌++◌, take, length, refl, sym, subst, length-take-le, length-take, take-take, arith}
use Rattle.std.specs.Io.{StopsAt}
use Rattle.std.specs.Io.KnownBytes.{Consumes, Keeps}
use Rattle.std.proofs.KnownBytes.{Keeps-trans}
use Rattle.arrow_base.specs.Outside.{GivesThrough}

-- the first n of the bytes that are shown, where these are cut off first
pub given_through : (old new : Option (List ℕ)) (shown : List ℕ) (byte most cut n : ℕ) (before line : List ℕ) → Consumes old new (take n shown) → cut ≤ most → n ≤ length (take cut shown)
    → StopsAt (take n (take cut shown)) byte → line ≡ before ++ take n shown → GivesThrough old new byte most before line n
given_through old new shown byte most cut n before line consumed few within stops appended =
    let cut_within : length (take cut shown) ≤ cut = omega (arith, length-take cut shown) in
    let below : n ≤ cut = omega (arith, within, cut_within) in
    let inside : n ≤ length shown = omega (arith, within, length-take cut shown) in
    let size : length (take n shown) ≡ n = length-take-le n shown inside in
    record {
      bytes = take n shown;
      came = record { consumed = consumed; fits = omega (arith, size, below, few); stops = subst (λ (z : List ℕ). StopsAt z byte) (take-take n cut shown below) stops };
      counted = size;
      appended = appended;
    }

no_bytes : (bytes : List ℕ) → length bytes ≡ 0 → bytes ≡ []
no_bytes [] none = refl
no_bytes (byte ∷ bytes) none = absurd (omega (arith, none))

keeps : (old new : Option (List ℕ)) → Consumes old new [] → Keeps old new
keeps None new p = tt
keeps (Some xs) None p = p
keeps (Some xs) (Some ys) p = sym p

-- none were given, and then a call failed
pub none_after : (old mid new : Option (List ℕ)) (byte most : ℕ) (before between : List ℕ) → GivesThrough old mid byte most before between 0 → Keeps mid new → Keeps old new
none_after old mid new byte most before between first kept =
    Keeps-trans old mid new (keeps old mid (subst (Consumes old mid) (no_bytes first.bytes first.counted) first.came.consumed)) kept
