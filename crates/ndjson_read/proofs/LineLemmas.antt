-- The lines of bytes after whole lines, and of bytes without a line feed.
use Rattle.std.proofs.Common.{◌≡◌, ◌≢◌, ℕ, suc, ◌+◌, ◌-◌, ◌<◌, inl, inr, Bool, true, false, cond, List, [], ◌∷◌, ◌++◌, length, take, get_or, All, refl, sym, ap, ◌∙◌, subst, append_assoc, ne_eqb, arith}
use Rattle.std.specs.Io.{StopsAt}
use Rattle.std.proofs.lemmas.Grind.{common_steps}
use Rattle.std.proofs.lemmas.Bool.{cases_Bool}
use Rattle.std.proofs.lemmas.List.{append-nil}
use Rattle.std.proofs.lemmas.List.Sums.{sum_by-append}
use Rattle.std.specs.Prelude.{filter}
use Rattle.std.specs.Str.{trim_start, trim_end, chars}
use lib.Utf8.{encode}
use Rattle.ndjson_read.specs.Lines.{onto_first, lines, line_feeds, is_line_feed, EndsLine, is_row}
use Rattle.ndjson_read.specs.OneLine.{one_or_none, IsPart}

-- a line, and those after it
pub record Some_lines (all : List (List ℕ)) : Type 0 where
  pub first : List ℕ
  pub others : List (List ℕ)
  pub split : all ≡ first ∷ others

onto_some : (byte : ℕ) (all : List (List ℕ)) → Some_lines (onto_first byte all)
unfolding onto_first
onto_some byte [] = record { first = byte ∷ []; others = []; split = refl }
onto_some byte (line ∷ more) = record { first = byte ∷ line; others = more; split = refl }

some_lines : (byte : ℕ) (bytes : List ℕ) → Some_lines (lines (byte ∷ bytes))
unfolding lines
some_lines byte bytes =
    elim (cases_Bool (is_line_feed byte)) [
      | inl is_feed ↦ record { first = byte ∷ []; others = lines bytes; split = rw is_feed refl }
      | inr other ↦ rw other (onto_some byte (lines bytes))
    ]

some_before : (prefix rest : List ℕ) → Some_lines (lines (prefix ++ 10 ∷ rest))
some_before [] rest = some_lines 10 rest
some_before (byte ∷ prefix) rest = some_lines byte (prefix ++ 10 ∷ rest)

onto_more : (byte : ℕ) (all more : List (List ℕ)) → Some_lines all → onto_first byte (all ++ more) ≡ onto_first byte all ++ more
unfolding onto_first
onto_more byte all more s = rw (s.split) refl

length_onto : (byte : ℕ) (all : List (List ℕ)) → Some_lines all → length (onto_first byte all) ≡ length all
unfolding onto_first
length_onto byte all s = rw (s.split) refl

lines_through : (prefix rest : List ℕ) → lines (prefix ++ 10 ∷ rest) ≡ lines (prefix ++ 10 ∷ []) ++ lines rest
unfolding lines
lines_through [] rest = refl
lines_through (byte ∷ prefix) rest =
    elim (cases_Bool (is_line_feed byte)) [
      | inl is_feed ↦ rw is_feed (ap (λ (z : List (List ℕ)). (byte ∷ []) ∷ z) (lines_through prefix rest))
      | inr other ↦ rw other (ap (onto_first byte) (lines_through prefix rest) ∙ onto_more byte _ (lines rest) (some_before prefix []))
    ]

-- the lines of whole lines and more
pub lines-append : (whole rest : List ℕ) → EndsLine whole → lines (whole ++ rest) ≡ lines whole ++ lines rest
unfolding lines
lines-append whole rest (inl none) = rw none refl
lines-append whole rest (inr feed) = rw (feed.1) (rw append_assoc (lines_through feed.0 rest))

feeds_cons : (byte : ℕ) (bytes : List ℕ) → line_feeds (byte ∷ bytes) ≡ cond (is_line_feed byte) 1 0 + line_feeds bytes
feeds_cons byte bytes = let all = sum_by-append (λ b. cond (is_line_feed b) 1 0) (byte ∷ []) bytes in omega (arith, all)

-- no line feed is among the others, where none is among all
feedless : (byte : ℕ) (bytes : List ℕ) → IsPart (byte ∷ bytes) → (is_line_feed byte ≡ false) × IsPart bytes
feedless byte bytes part =
    let all : cond (is_line_feed byte) 1 0 + line_feeds bytes ≡ 0 = sym (feeds_cons byte bytes) ∙ part in
    elim (cases_Bool (is_line_feed byte)) [
      | inl is_feed ↦ let h : 1 + line_feeds bytes ≡ 0 = rw is_feed at all in absurd (omega (arith, h))
      | inr other ↦ let h : 0 + line_feeds bytes ≡ 0 = rw other at all in (other, omega (arith, h))
    ]

pub lines_part : (part : List ℕ) → IsPart part → lines part ≡ one_or_none part
unfolding lines onto_first
lines_part [] p = refl
lines_part (byte ∷ []) p = rw ((feedless byte [] p).0) refl
lines_part (byte ∷ next ∷ part) p =
    rw ((feedless byte (next ∷ part) p).0) (ap (onto_first byte) (lines_part (next ∷ part) (feedless byte (next ∷ part) p).1))

pub lines_one : (part : List ℕ) (byte : ℕ) → IsPart part → lines (part ++ byte ∷ []) ≡ (part ++ byte ∷ []) ∷ []
unfolding lines onto_first
lines_one [] byte p =
    elim (cases_Bool (is_line_feed byte)) [
      | inl is_feed ↦ rw is_feed refl
      | inr other ↦ rw other refl
    ]
lines_one (first ∷ part) byte p =
    rw ((feedless first part p).0) (ap (onto_first first) (lines_one part byte (feedless first part p).1))

onto_one : (byte : ℕ) (bytes : List ℕ) → onto_first byte (one_or_none bytes) ≡ (byte ∷ bytes) ∷ []
unfolding onto_first
onto_one byte [] = refl
onto_one byte (next ∷ bytes) = refl

-- one line or none, after a part of it
pub lines_after_part : (part more : List ℕ) → IsPart part → lines more ≡ one_or_none more → lines (part ++ more) ≡ one_or_none (part ++ more)
unfolding lines
lines_after_part [] more p one = one
lines_after_part (byte ∷ part) more p one =
    rw ((feedless byte part p).0) (ap (onto_first byte) (lines_after_part part more (feedless byte part p).1 one) ∙ onto_one byte (part ++ more))

pub one_or_none-push : (part : List ℕ) (byte : ℕ) → one_or_none (part ++ byte ∷ []) ≡ (part ++ byte ∷ []) ∷ []
one_or_none-push [] byte = refl
one_or_none-push (first ∷ part) byte = refl

pub part_more : (part : List ℕ) (byte : ℕ) → IsPart part → is_line_feed byte ≡ false → IsPart (part ++ byte ∷ [])
part_more part byte p other = sum_by-append (λ b. cond (is_line_feed b) 1 0) part (byte ∷ []) ∙ rw (p, other) refl

lines_feed : (byte : ℕ) (bytes : List ℕ) → is_line_feed byte ≡ true → lines (byte ∷ bytes) ≡ (byte ∷ []) ∷ lines bytes
unfolding lines
lines_feed byte bytes is_feed = rw is_feed refl

lines_other : (byte : ℕ) (bytes : List ℕ) → is_line_feed byte ≡ false → lines (byte ∷ bytes) ≡ onto_first byte (lines bytes)
unfolding lines
lines_other byte bytes other = rw other refl

one_feed : length (lines (10 ∷ [])) ≡ 1
unfolding lines
one_feed = refl

feeds_through : (prefix : List ℕ) → length (lines (prefix ++ 10 ∷ [])) ≡ line_feeds (prefix ++ 10 ∷ [])
feeds_through [] = one_feed
feeds_through (byte ∷ prefix) =
    let rest = feeds_through prefix in
    let all = feeds_cons byte (prefix ++ 10 ∷ []) in
    elim (cases_Bool (is_line_feed byte)) [
      | inl is_feed ↦
          let more : line_feeds (byte ∷ (prefix ++ 10 ∷ [])) ≡ 1 + line_feeds (prefix ++ 10 ∷ []) = rw is_feed at all in
          let size : length (lines (byte ∷ (prefix ++ 10 ∷ []))) ≡ 1 + length (lines (prefix ++ 10 ∷ [])) = ap length (lines_feed byte (prefix ++ 10 ∷ []) is_feed) ∙ omega arith in
          omega (arith, rest, more, size)
      | inr other ↦
          let more : line_feeds (byte ∷ (prefix ++ 10 ∷ [])) ≡ 0 + line_feeds (prefix ++ 10 ∷ []) = rw other at all in
          let size = ap length (lines_other byte (prefix ++ 10 ∷ []) other) ∙ length_onto byte (lines (prefix ++ 10 ∷ [])) (some_before prefix []) in
          omega (arith, rest, more, size)
    ]

feeds_whole : (whole : List ℕ) → EndsLine whole → length (lines whole) ≡ line_feeds whole
unfolding lines
feeds_whole whole (inl none) = rw none refl
feeds_whole whole (inr feed) = rw (feed.1) (feeds_through feed.0)

-- a part of a line adds no line feed
pub line_feeds-part : (whole part : List ℕ) → EndsLine whole → IsPart part → line_feeds (whole ++ part) ≡ length (lines whole)
line_feeds-part whole part w p =
    let all = sum_by-append (λ b. cond (is_line_feed b) 1 0) whole part in
    let feeds = feeds_whole whole w in
    omega (arith, all, feeds, p)

pub EndsLine-append : (whole rest : List ℕ) → EndsLine whole → EndsLine rest → EndsLine (whole ++ rest)
EndsLine-append whole rest w (inl none) = subst EndsLine (sym (ap (λ (z : List ℕ). whole ++ z) none ∙ append-nil whole)) w
EndsLine-append whole rest w (inr feed) = inr (whole ++ feed.0, ap (λ (z : List ℕ). whole ++ z) feed.1 ∙ sym (append_assoc whole feed.0 (10 ∷ [])))

-- nothing is no row
pub no_row : is_row [] ≡ false
unfolding trim_start trim_end chars encode
no_row = refl

pub rows_of_one : (line : List ℕ) → filter is_row (one_or_none line) ≡ cond (is_row line) (line ∷ []) []
rows_of_one [] = rw no_row refl
rows_of_one (byte ∷ line) = refl

-- ---- bytes of which none but the last is a line feed

feedless_all : (bytes : List ℕ) → All (λ byte. byte ≢ 10) bytes → IsPart bytes
feedless_all [] all = refl
feedless_all (byte ∷ bytes) all =
    let rest = feedless_all bytes (λ k d below. all (suc k) d (omega (arith, below))) in
    let other : is_line_feed byte ≡ false = ne_eqb byte 10 (all 0 0 (omega arith)) in
    feeds_cons byte bytes ∙ ap (λ (b : Bool). cond b 1 0 + line_feeds bytes) other ∙ ap (λ (z : ℕ). 0 + z) rest

-- some bytes, of which none but the last is a line feed, as a part of a line and the last of them
pub record Parted (bytes : List ℕ) : Type 0 where
  pub part : List ℕ
  pub last : ℕ
  pub is_part : IsPart part
  pub split : bytes ≡ part ++ last ∷ []

pub parted : (bytes : List ℕ) → StopsAt bytes 10 → 0 < length bytes → Parted bytes
parted bytes stops some = record {
  part = take (length bytes - 1) bytes;
  last = get_or bytes (length bytes - 1) 0;
  is_part = feedless_all _ stops;
  split = grind (arith, common_steps, some);
}
