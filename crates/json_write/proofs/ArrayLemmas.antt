-- A bracket, items, and a bracket.
use Rattle.std.proofs.Common.{◌≡◌, ℕ, ◌≤◌, ◌<◌, arith, List, [], ◌++◌, codes, Option, Result, Ok, Err, OnErr, IfErr, inl, inr, ⊎_elim, refl, sym, ap, ◌∙◌, append_assoc, append-nil}
use Rattle.std.specs.Io.KnownBytes.{Appends}
use Rattle.std.specs.List.{join_with_byte}
use Rattle.arrow_base.specs.Outside.{AppendsPrefix, RoseOrFull}
use Rattle.arrow_base.proofs.Written.{Appends-append, Underway, underway-stop}
use Rattle.arrow_core.specs.declared.error.Error.{Error}
use Rattle.arrow_core.specs.declared.error.Error.TheVariants.{WriteFault}
use Rattle.json_text.specs.JsonText.{joined}
use Rattle.lending.specs.Lending.{Shows, ShowsThenErr}
use Rattle.lending.specs.Joined.{WritesShown, StopsWriting}
use Rattle.json_write.specs.Written.{StopsArray}

-- text that was written, and then a prefix of a part
prefix-after : (a b c : Option (List ℕ)) (text part : List ℕ) → Appends a b text → AppendsPrefix b c part → AppendsPrefix a c (text ++ part)
prefix-after a b c text part h k =
    let underway : Underway a b (text ++ part) part = record { done = text; splits = refl; appended = h } in
    underway-stop a b c (text ++ part) part part [] (sym (append-nil part)) underway k

rose-later : (a b c : ℕ) → a ≤ b → RoseOrFull b c → RoseOrFull a c
rose-later a b c h r = ⊎_elim (λ (k : b < c). let j : a < c = omega arith in inl j) (λ k. inr k) r

-- a prefix of a part is one of the whole
longer : (a b : Option (List ℕ)) (part more : List ℕ) → AppendsPrefix a b part → AppendsPrefix a b (part ++ more)
longer a b part more h = record {
  taken = h.taken;
  left_out = h.left_out ++ more;
  splits = sym (append_assoc h.taken h.left_out more) ∙ ap (λ z. z ++ more) h.splits;
  appended = h.appended;
}

module _ {S : Type 0} (step : S → Result (Unit {0}) Error → S → Type 0) (shown : S → Option (List ℕ)) where
  -- the first bracket wasn't written
  pub stops_first : (s : S) (a b : Option (List ℕ)) (before now : ℕ) (e : Error) → e ≡ WriteFault → RoseOrFull before now → AppendsPrefix a b (codes "[") → StopsArray step shown s a b before now e
  stops_first s a b before now e w r p = inl (w, r, inl ([], s, refl, longer a b (codes "[") [] p))

  -- the items stopped
  pub stops_within : (s : S) (a b c : Option (List ℕ)) (first before now : ℕ) (e : Error) → first ≤ before → Appends a b (codes "[") → StopsWriting step shown s 44 b c before now e → StopsArray step shown s a c first now e
  stops_within s a b c first before now e le h st = ⊎_elim
      (λ (f : (e ≡ WriteFault) × RoseOrFull before now × ((xs : List (List ℕ)) × (t : S) × Shows step shown s xs t × AppendsPrefix b c (join_with_byte 44 xs))).
      inl (f.0, rose-later first before now le f.1, inl (f.2.0, f.2.1, f.2.2, prefix-after a b c (codes "[") (joined f.2.0) h f.2.3)))
      (λ (f : (xs : List (List ℕ)) × ShowsThenErr step shown s xs e × Appends b c (join_with_byte 44 xs)).
      inr (f.0, f.1, Appends-append a b c (codes "[") (joined f.0) h f.2))
      st

  -- the last bracket wasn't written
  pub stops_last : (r : Result (Unit {0}) Error) (s : S) (a b c d : Option (List ℕ)) (first before mid now : ℕ) → first ≤ before → before ≤ mid → Appends a b (codes "[") → WritesShown step shown s 44 b c
      → IfErr r (λ e. e ≡ WriteFault) → OnErr r (RoseOrFull mid now) → OnErr r (AppendsPrefix c d (codes "]")) → IfErr r (StopsArray step shown s a d first now)
  stops_last (Ok u) s a b c d first before mid now l m h k w ro p = tt
  stops_last (Err e) s a b c d first before mid now l m h k w ro p =
      inl (w, rose-later first before now l (rose-later before mid now m ro), inr (k.0, k.1, prefix-after a b d (codes "[") (joined k.0 ++ codes "]") h (prefix-after b c d (joined k.0) (codes "]") k.2 p)))
