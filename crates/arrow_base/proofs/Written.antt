-- Writes one after another.
use Rattle.std.proofs.Common.{◌≡◌, ℕ, Result, Ok, Err, OnErr, Option, Some, None, List, [], ◌++◌, take, drop, refl, sym, ◌∙◌, ap, subst, append_assoc, append-nil, arith, length, ◌-◌}
use Rattle.std.proofs.lemmas.Grind.{common_steps}
use Rattle.std.proofs.lemmas.List.{take-append-drop}
use Rattle.std.specs.Io.KnownBytes.{Appends, Keeps}
use Rattle.arrow_base.specs.Outside.{AppendsPrefix}

pub Appends-nothing : (held : Option (List ℕ)) → Appends held held []
Appends-nothing None = tt
Appends-nothing (Some xs) = sym (append-nil xs)

pub Appends-kept : (old new : Option (List ℕ)) → Keeps old new → Appends old new []
Appends-kept None new h = tt
Appends-kept (Some xs) None h = h
Appends-kept (Some xs) (Some ys) h = h ∙ sym (append-nil xs)

pub Appends-append : (a b c : Option (List ℕ)) (x y : List ℕ) → Appends a b x → Appends b c y → Appends a c (x ++ y)
Appends-append None b c x y h k = tt
Appends-append (Some xs) None c x y h k = absurd h
Appends-append (Some xs) (Some ys) None x y h k = k
Appends-append (Some xs) (Some ys) (Some zs) x y h k = k ∙ ap (λ (l : List ℕ). l ++ y) h ∙ append_assoc xs x y

-- what was taken before comes first
prefix-append : (a b c : Option (List ℕ)) (x y : List ℕ) → Appends a b x → AppendsPrefix b c y → AppendsPrefix a c (x ++ y)
prefix-append a b c x y h k = record {
  taken = x ++ k.taken;
  left_out = k.left_out;
  splits = append_assoc x k.taken k.left_out ∙ ap (λ (l : List ℕ). x ++ l) k.splits;
  appended = Appends-append a b c x k.taken h k.appended;
}

prefix-longer : (a b : Option (List ℕ)) (x y : List ℕ) → AppendsPrefix a b x → AppendsPrefix a b (x ++ y)
prefix-longer a b x y h = record {
  taken = h.taken;
  left_out = h.left_out ++ y;
  splits = sym (append_assoc h.taken h.left_out y) ∙ ap (λ (l : List ℕ). l ++ y) h.splits;
  appended = h.appended;
}

-- of the whole, the rest is still to be written
pub record Underway (old new : Option (List ℕ)) (whole rest : List ℕ) : Type 0 where
  pub done : List ℕ
  pub splits : done ++ rest ≡ whole
  pub appended : Appends old new done

pub underway-start : (held : Option (List ℕ)) (whole : List ℕ) → Underway held held whole whole
underway-start held whole = record { done = []; splits = refl; appended = Appends-nothing held }

-- one part more is written
pub underway-part : (a b c : Option (List ℕ)) (whole rest part more : List ℕ) → rest ≡ part ++ more → Underway a b whole rest → Appends b c part → Underway a c whole more
underway-part a b c whole rest part more e h k = record {
  done = h.done ++ part;
  splits = append_assoc h.done part more ∙ ap (λ (l : List ℕ). h.done ++ l) (sym e) ∙ h.splits;
  appended = Appends-append a b c h.done part h.appended k;
}

pub underway-take : (a b c : Option (List ℕ)) (whole rest : List ℕ) (n : ℕ) → Underway a b whole rest → Appends b c (take n rest) → Underway a c whole (drop n rest)
underway-take a b c whole rest n h k = underway-part a b c whole rest (take n rest) (drop n rest) (sym (take-append-drop n rest)) h k

-- the write of one part stops on the way
pub underway-stop : (a b c : Option (List ℕ)) (whole rest part more : List ℕ) → rest ≡ part ++ more → Underway a b whole rest → AppendsPrefix b c part → AppendsPrefix a c whole
underway-stop a b c whole rest part more e h k =
    subst (λ (l : List ℕ). AppendsPrefix a c l) (ap (λ (l : List ℕ). h.done ++ l) (sym e) ∙ h.splits)
    (prefix-append a b c h.done (part ++ more) h.appended (prefix-longer b c part more k))

-- the same where the last write may have stopped
pub underway-stop_if : {T E : Type 0} (r : Result T E) (a b c : Option (List ℕ)) (whole rest part more : List ℕ) → rest ≡ part ++ more → Underway a b whole rest → OnErr r (AppendsPrefix b c part) → OnErr r (AppendsPrefix a c whole)
underway-stop_if (Ok t) a b c whole rest part more e h k = tt
underway-stop_if (Err t) a b c whole rest part more e h k = underway-stop a b c whole rest part more e h k

pub on_err : {A E : Type 0} (r : Result A E) (P : Type 0) → P → OnErr r P
on_err (Ok x) P p = tt
on_err (Err e) P p = p

-- what `&rest[n..]` holds
pub tail-whole : (rest : List ℕ) (n : ℕ) → take (length rest - n) (drop n rest) ≡ drop n rest
tail-whole rest n = grind (arith, common_steps)
