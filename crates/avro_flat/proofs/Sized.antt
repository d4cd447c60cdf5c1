-- Strings and fixed values at the start of bytes, as the code takes them.
use Rattle.std.proofs.Common.{◌≡◌, ℕ, ◌<◌, ◌≤◌, take, drop, length, Ok, Err, Result, ℤ, pos, negsuc, List, ◌∷◌, [], ◌++◌, Option, Some, None, Bool, true, false, refl, sym, ◌∙◌}
use Rattle.std.specs.Prelude.{if◌then◌else◌, OnOk, IfErr, MatchResult}
use Rattle.std.proofs.lemmas.Bool.{lt-ltb, le-ltb}
use Rattle.std.specs.Str.{is_utf8, IsUtf8}
use Rattle.std.proofs.lemmas.Str.{IsUtf8-from_is_utf8, is_utf8-from_IsUtf8}
use Rattle.arrow_core.specs.declared.slot.Slot.{Slot}
use Rattle.arrow_core.specs.declared.slot.Slot.TheVariants as slot
use Rattle.avro_schema.specs.AndThen.{◌>>=◌}
use Rattle.avro_reference.specs.Prefix.{number_at, bytes_at, counted_at, sized_at}
use Rattle.avro_reference.specs.Read.{push_one, string_at, fixed_at}
use Rattle.avro_reference.specs.Lengths.{as_length, length_at}
use Rattle.avro_flat.specs.Decoding.{Gives, IsStringFault}
use Rattle.avro_flat.specs.declared.fault.DecodeFault.{DecodeFault}
use Rattle.avro_flat.specs.declared.fault.DecodeFault.TheVariants.{Bytes, Memory}

-- a string is a length, and so many bytes that are UTF-8
abbrev with_rest : List ℕ → ℕ → Option (ℕ × List ℕ)
with_rest rest n = Some (n, rest)

abbrev length_of : ℤ × List ℕ → Option (ℕ × List ℕ)
length_of v = (as_length v.0 >>= with_rest v.1)

abbrev counted_of : ℤ × List ℕ → Option (List ℕ × List ℕ)
counted_of n = counted_at n.0 n.1

abbrev bytes_of : ℕ × List ℕ → Option (List ℕ × List ℕ)
bytes_of n = bytes_at n.0 n.1

abbrev string_of : List ℕ × List ℕ → Option (Slot × List ℕ)
string_of t = if is_utf8 t.0 then Some (slot.String t.0, t.1) else None

pub sized_by_length : (bytes : List ℕ) → sized_at bytes ≡ (length_at bytes >>= bytes_of)
unfolding sized_at length_at counted_at
sized_by_length bytes = from (number_at bytes)
  where
    from : (o : Option (ℤ × List ℕ)) → (o >>= counted_of) ≡ ((o >>= length_of) >>= bytes_of)
    from None = refl
    from (Some (pos n, rest)) = refl
    from (Some (negsuc n, rest)) = refl

string_some : (bytes mid : List ℕ) (n : ℕ) → length_at bytes ≡ Some (n, mid) → n ≤ length mid → string_at bytes ≡ string_of (take n mid, drop n mid)
unfolding string_at bytes_at
string_some bytes mid n e le = rw (sized_by_length bytes, e, le-ltb (length mid) n le) refl

pub string_good : (bytes mid string : List ℕ) (n : ℕ) → length_at bytes ≡ Some (n, mid) → n ≤ length mid → string ≡ take n mid → IsUtf8 string → string_at bytes ≡ Some (slot.String string, drop n mid)
string_good bytes mid string n e le t u =
    let w : is_utf8 (take n mid) ≡ true = rw (sym t) (is_utf8-from_IsUtf8 string u) in
    string_some bytes mid n e le ∙ (rw (w, t) refl)

not_utf8 : (bs : List ℕ) → (IsUtf8 bs → ⊥) → is_utf8 bs ≡ false
not_utf8 bs h = from (is_utf8 bs) refl
  where
    from : (b : Bool) → is_utf8 bs ≡ b → b ≡ false
    from false e = refl
    from true e = absurd (h (IsUtf8-from_is_utf8 bs e))

pub string_wrong : (bytes mid string : List ℕ) (n : ℕ) → length_at bytes ≡ Some (n, mid) → n ≤ length mid → string ≡ take n mid → (IsUtf8 string → ⊥) → string_at bytes ≡ None
string_wrong bytes mid string n e le t u =
    let w : is_utf8 (take n mid) ≡ false = rw (sym t) (not_utf8 string u) in
    string_some bytes mid n e le ∙ (rw w refl)

pub string_short : (bytes mid : List ℕ) (n : ℕ) → length_at bytes ≡ Some (n, mid) → length mid < n → string_at bytes ≡ None
unfolding string_at bytes_at
string_short bytes mid n e lt = rw (sized_by_length bytes, e, lt-ltb (length mid) n lt) refl

pub string_none : (bytes : List ℕ) → length_at bytes ≡ None → string_at bytes ≡ None
unfolding string_at
string_none bytes e = rw (sized_by_length bytes, e) refl

pub string_pushed : {X : Type 0} (old new : List Slot) (bytes mid string rest : List ℕ) (n : ℕ) (r : Result X DecodeFault) → length_at bytes ≡ Some (n, mid) → (n ≤ length mid) × (string ≡ take n mid) × (rest ≡ drop n mid) → MatchResult r (λ _. IsUtf8 string × (new ≡ old ++ slot.String string ∷ [])) (λ e. IsStringFault e string) → Gives (λ (_ : X). (new, rest)) r (push_one old (string_at bytes))
unfolding push_one
string_pushed old new bytes mid string rest n (Ok x) e p h = rw (string_good bytes mid string n e p.0 p.1 h.0, h.1, p.2) refl
string_pushed old new bytes mid string rest n (Err Bytes) e p h = rw (string_wrong bytes mid string n e p.0 p.1 h) refl
string_pushed old new bytes mid string rest n (Err Memory) e p h = tt

-- ---- fixed-size binary values

pub fixed_short : (n : ℕ) (old : List Slot) (bytes : List ℕ) → length bytes < n → push_one old (fixed_at n None bytes) ≡ None
unfolding push_one fixed_at bytes_at
fixed_short n old bytes lt = rw (lt-ltb (length bytes) n lt) refl

pub fixed_given : {X : Type 0} (r : Result X DecodeFault) (n : ℕ) (old new : List Slot) (bytes string rest : List ℕ) → (n ≤ length bytes) × (string ≡ take n bytes) × (rest ≡ drop n bytes) → OnOk r (new ≡ old ++ slot.Binary string ∷ []) → IfErr r (λ e. e ≡ Memory) → Gives (λ (_ : X). (new, rest)) r (push_one old (fixed_at n None bytes))
unfolding push_one fixed_at bytes_at
fixed_given (Ok x) n old new bytes string rest p h e = rw (le-ltb (length bytes) n p.0, h, p.1, p.2) refl
fixed_given (Err d) n old new bytes string rest p h e = rw e tt
