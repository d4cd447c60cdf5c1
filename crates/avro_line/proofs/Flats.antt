-- Booleans, numbers and strings that were shown.
use Rattle.std.proofs.Common.{◌≡◌, ℕ, zero, suc, ◌≤◌, ◌==◌, ℤ, pos, negsuc, true, false, List, ◌∷◌, ◌++◌, length, take, drop, codes, Option, Some, None, Result, Ok, Err, OnOk, refl, sym, ap, ◌∙◌, subst, w32, arith}
use mir.Val.{SFits}
use Rattle.std.specs.Prelude.{if◌then◌else◌}
use Rattle.std.specs.Str.{is_utf8, IsUtf8}
use Rattle.std.proofs.lemmas.Bool.{and_from, le-leb, le-ltb}
use Rattle.std.proofs.lemmas.Option.{same_Some}
use Rattle.std.proofs.lemmas.Str.{is_utf8-from_IsUtf8}
use Rattle.arrow_base.specs.WrittenString.{json_string}
use Rattle.arrow_core.specs.declared.slot.Slot.{Slot}
use Rattle.arrow_core.specs.declared.slot.Slot.TheVariants as slot
use Rattle.arrow_core.specs.declared.types.DataType.TheVariants.{Boolean, Utf8}
use Rattle.avro_schema.specs.declared.schema.IntLogical.{IntLogical}
use Rattle.avro_schema.specs.declared.schema.IntLogical.TheVariants as int_logical
use Rattle.avro_schema.specs.declared.schema.LongLogical.{LongLogical}
use Rattle.avro_schema.specs.declared.schema.LongLogical.TheVariants as long_logical
use Rattle.avro_schema.specs.declared.schema.Schema.{Schema, Int, Long}
use Rattle.avro_schema.specs.AndThen.{◌>>=◌}
use Rattle.avro_schema.specs.Types.{int_type, long_type}
use Rattle.avro_reference.specs.Lengths.{as_length, length_at}
use Rattle.avro_reference.specs.Prefix.{number_at, bytes_at, counted_at, sized_at}
use Rattle.avro_reference.specs.Read.{boolean_at, is_int, int_at, long_at, string_at}
use Rattle.json_text.specs.declared.integers.IntegerForm.{IntegerForm}
use Rattle.json_text.specs.Columns.{IsForm}
use Rattle.avro_line.specs.Values.{ShowsSlot, AddsInteger, IsPlainForm, ShowsIntegers, ShowsFlat}

-- ---- booleans

pub boolean_shown : (before after old new : List ℕ) (b : ℕ) → before ≡ b ∷ after → b ≤ 1 → new ≡ old ++ (if b == 1 then codes "true" else codes "false") → ShowsSlot boolean_at Boolean before after old new
unfolding boolean_at
boolean_shown before after old new zero e le h = record { value = slot.Boolean false; read = rw e refl; shown = h; dates = refl }
boolean_shown before after old new (suc zero) e le h = record { value = slot.Boolean true; read = rw e refl; shown = h; dates = refl }
boolean_shown before after old new (suc (suc b)) e le h = absurd (omega (arith, le))

-- ---- integers

pub long_shown : (before after old new : List ℕ) (form : IntegerForm) (n : ℤ) → number_at before ≡ Some (n, after) → AddsInteger form n old new → ShowsIntegers long_at form before after old new
unfolding long_at
long_shown before after old new form n e a t h =
    record { value = slot.Integer n; read = rw e refl; shown = a.shown ∙ ap (λ z. old ++ z) (h n).0; dates = sym (h n).1 ∙ a.dates }

pub int_shown : (before after old new : List ℕ) (form : IntegerForm) (n : ℤ) → number_at before ≡ Some (n, after) → is_int n ≡ true → AddsInteger form n old new → ShowsIntegers int_at form before after old new
unfolding int_at
int_shown before after old new form n e i a t h =
    record { value = slot.Integer n; read = rw (e, i) refl; shown = a.shown ∙ ap (λ z. old ++ z) (h n).0; dates = sym (h n).1 ∙ a.dates }

-- a number of 32 bits
pub int_fits : (n : ℤ) → SFits w32 n → is_int n ≡ true
int_fits (pos k) h = le-leb k 2147483647 (omega (arith, h))
int_fits (negsuc k) h = and_from _ _ (le-leb k 2147483647 (omega (arith, h))) refl

pub if_long : {X E : Type 0} (r : Result X E) (before after old new : List ℕ) (form : IntegerForm) (n : ℤ) → number_at before ≡ Some (n, after) → OnOk r (AddsInteger form n old new) → OnOk r (ShowsIntegers long_at form before after old new)
if_long (Ok x) before after old new form n e a = long_shown before after old new form n e a
if_long (Err x) before after old new form n e a = tt

pub if_int : {X E : Type 0} (r : Result X E) (before after old new : List ℕ) (form : IntegerForm) (n : ℤ) → number_at before ≡ Some (n, after) → is_int n ≡ true → OnOk r (AddsInteger form n old new) → OnOk r (ShowsIntegers int_at form before after old new)
if_int (Ok x) before after old new form n e i a = int_shown before after old new form n e i a
if_int (Err x) before after old new form n e i a = tt

int_plain : (form : IntegerForm) (logical : Option IntLogical) → IsForm form (int_type logical) → IsPlainForm form (int_type logical)
int_plain form None h = h
int_plain form (Some int_logical.Date) h = h
int_plain form (Some int_logical.Time) h = h

long_plain : (form : IntegerForm) (logical : Option LongLogical) → IsForm form (long_type logical) → IsPlainForm form (long_type logical)
long_plain form None h = h
long_plain form (Some long_logical.Time) h = h
long_plain form (Some long_logical.TimestampMillis) h = h
long_plain form (Some long_logical.TimestampMicros) h = h
long_plain form (Some long_logical.TimestampNanos) h = h
long_plain form (Some long_logical.LocalTimestampMillis) h = h
long_plain form (Some long_logical.LocalTimestampMicros) h = h
long_plain form (Some long_logical.LocalTimestampNanos) h = h

pub ints_shown : {X E : Type 0} (r : Result X E) (s : Schema) (logical : Option IntLogical) (form : IntegerForm) (before after old new : List ℕ) → s ≡ Int logical → OnOk r (ShowsIntegers int_at form before after old new) → OnOk r (ShowsFlat s form before after old new)
ints_shown (Err x) s logical form before after old new e h = tt
ints_shown (Ok x) s logical form before after old new e h = subst (λ (z : Schema). ShowsFlat z form before after old new) (sym e) shows
  where
    shows : ShowsFlat (Int logical) form before after old new
    shows t is f =
        let same : int_type logical ≡ t = same_Some _ t is in
        h t (subst (IsPlainForm form) same (int_plain form logical (subst (IsForm form) (sym same) f)))

pub longs_shown : {X E : Type 0} (r : Result X E) (s : Schema) (logical : Option LongLogical) (form : IntegerForm) (before after old new : List ℕ) → s ≡ Long logical → OnOk r (ShowsIntegers long_at form before after old new) → OnOk r (ShowsFlat s form before after old new)
longs_shown (Err x) s logical form before after old new e h = tt
longs_shown (Ok x) s logical form before after old new e h = subst (λ (z : Schema). ShowsFlat z form before after old new) (sym e) shows
  where
    shows : ShowsFlat (Long logical) form before after old new
    shows t is f =
        let same : long_type logical ≡ t = same_Some _ t is in
        h t (subst (IsPlainForm form) same (long_plain form logical (subst (IsForm form) (sym same) f)))

-- ---- strings

abbrev with_rest : List ℕ → ℕ → Option (ℕ × List ℕ)
with_rest rest n = Some (n, rest)

abbrev length_of : ℤ × List ℕ → Option (ℕ × List ℕ)
length_of v = (as_length v.0 >>= with_rest v.1)

abbrev counted_of : ℤ × List ℕ → Option (List ℕ × List ℕ)
counted_of n = counted_at n.0 n.1

abbrev bytes_of : ℕ × List ℕ → Option (List ℕ × List ℕ)
bytes_of n = bytes_at n.0 n.1

sized_by_length : (bytes : List ℕ) → sized_at bytes ≡ (length_at bytes >>= bytes_of)
unfolding sized_at length_at counted_at
sized_by_length bytes = from (number_at bytes)
  where
    from : (o : Option (ℤ × List ℕ)) → (o >>= counted_of) ≡ ((o >>= length_of) >>= bytes_of)
    from None = refl
    from (Some (pos n, rest)) = refl
    from (Some (negsuc n, rest)) = refl

abbrev string_of : List ℕ × List ℕ → Option (Slot × List ℕ)
string_of t = if is_utf8 t.0 then Some (slot.String t.0, t.1) else None

string_some : (bytes mid : List ℕ) (n : ℕ) → length_at bytes ≡ Some (n, mid) → n ≤ length mid → string_at bytes ≡ string_of (take n mid, drop n mid)
unfolding string_at bytes_at
string_some bytes mid n e le = rw (sized_by_length bytes, e, le-ltb (length mid) n le) refl

string_read : (before mid string after : List ℕ) (n : ℕ) → length_at before ≡ Some (n, mid) → n ≤ length mid → string ≡ take n mid → after ≡ drop n mid → IsUtf8 string → string_at before ≡ Some (slot.String string, after)
string_read before mid string after n e le t d u =
    let w : is_utf8 (take n mid) ≡ true = rw (sym t) (is_utf8-from_IsUtf8 string u) in
    string_some before mid n e le ∙ (rw (w, t, d) refl)

pub if_string : {X E : Type 0} (r : Result X E) (before mid string after old new : List ℕ) (n : ℕ) → length_at before ≡ Some (n, mid) → n ≤ length mid → string ≡ take n mid → after ≡ drop n mid → OnOk r (IsUtf8 string) → OnOk r (new ≡ old ++ json_string string) → OnOk r (ShowsSlot string_at Utf8 before after old new)
if_string (Ok x) before mid string after old new n e le t d u h = record { value = slot.String string; read = string_read before mid string after n e le t d u; shown = h; dates = refl }
if_string (Err x) before mid string after old new n e le t d u h = tt
