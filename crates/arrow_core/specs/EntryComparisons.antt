-- How lists of entries are compared and hashed: entry by entry, the key before the value.
use mathlib.Core.Path.{refl}
use Rattle.std.specs.Prelude.{◌≡◌, Bool, true, ◌&&◌, nat_eq, List, ◌++◌, Some}
use Rattle.std.specs.declared.cmp.Ordering.{Ordering}
use Rattle.std.specs.Ordering.{ordering_then, eq_by_cmp}
use Rattle.std.specs.Cmp.{unsigned_Decides, IsPartialEquivalence, IsEquivalence, IsPartialOrder, IsTotalOrder, partial_equiv_from_equiv, on_equiv, and_equiv, on_total, then_total, both_tied, partial_order_from_agreeing_total}
use Rattle.std.specs.Cmp.Lexicographic.{pointwise, slice_cmp, lists_equiv, lists_total, lists_ties, nat_list_eq_equiv, nat_list_cmp_total, texts_ties}
use Rattle.std.specs.Hash as fed
use Rattle.std.specs.Hash.{HashWrites, Alike, same_Alike, on_Alike, and-Alike, items_Alike}
use Rattle.std.proofs.lemmas.Slice.Eq.{slice_eq-Decides}
use Rattle.arrow_core.specs.Entries.{Entry, bytes_cmp}

-- equality

abbrev pub entry_eq : Entry → Entry → Bool
entry_eq a b = pointwise nat_eq a.0 b.0 && pointwise nat_eq a.1 b.1

abbrev pub entries_eq : List Entry → List Entry → Bool
entries_eq = pointwise entry_eq

pub entries_equiv : IsEquivalence entries_eq
entries_equiv =
    let by_key = on_equiv (λ e. e.0) nat_list_eq_equiv in
    let by_value = on_equiv (λ e. e.1) nat_list_eq_equiv in
    lists_equiv (and_equiv by_key by_value)

pub entries_per : IsPartialEquivalence entries_eq
entries_per = partial_equiv_from_equiv entries_equiv

-- order

abbrev pub entry_cmp : Entry → Entry → Ordering
entry_cmp a b = ordering_then (bytes_cmp a.0 b.0) (bytes_cmp a.1 b.1)

abbrev pub entries_cmp : List Entry → List Entry → Ordering
entries_cmp = slice_cmp entry_cmp

pub entries_total : IsTotalOrder entries_cmp
entries_total =
    let by_key = on_total (λ e. e.0) nat_list_cmp_total in
    let by_value = on_total (λ e. e.1) nat_list_cmp_total in
    lists_total (then_total by_key by_value)

-- entries are equal exactly where neither list comes before the other
pub entries_ties : (a b : List Entry) → entries_eq a b ≡ eq_by_cmp entries_cmp a b
entries_ties a b =
    let ties = λ (x y : Entry). both_tied _ _ (bytes_cmp x.0 y.0) (bytes_cmp x.1 y.1) (texts_ties x.0 y.0) (texts_ties x.1 y.1) in
    lists_ties entry_cmp ties a b

pub entries_po : IsPartialOrder entries_eq (λ a b. Some (entries_cmp a b))
entries_po = partial_order_from_agreeing_total entries_cmp entries_total (λ a b. refl) entries_ties

-- hash

abbrev pub entries_hash : List Entry → HashWrites
entries_hash = fed.slice (λ e. fed.str e.0 ++ fed.str e.1)

text_alike : Alike (pointwise nat_eq) fed.str
text_alike = same_Alike fed.str (λ a b. slice_eq-Decides unsigned_Decides a b (pointwise nat_eq a b) refl)

-- equal entries hash alike
pub entries_alike : (a b : List Entry) → entries_eq a b ≡ true → entries_hash a ≡ entries_hash b
entries_alike =
    let by_key = on_Alike (λ e. e.0) text_alike in
    let by_value = on_Alike (λ e. e.1) text_alike in
    (items_Alike (and-Alike by_key by_value)).fed
