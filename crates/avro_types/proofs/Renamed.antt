-- Names for fixed types, in terms of the fields and members that code sees.
use Rattle.std.proofs.Common.{◌≡◌, ◌∙◌, ℕ, zero, suc, ◌+◌, ◌<◌, ◌≤◌, List, [], ◌∷◌, ◌++◌, length, get_or, drop, Option, refl, sym, ap, arith, add-one, append_assoc}
use Rattle.std.proofs.lemmas.List.{append-nil}
use Rattle.avro_schema.specs.declared.schema.AvroField.{AvroField}
use Rattle.avro_schema.specs.declared.schema.Record.{Record as TheRecord, Record', out-Record, roll-Record, Row_of-AvroField, end_of-AvroField, more_of-AvroField, items-the_row-AvroField, items_shown-the_row-AvroField-2}
use Rattle.avro_schema.specs.declared.schema.Schema.{Schema, Array, Map, Union}
use Rattle.avro_schema.specs.declared.schema.Schema.TheBlock.{shape-the_row-Schema-0, hidden-the_row-Schema-0, shape-the_row-Schema-1, hidden-the_row-Schema-1}
use Rattle.avro_schema.specs.declared.schema.Schema.TheViews.{outs-struct-Record}
use Rattle.avro_types.specs.Listed.{named_all, named_members, nameless_in_all, nameless_in_members}
use Rattle.avro_types.specs.Named.{named, named_record, named_fields, named_row, nameless_in, nameless_in_record, nameless_in_fields, nameless_in_row}

add_nothing : (n : ℕ) → n + 0 ≡ n
add_nothing n = omega arith

-- ---- arrays, maps and unions

pub array_named : (k : ℕ) (s : Schema) → named k (Array s) ≡ Array (named k s)
unfolding shape-the_row-Schema-0 hidden-the_row-Schema-0 denote.Hole.Carrier.hidden
array_named k s = refl

pub map_named : (k : ℕ) (s : Schema) → named k (Map s) ≡ Map (named k s)
unfolding shape-the_row-Schema-0 hidden-the_row-Schema-0 denote.Hole.Carrier.hidden
map_named k s = refl

pub array_nameless : (s : Schema) → nameless_in (Array s) ≡ nameless_in s
unfolding shape-the_row-Schema-0 hidden-the_row-Schema-0 denote.Hole.Carrier.hidden
array_nameless s = add_nothing (nameless_in s)

pub map_nameless : (s : Schema) → nameless_in (Map s) ≡ nameless_in s
unfolding shape-the_row-Schema-0 hidden-the_row-Schema-0 denote.Hole.Carrier.hidden
map_nameless s = add_nothing (nameless_in s)

row_members : (k : ℕ) (members : List Schema) → named_row k (hidden-the_row-Schema-1 members) ≡ named_members k members
unfolding shape-the_row-Schema-1 hidden-the_row-Schema-1 denote.Hole.Carrier.hidden
row_members k [] = refl
row_members k (s ∷ members) = ap (λ (z : List Schema). named k s ∷ z) (row_members (k + nameless_in s) members)

pub union_named : (k : ℕ) (members : List Schema) → named k (Union members) ≡ Union (named_members k members)
unfolding shape-the_row-Schema-1 hidden-the_row-Schema-1 denote.Hole.Carrier.hidden
union_named k members = ap Union (row_members k members)

row_nameless : (members : List Schema) → nameless_in_row (hidden-the_row-Schema-1 members) ≡ nameless_in_members members
unfolding shape-the_row-Schema-1 hidden-the_row-Schema-1 denote.Hole.Carrier.hidden
row_nameless [] = refl
row_nameless (s ∷ members) = ap (λ n. nameless_in s + n) (row_nameless members)

pub union_nameless : (members : List Schema) → nameless_in (Union members) ≡ nameless_in_members members
unfolding shape-the_row-Schema-1 hidden-the_row-Schema-1 denote.Hole.Carrier.hidden
union_nameless members = row_nameless members

-- ---- records

row_all : {m : _} (k : ℕ) (row : Row_of-AvroField m) → named_fields k row ≡ named_all k (items-the_row-AvroField _ row)
row_all k end_of-AvroField = refl
row_all k (more_of-AvroField name doc s rest) = ap (λ (z : List AvroField). (record { name = name; doc = doc; schema = named k s }) ∷ z) (row_all (k + nameless_in s) rest)

row_nameless_all : {m : _} (row : Row_of-AvroField m) → nameless_in_fields row ≡ nameless_in_all (items-the_row-AvroField _ row)
row_nameless_all end_of-AvroField = refl
row_nameless_all (more_of-AvroField name doc s rest) = ap (λ n. nameless_in s + n) (row_nameless_all rest)

pub record_named : (k : ℕ) (r : TheRecord) → named_record k r ≡ roll-Record (record { name = (out-Record r).name; namespace = (out-Record r).namespace; doc = (out-Record r).doc; fields = named_all k (out-Record r).fields })
record_named k (Record' name namespace doc shape fields) =
    let o = outs-struct-Record name namespace doc shape fields in
    let same = row_all k fields ∙ ap (named_all k) (sym (ap (λ z. z.fields) o ∙ items_shown-the_row-AvroField-2 shape fields)) in
    λ i. roll-Record (record { name = sym (ap (λ z. z.name) o) i; namespace = sym (ap (λ z. z.namespace) o) i; doc = sym (ap (λ z. z.doc) o) i; fields = same i })

pub record_nameless : (r : TheRecord) → nameless_in_record r ≡ nameless_in_all (out-Record r).fields
record_nameless (Record' name namespace doc shape fields) =
    row_nameless_all fields ∙ ap nameless_in_all (sym (ap (λ z. z.fields) (outs-struct-Record name namespace doc shape fields) ∙ items_shown-the_row-AvroField-2 shape fields))

-- ---- what the code makes

pub array_is : (k : ℕ) (s item given made boxed : Schema) → s ≡ Array item → given ≡ item → made ≡ named k given → boxed ≡ made → Array boxed ≡ named k s
array_is k s item given made boxed e g m b = ap Array (b ∙ m ∙ ap (named k) g) ∙ sym (ap (named k) e ∙ array_named k item)

pub map_is : (k : ℕ) (s value given made boxed : Schema) → s ≡ Map value → given ≡ value → made ≡ named k given → boxed ≡ made → Map boxed ≡ named k s
map_is k s value given made boxed e g m b = ap Map (b ∙ m ∙ ap (named k) g) ∙ sym (ap (named k) e ∙ map_named k value)

pub union_is : (k : ℕ) (s : Schema) (members given made : List Schema) → s ≡ Union members → given ≡ members → made ≡ named_members k given → Union made ≡ named k s
union_is k s members given made e g m = ap Union (m ∙ ap (named_members k) g) ∙ sym (ap (named k) e ∙ union_named k members)

pub array_count : (k n : ℕ) (s item given : Schema) → s ≡ Array item → given ≡ item → n ≡ k + nameless_in given → n ≡ k + nameless_in s
array_count k n s item given e g c = c ∙ ap (λ m. k + m) (ap nameless_in g ∙ sym (ap nameless_in e ∙ array_nameless item))

pub map_count : (k n : ℕ) (s value given : Schema) → s ≡ Map value → given ≡ value → n ≡ k + nameless_in given → n ≡ k + nameless_in s
map_count k n s value given e g c = c ∙ ap (λ m. k + m) (ap nameless_in g ∙ sym (ap nameless_in e ∙ map_nameless value))

pub union_count : (k n : ℕ) (s : Schema) (members given : List Schema) → s ≡ Union members → given ≡ members → n ≡ k + nameless_in_members given → n ≡ k + nameless_in s
union_count k n s members given e g c = c ∙ ap (λ m. k + m) (ap nameless_in_members g ∙ sym (ap nameless_in e ∙ union_nameless members))

pub record_is : (k : ℕ) (r : TheRecord) (name : List ℕ) (namespace doc : Option (List ℕ)) (given fields : List AvroField) → name ≡ (out-Record r).name → namespace ≡ (out-Record r).namespace → doc ≡ (out-Record r).doc
    → given ≡ (out-Record r).fields → fields ≡ named_all k given → roll-Record (record { name = name; namespace = namespace; doc = doc; fields = fields }) ≡ named_record k r
record_is k r name namespace doc given fields n s d g f =
    let same = f ∙ ap (named_all k) g in
    (λ i. roll-Record (record { name = n i; namespace = s i; doc = d i; fields = same i })) ∙ sym (record_named k r)

pub record_count : (k n : ℕ) (r : TheRecord) (given : List AvroField) → given ≡ (out-Record r).fields → n ≡ k + nameless_in_all given → n ≡ k + nameless_in_record r
record_count k n r given g c = c ∙ ap (λ m. k + m) (ap nameless_in_all g ∙ sym (record_nameless r))

-- ---- one after another

module _ {X : Type 0} where
  drop_next : (xs : List X) (i : ℕ) (x : X) → i < length xs → x ≡ get_or xs i x → drop i xs ≡ x ∷ drop (suc i) xs
  drop_next [] i x l e = absurd (omega (arith, l))
  drop_next (y ∷ xs) zero x l e = ap (λ (z : X). z ∷ xs) (sym e)
  drop_next (y ∷ xs) (suc i) x l e = drop_next xs i x (omega (arith, l)) e

  drop_at : (xs : List X) (i : ℕ) (x : X) → i < length xs → x ≡ get_or xs i x → drop i xs ≡ x ∷ drop (i + 1) xs
  drop_at xs i x l e = drop_next xs i x l e ∙ ap (λ n. x ∷ drop n xs) (sym (add-one i))

  none_left : (xs : List X) (i : ℕ) → length xs ≤ i → drop i xs ≡ []
  none_left [] zero l = refl
  none_left [] (suc i) l = refl
  none_left (x ∷ xs) zero l = absurd (omega (arith, l))
  none_left (x ∷ xs) (suc i) l = none_left xs i (omega (arith, l))

  -- a walk over a list that counts: `step` makes one of the results, `count` counts its names
  module _ (count : X → ℕ) (counts : List X → ℕ) (all : ℕ → List X → List X) (step : ℕ → X → X)
      (counts_none : counts [] ≡ 0) (counts_more : (x : X) (xs : List X) → counts (x ∷ xs) ≡ count x + counts xs)
      (all_none : (k : ℕ) → all k [] ≡ []) (all_more : (k : ℕ) (x : X) (xs : List X) → all k (x ∷ xs) ≡ step k x ∷ all (k + count x) xs) where
    pub one_more : (k next : ℕ) (done : List X) (xs : List X) (i : ℕ) (x y : X) (whole : List X) → i < length xs → x ≡ get_or xs i x → done ++ all k (drop i xs) ≡ whole → y ≡ step k x → next ≡ k + count x
        → (done ++ y ∷ []) ++ all next (drop (i + 1) xs) ≡ whole
    one_more k next done xs i x y whole l is e h n =
        (λ j. (done ++ h j ∷ []) ++ all (n j) (drop (i + 1) xs)) ∙ append_assoc done (step k x ∷ []) (all (k + count x) (drop (i + 1) xs))
        ∙ ap (λ (z : List X). done ++ z) (sym (ap (all k) (drop_at xs i x l is) ∙ all_more k x (drop (i + 1) xs))) ∙ e

    pub counted_more : (xs : List X) (i k next whole : ℕ) (x : X) → i < length xs → x ≡ get_or xs i x → k + counts (drop i xs) ≡ whole → next ≡ k + count x → next + counts (drop (i + 1) xs) ≡ whole
    counted_more xs i k next whole x l is e n =
        let d : counts (drop i xs) ≡ count x + counts (drop (i + 1) xs) = ap counts (drop_at xs i x l is) ∙ counts_more x (drop (i + 1) xs) in
        omega (arith, e, n, d)

    pub all_done : (k : ℕ) (done : List X) (xs : List X) (i : ℕ) (whole : List X) → length xs ≤ i → done ++ all k (drop i xs) ≡ whole → done ≡ whole
    all_done k done xs i whole l e = sym (append-nil done) ∙ ap (λ (z : List X). done ++ z) (sym (ap (all k) (none_left xs i l) ∙ all_none k)) ∙ e

    pub all_counted : (xs : List X) (i k whole : ℕ) → length xs ≤ i → k + counts (drop i xs) ≡ whole → k ≡ whole
    all_counted xs i k whole l e = let d : counts (drop i xs) ≡ 0 = ap counts (none_left xs i l) ∙ counts_none in omega (arith, e, d)
