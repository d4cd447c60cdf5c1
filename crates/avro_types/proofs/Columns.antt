-- The fields of columns, one after another.
use Rattle.std.proofs.Common.{◌≡◌, ◌∙◌, ℕ, zero, suc, ◌+◌, ◌<◌, ◌≤◌, Bool, true, false, List, [], ◌∷◌, ◌++◌, length, get_or, drop, Option, Some, None, Result, Ok, Err, refl, sym, ap, subst, arith, add-one, append_assoc}
use Rattle.std.proofs.lemmas.List.{append-nil}
use Rattle.std.proofs.lemmas.Option.{none-some}
use Rattle.std.proofs.lemmas.Result.{IfErr-weaker}
use Rattle.std.specs.Prelude.{OnOk, IfErr}
use Rattle.arrow_core.specs.Errors.{OnlyOutOfMemory}
use Rattle.arrow_core.specs.declared.error.Error.{Error}
use Rattle.arrow_core.specs.declared.error.Error.TheVariants.{NotYetImplemented, OutOfMemory}
use Rattle.arrow_core.specs.declared.error.Reason.TheVariants as reason
use Rattle.arrow_core.specs.declared.types.Field.{Field}
use Rattle.avro_schema.specs.declared.schema.AvroField.{AvroField}
use Rattle.avro_schema.specs.declared.schema.Schema.{Schema, Array, Record}
use Rattle.avro_schema.specs.AndThen.{◌>>=◌}
use Rattle.avro_types.specs.Listed.{array_schema, struct_schema, structs_in_all}
use Rattle.avro_types.specs.Schemas.{NoAvroTypeWhere, column_schema, columns_fields, optional, plain_field, plain_record, record_name, schema_of, structs_in}

-- the fields of the columns that are left, after those that are done
abbrev pub continued : Bool → ℕ → List AvroField → List Field → Option (List AvroField)
continued b k done left = (columns_fields b k left >>= λ more. Some (done ++ more))

drop_next : (xs : List Field) (i : ℕ) (f : Field) → i < length xs → f ≡ get_or xs i f → drop i xs ≡ f ∷ drop (suc i) xs
drop_next [] i f l e = absurd (omega (arith, l))
drop_next (x ∷ xs) zero f l e = ap (λ (z : Field). z ∷ xs) (sym e)
drop_next (x ∷ xs) (suc i) f l e = drop_next xs i f (omega (arith, l)) e

drop_at : (xs : List Field) (i : ℕ) (f : Field) → i < length xs → f ≡ get_or xs i f → drop i xs ≡ f ∷ drop (i + 1) xs
drop_at xs i f l e = drop_next xs i f l e ∙ ap (λ n. f ∷ drop n xs) (sym (add-one i))

continued_some : (b : Bool) (k : ℕ) (done : List AvroField) (f : Field) (rest : List Field) (s : Schema) → column_schema b k f ≡ Some s
    → continued b k done (f ∷ rest) ≡ continued b (k + structs_in f.data_type) (done ++ plain_field f.name s ∷ []) rest
continued_some b k done f rest s e =
    ap (λ (o : Option Schema). ((o >>= λ z. columns_fields b (k + structs_in f.data_type) rest >>= λ fs. Some (plain_field f.name z ∷ fs)) >>= λ more. Some (done ++ more))) e
    ∙ from (columns_fields b (k + structs_in f.data_type) rest)
  where
    from : (o : Option (List AvroField)) → ((o >>= λ fs. Some (plain_field f.name s ∷ fs)) >>= λ more. Some (done ++ more)) ≡ (o >>= λ more. Some ((done ++ plain_field f.name s ∷ []) ++ more))
    from None = refl
    from (Some fs) = ap (λ (z : List AvroField). Some z) (sym (append_assoc done (plain_field f.name s ∷ []) fs))

continued_none : (b : Bool) (k : ℕ) (done : List AvroField) (f : Field) (rest : List Field) → column_schema b k f ≡ None → continued b k done (f ∷ rest) ≡ None
continued_none b k done f rest e =
    ap (λ (o : Option Schema). ((o >>= λ z. columns_fields b (k + structs_in f.data_type) rest >>= λ fs. Some (plain_field f.name z ∷ fs)) >>= λ more. Some (done ++ more))) e

-- one column more is done
pub one_more : (b : Bool) (k next : ℕ) (done : List AvroField) (xs : List Field) (i : ℕ) (f : Field) (s : Schema) (a : AvroField) (all : Option (List AvroField)) → i < length xs → f ≡ get_or xs i f
    → continued b k done (drop i xs) ≡ all → column_schema b k f ≡ Some s → next ≡ k + structs_in f.data_type → a ≡ plain_field f.name s
    → continued b next (done ++ a ∷ []) (drop (i + 1) xs) ≡ all
one_more b k next done xs i f s a all l is e h n g =
    (λ j. continued b (n j) (done ++ g j ∷ []) (drop (i + 1) xs)) ∙ sym (continued_some b k done f (drop (i + 1) xs) s h) ∙ ap (continued b k done) (sym (drop_at xs i f l is)) ∙ e

pub more_structs : (xs : List Field) (i k next all : ℕ) (f : Field) → i < length xs → f ≡ get_or xs i f → k + structs_in_all (drop i xs) ≡ all → next ≡ k + structs_in f.data_type
    → next + structs_in_all (drop (i + 1) xs) ≡ all
more_structs xs i k next all f l is e n =
    let d : structs_in_all (drop i xs) ≡ structs_in f.data_type + structs_in_all (drop (i + 1) xs) = ap structs_in_all (drop_at xs i f l is) in
    omega (arith, e, n, d)

none_left : (xs : List Field) (i : ℕ) → length xs ≤ i → drop i xs ≡ []
none_left [] zero l = refl
none_left [] (suc i) l = refl
none_left (x ∷ xs) zero l = absurd (omega (arith, l))
none_left (x ∷ xs) (suc i) l = none_left xs i (omega (arith, l))

-- all are done
pub all_done : (b : Bool) (k : ℕ) (done : List AvroField) (xs : List Field) (i : ℕ) (all : Option (List AvroField)) → length xs ≤ i → continued b k done (drop i xs) ≡ all → all ≡ Some done
all_done b k done xs i all l e = sym e ∙ ap (continued b k done) (none_left xs i l) ∙ ap (λ (z : List AvroField). Some z) (append-nil done)

pub all_structs : (xs : List Field) (i k all : ℕ) → length xs ≤ i → k + structs_in_all (drop i xs) ≡ all → k ≡ all
all_structs xs i k all l e = let d : structs_in_all (drop i xs) ≡ 0 = ap structs_in_all (none_left xs i l) in omega (arith, e, d)

-- a column without a schema leaves all without
pub missing : (b : Bool) (k : ℕ) (done : List AvroField) (xs : List Field) (i : ℕ) (f : Field) (all : Option (List AvroField)) → i < length xs → f ≡ get_or xs i f
    → continued b k done (drop i xs) ≡ (all >>= λ more. Some ([] ++ more)) → column_schema b k f ≡ None → all ≡ None
missing b k done xs i f None l is e h = refl
missing b k done xs i f (Some fs) l is e h =
    absurd (none-some ([] ++ fs) (sym (ap (continued b k done) (drop_at xs i f l is) ∙ continued_none b k done f (drop (i + 1) xs) h) ∙ e))

pub start : (o : Option (List AvroField)) → (o >>= λ more. Some ([] ++ more)) ≡ o
start None = refl
start (Some fs) = refl

-- ---- refusals

pub refused : (P Q : Type 0) (e : Error) → (P → Q) → NoAvroTypeWhere P e → NoAvroTypeWhere Q e
refused P Q (NotYetImplemented reason.NoAvroType) f h = f h
refused P Q OutOfMemory f h = tt
refused P Q _ f h = absurd h

pub bind_none : {A B : Type 0} (o : Option A) (f : A → Option B) → o ≡ None → (o >>= f) ≡ None
bind_none o f e = rw e refl

pub bind_some : {A B : Type 0} (o : Option A) (f : A → Option B) (x : A) → o ≡ Some x → (o >>= f) ≡ f x
bind_some o f x e = rw e refl

pub on_ok : {A : Type 0} {P : Type 0} (r : Result A Error) → P → OnOk r P
on_ok (Ok x) p = p
on_ok (Err e) p = tt

-- a call that fails only where memory ends
pub memory_refused : {A : Type 0} (r : Result A Error) (P : Type 0) → OnlyOutOfMemory r → IfErr r (NoAvroTypeWhere P)
memory_refused r P h = IfErr-weaker r _ _ (λ e is. subst (NoAvroTypeWhere P) (sym is) tt) h

-- ---- a column, a list and a struct

pub required : (b : Bool) (s : Schema) → optional b false s ≡ s
required true s = refl
required false s = refl

pub column_missing : (b : Bool) (k : ℕ) (f : Field) → schema_of b k f.data_type ≡ None → column_schema b k f ≡ None
column_missing b k f e = ap (λ (o : Option Schema). (o >>= λ y. Some (optional b f.is_nullable y))) e

pub array_missing : (b : Bool) (k : ℕ) (f : Field) → column_schema b k f ≡ None → array_schema b k f ≡ None
array_missing b k f e = ap (λ (o : Option Schema). (o >>= λ y. Some (Array y))) e

pub struct_missing : (b : Bool) (k : ℕ) (fs : List Field) → columns_fields b (k + 1) fs ≡ None → struct_schema b k fs ≡ None
struct_missing b k fs e = ap (λ (o : Option (List AvroField)). (o >>= λ more. Some (Record (plain_record (record_name (k + 1)) more)))) e

pub struct_told : (b : Bool) (k n : ℕ) (fs : List Field) (done : List AvroField) (name : List ℕ) → n ≡ k + 1 → columns_fields b n fs ≡ Some done → name ≡ record_name (k + 1) → struct_schema b k fs ≡ Some (Record (plain_record name done))
struct_told b k n fs done name c e is =
    ap (λ (o : Option (List AvroField)). (o >>= λ more. Some (Record (plain_record (record_name (k + 1)) more)))) (ap (λ j. columns_fields b j fs) (sym c) ∙ e)
    ∙ ap (λ (z : List ℕ). Some (Record (plain_record z done))) (sym is)
