-- The columns of fields, one after another.
use Rattle.std.proofs.Common.{◌≡◌, ◌∙◌, ℕ, zero, suc, ◌+◌, ◌<◌, ◌≤◌, Bool, List, [], ◌∷◌, ◌++◌, length, get_or, take, Option, Some, None, refl, sym, ap, subst, arith}
use Rattle.std.proofs.lemmas.Option.{none-some, same_Some}
use Rattle.std.proofs.lemmas.List.{take_more, take_all}
use Rattle.arrow_core.specs.declared.error.Error.{Error}
use Rattle.arrow_core.specs.declared.error.Error.TheVariants.{NotYetImplemented, OutOfMemory}
use Rattle.arrow_core.specs.declared.error.Reason.TheVariants as reason
use Rattle.arrow_core.specs.declared.types.Field.{Field}
use Rattle.arrow_core.specs.declared.types.DataType.{DataType, List as ListType, Struct}
use Rattle.avro_schema.specs.declared.schema.AvroField.{AvroField}
use Rattle.avro_schema.specs.declared.schema.Record.{Record as TheRecord, out-Record}
use Rattle.avro_schema.specs.declared.schema.Schema.{Schema, Array, Union, Record}
use Rattle.avro_schema.specs.AndThen.{◌>>=◌}
use Rattle.avro_schema.specs.Types.{is_union}
use Rattle.avro_schema.specs.TypeLaws.{inferred_member_of}
use Rattle.avro_schema.specs.Inferred.{item_name, column_field, inferred, columns_of, own_doc, HasMapOrUnion}
use Rattle.avro_schema.proofs.InferredLemmas.{inferred_composites, not_inferred}
use Rattle.avro_types.specs.Inference.{SchemaRefused, doc_entries}

-- a column is what its parts say
pub column_is : (name : List ℕ) (doc : Option (List ℕ)) (s : Schema) (t : DataType) (b : Bool) → b ≡ is_union s → (record { name = name; data_type = t; is_nullable = b; metadata = doc_entries doc }) ≡ column_field name doc s t
column_is name None s t b e = rw e refl
column_is name (Some doc) s t b e = rw e refl

module _ (doc : AvroField → Option (List ℕ)) where
  columns_push : (xs : List AvroField) (fs : List Field) (a : AvroField) (f : Field) (t : DataType) → columns_of doc xs ≡ Some fs → inferred a.schema ≡ Some t → f ≡ column_field a.name (doc a) a.schema t → columns_of doc (xs ++ a ∷ []) ≡ Some (fs ++ f ∷ [])
  columns_push [] fs a f t h e is = rw (e, sym (same_Some [] fs h), is) refl
  columns_push (b ∷ xs) fs a f t h e is = from (inferred b.schema) refl h (λ gs q. columns_push xs gs a f t q e is)
    where
      inner : (u : DataType) (o : Option (List Field)) → columns_of doc xs ≡ o → (o >>= λ gs. Some (column_field b.name (doc b) b.schema u ∷ gs)) ≡ Some fs → ((gs : List Field) → columns_of doc xs ≡ Some gs → columns_of doc (xs ++ a ∷ []) ≡ Some (gs ++ f ∷ [])) → (columns_of doc (xs ++ a ∷ []) >>= λ gs. Some (column_field b.name (doc b) b.schema u ∷ gs)) ≡ Some (fs ++ f ∷ [])
      inner u None q k more = absurd (none-some fs k)
      inner u (Some gs) q k more = rw (more gs q, sym (same_Some _ fs k)) refl

      from : (o : Option DataType) → inferred b.schema ≡ o → (o >>= λ u. columns_of doc xs >>= λ gs. Some (column_field b.name (doc b) b.schema u ∷ gs)) ≡ Some fs → ((gs : List Field) → columns_of doc xs ≡ Some gs → columns_of doc (xs ++ a ∷ []) ≡ Some (gs ++ f ∷ [])) → (inferred b.schema >>= λ u. columns_of doc (xs ++ a ∷ []) >>= λ gs. Some (column_field b.name (doc b) b.schema u ∷ gs)) ≡ Some (fs ++ f ∷ [])
      from None q k more = absurd (none-some fs k)
      from (Some u) q k more = rw q (inner u (columns_of doc xs) refl k more)

  -- a field without a column leaves all without
  columns_missing : (xs : List AvroField) (i : ℕ) (d : AvroField) → i < length xs → inferred (get_or xs i d).schema ≡ None → columns_of doc xs ≡ None
  columns_missing [] i d lt e = absurd (omega (arith, lt))
  columns_missing (a ∷ xs) zero d lt e = rw e refl
  columns_missing (a ∷ xs) (suc i) d lt e = from (inferred a.schema) (columns_missing xs i d (omega (arith, lt)) e)
    where
      from : (o : Option DataType) → columns_of doc xs ≡ None → (o >>= λ u. columns_of doc xs >>= λ gs. Some (column_field a.name (doc a) a.schema u ∷ gs)) ≡ None
      from None n = refl
      from (Some u) n = rw n refl

module _ (doc : AvroField → Option (List ℕ)) where
  pub columns_next : (xs : List AvroField) (i : ℕ) (fs : List Field) (a : AvroField) (f : Field) (t : DataType) → i < length xs → a ≡ get_or xs i a → columns_of doc (take i xs) ≡ Some fs → inferred a.schema ≡ Some t → f ≡ column_field a.name (doc a) a.schema t → columns_of doc (take (i + 1) xs) ≡ Some (fs ++ f ∷ [])
  columns_next xs i fs a f t lt at so e is =
      let cut : take (i + 1) xs ≡ take i xs ++ a ∷ [] = take_more xs i a lt ∙ ap (λ (x : AvroField). take i xs ++ x ∷ []) (sym at) in
      rw cut (columns_push doc (take i xs) fs a f t so e is)

  pub columns_not : (xs : List AvroField) (i : ℕ) (a : AvroField) → i < length xs → a ≡ get_or xs i a → inferred a.schema ≡ None → columns_of doc xs ≡ None
  columns_not xs i a lt at e = columns_missing doc xs i a lt (subst (λ (x : AvroField). inferred x.schema ≡ None) at e)

-- ---- refusals

pub refused_map : (P Q : Type 0) (e : Error) → (P → Q) → SchemaRefused P e → SchemaRefused Q e
refused_map P Q (NotYetImplemented reason.MapOrUnion) f h = f h
refused_map P Q OutOfMemory f h = tt
refused_map P Q _ f h = absurd h

-- ---- arrays, unions and records

pub union_is : (members : List Schema) → inferred (Union members) ≡ inferred_member_of members
union_is = inferred_composites.union

pub record_none : (r : TheRecord) → columns_of (λ a. a.doc) (out-Record r).fields ≡ None → inferred (Record r) ≡ None
record_none r h = inferred_composites.fields r ∙ (rw h refl)

pub record_some : (r : TheRecord) (fs : List Field) → columns_of (λ a. a.doc) (out-Record r).fields ≡ Some fs → inferred (Record r) ≡ Some (Struct fs)
record_some r fs h = inferred_composites.fields r ∙ (rw h refl)

pub array_none : (item : Schema) → inferred item ≡ None → inferred (Array item) ≡ None
array_none item h = inferred_composites.array item ∙ (rw h refl)

pub array_some : (item : Schema) (t : DataType) (b : Bool) (f : Field) → inferred item ≡ Some t → b ≡ is_union item → f ≡ (record { name = item_name; data_type = t; is_nullable = b; metadata = [] }) → inferred (Array item) ≡ Some (ListType f)
array_some item t b f h n e = inferred_composites.array item ∙ (rw (h, e, n) refl)

-- ---- a file's record: whether a field has a column does not turn on its doc

some_columns : (p q : AvroField → Option (List ℕ)) (xs : List AvroField) (fs : List Field) → columns_of p xs ≡ Some fs → columns_of q xs ≡ None → ⊥
some_columns p q [] fs h k = none-some [] (sym k)
some_columns p q (a ∷ xs) fs h k = from (inferred a.schema) h k (some_columns p q xs)
  where
    inner : (t : DataType) (m n : Option (List Field)) → columns_of p xs ≡ m → columns_of q xs ≡ n → (m >>= λ gs. Some (column_field a.name (p a) a.schema t ∷ gs)) ≡ Some fs → (n >>= λ gs. Some (column_field a.name (q a) a.schema t ∷ gs)) ≡ None → ((gs : List Field) → columns_of p xs ≡ Some gs → columns_of q xs ≡ None → ⊥) → ⊥
    inner t None n u v h k never = none-some fs h
    inner t (Some gs) None u v h k never = never gs u v
    inner t (Some gs) (Some ks) u v h k never = none-some _ (sym k)

    from : (o : Option DataType) → (o >>= λ t. columns_of p xs >>= λ gs. Some (column_field a.name (p a) a.schema t ∷ gs)) ≡ Some fs → (o >>= λ t. columns_of q xs >>= λ gs. Some (column_field a.name (q a) a.schema t ∷ gs)) ≡ None → ((gs : List Field) → columns_of p xs ≡ Some gs → columns_of q xs ≡ None → ⊥) → ⊥
    from None h k never = none-some fs h
    from (Some t) h k never = inner t (columns_of p xs) (columns_of q xs) refl refl h k never

none_in_root : (r : TheRecord) (fs : List Field) → columns_of own_doc (out-Record r).fields ≡ Some fs → HasMapOrUnion (Record r) → ⊥
none_in_root r fs h m = from (columns_of (λ a. a.doc) (out-Record r).fields) refl
  where
    from : (o : Option (List Field)) → columns_of (λ a. a.doc) (out-Record r).fields ≡ o → ⊥
    from None e = some_columns own_doc (λ a. a.doc) (out-Record r).fields fs h e
    from (Some gs) e = none-some (Struct gs) (sym ((not_inferred (Record r)).1 m) ∙ record_some r gs e)

pub some_in_root : (r : TheRecord) (xs : List AvroField) → xs ≡ (out-Record r).fields → columns_of (λ a. a.doc) xs ≡ None → HasMapOrUnion (Record r)
some_in_root r xs e h = (not_inferred (Record r)).0 (record_none r (sym (ap (columns_of (λ a. a.doc)) e) ∙ h))

pub none_in_fields : (r : TheRecord) (xs : List AvroField) (i : ℕ) (fs : List Field) → length xs ≤ i → xs ≡ (out-Record r).fields → columns_of own_doc (take i xs) ≡ Some fs → HasMapOrUnion (Record r) → ⊥
none_in_fields r xs i fs le e h = none_in_root r fs (sym (ap (columns_of own_doc) (take_all i xs le ∙ e)) ∙ h)
