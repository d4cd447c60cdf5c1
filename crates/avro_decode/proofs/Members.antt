-- Unions, nulls and flat values, and a builder of records, as the cycle wants them.
use Rattle.std.proofs.Common.{◌≡◌, ◌∙◌, ℕ, ℤ, pos, negsuc, zero, suc, ◌+◌, ◌<◌, Bool, true, false, ◌⊎◌, List, [], ◌∷◌, ◌++◌, length, map, Option, Some, None, Result, Ok, Err, refl, sym, ap, subst, arith, inl, inr}
use Rattle.std.specs.Prelude.{OnOk, OnErr, IfErr, nat_abs, option_and_then, if◌then◌else◌}
use Rattle.std.proofs.lemmas.Bool.{le-ltb}
use Rattle.std.proofs.lemmas.List.{length-append}
use Rattle.arrow_core.specs.declared.slot.Slot.{Slot}
use Rattle.arrow_core.specs.declared.slot.Slot.TheVariants as slot
use Rattle.arrow_core.specs.declared.error.Error.{Error}
use Rattle.arrow_array.specs.Structs.{record_at}
use Rattle.arrow_builders.specs.MutableArrays.{builder_slots, nodes}
use Rattle.arrow_builders.specs.Nodes.{Node}
use Rattle.arrow_builders.specs.Shapes.{Shape, shape}
use Rattle.arrow_builders.specs.declared.array.MutableArray.{MutableArray, Struct, Struct', List', LargeList', Boolean, Int32, Int64, Int128, MonthDayNano, Utf8, LargeUtf8, Binary, LargeBinary, FixedSizeBinary, Dictionary}
use Rattle.arrow_builders.specs.declared.structs.DynMutableStructArray.{DynMutableStructArray}
use Rattle.arrow_builders.proofs.Rows.{tight-record}
use Rattle.avro_schema.specs.declared.schema.Schema.{Schema, Array, Record, Union, Array', Union', Fixed, Enum}
use Rattle.avro_schema.specs.declared.schema.Schema as schema
use Rattle.avro_schema.specs.declared.schema.Schema.{Null as NullSchema}
use Rattle.avro_schema.specs.declared.schema.AvroField.{AvroField}
use denote.Param.Weighed.{most}
use Rattle.avro_schema.proofs.schema.Schema.TheLaws.{the_size}
use Rattle.std.proofs.Common.{rules}
use Rattle.avro_schema.specs.declared.schema.Schema.TheViews.{the_lemmas}
use Rattle.avro_schema.specs.declared.schema.Schema.TheBlock.{shape-the_row-Schema-0, hidden-the_row-Schema-0}
use Rattle.avro_schema.specs.declared.schema.Record.{Record as TheRecord, out-Record}
use Rattle.arrow_core.specs.declared.physical.PhysicalType.TheVariants as physical
use Rattle.arrow_builders.specs.MutableArrays.{builder_kind}
use Rattle.avro_reference.proofs.ByLists.{read_union, read_fields_are}
use Rattle.avro_schema.specs.Encodes.{IsNull}
use Rattle.avro_reference.specs.Prefix.{Reader, number_at, is_index}
use Rattle.avro_schema.specs.Encodes.{is_null}
use Rattle.avro_reference.specs.Read.{push_one, read}
use Rattle.avro_reference.specs.Listed.{read_union_of, read_member_of, read_record_of, read_fields_of}
use Rattle.avro_schema.proofs.Basics.{null_told}
use Rattle.avro_decode.specs.Decoding.{grown}
use Rattle.avro_reference.specs.Costs.{passed}
use Rattle.avro_flat.specs.Decoding.{Gives}
use Rattle.avro_decode.specs.Decoding.{null_or, pair_at}
use Rattle.avro_flat.specs.declared.fault.DecodeFault.{DecodeFault}
use Rattle.avro_flat.specs.declared.fault.DecodeFault.TheVariants.{Memory}
use Rattle.avro_decode.specs.Masks.{mask, bounded}
use Rattle.avro_decode.specs.Growth.{mask_pair, masks, Fills, AllFill, Grows, AllOffsetsReach, HaveSpare}
use Rattle.avro_decode.specs.Suits.{Suits, AllSuit, IsFixedDecimal}
use Rattle.arrow_core.specs.declared.physical.PrimitiveType.TheVariants as primitive
use Rattle.avro_schema.specs.declared.schema.FixedLogical.{FixedLogical}
use Rattle.avro_schema.specs.declared.schema.FixedLogical.TheVariants as fixed_logical
use Rattle.avro_decode.specs.Growth.{SuitsPair, HasKindOf, HasFlatKind, fixed_kind}
use Rattle.arrow_builders.specs.Tight.{IsTight, AllTight}
use Rattle.avro_decode.proofs.Fields.{record_reads}
use Rattle.arrow_builders.proofs.Heads.{first_node}
use Rattle.avro_decode.proofs.Reading.{push_parts}
use Rattle.avro_decode.proofs.Suited.{suits_not_null, suits_record, suits_union, mask_union, mask_fields_are}

-- ---- nulls

pub null_gives : {X : Type 0} (r : Result X DecodeFault) (a : Result (Unit {0}) Error) (null : Bool) (s : Schema) (old new : List Slot) (bytes : List ℕ) → null ≡ true → OnOk r (OnErr a ⊥) → IfErr r (λ e. e ≡ Memory) → OnOk a (new ≡ old ++ slot.Null ∷ []) → Gives (λ (_ : X). (new, bytes)) r (push_one old (null_or null s bytes))
unfolding push_one
null_gives (Ok x) (Ok y) null s old new bytes e ok err h = rw (e, h) refl
null_gives (Ok x) (Err y) null s old new bytes e ok err h = absurd ok
null_gives (Err d) a null s old new bytes e ok err h = rw err tt

pub null_tight : {X : Type 0} (r : Result X DecodeFault) (a : Result (Unit {0}) Error) (P Q : Type 0) → OnOk r (OnErr a ⊥) → OnOk a (P → Q) → P → OnOk r Q
null_tight (Ok x) (Ok y) P Q ok h p = h p
null_tight (Ok x) (Err y) P Q ok h p = absurd ok
null_tight (Err d) a P Q ok h p = tt

-- ---- unions

other_index : (v : ℤ) → (v ≡ pos 0 → ⊥) → (v ≡ pos 1 → ⊥) → is_index v 2 ≡ false
other_index (pos zero) a b = absurd (a refl)
other_index (pos (suc zero)) a b = absurd (b refl)
other_index (pos (suc (suc n))) a b = le-ltb (suc (suc n)) 2 (omega arith)
other_index (negsuc n) a b = refl

pub no_index : (old : List Slot) (members : List Schema) (bytes : List ℕ) → number_at bytes ≡ None → push_one old (read_union_of members bytes) ≡ None
unfolding push_one
no_index old members bytes e = rw e refl

-- a union of null and another, by the index of its member
module _ (a b : Schema) (v : ℤ) (mid : List ℕ) where
  abbrev chosen : Option (Slot × List ℕ)
  chosen = if is_index v 2 then read_member_of (a ∷ b ∷ []) (nat_abs v) mid else None

pair_first : (a b : Schema) (v : ℤ) (mid : List ℕ) → is_null a ≡ true → is_null b ≡ false → chosen a b v mid ≡ pair_at v true b mid
pair_first a b (pos zero) mid e d = rw e refl
pair_first a b (pos (suc zero)) mid e d = rw d refl
pair_first a b (pos (suc (suc n))) mid e d = let w : is_index (pos (suc (suc n))) 2 ≡ false = le-ltb (suc (suc n)) 2 (omega arith) in rw w refl
pair_first a b (negsuc n) mid e d = refl

pair_second : (a b : Schema) (v : ℤ) (mid : List ℕ) → is_null a ≡ false → is_null b ≡ true → chosen a b v mid ≡ pair_at v false a mid
pair_second a b (pos zero) mid e d = rw e refl
pair_second a b (pos (suc zero)) mid e d = rw d refl
pair_second a b (pos (suc (suc n))) mid e d = let w : is_index (pos (suc (suc n))) 2 ≡ false = le-ltb (suc (suc n)) 2 (omega arith) in rw w refl
pair_second a b (negsuc n) mid e d = refl

null_is : (s : Schema) → is_null s ≡ true → IsNull s
null_is NullSchema e = tt
null_is _ e = absurd cc

abbrev two : List Schema → Schema → Schema → Type 0
two ms a b = ms ≡ a ∷ b ∷ []

-- what a union of two asks of its builder, where the first is null
pub suits_first : (ms : List Schema) (a b : Schema) (sh : Shape) → ms ≡ a ∷ b ∷ [] → IsNull a → SuitsPair ms sh → Suits b sh × (mask_pair ms ≡ mask true b) × (is_null a ≡ true) × (is_null b ≡ false)
suits_first ms a b sh e n h = from (subst (λ (xs : List Schema). SuitsPair xs sh) e h)
  where
    m : mask_pair ms ≡ mask true b
    m = ap mask_pair e ∙ (rw (null_told a n) refl)

    from : SuitsPair (a ∷ b ∷ []) sh → Suits b sh × (mask_pair ms ≡ mask true b) × (is_null a ≡ true) × (is_null b ≡ false)
    from (inl k) = (k.1, m, null_told a n, suits_not_null b sh k.1)
    from (inr k) = let f : false ≡ true = sym (suits_not_null a sh k.0) ∙ null_told a n in absurd cc

pub suits_second : (ms : List Schema) (a b : Schema) (sh : Shape) → ms ≡ a ∷ b ∷ [] → (IsNull a → ⊥) → SuitsPair ms sh → Suits a sh × (mask_pair ms ≡ mask true a) × (is_null a ≡ false) × (is_null b ≡ true)
suits_second ms a b sh e n h = from (subst (λ (xs : List Schema). SuitsPair xs sh) e h)
  where
    from : SuitsPair (a ∷ b ∷ []) sh → Suits a sh × (mask_pair ms ≡ mask true a) × (is_null a ≡ false) × (is_null b ≡ true)
    from (inl k) = absurd (n k.0)
    from (inr k) = (k.0, ap mask_pair e ∙ (rw (suits_not_null a sh k.0) refl), suits_not_null a sh k.0, null_told b k.2)

gives_same : {X Y : Type 0} (f : X → Y) (r : Result X DecodeFault) (o p : Option Y) → o ≡ p → Gives f r o → Gives f r p
gives_same f r o p e h = subst (Gives f r) e h

pub first_gives : {X : Type 0} (f : X → List Slot × List ℕ) (r : Result X DecodeFault) (ms : List Schema) (a b : Schema) (old : List Slot) (bytes mid : List ℕ) (v : ℤ) → ms ≡ a ∷ b ∷ [] → number_at bytes ≡ Some (v, mid) → is_null a ≡ true → is_null b ≡ false → Gives f r (push_one old (pair_at v true b mid)) → Gives f r (push_one old (read_union_of ms bytes))
first_gives f r ms a b old bytes mid v e n x y h =
    gives_same f r (push_one old (pair_at v true b mid)) (push_one old (read_union_of ms bytes))
    (ap (push_one old) (sym (ap (λ (xs : List Schema). read_union_of xs bytes) e ∙ ap (λ (o : Option (ℤ × List ℕ)). option_and_then (λ q. chosen a b q.0 q.1) o) n ∙ pair_first a b v mid x y))) h

pub second_gives : {X : Type 0} (f : X → List Slot × List ℕ) (r : Result X DecodeFault) (ms : List Schema) (a b : Schema) (old : List Slot) (bytes mid : List ℕ) (v : ℤ) → ms ≡ a ∷ b ∷ [] → number_at bytes ≡ Some (v, mid) → is_null a ≡ false → is_null b ≡ true → Gives f r (push_one old (pair_at v false a mid)) → Gives f r (push_one old (read_union_of ms bytes))
second_gives f r ms a b old bytes mid v e n x y h =
    gives_same f r (push_one old (pair_at v false a mid)) (push_one old (read_union_of ms bytes))
    (ap (push_one old) (sym (ap (λ (xs : List Schema). read_union_of xs bytes) e ∙ ap (λ (o : Option (ℤ × List ℕ)). option_and_then (λ q. chosen a b q.0 q.1) o) n ∙ pair_second a b v mid x y))) h

-- ---- flat values have a byte at least

pub fills_one : (ms : List Bool) (x y : List ℕ) (b c : MutableArray) → AllFill ms (passed x y) (nodes b) (nodes c) → length (builder_slots c) ≡ length (builder_slots b) + 1 → length y < length x
fills_one ms x y b c h l =
    let f = first_node b in
    let g = first_node c in
    let k : AllFill ms (passed x y) (f.0 ∷ f.1) (g.0 ∷ g.1) = subst (λ (xs : List Node). AllFill ms (passed x y) xs (g.0 ∷ g.1)) f.2 (subst (AllFill ms (passed x y) (nodes b)) g.2 h) in
    from (bounded ms) f.0 g.0 k.0 f.3 g.3
  where
    from : (p : Bool) (m n : Node) → Fills p (passed x y) m n → m.slots ≡ length (builder_slots b) → n.slots ≡ length (builder_slots c) → length y < length x
    from true m n t d e = omega (arith, t.slots_added, d, e, l)
    from false m n t d e = omega (arith, t.1.slots_added, d, e, l)

pub shorter_by : (r : Result (Unit {0}) DecodeFault) (ms : List Bool) (x y : List ℕ) (b c : MutableArray) (o : Option (Slot × List ℕ)) → AllFill ms (passed x y) (nodes b) (nodes c) → Gives (λ _. (builder_slots c, y)) r (push_one (builder_slots b) o) → OnOk r (length y < length x)
shorter_by (Ok u) ms x y b c o h e =
    let p = push_parts (builder_slots b) (builder_slots c) o y e in
    fills_one ms x y b c h (omega (arith, ap length p.2, length-append (builder_slots b) (p.0 ∷ [])))
shorter_by (Err d) ms x y b c o h e = tt

-- ---- records

pub record_tight : (b : DynMutableStructArray) → IsTight (Struct b) → AllTight (length b.marks.booleans) b.values.items
record_tight b h = subst (λ (P : Type 0). P) (tight-record b) h

-- one record more
pub pushed_tight : {X : Type 0} (r : Result X DecodeFault) (a : Result (Unit {0}) Error) (b c d : DynMutableStructArray) → OnOk r (OnErr a ⊥) → c.marks ≡ b.marks → AllTight (length b.marks.booleans + 1) c.values.items → d.values ≡ c.values → OnOk a (d.marks.booleans ≡ c.marks.booleans ++ true ∷ []) → OnOk r (IsTight (Struct d))
pushed_tight (Ok u) (Err e) b c d ok m t v h = absurd ok
pushed_tight (Err e) a b c d ok m t v h = tt
pushed_tight (Ok u) (Ok w) b c d ok m t v h =
    let l : length d.marks.booleans ≡ length b.marks.booleans + 1 =
    omega (arith, ap length h, length-append c.marks.booleans (true ∷ []), ap (λ k. length k.booleans) m) in
    subst (λ (P : Type 0). P) (sym (tight-record d)) (subst (λ (n : ℕ). AllTight n d.values.items) (sym l) (subst (λ k. AllTight (length b.marks.booleans + 1) k.items) (sym v) t))

pub record_gives : {X : Type 0} (r : Result X DecodeFault) (a : Result (Unit {0}) Error) (b c : DynMutableStructArray) (fs : List AvroField) (new : List Slot) (bytes rest : List ℕ) → OnOk r (OnErr a ⊥) → IfErr r (λ e. e ≡ Memory) → c.marks ≡ b.marks → AllTight (length b.marks.booleans) b.values.items
    → (row : List Slot) × (read_fields_of fs [] bytes ≡ Some (row, rest)) × (map builder_slots c.values.items ≡ grown (map builder_slots b.values.items) row) × (length row ≡ length (map builder_slots b.values.items))
    → OnOk a (new ≡ builder_slots (Struct c) ++ record_at (map builder_slots c.values.items) (length c.marks.booleans) ∷ [])
    → Gives (λ (_ : X). (new, rest)) r (push_one (builder_slots (Struct b)) (read_record_of fs bytes))
record_gives (Ok x) (Ok y) b c fs new bytes rest ok err m t g n = record_reads b c fs new bytes rest m t g n
record_gives (Ok x) (Err y) b c fs new bytes rest ok err m t g n = absurd ok
record_gives (Err d) a b c fs new bytes rest ok err m t g n = rw err tt

-- ---- a value's arms

list_only : (item : Schema) (b : MutableArray) → Suits (Array item) (shape b) → (builder_kind b ≡ physical.List) ⊎ (builder_kind b ≡ physical.LargeList)
unfolding shape-the_row-Schema-0 hidden-the_row-Schema-0 denote.Hole.Carrier.hidden
list_only item (List' lists p child) h = inl refl
list_only item (LargeList' lists p child) h = inr refl
list_only item _ h = absurd h

pub no_list : (s : Schema) (item : Schema) (b : MutableArray) → s ≡ Array item → Suits s (shape b) → (builder_kind b ≡ physical.List → ⊥) → (builder_kind b ≡ physical.LargeList → ⊥) → ⊥
no_list s item b e h small large = from (list_only item b (subst (λ (x : Schema). Suits x (shape b)) e h))
  where
    from : (builder_kind b ≡ physical.List) ⊎ (builder_kind b ≡ physical.LargeList) → ⊥
    from (inl k) = small k
    from (inr k) = large k

-- the builder of an array's lists, and how it grows
pub list_grown : (s i : Schema) (b c : MutableArray) (n : ℕ) (ys : List Node) → s ≡ Array i → b ≡ c → Grows (mask false (Array i)) n (nodes c) ys → Grows (mask false s) n (nodes b) ys
list_grown s i b c n ys e d h =
    subst (λ (x : MutableArray). Grows (mask false s) n (nodes x) ys) (sym d) (subst (λ (y : Schema). Grows (mask false y) n (nodes c) ys) (sym e) h)

pub list_spare_below : (s i : Schema) (b c : MutableArray) (n : ℕ) → s ≡ Array i → b ≡ c → HaveSpare (mask false s) n (nodes b) → HaveSpare (mask false (Array i)) n (nodes c)
list_spare_below s i b c n e d h =
    subst (λ (x : MutableArray). HaveSpare (mask false (Array i)) n (nodes x)) d (subst (λ (y : Schema). HaveSpare (mask false y) n (nodes b)) e h)

pub record_kind : (s : Schema) (r : TheRecord) (b : MutableArray) → s ≡ Record r → Suits s (shape b) → builder_kind b ≡ physical.Struct
record_kind s r b e h = from b (subst (λ (x : Schema). Suits x (shape b)) e h)
  where
    from : (b : MutableArray) → Suits (Record r) (shape b) → builder_kind b ≡ physical.Struct
    from (Struct' marks p row) h = refl
    from _ h = absurd h

module _ (s : Schema) (ms xs : List Schema) (e : s ≡ Union ms) (x : xs ≡ ms) where
  pub union_suits : (sh : Shape) → Suits s sh → SuitsPair xs sh
  union_suits sh h = subst (λ (ys : List Schema). SuitsPair ys sh) (sym x) (subst (λ (P : Type 0). P) (suits_union ms sh) (subst (λ (y : Schema). Suits y sh) e h))

  union_mask : (nulls : Bool) → mask nulls s ≡ mask_pair xs
  union_mask nulls = ap (mask nulls) e ∙ mask_union nulls ms ∙ ap mask_pair (sym x)

  pub union_reach : (n : ℕ) (b : MutableArray) → AllOffsetsReach (mask true s) n b → AllOffsetsReach (mask_pair xs) n b
  union_reach n b h = subst (λ (zs : List Bool). AllOffsetsReach zs n b) (union_mask true) h

  pub union_grows : (n : ℕ) (ys zs : List Node) → Grows (mask_pair xs) n ys zs → Grows (mask false s) n ys zs
  union_grows n ys zs h = subst (λ (ws : List Bool). Grows ws n ys zs) (sym (union_mask false)) h

  pub union_spare : (n : ℕ) (ys : List Node) → HaveSpare (mask false s) n ys → HaveSpare (mask_pair xs) n ys
  union_spare n ys h = subst (λ (zs : List Bool). HaveSpare zs n ys) (union_mask false) h

  pub union_gives : {X : Type 0} (f : X → List Slot × List ℕ) (r : Result X DecodeFault) (old : List Slot) (bytes : List ℕ) → Gives f r (push_one old (read_union_of xs bytes)) → Gives f r (push_one old (read s bytes))
  union_gives f r old bytes h =
      subst (λ (g : Reader Slot). Gives f r (push_one old (g bytes))) (ap read_union_of x ∙ sym (read_union ms) ∙ ap read (sym e)) h

  pub union_size : most the_size xs < the_size s
  union_size = let a = ap (λ (ys : List Schema). most the_size ys) x in let b = ap the_size e in search (rules, the_lemmas)

module _ (s : Schema) (r : TheRecord) (fs : List AvroField) (b : MutableArray) (S T : DynMutableStructArray) (e : s ≡ Record r) (d : b ≡ Struct S) (t : T ≡ S) (x : fs ≡ (out-Record r).fields) where
  suits_here : Suits s (shape b) → Suits (Record r) (shape (Struct T))
  suits_here h = subst (λ (V : DynMutableStructArray). Suits (Record r) (shape (Struct V))) (sym t) (subst (λ (y : Schema). Suits y (shape (Struct S))) e (subst (λ (c : MutableArray). Suits s (shape c)) d h))

  same_builder : b ≡ Struct T
  same_builder = d ∙ ap Struct (sym t)

  record_mask : (nulls : Bool) → mask nulls s ≡ true ∷ masks nulls fs
  record_mask nulls = ap (mask nulls) e ∙ mask_fields_are nulls r ∙ ap (λ (gs : List AvroField). true ∷ masks nulls gs) (sym x)

  pub record_suits : Suits s (shape b) → (0 < length fs) × AllSuit fs T.values.items
  record_suits h = subst (λ (gs : List AvroField). (0 < length gs) × AllSuit gs T.values.items) (sym x) (suits_record r T (suits_here h))

  pub record_is_tight : IsTight b → IsTight (Struct T)
  record_is_tight h = subst IsTight same_builder h

  pub record_reaches : (n : ℕ) → AllOffsetsReach (mask true s) n b → AllOffsetsReach (true ∷ masks true fs) n (Struct T)
  record_reaches n h = subst (λ (c : MutableArray). AllOffsetsReach (true ∷ masks true fs) n c) same_builder (subst (λ (zs : List Bool). AllOffsetsReach zs n b) (record_mask true) h)

  pub record_grown : (n : ℕ) (ys : List Node) → Grows (true ∷ masks false fs) n (nodes (Struct T)) ys → Grows (mask false s) n (nodes b) ys
  record_grown n ys h = subst (λ (c : MutableArray). Grows (mask false s) n (nodes c) ys) (sym same_builder) (subst (λ (zs : List Bool). Grows zs n (nodes (Struct T)) ys) (sym (record_mask false)) h)

  pub record_spare_below : (n : ℕ) → HaveSpare (mask false s) n (nodes b) → HaveSpare (true ∷ masks false fs) n (nodes (Struct T))
  record_spare_below n h = subst (λ (c : MutableArray). HaveSpare (true ∷ masks false fs) n (nodes c)) same_builder (subst (λ (zs : List Bool). HaveSpare zs n (nodes b)) (record_mask false) h)

  pub record_given : {X : Type 0} (f : X → List Slot × List ℕ) (q : Result X DecodeFault) (bytes : List ℕ) → Gives f q (push_one (builder_slots (Struct T)) (read_record_of fs bytes)) → Gives f q (push_one (builder_slots b) (read s bytes))
  record_given f q bytes h =
      subst (λ (c : MutableArray). Gives f q (push_one (builder_slots c) (read s bytes))) (sym same_builder)
      (subst (λ (g : Reader Slot). Gives f q (push_one (builder_slots (Struct T)) (g bytes))) (ap read_record_of x ∙ sym (read_fields_are r) ∙ ap read (sym e)) h)

pub has_kind : (s : Schema) (b : MutableArray) → Suits s (shape b) → HasKindOf s (builder_kind b)
has_kind (Record r) (Struct' marks p row) h = refl
has_kind (Record r) _ h = absurd h
has_kind (Array' p item) (List' lists q child) h = inl refl
has_kind (Array' p item) (LargeList' lists q child) h = inr refl
has_kind (Array' p item) _ h = absurd h
has_kind _ b h = tt

fixed_decimal_kind : (logical : Option FixedLogical) → IsFixedDecimal logical → physical.Primitive primitive.Int128 ≡ fixed_kind logical
fixed_decimal_kind None h = absurd h
fixed_decimal_kind (Some (fixed_logical.Decimal precision scale)) h = refl
fixed_decimal_kind (Some fixed_logical.Duration) h = absurd h

pub has_flat_kind : (s : Schema) (b : MutableArray) → Suits s (shape b) → HasFlatKind s (builder_kind b)
has_flat_kind schema.Boolean (Boolean b) h = refl
has_flat_kind (schema.Int logical) (Int32 b) h = refl
has_flat_kind (schema.Long logical) (Int64 b) h = refl
has_flat_kind (schema.Bytes None) (Binary b) h = inl refl
has_flat_kind (schema.Bytes None) (LargeBinary b) h = inr refl
has_flat_kind (schema.Bytes (Some decimal)) (Int128 b) h = refl
has_flat_kind (schema.String logical) (Utf8 b) h = inl refl
has_flat_kind (schema.String logical) (LargeUtf8 b) h = inr refl
has_flat_kind (Fixed f) (FixedSizeBinary b) h = sym (ap fixed_kind h.0)
has_flat_kind (Fixed f) (Int128 b) h = fixed_decimal_kind f.logical h.0
has_flat_kind (Fixed f) (MonthDayNano b) h = sym (ap fixed_kind h.0)
has_flat_kind (Enum e) (Dictionary b) h = refl
has_flat_kind (Record r) b h = tt
has_flat_kind (Array' p item) b h = tt
has_flat_kind (Union' p members) b h = tt
has_flat_kind _ _ h = absurd h
