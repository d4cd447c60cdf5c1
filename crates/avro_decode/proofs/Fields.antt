-- The loop over a record's fields, each into its child.
use Rattle.std.proofs.Common.{◌≡◌, ◌∙◌, ℕ, zero, suc, ◌+◌, ◌<◌, ◌≤◌, Bool, true, false, ◌&&◌, List, [], ◌∷◌, ◌++◌, length, get_or, set, map, drop, Option, Some, None, refl, sym, ap, subst, add-one, arith}
use Rattle.std.specs.Prelude.{option_and_then}
use Rattle.std.proofs.lemmas.List.{length-append, length-map, map-set, get_or-map}
use Rattle.std.proofs.Math.Seq.{drop-cons}
use Rattle.arrow_core.specs.Numbers.{greatest_offset}
use Rattle.arrow_core.specs.declared.slot.Slot.{Slot}
use Rattle.arrow_core.specs.declared.slot.Slot.TheVariants as slot
use Rattle.arrow_array.specs.Structs.{record_at}
use Rattle.arrow_builders.specs.Builders.{slots_where}
use Rattle.arrow_builders.specs.Children.{all_nodes, fields_of}
use Rattle.arrow_builders.specs.MutableArrays.{builder_slots, nodes}
use Rattle.arrow_builders.specs.Nested.{marks_node}
use Rattle.arrow_builders.specs.Nodes.{Node, Takes, HasSpare}
use Rattle.arrow_builders.specs.Shapes.{Shape, shape}
use Rattle.arrow_builders.specs.declared.array.MutableArray.{MutableArray, Struct}
use Rattle.arrow_builders.specs.declared.structs.DynMutableStructArray.{DynMutableStructArray}
use Rattle.arrow_builders.proofs.Rows.{slots-record, nodes-record, shape-record}
use Rattle.avro_schema.specs.Number.{MovesForward}
use Rattle.avro_schema.specs.declared.schema.AvroField.{AvroField}
use Rattle.avro_reference.specs.Read.{push_one, read}
use Rattle.avro_reference.specs.Listed.{read_fields_of, read_record_of}
use Rattle.avro_decode.specs.Decoding.{grown}
use Rattle.avro_reference.specs.Costs.{passed}
use Rattle.avro_flat.specs.Decoding.{Fails}
use Rattle.avro_flat.specs.declared.fault.DecodeFault.{DecodeFault}
use Rattle.avro_flat.specs.declared.fault.DecodeFault.TheVariants.{Bytes, Memory}
use Rattle.avro_decode.specs.Masks.{mask, content, total}
use Rattle.avro_decode.specs.Growth.{masks, AllFill, Grows, all_large, AllReach, AllOffsetsReach, HaveSpare, BothFill, ChildrenGrow, ChildrenReach, ChildrenHaveSpare}
use Rattle.avro_decode.specs.Suits.{Suits, AllSuit}
use Rattle.arrow_builders.specs.Tight.{IsTight, AllTight}
use Rattle.avro_decode.specs.Growth.{PartTight}
use Rattle.avro_reference.proofs.Counting.{not_longer}
use Rattle.avro_decode.proofs.Nodes.{grows_none, all_fill_more, all_reach_after, reach_wider, both_below, spare_after, fill_append, content_append, reach_append, spare_append}
use Rattle.avro_flat.proofs.Pushes.{fills}
use Rattle.avro_decode.proofs.Reading.{push_parts, push_none_parts}
use Rattle.arrow_builders.proofs.Staying.{tight_long, records_stay, record_last}
use Rattle.avro_decode.proofs.Columns.{grown_none, grown_next}
use Rattle.avro_decode.proofs.Lists.{grown_is}
use Rattle.avro_decode.proofs.Suited.{mask_fewer, mask_length}

-- ---- children by index

pub suit_length : (fs : List AvroField) (bs : List MutableArray) → AllSuit fs bs → length fs ≡ length bs
suit_length [] [] h = refl
suit_length [] (b ∷ bs) h = absurd h
suit_length (f ∷ fs) [] h = absurd h
suit_length (f ∷ fs) (b ∷ bs) h = ap suc (suit_length fs bs h.1)

pub suit_at : (fs : List AvroField) (bs : List MutableArray) (i : ℕ) (d : AvroField) (e : MutableArray) → i < length fs → AllSuit fs bs → Suits (get_or fs i d).schema (shape (get_or bs i e))
suit_at [] bs i d e lt h = absurd (omega (arith, lt))
suit_at (f ∷ fs) [] i d e lt h = absurd h
suit_at (f ∷ fs) (b ∷ bs) zero d e lt h = h.0
suit_at (f ∷ fs) (b ∷ bs) (suc i) d e lt h = suit_at fs bs i d e (omega (arith, lt)) h.1

heads : {A : Type 0} (x y : A) (xs ys : List A) → x ∷ xs ≡ y ∷ ys → (x ≡ y) × (xs ≡ ys)
heads x y xs ys e = (cc, cc)

pub suit_same : (fs : List AvroField) (bs cs : List MutableArray) → map shape cs ≡ map shape bs → AllSuit fs bs → AllSuit fs cs
suit_same [] [] [] e h = tt
suit_same [] [] (c ∷ cs) e h = absurd cc
suit_same [] (b ∷ bs) cs e h = absurd h
suit_same (f ∷ fs) [] cs e h = absurd h
suit_same (f ∷ fs) (b ∷ bs) [] e h = absurd cc
suit_same (f ∷ fs) (b ∷ bs) (c ∷ cs) e h =
    let p = heads (shape c) (shape b) (map shape cs) (map shape bs) e in
    (subst (Suits f.schema) (sym p.0) h.0, suit_same fs bs cs p.1 h.1)

-- ---- tight children

pub part_at : (n i : ℕ) (bs : List MutableArray) (d : MutableArray) → PartTight n i bs → i < length bs → (length (builder_slots (get_or bs i d)) ≡ n) × IsTight (get_or bs i d)
part_at n zero [] d h lt = absurd (omega (arith, lt))
part_at n zero (b ∷ bs) d h lt = (h.0, h.1)
part_at n (suc i) [] d h lt = absurd (omega (arith, lt))
part_at n (suc i) (b ∷ bs) d h lt = part_at n i bs d h.2 (omega (arith, lt))

pub part_next : (n i : ℕ) (bs : List MutableArray) (c : MutableArray) → PartTight n i bs → i < length bs → length (builder_slots c) ≡ n + 1 → IsTight c → PartTight n (suc i) (set bs i c)
part_next n zero [] c h lt l t = absurd (omega (arith, lt))
part_next n zero (b ∷ bs) c h lt l t = (l, t, h.2)
part_next n (suc i) [] c h lt l t = absurd (omega (arith, lt))
part_next n (suc i) (b ∷ bs) c h lt l t = (h.0, h.1, part_next n i bs c h.2 (omega (arith, lt)) l t)

pub part_all : (n i : ℕ) (bs : List MutableArray) → length bs ≤ i → PartTight n i bs → AllTight (n + 1) bs
part_all n i [] le h = tt
part_all n zero (b ∷ bs) le h = absurd (omega (arith, le))
part_all n (suc i) (b ∷ bs) le h = (h.0, h.1, part_all n i bs (omega (arith, le)) h.2)

-- ---- children that grow

pub children_none : (n : ℕ) (fs : List AvroField) (bs : List MutableArray) → length fs ≡ length bs → ChildrenGrow n fs bs bs
children_none n fs bs l = record { each = same fs bs l; all = omega arith }
  where
    same : (fs : List AvroField) (bs : List MutableArray) → length fs ≡ length bs → BothFill n fs bs bs
    same [] [] l = tt
    same [] (b ∷ bs) l = absurd (omega (arith, l))
    same (f ∷ fs) [] l = absurd (omega (arith, l))
    same (f ∷ fs) (b ∷ bs) l = ((grows_none (mask false f.schema) n (nodes b)).each, same fs bs (omega (arith, l)))

all_fill_then : (s : AvroField) (m n k : ℕ) (a b c : MutableArray) → AllFill (mask false s.schema) m (nodes a) (nodes b) → AllFill (mask false s.schema) n (nodes b) (nodes c) → m + n ≤ k → AllFill (mask false s.schema) k (nodes a) (nodes c)
all_fill_then s m n k a b c h g le = all_fill_more (mask false s.schema) m n k (nodes a) (nodes b) (nodes c) h g le

both_more : (m n k : ℕ) (fs : List AvroField) (bs cs ds : List MutableArray) → BothFill m fs bs cs → BothFill n fs cs ds → m + n ≤ k → BothFill k fs bs ds
both_more m n k [] [] [] [] h g le = tt
both_more m n k [] [] [] (d ∷ ds) h g le = absurd g
both_more m n k [] [] (c ∷ cs) ds h g le = absurd h
both_more m n k [] (b ∷ bs) cs ds h g le = absurd h
both_more m n k (f ∷ fs) [] cs ds h g le = absurd h
both_more m n k (f ∷ fs) (b ∷ bs) [] ds h g le = absurd h
both_more m n k (f ∷ fs) (b ∷ bs) (c ∷ cs) [] h g le = absurd g
both_more m n k (f ∷ fs) (b ∷ bs) (c ∷ cs) (d ∷ ds) h g le = (all_fill_then f m n k b c d h.0 g.0 le, both_more m n k fs bs cs ds h.1 g.1 le)

pub children_then : (x y z : List ℕ) (fs : List AvroField) (bs cs ds : List MutableArray) → MovesForward x y → MovesForward y z → ChildrenGrow (passed x y) fs bs cs → ChildrenGrow (passed y z) fs cs ds → ChildrenGrow (passed x z) fs bs ds
children_then x y z fs bs cs ds f g h k =
    let a = not_longer x y f in
    let b = not_longer y z g in
    record { each = both_more (passed x y) (passed y z) (passed x z) fs bs cs ds h.each k.each (omega (arith, a, b)); all = omega (arith, h.all, k.all, a, b) }

pub children_set : (n : ℕ) (fs : List AvroField) (bs : List MutableArray) (i : ℕ) (d : AvroField) (e c : MutableArray) → length fs ≡ length bs → i < length fs → Grows (mask false (get_or fs i d).schema) n (nodes (get_or bs i e)) (nodes c) → ChildrenGrow n fs bs (set bs i c)
children_set n [] bs i d e c l lt g = absurd (omega (arith, lt))
children_set n (f ∷ fs) [] i d e c l lt g = absurd (omega (arith, l))
children_set n (f ∷ fs) (b ∷ bs) zero d e c l lt g =
    let r = children_none n fs bs (omega (arith, l)) in
    record { each = (g.each, r.each); all = omega (arith, g.all) }
children_set n (f ∷ fs) (b ∷ bs) (suc i) d e c l lt g =
    let r = children_set n fs bs i d e c (omega (arith, l)) (omega (arith, lt)) g in
    record { each = ((grows_none (mask false f.schema) n (nodes b)).each, r.each); all = omega (arith, r.all) }

pub reach_at : (n : ℕ) (fs : List AvroField) (bs : List MutableArray) (i : ℕ) (d : AvroField) (e : MutableArray) → length fs ≡ length bs → i < length fs → ChildrenReach n fs bs → AllOffsetsReach (mask true (get_or fs i d).schema) n (get_or bs i e)
reach_at n [] bs i d e l lt h = absurd (omega (arith, lt))
reach_at n (f ∷ fs) [] i d e l lt h = absurd (omega (arith, l))
reach_at n (f ∷ fs) (b ∷ bs) zero d e l lt h = h.0
reach_at n (f ∷ fs) (b ∷ bs) (suc i) d e l lt h = reach_at n fs bs i d e (omega (arith, l)) (omega (arith, lt)) h.1

pub children_reach : (x y : List ℕ) (fs : List AvroField) (bs cs : List MutableArray) → map shape cs ≡ map shape bs → MovesForward x y → BothFill (passed x y) fs bs cs → ChildrenReach (length x) fs bs → ChildrenReach (length y) fs cs
children_reach x y [] [] [] e f g h = tt
children_reach x y [] [] (c ∷ cs) e f g h = absurd g
children_reach x y [] (b ∷ bs) cs e f g h = absurd g
children_reach x y (a ∷ fs) [] cs e f g h = absurd g
children_reach x y (a ∷ fs) (b ∷ bs) [] e f g h = absurd g
children_reach x y (a ∷ fs) (b ∷ bs) (c ∷ cs) e f g h =
    let l = not_longer x y f in
    let p = heads (shape c) (shape b) (map shape cs) (map shape bs) e in
    let r = all_reach_after (all_large (shape b)) (mask true a.schema) (mask false a.schema) (length x) (length y) (passed x y) (nodes b) (nodes c) (mask_fewer a.schema) g.0 (omega (arith, l)) h.0 in
    (subst (λ (s : Shape). AllReach (all_large s) (mask true a.schema) (length y) (nodes c)) (sym p.0) r, children_reach x y fs bs cs p.1 f g.1 h.1)

pub spare_at : (n : ℕ) (fs : List AvroField) (bs : List MutableArray) (i : ℕ) (d : AvroField) (e : MutableArray) → length fs ≡ length bs → i < length fs → ChildrenHaveSpare n fs bs → HaveSpare (mask false (get_or fs i d).schema) n (nodes (get_or bs i e))
spare_at n [] bs i d e l lt h = absurd (omega (arith, lt))
spare_at n (f ∷ fs) [] i d e l lt h = absurd (omega (arith, l))
spare_at n (f ∷ fs) (b ∷ bs) zero d e l lt h = h.0
spare_at n (f ∷ fs) (b ∷ bs) (suc i) d e l lt h = spare_at n fs bs i d e (omega (arith, l)) (omega (arith, lt)) h.1

pub children_spare : (x y : List ℕ) (fs : List AvroField) (bs cs : List MutableArray) → MovesForward x y → BothFill (passed x y) fs bs cs → ChildrenHaveSpare (length x) fs bs → ChildrenHaveSpare (length y) fs cs
children_spare x y [] [] [] f g h = tt
children_spare x y [] [] (c ∷ cs) f g h = absurd g
children_spare x y [] (b ∷ bs) cs f g h = absurd g
children_spare x y (a ∷ fs) [] cs f g h = absurd g
children_spare x y (a ∷ fs) (b ∷ bs) [] f g h = absurd g
children_spare x y (a ∷ fs) (b ∷ bs) (c ∷ cs) f g h =
    let l = not_longer x y f in
    (spare_after (mask false a.schema) (length x) (length y) (passed x y) (nodes b) (nodes c) g.0 (omega (arith, l)) h.0, children_spare x y fs bs cs f g.1 h.1)

-- ---- children in preorder

both_fill : (n : ℕ) (fs : List AvroField) (bs cs : List MutableArray) → AllSuit fs bs → BothFill n fs bs cs → AllFill (masks false fs) n (all_nodes bs) (all_nodes cs)
both_fill n [] [] [] s h = tt
both_fill n [] [] (c ∷ cs) s h = absurd h
both_fill n [] (b ∷ bs) cs s h = absurd s
both_fill n (f ∷ fs) [] cs s h = absurd s
both_fill n (f ∷ fs) (b ∷ bs) [] s h = absurd h
both_fill n (f ∷ fs) (b ∷ bs) (c ∷ cs) s h =
    fill_append (mask false f.schema) (masks false fs) n (nodes b) (nodes c) (all_nodes bs) (all_nodes cs) (mask_length false f.schema b s.0) h.0 (both_fill n fs bs cs s.1 h.1)

total_is : (fs : List AvroField) (bs : List MutableArray) → AllSuit fs bs → content (masks false fs) (all_nodes bs) ≡ total fs bs
total_is [] [] s = refl
total_is [] (b ∷ bs) s = absurd s
total_is (f ∷ fs) [] s = absurd s
total_is (f ∷ fs) (b ∷ bs) s = content_append (mask false f.schema) (masks false fs) (nodes b) (all_nodes bs) (mask_length false f.schema b s.0) ∙ ap (λ (k : ℕ). content (mask false f.schema) (nodes b) + k) (total_is fs bs s.1)

all_reach : (large : Bool) (n : ℕ) (fs : List AvroField) (bs : List MutableArray) → AllSuit fs bs → greatest_offset large ≤ greatest_offset (all_large (fields_of (map shape bs))) → AllReach large (masks true fs) n (all_nodes bs) → ChildrenReach n fs bs
all_reach large n [] bs s le h = tt
all_reach large n (f ∷ fs) [] s le h = tt
all_reach large n (f ∷ fs) (b ∷ bs) s le h =
    let r = reach_append large (mask true f.schema) (masks true fs) n (nodes b) (all_nodes bs) (mask_length true f.schema b s.0) h in
    let k = both_below (all_large (shape b)) (all_large (fields_of (map shape bs))) in
    let both : greatest_offset large ≤ greatest_offset (all_large (shape b) && all_large (fields_of (map shape bs))) = le in
    (reach_wider large (all_large (shape b)) (mask true f.schema) n (nodes b) (omega (arith, both, k.0)) r.0, all_reach large n fs bs s.1 (omega (arith, both, k.1)) r.1)

all_spare : (n : ℕ) (fs : List AvroField) (bs : List MutableArray) → AllSuit fs bs → HaveSpare (masks false fs) n (all_nodes bs) → ChildrenHaveSpare n fs bs
all_spare n [] bs s h = tt
all_spare n (f ∷ fs) [] s h = tt
all_spare n (f ∷ fs) (b ∷ bs) s h =
    let r = spare_append (mask false f.schema) (masks false fs) n (nodes b) (all_nodes bs) (mask_length false f.schema b s.0) h in
    (r.0, all_spare n fs bs s.1 r.1)

same_below : (b : Bool) → greatest_offset b ≤ greatest_offset b
same_below b = omega arith

-- ---- the builder of records

module _ (fs : List AvroField) (b : DynMutableStructArray) (s : AllSuit fs b.values.items) where
  beneath : (n : ℕ) → AllOffsetsReach (true ∷ masks true fs) n (Struct b) → AllReach (all_large (fields_of (map shape b.values.items))) (true ∷ masks true fs) n (marks_node b.marks ∷ all_nodes b.values.items)
  beneath n h =
      subst (AllReach (all_large (fields_of (map shape b.values.items))) (true ∷ masks true fs) n) (nodes-record b)
      (subst (λ (z : Shape). AllReach (all_large z) (true ∷ masks true fs) n (nodes (Struct b))) (shape-record b) h)

  pub record_reach : (n : ℕ) → AllOffsetsReach (true ∷ masks true fs) n (Struct b) → ChildrenReach n fs b.values.items
  record_reach n h =
      let r = beneath n h in
      all_reach (all_large (fields_of (map shape b.values.items))) n fs b.values.items s (same_below (all_large (fields_of (map shape b.values.items)))) r.1

  pub record_spare : (n : ℕ) → HaveSpare (true ∷ masks false fs) n (nodes (Struct b)) → HasSpare n (marks_node b.marks) × ChildrenHaveSpare n fs b.values.items
  record_spare n h =
      let r : HaveSpare (true ∷ masks false fs) n (marks_node b.marks ∷ all_nodes b.values.items) = subst (HaveSpare (true ∷ masks false fs) n) (nodes-record b) h in
      (r.1, all_spare n fs b.values.items s r.2)

  pub record_grows : (m n : ℕ) (c : DynMutableStructArray) → map shape c.values.items ≡ map shape b.values.items → Takes m 0 (marks_node b.marks) (marks_node c.marks) → m ≤ n → ChildrenGrow n fs b.values.items c.values.items → Grows (true ∷ masks false fs) n (nodes (Struct b)) (nodes (Struct c))
  record_grows m n c e t le g =
      let x = total_is fs b.values.items s in
      let y = total_is fs c.values.items (suit_same fs b.values.items c.values.items e s) in
      let h : Grows (true ∷ masks false fs) n (marks_node b.marks ∷ all_nodes b.values.items) (marks_node c.marks ∷ all_nodes c.values.items) =
      record { each = (fills m 0 n (marks_node b.marks) (marks_node c.marks) t le (omega arith), both_fill n fs b.values.items c.values.items s g.each); all = omega (arith, t.bytes_added, g.all, x, y) } in
      subst (λ (xs : List Node). Grows (true ∷ masks false fs) n xs (nodes (Struct c))) (sym (nodes-record b)) (subst (Grows (true ∷ masks false fs) n (marks_node b.marks ∷ all_nodes b.values.items)) (sym (nodes-record c)) h)

-- ---- reading the fields

abbrev pub FieldsSoFar : List AvroField → ℕ → List (List Slot) → List (List Slot) → List ℕ → Option (List Slot × List ℕ) → Type 0
FieldsSoFar fs i before now rest target = (row : List Slot) × (read_fields_of (drop i fs) row rest ≡ target) × (now ≡ grown before row) × (length row ≡ i)

pub fields_begun : (fs : List AvroField) (before : List (List Slot)) (bytes : List ℕ) → FieldsSoFar fs 0 before before bytes (read_fields_of fs [] bytes)
fields_begun fs before bytes = ([], refl, sym (grown_none before), refl)

module _ (fs : List AvroField) (i : ℕ) (f : AvroField) (lt : i < length fs) (is : f ≡ get_or fs i f) where
  field_here : drop i fs ≡ f ∷ drop (i + 1) fs
  field_here = drop-cons fs i f lt ∙ ap (λ (x : AvroField). x ∷ drop (suc i) fs) (sym is) ∙ ap (λ (j : ℕ). f ∷ drop j fs) (sym (add-one i))

  pub field_step : (bs : List MutableArray) (d c : MutableArray) (before : List (List Slot)) (bytes rest : List ℕ) (target : Option (List Slot × List ℕ)) → i < length bs → length before ≡ length bs → FieldsSoFar fs i before (map builder_slots bs) bytes target → push_one (builder_slots (get_or bs i d)) (read f.schema bytes) ≡ Some (builder_slots c, rest) → FieldsSoFar fs (i + 1) before (map builder_slots (set bs i c)) rest target
  unfolding push_one
  field_step bs d c before bytes rest target lb lc so e =
      let p = push_parts (builder_slots (get_or bs i d)) (builder_slots c) (read f.schema bytes) rest e in
      let row = so.0 in
      let step : read_fields_of (drop i fs) row bytes ≡ read_fields_of (drop (i + 1) fs) (row ++ p.0 ∷ []) rest =
      ap (λ (gs : List AvroField). read_fields_of gs row bytes) field_here ∙ ap (λ (o : Option (Slot × List ℕ)). option_and_then (λ x. read_fields_of (drop (i + 1) fs) x.0 x.1) (push_one row o)) p.1 in
      let here : get_or (map builder_slots bs) i [] ≡ builder_slots (get_or bs i d) = get_or-map builder_slots bs i d [] lb in
      let cols : map builder_slots (set bs i c) ≡ grown before (row ++ p.0 ∷ []) =
      map-set builder_slots bs i c
      ∙ ap (λ (x : List Slot). set (map builder_slots bs) i x) (p.2 ∙ ap (λ (x : List Slot). x ++ p.0 ∷ []) (sym here))
      ∙ ap (λ (cs : List (List Slot)). set cs i (get_or cs i [] ++ p.0 ∷ [])) so.2
      ∙ grown_next before row p.0 i so.3 (omega (arith, lb, lc)) in
      (row ++ p.0 ∷ [], sym step ∙ so.1, cols, omega (arith, so.3, length-append row (p.0 ∷ [])))

  pub field_fault : (k : DecodeFault) (old : List Slot) (before now : List (List Slot)) (bytes : List ℕ) (target : Option (List Slot × List ℕ)) → FieldsSoFar fs i before now bytes target → Fails k (push_one old (read f.schema bytes)) → Fails k target
  unfolding push_one
  field_fault Bytes old before now bytes target so e =
      let n = push_none_parts old (read f.schema bytes) e in
      let step : read_fields_of (drop i fs) so.0 bytes ≡ None =
      ap (λ (gs : List AvroField). read_fields_of gs so.0 bytes) field_here ∙ ap (λ (o : Option (Slot × List ℕ)). option_and_then (λ x. read_fields_of (drop (i + 1) fs) x.0 x.1) (push_one so.0 o)) n in
      sym so.1 ∙ step
  field_fault Memory old before now bytes target so e = tt

pub fields_ended : (fs : List AvroField) (i : ℕ) (before now : List (List Slot)) (rest : List ℕ) (target : Option (List Slot × List ℕ)) → length fs ≤ i → i ≤ length before → length before ≤ length fs → FieldsSoFar fs i before now rest target → (row : List Slot) × (target ≡ Some (row, rest)) × (now ≡ grown before row) × (length row ≡ length before)
fields_ended fs i before now rest target le lb lf so =
    let d : drop i fs ≡ [] = drop_past i fs le in
    (so.0, sym so.1 ∙ ap (λ (gs : List AvroField). read_fields_of gs so.0 rest) d, so.2, omega (arith, so.3, le, lb, lf))
  where
    drop_past : (i : ℕ) (fs : List AvroField) → length fs ≤ i → drop i fs ≡ []
    drop_past i [] le = drop_nil i
      where
        drop_nil : (i : ℕ) → drop {A = AvroField} i [] ≡ []
        drop_nil zero = refl
        drop_nil (suc i) = refl
    drop_past zero (f ∷ fs) le = absurd (omega (arith, le))
    drop_past (suc i) (f ∷ fs) le = drop_past i fs (omega (arith, le))

pub push_length : (old new : List Slot) (o : Option (Slot × List ℕ)) (rest : List ℕ) → push_one old o ≡ Some (new, rest) → length new ≡ length old + 1
push_length old new o rest e = let p = push_parts old new o rest e in omega (arith, ap length p.2, length-append old (p.0 ∷ []))

-- ---- a record is pushed behind its fields

pub record_fails : (d : DecodeFault) (fs : List AvroField) (old : List Slot) (bytes : List ℕ) → Fails d (read_fields_of fs [] bytes) → Fails d (push_one old (read_record_of fs bytes))
unfolding push_one
record_fails Bytes fs old bytes h = rw h refl
record_fails Memory fs old bytes h = tt

pub record_reads : (b c : DynMutableStructArray) (fs : List AvroField) (new : List Slot) (bytes rest : List ℕ) → c.marks ≡ b.marks → AllTight (length b.marks.booleans) b.values.items
    → (row : List Slot) × (read_fields_of fs [] bytes ≡ Some (row, rest)) × (map builder_slots c.values.items ≡ grown (map builder_slots b.values.items) row) × (length row ≡ length (map builder_slots b.values.items))
    → new ≡ builder_slots (Struct c) ++ record_at (map builder_slots c.values.items) (length c.marks.booleans) ∷ []
    → push_one (builder_slots (Struct b)) (read_record_of fs bytes) ≡ Some (new, rest)
unfolding push_one
record_reads b c fs new bytes rest m t g n =
    let long = tight_long (length b.marks.booleans) b.values.items t in
    let cols = g.2 ∙ grown_is (map builder_slots b.values.items) g.0 in
    let stay : builder_slots (Struct c) ≡ builder_slots (Struct b) =
    slots-record c ∙ ap (λ k. slots_where k.booleans (record_at (map builder_slots c.values.items))) m ∙ ap (λ (cs : List (List Slot)). slots_where b.marks.booleans (record_at cs)) cols ∙ records_stay b.marks.booleans (map builder_slots b.values.items) g.0 long ∙ sym (slots-record b) in
    let last : record_at (map builder_slots c.values.items) (length c.marks.booleans) ≡ slot.Struct g.0 =
    ap (λ k. record_at (map builder_slots c.values.items) (length k.booleans)) m ∙ ap (λ (cs : List (List Slot)). record_at cs (length b.marks.booleans)) cols ∙ record_last (length b.marks.booleans) (map builder_slots b.values.items) g.0 long g.3 in
    let all : new ≡ builder_slots (Struct b) ++ slot.Struct g.0 ∷ [] =
    n ∙ ap (λ (x : Slot). builder_slots (Struct c) ++ x ∷ []) last ∙ ap (λ (xs : List Slot). xs ++ slot.Struct g.0 ∷ []) stay in
    rw (g.1, all) refl

pub shapes_length : (bs cs : List MutableArray) → map shape cs ≡ map shape bs → length cs ≡ length bs
shapes_length bs cs e = sym (length-map cs shape) ∙ ap length e ∙ length-map bs shape
