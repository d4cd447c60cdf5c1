-- What calls do to a builder without children, by what the call of its kind tells.
use Rattle.std.proofs.Common.{◌≡◌, ◌∙◌, ℕ, ◌+◌, ◌*◌, ◌≤◌, List, [], ◌∷◌, ◌++◌, length, All, Result, Ok, Err, IfErr, OnOk, OnErr, IsOk, refl, sym, ap, subst, arith, inl}
use Rattle.std.specs.List.{AllZip}
use Rattle.std.specs.Result.{IsErrAnd}
use Rattle.std.proofs.lemmas.List.{length_push}
use Rattle.std.proofs.lemmas.List.Elements.{All-nil, All-cons}
use Rattle.arrow_core.specs.declared.error.Error.{Error}
use Rattle.arrow_core.specs.declared.error.Error.TheVariants.{OutOfMemory}
use Rattle.arrow_core.specs.declared.slot.Slot.{Slot}
use Rattle.arrow_core.specs.declared.slot.Slot.TheVariants as slot
use Rattle.arrow_core.specs.declared.types.DataType.{DataType}
use Rattle.arrow_core.specs.declared.physical.PhysicalType.TheVariants as physical
use Rattle.arrow_core.specs.declared.physical.PrimitiveType.TheVariants as primitive
use Rattle.arrow_array.specs.Arrays.{array_type, array_slots, dictionaries_of}
use Rattle.arrow_array.specs.Parts.{byte_width}
use Rattle.arrow_array.specs.declared.array.Array.{Array}
use Rattle.arrow_flat.specs.Builders.{PlainBuilder, ContentBuilder, plain_node, content_node}
use Rattle.arrow_flat.specs.Dictionaries.{dictionary_node}
use Rattle.arrow_flat.specs.Nodes.{Node, KeepsCapacity, Takes, NoLessSpare, Emptied, HasSpare, IsEmpty}
use Rattle.arrow_builders.specs.Calls.{PushesNull, Reserves, Clears, Boxes}
use Rattle.arrow_builders.specs.Fits.{ChildrenFit}
use Rattle.arrow_builders.specs.MutableArrays.{builder_type, builder_slots, builder_dictionaries, nodes, slots_at}
use Rattle.arrow_builders.specs.NormalizedArrays.{IsNormalized}
use Rattle.arrow_builders.specs.Shapes.{flat, dictionary, shape, Added, nulls_at, AllAdded, AllGetNulls, FitsIn, BytesFitIn}
use Rattle.arrow_builders.specs.declared.array.MutableArray.{MutableArray}
use Rattle.arrow_builders.specs.declared.array.MutableArray.{Null, Boolean, Int8, Int16, Int32, Int64, UInt8, UInt16, UInt32, UInt64, Int128, MonthDayNano, Utf8, LargeUtf8, Binary, LargeBinary, FixedSizeBinary, Dictionary}

-- ---- the kinds

-- a kind of builders without children, by what contracts see of one: its node, its slots, and the content bytes of a null
pub record FlatKind {B : Type 0} (wrap : B → MutableArray) (node : B → Node) (slots : B → List Slot) (null_len : B → ℕ) (Same : B → B → Type 0) : Type 0 where
  pub shapes_are : (b c : B) → Same b c → shape (wrap c) ≡ shape (wrap b)
  pub nodes_are : (b : B) → nodes (wrap b) ≡ node b ∷ []
  pub slots_are : (b : B) → builder_slots (wrap b) ≡ slots b
  pub at_nodes : (b : B) → slots_at (wrap b) ≡ slots b ∷ []
  pub adds : (b : B) → nulls_at 1 (wrap b) ≡ record { slots = 1; bytes = null_len b } ∷ []
  pub counts : (b : B) → (node b).slots ≡ length (slots b)
  pub fits : (b : B) → ChildrenFit (wrap b)

abbrev pub PlainKind : (PlainBuilder → MutableArray) → Type 0
PlainKind wrap = FlatKind wrap plain_node (λ b. b.slots) (λ b. 0) (λ b c. c.data_type ≡ b.data_type)

abbrev pub ContentKind : (ContentBuilder → MutableArray) → (ContentBuilder → ℕ) → Type 0
ContentKind wrap null_len = FlatKind wrap content_node (λ b. b.slots) null_len (λ b c. c.data_type ≡ b.data_type)

pub null : PlainKind Null
null = record { shapes_are = λ b c e. ap (flat (physical.Null)) e; nodes_are = λ b. refl; slots_are = λ b. refl; at_nodes = λ b. refl; adds = λ b. refl; counts = λ b. refl; fits = λ b. tt }

pub boolean : PlainKind Boolean
boolean = record { shapes_are = λ b c e. ap (flat (physical.Boolean)) e; nodes_are = λ b. refl; slots_are = λ b. refl; at_nodes = λ b. refl; adds = λ b. refl; counts = λ b. refl; fits = λ b. tt }

pub int8 : PlainKind Int8
int8 = record { shapes_are = λ b c e. ap (flat (physical.Primitive primitive.Int8)) e; nodes_are = λ b. refl; slots_are = λ b. refl; at_nodes = λ b. refl; adds = λ b. refl; counts = λ b. refl; fits = λ b. tt }

pub int16 : PlainKind Int16
int16 = record { shapes_are = λ b c e. ap (flat (physical.Primitive primitive.Int16)) e; nodes_are = λ b. refl; slots_are = λ b. refl; at_nodes = λ b. refl; adds = λ b. refl; counts = λ b. refl; fits = λ b. tt }

pub int32 : PlainKind Int32
int32 = record { shapes_are = λ b c e. ap (flat (physical.Primitive primitive.Int32)) e; nodes_are = λ b. refl; slots_are = λ b. refl; at_nodes = λ b. refl; adds = λ b. refl; counts = λ b. refl; fits = λ b. tt }

pub int64 : PlainKind Int64
int64 = record { shapes_are = λ b c e. ap (flat (physical.Primitive primitive.Int64)) e; nodes_are = λ b. refl; slots_are = λ b. refl; at_nodes = λ b. refl; adds = λ b. refl; counts = λ b. refl; fits = λ b. tt }

pub uint8 : PlainKind UInt8
uint8 = record { shapes_are = λ b c e. ap (flat (physical.Primitive primitive.UInt8)) e; nodes_are = λ b. refl; slots_are = λ b. refl; at_nodes = λ b. refl; adds = λ b. refl; counts = λ b. refl; fits = λ b. tt }

pub uint16 : PlainKind UInt16
uint16 = record { shapes_are = λ b c e. ap (flat (physical.Primitive primitive.UInt16)) e; nodes_are = λ b. refl; slots_are = λ b. refl; at_nodes = λ b. refl; adds = λ b. refl; counts = λ b. refl; fits = λ b. tt }

pub uint32 : PlainKind UInt32
uint32 = record { shapes_are = λ b c e. ap (flat (physical.Primitive primitive.UInt32)) e; nodes_are = λ b. refl; slots_are = λ b. refl; at_nodes = λ b. refl; adds = λ b. refl; counts = λ b. refl; fits = λ b. tt }

pub uint64 : PlainKind UInt64
uint64 = record { shapes_are = λ b c e. ap (flat (physical.Primitive primitive.UInt64)) e; nodes_are = λ b. refl; slots_are = λ b. refl; at_nodes = λ b. refl; adds = λ b. refl; counts = λ b. refl; fits = λ b. tt }

pub int128 : PlainKind Int128
int128 = record { shapes_are = λ b c e. ap (flat (physical.Primitive primitive.Int128)) e; nodes_are = λ b. refl; slots_are = λ b. refl; at_nodes = λ b. refl; adds = λ b. refl; counts = λ b. refl; fits = λ b. tt }

pub month_day_nano : PlainKind MonthDayNano
month_day_nano = record { shapes_are = λ b c e. ap (flat (physical.Primitive primitive.MonthDayNano)) e; nodes_are = λ b. refl; slots_are = λ b. refl; at_nodes = λ b. refl; adds = λ b. refl; counts = λ b. refl; fits = λ b. tt }

pub utf8 : ContentKind Utf8 (λ b. 0)
utf8 = record { shapes_are = λ b c e. ap (flat (physical.Utf8)) e; nodes_are = λ b. refl; slots_are = λ b. refl; at_nodes = λ b. refl; adds = λ b. refl; counts = λ b. refl; fits = λ b. tt }

pub large_utf8 : ContentKind LargeUtf8 (λ b. 0)
large_utf8 = record { shapes_are = λ b c e. ap (flat (physical.LargeUtf8)) e; nodes_are = λ b. refl; slots_are = λ b. refl; at_nodes = λ b. refl; adds = λ b. refl; counts = λ b. refl; fits = λ b. tt }

pub binary : ContentKind Binary (λ b. 0)
binary = record { shapes_are = λ b c e. ap (flat (physical.Binary)) e; nodes_are = λ b. refl; slots_are = λ b. refl; at_nodes = λ b. refl; adds = λ b. refl; counts = λ b. refl; fits = λ b. tt }

pub large_binary : ContentKind LargeBinary (λ b. 0)
large_binary = record { shapes_are = λ b c e. ap (flat (physical.LargeBinary)) e; nodes_are = λ b. refl; slots_are = λ b. refl; at_nodes = λ b. refl; adds = λ b. refl; counts = λ b. refl; fits = λ b. tt }

pub fixed_size_binary : ContentKind FixedSizeBinary (λ b. 1 * byte_width b.data_type)
fixed_size_binary = record { shapes_are = λ b c e. ap (flat (physical.FixedSizeBinary)) e; nodes_are = λ b. refl; slots_are = λ b. refl; at_nodes = λ b. refl; adds = λ b. refl; counts = λ b. refl; fits = λ b. tt }

pub keys : FlatKind Dictionary dictionary_node (λ b. b.slots) (λ b. 0) (λ b c. (c.data_type ≡ b.data_type) × (c.items ≡ b.items))
keys = record { shapes_are = λ b c e. ap (λ t. dictionary t c.items) e.0 ∙ ap (dictionary b.data_type) e.1; nodes_are = λ b. refl; slots_are = λ b. refl; at_nodes = λ b. refl; adds = λ b. refl; counts = λ b. refl; fits = λ b. tt }

-- ---- the calls

on_ok : {A E : Type 0} (P Q : Type 0) (r : Result A E) → (P → Q) → OnOk r P → OnOk r Q
on_ok P Q (Ok a) f h = f h
on_ok P Q (Err e) f h = tt

on_err : {A E : Type 0} (P Q : Type 0) (r : Result A E) → (P → Q) → OnErr r P → OnErr r Q
on_err P Q (Ok a) f h = tt
on_err P Q (Err e) f h = f h

in_ok : {A E : Type 0} (P : Type 0) (r : Result A E) → P → OnOk r P
in_ok P (Ok a) h = h
in_ok P (Err e) h = tt

in_err : {A E : Type 0} (P : Type 0) (r : Result A E) → P → OnErr r P
in_err P (Ok a) h = tt
in_err P (Err e) h = h

module _ {B : Type 0} {wrap : B → MutableArray} {node : B → Node} {slots : B → List Slot} {null_len : B → ℕ} {Same : B → B → Type 0} (kind : FlatKind wrap node slots null_len Same) (b c : B) (same : Same b c) where
  both_nodes : (P : List Node → List Node → Type 0) → P (node b ∷ []) (node c ∷ []) → P (nodes (wrap b)) (nodes (wrap c))
  both_nodes P h = subst (λ (xs : List Node). P xs (nodes (wrap c))) (sym (kind.nodes_are b)) (subst (P (node b ∷ [])) (sym (kind.nodes_are c)) h)

  all_of : (P : Node → Type 0) → P (node c) → All P (nodes (wrap c))
  all_of P h = subst (All P) (sym (kind.nodes_are c)) (All-cons P (node c) [] h (All-nil P))

  pub flat_reserves : (n : ℕ) (r : Result (Unit {0}) Error) → slots c ≡ slots b → NoLessSpare (node b) (node c) → OnOk r (HasSpare n (node c)) → IfErr r (λ e. e ≡ OutOfMemory) → Reserves n (wrap b) (wrap c) r
  flat_reserves n r e h o m = record {
    same_shape = kind.shapes_are b c same;
    same_slots = kind.at_nodes c ∙ ap (λ (xs : List Slot). xs ∷ []) e ∙ sym (kind.at_nodes b);
    capacity = both_nodes (AllZip NoLessSpare) (h, tt);
    ok = on_ok (HasSpare n (node c)) (All (HasSpare n) (nodes (wrap c))) r (all_of (HasSpare n)) o;
    memory = m;
  }

  pub flat_clears : Emptied (node b) (node c) → Clears (wrap b) (wrap c)
  flat_clears h = record { same_shape = kind.shapes_are b c same; capacity = both_nodes (AllZip Emptied) (h, tt) }

  -- the array that was made
  pub flat_boxed : (a : Array) → array_type a ≡ builder_type (wrap b) → array_slots a ≡ slots b → dictionaries_of a ≡ builder_dictionaries (wrap b) → IsNormalized a → slots c ≡ [] → (node c).bytes ≡ 0 → Boxes (λ (x : Array). x) (wrap b) (wrap c) (Ok a)
  flat_boxed a t s d n e z = record {
    same_shape = kind.shapes_are b c same;
    same_type = t;
    same_slots = s ∙ sym (kind.slots_are b);
    same_dictionaries = d;
    normalized = λ _. n;
    emptied = all_of IsEmpty (record { slots = kind.counts c ∙ ap length e; bytes = z });
    fits = kind.fits b;
    err = tt;
  }

  -- an error that is handed on
  pub flat_unboxed : (e : Error) (r : Result Array Error) → e ≡ OutOfMemory → IsErrAnd r (λ x. x ≡ e) → Boxes (λ (x : Array). x) (wrap b) (wrap c) r
  flat_unboxed e (Ok a) m h = absurd h
  flat_unboxed e (Err x) m h = record {
    same_shape = kind.shapes_are b c same;
    same_type = tt;
    same_slots = tt;
    same_dictionaries = tt;
    normalized = λ _. tt;
    emptied = tt;
    fits = tt;
    err = inl (h ∙ m);
  }

  both : (Adds : Added → Node → Node → Type 0) → Adds (record { slots = 1; bytes = null_len b }) (node b) (node c) → AllAdded Adds (nulls_at 1 (wrap b)) (nodes (wrap b)) (nodes (wrap c))
  both Adds h = subst (λ (us : List Added). AllAdded Adds us (nodes (wrap b)) (nodes (wrap c))) (sym (kind.adds b)) (both_nodes (AllAdded Adds (record { slots = 1; bytes = null_len b } ∷ [])) (h, tt))

  one_fits : (Fit : Added → Node → Type 0) → AllZip Fit (nulls_at 1 (wrap b)) (nodes (wrap b)) → Fit (record { slots = 1; bytes = null_len b }) (node b)
  one_fits Fit h =
      let k : AllZip Fit (record { slots = 1; bytes = null_len b } ∷ []) (node b ∷ []) = subst (λ (us : List Added). AllZip Fit us (node b ∷ [])) (kind.adds b) (subst (AllZip Fit (nulls_at 1 (wrap b))) (kind.nodes_are b) h) in
      k.0

  pub flat_null : (r : Result (Unit {0}) Error) → OnOk r (slots c ≡ slots b ++ slot.Null ∷ []) → OnOk r ((node c).bytes ≡ (node b).bytes + null_len b)
      → OnErr r (slots c ≡ slots b) → OnErr r ((node c).bytes ≡ (node b).bytes) → OnErr r (null_len b ≤ (node b).byte_spare → c ≡ b)
      → IfErr r (λ e. e ≡ OutOfMemory) → KeepsCapacity (node b) (node c) → (1 ≤ (node b).spare → null_len b ≤ (node b).byte_spare → IsOk r) → PushesNull (wrap b) (wrap c) r
  flat_null (Ok u) s l ks kl k m p has =
      let n : (node c).slots ≡ (node b).slots + 1 = kind.counts c ∙ ap length s ∙ length_push (slots b) slot.Null ∙ ap (λ (n : ℕ). n + 1) (sym (kind.counts b)) in
      record {
        nulls = record {
          same_shape = kind.shapes_are b c same;
          below = subst (λ (us : List Added). AllGetNulls us (slots_at (wrap b)) (slots_at (wrap c))) (sym (kind.adds b))
              (subst (λ (xs : List (List Slot)). AllGetNulls (record { slots = 1; bytes = null_len b } ∷ []) xs (slots_at (wrap c))) (sym (kind.at_nodes b))
              (subst (AllGetNulls (record { slots = 1; bytes = null_len b } ∷ []) (slots b ∷ [])) (sym (kind.at_nodes c)) (s, tt)));
          bytes = both (λ a x y. y.bytes ≡ x.bytes + a.bytes) l;
          memory = tt;
          takes = both (λ a x y. Takes a.slots a.bytes x y) (record { slots_added = omega (arith, n); slots_kept = omega (arith, n); bytes_added = omega (arith, l); bytes_kept = omega (arith, l); slot_capacity = p.slots; byte_capacity = p.bytes });
          has_capacity = λ f. let q = one_fits FitsIn f in has q.slots q.bytes;
        };
        refused = tt;
        refused_capacity = tt;
        err = tt;
      }
  flat_null (Err e) s l ks kl k m p has =
      let n : (node c).slots ≡ (node b).slots = kind.counts c ∙ ap length ks ∙ sym (kind.counts b) in
      record {
        nulls = record {
          same_shape = kind.shapes_are b c same;
          below = tt;
          bytes = tt;
          memory = m;
          takes = both (λ a x y. Takes a.slots a.bytes x y) (record { slots_added = omega (arith, n); slots_kept = omega (arith, n); bytes_added = omega (arith, kl); bytes_kept = omega (arith, kl); slot_capacity = p.slots; byte_capacity = p.bytes });
          has_capacity = λ f. let q = one_fits FitsIn f in has q.slots q.bytes;
        };
        refused = λ f. kind.slots_are c ∙ ks ∙ sym (kind.slots_are b);
        refused_capacity = λ f. both_nodes (AllZip NoLessSpare) (record { slots = n; slot_capacity = omega (arith, n, p.slots); bytes = kl; byte_capacity = omega (arith, kl, p.bytes) }, tt);
        err = λ f h. ap wrap (k (one_fits BytesFitIn h));
      }

-- a null that takes no content bytes
pub plain_null : {B : Type 0} {wrap : B → MutableArray} {node : B → Node} {slots : B → List Slot} {Same : B → B → Type 0} (kind : FlatKind wrap node slots (λ b. 0) Same) (b c : B) → Same b c → (r : Result (Unit {0}) Error) → (node c).bytes ≡ (node b).bytes
    → OnOk r (slots c ≡ slots b ++ slot.Null ∷ []) → OnErr r (c ≡ b) → IfErr r (λ e. e ≡ OutOfMemory) → KeepsCapacity (node b) (node c) → (1 ≤ (node b).spare → IsOk r) → PushesNull (wrap b) (wrap c) r
plain_null {B} {wrap} {node} {slots} kind b c same r z s k m p has =
    flat_null kind b c same r s (in_ok ((node c).bytes ≡ (node b).bytes + 0) r (omega (arith, z)))
    (on_err (c ≡ b) (slots c ≡ slots b) r (ap slots) k) (in_err ((node c).bytes ≡ (node b).bytes) r z) (on_err (c ≡ b) (0 ≤ (node b).byte_spare → c ≡ b) r (λ e f. e) k)
    m p (λ f g. has f)

-- a null of fixed-size binary values, which takes the bytes of a value
pub sized_null : (b c : ContentBuilder) → c.data_type ≡ b.data_type → (r : Result (Unit {0}) Error) → OnOk r (c.slots ≡ b.slots ++ slot.Null ∷ []) → OnOk r (c.bytes ≡ b.bytes + byte_width b.data_type)
    → OnErr r (c.slots ≡ b.slots) → OnErr r (c.bytes ≡ b.bytes) → OnErr r (byte_width b.data_type ≤ b.byte_spare → c ≡ b)
    → IfErr r (λ e. e ≡ OutOfMemory) → KeepsCapacity (content_node b) (content_node c) → (1 ≤ b.spare → byte_width b.data_type ≤ b.byte_spare → IsOk r) → PushesNull (FixedSizeBinary b) (FixedSizeBinary c) r
sized_null b c same r s l ks kl k m p has =
    let w : ℕ = byte_width b.data_type in
    flat_null fixed_size_binary b c same r s (on_ok (c.bytes ≡ b.bytes + w) (c.bytes ≡ b.bytes + 1 * w) r (λ e. omega (arith, e)) l)
    ks kl (on_err (w ≤ b.byte_spare → c ≡ b) (1 * w ≤ b.byte_spare → c ≡ b) r (λ f h. f (omega (arith, h))) k)
    m p (λ f g. has f (omega (arith, g)))

-- the one dictionary of an array, by its slots and the slots of its values
pub one_dictionary : (s t i j : List Slot) → s ≡ t → i ≡ j → ◌≡◌ {A = List (List Slot × List Slot)} ((s, i) ∷ []) ((t, j) ∷ [])
one_dictionary s t i j e d = λ k. (e k, d k) ∷ []
