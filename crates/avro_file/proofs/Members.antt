-- What the attributes of an object are, by its members: the type, a name, and a namespace and a doc where they are given.
use Rattle.std.proofs.Common.{◌≡◌, ℕ, suc, ◌≤◌, false, List, ◌∷◌, ◌++◌, Option, Some, None, codes, refl, ap, ◌∙◌}
use Rattle.std.specs.Prelude.{option_and_then}
use Rattle.std.specs.Str.{bytes_eq}
use Rattle.arrow_base.specs.WrittenString.{json_string}
use Rattle.json_tree.specs.Tree.{Json, string, array, object}
use Rattle.json_tree.specs.Keys.{value_of}
use Rattle.json_tree.specs.Grammar.{Encodes}
use Rattle.json_tree.specs.Reading.{put_together}
use Rattle.json_tree.specs.declared.value.Object.{Object as Attributes}
use Rattle.avro_file.specs.Attributes.{string_of, items_of, count_of, string_at, items_at, count_at}
use Rattle.avro_file.specs.Reading.{reading, typed_as, named}
use Rattle.avro_file.specs.Writing.{given}
use Rattle.avro_file.proofs.JsonTexts.{Members, MoreMembers, optional, one_more_member, optional_member, object_encodes, string_encodes}
use Rattle.avro_file.proofs.Layers.{string_is, items_are, schema_string, schema_object, type_string}
use Rattle.avro_file.proofs.Numerals.{counted, counted_is}
use Rattle.avro_file.proofs.Parts.{object_is}

abbrev pub text_value : Option (List ℕ) → Option Json
text_value None = None
text_value (Some text) = Some (string text)

abbrev pub attributes_by : Members → Attributes
attributes_by ms = record { members = ms }

module _ (ms : Members) (key : List ℕ) where
  pub string_there : (o : Option (List ℕ)) → value_of key ms ≡ text_value o → string_at key (attributes_by ms) ≡ o
  string_there None e = ap (option_and_then string_of) e
  string_there (Some text) e = ap (option_and_then string_of) e ∙ string_is (string text) text refl

  pub items_there : (items : List Json) → value_of key ms ≡ Some (array items) → items_at key (attributes_by ms) ≡ Some items
  items_there items e = ap (option_and_then items_of) e ∙ items_are (array items) items refl

  pub count_there : (n : ℕ) → n ≤ 2147483647 → value_of key ms ≡ Some (counted n) → count_at key (attributes_by ms) ≡ Some n
  count_there n l e = ap (option_and_then count_of) e ∙ counted_is n l

-- ---- a named type

abbrev pub named_members : List ℕ → List ℕ → Option (List ℕ) → Option (List ℕ) → Members → Members
named_members type name namespace doc last =
    (codes "type", string type) ∷ (codes "name", string name) ∷ optional (codes "namespace") namespace (optional (codes "doc") doc last)

module _ (type name : List ℕ) where
  pub namespace_there : (namespace doc : Option (List ℕ)) (last : Members) → value_of (codes "namespace") last ≡ None → value_of (codes "namespace") (named_members type name namespace doc last) ≡ text_value namespace
  namespace_there None None last h = h
  namespace_there None (Some d) last h = h
  namespace_there (Some n) doc last h = refl

  pub doc_there : (namespace doc : Option (List ℕ)) (last : Members) → value_of (codes "doc") last ≡ None → value_of (codes "doc") (named_members type name namespace doc last) ≡ text_value doc
  doc_there None None last h = h
  doc_there (Some n) None last h = h
  doc_there None (Some d) last h = refl
  doc_there (Some n) (Some d) last h = refl

  module _ (key : List ℕ) (t : bytes_eq (codes "type") key ≡ false) (n : bytes_eq (codes "name") key ≡ false) (s : bytes_eq (codes "namespace") key ≡ false) (d : bytes_eq (codes "doc") key ≡ false) where
    pub last_there : (namespace doc : Option (List ℕ)) (last : Members) → value_of key (named_members type name namespace doc last) ≡ value_of key last
    last_there None None last = rw (t, n) refl
    last_there (Some x) None last = rw (t, n, s) refl
    last_there None (Some y) last = rw (t, n, d) refl
    last_there (Some x) (Some y) last = rw (t, n, s, d) refl

  pub named_encodes : (d : ℕ) (namespace doc : Option (List ℕ)) (last : Members) (rest : List ℕ) → MoreMembers d last rest
      → put_together (named_members type name namespace doc last) ≡ named_members type name namespace doc last
      → Encodes (suc d) (object (named_members type name namespace doc last)) (0x7b ∷ (json_string (codes "type") ++ 0x3a ∷ (json_string type ++ 0x2c ∷ (json_string (codes "name") ++ 0x3a ∷ (json_string name ++ (given (codes ",\"namespace\":") namespace ++ (given (codes ",\"doc\":") doc ++ rest)))))))
  named_encodes d namespace doc last rest m e =
      let docs = optional_member d (codes "doc") (codes ",\"doc\":") doc last rest refl m in
      let namespaces = optional_member d (codes "namespace") (codes ",\"namespace\":") namespace _ _ refl docs in
      object_encodes d (codes "type") (string type) (json_string type) _ _ (string_encodes d type) (one_more_member d (codes "name") (string name) (json_string name) _ _ (string_encodes d name) namespaces) e

-- ---- readings

pub name_reads : (k : ℕ) (name : List ℕ) → reading (suc k) (string name) ≡ named name
unfolding reading
name_reads k name = schema_string (reading k) (string name) name refl

pub object_reads : (k : ℕ) (ms : Members) (name : List ℕ) → value_of (codes "type") ms ≡ Some (string name) → reading (suc k) (object ms) ≡ typed_as (reading k) (attributes_by ms) name
unfolding reading
object_reads k ms name e =
    schema_object (reading k) (object ms) (attributes_by ms) refl ∙ object_is (attributes_by ms) (reading k) (string name) e ∙ type_string (reading k) (attributes_by ms) (string name) name refl
