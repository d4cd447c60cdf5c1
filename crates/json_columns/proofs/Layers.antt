-- What a value is, by the code's match on it.
use Rattle.std.proofs.Common.{◌≡◌, ℕ, true, List, [], Some, length, refl, sym, ap, ◌∙◌, ◌-◌, ◌+◌, arith}
use Rattle.json_tree.specs.Keys.{value_of}
use Rattle.json_tree.specs.Tree.{Json, null, or_null}
use Rattle.json_tree.specs.declared.value.Value.{out-Value, roll-Value, roll-out-Value}
use Rattle.json_tree.specs.declared.value.Value.TheOpen as layer
use Rattle.json_tree.specs.declared.value.Value.TheVariants as variant
use Rattle.json_tree.specs.declared.value.Object.{Object}
use Rattle.json_flat.specs.Meaning.{Layer}
use Rattle.json_columns.specs.Gathered.{is_object, items_in, len_in, member_in}

pub array_layer : (v : Json) (items : List Json) → v ≡ variant.Array items → out-Value v ≡ layer.Array items
array_layer v items e = ap out-Value e ∙ variant.outs-Array items

pub object_layer : (v : Json) (o : Object) → v ≡ variant.Object o → out-Value v ≡ layer.Object o
object_layer v o e = ap out-Value e ∙ variant.outs-Object o

made : (v : Json) (l : Layer) → out-Value v ≡ l → v ≡ roll-Value l
made v l e = sym (roll-out-Value v) ∙ ap roll-Value e

-- what is said of each layer but an array
module _ {X : Type 0} (f : Layer → X) (x : X) (null_is : f layer.Null ≡ x) (bool_is : (b : _) → f (layer.Bool b) ≡ x) (number_is : (n : _) → f (layer.Number n) ≡ x) (string_is : (t : _) → f (layer.String t) ≡ x) where
  pub no_array : ((o : _) → f (layer.Object o) ≡ x) → (v : Json) → ((items : List Json) → v ≡ variant.Array items → ⊥) → f (out-Value v) ≡ x
  no_array object_is v other = go (out-Value v) refl
    where
      go : (l : Layer) → out-Value v ≡ l → f l ≡ x
      go layer.Null e = null_is
      go (layer.Bool b) e = bool_is b
      go (layer.Number n) e = number_is n
      go (layer.String text) e = string_is text
      go (layer.Array items) e = absurd (other items (made v (layer.Array items) e ∙ variant.rolls-Array items))
      go (layer.Object o) e = object_is o

  pub no_object : ((items : _) → f (layer.Array items) ≡ x) → (v : Json) → ((o : Object) → v ≡ variant.Object o → ⊥) → f (out-Value v) ≡ x
  no_object array_is v other = go (out-Value v) refl
    where
      go : (l : Layer) → out-Value v ≡ l → f l ≡ x
      go layer.Null e = null_is
      go (layer.Bool b) e = bool_is b
      go (layer.Number n) e = number_is n
      go (layer.String text) e = string_is text
      go (layer.Array items) e = array_is items
      go (layer.Object o) e = absurd (other o (made v (layer.Object o) e ∙ variant.rolls-Object o))

pub no_object_member : (name : List ℕ) (v : Json) → ((o : Object) → v ≡ variant.Object o → ⊥) → member_in name (out-Value v) ≡ null
no_object_member name = no_object (member_in name) null refl (λ b. refl) (λ n. refl) (λ t. refl) (λ items. refl)

pub array_items : (v : Json) (items : List Json) → v ≡ variant.Array items → items_in (out-Value v) ≡ items
array_items v items e = ap items_in (array_layer v items e)

pub array_len : (v : Json) (items : List Json) (old end : ℕ) → v ≡ variant.Array items → end ≡ old + length items → Some (end - old) ≡ len_in (out-Value v)
array_len v items old end e n = let k : end - old ≡ length items = omega (arith, n) in ap (λ (i : ℕ). Some i) k ∙ sym (ap len_in (array_layer v items e))

pub object_is : (v : Json) (o : Object) → v ≡ variant.Object o → is_object (out-Value v) ≡ true
object_is v o e = ap is_object (object_layer v o e)

pub object_member : (name : List ℕ) (v : Json) (o : Object) → v ≡ variant.Object o → member_in name (out-Value v) ≡ or_null (value_of name o.members)
object_member name v o e = ap (member_in name) (object_layer v o e)

pub no_members : (name : List ℕ) (v m : Json) → m ≡ null → ((o : Object) → v ≡ variant.Object o → ⊥) → m ≡ member_in name (out-Value v)
no_members name v m n other = n ∙ sym (no_object_member name v other)
