-- What a value means, by its outermost part.
use Rattle.std.proofs.Common.{◌≡◌, ℕ, ℤ, Bool, List, refl, sym, ap, ◌∙◌}
use Rattle.arrow_core.specs.declared.slot.Slot.TheVariants as slot
use Rattle.json_tree.specs.Tree.{Json}
use Rattle.json_tree.specs.declared.value.Value.{out-Value, roll-Value, roll-out-Value}
use Rattle.json_tree.specs.declared.value.Value.TheOpen as layer
use Rattle.json_tree.specs.declared.value.Value.TheVariants as variant
use Rattle.json_tree.specs.declared.value.Number.{Number}
use Rattle.json_flat.specs.Meaning.{Meaning, Layer, slot_of, boolean_in}
use Rattle.json_flat.specs.Columns.{means}

made : (value : Json) (l : Layer) → out-Value value ≡ l → value ≡ roll-Value l
made value l e = sym (roll-out-Value value) ∙ ap roll-Value e

pub at-number : (f : Layer → Meaning) (value : Json) (n : Number) → value ≡ variant.Number n → means f value ≡ f (layer.Number n)
at-number f value n e = rw e (ap f (variant.outs-Number n))

pub at-bool : (f : Layer → Meaning) (value : Json) (b : Bool) → value ≡ variant.Bool b → means f value ≡ f (layer.Bool b)
at-bool f value b e = rw e (ap f (variant.outs-Bool b))

pub at-string : (f : Layer → Meaning) (value : Json) (text : List ℕ) → value ≡ variant.String text → means f value ≡ f (layer.String text)
at-string f value text e = rw e (ap f (variant.outs-String text))

pub no-boolean : (value : Json) → ((b : Bool) → value ≡ variant.Bool b → ⊥) → means boolean_in value ≡ slot_of slot.Null
no-boolean value no_bool = go (out-Value value) refl
  where
    go : (l : Layer) → out-Value value ≡ l → boolean_in l ≡ slot_of slot.Null
    go layer.Null e = refl
    go (layer.Bool b) e = absurd (no_bool b (made value (layer.Bool b) e ∙ variant.rolls-Bool b))
    go (layer.Number n) e = refl
    go (layer.String text) e = refl
    go (layer.Array items) e = refl
    go (layer.Object o) e = refl
