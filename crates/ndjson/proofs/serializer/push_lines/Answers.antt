-- Each turn adds a text and a line feed.
use Rattle.std.proofs.Common.{◌≡◌, ℕ, ◌+◌, ◌<◌, ◌++◌, List, codes, flat_map, take, get_or, length, sym, ap, ◌∙◌, append_assoc, arith}
use Rattle.std.proofs.lemmas.List.{flat_map_more, take_more}
use Rattle.arrow_core.specs.declared.slot.Slot.{Slot}
use Rattle.arrow_core.specs.declared.slot.Slot.TheVariants as slot
use Rattle.arrow_array.specs.Arrays.{array_type, array_slots}
use Rattle.json_text.specs.JsonText.{text}
use Rattle.ndjson.proofs.serializer.push_lines.Goals as goal

line_more : (text_of : Slot → List ℕ) (slots : List Slot) (i : ℕ) (d : Slot) (old before with_text now : List ℕ) → i < length slots
    → before ≡ old ++ flat_map (λ s. text_of s ++ codes "\n") (take i slots) → with_text ≡ before ++ text_of (get_or slots i d) → now ≡ with_text ++ codes "\n"
    → now ≡ old ++ flat_map (λ s. text_of s ++ codes "\n") (take (i + 1) slots)
line_more text_of slots i d old before with_text now within so_far added ended =
    let f : Slot → List ℕ = λ s. text_of s ++ codes "\n" in
    ended ∙ ap (λ z. z ++ codes "\n") added ∙ append_assoc before (text_of (get_or slots i d)) (codes "\n") ∙ ap (λ z. z ++ f (get_or slots i d)) so_far
    ∙ flat_map_more f old (take i slots) (get_or slots i d) ∙ ap (λ z. old ++ flat_map f z) (sym (take_more slots i d within))

pub loop-i-preserved : goal.loop-i-preserved
loop-i-preserved c =
    let within : c.loop-i.i < length (array_slots c.args.array.now) = omega arith in
    line_more (text (array_type c.args.array.now)) (array_slots c.args.array.now) c.loop-i.i slot.Null _ _ _ _ within c.loop-i.invariant c.in_ok-push_value.ensures.ok c.in_ok-push.ensures.ok
