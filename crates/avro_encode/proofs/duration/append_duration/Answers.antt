use Rattle.std.proofs.Common.{◌≡◌, ℕ, List, ◌++◌, w32, w64, ap, ◌∙◌, append_assoc}
use Rattle.std.proofs.lemmas.Int.{to_z-of_z}
use Rattle.std.proofs.lemmas.Result.{on_ok_weaker}
use Rattle.avro_encode.specs.Plain.{four_bytes, milliseconds}
use Rattle.avro_encode.proofs.duration.append_duration.Goals as goal

joined : (old a b x now next end : List ℕ) → now ≡ old ++ a → next ≡ now ++ b → end ≡ next ++ x → end ≡ old ++ (a ++ (b ++ x))
joined old a b x now next end e f g =
    g ∙ ap (λ (z : List ℕ). z ++ x) (f ∙ ap (λ (z : List ℕ). z ++ b) e) ∙ append_assoc (old ++ a) b x ∙ append_assoc old a (b ++ x)

pub returns : goal.returns
returns c = record {
  ok =
      let old = c.args.out.now.items in
      let m = ap four_bytes (to_z-of_z w32 c.args.months c.ranges.months) in
      let d = ap four_bytes (to_z-of_z w32 c.args.days c.ranges.days) in
      let s = ap four_bytes (to_z-of_z w32 c.milliseconds.result (record { sfits = c.milliseconds.type_inv }) ∙ c.milliseconds.ensures ∙ ap milliseconds (to_z-of_z w64 c.args.nanoseconds c.ranges.nanoseconds)) in
      on_ok_weaker c.append_four-3.result
      (λ e. joined old (four_bytes c.args.months) (four_bytes c.args.days) (four_bytes (milliseconds c.args.nanoseconds)) c.append_four.new.out.items c.append_four-2.new.out.items c.append_four-3.new.out.items
      (c.in_ok-append_four.ensures.ok ∙ ap (λ (z : List ℕ). old ++ z) m) (c.in_ok-append_four-2.ensures.ok ∙ ap (λ (z : List ℕ). c.append_four.new.out.items ++ z) d) (e ∙ ap (λ (z : List ℕ). c.append_four-2.new.out.items ++ z) s))
      c.append_four-3.ensures.ok;
}
