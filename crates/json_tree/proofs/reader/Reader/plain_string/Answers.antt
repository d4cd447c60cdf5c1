use Rattle.std.proofs.Common.{◌≡◌, ◌∷◌, ◌++◌, ◌≤◌, ◌∙◌, false, length, take, drop, ap, sym, subst, rules, arith}
use Rattle.std.proofs.lemmas.List.{take-append-drop}
use Rattle.std.proofs.lemmas.List.Sums.{prefix_len-le-length}
use Rattle.std.proofs.lemmas.Str.{IsUtf8-take}
use Rattle.std.specs.Str.{IsUtf8}
use Rattle.json_tree.specs.Grammar.{Each}
use Rattle.arrow_base.specs.JsonString.{is_unescaped}
use Rattle.json_tree.specs.Reading.{First}
use Rattle.json_tree.proofs.InTexts.{in_tail, in_drop, in_after}
use Rattle.json_tree.proofs.Plains.{run-plain, run-stops, run-boundary}
use Rattle.json_tree.proofs.reader.Reader.plain_string.Goals as goal

pub split_at-requires : goal.split_at-requires
split_at-requires c = omega (arith, c.unescaped_len-n.ensures, prefix_len-le-length is_unescaped c.in_ok-first.rest.now)

pub from_utf8_unchecked-requires : goal.from_utf8_unchecked-requires
from_utf8_unchecked-requires c =
    let rest = c.in_ok-first.rest.now in
    let n = c.unescaped_len-n.result in
    let e : c.self.inside.bytes.now ≡ c.in_ok-first.first.now ∷ rest = search rules in
    let u = in_after c.self.inside.bytes.now rest c.in_ok-first.first.now c.self.invariant e (omega (arith, c.if-first-ne34.false)) in
    let l : n ≤ length rest = omega (arith, c.unescaped_len-n.ensures, prefix_len-le-length is_unescaped rest) in
    let s = subst (λ k. First (λ x t. is_unescaped x ≡ false) (drop k rest)) (sym c.unescaped_len-n.ensures) (run-stops rest) in
    subst IsUtf8 (sym c.split_at.ensures.front) (IsUtf8-take rest n u (run-boundary rest n l s))

pub invariant_of-self : goal.invariant_of-self
invariant_of-self c =
    let rest = c.in_ok-first.rest.now in
    let n = c.unescaped_len-n.result in
    let e : c.self.inside.bytes.now ≡ c.in_ok-first.first.now ∷ rest = search rules in
    let t : c.split_at.result.1.now ≡ c.in_ok-last.last.now ∷ c.in_ok-last.following.now = search rules in
    in_tail (drop n rest) c.in_ok-last.following.now c.in_ok-last.last.now (sym c.split_at.ensures.back ∙ t) (in_drop n rest (in_tail c.self.inside.bytes.now rest c.in_ok-first.first.now e c.self.invariant))

pub returns : goal.returns
returns c =
    let rest = c.in_ok-first.rest.now in
    let run = c.from_utf8_unchecked.result.now in
    let n = c.unescaped_len-n.result in
    let f : c.args.self.now ≡ 34 ∷ rest = search rules in
    let t : c.split_at.result.1.now ≡ c.in_ok-last.last.now ∷ c.in_ok-last.following.now = search rules in
    let r = c.from_utf8_unchecked.ensures ∙ c.split_at.ensures.front in
    let d : drop n rest ≡ 34 ∷ c.in_ok-last.following.now = sym c.split_at.ensures.back ∙ t ∙ ap (λ x. x ∷ c.in_ok-last.following.now) c.if-last-ne34.false in
    record {
      found = (
        subst (Each is_unescaped) (sym (r ∙ ap (λ k. take k rest) c.unescaped_len-n.ensures)) (run-plain rest),
        f ∙ ap (λ w. 34 ∷ w) (sym (take-append-drop n rest) ∙ ap (λ a. a ++ drop n rest) (sym r) ∙ ap (λ w. run ++ w) d),
      );
    }
