use Rattle.std.proofs.Common.{◌≡◌, ◌≤◌, ◌∙◌, false, length, take, drop, ap, sym, subst, rules, arith}
use Rattle.std.proofs.lemmas.List.Sums.{prefix_len-le-length}
use Rattle.std.proofs.lemmas.Str.{IsUtf8-take, IsUtf8-drop}
use Rattle.std.specs.Str.{IsUtf8}
use Rattle.json_tree.specs.Grammar.{Each}
use Rattle.arrow_base.specs.JsonString.{is_unescaped}
use Rattle.json_tree.specs.Reading.{First}
use Rattle.json_tree.proofs.Plains.{run-plain, run-stops, run-boundary}
use Rattle.json_tree.proofs.reader.Reader.unescaped_run.Goals as goal

pub split_at-requires : goal.split_at-requires
split_at-requires c = omega (arith, c.unescaped_len-n.ensures, prefix_len-le-length is_unescaped c.self.inside.bytes.now)

pub from_utf8_unchecked-requires : goal.from_utf8_unchecked-requires
from_utf8_unchecked-requires c =
    let b = c.self.inside.bytes.now in
    let n = c.unescaped_len-n.result in
    let v : c.args.self.now ≡ b = search rules in
    let l : n ≤ length b = omega (arith, c.unescaped_len-n.ensures, prefix_len-le-length is_unescaped b) in
    let s = subst (λ k. First (λ x t. is_unescaped x ≡ false) (drop k b)) (sym c.unescaped_len-n.ensures) (run-stops b) in
    subst IsUtf8 (sym c.split_at.ensures.front) (IsUtf8-take b n (subst IsUtf8 v c.requires) (run-boundary b n l s))

pub returns-clause-plain : goal.returns-clause-plain
returns-clause-plain c =
    let b = c.self.inside.bytes.now in
    let e = c.from_utf8_unchecked.ensures ∙ c.split_at.ensures.front ∙ ap (λ k. take k b) c.unescaped_len-n.ensures in
    subst (Each is_unescaped) (sym e) (run-plain b)

pub returns-clause-stops : goal.returns-clause-stops
returns-clause-stops c =
    let b = c.self.inside.bytes.now in
    let e = c.split_at.ensures.back ∙ ap (λ k. drop k b) c.unescaped_len-n.ensures in
    subst (First (λ x t. is_unescaped x ≡ false)) (sym e) (run-stops b)

pub returns-clause-text : goal.returns-clause-text
returns-clause-text c =
    let b = c.self.inside.bytes.now in
    let n = c.unescaped_len-n.result in
    let v : c.args.self.now ≡ b = search rules in
    let l : n ≤ length b = omega (arith, c.unescaped_len-n.ensures, prefix_len-le-length is_unescaped b) in
    let s = subst (λ k. First (λ x t. is_unescaped x ≡ false) (drop k b)) (sym c.unescaped_len-n.ensures) (run-stops b) in
    subst IsUtf8 (sym c.split_at.ensures.back) (IsUtf8-drop b n (subst IsUtf8 v c.requires) (run-boundary b n l s))
