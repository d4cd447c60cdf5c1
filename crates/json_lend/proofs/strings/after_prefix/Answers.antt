use Rattle.std.proofs.Common.{◌≢◌, ◌≡◌, ◌++◌, List, ℕ, MatchOption, subst}
use Rattle.std.proofs.lemmas.Bool.Decides.{Decides-eqb}
use Rattle.std.proofs.lemmas.Slice.Eq.{strip_prefix_is}
use Rattle.json_lend.proofs.strings.after_prefix.Goals as goal

pub returns : goal.returns
returns c =
    subst (λ p. MatchOption c.strip_prefix.result ((rest : List ℕ) → c.args.bytes.now ≢ p ++ rest) (λ rest. c.args.bytes.now ≡ p ++ rest.now)) c.as_bytes.ensures.value
    (strip_prefix_is Decides-eqb c.args.bytes.now c.as_bytes.result.now c.strip_prefix.result c.strip_prefix.ensures.cases)
