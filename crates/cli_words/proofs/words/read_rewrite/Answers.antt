use Rattle.std.proofs.Common.{◌≡◌, None, inr, subst, sym, rules}
use Rattle.cli_words.specs.Words.{IsMarker}
use Rattle.cli_words.proofs.WordsLemmas.{no_rewrite_words, two_words}
use Rattle.cli_words.proofs.words.read_rewrite.Goals as goal

pub returns-in_default-read_marker-clause-usage : goal.returns-in_default-read_marker-clause-usage
returns-in_default-read_marker-clause-usage c = λ e.
    let none : c.read_marker.result ≡ None = search rules in
    no_rewrite_words c.args.words.now c.name-item.result c.digits-item.result
    (two_words c.args.words.now c.name-item.result c.digits-item.result c.in-len2.len_at_least c.in-len2.len_below c.name-item.is c.digits-item.is)
    (inr (λ marker h. c.read_marker.ensures.none none marker (subst (λ z. IsMarker z marker) (sym c.as_str-2.ensures) h)))
