use Rattle.std.proofs.Common.{◌≡◌, None, inl, inr, subst, sym, rules}
use Rattle.cli_words.specs.Words.{IsMarker}
use Rattle.cli_words.proofs.WordsLemmas.{no_avro_words, three_words}
use Rattle.cli_words.proofs.words.read_avro.Goals as goal

pub returns-in_default-read_marker-clause-usage : goal.returns-in_default-read_marker-clause-usage
returns-in_default-read_marker-clause-usage c = λ e.
    let none : c.read_marker.result ≡ None = search rules in
    no_avro_words c.args.words.now c.name-item.result c.rows-item.result c.digits-item.result _
    (three_words c.args.words.now c.name-item.result c.rows-item.result c.digits-item.result c.in-len3-up.len_at_least c.name-item.is c.rows-item.is c.digits-item.is)
    (inr (inr (inl (λ marker h. c.read_marker.ensures.none none marker (subst (λ z. IsMarker z marker) (sym c.as_str-3.ensures) h)))))
