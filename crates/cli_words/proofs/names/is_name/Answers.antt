use Rattle.std.proofs.Common.{rules, tests, ◌≡◌}
use Rattle.std.proofs.lemmas.Iterator.Adapters.{YieldsList-from_bytes}
use Rattle.std.proofs.lemmas.Iterator.Search.{all_from_yields_List}
use Rattle.cli_words.specs.Names.{name_byte}
use Rattle.std.specs.List.{list_all}
use Rattle.cli_words.proofs.names.is_name.Goals as goal

pub returns-then-not-is_empty : goal.returns-then-not-is_empty
returns-then-not-is_empty c =
    let all : c.all.result ≡ list_all name_byte c.args.name.now = all_from_yields_List name_byte _ _ _ c.all.ensures.ran (YieldsList-from_bytes c.args.name.now cc) (λ x b q k. search (rules, tests)) in
    rw all search (rules, tests)
