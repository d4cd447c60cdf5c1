-- Each turn takes the symbol before a comma; what follows it is text.
use Rattle.std.proofs.Common.{◌∙◌, ◌∷◌, [], ◌++◌, ap, sym, subst, rules, arith}
use Rattle.cli_words.specs.Types.{AreSymbols}
use Rattle.cli_words.proofs.Bytes.{none_lacks, split_is, split_lacks}
use Rattle.cli_words.proofs.SymbolLemmas.{sound_more, complete_more, no_symbol, no_last_symbol, rest_is_text}
use Rattle.cli_words.proofs.symbols.read_symbols.Goals as goal

pub split_once-requires-text-self : goal.split_once-requires-text-self
split_once-requires-text-self c = λ _. c.loop-symbol.invariant.utf8

pub read_symbol-requires-2-text-word : goal.read_symbol-requires-2-text-word
read_symbol-requires-2-text-word c = λ _. c.loop-symbol.invariant.utf8

pub returns-in_err-read_symbol-clause-usage : goal.returns-in_err-read_symbol-clause-usage
returns-in_err-read_symbol-clause-usage c = λ e.
    let rest = c.loop-symbol.rest.now in
    let at = split_is 44 rest c.in-Some.symbol.now c.in-Some.more.now (omega arith) c.in-Some.ensures.cases in
    let lacks = split_lacks 44 rest c.in-Some.symbol.now c.in-Some.more.now (omega arith) c.in-Some.ensures.cases in
    no_symbol c.args.inside.now rest c.in-Some.symbol.now c.in-Some.more.now at lacks c.loop-symbol.invariant.complete (c.in_err-read_symbol.ensures.usage (search (rules, e)))

pub returns-in_err-read_symbol-2-clause-usage : goal.returns-in_err-read_symbol-2-clause-usage
returns-in_err-read_symbol-2-clause-usage c = λ e.
    let rest = c.loop-symbol.rest.now in
    no_last_symbol c.args.inside.now rest (none_lacks 44 rest (omega arith) c.in_default.ensures.cases) c.loop-symbol.invariant.complete (c.in_err-read_symbol-2.ensures.usage (search (rules, e)))

pub loop-symbol-preserved : goal.loop-symbol-preserved
loop-symbol-preserved c =
    let rest = c.loop-symbol.rest.now in
    let at = split_is 44 rest c.in-Some.symbol.now c.in-Some.more.now (omega arith) c.in-Some.ensures.cases in
    let lacks = split_lacks 44 rest c.in-Some.symbol.now c.in-Some.more.now (omega arith) c.in-Some.ensures.cases in
    let read = c.in_ok-read_symbol.ensures.symbol in
    record {
      utf8 = rest_is_text rest c.in-Some.symbol.now c.in-Some.more.now at c.loop-symbol.invariant.utf8;
      sound = λ more h. subst (λ z. AreSymbols c.args.inside.now (z ++ more)) (sym (c.in_ok-push.ensures.items ∙ ap (λ v. c.loop-symbol.symbols.items ++ (v ∷ [])) read.1))
          (sound_more c.args.inside.now rest c.in-Some.symbol.now c.in-Some.more.now c.loop-symbol.symbols.items at read.0 c.loop-symbol.invariant.sound more h);
      complete = complete_more c.args.inside.now rest c.in-Some.symbol.now c.in-Some.more.now at lacks c.loop-symbol.invariant.complete;
    }
