use Rattle.std.proofs.Common.{◌≡◌, true, refl, sym, subst}
use Rattle.std.specs.Prelude.{MatchBool}
use Rattle.std.specs.Str.{bytes_eq}
use Rattle.std.proofs.lemmas.Slice.Eq.{bytes_eq-Decides}
use Rattle.json_tree.specs.Reading.{found, string_at}
use Rattle.json_lend.proofs.NameLaws.{key_index-guess}
use Rattle.json_lend.proofs.names.passes_at.Goals as goal

pub returns-clause-reads : goal.returns-clause-reads
returns-clause-reads c passed =
    let name = c.index-names-i.result in
    let same : bytes_eq name name ≡ true = (bytes_eq-Decides name name).1 refl in
    let key : string_at c.args.reader.now ≡ found name c.passes.new.reader =
    subst (λ b. MatchBool b (string_at c.args.reader.now ≡ found name c.passes.new.reader) (c.passes.new.reader ≡ c.args.reader.now)) passed c.passes.ensures.key in
    (name, key, (sym (key_index-guess c.args.names.now c.args.i name name c.requires c.if-i-names.false c.index-names-i.is same), c.if-i-names.false))
