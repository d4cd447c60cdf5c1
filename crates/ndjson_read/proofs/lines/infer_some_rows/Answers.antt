use Rattle.std.proofs.Common.{◌≡◌, IfOk, IfErr, rules}
use Rattle.ndjson_read.specs.FileReader.{source_of}
use Rattle.ndjson_read.specs.Inference.{told_of, InfersType, NoType}
use Rattle.ndjson_read.proofs.Steps.{moved, no_memory_first, untyped}
use Rattle.ndjson_read.proofs.lines.infer_some_rows.Goals as goal

pub returns-clause-ok : goal.returns-clause-ok
returns-clause-ok g c =
    let start : (source_of c.new-lines.result).now ≡ c.args.reader.now = search rules in
    moved (λ n l x y. IfOk c.infer_rows-answer.result (InfersType n l (told_of g.S.Source.left g.S.Source.faults x) (told_of g.S.Source.left g.S.Source.faults y))) _ _ _ _ _ _ _ _
    c.new-lines.ensures.limit c.new-lines.ensures.byte_limit start (search rules) c.infer_rows-answer.ensures.ok

pub returns-clause-err : goal.returns-clause-err
returns-clause-err g c =
    let start : (source_of c.new-lines.result).now ≡ c.args.reader.now = search rules in
    moved (λ n l x y. IfErr c.infer_rows-answer.result (NoType n l (told_of g.S.Source.left g.S.Source.faults x) (told_of g.S.Source.left g.S.Source.faults y))) _ _ _ _ _ _ _ _
    c.new-lines.ensures.limit c.new-lines.ensures.byte_limit start (search rules) c.infer_rows-answer.ensures.err

pub returns-in_err-push-clause-err : goal.returns-in_err-push-clause-err
returns-in_err-push-clause-err g c =
    untyped _ _ _ _ c.from_residual.result (no_memory_first c.args.number_of_rows c.args.byte_limit _ c.requires.some) (search rules)
