use Rattle.std.proofs.Common.{◌≡◌, ◌≤◌, ◌++◌, ◌∙◌, ℕ, List, length, take, drop, sym, subst, arith}
use Rattle.std.proofs.lemmas.List.{take-take, take-append-le}
use Rattle.ndjson_read.specs.OneLine.{state_of as line_state}
use Rattle.ndjson_read.specs.Reading.{ShowsRows}
use Rattle.ndjson_read.proofs.file_reader.read_batch.Goals as goal

-- the prefix of a vector that was lent whole
prefix : (n len : ℕ) (lent rest : List (List ℕ)) → n ≤ length lent → n ≤ len → take n (take len (lent ++ rest)) ≡ take n lent
prefix n len lent rest within small = take-take n len _ small ∙ take-append-le n lent rest within

pub returns-clause-ok : goal.returns-clause-ok
returns-clause-ok g c =
    let lent = c.read_rows.new.rows in
    let shown = c.in_ok-shown.shown in
    let small : shown ≤ c.args.rows.now.len = omega (arith, c.in_ok-shown.ensures.count, c.requires) in
    let within : shown ≤ length lent = omega (arith, c.in_ok-shown.ensures.count, c.requires, c.read_rows.auto.rows, c.deref_mut.ensures.len) in
    subst (λ (z : List (List ℕ)). ShowsRows c.args.wanted (line_state g.S.Source.left g.S.Source.faults c.args.lines.now) (line_state g.S.Source.left g.S.Source.faults c.read_rows.new.source) z)
    (sym (prefix shown c.args.rows.now.len lent (drop (length lent) c.args.rows.now.items) within small)) c.in_ok-shown.ensures.ok
