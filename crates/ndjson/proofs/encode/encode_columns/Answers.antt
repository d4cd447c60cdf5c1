use Rattle.std.proofs.Common.{◌≡◌, ◌+◌, ◌<◌, set, suc, length, rules, subst, arith}
use Rattle.ndjson.proofs.MadeLaws.{all_made, made_length, none_made, one_made, MadeUpto}
use Rattle.ndjson.proofs.encode.encode_columns.Goals as goal

pub loop-i-init : goal.loop-i-init
loop-i-init c =
    let same : length c.args.fields.now ≡ length c.args.columns.now = search rules in
    none_made c.args.fields.now c.args.columns.now same

pub loop-i-preserved : goal.loop-i-preserved
loop-i-preserved c =
    let i = c.loop-i.i in
    let fs = c.args.fields.now in
    let old = c.args.columns.now in
    let now = c.loop-i.columns in
    let f = c.index-fields-i.result in
    let b = c.index-columns-i.result in
    let x = c.encode_column.new.column in
    let same : length fs ≡ length old = search rules in
    let many = made_length i fs old now c.loop-i.invariant in
    let lt : i < length now = omega (arith, many, same, c.loop-i-test.true) in
    let next : suc i ≡ i + 1 = omega arith in
    subst (λ n. MadeUpto n fs old (set now i x)) next (one_made i fs old now f b x lt c.loop-i.invariant c.in_ok-encode_column.ensures)

pub returns : goal.returns
returns c =
    let fs = c.args.fields.now in
    let old = c.args.columns.now in
    let same : length fs ≡ length old = search rules in
    let many = made_length c.loop-i.i fs old c.loop-i.columns c.loop-i.invariant in
    all_made c.loop-i.i fs old c.loop-i.columns (omega (arith, many, same, c.loop-i-test.false)) c.loop-i.invariant
