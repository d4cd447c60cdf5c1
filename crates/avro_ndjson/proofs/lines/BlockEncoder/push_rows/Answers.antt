use Rattle.std.proofs.Common.{◌≡◌, is_ok, true}
use Rattle.avro_ndjson.proofs.Planned.{few_rows, have_texts, shows_block, of_ok, plan_of}
use Rattle.avro_ndjson.proofs.lines.BlockEncoder.push_rows.Goals as goal

pub push_block-requires-clause-texts : goal.push_block-requires-clause-texts
push_block-requires-clause-texts c = have_texts c.args.self.now c.requires

pub returns-then-is_ok-clause-shown : goal.returns-then-is_ok-clause-shown
returns-then-is_ok-clause-shown c = λ _.
    let ok : is_ok c.push_block.result ≡ true = cc (c.is_ok.ensures.value, c.if-is_ok.true) in
    let plan = plan_of c.args.self.now c.in-Some.plan c.requires c.in-Some.is in
    shows_block c.args.self.now c.in-Some.plan c.requires plan c.args.block.now.number_of_rows c.args.block.now.bytes _ _ (of_ok c.push_block.result _ ok c.push_block.ensures.shown) (of_ok c.push_block.result _ ok c.push_block.ensures.small)

pub returns-then-is_ok-clause-few : goal.returns-then-is_ok-clause-few
returns-then-is_ok-clause-few c = λ _.
    let ok : is_ok c.push_block.result ≡ true = cc (c.is_ok.ensures.value, c.if-is_ok.true) in
    let plan = plan_of c.args.self.now c.in-Some.plan c.requires c.in-Some.is in
    few_rows c.args.self.now c.in-Some.plan c.requires plan c.args.block.now.number_of_rows c.args.block.now.bytes _ _ (of_ok c.push_block.result _ ok c.push_block.ensures.shown)
