use Rattle.std.proofs.Common.{refl, sym, subst, take}
use Rattle.std.specs.Str.{IsValidUpTo}
use Rattle.json_tree.specs.declared.value.JsonFault.TheVariants.{Text, Depth}
use Rattle.json_tree.proofs.Answering.{ok-json, ok-shallow, err-deep, err-not_deep, err-not_json, prefix-deep, prefix-not_deep, err_is}
use Rattle.json_tree.proofs.Completing.{deep-too_many, too_many-deep}
use Rattle.json_tree.proofs.texts.parse.Goals as goal

pub returns-in-Ok-clause-value : goal.returns-in-Ok-clause-value
returns-in-Ok-clause-value c = ok-json c.whole_text.result c.args.bytes.now c.whole_text.ensures c.in-Ok.ensures.cases.1

pub returns-in-Ok-clause-depth : goal.returns-in-Ok-clause-depth
returns-in-Ok-clause-depth c e = deep-too_many c.args.bytes.now (err-deep c.whole_text.result c.args.bytes.now c.whole_text.ensures c.in-Ok.ensures.cases.1 e)

pub returns-in-Ok-clause-not_deep : goal.returns-in-Ok-clause-not_deep
returns-in-Ok-clause-not_deep c e d = err-not_deep c.whole_text.result c.args.bytes.now c.whole_text.ensures e (too_many-deep c.args.bytes.now d)

pub returns-in-Ok-clause-text : goal.returns-in-Ok-clause-text
returns-in-Ok-clause-text c e v j = err-not_json c.whole_text.result c.args.bytes.now c.whole_text.ensures e v j

pub returns-in-Err-clause-depth : goal.returns-in-Err-clause-depth
returns-in-Err-clause-depth c e =
    let b = c.args.bytes.now in
    let n = c.valid_up_to.result in
    let v = subst (IsValidUpTo b) (sym c.valid_up_to.ensures) c.in-Err.ensures.cases.1 in
    deep-too_many b (prefix-deep b (take n b) n refl v (c.fault_of_prefix.ensures.depth (err_is c.fault_of_prefix.result Depth e)))

pub returns-in-Err-clause-not_deep : goal.returns-in-Err-clause-not_deep
returns-in-Err-clause-not_deep c e d =
    let b = c.args.bytes.now in
    let n = c.valid_up_to.result in
    let v = subst (IsValidUpTo b) (sym c.valid_up_to.ensures) c.in-Err.ensures.cases.1 in
    prefix-not_deep b (take n b) n refl v (c.fault_of_prefix.ensures.text (err_is c.fault_of_prefix.result Text e)) (too_many-deep b d)

pub returns-in-Ok-clause-shallow : goal.returns-in-Ok-clause-shallow
returns-in-Ok-clause-shallow c = ok-shallow c.whole_text.result c.args.bytes.now c.whole_text.ensures c.in-Ok.ensures.cases.1
