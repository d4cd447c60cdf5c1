use Rattle.json_infer.proofs.ArrayTypes.{array_type}
use Rattle.json_infer.proofs.infer_schema.+infer.Goals as goal

pub infer-returns-in-Array-clause-inferred : goal.infer-returns-in-Array-clause-inferred
infer-returns-in-Array-clause-inferred t c =
    array_type c.infer_items.result c.args.json.now c.in-Array.items c.as_slice.result.now c.in-Array.is c.as_slice.ensures c.infer_items.ensures.inferred
