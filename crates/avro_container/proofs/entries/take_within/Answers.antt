use Rattle.std.proofs.lemmas.Result.{IfErr-weaker}
use Rattle.avro_container.proofs.StatedSizes as stated
use Rattle.avro_container.specs.FileForms.{entry}
use Rattle.avro_container.specs.Forms.{many}
use Rattle.avro_container.proofs.entries.take_within.Goals as goal

pub returns-in-Ok-clause-stops : goal.returns-in-Ok-clause-stops
returns-in-Ok-clause-stops g c =
    IfErr-weaker c.used_up.result _ _ (λ e h. stated.under_ended_early (many entry c.args.n) c.args.size _ _ _ _ _ _ _ _ _ c.requires h.1 c.in-Ok.ensures.ok.passed e h.0) c.used_up.ensures.err
