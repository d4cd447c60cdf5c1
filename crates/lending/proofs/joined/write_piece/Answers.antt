use Rattle.std.proofs.Common.{◌∷◌, [], refl, sym, append-nil}
use Rattle.arrow_base.proofs.Written.{underway-start, underway-part, underway-stop, underway-stop_if, on_err}
use Rattle.lending.proofs.joined.write_piece.Goals as goal

pub returns-in_err-write_all-clause-prefix : goal.returns-in_err-write_all-clause-prefix
returns-in_err-write_all-clause-prefix g c =
    rw c.if-is_first.false (on_err _ _ (underway-stop _ _ _ _ (c.args.separator ∷ c.args.item.now) (c.args.separator ∷ []) c.args.item.now refl (underway-start _ _) c.in_err-write_all.ensures.prefix))

pub returns-clause-prefix : goal.returns-clause-prefix
returns-clause-prefix g c =
    let after = underway-part _ _ _ (c.args.separator ∷ c.args.item.now) _ (c.args.separator ∷ []) c.args.item.now refl (underway-start _ _) c.in_ok-write_all.ensures.ok in
    rw c.if-is_first.false (underway-stop_if c.write_all-3.result _ _ _ _ _ c.args.item.now [] (sym (append-nil c.args.item.now)) after c.write_all-3.ensures.prefix)
