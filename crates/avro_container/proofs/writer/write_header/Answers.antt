use Rattle.std.proofs.Common.{rules, pos, length, ◌++◌, ◌∷◌, [], subst}
use Rattle.std.specs.Io.KnownBytes.{Appends}
use Rattle.arrow_base.specs.Outside.{AppendsPrefix}
use Rattle.avro_container.specs.Shortest.{shortest}
use Rattle.avro_container.proofs.Writes.{opening, opened, cut_first, cut_later, cut_last, whole_later, whole_last, on_err}
use Rattle.avro_container.proofs.writer.write_header.Goals as goal

pub returns-in_err-write_all-clause-prefix : goal.returns-in_err-write_all-clause-prefix
returns-in_err-write_all-clause-prefix g c = on_err _ _ (subst (AppendsPrefix _ _) (opened c.args.text.now c.args.marker) (cut_first _ _ _ opening ((shortest (pos (length c.args.text.now))) ++ (c.args.text.now ++ ((0 ∷ []) ++ c.args.marker))) c.in_err-write_all.ensures.prefix (search rules)))

pub returns-in_err-write_all-2-clause-prefix : goal.returns-in_err-write_all-2-clause-prefix
returns-in_err-write_all-2-clause-prefix g c = on_err _ _ (subst (AppendsPrefix _ _) (opened c.args.text.now c.args.marker) (cut_later _ _ _ _ opening ((shortest (pos (length c.args.text.now))) ++ (c.args.text.now ++ ((0 ∷ []) ++ c.args.marker))) c.in_ok-write_all.ensures.ok (search rules) (cut_first _ _ _ (shortest (pos (length c.args.text.now))) (c.args.text.now ++ ((0 ∷ []) ++ c.args.marker)) c.in_err-write_all-2.ensures.prefix (search rules))))

pub returns-in_err-write_all-3-clause-prefix : goal.returns-in_err-write_all-3-clause-prefix
returns-in_err-write_all-3-clause-prefix g c = on_err _ _ (subst (AppendsPrefix _ _) (opened c.args.text.now c.args.marker) (cut_later _ _ _ _ opening ((shortest (pos (length c.args.text.now))) ++ (c.args.text.now ++ ((0 ∷ []) ++ c.args.marker))) c.in_ok-write_all.ensures.ok (search rules) (cut_later _ _ _ _ (shortest (pos (length c.args.text.now))) (c.args.text.now ++ ((0 ∷ []) ++ c.args.marker)) c.in_ok-write_all-2.ensures.ok (search rules) (cut_first _ _ _ c.args.text.now ((0 ∷ []) ++ c.args.marker) c.in_err-write_all-3.ensures.prefix (search rules)))))

pub returns-in_err-write_all-4-clause-prefix : goal.returns-in_err-write_all-4-clause-prefix
returns-in_err-write_all-4-clause-prefix g c = on_err _ _ (subst (AppendsPrefix _ _) (opened c.args.text.now c.args.marker) (cut_later _ _ _ _ opening ((shortest (pos (length c.args.text.now))) ++ (c.args.text.now ++ ((0 ∷ []) ++ c.args.marker))) c.in_ok-write_all.ensures.ok (search rules) (cut_later _ _ _ _ (shortest (pos (length c.args.text.now))) (c.args.text.now ++ ((0 ∷ []) ++ c.args.marker)) c.in_ok-write_all-2.ensures.ok (search rules) (cut_later _ _ _ _ c.args.text.now ((0 ∷ []) ++ c.args.marker) c.in_ok-write_all-3.ensures.ok (search rules) (cut_first _ _ _ (0 ∷ []) c.args.marker c.in_err-write_all-4.ensures.prefix (search rules))))))

pub returns-in_err-write_all-5-clause-prefix : goal.returns-in_err-write_all-5-clause-prefix
returns-in_err-write_all-5-clause-prefix g c = on_err _ _ (subst (AppendsPrefix _ _) (opened c.args.text.now c.args.marker) (cut_later _ _ _ _ opening ((shortest (pos (length c.args.text.now))) ++ (c.args.text.now ++ ((0 ∷ []) ++ c.args.marker))) c.in_ok-write_all.ensures.ok (search rules) (cut_later _ _ _ _ (shortest (pos (length c.args.text.now))) (c.args.text.now ++ ((0 ∷ []) ++ c.args.marker)) c.in_ok-write_all-2.ensures.ok (search rules) (cut_later _ _ _ _ c.args.text.now ((0 ∷ []) ++ c.args.marker) c.in_ok-write_all-3.ensures.ok (search rules) (cut_later _ _ _ _ (0 ∷ []) c.args.marker c.in_ok-write_all-4.ensures.ok (search rules) (cut_last _ _ _ c.args.marker c.in_err-write_all-5.ensures.prefix (search rules)))))))

pub returns-clause-ok : goal.returns-clause-ok
returns-clause-ok g c = subst (Appends _ _) (opened c.args.text.now c.args.marker) (whole_later _ _ _ _ opening ((shortest (pos (length c.args.text.now))) ++ (c.args.text.now ++ ((0 ∷ []) ++ c.args.marker))) c.in_ok-write_all.ensures.ok (search rules) (whole_later _ _ _ _ (shortest (pos (length c.args.text.now))) (c.args.text.now ++ ((0 ∷ []) ++ c.args.marker)) c.in_ok-write_all-2.ensures.ok (search rules) (whole_later _ _ _ _ c.args.text.now ((0 ∷ []) ++ c.args.marker) c.in_ok-write_all-3.ensures.ok (search rules) (whole_later _ _ _ _ (0 ∷ []) c.args.marker c.in_ok-write_all-4.ensures.ok (search rules) (whole_last _ _ _ c.args.marker c.in_ok-write_all-5.ensures.ok (search rules))))))
