use Rattle.std.proofs.Common.{◌∷◌, ◌++◌, [], refl, flat_map}
use Rattle.arrow_base.specs.WrittenString.{escaped, json_string}
use Rattle.arrow_base.proofs.Written.{underway-start, underway-part, underway-stop, underway-stop_if, on_err}
use Rattle.arrow_base.proofs.OneMeaning.{one_meaning}
use Rattle.arrow_base.proofs.ReadsBack.{reads_back}
use Rattle.arrow_base.proofs.utf8.write_str.Goals as goal

pub returns-in_err-write_all-clause-prefix : goal.returns-in_err-write_all-clause-prefix
returns-in_err-write_all-clause-prefix g c =
    on_err _ _ (underway-stop _ _ _ (json_string c.args.value.now) _ (34 ∷ []) (flat_map escaped c.args.value.now ++ 34 ∷ []) refl (underway-start _ _) c.in_err-write_all.ensures.prefix)

pub returns-in_err-write_escaped-clause-prefix : goal.returns-in_err-write_escaped-clause-prefix
returns-in_err-write_escaped-clause-prefix g c =
    let inside = flat_map escaped c.args.value.now in
    let opened = underway-part _ _ _ (json_string c.args.value.now) _ (34 ∷ []) (inside ++ 34 ∷ []) refl (underway-start _ _) c.in_ok-write_all.ensures.ok in
    on_err _ _ (underway-stop _ _ _ _ _ inside (34 ∷ []) refl opened (rw c.as_bytes.ensures.value at c.in_err-write_escaped.ensures.prefix))

pub returns-clause-prefix : goal.returns-clause-prefix
returns-clause-prefix g c =
    let inside = flat_map escaped c.args.value.now in
    let opened = underway-part _ _ _ (json_string c.args.value.now) _ (34 ∷ []) (inside ++ 34 ∷ []) refl (underway-start _ _) c.in_ok-write_all.ensures.ok in
    let written = underway-part _ _ _ _ _ inside (34 ∷ []) refl opened (rw c.as_bytes.ensures.value at c.in_ok-write_escaped.ensures.ok) in
    underway-stop_if c.write_all-2.result _ _ _ _ _ (34 ∷ []) [] refl written c.write_all-2.ensures.prefix

pub returns-in_err-write_all-clause-reads_back : goal.returns-in_err-write_all-clause-reads_back
returns-in_err-write_all-clause-reads_back g c = reads_back _ c.utf8.value

pub returns-in_err-write_escaped-clause-reads_back :
    goal.returns-in_err-write_escaped-clause-reads_back
returns-in_err-write_escaped-clause-reads_back g c = reads_back _ c.utf8.value

pub returns-clause-reads_back : goal.returns-clause-reads_back
returns-clause-reads_back g c = reads_back _ c.utf8.value

pub returns-in_err-write_all-clause-one_meaning : goal.returns-in_err-write_all-clause-one_meaning
returns-in_err-write_all-clause-one_meaning g c = λ other h. one_meaning _ _ _ (reads_back _ c.utf8.value) h

pub returns-in_err-write_escaped-clause-one_meaning :
    goal.returns-in_err-write_escaped-clause-one_meaning
returns-in_err-write_escaped-clause-one_meaning g c = λ other h. one_meaning _ _ _ (reads_back _ c.utf8.value) h

pub returns-clause-one_meaning : goal.returns-clause-one_meaning
returns-clause-one_meaning g c = λ other h. one_meaning _ _ _ (reads_back _ c.utf8.value) h
