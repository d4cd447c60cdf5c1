use Rattle.std.proofs.Common.{◌≡◌, ℕ, List, cond, [], ◌∷◌, length, get_or, subst, sym, ap, append-nil, rules}
use Rattle.ndjson_read.specs.FileReader.{limit_of, batch_of, shown_of, wanted_of}
use Rattle.ndjson_read.specs.Reading.{ShowsRows}
use Rattle.ndjson_read.proofs.RowLemmas.{handed_on}
use Rattle.json_infer.specs.RowsSeen.{StandsFor}
use Rattle.ndjson_read.specs.SoFar.{EndsInFeed}
use Rattle.ndjson_read.proofs.Adding.{value_err, shown_first, shown_length, limit_shown, few_wanted}
use Rattle.ndjson_read.proofs.RowTypeLemmas.{adds_none, adds_one}
use Rattle.ndjson_read.proofs.lines.add_row.Goals as goal

pub returns-in_err-add_text-in-Some-len1-up-clause-err : goal.returns-in_err-add_text-in-Some-len1-up-clause-err
returns-in_err-add_text-in-Some-len1-up-clause-err g c =
    let few = few_wanted (limit_of c.args.reader.now) (batch_of c.args.reader.now) c.requires.batch in
    let lent = c.in-Some-len1-up in
    let is : c.as_str-text.result.now ≡ get_or lent.field-0.now 0 [] = search rules in
    let shows = shown_first (wanted_of c.args.reader.now) _ _ _ lent.field-0.now c.as_str-text.result.now few lent.ensures.0 lent.len_at_least is (c.in_ok-advance.ensures.ok c.requires.open) in
    handed_on _ _ c.from_residual-in_err-add_text-in-Some-len1-up.result c.from_residual-in_err-add_text-in-Some-len1-up.ensures.1
    (value_err _ _ _ _ _ shows c.in_err-add_text-in-Some-len1-up.ensures.err)

pub returns-in_ok-add_text-in-Some-len1-up-clause-ok : goal.returns-in_ok-add_text-in-Some-len1-up-clause-ok
returns-in_ok-add_text-in-Some-len1-up-clause-ok g c =
    let few = few_wanted (limit_of c.args.reader.now) (batch_of c.args.reader.now) c.requires.batch in
    let lent = c.in-Some-len1-up in
    let is : c.as_str-text.result.now ≡ get_or lent.field-0.now 0 [] = search rules in
    let all = c.in_ok-advance.ensures.ok c.requires.open in
    let shows = shown_first (wanted_of c.args.reader.now) _ _ _ lent.field-0.now c.as_str-text.result.now few lent.ensures.0 lent.len_at_least is all in
    let one = shown_length (wanted_of c.args.reader.now) _ _ _ lent.field-0.now few lent.ensures.0 lent.len_at_least all in
    let added = c.in_ok-add_text-in-Some-len1-up.ensures.added in (
      added.0 ∷ [],
      adds_one _ _ _ _ _ _ few shows added.1 (subst (λ (z : List ℕ). cond c.ends_in_feed.result (EndsInFeed z) (EndsInFeed z → ⊥)) c.as_bytes.ensures.value c.ends_in_feed.ensures),
      added.2,
      limit_shown _ _ _ 1 c.in_ok-advance.ensures.limit one,
    )

pub returns-in_default-2-clause-ok : goal.returns-in_default-2-clause-ok
returns-in_default-2-clause-ok g c =
    let none : shown_of c.advance.new.self ≡ [] = rw c.in_default.is at c.get.ensures in
    let all = c.in_ok-advance.ensures.ok c.requires.open in (
      [],
      adds_none (wanted_of c.args.reader.now) _ _ (subst (ShowsRows (wanted_of c.args.reader.now) _ _) none all),
      (λ rows h. subst (StandsFor c.args.types.now) (sym (append-nil rows)) h),
      limit_shown _ _ _ 0 c.in_ok-advance.ensures.limit (ap length none),
    )
