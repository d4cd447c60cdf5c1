use Rattle.std.proofs.Common.{List, ℕ, ◌≡◌, ◌∙◌, ap, sym, true, to_z, of_z, to_z-of_z, w64}
use Rattle.std.proofs.lemmas.Result.{on_ok_weaker}
use Rattle.json_dates.specs.Times.{is_printed_timestamp, local_day, second_of_day, nanoseconds}
use Rattle.json_dates.proofs.Texts.{timestamp_json-printed}
use Rattle.json_dates.proofs.timestamps.push_timestamp.Goals as goal

pub returns-clause-ok : goal.returns-clause-ok
returns-clause-ok c =
    let at = c.in-Some.at in
    let unit = c.args.unit in
    let offset = c.args.offset in
    let value = c.args.value in
    let back : to_z w64 (of_z w64 value) ≡ value = to_z-of_z c.ranges.value in
    let printed : is_printed_timestamp unit offset value ≡ true = ap (is_printed_timestamp unit offset) (sym back) ∙ c.in-Some.ensures.printed in
    let day : at.day ≡ local_day unit offset value = c.in-Some.ensures.day ∙ ap (local_day unit offset) back in
    let second : at.second ≡ second_of_day unit offset value = c.in-Some.ensures.second ∙ ap (second_of_day unit offset) back in
    let nanosecond : c.nanoseconds.result ≡ nanoseconds unit value = c.nanoseconds.ensures ∙ ap (nanoseconds unit) back in
    on_ok_weaker c.push_zone.result (λ e. ◌∙◌ {A = List ℕ} e (rw (c.in_ok-push_fraction.ensures.ok, c.in_ok-push_second.ensures.ok, c.reserve.ensures.items) (timestamp_json-printed c.args.out.now.items unit offset value at.day at.second c.nanoseconds.result printed day second nanosecond))) c.push_zone.ensures.ok
