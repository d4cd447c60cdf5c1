use Rattle.std.proofs.Common.{◌∙◌, List, map, refl, sym, ap, subst, arith}
use Rattle.std.proofs.lemmas.Bool.Decides.{nat_tests}
use Rattle.std.proofs.lemmas.Result.{on_ok_weaker}
use Rattle.arrow_array.specs.Arrays.{array_slots}
use Rattle.avro_schema.specs.declared.schema.AvroField.{AvroField}
use Rattle.avro_container.specs.Canonical.{canonical_block}
use Rattle.avro_container.specs.File.{the_block}
use Rattle.avro_write.specs.Rows.{rows}
use Rattle.avro_canonical.specs.Canonical.{IsRewriting, Rewriting}
use Rattle.avro_canonical.specs.Columns.{AreAccepted, HaveEncodings, encodings}
use Rattle.avro_canonical.proofs.Rewriting.{all_accepted, all_counted, block_appended}
use Rattle.avro_canonical.proofs.rewriter.BlockRewriter.push_columns.Goals as goal

pub fill_block-requires-clause-accepted : goal.fill_block-requires-clause-accepted
fill_block-requires-clause-accepted c =
    let is : IsRewriting c.args.self.now = subst IsRewriting c.self.view_is c.self.invariant.rewriting in
    let r = c.requires in
    subst (λ (fs : List AvroField). AreAccepted fs c.args.columns.now) (sym (c.as_slice.ensures ∙ ap (λ (w : Rewriting). w.fields) c.self.view_is))
    (all_accepted c.args.self.now is r.possible c.args.number_of_rows c.args.bytes.now c.args.columns.now r.bytes r.columns r.types r.counted r.symbols)

pub fill_block-requires-clause-lengths : goal.fill_block-requires-clause-lengths
fill_block-requires-clause-lengths c =
    let is : IsRewriting c.args.self.now = subst IsRewriting c.self.view_is c.self.invariant.rewriting in
    let r = c.requires in
    all_counted c.args.self.now is r.possible c.args.number_of_rows c.args.bytes.now c.args.columns.now r.bytes r.columns r.types r.counted r.symbols c.args.number_of_rows refl

pub returns-clause-ok : goal.returns-clause-ok
returns-clause-ok c =
    let is : IsRewriting c.args.self.now = subst IsRewriting c.self.view_is c.self.invariant.rewriting in
    let r = c.requires in
    let block = c.fill_block.new.block in
    let fields = c.as_slice.ensures ∙ ap (λ (w : Rewriting). w.fields) c.self.view_is in
    let filled = c.in_ok-fill_block.ensures.bytes ∙ ap (λ (fs : List AvroField). rows c.args.number_of_rows (encodings fs (map array_slots c.args.columns.now))) fields in
    on_ok_weaker c.append_block.result
    (λ appended.
    block_appended c.args.self.now is r.possible c.args.number_of_rows c.args.bytes.now c.args.columns.now r.bytes r.columns r.types r.counted r.symbols
    c.args.out.now.items c.append_block.new.out.items (canonical_block c.self.inside.marker (the_block block.number_of_rows block.bytes)) block.bytes block.number_of_rows
    (λ none. grind (arith, nat_tests, c.if-number_of_rows-eq0.false, none))
    (subst (λ (fs : List AvroField). HaveEncodings fs c.args.columns.now) fields c.in_ok-fill_block.ensures.encoded) c.in_ok-fill_block.ensures.number (filled ∙ ap (λ k. rows k (encodings c.args.self.now.fields (map array_slots c.args.columns.now))) (sym c.in_ok-fill_block.ensures.number))
    (ap (λ (w : Rewriting). canonical_block w.marker (the_block block.number_of_rows block.bytes)) c.self.view_is) appended)
    c.append_block.ensures.ok
