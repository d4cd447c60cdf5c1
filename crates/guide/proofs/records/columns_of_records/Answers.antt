use Rattle.guide.proofs.Tables.{if_table}
use Rattle.guide.proofs.records.columns_of_records.Goals as goal

pub returns : goal.returns
returns c = record {
  table = if_table c.args.text.now c.in_ok-json.json c.in_ok-schema.schema.fields c.deserialize_records.result c.in_ok-json.ensures.value c.in_ok-schema.ensures.fields c.deserialize_records.ensures.table;
}
