use Rattle.icu_table_entries.proofs.Splits.{split_where_found}
use Rattle.icu_table_entries.proofs.pattern_text.split_at_placeholder.Goals as goal

pub returns : goal.returns
returns c = split_where_found c.args.text.now c.split_once.result c.split_once.ensures.cases
