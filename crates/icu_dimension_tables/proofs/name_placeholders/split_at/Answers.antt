use Rattle.icu_dimension_tables.proofs.Splits.{split_where_found}
use Rattle.icu_dimension_tables.proofs.name_placeholders.split_at.Goals as goal

pub returns : goal.returns
returns c = split_where_found c.args.mark.now c.args.text.now c.split_once.result c.requires c.split_once.ensures.cases
