use Rattle.std.proofs.Common.{rules}
use Rattle.icu_dimension.proofs.SinkWrites.{sink_keeps_limit, sink_writes}
use Rattle.icu_dimension.proofs.compact_currency_formatter.CompactCurrencyFormatter.write.Goals as goal

pub returns-clause-written : goal.returns-clause-written
returns-clause-written g c = sink_writes _ _ _ _ (λ o. o.sink) _ _ _ _ _ _ (search rules) c.write_into-result.ensures.written

pub returns-clause-limited : goal.returns-clause-limited
returns-clause-limited g c = sink_keeps_limit _ _ _ _ (λ o. o.sink) _ _ _ _ _ _ (search rules) c.write_into-result.ensures.written
