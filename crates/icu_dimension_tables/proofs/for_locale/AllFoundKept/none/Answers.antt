use Rattle.icu_dimension_tables.proofs.for_locale.AllFoundKept.none.Goals as goal

pub returns : goal.returns
returns c = λ locale. record {
  numbers = c.none-numbers.ensures locale;
  digits = tt;
  percents = tt;
  units = tt;
  money = tt;
  symbols = tt;
  decimals = tt;
  compact = tt;
}
