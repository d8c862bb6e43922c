use Rattle.icu_decimal_options.proofs.GroupingLaws.{cut-is_grouping, grouping-unique}
use Rattle.icu_decimal_options.proofs.laws.grouping_is_unique.Goals as goal

pub returns : goal.returns
returns c = record {
  some = λ digits primary secondary hp hs more. cut-is_grouping primary secondary hp hs digits more;
  one = λ digits primary secondary groups hp is. grouping-unique primary secondary hp digits groups is;
}
