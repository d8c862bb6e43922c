use Rattle.std.proofs.Common.{◌≡◌, Option, Some, None, IfSome, sym}
use Rattle.icu_plurals.specs.Elements.{selected}
use Rattle.icu_plurals.specs.Operands.{Operands, operands_of}
use Rattle.icu_pattern.specs.Patterns.{PatternText}
use Rattle.icu_plurals.specs.Rules.{category_of}
use Rattle.icu_plurals.specs.declared.category.PluralCategory.{PluralCategory}
use Rattle.icu_decimal_data.specs.CompactTable.{TableEntry}
use Rattle.icu_decimal.proofs.compact_formatter.CompactDecimalFormatter.pattern_at.Goals as goal

pub returns-in-Some : goal.returns-in-Some
returns-in-Some c =
    let operands = operands_of c.args.significand.now 0 in
    rw (← c.self.view_is) (go _ _ operands (category_of c.self.inside.plural_rules operands) c.in-Some.ensures.picked)
  where
    go : (o : Option TableEntry) (p : PatternText) (operands : Operands) (category : PluralCategory) →
        IfSome o (λ e. (operands' : Operands) (category' : PluralCategory) → selected e.elements operands' category' ≡ p)
        → IfSome o (λ e. p ≡ selected e.elements operands category)
    go None p operands category h = tt
    go (Some e) p operands category h = sym (h operands category)
