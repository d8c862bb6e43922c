use Rattle.std.proofs.Common.{◌≡◌, ◌∙◌, ap}
use Rattle.icu_decimal_symbols.specs.SymbolBytes.{texts_in}
use Rattle.icu_decimal_symbols.proofs.SymbolDamage.{held_texts}
use Rattle.icu_decimal_symbols.proofs.symbols.DecimalSymbolStrsBuilderFromRefDecimalSymbolsStrs.from.Goals as goal

pub returns : goal.returns
returns c =
    let bytes = c.as_slice-bytes.result.now in
    let cut : record {
      minus_sign_prefix = c.text.result.now;
      minus_sign_suffix = c.text-2.result.now;
      plus_sign_prefix = c.text-3.result.now;
      plus_sign_suffix = c.text-4.result.now;
      decimal_separator = c.text-5.result.now;
      grouping_separator = c.text-6.result.now;
      numsys = c.text-7.result.now;
    } ≡ texts_in bytes = λ i. record {
      minus_sign_prefix = c.text.ensures i;
      minus_sign_suffix = c.text-2.ensures i;
      plus_sign_prefix = c.text-3.ensures i;
      plus_sign_suffix = c.text-4.ensures i;
      decimal_separator = c.text-5.ensures i;
      grouping_separator = c.text-6.ensures i;
      numsys = c.text-7.ensures i;
    } in (
      cut ∙ ap texts_in c.as_slice-bytes.ensures.value ∙ c.symbols.view_is,
      held_texts c.symbols.inside.bytes.items c.args.symbols.now c.symbols.invariant c.symbols.view_is,
    )
