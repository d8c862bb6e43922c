use Rattle.std.proofs.Common.{◌≡◌, Bool, true, false, Ok, Err, refl}
use Rattle.std.specs.Prelude.{if◌then◌else◌}
use Rattle.icu_dimension_data.specs.Currency.{is_currency_code}
use Rattle.icu_dimension_data.proofs.Codes.{IsUtf8-code}
use Rattle.number_formatters.specs.Skeleton.{code_letters, code_set}
use Rattle.number_formatters.specs.declared.skeleton.Unsupported.TheVariants.{Currency}
use Rattle.number_formatters.proofs.skeleton.code_set.Goals as goal

pub returns-in_default : goal.returns-in_default
unfolding code_set
returns-in_default c = go (is_currency_code (code_letters c.args.letters)) refl
  where
    go : (b : Bool) → is_currency_code (code_letters c.args.letters) ≡ b
        → Err Currency ≡ (if b then Ok (code_letters c.args.letters) else Err Currency)
    go false is = refl
    go true is = absurd (c.in_default.ensures.cases.0 (IsUtf8-code _ is))
