use Rattle.std.proofs.Common.{ap, ◌∙◌}
use Rattle.std.specs.Prelude.{if◌then◌else◌}
use Rattle.icu_plurals.specs.Rules.{category_of}
use Rattle.icu_message.specs.Names.{category_name}
use Rattle.icu_message.specs.Numbers.{exact_key}
use Rattle.icu_message.specs.Writing.{key_or_other}
use Rattle.icu_message.proofs.laws.category_of_what_is_shown.Goals as goal

pub returns : goal.returns
returns g c = λ formatter value s shows n rules has is none.
    ap (λ b. if b then exact_key n.whole else key_or_other has (category_name (category_of rules n.operands))) none
    ∙ ap (λ o. key_or_other has (category_name (category_of rules o))) is
