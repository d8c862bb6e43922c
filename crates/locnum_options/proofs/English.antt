-- The default locale.
use Rattle.std.proofs.Common.{◌≡◌, refl}
use Rattle.std.specs.Prelude.{codes, true}
use Rattle.icu_provider.specs.Locale.{is_locale}

-- `en` is the text of a locale
pub english_named : is_locale (codes "en") ≡ true
unfolding is_locale
english_named = refl
