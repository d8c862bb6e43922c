-- Texts of locales are UTF-8.
use Rattle.std.proofs.Common.{◌≡◌, ℕ, ◌<◌, List, Bool, true, false, refl, arith}
use Rattle.std.specs.Prelude.{All, Err, IsUtf8}
use Rattle.std.specs.List.{list_all}
use Rattle.std.proofs.lemmas.Bool.Decides.{nat_tests}
use Rattle.std.proofs.lemmas.List.Elements.{All-weaker}
use Rattle.std.proofs.lemmas.List.Sums.{AllPass-from_list_all}
use Rattle.std.proofs.lemmas.Str.{IsUtf8-from_ascii}
use Rattle.std.proofs.lemmas.Str.Ascii.{IsAscii-from_all}
use Rattle.icu_provider.specs.Ascii.{is_alphanumeric_or_hyphen}
use Rattle.icu_provider.specs.Locale.{is_locale}
use Rattle.locnum_options.specs.Locale.{locale_named, locale_text}
use Rattle.locnum_options.specs.declared.fault.OptionFault.TheVariants.{Locale}

-- a text of a locale has letters, digits and hyphens alone
plain : (text : List ℕ) → is_locale text ≡ true → list_all is_alphanumeric_or_hyphen text ≡ true
unfolding is_locale
plain text h = grind (arith, nat_tests)

-- the text of a locale is UTF-8, since it is ASCII
locale-utf8 : (text : List ℕ) → is_locale text ≡ true → IsUtf8 text
locale-utf8 text h =
    let plain : All (λ b. is_alphanumeric_or_hyphen b ≡ true) text = AllPass-from_list_all is_alphanumeric_or_hyphen text (plain text h) in
    let below : (b : ℕ) → is_alphanumeric_or_hyphen b ≡ true → b < 128 = λ b e. grind (arith, nat_tests) in
    let ascii : All (λ b. b < 128) text = All-weaker (λ b. is_alphanumeric_or_hyphen b ≡ true) (λ b. b < 128) below text plain in
    IsUtf8-from_ascii text (IsAscii-from_all text ascii)

-- a text that isn't names none
pub unnamed : (text : List ℕ) → ¬ IsUtf8 (locale_text text) → locale_named text ≡ Err Locale
unfolding locale_named
unnamed text h = go (is_locale (locale_text text)) refl
  where
    go : (b : Bool) → is_locale (locale_text text) ≡ b → locale_named text ≡ Err Locale
    go true e = absurd (h (locale-utf8 (locale_text text) e))
    go false e = rw e refl
