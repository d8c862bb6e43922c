-- The bytes of currency codes.
use Rattle.std.proofs.Common.{◌≡◌, ℕ, ◌<◌, List, true, length, arith}
use Rattle.std.specs.Prelude.{IsUtf8, All}
use Rattle.std.specs.List.{list_all}
use Rattle.std.proofs.lemmas.Bool.Decides.{nat_tests}
use Rattle.std.proofs.lemmas.List.Sums.{AllPass-from_list_all}
use Rattle.std.proofs.lemmas.List.Elements.{All-weaker}
use Rattle.std.proofs.lemmas.Str.{IsUtf8-from_ascii}
use Rattle.std.proofs.lemmas.Str.Ascii.{IsAscii-from_all}
use Rattle.icu_dimension_data.specs.Currency.{is_capital, is_currency_code, IsCurrencyCode}

-- a code has three bytes
pub length-of_code : (text : List ℕ) → IsCurrencyCode text → length text ≡ 3
unfolding is_currency_code
length-of_code text h = grind (arith, nat_tests)

capitals : (text : List ℕ) → IsCurrencyCode text → list_all is_capital text ≡ true
unfolding is_currency_code
capitals text h = grind (arith, nat_tests)

-- a code is text, since it is ASCII
pub IsUtf8-code : (text : List ℕ) → IsCurrencyCode text → IsUtf8 text
IsUtf8-code text h =
    let capital : All (λ b. is_capital b ≡ true) text = AllPass-from_list_all is_capital text (capitals text h) in
    let below : (b : ℕ) → is_capital b ≡ true → b < 128 = λ b e. grind (arith, nat_tests) in
    let ascii : All (λ b. b < 128) text = All-weaker (λ b. is_capital b ≡ true) (λ b. b < 128) below text capital in
    IsUtf8-from_ascii text (IsAscii-from_all text ascii)
