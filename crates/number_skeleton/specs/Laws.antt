-- What holds of all skeletons.
use Rattle.std.specs.Prelude.{◌≡◌, ◌↔◌, ℕ, zero, suc, ◌≤◌, Bool, true, false, ◌&&◌, List, [], ◌∷◌, map, Option, Some, None}
use Rattle.std.specs.Prelude.{Ok, ⊤}
use Rattle.fixed_decimal.specs.declared.signs.SignDisplay.{SignDisplay}
use Rattle.fixed_decimal.specs.declared.signs.SignDisplay.TheVariants as sign
use Rattle.fixed_decimal.specs.Rounding.{zeros_at, scale_at}
use Rattle.skeleton_settings.specs.declared.settings.CurrencyLetters.{CurrencyLetters}
use Rattle.skeleton_settings.specs.declared.settings.Notation.{Notation}
use Rattle.skeleton_settings.specs.declared.settings.Precision.{Precision}
use Rattle.skeleton_settings.specs.declared.settings.Precision.TheVariants as precision
use Rattle.skeleton_settings.specs.Canonical.{canonical_of}
use Rattle.number_skeleton.specs.Cuts.{tokens_from}
use Rattle.skeleton_settings.specs.Settings.{SkeletonData, UnitData, nothing, percent, permille, currency, named}
use Rattle.number_skeleton.specs.Drafts.{is_compact, is_no_divisor}
use Rattle.number_skeleton.specs.Options.{is_capital, unit_of, system_of}
use Rattle.number_skeleton.specs.Tokens.{skeleton_of}

-- three capital letters
abbrev pub IsLetters : CurrencyLetters → Type 0
IsLetters c = (is_capital c.first ≡ true) × ((is_capital c.second ≡ true) × (is_capital c.third ≡ true))

-- a unit that a text may set
abbrev pub IsUnit : UnitData → Type 0
IsUnit nothing = ⊤
IsUnit percent = ⊤
IsUnit permille = ⊤
IsUnit (currency c) = IsLetters c
IsUnit (named name) = unit_of name ≡ Ok (named name)

-- counts of at most 999, the least not above the greatest
abbrev pub AreCounts : ℕ → Option ℕ → Type 0
AreCounts least None = least ≤ 999
AreCounts least (Some most) = (least ≤ most) × (most ≤ 999)

-- fraction digits that may stand beside significant ones
abbrev pub IsLimited : ℕ → Option ℕ → Type 0
IsLimited least None = 1 ≤ least
IsLimited least (Some most) = ⊤

-- one significant digit at least, where the least count of fraction digits stays
abbrev pub IsFew : ℕ → Bool → Type 0
IsFew few true = few ≡ 1
IsFew few false = 1 ≤ few

-- a precision that a text may set
abbrev pub IsPrecision : Precision → Type 0
IsPrecision (precision.Fraction least most) = AreCounts least most
IsPrecision (precision.Significant least most) = (1 ≤ least) × AreCounts least most
IsPrecision (precision.Increment increment power least) = (zeros_at power ≤ 999) × ((scale_at power ≤ least) × (least ≤ 999))
IsPrecision (precision.Both least most few many priority keeps_least) =
    AreCounts least most × (IsLimited least most × (IsFew few keeps_least × ((few ≤ many) × (many ≤ 999))))
IsPrecision (precision.Currency is_cash) = ⊤

-- a precision and `/w`; without the first there isn't the second
abbrev pub AreDigits : Option Precision → Bool → Type 0
AreDigits None hides = hides ≡ false
AreDigits (Some p) hides = IsPrecision p

-- the name of a numbering system
abbrev pub IsSystem : Option (List ℕ) → Type 0
IsSystem None = ⊤
IsSystem (Some name) = system_of name ≡ Ok name

-- there is no form for accounting that never shows a sign
abbrev pub AreSigns : SignDisplay → Bool → Type 0
AreSigns sign.Never is_accounting = is_accounting ≡ false
AreSigns sign.Auto is_accounting = ⊤
AreSigns sign.Always is_accounting = ⊤
AreSigns sign.ExceptZero is_accounting = ⊤
AreSigns sign.Negative is_accounting = ⊤

-- the notation and the increment go together
abbrev pub GoTogether : Notation → Option Precision → Type 0
GoTogether n None = ⊤
GoTogether n (Some p) = (is_compact (Some n) && is_no_divisor p) ≡ false

-- settings that a text may set
pub record AreSettings (s : SkeletonData) : Type 0 where
  pub unit : IsUnit s.unit
  pub digits : AreDigits s.precision s.hides_zeros_of_whole
  pub some_integer : 1 ≤ s.integer_digits
  pub integer : s.integer_digits ≤ 999
  pub above : zeros_at s.scale ≤ 999
  pub below : scale_at s.scale ≤ 999
  pub system : IsSystem s.system
  pub signs : AreSigns s.sign s.is_accounting
  pub together : GoTogether s.notation s.precision

-- reading the canonical text of settings gives these settings
abbrev pub CanonicalIsRead : Type 0
CanonicalIsRead = (s : SkeletonData) → AreSettings s → skeleton_of (canonical_of s) ≡ Ok s

-- the tokens of a text, without their bytes
abbrev pub word_of : ℕ × List ℕ → List ℕ
word_of token = token.1

abbrev pub words_of : List ℕ → List (List ℕ)
words_of text = map word_of (tokens_from 0 0 text)

-- two neighbours, at this place of a list, change places
unfoldable pub exchanged : {A : Type 0} → ℕ → List A → List A
exchanged zero [] = []
exchanged zero (a ∷ []) = a ∷ []
exchanged zero (a ∷ b ∷ xs) = b ∷ a ∷ xs
exchanged (suc n) [] = []
exchanged (suc n) (a ∷ xs) = a ∷ exchanged n xs

-- another order: neighbours change places, one pair after the other
unfoldable pub reordered : {A : Type 0} → List ℕ → List A → List A
reordered [] xs = xs
reordered (index ∷ indexes) xs = reordered indexes (exchanged index xs)

-- a text of the same tokens in another order is read as the same settings
abbrev pub OrderIsNothing : Type 0
OrderIsNothing = (indexes text other : List ℕ) (s : SkeletonData) → words_of other ≡ reordered indexes (words_of text) → skeleton_of text ≡ Ok s →
    skeleton_of other ≡ Ok s

-- what is read of any text is read again of its canonical text
abbrev pub ReadIsReadAgain : Type 0
ReadIsReadAgain = (text : List ℕ) (s : SkeletonData) → skeleton_of text ≡ Ok s → AreSettings s × (skeleton_of (canonical_of s) ≡ Ok s)

-- two texts that are read have the same canonical text exactly where they set the same
abbrev pub CanonicalIsOne : Type 0
CanonicalIsOne = (text other : List ℕ) (s t : SkeletonData) → skeleton_of text ≡ Ok s → skeleton_of other ≡ Ok t → (canonical_of s ≡
    canonical_of t ↔ s ≡ t)
