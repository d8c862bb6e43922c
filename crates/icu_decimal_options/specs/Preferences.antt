-- The preferences of formatters, and the identifiers that their data is requested by.
use Rattle.std.specs.Prelude.{ℕ, List, [], ◌∷◌, Option, Some, None, option_map}
use Rattle.icu_provider.specs.Identifier.{Identifier}
use Rattle.icu_decimal_options.specs.declared.preferences.DecimalFormatterPreferences.{DecimalFormatterPreferences}
use Rattle.icu_decimal_options.specs.declared.preferences.CompactDecimalFormatterPreferences.{CompactDecimalFormatterPreferences}

-- the same preferences for plain numbers
abbrev pub plain_preferences : CompactDecimalFormatterPreferences → DecimalFormatterPreferences
plain_preferences prefs = record { locale_preferences = prefs.locale_preferences; numbering_system = prefs.numbering_system }

-- the locale, without a numbering system
abbrev pub locale_id : List ℕ → Identifier
locale_id locale = record { system = None; locale = locale }

-- the preferred numbering system in the locale, if there is one
abbrev pub preferred_id : Option (List ℕ) → List ℕ → Option Identifier
preferred_id system locale = option_map (λ (s : List ℕ). record { system = Some s; locale = locale }) system

-- the preferred identifier, if there is one, and then the other one
abbrev pub asked : Option Identifier → Identifier → List Identifier
asked None other = other ∷ []
asked (Some preferred) other = preferred ∷ other ∷ []
