-- Locales as people and environments write them, `de_DE.UTF-8`, in the form of BCP 47, `de-DE`.
use Rattle.std.specs.Prelude.{ℕ, ◌==◌, Bool, true, false, ◌||◌, List, [], ◌∷◌, ◌++◌, take, drop, length, map}
use Rattle.std.specs.Prelude.{option_map, Option, Some, None, Result, Ok, Err, codes, nat_eq}
use Rattle.std.specs.Prelude.{if◌then◌else◌}
use Rattle.std.specs.Cmp.Lexicographic.{pointwise}
use Rattle.icu_provider.specs.Locale.{is_locale}
use Rattle.locnum_options.specs.Given.{text_of}
use Rattle.locnum_options.specs.declared.fault.OptionFault.{OptionFault}
use Rattle.locnum_options.specs.declared.fault.OptionFault.TheVariants as fault
use Rattle.locnum_options.specs.declared.given.Environment.{Environment}
use Rattle.locnum_options.specs.declared.given.Given.{Given}
use Rattle.std.specs.Char.{to_ascii_lowercase, to_ascii_uppercase}

-- a dot or an at sign, behind which an encoding or a modifier stands
abbrev pub is_mark : ℕ → Bool
is_mark byte = byte == 46 || byte == 64

-- what stands before the first mark
unfoldable pub before_mark : List ℕ → List ℕ
before_mark [] = []
before_mark (b ∷ bs) = if is_mark b then [] else b ∷ before_mark bs

-- a hyphen or an underscore
abbrev pub is_separator : ℕ → Bool
is_separator byte = byte == 45 || byte == 95

-- a byte more in front of the first subtag
abbrev pub onto_subtag : ℕ → List (List ℕ) → List (List ℕ)
onto_subtag b [] = []
onto_subtag b (subtag ∷ subtags) = (b ∷ subtag) ∷ subtags

-- what stands before, between and behind the separators
unfoldable pub subtags_of : List ℕ → List (List ℕ)
subtags_of [] = [] ∷ []
subtags_of (b ∷ bs) = if is_separator b then [] ∷ subtags_of bs else onto_subtag b (subtags_of bs)

-- the subtags of what is left, if anything is
abbrev pub subtags_left : Option (List ℕ) → List (List ℕ)
subtags_left None = []
subtags_left (Some text) = subtags_of text

-- a byte as a capital letter, or as a small one
abbrev pub cased_byte : Bool → ℕ → ℕ
cased_byte is_large byte = if is_large then to_ascii_uppercase byte else to_ascii_lowercase byte

-- a subtag behind the language: a region of two letters is large, and a script of four has a large one in front; neither behind a singleton
unfoldable pub cased : Bool → List ℕ → List ℕ
cased is_small subtag =
    if is_small then map (cased_byte false) subtag
    else if length subtag == 2 then map (cased_byte true) subtag
    else if length subtag == 4 then map (cased_byte true) (take 1 subtag) ++ map (cased_byte false) (drop 1 subtag)
    else map (cased_byte false) subtag

-- further subtags, each behind a hyphen, and whether a singleton stands before them
unfoldable pub behind_language : Bool → List (List ℕ) → List ℕ
behind_language is_small [] = []
behind_language is_small (subtag ∷ subtags) =
    45 ∷ cased is_small subtag ++ behind_language (is_small || length subtag == 1) subtags

-- the subtags of a locale, of which the first is the language, in small letters
abbrev pub joined_subtags : List (List ℕ) → List ℕ
joined_subtags [] = []
joined_subtags (language ∷ subtags) = cased true language ++ behind_language (length language == 1) subtags

-- the text of a locale in the form of BCP 47
unfoldable pub locale_text : List ℕ → List ℕ
locale_text text = joined_subtags (subtags_of (before_mark text))

-- the locale of a text
unfoldable pub locale_named : List ℕ → Result (List ℕ) OptionFault
locale_named text = if is_locale (locale_text text) then Ok (locale_text text) else Err fault.Locale

-- the text of a variable that is set and isn't empty, or else this text
abbrev pub set_or : Option (List ℕ) → List ℕ → List ℕ
set_or None other = other
set_or (Some []) other = other
set_or (Some (b ∷ bs)) other = b ∷ bs

-- the text of the first of the three variables that is set and isn't empty; none of them is C
unfoldable pub environment_text : Environment → List ℕ
environment_text environment =
    set_or (option_map (λ t. t.now) environment.all)
    (set_or (option_map (λ t. t.now) environment.numeric)
    (set_or (option_map (λ t. t.now) environment.language) (codes "C")))

-- the locales of programs that know none
abbrev pub is_no_locale : List ℕ → Bool
is_no_locale text = pointwise nat_eq text (codes "C") || pointwise nat_eq text (codes "POSIX")

-- the locale of the environment: C and POSIX, also with an encoding, are English
unfoldable pub environment_locale : Environment → Result (List ℕ) OptionFault
environment_locale environment =
    if is_no_locale (before_mark (environment_text environment)) then Ok (codes "en")
    else locale_named (environment_text environment)

-- the locale by its text: `env` is that of the environment, and `en` is the default
abbrev pub locale_by : Option (List ℕ) → Environment → Result (List ℕ) OptionFault
locale_by None environment = Ok (codes "en")
locale_by (Some text) environment =
    if pointwise nat_eq text (codes "env") then environment_locale environment else locale_named text

-- the locale that is asked for
unfoldable pub locale_given : Given → Result (List ℕ) OptionFault
locale_given given = locale_by (text_of given (codes "locale")) given.environment
