-- The arguments that the program is started with: TABLES LOCALE NU|- plain|short|long [auto|never|always|min2].
use Rattle.std.specs.Prelude.{ℕ, List, [], ◌∷◌, Option, Some, None, codes, nat_eq, if◌then◌else◌}
use Rattle.std.specs.Cmp.Lexicographic.{pointwise}
use Rattle.icu_provider.specs.Locale.{is_locale}
use Rattle.icu_provider.specs.NumberingSystem.{is_numbering_system}
use Rattle.icu_decimal.specs.declared.options.GroupingStrategy.{GroupingStrategy}
use Rattle.icu_decimal.specs.declared.options.GroupingStrategy.TheVariants.{Auto, Never, Always, Min2}
use Rattle.decimal_lines.specs.declared.words.Style.{Style}
use Rattle.decimal_lines.specs.declared.words.Style.TheVariants.{Plain, Short, Long}

-- what they ask for; without a system none is preferred, without a grouping the style's default applies
pub record WordsData : Type 0 where
  pub path : List ℕ
  pub locale : List ℕ
  pub system : Option (List ℕ)
  pub style : Style
  pub grouping : Option GroupingStrategy

-- goes on with what was found, if anything was
infixl 10 ◌>>=◌
abbrev pub ◌>>=◌ : {A B : Type 0} → Option A → (A → Option B) → Option B
None >>= f = None
(Some x) >>= f = f x

-- the text of a locale
unfoldable pub locale_named : List ℕ → Option (List ℕ)
locale_named word = if is_locale word then Some word else None

-- the name of a numbering system, or a hyphen for none
unfoldable pub system_named : List ℕ → Option (Option (List ℕ))
system_named word =
    if pointwise nat_eq word (codes "-") then Some None
    else if is_numbering_system word then Some (Some word)
    else None

-- the style of an argument
unfoldable pub style_named : List ℕ → Option Style
style_named word =
    if pointwise nat_eq word (codes "plain") then Some Plain
    else if pointwise nat_eq word (codes "short") then Some Short
    else if pointwise nat_eq word (codes "long") then Some Long
    else None

-- the grouping strategy of an argument
unfoldable pub strategy_named : List ℕ → Option GroupingStrategy
strategy_named word =
    if pointwise nat_eq word (codes "auto") then Some Auto
    else if pointwise nat_eq word (codes "never") then Some Never
    else if pointwise nat_eq word (codes "always") then Some Always
    else if pointwise nat_eq word (codes "min2") then Some Min2
    else None

-- the grouping strategy of the last argument, which may be absent
unfoldable pub grouping_named : List (List ℕ) → Option (Option GroupingStrategy)
grouping_named [] = Some None
grouping_named (word ∷ []) = do
  strategy ← strategy_named word
  Some (Some strategy)
grouping_named (word ∷ (other ∷ others)) = None

-- the first four arguments, and those after them
unfoldable pub words_from : List ℕ → List ℕ → List ℕ → List ℕ → List (List ℕ) → Option WordsData
words_from path locale system style more = do
  locale ← locale_named locale
  system ← system_named system
  style ← style_named style
  grouping ← grouping_named more
  Some (record { path = path; locale = locale; system = system; style = style; grouping = grouping })

-- what the arguments ask for; none for any other arguments
unfoldable pub words_of : List (List ℕ) → Option WordsData
words_of [] = None
words_of (path ∷ []) = None
words_of (path ∷ locale ∷ []) = None
words_of (path ∷ locale ∷ system ∷ []) = None
words_of (path ∷ locale ∷ system ∷ style ∷ more) = words_from path locale system style more
