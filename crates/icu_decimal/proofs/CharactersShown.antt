-- The characters of annotated numbers.
use Rattle.std.proofs.Common.{◌≡◌, ℕ, refl, sym, ap, ap₂, ◌∙◌, List, [], ◌∷◌, ◌++◌, map, slice_index, append-nil, codes}
use Rattle.std.specs.Str.{chars}
use Rattle.fixed_decimal.specs.declared.signs.Sign.{Sign}
use Rattle.fixed_decimal.specs.declared.signs.Sign.TheVariants.{Negative, Positive, None as NoSign}
use Rattle.fixed_decimal.specs.Unsigned.{Unsigned, integer, fraction}
use Rattle.writeable.specs.Events.{Event, characters, text_events, digit_events}
use Rattle.writeable.specs.Events.Event.{Close}
use Rattle.icu_decimal.specs.Decimal.{DecimalFormat, strategy_of, integer_events, fraction_events, unsigned_events, signed_events}
use Rattle.icu_decimal_options.specs.Grouping.{digit_groups, joined, joined_after}
use Rattle.icu_decimal.specs.Part.{in_decimal_part}
use Rattle.icu_decimal_readable.specs.Readable.{affixes}
use Rattle.writeable.proofs.EventLemmas.{characters-map_Char}
use Rattle.writeable.specs.Writes.{characters-append}
use Rattle.icu_decimal.proofs.Runs.{fraction_text}

characters-in_part : (value : List ℕ) (es : List Event) → characters (in_decimal_part value es) ≡ characters es
characters-in_part value es = characters-append es (Close ∷ []) ∙ append-nil (characters es)

-- the digits as the formatter's characters
abbrev pub digit_characters : DecimalFormat → List ℕ → List ℕ
digit_characters f ds = map (λ d. slice_index f.digits d) ds

characters-digit_events : (f : DecimalFormat) (ds : List ℕ) → characters (digit_events f.digits ds) ≡ digit_characters f ds
characters-digit_events f [] = refl
characters-digit_events f (d ∷ ds) = ap (λ l. slice_index f.digits d ∷ l) (characters-digit_events f ds)

characters-joined_after : (f : DecimalFormat) (separator : List Event) (gs : List (List ℕ)) →
    characters (joined_after separator (map (λ g. digit_events f.digits g) gs)) ≡ joined_after (characters separator) (map (λ g. digit_characters f g) gs)
characters-joined_after f separator [] = refl
characters-joined_after f separator (g ∷ gs) =
    simp (characters-append, characters-digit_events, characters-joined_after f separator gs)

characters-joined : (f : DecimalFormat) (separator : List Event) (gs : List (List ℕ)) →
    characters (joined separator (map (λ g. digit_events f.digits g) gs)) ≡ joined (characters separator) (map (λ g. digit_characters f g) gs)
characters-joined f separator [] = refl
characters-joined f separator (g ∷ gs) = simp (characters-append, characters-digit_events, characters-joined_after f separator gs)

-- the groups of a decimal's digits at power 0 and above
abbrev pub groups_of : DecimalFormat → Unsigned → List (List ℕ)
groups_of f d = digit_groups (integer d) f.symbols.grouping_sizes (strategy_of f.options)

-- a text in a part
characters-text_part : (value bytes : List ℕ) → characters (in_decimal_part value (text_events bytes)) ≡ chars bytes
characters-text_part value bytes = characters-in_part value (text_events bytes) ∙ characters-map_Char (chars bytes)

characters-fraction : (f : DecimalFormat) (ds : List ℕ) →
    characters (fraction_events f ds) ≡ fraction_text (chars f.symbols.strings.decimal_separator) (digit_characters f ds)
characters-fraction f [] = refl
characters-fraction f (d ∷ ds) =
    characters-append (in_decimal_part (codes "decimal") (text_events f.symbols.strings.decimal_separator))
    (in_decimal_part (codes "fraction") (digit_events f.digits (d ∷ ds)))
    ∙ ap₂ ◌++◌ (characters-text_part (codes "decimal") f.symbols.strings.decimal_separator)
    (characters-in_part (codes "fraction") (digit_events f.digits (d ∷ ds)) ∙ characters-digit_events f (d ∷ ds))

characters-integer : (f : DecimalFormat) (d : Unsigned) → characters (integer_events f (integer d))
    ≡ joined (chars f.symbols.strings.grouping_separator) (map (λ g. digit_characters f g) (groups_of f d))
characters-integer f d =
    characters-in_part (codes "integer") (joined (in_decimal_part (codes "group") (text_events f.symbols.strings.grouping_separator))
    (map (λ g. digit_events f.digits g) (groups_of f d)))
    ∙ characters-joined f (in_decimal_part (codes "group") (text_events f.symbols.strings.grouping_separator)) (groups_of f d)
    ∙ ap (λ l. joined l (map (λ g. digit_characters f g) (groups_of f d))) (characters-text_part (codes "group") f.symbols.strings.grouping_separator)

-- the characters of a number, in its integer, its point and its fraction
pub characters-unsigned : (f : DecimalFormat) (d : Unsigned)
    → characters (unsigned_events f d) ≡ joined (chars f.symbols.strings.grouping_separator) (map (λ g. digit_characters f g) (groups_of f d))
    ++ fraction_text (chars f.symbols.strings.decimal_separator) (digit_characters f (fraction d))
characters-unsigned f d = characters-append (integer_events f (integer d)) (fraction_events f (fraction d))
    ∙ ap₂ ◌++◌ (characters-integer f d) (characters-fraction f (fraction d))

-- what stands around, of whatever kind
pub characters-around : (before es after : List Event) (a b : List ℕ) → characters before ≡ a → characters after ≡ b →
    characters (before ++ (es ++ after)) ≡ a ++ (characters es ++ b)
characters-around before es after a b p q =
    characters-append before (es ++ after) ∙ ap₂ ◌++◌ p (characters-append es after ∙ ap (λ l. characters es ++ l) q)

characters-in_parts : (value prefix : List ℕ) (es : List Event) (suffix : List ℕ) →
    characters (in_decimal_part value (text_events prefix) ++ (es ++ in_decimal_part value (text_events suffix))) ≡ chars prefix
    ++ (characters es ++ chars suffix)
characters-in_parts value prefix es suffix =
    characters-around (in_decimal_part value (text_events prefix)) es (in_decimal_part value (text_events suffix)) (chars prefix) (chars suffix)
    (characters-text_part value prefix) (characters-text_part value suffix)

-- the characters of a value between the affixes of its sign
pub characters-signed : (f : DecimalFormat) (sign : Sign) (es : List Event) →
    characters (signed_events f.symbols sign es) ≡ (affixes f.symbols.strings sign).before ++ (characters es ++ (affixes f.symbols.strings sign).after)
characters-signed f NoSign es = sym (append-nil (characters es))
characters-signed f Negative es = characters-in_parts (codes "minusSign") f.symbols.strings.minus_sign_prefix es f.symbols.strings.minus_sign_suffix
characters-signed f Positive es = characters-in_parts (codes "plusSign") f.symbols.strings.plus_sign_prefix es f.symbols.strings.plus_sign_suffix
