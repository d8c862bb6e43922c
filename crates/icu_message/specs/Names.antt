-- Names, keys and kinds: which words are such.
use Rattle.std.specs.Prelude.{ℕ, Bool, true, false, ◌==◌, ◌&&◌, ◌||◌, not, nat_le, List, [], ◌∷◌, length, Option, Some, None}
use Rattle.std.specs.Prelude.{if◌then◌else◌}
use Rattle.icu_plurals.specs.declared.category.PluralCategory.{PluralCategory}
use Rattle.icu_plurals.specs.declared.category.PluralCategory.TheVariants.{Zero, One, Two, Few, Many, Other}
use Rattle.icu_message.specs.declared.piece.ChoiceKind.{ChoiceKind}
use Rattle.icu_message.specs.declared.piece.ChoiceKind.TheVariants.{Plural, SelectOrdinal, Select}
use Rattle.icu_message.specs.Words.{same_bytes, other, all_digits, all_word}

-- no number that is written with a zero in front
abbrev pub has_no_zero_in_front : List ℕ → Bool
has_no_zero_in_front [] = true
has_no_zero_in_front (b ∷ []) = true
has_no_zero_in_front (b ∷ c ∷ bs) = not (b == 48)

-- one to 63 letters, digits and `_`
abbrev pub is_word_text : List ℕ → Bool
is_word_text w = nat_le 1 (length w) && (nat_le (length w) 63 && all_word w)

-- a name: such a word, and a number without zeros in front if it is digits alone
abbrev pub is_name : List ℕ → Bool
is_name w = is_word_text w && (not (all_digits w) || has_no_zero_in_front w)

-- the value of a key `=`: one to 18 digits without zeros in front
abbrev pub is_value : List ℕ → Bool
is_value v = nat_le 1 (length v) && (nat_le (length v) 18 && (all_digits v && has_no_zero_in_front v))

-- `=` and a value
abbrev pub is_exact : List ℕ → Bool
is_exact [] = false
is_exact (b ∷ bs) = b == 61 && is_value bs

-- the name of a category
abbrev pub category_name : PluralCategory → List ℕ
category_name Zero = 122 ∷ 101 ∷ 114 ∷ 111 ∷ []
category_name One = 111 ∷ 110 ∷ 101 ∷ []
category_name Two = 116 ∷ 119 ∷ 111 ∷ []
category_name Few = 102 ∷ 101 ∷ 119 ∷ []
category_name Many = 109 ∷ 97 ∷ 110 ∷ 121 ∷ []
category_name Other = other

-- the name of some category
abbrev pub is_category : List ℕ → Bool
is_category w =
    same_bytes w (category_name Zero) || (same_bytes w (category_name One) || (same_bytes w (category_name Two)
    || (same_bytes w (category_name Few) || (same_bytes w (category_name Many) || same_bytes w other))))

-- a key, of a choice that picks by a number or of one that picks by a text
abbrev pub is_key : Bool → List ℕ → Bool
is_key false w = is_word_text w
is_key true w = is_exact w || (is_word_text w && is_category w)

-- the name of a kind
abbrev pub kind_name : ChoiceKind → List ℕ
kind_name Plural = 112 ∷ 108 ∷ 117 ∷ 114 ∷ 97 ∷ 108 ∷ []
kind_name SelectOrdinal = 115 ∷ 101 ∷ 108 ∷ 101 ∷ 99 ∷ 116 ∷ 111 ∷ 114 ∷ 100 ∷ 105 ∷ 110 ∷ 97 ∷ 108 ∷ []
kind_name Select = 115 ∷ 101 ∷ 108 ∷ 101 ∷ 99 ∷ 116 ∷ []

-- the kind with this name
abbrev pub kind_of : List ℕ → Option ChoiceKind
kind_of w =
    if same_bytes w (kind_name Plural) then Some Plural
    else (if same_bytes w (kind_name SelectOrdinal) then Some SelectOrdinal
    else (if same_bytes w (kind_name Select) then Some Select
    else None))

-- `number`
abbrev pub number_kind : List ℕ
number_kind = 110 ∷ 117 ∷ 109 ∷ 98 ∷ 101 ∷ 114 ∷ []

-- the kind of a formatted place
abbrev pub is_number_kind : List ℕ → Bool
is_number_kind w = same_bytes w number_kind

-- one kind picks by a number and the other by a text
abbrev pub are_apart : ChoiceKind → ChoiceKind → Bool
are_apart Select Select = false
are_apart Select _ = true
are_apart _ Select = true
are_apart _ _ = false

-- `offset`
abbrev pub offset : List ℕ
offset = 111 ∷ 102 ∷ 102 ∷ 115 ∷ 101 ∷ 116 ∷ []
