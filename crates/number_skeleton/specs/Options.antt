-- Options of a token: what stands behind its slashes.
use Rattle.std.specs.Prelude.{ℕ, Bool, true, false, not, ◌+◌, ◌-◌, ◌&&◌, ◌==◌, List, [], ◌∷◌, Option, Some, None, Result, Ok, Err}
use Rattle.std.specs.Prelude.{codes, nat_eq, nat_le, nat_lt}
use Rattle.std.specs.Prelude.{take, drop, get_or, length, if◌then◌else◌}
use Rattle.std.specs.List.{list_all}
use Rattle.std.specs.Borrow.{Bor}
use Rattle.std.specs.Cmp.Lexicographic.{pointwise}
use Rattle.number_skeleton.specs.declared.fault.FaultKind.{FaultKind}
use Rattle.number_skeleton.specs.declared.fault.FaultKind.TheVariants.{LeftOut, TooManyDigits, NoOptionHere, EmptyOption, BadOption, OptionMissing}
use Rattle.number_skeleton.specs.declared.fault.SkeletonFault.{SkeletonFault}
use Rattle.number_skeleton.specs.declared.fault.Thing.TheVariants as thing
use Rattle.number_skeleton.specs.declared.options.Piece.{Piece}
use Rattle.skeleton_settings.specs.declared.settings.CurrencyLetters.{CurrencyLetters}
use Rattle.skeleton_settings.specs.declared.settings.NumberUnit.{NumberUnit}
use Rattle.number_skeleton.specs.Bytes.{is_wild, is_lower, run_len, piece_len}
use Rattle.skeleton_settings.specs.Settings.{UnitData, percent, permille, named, unit_data, name_data}
use Rattle.number_skeleton.specs.Data.{DraftData}
use Rattle.number_skeleton.specs.Results.{fault}

-- an option: its byte and its word, and what stands behind it
pub record PieceData : Type 0 where
  pub at : ℕ
  pub word : List ℕ
  pub next : ℕ
  pub rest : List ℕ

abbrev pub piece_data : Piece → PieceData
piece_data p = record { at = p.at; word = p.word.now; next = p.next; rest = p.rest.now }

abbrev pub lent_piece : Result Piece SkeletonFault → Result PieceData SkeletonFault
lent_piece (Ok p) = Ok (piece_data p)
lent_piece (Err fault) = Err fault

-- no option stands here
unfoldable pub ended : ℕ → List ℕ → DraftData → Result DraftData SkeletonFault
ended at options d = if length options == 0 then Ok d else fault NoOptionHere at

-- the option behind a slash
unfoldable pub option_at : ℕ → List ℕ → Result PieceData SkeletonFault
option_at at options =
    if length options == 0 then fault OptionMissing at
    else if piece_len (drop 1 options) == 0 then fault EmptyOption (at + 1)
    else Ok (record {
      at = at + 1;
      word = take (piece_len (drop 1 options)) (drop 1 options);
      next = at + 1 + piece_len (drop 1 options);
      rest = drop (piece_len (drop 1 options)) (drop 1 options);
    })

-- a small letter as a capital one
abbrev pub capital : ℕ → ℕ
capital b = if nat_le 97 b && nat_le b 122 then b - 32 else b

-- a capital letter
abbrev pub is_capital : ℕ → Bool
is_capital b = nat_le 65 b && nat_le b 90

-- three letters
unfoldable pub letters_of : List ℕ → Result CurrencyLetters FaultKind
letters_of word =
    if length word == 3 && is_capital (capital (get_or word 0 0)) && is_capital (capital (get_or word 1 0)) && is_capital (capital (get_or word 2 0))
    then Ok (record { first = capital (get_or word 0 0); second = capital (get_or word 1 0); third = capital (get_or word 2 0) })
    else Err BadOption

-- whether a word of a name has to begin behind a byte; none where the byte can't stand there
abbrev pub next_begins : ℕ → Bool → Option Bool
next_begins b begins =
    if is_lower b then Some false
    else if b == 45 && not begins then Some true
    else None

-- this one of two answers, if any
abbrev pub chosen : Option Bool → Bool → Bool → Bool
chosen None at_word at_inside = false
chosen (Some true) at_word at_inside = at_word
chosen (Some false) at_word at_inside = at_inside

-- words of small letters and digits, with `-` between them; the flag says whether a word has to begin here
unfoldable pub name_from : Bool → List ℕ → Bool
name_from begins [] = not begins
name_from begins (b ∷ bs) = chosen (next_begins b begins) (name_from true bs) (name_from false bs)

-- the unit of a name
unfoldable pub unit_of : List ℕ → Result UnitData FaultKind
unit_of word =
    if pointwise nat_eq word (codes "percent") then Ok percent
    else if pointwise nat_eq word (codes "permille") then Ok permille
    else if name_from true word then Ok (named word)
    else Err BadOption

-- the name of a numbering system: three to eight small letters or digits
unfoldable pub system_of : List ℕ → Result (List ℕ) FaultKind
system_of word = if nat_le 3 (length word) && nat_le (length word) 8 && list_all is_lower word then Ok word else Err BadOption

-- a wild byte and that many zeros; other widths cut digits off, or have none
unfoldable pub integer_digits_of : List ℕ → Result ℕ FaultKind
integer_digits_of word =
    let zeros = drop 1 word in
    let hashes = run_len 35 word in
    if is_wild (get_or word 0 0) then
    (if length zeros == 0 then Err (LeftOut thing.NoIntegerDigit)
    else if nat_lt (run_len 48 zeros) (length zeros) then Err BadOption
    else if nat_lt 999 (length zeros) then Err TooManyDigits
    else Ok (length zeros))
    else if nat_lt (run_len 48 (drop hashes word)) (length (drop hashes word)) then Err BadOption
    else Err (LeftOut thing.IntegerCutOff)

-- the data of a unit or a name that was read
abbrev pub unit_read : Result NumberUnit FaultKind → Result UnitData FaultKind
unit_read (Ok u) = Ok (unit_data u)
unit_read (Err kind) = Err kind

abbrev pub name_read : Result (Bor (List ℕ)) FaultKind → Result (List ℕ) FaultKind
name_read (Ok name) = Ok (name_data name)
name_read (Err kind) = Err kind
