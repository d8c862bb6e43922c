-- Reading a message byte by byte: what a byte adds to the pieces, and the first fault.
use Rattle.std.specs.Prelude.{◌≤◌, ℕ, zero, ◌+◌, ◌-◌, Bool, ◌==◌, ◌&&◌, ◌||◌, nat_le, Option, Some, None, is_some, Result, Ok, Err}
use Rattle.std.specs.Prelude.{if◌then◌else◌, not, List, min}
use Rattle.std.specs.Str.{is_utf8}
use Rattle.number_skeleton.specs.declared.fault.SkeletonFault.{SkeletonFault}
use Rattle.number_skeleton.specs.Tokens.{skeleton_of}
use Rattle.skeleton_settings.specs.Settings.{SkeletonData}
use Rattle.icu_message.specs.declared.error.ParseError.{ParseError}
use Rattle.icu_message.specs.declared.error.ParseError.TheVariants.{End, Unopened, OpenQuote, TooDeep, Name, Kind, Style, Skeleton, TwoKinds, Offset}
use Rattle.icu_message.specs.declared.error.ParseError.TheVariants.{Key, Repeated, NoOther, Unexpected}
use Rattle.icu_message.specs.declared.piece.Word.{Word}
use Rattle.icu_message.specs.declared.piece.OpenKey.{OpenKey}
use Rattle.icu_message.specs.declared.piece.BegunChoice.{BegunChoice}
use Rattle.icu_message.specs.declared.piece.ChoiceKind.{ChoiceKind}
use Rattle.icu_message.specs.declared.piece.ChoiceKind.TheVariants.{Plural}
use Rattle.icu_message.specs.declared.piece.Piece.{Piece}
use Rattle.icu_message.specs.declared.piece.Piece.TheVariants.{Byte, Special, Place, Formatted, Hash, Choice, Arm, EndArm, EndChoice}
use Rattle.icu_message.specs.declared.stepping.Position.{Position}
use Rattle.icu_message.specs.declared.stepping.Position.TheVariants.{Text, Doubled, Quoted, DoubledIn, Opened, InName, Named, KindDue, InKind, AfterKind}
use Rattle.icu_message.specs.declared.stepping.Position.TheVariants.{AfterNumber, StyleDue, ColonDue, SkeletonDue, InSkeleton, KeyDue, InKey, ValueDue}
use Rattle.icu_message.specs.declared.stepping.Position.TheVariants.{InValue, AfterKey}
use Rattle.icu_message.specs.declared.stepping.State.{State}
use Rattle.icu_message.specs.declared.stepping.Step.{Step}
use Rattle.icu_message.specs.declared.stepping.Here.{Here}
use Rattle.icu_message.specs.Words.{is_space, is_digit, is_word, word_in, same_bytes, has_brace}
use Rattle.icu_message.specs.Names.{is_name, is_key, kind_of, is_number_kind, offset}
use Rattle.icu_message.specs.Keys.{has_key, has_keys, has_other, has_other_kind}

abbrev pub opening : ℕ
opening = 123

abbrev pub closing : ℕ
closing = 125

abbrev pub comma : ℕ
comma = 44

abbrev pub colon : ℕ
colon = 58

abbrev pub apostrophe : ℕ
apostrophe = 39

abbrev pub hash : ℕ
hash = 35

abbrev pub equals : ℕ
equals = 61

-- before the first byte
abbrev pub start : State
start = record { position = Text; level = 0 }

-- a byte that completes no piece
abbrev pub silent : State → Position → Step
silent s p = record { state = record { position = p; level = s.level }; added = None }

-- a byte that completes a piece
abbrev pub adds : ℕ → Position → Piece → Step
adds level p piece = record { state = record { position = p; level = level }; added = Some piece }

-- a byte that has to be quoted: a brace, and `#` directly in an arm that a number picks
abbrev pub is_special : Bool → ℕ → Bool
is_special counted b = b == opening || (b == closing || (b == hash && counted))

-- `#` in text: the place of the number that is counted, else itself
abbrev pub hash_step : State → Option Word → Step
hash_step s None = adds s.level Text (Byte hash)
hash_step s (Some name) = adds s.level Text (Hash name)

-- an apostrophe in text: one of two, the begin of a quote, else itself
abbrev pub apostrophe_step : State → Here → Step
apostrophe_step s h =
    if h.next == apostrophe then adds s.level Doubled (Byte apostrophe)
    else (if is_special (is_some h.counted) h.next then silent s (Quoted h.at)
    else adds s.level Text (Byte apostrophe))

-- a byte in text
abbrev pub text_step : State → Here → Result Step ParseError
text_step s h =
    if h.byte == opening then (if nat_le 8 s.level then Err (TooDeep h.at) else Ok (silent s Opened))
    else (if h.byte == closing then (if s.level == 0 then Err (Unopened h.at) else Ok (adds s.level KeyDue EndArm))
    else (if h.byte == apostrophe then Ok (apostrophe_step s h)
    else (if h.byte == hash then Ok (hash_step s h.counted)
    else Ok (adds s.level Text (Byte h.byte)))))

-- a byte of text in a quote
abbrev pub quoted_byte : State → ℕ → Here → Step
quoted_byte s from h =
    if is_special (is_some h.counted) h.byte then adds s.level (Quoted from) (Special h.byte) else adds s.level (Quoted from) (Byte h.byte)

-- a byte in a quote
abbrev pub quoted_step : State → ℕ → Here → Step
quoted_step s from h =
    if h.byte == apostrophe then (if h.next == apostrophe then adds s.level (DoubledIn from) (Byte apostrophe) else silent s Text)
    else quoted_byte s from h

-- a byte where a name is due
abbrev pub name_step : State → Here → Result Step ParseError
name_step s h =
    if is_space h.byte then Ok (silent s Opened)
    else (if is_word h.byte then Ok (silent s (InName h.at))
    else Err (Name h.at))

-- a byte behind a name
abbrev pub after_name : State → Word → Here → Result Step ParseError
after_name s w h =
    if h.byte == closing then Ok (adds s.level Text (Place w))
    else (if h.byte == comma then Ok (silent s (KindDue w))
    else (if is_space h.byte then Ok (silent s (Named w))
    else Err (Unexpected h.at)))

-- the word that ends before a byte
abbrev pub word_to : ℕ → Here → Word
word_to from h = record { start = from; end = h.at }

-- a byte of a name, or behind it
abbrev pub in_name : List ℕ → State → ℕ → Here → Result Step ParseError
in_name text s from h =
    if is_word h.byte then Ok (silent s (InName from))
    else (if is_name (word_in text (word_to from h)) then after_name s (word_to from h) h
    else Err (Name from))

-- a byte where a kind is due
abbrev pub kind_step : State → Word → Here → Result Step ParseError
kind_step s w h =
    if is_space h.byte then Ok (silent s (KindDue w))
    else (if is_word h.byte then Ok (silent s (InKind w h.at))
    else Err (Kind h.at))

-- a byte behind a kind
abbrev pub behind_kind : State → ChoiceKind → Word → Here → Result Step ParseError
behind_kind s k w h =
    if h.byte == comma then Ok (adds (s.level + 1) KeyDue (Choice k w))
    else (if is_space h.byte then Ok (silent s (AfterKind k w))
    else Err (Unexpected h.at))

-- the fault of a skeleton that stands in a message: its byte is moved
abbrev pub moved_fault : Word → SkeletonFault → ParseError
moved_fault k fault = Skeleton fault.kind (k.start + min fault.byte (k.end - k.start))

-- the place of a number in the form of a skeleton that is read, or the skeleton's fault
abbrev pub formatted_step : State → Word → Word → Result SkeletonData SkeletonFault → Result Step ParseError
formatted_step s w k (Ok settings) = Ok (adds s.level Text (Formatted w k))
formatted_step s w k (Err fault) = Err (moved_fault k fault)

-- a style without braces, in UTF-8
abbrev pub is_style : List ℕ → Bool
is_style bytes = is_utf8 bytes && not (has_brace bytes)

-- the place of a number whose skeleton is complete
abbrev pub skeleton_read : List ℕ → State → Word → Word → Result Step ParseError
skeleton_read text s w k = if is_style (word_in text k) then formatted_step s w k (skeleton_of (word_in text k)) else Err (Style k.start)

-- a byte of a skeleton, or behind it
abbrev pub skeleton_step : List ℕ → State → Word → ℕ → Here → Result Step ParseError
skeleton_step text s w from h = if h.byte == closing then skeleton_read text s w (word_to from h) else Ok (silent s (InSkeleton w from))

-- a byte behind the first `:` of a style
abbrev pub colon_step : State → Word → ℕ → Here → Result Step ParseError
colon_step s w from h = if h.byte == colon then Ok (silent s (SkeletonDue w)) else Err (Style from)

-- a byte where a style is due
abbrev pub style_step : State → Word → Here → Result Step ParseError
style_step s w h =
    if is_space h.byte then Ok (silent s (StyleDue w))
    else (if h.byte == colon then Ok (silent s (ColonDue w h.at))
    else Err (Style h.at))

-- a byte behind `number`; without a style the skeleton is empty
abbrev pub behind_number : List ℕ → State → Word → Here → Result Step ParseError
behind_number text s w h =
    if h.byte == closing then skeleton_read text s w (word_to h.at h)
    else (if h.byte == comma then Ok (silent s (StyleDue w))
    else (if is_space h.byte then Ok (silent s (AfterNumber w))
    else Err (Unexpected h.at)))

-- a byte behind the word `number`
abbrev pub number_read : List ℕ → List BegunChoice → State → Word → ℕ → Here → Result Step ParseError
number_read text choices s w from h = if has_other_kind text Plural w choices then Err (TwoKinds from) else behind_number text s w h

-- a byte behind a word for a kind
abbrev pub kind_read : List ℕ → List BegunChoice → State → Word → ℕ → Here → Option ChoiceKind → Result Step ParseError
kind_read text choices s w from h None = Err (Kind from)
kind_read text choices s w from h (Some k) = if has_other_kind text k w choices then Err (TwoKinds from) else behind_kind s k w h

-- a byte of a kind, or behind it
abbrev pub in_kind : List ℕ → List BegunChoice → State → Word → ℕ → Here → Result Step ParseError
in_kind text choices s w from h =
    if is_word h.byte then Ok (silent s (InKind w from))
    else (if is_number_kind (word_in text (word_to from h)) then number_read text choices s w from h
    else kind_read text choices s w from h (kind_of (word_in text (word_to from h))))

-- `}` where a key is due
abbrev pub close_choice : List ℕ → List OpenKey → State → ℕ → Result Step ParseError
close_choice text keys s at =
    if has_other text s.level keys then Ok (adds (s.level - 1) Text EndChoice)
    else (if has_keys s.level keys then Err (NoOther at)
    else Err (Key at))

-- a byte where a key is due
abbrev pub key_step : List ℕ → List OpenKey → State → Here → Result Step ParseError
key_step text keys s h =
    if is_space h.byte then Ok (silent s KeyDue)
    else (if is_word h.byte then Ok (silent s (InKey h.at))
    else (if h.byte == closing then close_choice text keys s h.at
    else (if h.byte == equals && is_some h.counted then Ok (silent s (ValueDue h.at))
    else Err (Key h.at))))

-- a byte behind a key
abbrev pub after_key : List ℕ → List OpenKey → State → Word → Here → Result Step ParseError
after_key text keys s w h =
    if has_key text s.level w keys then Err (Repeated w.start)
    else (if h.byte == opening then Ok (adds s.level Text (Arm w))
    else (if is_space h.byte then Ok (silent s (AfterKey w))
    else Err (Unexpected h.at)))

-- the fault of a word that is no key, at a byte: `offset:` is named
abbrev pub key_fault : List ℕ → ℕ → ℕ → Here → ParseError
key_fault word from fault h = if h.byte == 58 && same_bytes word offset then Offset from else Key fault

-- a byte behind a word for a key; the byte of its fault is given
abbrev pub key_read : List ℕ → List OpenKey → State → ℕ → ℕ → Here → Result Step ParseError
key_read text keys s from fault h =
    if is_key (is_some h.counted) (word_in text (word_to from h)) then after_key text keys s (word_to from h) h
    else Err (key_fault (word_in text (word_to from h)) from fault h)

-- a byte of a key, or behind it
abbrev pub in_key : List ℕ → List OpenKey → State → ℕ → Here → Result Step ParseError
in_key text keys s from h = if is_word h.byte then Ok (silent s (InKey from)) else key_read text keys s from from h

-- a byte behind `=`
abbrev pub value_step : State → ℕ → Here → Result Step ParseError
value_step s from h = if is_digit h.byte then Ok (silent s (InValue from h.at)) else Err (Key h.at)

-- a byte of a value whose first digit's byte is given, or behind it
abbrev pub in_value : List ℕ → List OpenKey → State → ℕ → ℕ → Here → Result Step ParseError
in_value text keys s from digit h =
    if is_digit h.byte then Ok (silent s (InValue from digit)) else key_read text keys s from digit h

-- a byte at a position
abbrev pub step_in : List ℕ → List OpenKey → List BegunChoice → State → Position → Here → Result Step ParseError
step_in text keys choices s Text h = text_step s h
step_in text keys choices s Doubled h = Ok (silent s Text)
step_in text keys choices s (Quoted from) h = Ok (quoted_step s from h)
step_in text keys choices s (DoubledIn from) h = Ok (silent s (Quoted from))
step_in text keys choices s Opened h = name_step s h
step_in text keys choices s (InName from) h = in_name text s from h
step_in text keys choices s (Named w) h = after_name s w h
step_in text keys choices s (KindDue w) h = kind_step s w h
step_in text keys choices s (InKind w from) h = in_kind text choices s w from h
step_in text keys choices s (AfterKind k w) h = behind_kind s k w h
step_in text keys choices s (AfterNumber w) h = behind_number text s w h
step_in text keys choices s (StyleDue w) h = style_step s w h
step_in text keys choices s (ColonDue w from) h = colon_step s w from h
step_in text keys choices s (SkeletonDue w) h = skeleton_step text s w h.at h
step_in text keys choices s (InSkeleton w from) h = skeleton_step text s w from h
step_in text keys choices s KeyDue h = key_step text keys s h
step_in text keys choices s (InKey from) h = in_key text keys s from h
step_in text keys choices s (ValueDue from) h = value_step s from h
step_in text keys choices s (InValue from digit) h = in_value text keys s from digit h
step_in text keys choices s (AfterKey w) h = after_key text keys s w h

-- a byte of a text, by the keys of the open choices and the choices so far
abbrev pub step : List ℕ → List OpenKey → List BegunChoice → State → Here → Result Step ParseError
step text keys choices s h = step_in text keys choices s s.position h

-- the fault of an end within an argument: that of the word that ends there, if it has one
abbrev pub end_within : ℕ → Result Step ParseError → ParseError
end_within end (Err fault) = fault
end_within end (Ok t) = End end

-- where a text ends in a position; the end ends a word as white space does
abbrev pub fault_in : List ℕ → List OpenKey → List BegunChoice → State → Position → ℕ → Here → Option ParseError
fault_in text keys choices s Text zero h = None
fault_in text keys choices s (Quoted from) n h = Some (OpenQuote from)
fault_in text keys choices s (DoubledIn from) n h = Some (OpenQuote from)
fault_in text keys choices s (ValueDue from) n h = Some (End h.at)
fault_in text keys choices s p n h = Some (end_within h.at (step_in text keys choices s p h))

-- the fault of a text that ends in a state
abbrev pub end_fault : List ℕ → List OpenKey → List BegunChoice → State → Here → Option ParseError
end_fault text keys choices s h = fault_in text keys choices s s.position s.level h

-- an argument that is begun may open a choice more; a formatted place is such an argument
abbrev pub begun : Position → ℕ
begun Opened = 1
begun (InName from) = 1
begun (Named w) = 1
begun (KindDue w) = 1
begun (InKind w from) = 1
begun (AfterKind k w) = 1
begun (AfterNumber w) = 1
begun (StyleDue w) = 1
begun (ColonDue w from) = 1
begun (SkeletonDue w) = 1
begun (InSkeleton w from) = 1
begun _ = 0

-- at most eight choices are open, with one that is begun
abbrev pub IsNested : State → Type 0
IsNested s = s.level + begun s.position ≤ 8
