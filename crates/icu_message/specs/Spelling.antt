-- What a message says, apart from where its words stand; how it is spelled; and which messages have a spelling.
use Rattle.std.specs.Prelude.{◌≡◌, ℕ, ◌+◌, ◌-◌, Bool, true, false, ◌==◌, ◌&&◌, ◌||◌, nat_le, List, [], ◌∷◌, ◌++◌, length}
use Rattle.std.specs.Prelude.{Option, Some, None, is_some, Result}
use Rattle.std.specs.Prelude.{Ok, Err, if◌then◌else◌}
use Rattle.std.specs.Result.{is_ok}
use Rattle.std.specs.List.{filter}
use Rattle.icu_message.specs.declared.error.ParseError.{ParseError}
use Rattle.icu_message.specs.declared.piece.OpenKey.{OpenKey}
use Rattle.icu_message.specs.declared.piece.BegunChoice.{BegunChoice}
use Rattle.icu_message.specs.declared.piece.ChoiceKind.{ChoiceKind}
use Rattle.icu_message.specs.declared.piece.ChoiceKind.TheVariants.{Plural}
use Rattle.icu_message.specs.declared.piece.Piece.{Piece}
use Rattle.icu_message.specs.declared.piece.Piece.TheVariants.{Byte, Special, Place, Formatted, Hash, Choice, Arm, EndArm, EndChoice}
use Rattle.icu_message.specs.declared.spelling.Before.{Before}
use Rattle.icu_message.specs.declared.spelling.Before.TheVariants.{Nothing, Quote, EndedArm}
use Rattle.icu_message.specs.Words.{word_in, same_bytes, other}
use Rattle.icu_message.specs.Names.{is_name, is_key, kind_name, number_kind, are_apart}
use Rattle.icu_message.specs.Keys.{number_named}
use Rattle.icu_message.specs.Stepping.{opening, closing, comma, colon, apostrophe, hash, is_special, is_style}
use Rattle.icu_message.specs.Reading.{longest, no_level, pieces_of}
use Rattle.number_skeleton.specs.Tokens.{skeleton_of}

-- a piece with its word
pub data Said : Type 0 where
  byte : ℕ → Said
  special : ℕ → Said
  place : List ℕ → Said
  formatted : List ℕ → List ℕ → Said
  counted : List ℕ → Said
  choice : ChoiceKind → List ℕ → Said
  arm : List ℕ → Said
  end_arm : Said
  end_choice : Said

-- what a piece of a text says
abbrev pub said : List ℕ → Piece → Said
said text (Byte b) = byte b
said text (Special b) = special b
said text (Place w) = place (word_in text w)
said text (Formatted w k) = formatted (word_in text w) (word_in text k)
said text (Hash w) = counted (word_in text w)
said text (Choice k w) = choice k (word_in text w)
said text (Arm w) = arm (word_in text w)
said text EndArm = end_arm
said text EndChoice = end_choice

-- what pieces of a text say
abbrev pub said_all : List ℕ → List Piece → List Said
said_all text [] = []
said_all text (p ∷ ps) = said text p ∷ said_all text ps

-- what the pieces of a text say, or its first fault
abbrev pub said_by : List ℕ → Result (List Piece) ParseError → Result (List Said) ParseError
said_by text (Ok ps) = Ok (said_all text ps)
said_by text (Err fault) = Err fault

-- the message of a text, or its first fault
abbrev pub message_of : List ℕ → Result (List Said) ParseError
message_of text = said_by text (pieces_of text)

-- what stands before the spelling of a piece: the beginning or the end of a quote, and a space between two arms
abbrev pub lead : Before → Said → List ℕ
lead Nothing (special b) = apostrophe ∷ []
lead Nothing _ = []
lead Quote (special b) = []
lead Quote (byte b) = if b == apostrophe then [] else apostrophe ∷ []
lead Quote _ = apostrophe ∷ []
lead EndedArm (arm w) = 32 ∷ []
lead EndedArm _ = []

-- the spelling of a style: nothing for the empty skeleton
abbrev pub style : List ℕ → List ℕ
style [] = []
style (b ∷ k) = comma ∷ colon ∷ colon ∷ b ∷ k

-- the spelling of a piece, before others
abbrev pub spelled_before : List ℕ → Said → List ℕ
spelled_before rest (byte b) = if b == apostrophe then apostrophe ∷ apostrophe ∷ rest else b ∷ rest
spelled_before rest (special b) = b ∷ rest
spelled_before rest (place w) = opening ∷ (w ++ closing ∷ rest)
spelled_before rest (formatted w k) = opening ∷ (w ++ comma ∷ (number_kind ++ (style k ++ closing ∷ rest)))
spelled_before rest (counted w) = hash ∷ rest
spelled_before rest (choice k w) = opening ∷ (w ++ comma ∷ (kind_name k ++ comma ∷ rest))
spelled_before rest (arm w) = w ++ opening ∷ rest
spelled_before rest end_arm = closing ∷ rest
spelled_before rest end_choice = closing ∷ rest

-- what stands before the next piece
abbrev pub before_next : Before → Said → Before
before_next b (special c) = Quote
before_next Quote (byte c) = if c == apostrophe then Quote else Nothing
before_next b end_arm = EndedArm
before_next b _ = Nothing

-- what closes a spelling: the end of a quote
abbrev pub closed : Before → List ℕ
closed Quote = apostrophe ∷ []
closed _ = []

-- the spelling of pieces behind others
abbrev pub spelling_from : Before → List Said → List ℕ
spelling_from b [] = closed b
spelling_from b (m ∷ ms) = lead b m ++ spelled_before (spelling_from (before_next b m) ms) m

-- the spelling of a message: without white space but a space between two arms; an apostrophe is doubled, and each run of bytes
-- that have to be quoted stands in one quote
abbrev pub spelling : List Said → List ℕ
spelling ms = spelling_from Nothing ms

-- a key of an open choice
pub record SaidKey : Type 0 where
  pub level : ℕ
  pub word : List ℕ

abbrev pub said_key : List ℕ → OpenKey → SaidKey
said_key text k = record { level = k.level; word = word_in text k.word }

abbrev pub said_keys : List ℕ → List OpenKey → List SaidKey
said_keys text [] = []
said_keys text (k ∷ ks) = said_key text k ∷ said_keys text ks

-- a choice that was begun
pub record SaidChoice : Type 0 where
  pub level : ℕ
  pub kind : ChoiceKind
  pub name : List ℕ

abbrev pub said_choice : List ℕ → BegunChoice → SaidChoice
said_choice text c = record { level = c.level; kind = c.kind; name = word_in text c.name }

abbrev pub said_choices : List ℕ → List BegunChoice → List SaidChoice
said_choices text [] = []
said_choices text (c ∷ cs) = said_choice text c ∷ said_choices text cs

-- the innermost choice has this key
abbrev pub keys_have : ℕ → List ℕ → List SaidKey → Bool
keys_have level w [] = false
keys_have level w (k ∷ ks) = (k.level == level && same_bytes k.word w) || keys_have level w ks

-- the name of the number by which the last choice of a level picks, if it picks by one
abbrev pub counts_from : Option (List ℕ) → ℕ → List SaidChoice → Option (List ℕ)
counts_from found level [] = found
counts_from found level (c ∷ cs) = counts_from (if c.level == level then number_named c.kind c.name else found) level cs

-- the same, where no choice was passed yet
abbrev pub counts_at : ℕ → List SaidChoice → Option (List ℕ)
counts_at level choices = counts_from None level choices

-- a choice of the other sort was begun by the same name
abbrev pub kinds_differ : ChoiceKind → List ℕ → List SaidChoice → Bool
kinds_differ kind w [] = false
kinds_differ kind w (c ∷ cs) = (are_apart c.kind kind && same_bytes c.name w) || kinds_differ kind w cs

-- a style without braces whose skeleton is read
abbrev pub is_skeleton : List ℕ → Bool
is_skeleton k = is_style k && is_ok (skeleton_of k)

-- within so many choices, in an arm or between arms, with these keys and choices so far: bytes are quoted that have to be, and no
-- others; `#` is the number that is counted; names, keys and skeletons are such; keys stand once in their choice, and `other` among them; no
-- name has two kinds; at most eight choices are open, and all are closed
abbrev pub IsNormalFrom : Bool → ℕ → List SaidKey → List SaidChoice → List Said → Type 0
IsNormalFrom false n ks cs [] = n ≡ 0
IsNormalFrom false n ks cs (byte b ∷ ms) = (is_special (is_some (counts_at n cs)) b ≡ false) × IsNormalFrom false n ks cs ms
IsNormalFrom false n ks cs (special b ∷ ms) = (is_special (is_some (counts_at n cs)) b ≡ true) × IsNormalFrom false n ks cs ms
IsNormalFrom false n ks cs (place w ∷ ms) = (nat_le 8 n ≡ false) × (is_name w ≡ true) × IsNormalFrom false n ks cs ms
IsNormalFrom false n ks cs (formatted w k ∷ ms) = (nat_le 8 n ≡ false) × (is_name w ≡ true) × (is_skeleton k ≡ true)
    × (kinds_differ Plural w cs ≡ false) × IsNormalFrom false n ks (cs ++ record { level = no_level; kind = Plural; name = w } ∷ []) ms
IsNormalFrom false n ks cs (counted w ∷ ms) = (counts_at n cs ≡ Some w) × IsNormalFrom false n ks cs ms
IsNormalFrom false n ks cs (choice k w ∷ ms) = (nat_le 8 n ≡ false) × (is_name w ≡ true) × (kinds_differ k w cs ≡ false)
    × IsNormalFrom true (n + 1) ks (cs ++ record { level = n + 1; kind = k; name = w } ∷ []) ms
IsNormalFrom false n ks cs (end_arm ∷ ms) = ((n == 0) ≡ false) × IsNormalFrom true n ks cs ms
IsNormalFrom true n ks cs (arm w ∷ ms) = (is_key (is_some (counts_at n cs)) w ≡ true) × (keys_have n w ks ≡ false)
    × IsNormalFrom false n (ks ++ record { level = n; word = w } ∷ []) cs ms
IsNormalFrom true n ks cs (end_choice ∷ ms) = (keys_have n other ks ≡ true)
    × IsNormalFrom false (n - 1) (filter (λ k. nat_le k.level (n - 1)) ks) cs ms
IsNormalFrom _ n ks cs _ = ⊥

-- a message that has a spelling
abbrev pub IsNormal : List Said → Type 0
IsNormal ms = IsNormalFrom false 0 [] [] ms

-- reading the spelling of a message gives the message, if the spelling isn't too long
abbrev pub SpellingIsRead : Type 0
SpellingIsRead = (ms : List Said) → IsNormal ms → nat_le (length (spelling ms)) longest ≡ true → message_of (spelling ms) ≡ Ok ms

-- each message that is read is normal, so its spelling is read as itself
abbrev pub ReadIsNormal : Type 0
ReadIsNormal = (text : List ℕ) (ms : List Said) → message_of text ≡ Ok ms → IsNormal ms
