-- What a handle of C's owns: room for what C keeps, or that; and what this owns and lends while it is lent.
use Rattle.std.specs.Prelude.{List, Option, Some, None}
use Rattle.kept_messages.specs.Arguments.{GivenData}
use Rattle.kept_messages.specs.Messages.{MessageData}
use Rattle.talmuiga_c.specs.contracts.held.Held.{the_row}
use Rattle.talmuiga_c.specs.declared.held.Held.{Held}
use Rattle.talmuiga_c.specs.declared.held.Held.TheVariants.{Formatter, Message, Arguments}
use Rattle.talmuiga_c.specs.declared.kept.Kept.{Kept}
use base.Fml.{Fml, Lft, ftrue}
use base.Fraction.{full_share}
use denote.RawPtr.{Ptr, lies_at, room_at}
use denote.Struct.Lending.{lent_at}

-- what it holds is lent, so that it owns nothing
abbrev pub away : Option (Option Held)
away = None

-- it has room
abbrev pub empty : Option (Option Held)
empty = Some None

-- it holds this
abbrev pub contains : Held → Option (Option Held)
contains held = Some (Some held)

-- it holds what a formatter does
abbrev pub holding : Kept → Option (Option Held)
holding kept = contains (Formatter kept)

-- it holds a message
abbrev pub holding_message : MessageData → Option (Option Held)
holding_message message = contains (Message message)

-- it holds arguments
abbrev pub holding_arguments : List GivenData → Option (Option Held)
holding_arguments given = contains (Arguments given)

-- what a formatter holds
abbrev pub IsFormatter : Held → Type 0
IsFormatter (Formatter kept) = Unit {0}
IsFormatter _ = ⊥

-- a message
abbrev pub IsMessage : Held → Type 0
IsMessage (Message message) = Unit {0}
IsMessage _ = ⊥

-- arguments
abbrev pub AreArguments : Held → Type 0
AreArguments (Arguments given) = Unit {0}
AreArguments _ = ⊥

-- it holds arguments
abbrev pub HoldsArguments : Option (Option Held) → Type 0
HoldsArguments (Some (Some held)) = AreArguments held
HoldsArguments _ = ⊥

-- it lies there
abbrev pub lent_owns : Ptr → Held → Fml
lent_owns p held = lies_at the_row full_share p held

-- readers share it
abbrev pub lent_shares : Ptr → Held → Lft → Fml
lent_shares p held κ = lent_at the_row p held κ

-- what the pointer owns: nothing while what it holds is lent, room, or what it holds
abbrev pub room_owns : Ptr → Option (Option Held) → Fml
room_owns p None = ftrue
room_owns p (Some None) = room_at the_row p
room_owns p (Some (Some held)) = lent_owns p held
