-- What a message with its rules writes of arguments.
use Rattle.std.specs.Prelude.{◌≡◌, ℕ, ◌⊎◌, List, ◌++◌, map, Some, None}
use Rattle.icu_message.specs.Writing.{Filling, argument_fault, written}
use Rattle.icu_message.specs.declared.argument.Argument.{Argument}
use Rattle.icu_message.specs.declared.error.WriteError.{WriteError}
use Rattle.icu_message.specs.declared.error.WriteError.TheVariants.{OutOfMemory}
use Rattle.kept_messages.specs.Arguments.{GivenData, lent_data}
use Rattle.kept_messages.specs.Messages.{MessageData}

-- a message with its rules and the arguments that it is lent
abbrev pub filling : MessageData → List Argument → Filling
filling m lent = record { text = m.message.text; cardinal = m.cardinal; ordinal = m.ordinal; given = lent }

-- The text that a message writes of arguments, each of which is given in its kind. They are lent to it from somewhere in memory.
pub record IsWritten (m : MessageData) (given : List GivenData) (text : List ℕ) : Type 0 where
  pub lent : List Argument
  pub lent_are : map lent_data lent ≡ given
  pub faultless : argument_fault (filling m lent) m.message.pieces ≡ None
  pub text_is : text ≡ written (filling m lent) m.message.pieces

-- the first fault of arguments: one is missing, or of another kind
pub record HasFault (m : MessageData) (given : List GivenData) (error : WriteError) : Type 0 where
  pub lent : List Argument
  pub lent_are : map lent_data lent ≡ given
  pub fault_is : argument_fault (filling m lent) m.message.pieces ≡ Some error

-- a buffer grows by the text that a message writes of arguments
pub record Appends (m : MessageData) (given : List GivenData) (old new : List ℕ) : Type 0 where
  pub text : List ℕ
  pub is_written : IsWritten m given text
  pub new_is : new ≡ old ++ text

-- nothing is written: memory ran out, or the arguments have this first fault
abbrev pub IsFault : MessageData → List GivenData → WriteError → Type 0
IsFault m given error = (error ≡ OutOfMemory) ⊎ HasFault m given error
