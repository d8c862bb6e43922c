-- What is wrong with the text of a message, in numbers.
use Rattle.std.specs.Prelude.{ℕ}
use Rattle.icu_message.specs.declared.error.ParseError.{ParseError}
use Rattle.icu_message.specs.declared.error.ParseError.TheVariants as parse
use Rattle.kept_messages.specs.declared.error.OpenError.{OpenError}
use Rattle.kept_messages.specs.declared.error.OpenError.TheVariants as open_error
use Rattle.talmuiga_c.specs.SkeletonFaults.{kind_number, no_fault}
use Rattle.talmuiga_c.specs.declared.fault.Fault.{Fault}

-- a fault of a kind at a byte
abbrev pub fault_at : ℕ → ℕ → ℕ → Fault
fault_at byte kind thing = record { byte = byte; kind = kind; thing = thing }

-- the kinds of faults; 1 is that of bytes that aren't UTF-8, and of a skeleton that is rejected the kind of its fault is told too
abbrev pub message_fault : ParseError → Fault
message_fault (parse.TooLong byte) = fault_at byte 2 0
message_fault (parse.End byte) = fault_at byte 3 0
message_fault (parse.Unopened byte) = fault_at byte 4 0
message_fault (parse.OpenQuote byte) = fault_at byte 5 0
message_fault (parse.TooDeep byte) = fault_at byte 6 0
message_fault (parse.Name byte) = fault_at byte 7 0
message_fault (parse.Kind byte) = fault_at byte 8 0
message_fault (parse.Style byte) = fault_at byte 9 0
message_fault (parse.Skeleton k byte) = fault_at byte 10 (kind_number k)
message_fault (parse.TwoKinds byte) = fault_at byte 11 0
message_fault (parse.Offset byte) = fault_at byte 12 0
message_fault (parse.Key byte) = fault_at byte 13 0
message_fault (parse.Repeated byte) = fault_at byte 14 0
message_fault (parse.NoOther byte) = fault_at byte 15 0
message_fault (parse.Unexpected byte) = fault_at byte 16 0
message_fault parse.OutOfMemory = no_fault

-- the fault by which a message isn't opened
abbrev pub open_fault : OpenError → Fault
open_fault (open_error.Message e) = message_fault e
open_fault (open_error.Refused e) = no_fault
open_fault open_error.NoCardinalRules = no_fault
open_fault open_error.NoOrdinalRules = no_fault
open_fault open_error.OutOfMemory = no_fault
