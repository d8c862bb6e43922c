use Rattle.std.proofs.Common.{Ok, map}
use Rattle.writeable.specs.Annotated.{IsWithinLimit}
use Rattle.writeable.specs.Events.Event.{Char}
use Rattle.writeable.specs.Sink.{Writes}
use Rattle.writeable.proofs.TextLemmas.{KeepsText}
use Rattle.writeable.proofs.parts_text.PartsTextPartsWrite.write_str.Given as goal

abbrev pub invariant-loop-character : goal.invariant-loop-character
invariant-loop-character l = record {
  written : Writes (λ s. s.events) (λ s. s.failures) l.initial.self (Ok tt) (map Char l.yielded) l.self;
  limited : KeepsText l.initial.self (Ok tt) (map Char l.yielded) l.self;
  within : IsWithinLimit l.self;
}
