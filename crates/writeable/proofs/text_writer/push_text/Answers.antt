use Rattle.std.proofs.Common.{◌≡◌, ◌<◌, ◌∷◌, [], get_or, ◌∙◌, arith}
use Rattle.std.proofs.lemmas.Bool.Decides.{nat_tests}
use Rattle.writeable.specs.Events.{text_of}
use Rattle.writeable.specs.Events.Event.{Char}
use Rattle.writeable.proofs.DigitEvents.{one_ascii_byte}
use Rattle.writeable.proofs.text_writer.push_text.Goals as goal

pub returns-then-is_ascii : goal.returns-then-is_ascii
returns-then-is_ascii c =
    let bytes = c.as_bytes-bytes.result.now in
    let small : get_or bytes 0 0 < 128 = grind (arith, nat_tests, c.is_ascii.ensures) in
    let is : text_of (Char (get_or bytes 0 0) ∷ []) ≡ c.args.text.now = one_ascii_byte bytes (omega arith) small ∙ c.as_bytes-bytes.ensures.value in
    rw is at c.push_character.ensures
