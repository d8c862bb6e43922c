use Rattle.std.proofs.Common.{◌≡◌, ◌∷◌, [], get_or, sym, ◌∙◌, arith}
use Rattle.std.specs.Str.{IsUtf8}
use Rattle.writeable.specs.Events.{ascii_characters}
use Rattle.writeable.proofs.DigitEvents.{one_byte}
use Rattle.writeable.proofs.GroupTexts.{text_of-grouped}
use Rattle.writeable.proofs.byte_writer.VecU8EventWriter.ascii_groups.Goals as goal

pub returns-then-separator-eq1 : goal.returns-then-separator-eq1
returns-then-separator-eq1 c =
    let bytes = c.as_bytes-separator.result.now in
    let separator = c.args.grouping.now.separator.now in
    let one : separator ≡ get_or bytes 0 0 ∷ [] = sym c.as_bytes-separator.ensures.value ∙ one_byte bytes (omega arith) in
    let utf8 : IsUtf8 separator = rw c.as_bytes-separator.ensures.value at c.as_bytes-separator.ensures.utf8 in
    rw (text_of-grouped c.args.grouping.now ascii_characters c.args.digits.now utf8, one) c.push_byte_groups.ensures.ok

pub returns : goal.returns
returns c =
    let utf8 : IsUtf8 c.args.grouping.now.separator.now = rw c.as_bytes-separator.ensures.value at c.as_bytes-separator.ensures.utf8 in
    rw (text_of-grouped c.args.grouping.now ascii_characters c.args.digits.now utf8) c.push_wide_groups.ensures.ok
