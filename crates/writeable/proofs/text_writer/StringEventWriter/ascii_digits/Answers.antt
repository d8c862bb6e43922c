use Rattle.std.proofs.Common.{◌≡◌, arith}
use Rattle.std.proofs.lemmas.Grind.{common_steps}
use Rattle.std.proofs.lemmas.Str.{IsUtf8-string_bytes}
use Rattle.std.specs.Str.{IsUtf8}
use Rattle.std.specs.String.{string_bytes}
use Rattle.writeable.specs.Events.{ascii_characters}
use Rattle.writeable.proofs.Utf8Texts.{IsUtf8-digits, IsUtf8-grown, ascii_scalars}
use Rattle.writeable.proofs.text_writer.StringEventWriter.ascii_digits.Goals as goal

pub from_utf8_unchecked-requires : goal.from_utf8_unchecked-requires
from_utf8_unchecked-requires c =
    let before : IsUtf8 c.into_bytes-bytes.result.items = rw c.into_bytes-bytes.ensures.value (IsUtf8-string_bytes c.replace-taken.result) in
    IsUtf8-grown c.push_byte_digits-result.result _ _ _ c.push_byte_digits-result.ensures.ok c.push_byte_digits-result.ensures.err before
    (IsUtf8-digits ascii_characters c.args.digits.now ascii_scalars)

pub returns : goal.returns
returns c =
    let same : c.into_bytes-bytes.result.items ≡ string_bytes c.args.self.now = grind (arith, common_steps) in
    let made : string_bytes c.from_utf8_unchecked.result ≡ c.push_byte_digits-result.new.out.items = grind (arith, common_steps) in
    rw made (rw same at c.push_byte_digits-result.ensures.ok)
