use Rattle.std.proofs.Common.{◌≡◌, ◌∷◌, [], get_or, sym, ◌∙◌, arith}
use Rattle.std.proofs.lemmas.Grind.{common_steps}
use Rattle.std.proofs.lemmas.Str.{IsUtf8-string_bytes}
use Rattle.std.specs.Str.{IsUtf8}
use Rattle.std.specs.String.{string_bytes}
use Rattle.writeable.specs.Events.{ascii_characters}
use Rattle.writeable.specs.Groups.{cut}
use Rattle.writeable.proofs.DigitEvents.{one_byte}
use Rattle.writeable.proofs.GroupTexts.{text_of-grouped}
use Rattle.writeable.proofs.Utf8Texts.{IsUtf8-groups, IsUtf8-grown, ascii_scalars}
use Rattle.writeable.proofs.text_writer.StringEventWriter.ascii_groups.Goals as goal

pub from_utf8_unchecked-requires : goal.from_utf8_unchecked-requires
from_utf8_unchecked-requires c =
    let bytes = c.as_bytes-separator.result.now in
    let separator = c.args.grouping.now.separator.now in
    let one : separator ≡ get_or bytes 0 0 ∷ [] = sym c.as_bytes-separator.ensures.value ∙ one_byte bytes (omega arith) in
    let utf8 : IsUtf8 separator = rw c.as_bytes-separator.ensures.value at c.as_bytes-separator.ensures.utf8 in
    let before : IsUtf8 c.into_bytes-bytes.result.items = rw c.into_bytes-bytes.ensures.value (IsUtf8-string_bytes c.replace-taken.result) in
    IsUtf8-grown c.push_byte_groups-result.result _ _ _ c.push_byte_groups-result.ensures.ok c.push_byte_groups-result.ensures.err before
    (IsUtf8-groups (get_or bytes 0 0 ∷ []) ascii_characters (cut c.args.grouping.now.primary c.args.grouping.now.secondary c.args.digits.now) ascii_scalars
    (rw one at utf8))

pub returns : goal.returns
returns c =
    let bytes = c.as_bytes-separator.result.now in
    let separator = c.args.grouping.now.separator.now in
    let one : separator ≡ get_or bytes 0 0 ∷ [] = sym c.as_bytes-separator.ensures.value ∙ one_byte bytes (omega arith) in
    let utf8 : IsUtf8 separator = rw c.as_bytes-separator.ensures.value at c.as_bytes-separator.ensures.utf8 in
    let same : c.into_bytes-bytes.result.items ≡ string_bytes c.args.self.now = grind (arith, common_steps) in
    let made : string_bytes c.from_utf8_unchecked.result ≡ c.push_byte_groups-result.new.out.items = grind (arith, common_steps) in
    rw (text_of-grouped c.args.grouping.now ascii_characters c.args.digits.now utf8, one, made) (rw same at c.push_byte_groups-result.ensures.ok)
