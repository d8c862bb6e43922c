use Rattle.std.proofs.Common.{◌≡◌, arith}
use Rattle.std.proofs.lemmas.Grind.{common_steps}
use Rattle.std.proofs.lemmas.Str.{IsUtf8-string_bytes}
use Rattle.std.specs.String.{string_bytes}
use Rattle.writeable.proofs.GroupTexts.{text_of-grouped}
use Rattle.writeable.proofs.text_writer.StringEventWriter.groups.Goals as goal

pub from_utf8_unchecked-requires : goal.from_utf8_unchecked-requires
from_utf8_unchecked-requires c =
    c.push_wide_groups-result.ensures.is_text (rw c.into_bytes-bytes.ensures.value (IsUtf8-string_bytes c.replace-taken.result))

pub returns : goal.returns
returns c =
    let same : c.into_bytes-bytes.result.items ≡ string_bytes c.args.self.now = grind (arith, common_steps) in
    let made : string_bytes c.from_utf8_unchecked.result ≡ c.push_wide_groups-result.new.out.items = grind (arith, common_steps) in
    rw (text_of-grouped c.args.grouping.now c.args.characters.now c.args.digits.now c.push_wide_groups-result.ensures.separator, made)
    (rw same at c.push_wide_groups-result.ensures.ok)
