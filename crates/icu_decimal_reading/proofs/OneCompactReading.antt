-- A compact text of a readable formatter determines its significand and its exponent.
use Rattle.std.proofs.Common.{◌≡◌, ℕ, ◌∙◌, inr, refl, sym, ap, List, Ok, Err, encode_utf8_all, Result}
use Rattle.std.specs.Str.{chars}
use Rattle.std.proofs.lemmas.Str.{chars_from_encodes, encodes-chars}
use Rattle.fixed_decimal.specs.declared.signs.Sign.{Sign}
use Rattle.fixed_decimal.specs.Size.{place}
use Rattle.fixed_decimal.specs.Unsigned.{Unsigned, IsUnsigned}
use Rattle.icu_decimal_data.specs.CompactTable.{entry_for}
use Rattle.icu_decimal.specs.CompactFormat.{CompactFormat, events_with_exponent, magnitude_with}
use Rattle.icu_decimal.specs.Readable.{IsReadableCompact}
use Rattle.icu_decimal.proofs.CompactDistinct.{compact_tells}
use Rattle.icu_decimal.proofs.ShownAgain.{shown_is_accepted}
use Rattle.icu_decimal_reading.specs.declared.error.NotRead.TheVariants.{NoNumber, OutOfMemory}
use Rattle.icu_decimal_reading.specs.CompactReading.{compact_written, IsCompactTextOf}
use Rattle.icu_decimal_reading.specs.CompactReadingLaws.{OneCompactReading, ReadCompactIsWritten, ShownCompactIsRead, WrittenCompactIsRead}
use Rattle.icu_decimal_reading.proofs.CompactFound.{entry_in}

-- each text is of one number
pub one_compact : OneCompactReading
one_compact f cs s t c d m n h hc hd x y =
    let mc = place (magnitude_with c m) in
    let md = place (magnitude_with d n) in
    let told = compact_tells f s t (entry_for f.table mc) (entry_for f.table md) c d (events_with_exponent f s c m) (events_with_exponent f t d n) h
    (entry_in f.table mc) (entry_in f.table md) hc hd (inr refl) (inr refl) (sym x.text ∙ y.text) in
    (told.0, told.1, x.accepted ∙ told.2 ∙ sym y.accepted)

-- what is written is read
pub compact_written_read : WrittenCompactIsRead
compact_written_read f cs s c n (Ok r) h hc t k = one_compact f cs r.significand.sign s r.significand.absolute c r.exponent n h k.valid hc k.read t
compact_written_read f cs s c n (Err (NoNumber byte)) h hc t k = absurd (k.refused h s c n hc t)
compact_written_read f cs s c n (Err OutOfMemory) h hc t k = refl

-- so is what is shown of a decimal
pub compact_shown_read : ShownCompactIsRead
compact_shown_read f text s d c n es result h table u shown e k =
    let given = shown_is_accepted f s d c n es table shown in
    let same : compact_written f s c n ≡ chars text = chars_from_encodes (compact_written f s c n) text u (given.text_is ∙ sym e) in
    compact_written_read f (chars text) s c n result h shown.decomposed.is_decimal (record { accepted = given.accepted; text = sym same }) k

-- what is read is written
pub compact_read_written : ReadCompactIsWritten
compact_read_written f text (Ok r) u k = (
  k.read.accepted,
  sym (encodes-chars text u)
      ∙ ap encode_utf8_all k.read.text,
)
compact_read_written f text (Err e) u k = tt
