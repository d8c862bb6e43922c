use Rattle.icu_provider.proofs.Names.{IsPadded-of}
use Rattle.icu_provider.proofs.short_text.ShortText.new.Goals as goal

-- the text and zeros behind it
pub invariant_of-result : goal.invariant_of-result
invariant_of-result g c = rw (c.copy_from_slice.ensures.after, c.as_bytes.ensures.value) (IsPadded-of g.row.N c.args.text.now c.requires c.utf8.text)
