use Rattle.std.proofs.Common.{◌≡◌, length}
use denote.Text.{Utf8}
use denote.Shadow.{shadow}
use Rattle.locnum_options.specs.Fields.{fields_named, ranges_named}
use Rattle.locnum_options.specs.Texts.{parts_of}
use Rattle.locnum_options.proofs.Ranges.{onto_ranges}
use Rattle.locnum_options.proofs.fields.fields_named.Given as goal

-- the ranges so far stand before those of the rest, which is text
abbrev pub invariant-loop-part : goal.invariant-loop-part
invariant-loop-part l = (fields_named l.fn.text ≡ onto_ranges l.fields.items (ranges_named (parts_of 44 l.rest))) × shadow (Utf8 l.rest)

abbrev pub decreases-loop-part : goal.decreases-loop-part
decreases-loop-part l = length l.rest
