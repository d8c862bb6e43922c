use Rattle.std.proofs.Common.{◌≡◌, ◌++◌, length}
use denote.Text.{Utf8}
use denote.Shadow.{shadow}
use Rattle.locnum_options.specs.Texts.{parts_of}
use Rattle.locnum_options.proofs.Parts.{seen}
use Rattle.locnum_options.proofs.names.parts_of.Given as goal

-- the parts so far stand before those of the rest, which is text
abbrev pub invariant-loop-part : goal.invariant-loop-part
invariant-loop-part l = (parts_of 44 l.fn.text ≡ seen l.parts.items ++ parts_of 44 l.rest) × shadow (Utf8 l.rest)

abbrev pub decreases-loop-part : goal.decreases-loop-part
decreases-loop-part l = length l.rest
