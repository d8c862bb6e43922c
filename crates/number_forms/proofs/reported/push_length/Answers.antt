use Rattle.std.proofs.Common.{codes, decimal}
use Rattle.number_forms.specs.Reported.{length_text}
use Rattle.number_forms.proofs.VisibleTexts.{appended_three}
use Rattle.number_forms.proofs.reported.push_length.Goals as goal

pub returns : goal.returns
unfolding length_text
returns c =
    appended_three _ (codes " (") (decimal c.args.count) (codes " characters)") _ _ _ c.in_ok-extend_from_slice.ensures.items c.in_ok-push_decimal.ensures
    c.in_ok-extend_from_slice-2.ensures.items
