use Rattle.std.proofs.Common.{refl}
use Rattle.writeable.specs.Events.{text_of}
use Rattle.icu_ranges.proofs.ShownOrder.{found_other, found_same}
use Rattle.icu_ranges.proofs.laws.approximately_is_for_equal_texts.Goals as goal

-- what is written goes by the bytes of both texts
pub returns : goal.returns
returns c = λ separator es fs. (
  λ same. rw (found_same (text_of es) (text_of fs) same) refl,
  λ differ. rw (found_other (text_of es) (text_of fs) differ) refl,
)
