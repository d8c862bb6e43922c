use Rattle.std.proofs.Common.{◌≡◌, ◌++◌}
use Rattle.number_forms.specs.Characters.{visible_text}
use Rattle.number_forms.proofs.characters.push_characters.Given as goal

abbrev pub invariant-loop-character : goal.invariant-loop-character
invariant-loop-character l = l.out.items ≡ l.fn.out.items ++ visible_text l.yielded
