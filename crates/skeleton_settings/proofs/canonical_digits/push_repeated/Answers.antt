use Rattle.std.proofs.Common.{◌≡◌, ◌++◌, ◌∷◌, [], sym, arith, append_assoc, ◌∙◌}
use Rattle.std.proofs.lemmas.Grind.{common_steps}
use Rattle.std.proofs.lemmas.List.{append-nil}
use Rattle.std.specs.String.{string_bytes}
use Rattle.skeleton_settings.specs.Canonical.{repeated}
use Rattle.skeleton_settings.proofs.Spaced.{repeated_none, repeated_more}
use Rattle.skeleton_settings.proofs.canonical_digits.push_repeated.Goals as goal

pub loop-index-init : goal.loop-index-init
loop-index-init c = rw (repeated_none c.args.character) (sym (append-nil (string_bytes c.args.out.now)))

pub loop-index-preserved : goal.loop-index-preserved
loop-index-preserved c =
    let one : string_bytes c.push.new.self ≡ string_bytes c.loop-index.out ++ c.args.character ∷ [] = grind (arith, common_steps) in
    one ∙ rw (c.loop-index.invariant, repeated_more c.loop-index._index c.args.character)
    (append_assoc (string_bytes c.args.out.now) (repeated c.loop-index._index c.args.character) (c.args.character ∷ []))
