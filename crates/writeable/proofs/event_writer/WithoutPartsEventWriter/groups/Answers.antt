use Rattle.std.proofs.Common.{List, refl, subst}
use Rattle.writeable.specs.Events.{Event}
use Rattle.writeable.proofs.GroupTexts.{without_parts-grouped}
use Rattle.writeable.proofs.event_writer.WithoutPartsEventWriter.groups.Goals as goal

pub returns : goal.returns
returns g c = (
  refl,
  subst (λ (l : List Event). g.K.EventWriter.wrote c.args.self.now.out.now c.groups.result l c.groups.new.self)
      (without_parts-grouped c.args.grouping.now _ c.args.characters.now c.args.digits.now refl refl refl refl) c.groups.ensures,
)
