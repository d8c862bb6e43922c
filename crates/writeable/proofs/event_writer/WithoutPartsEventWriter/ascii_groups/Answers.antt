use Rattle.std.proofs.Common.{List, refl, subst}
use Rattle.writeable.specs.Events.{Event, ascii_characters}
use Rattle.writeable.proofs.GroupTexts.{without_parts-grouped}
use Rattle.writeable.proofs.event_writer.WithoutPartsEventWriter.ascii_groups.Goals as goal

pub returns : goal.returns
returns g c = (
  refl,
  subst (λ (l : List Event). g.K.EventWriter.wrote c.args.self.now.out.now c.ascii_groups.result l c.ascii_groups.new.self)
      (without_parts-grouped c.args.grouping.now _ ascii_characters c.args.digits.now refl refl refl refl) c.ascii_groups.ensures,
)
