use Rattle.std.proofs.Common.{◌≡◌, [], ◌∷◌, false, length, sym, ap, ◌∙◌, arith}
use Rattle.locnum_lines.specs.Fields.{field_length}
use Rattle.locnum_lines.specs.declared.cutting.FieldState.TheVariants.{Front}
use Rattle.locnum_lines.proofs.FirstField.{field_length-within}
use Rattle.locnum_lines.proofs.Adding.{Adds-writes}
use Rattle.locnum_lines.proofs.Cuts.{seam}
use Rattle.locnum_lines.proofs.Goes.{goes-last, goes-on, goes-stopped}
use Rattle.locnum_lines.proofs.line.push_next.Goals as goal

pub split_at-requires : goal.split_at-requires
split_at-requires c = rw c.field_length-length.ensures (field_length-within _ Front c.args.line.now)

pub returns-then-gathered : goal.returns-then-gathered
returns-then-gathered c =
    let is : c.field_length-length.result ≡ field_length c.args.settings.now.delimiter Front c.args.line.now =
    rw (← c.settings.view_is) c.field_length-length.ensures in
    goes-stopped c.args.settings.now c.args.form.now c.args.index c.args.line.now c.field_length-length.result is
    c.args.gathered.now c.push_field.new.gathered (rw c.split_at.ensures.front at c.in_ok-push_field.ensures)
    (ap (λ g. g.is_stopped) (sym c.gathered.view_is) ∙ c.if-gathered.true)

pub returns-in_default : goal.returns-in_default
returns-in_default c =
    let is : c.field_length-length.result ≡ field_length c.args.settings.now.delimiter Front c.args.line.now =
    rw (← c.settings.view_is) c.field_length-length.ensures in
    let whole : c.field_length-length.result ≡ length c.args.line.now =
    omega (arith, c.in_default.ensures.cases, c.split_at.ensures.back_len, c.split_at.ensures.front_len) in
    goes-last c.args.settings.now c.args.form.now c.args.index c.args.line.now c.field_length-length.result is
    c.args.gathered.now c.push_field.new.gathered (rw c.split_at.ensures.front at c.in_ok-push_field.ensures)
    (ap (λ g. g.is_stopped) (sym c.gathered.view_is) ∙ c.if-gathered.false) whole

pub returns : goal.returns
returns c =
    let is : c.field_length-length.result ≡ field_length c.args.settings.now.delimiter Front c.args.line.now =
    rw (← c.settings.view_is) c.field_length-length.ensures in
    let on : c.push_field.new.gathered.is_stopped ≡ false = ap (λ g. g.is_stopped) (sym c.gathered.view_is) ∙ c.if-gathered.false in
    let apart = seam c.args.line.now c.field_length-length.result c.in-Some.separator.now c.in-Some.rest.now
    (sym c.split_at.ensures.back ∙ c.in-Some.ensures.cases.0) in
    let written = Adds-writes c.push_field.new.gathered c.push.new.self (c.in-Some.separator.now ∷ []) on c.in_ok-push.ensures in
    let went = goes-on c.args.settings.now c.args.form.now c.args.index c.args.line.now c.field_length-length.result is
    c.args.gathered.now c.push_field.new.gathered (rw c.split_at.ensures.front at c.in_ok-push_field.ensures) c.push.new.self on apart.0 (rw apart.1 written) in
    rw apart.2 at went
