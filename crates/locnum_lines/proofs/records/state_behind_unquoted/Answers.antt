use Rattle.std.proofs.Common.{sym, ap, ◌∙◌, subst, arith}
use Rattle.std.specs.Prelude.{if◌then◌else◌}
use Rattle.std.proofs.lemmas.Bool.{eq-eqb, ne_eqb}
use Rattle.locnum_lines.specs.Records.{IsPartLine, state_behind}
use Rattle.locnum_lines.specs.declared.cutting.FieldState.TheVariants.{Front, Plain}
use Rattle.locnum_lines.specs.declared.settings.Delimiter.TheVariants.{Csv}
use Rattle.locnum_lines.proofs.States.{state-end}
use Rattle.locnum_lines.proofs.Skips.{state-quoted, state-unquoted}
use Rattle.locnum_lines.proofs.records.state_behind_unquoted.Goals as goal

pub returns-then-is_quoted : goal.returns-then-is_quoted
returns-then-is_quoted c =
    sym (state-quoted c.args.delimiter c.args.before c.args.bytes.now (sym c.is_quoted.ensures ∙ c.if-is_quoted.true) c.requires)

pub returns-in-None : goal.returns-in-None
returns-in-None c = sym (state-end (Csv c.args.delimiter) c.args.bytes.now 0 c.args.before (omega (arith, c.in-None.ensures.cases)))

pub returns-then-last-delimiter : goal.returns-then-last-delimiter
returns-then-last-delimiter c =
    let split = c.in-Some.ensures.cases.0 in
    sym (ap (state_behind (Csv c.args.delimiter) c.args.before) split
    ∙ state-unquoted c.args.delimiter c.args.before c.in-Some.field-0-1.now c.in-Some.last.now (sym c.is_quoted.ensures ∙ c.if-is_quoted.false)
    (subst (IsPartLine 34) split c.requires) ∙ ap (λ t. if t then Front else Plain) (eq-eqb c.in-Some.last.now c.args.delimiter c.if-last-delimiter.true))

pub returns-else-last-delimiter : goal.returns-else-last-delimiter
returns-else-last-delimiter c =
    let split = c.in-Some.ensures.cases.0 in
    sym (ap (state_behind (Csv c.args.delimiter) c.args.before) split
    ∙ state-unquoted c.args.delimiter c.args.before c.in-Some.field-0-1.now c.in-Some.last.now (sym c.is_quoted.ensures ∙ c.if-is_quoted.false)
    (subst (IsPartLine 34) split c.requires) ∙ ap (λ t. if t then Front else Plain) (ne_eqb c.in-Some.last.now c.args.delimiter c.if-last-delimiter.false))
