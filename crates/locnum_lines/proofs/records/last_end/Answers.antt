use Rattle.std.proofs.Common.{ℕ, ◌+◌, ◌<◌, ◌≤◌, Bool, true, false, Option, Some, None, sym, ◌∙◌, arith}
use Rattle.std.specs.Prelude.{IfSome}
use Rattle.locnum_lines.specs.Records.{found_after}
use Rattle.locnum_lines.specs.declared.cutting.FieldState.TheVariants.{Front}
use Rattle.locnum_lines.proofs.States.{front-end, front-start, front-step}
use Rattle.locnum_lines.proofs.records.last_end.Goals as goal

-- what was found is in front
found-within : (t : Bool) (found : Option ℕ) (n : ℕ) → IfSome found (λ k. k < n) → IfSome (found_after t found n) (λ k. k < n + 1)
found-within true found n h = omega arith
found-within false None n h = tt
found-within false (Some k) n h = omega arith

within : (found : Option ℕ) (n m : ℕ) → n ≤ m → IfSome found (λ k. k < n) → IfSome found (λ k. k < m)
within None n m le h = tt
within (Some k) n m le h = omega arith

pub loop-index-init : goal.loop-index-init
loop-index-init c = (omega arith, tt, front-start c.args.delimiter Front c.args.record.now)

pub loop-index-preserved : goal.loop-index-preserved
loop-index-preserved c =
    let i = c.loop-index.invariant in
    rw (c.state_after-state.ensures, c.found_after-found.ensures, c.ends_field.ensures) (
      omega (arith, c.loop-index-test.true),
      found-within _ c.loop-index.found c.loop-index.index i.1,
      i.2 ∙ front-step c.args.delimiter c.args.record.now c.loop-index.index c.loop-index.state c.loop-index.found c.loop-index-test.true,
    )

pub returns : goal.returns
returns c =
    let i = c.loop-index.invariant in
    record {
      within = within c.loop-index.found c.loop-index.index _ i.0 i.1;
      value = sym (i.2 ∙ front-end c.args.delimiter c.args.record.now c.loop-index.index c.loop-index.state _ c.loop-index-test.false);
    }
