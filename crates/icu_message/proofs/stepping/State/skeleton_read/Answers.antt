use Rattle.std.proofs.Common.{sym, ap, ◌∙◌}
use Rattle.std.specs.Prelude.{Ok, Err}
use Rattle.icu_message.specs.declared.stepping.Step.{Step}
use Rattle.icu_message.proofs.Styles.{no_style, style_read}
use Rattle.icu_message.proofs.stepping.State.skeleton_read.Goals as goal

pub returns-in_default-clause-stepped : goal.returns-in_default-clause-stepped
returns-in_default-clause-stepped c =
    sym (no_style c.args.text.now c.bytes-bytes.result.now c.args.self c.args.name c.args.skeleton c.bytes-bytes.ensures c.in_default.ensures.cases.0)

pub returns-in-Ok-read_skeleton-clause-stepped : goal.returns-in-Ok-read_skeleton-clause-stepped
returns-in-Ok-read_skeleton-clause-stepped c =
    ap (λ (t : Step). Ok t) c.adds.ensures
    ∙ sym (style_read c.args.text.now c.bytes-bytes.result.now c.args.self c.args.name c.args.skeleton _ c.bytes-bytes.ensures c.in-Ok.ensures.cases.1
    c.if-has_brace.ensures (rw c.in-Ok.ensures.cases.0 at c.in-Ok-read_skeleton.ensures))

pub returns-in-Err-clause-stepped : goal.returns-in-Err-clause-stepped
returns-in-Err-clause-stepped c =
    ap (λ e. Err e) c.moved_fault.ensures
    ∙ sym (style_read c.args.text.now c.bytes-bytes.result.now c.args.self c.args.name c.args.skeleton (Err c.in-Err.fault) c.bytes-bytes.ensures
    c.in-Ok.ensures.cases.1 c.if-has_brace.ensures (rw c.in-Ok.ensures.cases.0 at c.in-Err.ensures))
