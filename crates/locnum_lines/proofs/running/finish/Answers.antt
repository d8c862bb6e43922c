use Rattle.std.proofs.Common.{sym, ap, ◌∙◌}
use Rattle.decimal_lines.proofs.Known.{Appends-nothing}
use Rattle.std.proofs.Math.Nat.{max-zero}
use Rattle.locnum_lines.proofs.Adding.{first-nil, only_added, or_false}
use Rattle.locnum_lines.proofs.Runs.{any_err, held-none, held-ran}
use Rattle.locnum_lines.proofs.running.finish.Goals as goal

pub returns-then-is_empty-clause-ok : goal.returns-then-is_empty-clause-ok
returns-then-is_empty-clause-ok g c =
    rw (held-none c.args.settings.now c.args.form.now c.args.held.now c.args.gathered.stage
    (sym c.is_empty.ensures ∙ c.if-is_empty.true)) (record {
      written = Appends-nothing _;
      reported = Appends-nothing _;
      is_refused = ap (λ k. k.is_refused) c.reported.ensures ∙ or_false _;
      is_stopped = ap (λ k. k.is_stopped) c.reported.ensures ∙ c.requires.going;
      most_fields = ap (λ k. k.most_fields) c.reported.ensures ∙ sym (max-zero _);
      holding = ap (λ k. k.holding) c.reported.ensures ∙ sym (first-nil _);
    })

pub returns-in_err-flush-clause-err : goal.returns-in_err-flush-clause-err
returns-in_err-flush-clause-err g c =
    let adds = held-ran c.args.settings.now c.args.form.now c.args.held.now c.args.gathered c.push_last.new.gathered _
    (sym c.is_empty.ensures ∙ c.if-is_empty.false) c.requires.part c.in-Ok.ensures in
    any_err c.from_residual.result (record {
      written = rw (only_added _ _ _ adds.output c.requires.no_output) at c.in_err-flush.ensures.err_written;
      reported = rw (only_added _ _ _ adds.notes c.requires.no_notes) at c.in_err-flush.ensures.err_reported;
    })

pub returns-clause-ok : goal.returns-clause-ok
returns-clause-ok g c =
    let adds = held-ran c.args.settings.now c.args.form.now c.args.held.now c.args.gathered c.push_last.new.gathered _
    (sym c.is_empty.ensures ∙ c.if-is_empty.false) c.requires.part c.in-Ok.ensures in
    record {
      written = rw (only_added _ _ _ adds.output c.requires.no_output) at c.in_ok-flush.ensures.written;
      reported = rw (only_added _ _ _ adds.notes c.requires.no_notes) at c.in_ok-flush.ensures.reported;
      is_refused = ap (λ k. k.is_refused) c.reported-2.ensures ∙ ap (λ k. k.is_refused) c.in_ok-flush.ensures.ok ∙ adds.is_refused;
      is_stopped = ap (λ k. k.is_stopped) c.reported-2.ensures ∙ ap (λ k. k.is_stopped) c.in_ok-flush.ensures.ok ∙ adds.is_stopped;
      most_fields = ap (λ k. k.most_fields) c.reported-2.ensures ∙ ap (λ k. k.most_fields) c.in_ok-flush.ensures.ok ∙ adds.most_fields;
      holding = ap (λ k. k.holding) c.reported-2.ensures ∙ ap (λ k. k.holding) c.in_ok-flush.ensures.ok ∙ adds.holding;
    }
