use Rattle.std.proofs.Common.{◌≡◌, ◌∙◌, ap, arith, length, drop, List, ℕ, replicate, ◌-◌}
use Rattle.std.proofs.lemmas.List.{length-drop, length-append, length-replicate}
use Rattle.std.proofs.lemmas.List.Sums.{prefix_len-le-length}
use Rattle.std.specs.List.{prefix_len}
use Rattle.std.specs.Char.{is_ascii_digit}
use Rattle.fixed_decimal.proofs.LaneLemmas.{padded_digits}
use Rattle.fixed_decimal.proofs.lanes.digits_in.Goals as goal

pub digits_from-requires-clause-lanes : goal.digits_from-requires-clause-lanes
digits_from-requires-clause-lanes c =
    ap length c.requires.lanes ∙ length-append c.args.text.now (replicate (16 - length c.args.text.now) 0)
    ∙ omega (arith, length-replicate {A = ℕ} (16 - length c.args.text.now) 0, c.requires.short)

pub returns-clause-count : goal.returns-clause-count
returns-clause-count c =
    c.digits_from.ensures ∙ ap (λ (l : List ℕ). prefix_len is_ascii_digit (drop c.args.start l)) c.requires.lanes
    ∙ padded_digits c.args.text.now _ c.args.start c.requires.start

pub returns-clause-within : goal.returns-clause-within
returns-clause-within c =
    let e : c.digits_from.result ≡ prefix_len is_ascii_digit (drop c.args.start c.args.text.now) =
    c.digits_from.ensures ∙ ap (λ (l : List ℕ). prefix_len is_ascii_digit (drop c.args.start l)) c.requires.lanes
    ∙ padded_digits c.args.text.now _ c.args.start c.requires.start in
    omega (arith, e, prefix_len-le-length is_ascii_digit (drop c.args.start c.args.text.now), length-drop c.args.start c.args.text.now, c.requires.start)
