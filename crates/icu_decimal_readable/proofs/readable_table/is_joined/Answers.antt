use Rattle.std.proofs.Common.{rules, ◌≡◌, ◌++◌, sym, ap, ◌∙◌}
use Rattle.std.proofs.lemmas.List.{append_cancel_left}
use Rattle.icu_decimal_readable.proofs.readable_table.is_joined.Goals as goal

pub returns-in-Some : goal.returns-in-Some
returns-in-Some c =
    let cut = c.in-Some.ensures.cases in
    let whole : c.args.text.now ≡ c.args.front.now ++ c.in-Some.rest.now = cut.1.1 ∙ ap (λ l. c.args.front.now ++ l) (sym cut.2) in (
      λ e. let same : c.in-Some.rest.now ≡ c.args.back.now = search rules in whole ∙ ap (λ l. c.args.front.now ++ l) same,
      λ e. let same : c.in-Some.rest.now ≡ c.args.back.now = append_cancel_left c.args.front.now c.in-Some.rest.now c.args.back.now (sym whole ∙ e) in
          search rules,
    )
