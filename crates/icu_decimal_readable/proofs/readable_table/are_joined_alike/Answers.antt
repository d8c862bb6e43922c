use Rattle.std.proofs.Common.{◌≡◌, ◌++◌, sym, ap, ◌∙◌}
use Rattle.icu_decimal_readable.proofs.Joined.{not_lined_up, joined, parted, same_characters, same_bytes}
use Rattle.icu_decimal_readable.proofs.readable_table.are_joined_alike.Goals as goal

pub returns-in-Some : goal.returns-in-Some
returns-in-Some c =
    let cut = c.in-Some.ensures.cases in
    let m = c.in-Some.middle.now in
    let is : c.args.c.now ≡ c.args.a.now ++ m = cut.1.1 ∙ ap (λ l. c.args.a.now ++ l) (sym cut.2) in (
      λ e. same_characters c.args.a.now c.args.b.now c.args.c.now c.args.d.now c.utf8.a c.utf8.c
          (joined c.args.a.now c.args.b.now c.args.c.now c.args.d.now m is (c.is_joined.ensures.0 e)),
      λ e. c.is_joined.ensures.1 (parted c.args.a.now c.args.b.now c.args.c.now c.args.d.now m is
          (same_bytes c.args.a.now c.args.b.now c.args.c.now c.args.d.now c.utf8.a c.utf8.b c.utf8.c c.utf8.d e)),
    )

pub returns-in-Some-strip_prefix : goal.returns-in-Some-strip_prefix
returns-in-Some-strip_prefix c =
    let cut = c.in-Some-strip_prefix.ensures.cases in
    let m = c.in-Some-strip_prefix.middle.now in
    let is : c.args.a.now ≡ c.args.c.now ++ m = cut.1.1 ∙ ap (λ l. c.args.c.now ++ l) (sym cut.2) in
    let distinct = c.is_joined-in-Some-strip_prefix.ensures in (
      λ e. same_characters c.args.a.now c.args.b.now c.args.c.now c.args.d.now c.utf8.a c.utf8.c
          (sym (joined c.args.c.now c.args.d.now c.args.a.now c.args.b.now m is (distinct.0 e))),
      λ e. distinct.1 (parted c.args.c.now c.args.d.now c.args.a.now c.args.b.now m is
          (sym (same_bytes c.args.a.now c.args.b.now c.args.c.now c.args.d.now c.utf8.a c.utf8.b c.utf8.c c.utf8.d e))),
    )

pub returns : goal.returns
returns c = (
  λ e. cc,
  λ e. absurd (not_lined_up c.args.a.now c.args.b.now c.args.c.now c.args.d.now c.in_default.ensures.cases c.in_default-strip_prefix.ensures.cases
      (same_bytes c.args.a.now c.args.b.now c.args.c.now c.args.d.now c.utf8.a c.utf8.b c.utf8.c c.utf8.d e)),
)
