use Rattle.std.proofs.Common.{◌≡◌, ℕ, List, Ok, inr, refl, sym, ap, ◌∙◌, subst}
use Rattle.std.proofs.lemmas.Bool.{false≢true}
use Rattle.fixed_decimal.specs.SignDisplay.{is_negative}
use Rattle.fixed_decimal.specs.Size.{magnitude_place}
use Rattle.icu_decimal_data.specs.CompactTable.{IsCompactTable, TableEntry, entry_for}
use Rattle.icu_decimal.specs.CompactFormat.{exponent_needed}
use Rattle.number_forms.specs.Shortened.{shortened}
use Rattle.number_forms.proofs.ExponentsShown.{exponent-accepted}
use Rattle.number_forms.proofs.NumbersShortened.{shortened-is, shortened-not, shortened-past}
use Rattle.number_forms.proofs.shortened.shorten.Goals as goal

pub returns-then-not-divides_one-clause-refused : goal.returns-then-not-divides_one-clause-refused
returns-then-not-divides_one-clause-refused c =
    inr (shortened-not c.args.rounding.now c.args.formatter.now.table (is_negative c.args.decimal.now.sign) c.args.decimal.now.absolute
    (λ one. absurd (false≢true (c.if-not-divides_one.ensures.1 one))))

pub returns-in-Ok-clause-ok : goal.returns-in-Ok-clause-ok
returns-in-Ok-clause-ok c =
    let is = c.in-Ok.ensures.shown in
    let minus = is_negative c.args.decimal.now.sign in
    let d = c.args.decimal.now.absolute in
    ap (λ (t : List TableEntry). shortened c.args.rounding.now t minus d) (sym c.patterns-table.ensures)
    ∙ shortened-is c.args.rounding.now c.patterns-table.result.now minus d c.entries_are_a_compact_table.ensures
    (c.if-not-divides_one.ensures.0 refl) is.0 _ c.in-Ok.shown.significand.absolute is.1 c.in-Ok.ensures.within
    ∙ ap (λ (e : ℕ). Ok (record { significand = c.in-Ok.shown.significand.absolute; exponent = e })) (sym c.in-Ok.ensures.exponent)

pub returns-in-Ok-clause-needed : goal.returns-in-Ok-clause-needed
returns-in-Ok-clause-needed c =
    let is = c.in-Ok.ensures.shown in
    let u = c.in-Ok.shown.significand.absolute in
    subst (λ (e : ℕ). e ≡ exponent_needed c.args.formatter.now u e) (sym c.in-Ok.ensures.exponent)
    (exponent-accepted c.args.formatter.now u is.0 _
    (subst IsCompactTable c.patterns-table.ensures c.entries_are_a_compact_table.ensures)
    (is.1.entry_is ∙ ap (λ (t : List TableEntry). entry_for t (magnitude_place is.0)) c.patterns-table.ensures) is.1.scaled)

pub returns-in-Err-Overflow-clause-refused : goal.returns-in-Err-Overflow-clause-refused
returns-in-Err-Overflow-clause-refused c =
    let minus = is_negative c.args.decimal.now.sign in
    let d = c.args.decimal.now.absolute in
    inr (ap (λ (t : List TableEntry). shortened c.args.rounding.now t minus d) (sym c.patterns-table.ensures)
    ∙ shortened-past c.args.rounding.now c.patterns-table.result.now minus d c.entries_are_a_compact_table.ensures
    (c.if-not-divides_one.ensures.0 refl) (c.in-Err-Overflow.ensures.overflow (rw c.in-Err-Overflow.field-0-is refl)))
