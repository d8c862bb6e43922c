use Rattle.std.proofs.Common.{rules, ◌≡◌, ◌∙◌, ap, sym}
use Rattle.std.specs.Prelude.{nat_eq}
use Rattle.std.specs.Cmp.Lexicographic.{pointwise}
use Rattle.icu_decimal_symbols.specs.Symbols.{SymbolTexts, same_texts, same_texts_decides}
use Rattle.icu_decimal_symbols.specs.SymbolBytes.{texts_in}
use Rattle.icu_decimal_symbols.proofs.SameBytes.{same_bytes}
use Rattle.icu_decimal_symbols.proofs.symbols.DecimalSymbolsStrsPartialEq.eq.Goals as goal

pub returns-clause-computed : goal.returns-clause-computed
returns-clause-computed c =
    let h : c.eq.result ≡ pointwise nat_eq c.self.inside.bytes.items c.other.inside.bytes.items = search rules in
    h ∙ same_bytes c.self.inside.bytes.items c.other.inside.bytes.items c.self.invariant c.other.invariant
    ∙ ap (λ (s : SymbolTexts). same_texts s (texts_in c.other.inside.bytes.items)) c.self.view_is
    ∙ ap (λ (s : SymbolTexts). same_texts c.args.self.now s) c.other.view_is

pub returns-clause-same : goal.returns-clause-same
returns-clause-same c =
    let computed : c.eq.result ≡ same_texts c.args.self.now c.args.other.now = returns-clause-computed c in
    let decides = same_texts_decides c.args.self.now c.args.other.now in
    (λ h. decides.0 (sym computed ∙ h), λ e. computed ∙ decides.1 e)
