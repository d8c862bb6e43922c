use Rattle.std.proofs.Common.{◌≡◌, ◌+◌, ◌++◌, ◌∷◌, [], ℕ, List, take, drop, sym, ap, ◌∙◌}
use Rattle.std.proofs.lemmas.List.{append-nil, drop-drop, drop_all}
use Rattle.locnum_lines.proofs.Feeding.{IsPartLine-front, line_split}
use Rattle.locnum_lines.proofs.Quotes.{content-quoted, content-unquoted}
use Rattle.locnum_lines.proofs.csv.content_within.Goals as goal

pub returns-then-not-is_in_quotes : goal.returns-then-not-is_in_quotes
returns-then-not-is_in_quotes c =
    sym (content-unquoted c.args.text.now (sym c.is_in_quotes.ensures ∙ c.if-not-is_in_quotes.true))

pub returns : goal.returns
returns c =
    let rest = c.split_at.result.1.now in
    let n = c.in_ok-n.n in
    let first = c.in_ok-n.ensures in
    let none : drop 1 (drop n rest) ≡ [] = drop-drop 1 n rest ∙ drop_all (n + 1) rest c.if-n-rest.false in
    let is : rest ≡ take n rest ++ 34 ∷ [] = line_split 34 rest n first.0 first.1
    ∙ ap (λ (k : List ℕ). (take n rest ++ 34 ∷ []) ++ k) none ∙ append-nil (take n rest ++ 34 ∷ []) in
    c.split_at-2.ensures.front ∙ sym (content-quoted c.args.text.now rest (take n rest)
    (sym c.is_in_quotes.ensures ∙ c.if-not-is_in_quotes.false) c.split_at.ensures.back (IsPartLine-front 34 rest n first.0) is)
