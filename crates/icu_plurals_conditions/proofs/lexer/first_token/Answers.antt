use Rattle.std.proofs.Common.{◌≡◌, ◌<◌, length, drop, sym, ap, ◌∙◌, arith}
use Rattle.std.specs.List.{prefix_len}
use Rattle.std.proofs.lemmas.List.Sums.{prefix_len-le-length}
use Rattle.std.proofs.lemmas.Bool.Decides.{nat_tests}
use Rattle.icu_plurals_conditions.specs.Tokens.{is_space}
use Rattle.icu_plurals_conditions.specs.Lexer.{IsFront}
use Rattle.icu_plurals_conditions.proofs.Fronts.{spaces_alone, no_space, found_after_spaces}
use Rattle.icu_plurals_conditions.proofs.lexer.first_token.Goals as goal

pub split_at-requires : goal.split_at-requires
split_at-requires c = rw c.spaces-start.ensures (prefix_len-le-length is_space _)

-- spaces alone have no token
pub returns-then-is_empty : goal.returns-then-is_empty
returns-then-is_empty c =
    let none : length c.split_at.result.1.now ≡ 0 = grind (arith, nat_tests) in
    spaces_alone c.args.text.now c.spaces-start.result c.spaces-start.ensures (sym (ap length c.split_at.ensures.back) ∙ none)

pub token_front-front-requires-clause-space : goal.token_front-front-requires-clause-space
token_front-front-requires-clause-space c =
    let rest : c.split_at.result.1.now ≡ drop (prefix_len is_space c.args.text.now) c.args.text.now =
    c.split_at.ensures.back ∙ ap (λ n. drop n c.args.text.now) c.spaces-start.ensures in
    let some : 0 < length c.split_at.result.1.now = grind (arith, nat_tests) in
    rw rest (no_space c.args.text.now (omega (arith, some, ap length rest)))

-- the token behind the spaces
pub returns : goal.returns
returns c =
    let there : IsFront (drop c.spaces-start.result c.args.text.now) c.token_front-front.result = rw c.split_at.ensures.back at c.token_front-front.ensures in
    found_after_spaces c.args.text.now c.spaces-start.result c.token_front-front.result c.spaces-start.ensures there
