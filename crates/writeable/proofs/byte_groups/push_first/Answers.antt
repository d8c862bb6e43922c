use Rattle.std.proofs.Common.{◌≡◌, ◌<◌, ◌+◌, ℕ, get_or, length, take, ap, ◌∙◌, arith}
use Rattle.std.proofs.lemmas.Grind.{common_steps}
use Rattle.writeable.proofs.DigitEvents.{first_digits}
use Rattle.writeable.proofs.byte_groups.push_first.Goals as goal

pub returns-clause-items : goal.returns-clause-items
returns-clause-items c =
    let small : (i : ℕ) → i < 4 → get_or c.args.characters.now (get_or c.args.digits.now i 0) 0 < 128 =
    λ i less. c.requires.ascii (get_or c.args.digits.now i 0) 0 (omega (arith, c.requires.below_ten i 0 (omega (arith, less, c.requires.four)))) in
    let end : c.len.result ≡ length c.args.out.items = grind (arith, common_steps) in
    first_digits c.args.out.items _ _ _ _ _ c.args.characters.now c.args.digits.now c.args.count c.requires.four c.requires.count small
    c.push_reserved.ensures.items c.push_reserved-2.ensures.items c.push_reserved-3.ensures.items c.push_reserved-4.ensures.items
    (c.truncate.ensures.items ∙ ap (λ (k : ℕ). take (k + c.args.count) c.push_reserved-4.new.self.items) end)
