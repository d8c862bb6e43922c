use Rattle.std.proofs.Common.{rules, ◌≡◌, true, ap, ◌∙◌, Some}
use Rattle.icu_pattern.specs.Patterns.{PatternText}
use Rattle.icu_decimal_data.proofs.TableSlots.{absent_is, text_is, accepted_is, stands_is}
use Rattle.icu_decimal_data.proofs.table_slots.pattern_at.Goals as goal

pub returns-then-found-eq-ABSENT : goal.returns-then-found-eq-ABSENT
returns-then-found-eq-ABSENT g c =
    absent_is g.P.PatternBackend.accepted c.args.bytes.now c.args.index c.args.slot c.requires.table c.requires.inside c.requires.slot
    c.slot_of-found.result.now c.slot_of-found.ensures.bytes c.if-found-eq-ABSENT.true

pub from_utf8_unchecked-literal-requires : goal.from_utf8_unchecked-literal-requires
from_utf8_unchecked-literal-requires g c =
    text_is g.P.PatternBackend.accepted c.args.bytes.now c.args.index c.args.slot c.requires.table c.requires.inside c.requires.slot c.slot_of-found.result.now
    c.slot_of-found.ensures.bytes c.if-found-eq-ABSENT.false c.literal_of.result.now c.pool_of.result.now c.literal_of.ensures c.pool_of.ensures

pub unreachable-requires : goal.unreachable-requires
unreachable-requires g c =
    let p : PatternText = record { placeholder = c.placeholder_of.result; literal = c.from_utf8_unchecked-literal.result.now } in
    let yes : g.P.PatternBackend.accepted p ≡ true = accepted_is g.P.PatternBackend.accepted c.args.bytes.now c.args.index c.args.slot c.requires.table
    c.requires.inside c.requires.slot c.slot_of-found.result.now c.slot_of-found.ensures.bytes c.if-found-eq-ABSENT.false p c.pool_of.result.now
    (λ i. record { placeholder = c.placeholder_of.ensures i; literal = (c.from_utf8_unchecked-literal.ensures ∙ c.literal_of.ensures) i }) c.pool_of.ensures
    in
    search rules

pub returns : goal.returns
returns g c =
    let p : PatternText = record { placeholder = c.placeholder_of.result; literal = c.from_utf8_unchecked-literal.result.now } in
    ap Some c.in-Ok.ensures.given
    ∙ stands_is g.P.PatternBackend.accepted c.args.bytes.now c.args.index c.args.slot c.requires.table c.requires.inside c.requires.slot
    c.slot_of-found.result.now c.slot_of-found.ensures.bytes c.if-found-eq-ABSENT.false p c.pool_of.result.now
    (λ i. record { placeholder = c.placeholder_of.ensures i; literal = (c.from_utf8_unchecked-literal.ensures ∙ c.literal_of.ensures) i }) c.pool_of.ensures
