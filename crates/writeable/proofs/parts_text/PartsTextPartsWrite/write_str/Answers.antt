-- The characters so far are the front of the text's; one that fails leaves them as a beginning.
use Rattle.std.proofs.Common.{◌≡◌, length, sym, ◌∙◌, arith}
use Rattle.std.proofs.lemmas.Grind.{common_steps}
use Rattle.std.specs.Str.{chars}
use Rattle.std.proofs.lemmas.List.{map-id}
use Rattle.std.proofs.lemmas.Iterator.{YieldsList-from_chars}
use Rattle.std.proofs.lemmas.Iterator.Consumers.{YieldsList-turn, YieldsList-so_far, YieldsList-end}
use Rattle.writeable.proofs.TextLemmas.{split_at_read, Writes-stop_in_text, WritesAll-empty, KeepsLimit-stop_in_text}
use Rattle.writeable.proofs.parts_text.PartsTextPartsWrite.write_str.Goals as goal

pub returns-then-is_empty-clause-writes : goal.returns-then-is_empty-clause-writes
returns-then-is_empty-clause-writes c =
    let none : length c.args.text.now ≡ 0 = grind (arith, common_steps) in
    WritesAll-empty (λ s. s.events) (λ s. s.failures) c.args.self.now c.args.text.now none

pub returns-in_err-write_char-clause-writes : goal.returns-in_err-write_char-clause-writes
returns-in_err-write_char-clause-writes c =
    let ys = c.loop-character.yielded in
    let list = YieldsList-from_chars c.args.text.now c.utf8.text cc in
    let turn = YieldsList-turn list ys _ c.loop-character.yielded_by _ _ c.in-Some.character c.in-Some.is c.next.ensures.steps in
    let front = YieldsList-so_far list ys _ c.loop-character.yielded_by in
    let split = split_at_read (chars c.args.text.now) ys c.in-Some.character (sym (map-id ys) ∙ front) turn.0 turn.1 in
    Writes-stop_in_text (λ s. s.events) (λ s. s.failures) c.args.self.now c.loop-character.self c.write_char.new.self c.in_err-write_char.field-0.0 _ ys
    c.in-Some.character _ _ split c.from_residual.ensures.0 c.loop-character.invariant.written c.in_err-write_char.ensures.writes

pub returns-clause-writes : goal.returns-clause-writes
returns-clause-writes c =
    let list = YieldsList-from_chars c.args.text.now c.utf8.text cc in
    let all = YieldsList-end list c.loop-character.yielded _ c.loop-character.yielded_by _ _ c.in-None.is c.next.ensures.steps in
    rw (sym (map-id c.loop-character.yielded) ∙ all.0) at c.loop-character.invariant.written

pub returns-in_err-write_char-clause-limited : goal.returns-in_err-write_char-clause-limited
returns-in_err-write_char-clause-limited c =
    let ys = c.loop-character.yielded in
    let list = YieldsList-from_chars c.args.text.now c.utf8.text cc in
    let turn = YieldsList-turn list ys _ c.loop-character.yielded_by _ _ c.in-Some.character c.in-Some.is c.next.ensures.steps in
    let front = YieldsList-so_far list ys _ c.loop-character.yielded_by in
    let split = split_at_read (chars c.args.text.now) ys c.in-Some.character (sym (map-id ys) ∙ front) turn.0 turn.1 in
    KeepsLimit-stop_in_text c.args.self.now c.loop-character.self c.write_char.new.self c.in_err-write_char.field-0.0 _ ys c.in-Some.character _ _ split
    c.from_residual.ensures.0 c.loop-character.invariant.written.held c.loop-character.invariant.limited c.in_err-write_char.ensures.limited

pub returns-clause-limited : goal.returns-clause-limited
returns-clause-limited c =
    let list = YieldsList-from_chars c.args.text.now c.utf8.text cc in
    let all = YieldsList-end list c.loop-character.yielded _ c.loop-character.yielded_by _ _ c.in-None.is c.next.ensures.steps in
    rw (sym (map-id c.loop-character.yielded) ∙ all.0) at c.loop-character.invariant.limited
