use Rattle.std.proofs.Common.{sym, refl, ◌∙◌}
use Rattle.std.proofs.lemmas.Str.{is_utf8-from_IsUtf8, utf8_valid_len-IsValidUpTo}
use Rattle.talmuiga_c.proofs.Texts.{fails_test}
use Rattle.talmuiga_c.proofs.read_back.read_bytes.Goals as goal

pub returns-in-Ok : goal.returns-in-Ok
returns-in-Ok c =
    rw (is_utf8-from_IsUtf8 c.args.text.now c.in-Ok.ensures.cases.1) (rw c.in-Ok.ensures.cases.0 at c.read_characters.ensures)

pub returns-in-Err : goal.returns-in-Err
returns-in-Err c = rw (fails_test c.args.text.now c.in-Err.ensures.cases.0) record {
  untouched = record { same = refl; none = refl };
  fault = c.valid_up_to.ensures ∙ sym (utf8_valid_len-IsValidUpTo c.args.text.now c.in-Err.error.valid_up_to c.in-Err.ensures.cases.1);
  reason = refl;
}
