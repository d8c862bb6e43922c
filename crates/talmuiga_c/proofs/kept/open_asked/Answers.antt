use Rattle.std.proofs.Common.{◌≡◌, Ok, refl, inl}
use Rattle.talmuiga_c.specs.Asked.{mode_asked}
use Rattle.talmuiga_c.proofs.Unstarted.{asked-made, refused-opens}
use Rattle.talmuiga_c.proofs.kept.open_asked.Goals as goal

pub returns-in-Ok : goal.returns-in-Ok
returns-in-Ok c =
    let words = c.args.words.now in let tables = c.args.tables.now in
    let e : mode_asked words tables ≡ Ok c.in-Ok.mode = asked-made words tables c.in-Ok.mode c.in-Ok.ensures.text c.in-Ok.ensures.no_text in
    record { opens = rw e (inl (c.put.ensures.held, refl)) }

pub returns-in-Err : goal.returns-in-Err
returns-in-Err c = record {
  opens = rw c.status_of.ensures (refused-opens c.args.words.now c.args.tables.now c.args.formatter.now.held
      c.requires.empty c.in-Err.error c.in-Err.ensures.text c.in-Err.ensures.no_text);
}
