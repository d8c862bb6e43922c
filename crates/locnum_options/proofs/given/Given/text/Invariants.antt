use Rattle.std.proofs.Common.{◌≡◌, drop}
use Rattle.locnum_options.specs.Given.{found_among, look_up}
use Rattle.locnum_options.proofs.given.Given.text.Given as goal

-- the options that are left have the text
abbrev pub invariant-loop-option : goal.invariant-loop-option
invariant-loop-option l = look_up l.self l.name ≡ found_among l.name (drop l.option-index l.self.options.now)
