-- What a command line gives: texts by the names of options.
use Rattle.std.specs.Prelude.{ℕ, Bool, List, [], ◌∷◌, Option, Some, None, option_map, nat_eq, if◌then◌else◌}
use Rattle.std.specs.Option.{is_some}
use Rattle.std.specs.Borrow.{Bor}
use Rattle.std.specs.Cmp.Lexicographic.{pointwise}
use Rattle.locnum_options.specs.declared.given.Given.{Given}

-- the text of the first option of this name
unfoldable pub found_among : List ℕ → List (Bor (List ℕ) × Bor (List ℕ)) → Option (Bor (List ℕ))
found_among name [] = None
found_among name (option ∷ options) =
    if pointwise nat_eq option.0.now name then Some option.1 else found_among name options

-- the text that is given under a name, in place
unfoldable pub look_up : Given → List ℕ → Option (Bor (List ℕ))
look_up given name = found_among name given.options.now

-- the text that is given under a name
abbrev pub text_of : Given → List ℕ → Option (List ℕ)
text_of given name = option_map (λ text. text.now) (look_up given name)

-- whether an option of this name is given
abbrev pub flag_of : Given → List ℕ → Bool
flag_of given name = is_some (look_up given name)
