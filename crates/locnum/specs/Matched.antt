-- Which options are given, by what `clap` found among the arguments.
use Rattle.std.specs.Prelude.{ℕ, List, [], ◌∷◌, Option, Some, None, map, codes, nat_eq, if◌then◌else◌}
use Rattle.std.specs.Cmp.Lexicographic.{pointwise}
use Rattle.std.specs.Borrow.{Bor}
use Rattle.clap.specs.Matches.{first_value}
use Rattle.clap.specs.declared.parser.matches.Found.{Found}
use Rattle.locnum.specs.declared.options.OptionEntry.{OptionEntry}
use Rattle.locnum.specs.declared.options.Takes.{Takes}
use Rattle.locnum.specs.declared.options.Takes.TheVariants.{Nothing, Text, Perhaps}

-- names and texts of options in memory, as lists of bytes
abbrev pub seen : List (Bor (List ℕ) × Bor (List ℕ)) → List (List ℕ × List ℕ)
seen pairs = map (λ p. (p.0.now, p.1.now)) pairs

-- the text of an option by the first that was found: one without a text is given where its value reads `true`
unfoldable pub value_of : Takes → Option (List ℕ) → Option (List ℕ)
value_of takes None = None
value_of Nothing (Some text) = if pointwise nat_eq text (codes "true") then Some text else None
value_of (Text name) (Some text) = Some text
value_of (Perhaps name missing) (Some text) = Some text

-- a name with its text in front of others, if there is a text
abbrev pub onto_given : List ℕ → Option (List ℕ) → List (List ℕ × List ℕ) → List (List ℕ × List ℕ)
onto_given name None given = given
onto_given name (Some text) given = (name, text) ∷ given

-- the names of the entries of a table that are given, each with the first text that was found under its own name
unfoldable pub given_among : Found → List OptionEntry → List (List ℕ × List ℕ)
given_among found [] = []
given_among found (entry ∷ entries) =
    onto_given entry.name.now (value_of entry.takes (first_value found entry.name.now)) (given_among found entries)
