-- What is written for lines with a number each: their explanations, one behind the other.
use Rattle.std.specs.Prelude.{ℕ, ◌-◌, Bool, ◌&&◌, List, [], ◌∷◌, ◌++◌, length, take, drop, codes, if◌then◌else◌}
use Rattle.std.specs.Char.{is_ascii_whitespace}
use Rattle.std.specs.List.{list_any, prefix_len, suffix_len}
use Rattle.std.specs.Result.{is_err}
use Rattle.number_forms.specs.Forms.{FormData, form_events}
use Rattle.locnum_explain.specs.declared.settings.Settings.{Settings}
use Rattle.locnum_explain.specs.Lines.{form_explanation}

-- a line without the white space of ASCII in front
abbrev pub trimmed_start : List ℕ → List ℕ
trimmed_start line = drop (prefix_len is_ascii_whitespace line) line

-- and without that behind: the text of the line
abbrev pub trimmed : List ℕ → List ℕ
trimmed line = take (length (trimmed_start line) - suffix_len is_ascii_whitespace (trimmed_start line)) (trimmed_start line)

-- the explanation of the text of a line
abbrev pub line_explained : Settings → FormData → List ℕ → List ℕ
line_explained settings form line = form_explanation settings form (trimmed line)

-- whether the form rejects that text
abbrev pub is_line_refused : FormData → List ℕ → Bool
is_line_refused form line = is_err (form_events form (trimmed line))

-- the explanations of lines, one behind the other, or up to the first whose text is rejected
unfoldable pub lines_explained : Settings → Bool → FormData → List (List ℕ) → List ℕ
lines_explained settings stops form [] = []
lines_explained settings stops form (line ∷ lines) =
    if stops && is_line_refused form line then line_explained settings form line
    else line_explained settings form line ++ lines_explained settings stops form lines

-- whether the text of one of them is rejected
abbrev pub is_one_refused : FormData → List (List ℕ) → Bool
is_one_refused form lines = list_any (is_line_refused form) lines

-- the explanation of a text that stands somewhere, under a line that says where
abbrev pub positioned_explanation : Settings → FormData → List ℕ → List ℕ → List ℕ
positioned_explanation settings form position text = position ++ codes "\n" ++ form_explanation settings form text
