-- Arguments: what is given for a name.
use Rattle.std.specs.Prelude.{ℕ, Bool, true, false, ◌&&◌, not, List, [], ◌∷◌, Option, Some, None, if◌then◌else◌}
use Rattle.icu_message.specs.declared.argument.Argument.{Argument}
use Rattle.icu_message.specs.declared.argument.ArgumentValue.{ArgumentValue}
use Rattle.icu_message.specs.declared.argument.ArgumentValue.TheVariants.{Text, Number, Form}
use Rattle.icu_message.specs.Words.{same_bytes}

-- a number in the form of a skeleton
abbrev pub is_form : ArgumentValue → Bool
is_form (Form k n) = true
is_form _ = false

-- a number in the form of this skeleton
abbrev pub has_form : List ℕ → ArgumentValue → Bool
has_form skeleton (Form k n) = same_bytes k.now skeleton
has_form skeleton _ = false

-- what the first argument with a name gives, of those that have no form of a skeleton
abbrev pub value_of : List Argument → List ℕ → Option ArgumentValue
value_of [] name = None
value_of (a ∷ more) name = if not (is_form a.value) && same_bytes a.name.now name then Some a.value else value_of more name

-- the first argument with a name in the form of a skeleton
abbrev pub form_of : List Argument → List ℕ → List ℕ → Option ArgumentValue
form_of [] name skeleton = None
form_of (a ∷ more) name skeleton =
    if has_form skeleton a.value && same_bytes a.name.now name then Some a.value else form_of more name skeleton

-- what is written of an argument
abbrev pub value_text : Option ArgumentValue → List ℕ
value_text None = []
value_text (Some (Text t)) = t.now
value_text (Some (Number n)) = n.now.text
value_text (Some (Form k n)) = n.now.text
