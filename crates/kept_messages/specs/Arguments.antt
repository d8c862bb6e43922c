-- Arguments that own their names and values.
use Rattle.std.specs.Prelude.{◌≡◌, ℕ, List, [], ◌∷◌, ◌++◌, string_bytes}
use Rattle.icu_message.specs.Numbers.{Number as Shown}
use Rattle.icu_message.specs.declared.argument.Argument.{Argument}
use Rattle.icu_message.specs.declared.argument.ArgumentValue.{ArgumentValue}
use Rattle.icu_message.specs.declared.argument.ArgumentValue.TheVariants as lent
use Rattle.number_forms.specs.Forms.{FormData}
use Rattle.number_messages.specs.Shown.{IsShownBy}
use Rattle.kept_messages.specs.declared.arguments.Given.{Given}
use Rattle.kept_messages.specs.declared.arguments.GivenValue.{GivenValue}
use Rattle.kept_messages.specs.declared.arguments.GivenValue.TheVariants as owned

-- a value: a text, a number as it is shown, or a number as it is shown in the places of a skeleton
pub data ValueData : Type 0 where
  text : List ℕ → ValueData
  number : Shown → ValueData
  form : List ℕ → Shown → ValueData

-- a name, and the value that is given for it
pub record GivenData : Type 0 where
  pub name : List ℕ
  pub value : ValueData

-- a value that is owned
abbrev pub value_data : GivenValue → ValueData
value_data (owned.Text t) = text (string_bytes t)
value_data (owned.Number n) = number n
value_data (owned.Form k n) = form (string_bytes k) n

-- an argument that is owned
abbrev pub given_data : Given → GivenData
given_data g = record { name = string_bytes g.name; value = value_data g.value }

-- a value that is lent
abbrev pub lent_value : ArgumentValue → ValueData
lent_value (lent.Text t) = text t.now
lent_value (lent.Number n) = number n.now
lent_value (lent.Form k n) = form k.now n.now

-- an argument that is lent
abbrev pub lent_data : Argument → GivenData
lent_data a = record { name = a.name.now; value = lent_value a.value }

-- a value more, behind the others
abbrev pub with_value : List GivenData → List ℕ → ValueData → List GivenData
with_value given name value = given ++ record { name = name; value = value } ∷ []

-- a text more
abbrev pub with_text : List GivenData → List ℕ → List ℕ → List GivenData
with_text given name t = with_value given name (text t)

-- a number that is shown more, for the places of a skeleton
abbrev pub with_form : List GivenData → List ℕ → List ℕ → Shown → List GivenData
with_form given name skeleton n = with_value given name (form skeleton n)

-- a number more, as a form shows it
pub record AddsNumber (by : FormData) (t name : List ℕ) (old new : List GivenData) : Type 0 where
  pub shown : Shown
  pub is_shown : IsShownBy by t shown
  pub new_is : new ≡ with_value old name (number shown)

-- a number more for the places of a skeleton, as a form shows it
pub record AddsForm (skeleton : List ℕ) (by : FormData) (t name : List ℕ) (old new : List GivenData) : Type 0 where
  pub shown : Shown
  pub is_shown : IsShownBy by t shown
  pub new_is : new ≡ with_form old name skeleton shown
