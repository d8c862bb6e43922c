-- Which of several answers of a provider decides.
use Rattle.std.specs.Prelude.{List, [], ◌∷◌, Result, Ok, Err}
use Rattle.icu_provider.specs.Answer.{Refusal, refused}
use Rattle.icu_provider.specs.declared.error.DataErrorKind.{DataErrorKind}
use Rattle.icu_provider.specs.declared.error.DataErrorKind.TheVariants.{IdentifierNotFound, MarkerNotFound, InvalidRequest, Custom, OutOfMemory}

-- the next answer if the identifier has no data, else this one
abbrev pub next_if_not_found : {X : Type 0} → DataErrorKind → Result X Refusal → Result X Refusal → Result X Refusal
next_if_not_found IdentifierNotFound next answer = next
next_if_not_found MarkerNotFound next answer = answer
next_if_not_found InvalidRequest next answer = answer
next_if_not_found Custom next answer = answer
next_if_not_found OutOfMemory next answer = answer

-- an answer, or the next one if the identifier has no data
abbrev pub or_else : {X : Type 0} → Result X Refusal → Result X Refusal → Result X Refusal
or_else (Ok x) next = Ok x
or_else (Err refusal) next = next_if_not_found refusal.kind next (Err refusal)

-- The first answer that isn't `IdentifierNotFound` decides, or the last if all are. Without answers the request is invalid.
abbrev pub decided : {X : Type 0} → List (Result X Refusal) → Result X Refusal
decided [] = refused InvalidRequest
decided (a ∷ []) = a
decided (a ∷ (b ∷ bs)) = or_else a (decided (b ∷ bs))
