-- What a provider of data answers.
use Rattle.std.specs.Prelude.{◌≡◌, ◌⊎◌, ℕ, List, [], Result, Ok, Err, refl}
use Rattle.std.proofs.Common.{inl}
use Rattle.icu_provider.specs.declared.error.DataErrorKind.{DataErrorKind}
use Rattle.icu_provider.specs.declared.error.DataErrorKind.TheVariants.{IdentifierNotFound, MarkerNotFound, InvalidRequest, Custom, OutOfMemory}
use Rattle.icu_provider.specs.declared.error.DataError.{DataError}

-- an error of data: its kind, and the provider's own text
pub record Refusal : Type 0 where
  pub kind : DataErrorKind
  pub context : List ℕ

-- the error of this kind, without a text
abbrev pub refused : {X : Type 0} → DataErrorKind → Result X Refusal
refused kind = Err (record { kind = kind; context = [] })

-- The error of this kind with this text is the answer. `OutOfMemory` without a text is possible whatever the answer is.
abbrev pub Refuses : {X : Type 0} → DataErrorKind → List ℕ → Result X Refusal → Type 0
Refuses IdentifierNotFound context answer = answer ≡ Err (record { kind = IdentifierNotFound; context = context })
Refuses MarkerNotFound context answer = answer ≡ Err (record { kind = MarkerNotFound; context = context })
Refuses InvalidRequest context answer = answer ≡ Err (record { kind = InvalidRequest; context = context })
Refuses Custom context answer = answer ≡ Err (record { kind = Custom; context = context })
Refuses OutOfMemory context answer = (answer ≡ Err (record { kind = OutOfMemory; context = context })) ⊎ (context ≡ [])

-- The result of a call is the answer: the data, or the error with its kind and its text; `OutOfMemory` without a text is
-- possible whatever the answer is.
abbrev pub Answers : {X : Type 0} → Result X DataError → Result X Refusal → Type 0
Answers (Ok x) answer = answer ≡ Ok x
Answers (Err e) answer = Refuses e.kind e.context.now answer

-- a result as an answer, with the kind and the text of its error
abbrev pub as_answer : {X : Type 0} → Result X DataError → Result X Refusal
as_answer (Ok x) = Ok x
as_answer (Err e) = Err (record { kind = e.kind; context = e.context.now })

-- each result is the answer that it is made into
pub as_answer_answers : {X : Type 0} → (result : Result X DataError) → Answers result (as_answer result)
as_answer_answers {X} (Ok x) = refl
as_answer_answers {X} (Err e) = go e.kind
  where
    go : (kind : DataErrorKind) → Refuses {X = X} kind e.context.now (Err (record { kind = kind; context = e.context.now }))
    go IdentifierNotFound = refl
    go MarkerNotFound = refl
    go InvalidRequest = refl
    go Custom = refl
    go OutOfMemory = inl refl
