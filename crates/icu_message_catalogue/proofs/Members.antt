-- Members of a catalogue, one after another.
use Rattle.std.proofs.Common.{◌≡◌, ℕ, ◌+◌, ◌<◌, List, ◌∷◌, length, get_or, drop, drop-cons, add-one, Result, Ok, refl, sym, ap, ◌∙◌}
use Rattle.json.specs.Json.{Json, Members, member}
use Rattle.icu_message_catalogue.specs.Catalogue.{CatalogueData, with_member, with_members}
use Rattle.icu_message_catalogue.specs.Reading.{Fault, Fails, ◌>>=◌}
use Rattle.icu_message_catalogue.specs.declared.error.CatalogueError.{CatalogueError}
use Rattle.icu_message_catalogue.specs.declared.error.CatalogueError.TheVariants.{NotJson, NotAnObject, WrongKind, Message, OutOfMemory}

-- a list from an item on
pub items_from : {A : Type 0} (xs : List A) (i : ℕ) (x : A) → x ≡ get_or xs i x → i < length xs → drop i xs ≡ x ∷ drop (i + 1) xs
items_from xs i x is h = drop-cons xs i x h ∙ ap (λ k. get_or xs i x ∷ drop k xs) (sym (add-one i)) ∙ ap (λ y. y ∷ drop (i + 1) xs) (sym is)

-- a reading that failed fails with all that follows
pub failed : {A B : Type 0} (e : CatalogueError) (r : Result A Fault) (f : A → Result B Fault) → Fails e r → Fails e (r >>= f)
failed NotJson r f h = rw h refl
failed NotAnObject r f h = rw h refl
failed (WrongKind id) r f h = rw h refl
failed (Message id fault) r f h = rw h refl
failed OutOfMemory r f h = tt

-- a member that is taken leaves the others
pub goes_on : (c next : CatalogueData) (key : List ℕ) (value : Json) (more : Members) (total : Result CatalogueData Fault) →
    with_member c key value ≡ Ok next → with_members c (member key value more) ≡ total → with_members next more ≡ total
unfolding with_members
goes_on c next key value more total h so_far = sym (ap (λ r. r >>= λ c. with_members c more) h) ∙ so_far

-- a member that is rejected rejects all
pub fails : (e : CatalogueError) (c : CatalogueData) (key : List ℕ) (value : Json) (more : Members) (total : Result CatalogueData Fault) →
    Fails e (with_member c key value) → with_members c (member key value more) ≡ total → Fails e total
unfolding with_members
fails e c key value more total h so_far =
    rw (← so_far) (failed e (with_member c key value) (λ c. with_members c more) h)
