-- Entries of the map, as messages by their ids.
use Rattle.std.proofs.Common.{◌≡◌, ℕ, Bool, true, false, List, [], ◌∷◌, map, cond, Some, refl, ap, ◌∙◌}
use Rattle.std.specs.Prelude.{bytes_eq, string_bytes, string_eq}
use Rattle.std.specs.Map.{keys_of, lookup}
use Rattle.std.specs.declared.string.String.{String}
use Rattle.indexmap.specs.IndexMap.{insert_entry}
use Rattle.icu_message.specs.Reading.{MessageText}
use Rattle.icu_message_catalogue.specs.Entries.{Entry, entries_view, ids_of, message_of, with_message}

module _ {A : Type 0} where
  -- the value of a key is the message of its bytes
  pub lookup_is_message : (id : List ℕ) (es : List (String A × MessageText)) →
      lookup (λ k. bytes_eq id (string_bytes k)) es ≡ message_of id (entries_view es)
  lookup_is_message id [] = refl
  lookup_is_message id (e ∷ es) = ap (λ r. cond (bytes_eq id (string_bytes e.0)) (Some e.1) r) (lookup_is_message id es)

  -- the keys are the ids
  pub keys_are_ids : (es : List (String A × MessageText)) → map (λ k. string_bytes k) (keys_of es) ≡ ids_of (entries_view es)
  keys_are_ids [] = refl
  keys_are_ids (e ∷ es) = ap (λ r. string_bytes e.0 ∷ r) (keys_are_ids es)

  -- one of two lists of entries
  either : (b : Bool) (xs ys : List (String A × MessageText)) → entries_view (cond b xs ys) ≡ cond b (entries_view xs) (entries_view ys)
  either true xs ys = refl
  either false xs ys = refl

  -- an entry more is a message more
  pub insert_is_message : (es : List (String A × MessageText)) (k : String A) (m : MessageText) →
      entries_view (insert_entry string_eq es k m) ≡ with_message (entries_view es) (string_bytes k) m
  insert_is_message [] k m = refl
  insert_is_message (e ∷ es) k m =
      let found : Entry = record { id = string_bytes e.0; message = m } in
      let kept : Entry = record { id = string_bytes e.0; message = e.1 } in
      either (string_eq k e.0) ((e.0, m) ∷ es) (e ∷ insert_entry string_eq es k m)
      ∙ ap (λ r. cond (bytes_eq (string_bytes k) (string_bytes e.0)) (found ∷ entries_view es) (kept ∷ r)) (insert_is_message es k m)
