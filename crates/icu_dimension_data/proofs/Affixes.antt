-- What tokens write, one after the other.
use Rattle.std.proofs.Common.{◌≡◌, ℕ, ◌+◌, ◌<◌, List, ◌++◌, length, drop, get_or, refl}
use Rattle.std.proofs.lemmas.List.{drop_more}
use Rattle.icu_dimension_data.specs.declared.affix_token.AffixToken.{AffixToken}
use Rattle.icu_dimension_data.specs.Resolved.{Texts}
use Rattle.icu_dimension_data.specs.Surrounding.{token_events, affix_events}

-- the events of a token stand before those of the tokens behind it
pub affix_events-drop : (texts : Texts) (ts : List AffixToken) (i : ℕ) (d : AffixToken) → i < length ts
    → affix_events texts (drop i ts) ≡ token_events texts (get_or ts i d) ++ affix_events texts (drop (i + 1) ts)
affix_events-drop texts ts i d h = rw (drop_more ts i d h) refl
