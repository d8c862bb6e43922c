-- The characters of tokens, one after the other.
use Rattle.std.proofs.Common.{◌≡◌, ◌↔◌, ◌<◌, ◌≤◌, ◌==◌, ℕ, arith, false, List, [], ◌∷◌, ◌++◌, length, append-nil, refl}
use Rattle.std.proofs.Common.{sym, ap, ◌∙◌, subst}
use Rattle.std.proofs.Common.{chars, codes, slice_index_or, All, Contains}
use Rattle.std.proofs.lemmas.Bool.{eq-eqb}
use Rattle.std.proofs.lemmas.List.Elements.{All-cons, All-nil, All-tail}
use Rattle.std.specs.Char.{encode_utf8}
use Rattle.std.specs.Str.{IsUtf8}
use Rattle.std.proofs.lemmas.List.{nil_from_length}
use Rattle.std.proofs.lemmas.Str.{chars_past_char, chars-nil}
use Rattle.writeable.specs.Events.{characters, text_events}
use Rattle.writeable.specs.Events.Event.{Close}
use Rattle.writeable.specs.Writes.{characters-append}
use Rattle.writeable.proofs.EventLemmas.{characters-map_Char}
use Rattle.icu_dimension_data.specs.declared.affix_token.AffixToken.{AffixToken}
use Rattle.icu_dimension_data.specs.declared.affix_token.AffixToken.TheVariants.{Character, CurrencySymbol, MinusSign, PlusSign, PercentSign, PerMilleSign}
use Rattle.icu_dimension_data.specs.Comparing.{affix_characters, token_text}
use Rattle.icu_dimension_data.specs.Resolved.{Texts}
use Rattle.icu_dimension_data.specs.Surrounding.{affix_events, in_part, token_events}

-- a text that is at its end has no characters
pub none_left : (bs xs : List ℕ) → length bs ≡ 0 → chars bs ++ xs ≡ xs
none_left bs xs e = ap (λ l. chars l ++ xs) (nil_from_length bs e) ∙ ap (λ l. l ++ xs) chars-nil

-- the first character of a text comes off
pub first_off : (bs rest xs : List ℕ) (c : ℕ) → IsUtf8 bs → bs ≡ encode_utf8 c ++ rest → chars bs ++ xs ≡ c ∷ (chars rest ++ xs)
first_off bs rest xs c utf8 e = ap (λ l. l ++ xs) (chars_past_char bs rest c utf8 e)

-- the characters of a text in a part
characters-in_part : (category value text : List ℕ) → characters (in_part category value text) ≡ chars text
characters-in_part category value text =
    characters-append (text_events text) (Close ∷ []) ∙ append-nil (characters (text_events text)) ∙ characters-map_Char (chars text)

-- the characters of a token stand before those of the tokens behind it
pub token_first : (texts : Texts) (t : AffixToken) (ts : List AffixToken) →
    affix_characters texts (t ∷ ts) ≡ characters (token_events texts t) ++ affix_characters texts ts
token_first texts t ts = characters-append (token_events texts t) (affix_events texts ts)

-- a token that isn't a character as it is has those of its text
pub text_first : (texts : Texts) (t : AffixToken) (ts : List AffixToken) → ((c : ℕ) → ¬ (t ≡ Character c)) →
    affix_characters texts (t ∷ ts) ≡ chars (token_text texts t) ++ affix_characters texts ts
text_first texts (Character c) ts other = absurd (other c refl)
text_first texts CurrencySymbol ts other =
    token_first texts CurrencySymbol ts
    ∙ ap (λ l. l ++ affix_characters texts ts) (characters-in_part (codes "dimension") (codes "currency") texts.currency)
text_first texts MinusSign ts other =
    token_first texts MinusSign ts
    ∙ ap (λ l. l ++ affix_characters texts ts) (characters-in_part (codes "decimal") (codes "minusSign") texts.minus_sign)
text_first texts PlusSign ts other =
    token_first texts PlusSign ts
    ∙ ap (λ l. l ++ affix_characters texts ts) (characters-in_part (codes "decimal") (codes "plusSign") texts.plus_sign)
text_first texts PercentSign ts other =
    token_first texts PercentSign ts
    ∙ ap (λ l. l ++ affix_characters texts ts) (characters-in_part (codes "dimension") (codes "percentSign") texts.percent_sign)
text_first texts PerMilleSign ts other =
    token_first texts PerMilleSign ts
    ∙ ap (λ l. l ++ affix_characters texts ts) (characters-in_part (codes "dimension") (codes "perMilleSign") texts.percent_sign)

-- without a text or a token left there are none
pub at_end : (texts : Texts) (bs : List ℕ) (ts : List AffixToken) → length bs ≡ 0 → length ts ≡ 0 → chars bs ++ affix_characters texts ts ≡ []
at_end texts bs ts e none = none_left bs (affix_characters texts ts) e ∙ ap (affix_characters texts) (nil_from_length ts none)

-- a character as it is comes off the tokens, where no text is left
pub character_off : (texts : Texts) (bs : List ℕ) (ts rest : List AffixToken) (t : AffixToken) (c : ℕ) → length bs ≡ 0 → ts ≡ t ∷ rest →
    t ≡ Character c → chars bs ++ affix_characters texts ts ≡ c ∷ (chars bs ++ affix_characters texts rest)
character_off texts bs ts rest t c e first is =
    none_left bs (affix_characters texts ts) e ∙ ap (affix_characters texts) (first ∙ ap (λ (x : AffixToken). x ∷ rest) is)
    ∙ sym (ap (λ l. c ∷ l) (none_left bs (affix_characters texts rest) e))

-- the text of the next token is opened, where none is left
pub text_opened : (texts : Texts) (bs text : List ℕ) (ts rest : List AffixToken) (t : AffixToken) → length bs ≡ 0 → ts ≡ t ∷ rest →
    ((c : ℕ) → ¬ (t ≡ Character c)) → text ≡ token_text texts t →
    chars text ++ affix_characters texts rest ≡ chars bs ++ affix_characters texts ts
text_opened texts bs text ts rest t e first other is =
    ap (λ l. chars l ++ affix_characters texts rest) is ∙ sym (text_first texts t rest other) ∙ ap (affix_characters texts) (sym first)
    ∙ sym (none_left bs (affix_characters texts ts) e)

-- what is listed has no such character, where none of it was found equal
pub not_listed : (listed : List ℕ) (c : ℕ) → ((k d : ℕ) → 0 ≤ k → k < length listed → (slice_index_or listed k d == c) ≡ false) →
    ¬ (Contains listed c)
not_listed listed c h (k, l, is) =
    let differs = h k c (omega arith) l in
    let same = eq-eqb (slice_index_or listed k c) c is in
    cc

-- characters are free of what is listed where the first is and those behind it are
pub free_on : (listed left next : List ℕ) (c : ℕ) → left ≡ c ∷ next → ¬ (Contains listed c) →
    All (λ x. ¬ (Contains listed x)) next ↔ All (λ x. ¬ (Contains listed x)) left
free_on listed left next c is other = (
  λ h. subst (All (λ x. ¬ (Contains listed x))) (sym is) (All-cons (λ x. ¬ (Contains listed x)) c next other h),
  λ h. All-tail (λ x. ¬ (Contains listed x)) c next (subst (All (λ x. ¬ (Contains listed x))) is h),
)

-- no characters are free of everything
pub free_at_end : (listed left : List ℕ) → left ≡ [] → All (λ x. ¬ (Contains listed x)) left
free_at_end listed left none = subst (All (λ x. ¬ (Contains listed x))) (sym none) (All-nil (λ x. ¬ (Contains listed x)))
