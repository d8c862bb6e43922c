-- The grammar of conditions (UTS 35 Part 3, Plural rules syntax), as the one list of tokens that spells each condition,
-- and the first fault of a text. Operands, values and ranges are those of `src/condition.rt`, tokens those of `src/lexer.rt`.
use Rattle.std.specs.Prelude.{◌≡◌, ◌≢◌, ◌<◌, ◌≤◌, ℕ, zero, suc, List, [], ◌∷◌, ◌++◌, Bool, true, false, Option, Some, None}
use Rattle.std.specs.Prelude.{IfSome, length, map, take}
use Rattle.std.specs.List.{AllByRecursion}
use Rattle.icu_plurals_conditions.specs.declared.condition.Operand.{Operand}
use Rattle.icu_plurals_conditions.specs.declared.condition.Item.{Item}
use Rattle.icu_plurals_conditions.specs.declared.condition.Item.TheVariants.{Value, Range}
use Rattle.icu_plurals_conditions.specs.declared.lexer.Token.{Token}
use Rattle.icu_plurals_conditions.specs.declared.lexer.Token.TheVariants.{Letter, And, Or, Number, Percent, Equals, NotEquals, Comma, Dots}
use Rattle.icu_plurals_conditions.specs.Tokens.{part_of, tokens_from}

-- The operand, reduced by the modulus if there is one, is in one of the values and ranges; with `!=`, negated, it is in none.
pub record Relation : Type 0 where
  pub operand : Operand
  pub modulus : Option ℕ
  pub negated : Bool
  pub ranges : List Item

-- alternatives, each of relations that hold together
abbrev pub Condition : Type 0
Condition = List (List Relation)

-- parts with a token between two of them
abbrev pub separated : {A : Type 0} → Token → (A → List Token) → List A → List Token
separated between f [] = []
separated between f (x ∷ []) = f x
separated between f (x ∷ y ∷ xs) = f x ++ between ∷ separated between f (y ∷ xs)

-- `1` or `1..3`
abbrev pub item_tokens : Item → List Token
item_tokens (Value a) = Number a ∷ []
item_tokens (Range a b) = Number a ∷ Dots ∷ Number b ∷ []

-- `% 10`, or nothing
abbrev pub modulus_tokens : Option ℕ → List Token
modulus_tokens None = []
modulus_tokens (Some m) = Percent ∷ Number m ∷ []

-- `!=` or `=`
abbrev pub sign_of : Bool → Token
sign_of true = NotEquals
sign_of false = Equals

-- `n % 10 = 1, 3..5`
abbrev pub relation_tokens : Relation → List Token
relation_tokens r = Letter r.operand ∷ (modulus_tokens r.modulus ++ sign_of r.negated ∷ separated Comma item_tokens r.ranges)

-- relations joined by `and`, and these joined by `or`
abbrev pub tokens_of : Condition → List Token
tokens_of c = separated Or (separated And relation_tokens) c

-- a relation lists something, and its modulus isn't zero
pub record IsRelation (r : Relation) : Type 0 where
  pub modulus : IfSome r.modulus (λ m. 0 < m)
  pub ranges : r.ranges ≢ []

-- each alternative has a relation, and each relation is one; a condition may have no alternative
abbrev pub IsWellFormed : Condition → Type 0
IsWellFormed c = AllByRecursion (λ rs. (rs ≢ []) × AllByRecursion IsRelation rs) c

-- tokens with their places
abbrev pub PositionedToken : Type 0
PositionedToken = ℕ × Token

-- the tokens alone
abbrev pub kinds : List PositionedToken → List Token
kinds ts = map (λ t. t.1) ts

-- the tokens of the part of a text that is read
abbrev pub text_tokens : List ℕ → List PositionedToken
text_tokens text = tokens_from 0 (part_of text)

-- the text spells the condition
pub record IsTextOf (text : List ℕ) (c : Condition) : Type 0 where
  pub well_formed : IsWellFormed c
  pub spelled : kinds (text_tokens text) ≡ tokens_of c

-- the text is in the grammar: it spells a condition
abbrev pub IsConditionText : List ℕ → Type 0
IsConditionText text = (c : Condition) × IsTextOf text c

-- the tokens begin a condition: with some more tokens they spell one
abbrev pub Begins : List Token → Type 0
Begins ts = (more : List Token) × (c : Condition) × IsWellFormed c × (ts ++ more ≡ tokens_of c)

-- the place of the token at an index, or the end
abbrev pub offset_at : ℕ → List PositionedToken → ℕ → ℕ
offset_at end [] k = end
offset_at end (t ∷ ts) zero = t.0
offset_at end (t ∷ ts) (suc k) = offset_at end ts k

-- The byte is the place of the first token that can't stand there, or the end where the text ends too early: the tokens
-- before it begin a condition; with the next one they begin none, and if there is no next one they are none.
pub record IsFirstFault (end : ℕ) (ts : List PositionedToken) (byte : ℕ) : Type 0 where
  pub count : ℕ
  pub within : count ≤ length ts
  pub offset : byte ≡ offset_at end ts count
  pub before : Begins (take count (kinds ts))
  pub after : count < length ts → ¬ (Begins (take (suc count) (kinds ts)))
  pub whole : count ≡ length ts → (c : Condition) → IsWellFormed c → ¬ (kinds ts ≡ tokens_of c)

-- the first fault of a text
abbrev pub IsTextFault : List ℕ → ℕ → Type 0
IsTextFault text byte = IsFirstFault (length (part_of text)) (text_tokens text) byte
