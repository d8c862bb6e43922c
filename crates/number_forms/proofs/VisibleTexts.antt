-- Texts that are shown character by character.
use Rattle.std.proofs.Common.{◌≡◌, ℕ, ◌+◌, ◌-◌, ◌<◌, ◌≤◌, nat_le, true, false, refl, sym, ap, ◌∙◌, arith}
use Rattle.std.proofs.Common.{List, [], ◌∷◌, ◌++◌, length, length-drop, get_or, map, take, drop, append-nil, codes}
use Rattle.std.proofs.lemmas.Bool.Decides.{nat_tests}
use Rattle.std.proofs.lemmas.Grind.{common_steps}
use Rattle.std.proofs.lemmas.List.{length-map, map_push, take_all, take_more, take-map}
use Rattle.std.proofs.lemmas.Str.{encodes-append, encode_ascii}
use Rattle.std.specs.Char.{encode_utf8, is_ascii_whitespace}
use Rattle.std.specs.List.{drop-map, list_all}
use Rattle.std.specs.Str.{chars, encode_utf8_all, is_utf8}
use Rattle.number_forms.specs.Characters.{from_byte, visible, visible_text}
use Rattle.number_forms.specs.Reported.{length_text, part_from, reported, shortened}

-- no character
pub visible_text-nil : visible_text [] ≡ []
unfolding visible_text
visible_text-nil = refl

-- one more character
pub visible_text-push : (cs : List ℕ) (c : ℕ) → visible_text (cs ++ c ∷ []) ≡ visible_text cs ++ encode_utf8 (visible c)
unfolding visible_text
visible_text-push cs c = rw map_push (rw encodes-append (ap (λ x. encode_utf8_all (map visible cs) ++ x) (append-nil _)))

-- one more byte
pub visible_text-byte : (bs : List ℕ) (i b : ℕ) → i < length bs → b ≡ visible (from_byte (get_or bs i 0)) → b < 128 →
    visible_text (map from_byte (take (i + 1) bs)) ≡ visible_text (map from_byte (take i bs)) ++ b ∷ []
visible_text-byte bs i b h e small =
    rw (take_more bs i 0 h) (rw map_push (visible_text-push _ _ ∙ ap (λ x. visible_text (map from_byte (take i bs)) ++ x)
    (sym (ap encode_utf8 e) ∙ encode_ascii b small)))

is_short : (n : ℕ) → n ≤ 60 → nat_le n 60 ≡ true
is_short n h = grind (arith, nat_tests)

is_long : (n : ℕ) → 60 < n → nat_le n 60 ≡ false
is_long n h = grind (arith, nat_tests)

-- a text that isn't cut
pub shortened-short : (cs : List ℕ) → length cs ≤ 60 → shortened cs ≡ visible_text cs
unfolding shortened
shortened-short cs h = rw (is_short (length cs) h) refl

-- the parts of one that is
pub shortened-long : (cs : List ℕ) → 60 < length cs →
    shortened cs ≡ visible_text (part_from 0 28 cs) ++ codes ".." ++ visible_text (part_from (length cs - 28) 28 cs) ++ length_text (length cs)
unfolding shortened
shortened-long cs h = rw (is_long (length cs) h) refl

-- what is appended in three parts
pub appended_three : (out p q r a b c : List ℕ) → a ≡ out ++ p → b ≡ a ++ q → c ≡ b ++ r → c ≡ out ++ (p ++ q ++ r)
appended_three out p q r a b c e f g = grind (arith, common_steps)

-- and in four
pub appended : (out p q r s a b c d : List ℕ) → a ≡ out ++ p → b ≡ a ++ q → c ≡ b ++ r → d ≡ c ++ s →
    d ≡ out ++ (p ++ q ++ r ++ s)
appended out p q r s a b c d e f g h = grind (arith, common_steps)

-- the first bytes of a text that is cut, as characters
pub front-bytes : (text : List ℕ) → part_from 0 28 (map from_byte text) ≡ map from_byte (take 28 text)
front-bytes text = take-map from_byte 28 text

-- and the last ones
pub back-bytes : (text : List ℕ) → 60 < length text →
    part_from (length text - 28) 28 (map from_byte text) ≡ map from_byte (drop (length text - 28) text)
back-bytes text h =
    rw (drop-map from_byte (length text - 28) text)
    (take_all 28 (map from_byte (drop (length text - 28) text))
    (rw (length-map (drop (length text - 28) text) from_byte, length-drop (length text - 28) text) (omega arith)))

-- a text of UTF-8
pub reported_utf8 : (text : List ℕ) → list_all is_ascii_whitespace text ≡ false → is_utf8 text ≡ true → reported text ≡ shortened (chars text)
unfolding reported
reported_utf8 text b u = rw (b, u) refl

-- and another
pub reported_bytes : (text : List ℕ) → list_all is_ascii_whitespace text ≡ false → is_utf8 text ≡ false →
    reported text ≡ shortened (map from_byte text)
unfolding reported
reported_bytes text b u = rw (b, u) refl
