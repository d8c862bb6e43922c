-- Reading what is spelled: each piece is read as itself, and the rest is read behind it.
use Rattle.std.proofs.Common.{◌≡◌, ◌⊎◌, inl, inr, ℕ, ◌+◌, ◌-◌, List, [], ◌∷◌, ◌++◌, length, take, drop, refl, sym, ap, subst}
use Rattle.std.proofs.Common.{◌∙◌, arith, append_assoc}
use Rattle.std.proofs.Common.{append-nil}
use Rattle.std.specs.Prelude.{Bool, true, false, ◌==◌, ◌&&◌, ◌||◌, nat_le, if◌then◌else◌, Option, Some, None, is_some, Result, Ok}
use Rattle.std.specs.List.{filter}
use Rattle.std.specs.Option.{option_map}
use Rattle.std.specs.Result.{is_ok}
use Rattle.std.specs.Prelude.{not, Err}
use Rattle.std.specs.Str.{is_utf8}
use Rattle.number_skeleton.specs.declared.fault.SkeletonFault.{SkeletonFault}
use Rattle.number_skeleton.specs.Tokens.{skeleton_of}
use Rattle.skeleton_settings.specs.Settings.{SkeletonData}
use Rattle.std.proofs.lemmas.List.{drop-drop}
use Rattle.std.proofs.Math.Seq.{drop-append_seam, take-append_seam}
use Rattle.std.proofs.lemmas.Bool.Decides.{nat_tests}
use Rattle.icu_message.specs.declared.error.ParseError.{ParseError}
use Rattle.icu_message.specs.declared.error.ParseError.TheVariants.{Style}
use Rattle.icu_message.specs.declared.piece.Word.{Word}
use Rattle.icu_message.specs.declared.piece.OpenKey.{OpenKey}
use Rattle.icu_message.specs.declared.piece.BegunChoice.{BegunChoice}
use Rattle.icu_message.specs.declared.piece.ChoiceKind.{ChoiceKind}
use Rattle.icu_message.specs.declared.piece.ChoiceKind.TheVariants.{Plural, SelectOrdinal, Select}
use Rattle.icu_message.specs.declared.piece.Piece.{Piece}
use Rattle.icu_message.specs.declared.piece.Piece.TheVariants.{Byte, Special, Place, Formatted, Hash, Choice, Arm, EndArm, EndChoice}
use Rattle.icu_message.specs.declared.spelling.Before.{Before}
use Rattle.icu_message.specs.declared.spelling.Before.TheVariants.{Nothing, Quote, EndedArm}
use Rattle.icu_message.specs.declared.stepping.Position.{Position}
use Rattle.icu_message.specs.declared.stepping.Position.TheVariants.{Text, Doubled, DoubledIn, Quoted, Opened, InName, KindDue, InKind, KeyDue, InKey, ValueDue}
use Rattle.icu_message.specs.declared.stepping.Position.TheVariants.{InValue, StyleDue, ColonDue, SkeletonDue, InSkeleton}
use Rattle.icu_message.specs.declared.stepping.State.{State}
use Rattle.icu_message.specs.declared.stepping.Step.{Step}
use Rattle.icu_message.specs.declared.stepping.Here.{Here}
use Rattle.icu_message.specs.Words.{is_space, is_digit, is_word, all_digits, all_word, word_in, has_brace, other, is_other, same_words}
use Rattle.icu_message.specs.Names.{is_word_text, is_name, is_value, is_exact, is_category, is_key, kind_name, kind_of, number_kind, is_number_kind, are_apart}
use Rattle.icu_message.specs.Keys.{has_key, has_other, keys_to, number_named, counted_from, counted_at, has_other_kind}
use Rattle.icu_message.specs.Stepping.{opening, closing, comma, colon, apostrophe, hash, equals, is_special, silent, adds, step, hash_step, text_step}
use Rattle.icu_message.specs.Stepping.{kind_read}
use Rattle.icu_message.specs.Stepping.{key_read, is_style, formatted_step, skeleton_read, behind_number, in_kind, word_to}
use Rattle.icu_message.specs.Reading.{Drafted, empty_draft, with_added, with_step, first, here, no_level, reading_from}
use Rattle.icu_message.specs.Spelling.{Said, byte, special, place, formatted, counted, choice, arm, end_arm, end_choice, said, said_all, said_by}
use Rattle.icu_message.specs.Spelling.{spelling_from, spelling}
use Rattle.icu_message.specs.Spelling.{SaidKey, said_key, said_keys, SaidChoice, said_choice, said_choices, keys_have, counts_from, counts_at, kinds_differ}
use Rattle.icu_message.specs.Spelling.{style, spelled_before, is_skeleton, IsNormalFrom, SpellingIsRead}
use Rattle.icu_message.proofs.Left.{byte_is_read, at_end}

-- a position in a choice so deep
abbrev pub in_state : Position → ℕ → State
in_state p n = record { position = p; level = n }

-- one byte is read
pub reads : (text : List ℕ) (s : State) (d : Drafted) (at b : ℕ) (bs : List ℕ) (t : Step) → step text d.keys d.choices s (here s d at b bs) ≡ Ok t
    → reading_from text s d at (b ∷ bs) ≡ reading_from text t.state (with_step t d) (at + 1) bs
reads text s d at b bs t h = byte_is_read text s d at b bs (Ok t) h

-- ---- tests

pub and_left : (x y : Bool) → (x && y) ≡ true → x ≡ true
and_left true y h = refl
and_left false y h = h

pub and_right : (x y : Bool) → (x && y) ≡ true → y ≡ true
and_right true y h = h
and_right false y h = absurd (cc)

pub if_then : {A : Type 0} (c : Bool) (x y : A) → c ≡ true → (if c then x else y) ≡ x
if_then c x y h = ap (λ c. if c then x else y) h

if_else : {A : Type 0} (c : Bool) (x y : A) → c ≡ false → (if c then x else y) ≡ y
if_else c x y h = ap (λ c. if c then x else y) h

-- a byte of a word is no white space
no_space : (b : ℕ) → is_word b ≡ true → is_space b ≡ false
no_space b h = grind (arith, nat_tests)

-- ---- words are read

-- the bytes of a name are read
name_run : (text : List ℕ) (from n : ℕ) (d : Drafted) (at : ℕ) (w rest : List ℕ) → all_word w ≡ true
    → reading_from text (in_state (InName from) n) d at (w ++ rest) ≡ reading_from text (in_state (InName from) n) d (at + length w) rest
name_run text from n d at [] rest h = ap (λ a. reading_from text (in_state (InName from) n) d a rest) (omega arith)
name_run text from n d at (b ∷ bs) rest h =
    reads text _ d _ _ _ (silent (in_state (InName from) n) (InName from)) (if_then _ _ _ (and_left (is_word b) (all_word bs) h))
    ∙ name_run text from n d (at + 1) bs rest (and_right (is_word b) (all_word bs) h)
    ∙ ap (λ a. reading_from text (in_state (InName from) n) d a rest) (omega arith)

-- the bytes of a kind are read
kind_run : (text : List ℕ) (v : Word) (from n : ℕ) (d : Drafted) (at : ℕ) (w rest : List ℕ) → all_word w ≡ true
    → reading_from text (in_state (InKind v from) n) d at (w ++ rest) ≡ reading_from text (in_state (InKind v from) n) d (at + length w) rest
kind_run text v from n d at [] rest h = ap (λ a. reading_from text (in_state (InKind v from) n) d a rest) (omega arith)
kind_run text v from n d at (b ∷ bs) rest h =
    reads text _ d _ _ _ (silent (in_state (InKind v from) n) (InKind v from)) (if_then _ _ _ (and_left (is_word b) (all_word bs) h))
    ∙ kind_run text v from n d (at + 1) bs rest (and_right (is_word b) (all_word bs) h)
    ∙ ap (λ a. reading_from text (in_state (InKind v from) n) d a rest) (omega arith)

-- the bytes of a key are read
key_run : (text : List ℕ) (from n : ℕ) (d : Drafted) (at : ℕ) (w rest : List ℕ) → all_word w ≡ true
    → reading_from text (in_state (InKey from) n) d at (w ++ rest) ≡ reading_from text (in_state (InKey from) n) d (at + length w) rest
key_run text from n d at [] rest h = ap (λ a. reading_from text (in_state (InKey from) n) d a rest) (omega arith)
key_run text from n d at (b ∷ bs) rest h =
    reads text _ d _ _ _ (silent (in_state (InKey from) n) (InKey from)) (if_then _ _ _ (and_left (is_word b) (all_word bs) h))
    ∙ key_run text from n d (at + 1) bs rest (and_right (is_word b) (all_word bs) h)
    ∙ ap (λ a. reading_from text (in_state (InKey from) n) d a rest) (omega arith)

-- the digits of a value are read
value_run : (text : List ℕ) (from digit n : ℕ) (d : Drafted) (at : ℕ) (w rest : List ℕ) → all_digits w ≡ true
    → reading_from text (in_state (InValue from digit) n) d at (w ++ rest) ≡ reading_from text (in_state (InValue from digit) n) d (at + length w) rest
value_run text from digit n d at [] rest h = ap (λ a. reading_from text (in_state (InValue from digit) n) d a rest) (omega arith)
value_run text from digit n d at (b ∷ bs) rest h =
    reads text _ d _ _ _ (silent (in_state (InValue from digit) n) (InValue from digit)) (if_then _ _ _ (and_left (is_digit b) (all_digits bs) h))
    ∙ value_run text from digit n d (at + 1) bs rest (and_right (is_digit b) (all_digits bs) h)
    ∙ ap (λ a. reading_from text (in_state (InValue from digit) n) d a rest) (omega arith)

-- ---- arguments are read

name_bytes : (w : List ℕ) → is_word_text w ≡ true → all_word w ≡ true
name_bytes w h = and_right (nat_le (length w) 63) (all_word w) (and_right (nat_le 1 (length w)) _ h)

-- an argument begins: its brace and its name
argument_begins : (text : List ℕ) (n : ℕ) (d : Drafted) (at : ℕ) (w rest : List ℕ) → nat_le 8 n ≡ false → is_word_text w ≡ true
    → reading_from text (in_state Text n) d at (opening ∷ (w ++ rest)) ≡ reading_from text (in_state (InName (at + 1)) n) d (at + 1 + length w) rest
argument_begins text n d at [] rest deep h = absurd (cc)
argument_begins text n d at (b ∷ bs) rest deep h =
    let all : all_word (b ∷ bs) ≡ true = name_bytes (b ∷ bs) h in
    let w : is_word b ≡ true = and_left (is_word b) (all_word bs) all in
    reads text _ d _ _ _ (silent (in_state Text n) Opened) (if_else _ _ _ deep)
    ∙ reads text _ d _ _ _ (silent (in_state Opened n) (InName (at + 1))) (if_else _ _ _ (no_space b w) ∙ if_then _ _ _ w)
    ∙ name_run text (at + 1) n d (at + 1 + 1) bs rest (and_right (is_word b) (all_word bs) all)
    ∙ ap (λ a. reading_from text (in_state (InName (at + 1)) n) d a rest) (omega arith)

-- a place is read
place_is_read : (text : List ℕ) (n : ℕ) (d : Drafted) (at : ℕ) (w rest : List ℕ) → nat_le 8 n ≡ false → is_name w ≡ true
    → word_in text (record { start = at + 1; end = at + 1 + length w }) ≡ w
    → reading_from text (in_state Text n) d at (opening ∷ (w ++ closing ∷ rest))
    ≡ reading_from text (in_state Text n) (with_added n (Some (Place (record { start = at + 1; end = at + 1 + length w }))) d) (at + 1 + length w + 1) rest
place_is_read text n d at w rest deep h is =
    argument_begins text n d at w (closing ∷ rest) deep (and_left (is_word_text w) _ h)
    ∙ reads text _ d _ _ _ (adds n Text (Place (record { start = at + 1; end = at + 1 + length w }))) (if_then _ _ _ (ap is_name is ∙ h))

kind_is_word : (k : ChoiceKind) → all_word (kind_name k) ≡ true
kind_is_word Plural = refl
kind_is_word SelectOrdinal = refl
kind_is_word Select = refl

kind_is_kind : (k : ChoiceKind) → kind_of (kind_name k) ≡ Some k
kind_is_kind Plural = refl
kind_is_kind SelectOrdinal = refl
kind_is_kind Select = refl

kind_is_choice : (k : ChoiceKind) → is_number_kind (kind_name k) ≡ false
kind_is_choice Plural = refl
kind_is_choice SelectOrdinal = refl
kind_is_choice Select = refl

-- the first byte of a kind is read
kind_begins : (text : List ℕ) (v : Word) (n : ℕ) (d : Drafted) (at : ℕ) (k : ChoiceKind) (rest : List ℕ)
    → reading_from text (in_state (KindDue v) n) d at (kind_name k ++ rest)
    ≡ reading_from text (in_state (InKind v at) n) d (at + length (kind_name k)) rest
kind_begins text v n d at Plural rest =
    reads text _ d _ _ _ (silent (in_state (KindDue v) n) (InKind v at)) refl
    ∙ kind_run text v at n d (at + 1) (108 ∷ 117 ∷ 114 ∷ 97 ∷ 108 ∷ []) rest refl
    ∙ ap (λ a. reading_from text (in_state (InKind v at) n) d a rest) (omega arith)
kind_begins text v n d at SelectOrdinal rest =
    reads text _ d _ _ _ (silent (in_state (KindDue v) n) (InKind v at)) refl
    ∙ kind_run text v at n d (at + 1) (101 ∷ 108 ∷ 101 ∷ 99 ∷ 116 ∷ 111 ∷ 114 ∷ 100 ∷ 105 ∷ 110 ∷ 97 ∷ 108 ∷ []) rest refl
    ∙ ap (λ a. reading_from text (in_state (InKind v at) n) d a rest) (omega arith)
kind_begins text v n d at Select rest =
    reads text _ d _ _ _ (silent (in_state (KindDue v) n) (InKind v at)) refl
    ∙ kind_run text v at n d (at + 1) (101 ∷ 108 ∷ 101 ∷ 99 ∷ 116 ∷ []) rest refl
    ∙ ap (λ a. reading_from text (in_state (InKind v at) n) d a rest) (omega arith)

-- the beginning of a choice is read
choice_is_read : (text : List ℕ) (n : ℕ) (d : Drafted) (at : ℕ) (k : ChoiceKind) (w rest : List ℕ) → nat_le 8 n ≡ false → is_name w ≡ true
    → word_in text (record { start = at + 1; end = at + 1 + length w }) ≡ w
    → word_in text (record { start = at + 1 + length w + 1; end = at + 1 + length w + 1 + length (kind_name k) }) ≡ kind_name k
    → has_other_kind text k (record { start = at + 1; end = at + 1 + length w }) d.choices ≡ false
    → reading_from text (in_state Text n) d at (opening ∷ (w ++ comma ∷ (kind_name k ++ comma ∷ rest)))
    ≡ reading_from text (in_state KeyDue (n + 1)) (with_added (n + 1) (Some (Choice k (record { start = at + 1; end = at + 1 + length w }))) d)
    (at + 1 + length w + 1 + length (kind_name k) + 1) rest
choice_is_read text n d at k w rest deep h is kind alike =
    let v : Word = record { start = at + 1; end = at + 1 + length w } in
    let from : ℕ = at + 1 + length w + 1 in
    let s : State = in_state (InKind v from) n in
    let t : Here = here s d (from + length (kind_name k)) comma rest in
    argument_begins text n d at w (comma ∷ (kind_name k ++ comma ∷ rest)) deep (and_left (is_word_text w) _ h)
    ∙ reads text _ d _ _ _ (silent (in_state Text n) (KindDue v)) (if_then _ _ _ (ap is_name is ∙ h))
    ∙ kind_begins text v n d from k (comma ∷ rest)
    ∙ reads text _ d _ _ _ (adds (n + 1) KeyDue (Choice k v))
    (if_else _ _ _ (ap is_number_kind kind ∙ kind_is_choice k)
    ∙ ap (kind_read text d.choices s v from t) (ap kind_of kind ∙ kind_is_kind k) ∙ if_else _ _ _ alike)

-- the end of a key is read
key_ends : (text : List ℕ) (n : ℕ) (d : Drafted) (from fault at : ℕ) (rest : List ℕ) (p : Position)
    → is_key (is_some (counted_at n d.choices)) (word_in text (record { start = from; end = at })) ≡ true
    → has_key text n (record { start = from; end = at }) d.keys ≡ false
    → key_read text d.keys (in_state p n) from fault (here (in_state p n) d at opening rest) ≡ Ok (adds n Text (Arm (record { start = from; end = at })))
key_ends text n d from fault at rest p valid fresh = if_then _ _ _ valid ∙ if_else _ _ _ fresh

-- the beginning of an arm is read, whose key is a word
word_arm_is_read : (text : List ℕ) (n : ℕ) (d : Drafted) (at : ℕ) (w rest : List ℕ) → is_word_text w ≡ true
    → is_key (is_some (counted_at n d.choices)) (word_in text (record { start = at; end = at + length w })) ≡ true
    → has_key text n (record { start = at; end = at + length w }) d.keys ≡ false
    → reading_from text (in_state KeyDue n) d at (w ++ opening ∷ rest)
    ≡ reading_from text (in_state Text n) (with_added n (Some (Arm (record { start = at; end = at + length w }))) d) (at + length w + 1) rest
word_arm_is_read text n d at [] rest h valid fresh = absurd (cc)
word_arm_is_read text n d at (b ∷ bs) rest h valid fresh =
    let all : all_word (b ∷ bs) ≡ true = name_bytes (b ∷ bs) h in
    let w : is_word b ≡ true = and_left (is_word b) (all_word bs) all in
    reads text _ d _ _ _ (silent (in_state KeyDue n) (InKey at)) (if_else _ _ _ (no_space b w) ∙ if_then _ _ _ w)
    ∙ key_run text at n d (at + 1) bs (opening ∷ rest) (and_right (is_word b) (all_word bs) all)
    ∙ ap (λ a. reading_from text (in_state (InKey at) n) d a (opening ∷ rest)) (omega arith)
    ∙ reads text _ d _ _ _ (adds n Text (Arm (record { start = at; end = at + length (b ∷ bs) })))
    (key_ends text n d at at (at + length (b ∷ bs)) rest (InKey at) valid fresh)

-- the beginning of an arm is read, whose key is `=` and a value
exact_arm_is_read : (text : List ℕ) (n : ℕ) (d : Drafted) (at : ℕ) (v rest : List ℕ) → is_value v ≡ true
    → is_some (counted_at n d.choices) ≡ true
    → is_key (is_some (counted_at n d.choices)) (word_in text (record { start = at; end = at + length (equals ∷ v) })) ≡ true
    → has_key text n (record { start = at; end = at + length (equals ∷ v) }) d.keys ≡ false
    → reading_from text (in_state KeyDue n) d at (equals ∷ (v ++ opening ∷ rest))
    ≡ reading_from text (in_state Text n) (with_added n (Some (Arm (record { start = at; end = at + length (equals ∷ v) }))) d)
    (at + length (equals ∷ v) + 1) rest
exact_arm_is_read text n d at [] rest h some valid fresh = absurd (cc)
exact_arm_is_read text n d at (b ∷ bs) rest h some valid fresh =
    let all : all_digits (b ∷ bs) ≡ true =
    and_left (all_digits (b ∷ bs)) _ (and_right (nat_le (length (b ∷ bs)) 18) _ (and_right (nat_le 1 (length (b ∷ bs))) _ h)) in
    let end : ℕ = at + length (equals ∷ b ∷ bs) in
    reads text _ d _ _ _ (silent (in_state KeyDue n) (ValueDue at)) (if_then _ _ _ some)
    ∙ reads text _ d _ _ _ (silent (in_state (ValueDue at) n) (InValue at (at + 1))) (if_then _ _ _ (and_left (is_digit b) (all_digits bs) all))
    ∙ value_run text at (at + 1) n d (at + 1 + 1) bs (opening ∷ rest) (and_right (is_digit b) (all_digits bs) all)
    ∙ ap (λ a. reading_from text (in_state (InValue at (at + 1)) n) d a (opening ∷ rest)) (omega arith)
    ∙ reads text _ d _ _ _ (adds n Text (Arm (record { start = at; end = end }))) (key_ends text n d at (at + 1) end rest (InValue at (at + 1)) valid fresh)

pub both : (b : Bool) → (b ≡ true) ⊎ (b ≡ false)
both true = inl refl
both false = inr refl

pub equal_bytes : (a b : ℕ) → (a == b) ≡ true → a ≡ b
equal_bytes a b h = grind (arith, nat_tests)

-- an arm whose key is `=` and a value, if the key is so spelled
exact_arm : (text : List ℕ) (n : ℕ) (d : Drafted) (at : ℕ) (w rest : List ℕ) → is_exact w ≡ true → is_some (counted_at n d.choices) ≡ true
    → is_key (is_some (counted_at n d.choices)) (word_in text (record { start = at; end = at + length w })) ≡ true
    → has_key text n (record { start = at; end = at + length w }) d.keys ≡ false
    → reading_from text (in_state KeyDue n) d at (w ++ opening ∷ rest)
    ≡ reading_from text (in_state Text n) (with_added n (Some (Arm (record { start = at; end = at + length w }))) d) (at + length w + 1) rest
exact_arm text n d at [] rest h some valid fresh = absurd (cc)
exact_arm text n d at (b ∷ v) rest h some valid fresh =
    let e : b ≡ equals = equal_bytes b equals (and_left (b == equals) (is_value v) h) in
    ap (λ b. reading_from text (in_state KeyDue n) d at (b ∷ (v ++ opening ∷ rest))) e
    ∙ exact_arm_is_read text n d at v rest (and_right (b == equals) (is_value v) h) some valid fresh

-- the beginning of an arm is read
arm_of : (text : List ℕ) (n : ℕ) (d : Drafted) (at : ℕ) (w rest : List ℕ) (c : Bool) → is_some (counted_at n d.choices) ≡ c → is_key c w ≡ true
    → is_key (is_some (counted_at n d.choices)) (word_in text (record { start = at; end = at + length w })) ≡ true
    → has_key text n (record { start = at; end = at + length w }) d.keys ≡ false
    → reading_from text (in_state KeyDue n) d at (w ++ opening ∷ rest)
    ≡ reading_from text (in_state Text n) (with_added n (Some (Arm (record { start = at; end = at + length w }))) d) (at + length w + 1) rest
arm_of text n d at w rest false is h valid fresh = word_arm_is_read text n d at w rest h valid fresh
arm_of text n d at w rest true is h valid fresh = elim (both (is_exact w)) [
  | inl e ↦ exact_arm text n d at w rest e is valid fresh
  | inr e ↦
      let other_form : (is_word_text w && is_category w) ≡ true = sym (ap (λ c. c || (is_word_text w && is_category w)) e) ∙ h in
      word_arm_is_read text n d at w rest (and_left (is_word_text w) (is_category w) other_form) valid fresh
]

arm_is_read : (text : List ℕ) (n : ℕ) (d : Drafted) (at : ℕ) (w rest : List ℕ) → is_key (is_some (counted_at n d.choices)) w ≡ true
    → word_in text (record { start = at; end = at + length w }) ≡ w
    → has_key text n (record { start = at; end = at + length w }) d.keys ≡ false
    → reading_from text (in_state KeyDue n) d at (w ++ opening ∷ rest)
    ≡ reading_from text (in_state Text n) (with_added n (Some (Arm (record { start = at; end = at + length w }))) d) (at + length w + 1) rest
arm_is_read text n d at w rest h is fresh =
    arm_of text n d at w rest (is_some (counted_at n d.choices)) refl h (ap (is_key (is_some (counted_at n d.choices))) is ∙ h) fresh

-- ---- text is read

pub or_left : (x y : Bool) → (x || y) ≡ false → x ≡ false
or_left true y h = h
or_left false y h = refl

pub or_right : (x y : Bool) → (x || y) ≡ false → y ≡ false
or_right true y h = absurd (cc)
or_right false y h = h

-- `#` that needs no quote
plain_hash : (s : State) (b : ℕ) (o : Option Word) → (b == hash && is_some o) ≡ false
    → ◌≡◌ {A = Result Step ParseError} (if b == hash then Ok (hash_step s o) else Ok (adds s.level Text (Byte b))) (Ok (adds s.level Text (Byte b)))
plain_hash s b None h = elim (both (b == hash)) [
  | inl e ↦ if_then _ _ _ e ∙ ap (λ c. Ok (adds s.level Text (Byte c))) (sym (equal_bytes b hash e))
  | inr e ↦ if_else _ _ _ e
]
plain_hash s b (Some v) h = elim (both (b == hash)) [
  | inl e ↦ absurd (cc)
  | inr e ↦ if_else _ _ _ e
]

-- a byte that needs no quote is text
plain_step : (s : State) (h : Here) → (h.byte == apostrophe) ≡ false → is_special (is_some h.counted) h.byte ≡ false
    → text_step s h ≡ Ok (adds s.level Text (Byte h.byte))
plain_step s h other plain =
    let others : (h.byte == closing || (h.byte == hash && is_some h.counted)) ≡ false = or_right (h.byte == opening) _ plain in
    if_else _ _ _ (or_left (h.byte == opening) _ plain) ∙ if_else _ _ _ (or_left (h.byte == closing) _ others) ∙ if_else _ _ _ other
    ∙ plain_hash s h.byte h.counted (or_right (h.byte == closing) _ others)

-- a byte that has to be quoted is no apostrophe
no_apostrophe : (c : Bool) (b : ℕ) → is_special c b ≡ true → (b == apostrophe) ≡ false
no_apostrophe true b h = grind (arith, nat_tests)
no_apostrophe false b h = grind (arith, nat_tests)

-- in a quote such a byte is read
special_is_read : (text : List ℕ) (from n : ℕ) (d : Drafted) (at b : ℕ) (rest : List ℕ) → is_special (is_some (counted_at n d.choices)) b ≡ true
    → reading_from text (in_state (Quoted from) n) d at (b ∷ rest)
    ≡ reading_from text (in_state (Quoted from) n) (with_added n (Some (Special b)) d) (at + 1) rest
special_is_read text from n d at b rest h =
    reads text _ d _ _ _ (adds n (Quoted from) (Special b))
    (ap (λ (t : Step). Ok t) (if_else _ _ _ (no_apostrophe (is_some (counted_at n d.choices)) b h) ∙ if_then _ _ _ h))

-- a quote begins before it
quote_begins : (text : List ℕ) (n : ℕ) (d : Drafted) (at b : ℕ) (rest : List ℕ) → is_special (is_some (counted_at n d.choices)) b ≡ true
    → reading_from text (in_state Text n) d at (apostrophe ∷ b ∷ rest) ≡ reading_from text (in_state (Quoted at) n) d (at + 1) (b ∷ rest)
quote_begins text n d at b rest h =
    reads text _ d _ _ _ (silent (in_state Text n) (Quoted at))
    (ap (λ (t : Step). Ok t) (if_else _ _ _ (no_apostrophe (is_some (counted_at n d.choices)) b h) ∙ if_then _ _ _ h))

-- a quote ends
quote_ends : (text : List ℕ) (from n : ℕ) (d : Drafted) (at : ℕ) (rest : List ℕ) → (first rest == apostrophe) ≡ false
    → reading_from text (in_state (Quoted from) n) d at (apostrophe ∷ rest) ≡ reading_from text (in_state Text n) d (at + 1) rest
quote_ends text from n d at rest h = reads text _ d _ _ _ (silent (in_state (Quoted from) n) Text) (ap (λ (t : Step). Ok t) (if_else _ _ _ h))

-- what is behind a piece
dropped : (text : List ℕ) (at : ℕ) (w rest : List ℕ) → drop at text ≡ w ++ rest → drop (at + length w) text ≡ rest
dropped text at w rest h = sym (drop-drop (length w) at text) ∙ ap (drop (length w)) h ∙ drop-append_seam w rest

-- what is behind a byte
behind : (text : List ℕ) (at b : ℕ) (rest : List ℕ) → drop at text ≡ b ∷ rest → drop (at + 1) text ≡ rest
behind text at b rest h = dropped text at (b ∷ []) rest h

-- a word where it stands
pub word_there : (text : List ℕ) (at : ℕ) (w rest : List ℕ) → drop at text ≡ w ++ rest
    → word_in text (record { start = at; end = at + length w }) ≡ w
word_there text at w rest h =
    let len : (at + length w) - at ≡ length w = omega arith in
    ap (λ n. take n (drop at text)) len ∙ ap (take (length w)) h ∙ take-append_seam w rest

-- ---- the keys of the open choices and the choices, by their words

pub keys_said : (text : List ℕ) (n : ℕ) (w : Word) (ks : List OpenKey) → has_key text n w ks ≡ keys_have n (word_in text w) (said_keys text ks)
keys_said text n w [] = refl
keys_said text n w (k ∷ ks) = ap (λ r. (k.level == n && same_words text k.word w) || r) (keys_said text n w ks)

pub other_said : (text : List ℕ) (n : ℕ) (ks : List OpenKey) → has_other text n ks ≡ keys_have n other (said_keys text ks)
other_said text n [] = refl
other_said text n (k ∷ ks) = ap (λ r. (k.level == n && is_other text k.word) || r) (other_said text n ks)

pub key_added : (text : List ℕ) (ks : List OpenKey) (k : OpenKey) → said_keys text (ks ++ k ∷ []) ≡ said_keys text ks ++ said_key text k ∷ []
key_added text [] k = refl
key_added text (x ∷ ks) k = ap (λ r. said_key text x ∷ r) (key_added text ks k)

pub keys_closed : (text : List ℕ) (n : ℕ) (ks : List OpenKey) → said_keys text (keys_to n ks) ≡ filter (λ k. nat_le k.level n) (said_keys text ks)
keys_closed text n [] = refl
keys_closed text n (k ∷ ks) = elim (nat_le k.level n) as (λ b. said_keys text (if b then k ∷ keys_to n ks else keys_to n ks)
    ≡ (if b then said_key text k ∷ filter (λ k. nat_le k.level n) (said_keys text ks) else filter (λ k. nat_le k.level n) (said_keys text ks))) [
      | true ↦ ap (λ r. said_key text k ∷ r) (keys_closed text n ks)
      | false ↦ keys_closed text n ks
    ]

pub kinds_said : (text : List ℕ) (k : ChoiceKind) (v : Word) (cs : List BegunChoice)
    → has_other_kind text k v cs ≡ kinds_differ k (word_in text v) (said_choices text cs)
kinds_said text k v [] = refl
kinds_said text k v (c ∷ cs) = ap (λ r. (are_apart c.kind k && same_words text c.name v) || r) (kinds_said text k v cs)

pub choice_added : (text : List ℕ) (cs : List BegunChoice) (c : BegunChoice)
    → said_choices text (cs ++ c ∷ []) ≡ said_choices text cs ++ said_choice text c ∷ []
choice_added text [] c = refl
choice_added text (x ∷ cs) c = ap (λ r. said_choice text x ∷ r) (choice_added text cs c)

named_said : (text : List ℕ) (k : ChoiceKind) (v : Word) → option_map (word_in text) (number_named k v) ≡ number_named k (word_in text v)
named_said text Plural v = refl
named_said text SelectOrdinal v = refl
named_said text Select v = refl

found_said : (text : List ℕ) (b : Bool) (c : BegunChoice) (o : Option Word)
    → option_map (word_in text) (if b then number_named c.kind c.name else o)
    ≡ (if b then number_named c.kind (word_in text c.name) else option_map (word_in text) o)
found_said text true c o = named_said text c.kind c.name
found_said text false c o = refl

counts_said : (text : List ℕ) (n : ℕ) (o : Option Word) (cs : List BegunChoice)
    → option_map (word_in text) (counted_from o n cs) ≡ counts_from (option_map (word_in text) o) n (said_choices text cs)
counts_said text n o [] = refl
counts_said text n o (c ∷ cs) =
    counts_said text n (if c.level == n then number_named c.kind c.name else o) cs
    ∙ ap (λ x. counts_from x n (said_choices text cs)) (found_said text (c.level == n) c o)

-- the number that is counted, by its name
pub counted_said : (text : List ℕ) (n : ℕ) (cs : List BegunChoice) → option_map (word_in text) (counted_at n cs) ≡ counts_at n (said_choices text cs)
counted_said text n cs = counts_said text n None cs

some_kept : (text : List ℕ) (o : Option Word) → is_some (option_map (word_in text) o) ≡ is_some o
some_kept text None = refl
some_kept text (Some v) = refl

-- whether a number is counted
pub some_said : (text : List ℕ) (n : ℕ) (cs : List BegunChoice) → is_some (counted_at n cs) ≡ is_some (counts_at n (said_choices text cs))
some_said text n cs = sym (some_kept text (counted_at n cs)) ∙ ap (λ (o : Option (List ℕ)). is_some o) (counted_said text n cs)

some_of : (text : List ℕ) (w : List ℕ) (o : Option Word) → option_map (word_in text) o ≡ Some w
    → (v : Word) × (o ≡ Some v) × (word_in text v ≡ w)
some_of text w None h = absurd (cc)
some_of text w (Some v) h = (v, refl, cc)

-- ---- a piece more

pub piece_added : (text : List ℕ) (ps : List Piece) (p : Piece) → said_all text (ps ++ p ∷ []) ≡ said_all text ps ++ said text p ∷ []
piece_added text [] p = refl
piece_added text (x ∷ ps) p = ap (λ r. said text x ∷ r) (piece_added text ps p)

regrouped : (text : List ℕ) (ps : List Piece) (p : Piece) (m : Said) (ms : List Said) → said text p ≡ m
    → ◌≡◌ {A = Result (List Said) ParseError} (Ok (said_all text (ps ++ p ∷ []) ++ ms)) (Ok (said_all text ps ++ m ∷ ms))
regrouped text ps p m ms e = ap (λ (l : List Said). Ok l)
    (ap (λ l. l ++ ms) (piece_added text ps p) ∙ append_assoc (said_all text ps) (said text p ∷ []) ms ∙ ap (λ x. said_all text ps ++ x ∷ ms) e)

-- ---- a message, and the arms of a choice

-- a spelling that stands in the text at a byte is read from a position on
abbrev IsRead : List ℕ → Position → ℕ → List SaidKey → List SaidChoice → Before → List Said → Type 0
IsRead text p n ks cs b ms = (at : ℕ) (d : Drafted) → drop at text ≡ spelling_from b ms → said_keys text d.keys ≡ ks
    → said_choices text d.choices ≡ cs
    → said_by text (reading_from text (in_state p n) d at (spelling_from b ms)) ≡ Ok (said_all text d.pieces ++ ms)

-- outside of quotes, and within one
record InText (text : List ℕ) (n : ℕ) (ks : List SaidKey) (cs : List SaidChoice) (ms : List Said) : Type 0 where
  plain : IsRead text Text n ks cs Nothing ms
  quoted : (from : ℕ) → IsRead text (Quoted from) n ks cs Quote ms

-- between arms, before the first arm and behind one
record InArms (text : List ℕ) (n : ℕ) (ks : List SaidKey) (cs : List SaidChoice) (ms : List Said) : Type 0 where
  begun : IsRead text KeyDue n ks cs Nothing ms
  ended : IsRead text KeyDue n ks cs EndedArm ms

-- a quote ends before a piece that needs none
unquoted : (text : List ℕ) (n : ℕ) (ks : List SaidKey) (cs : List SaidChoice) (ms : List Said) → IsRead text Text n ks cs Nothing ms
    → spelling_from Quote ms ≡ apostrophe ∷ spelling_from Nothing ms → (first (spelling_from Nothing ms) == apostrophe) ≡ false
    → (from : ℕ) → IsRead text (Quoted from) n ks cs Quote ms
unquoted text n ks cs ms k e f from at d there keys choices =
    ap (λ l. said_by text (reading_from text (in_state (Quoted from) n) d at l)) e
    ∙ ap (said_by text) (quote_ends text from n d at (spelling_from Nothing ms) f)
    ∙ k (at + 1) d (behind text at apostrophe (spelling_from Nothing ms) (there ∙ e)) keys choices

-- whether a byte has to be quoted
special_said : (text : List ℕ) (n : ℕ) (d : Drafted) (cs : List SaidChoice) (b : ℕ) (c : Bool) → said_choices text d.choices ≡ cs
    → is_special (is_some (counts_at n cs)) b ≡ c → is_special (is_some (counted_at n d.choices)) b ≡ c
special_said text n d cs b c choices h =
    ap (λ s. is_special s b) (some_said text n d.choices ∙ ap (λ l. is_some (counts_at n l)) choices) ∙ h

-- an apostrophe
apostrophe_read : (text : List ℕ) (n : ℕ) (ks : List SaidKey) (cs : List SaidChoice) (ms : List Said) → InText text n ks cs ms
    → InText text n ks cs (byte apostrophe ∷ ms)
apostrophe_read text n ks cs ms k = record {
  plain =
      λ at d there keys choices.
      let e : Drafted = with_added n (Some (Byte apostrophe)) d in
      ap (said_by text) (reads text _ d _ _ _ (adds n Doubled (Byte apostrophe)) refl ∙ reads text _ e _ _ _ (silent (in_state Doubled n) Text) refl)
      ∙ k.plain (at + 1 + 1) e (behind text (at + 1) apostrophe _ (behind text at apostrophe _ there)) keys choices
      ∙ regrouped text d.pieces (Byte apostrophe) (byte apostrophe) ms refl;
  quoted =
      λ from at d there keys choices.
      let e : Drafted = with_added n (Some (Byte apostrophe)) d in
      ap (said_by text) (reads text _ d _ _ _ (adds n (DoubledIn from) (Byte apostrophe)) refl
      ∙ reads text _ e _ _ _ (silent (in_state (DoubledIn from) n) (Quoted from)) refl)
      ∙ k.quoted from (at + 1 + 1) e (behind text (at + 1) apostrophe _ (behind text at apostrophe _ there)) keys choices
      ∙ regrouped text d.pieces (Byte apostrophe) (byte apostrophe) ms refl;
}

-- how a byte is spelled that is no apostrophe
plain_spelled : (b : ℕ) (ms : List Said) → (b == apostrophe) ≡ false → spelling_from Nothing (byte b ∷ ms) ≡ b ∷ spelling_from Nothing ms
plain_spelled b ms h = if_else _ _ _ h

quote_spelled : (b : ℕ) (ms : List Said) → (b == apostrophe) ≡ false → spelling_from Quote (byte b ∷ ms)
    ≡ apostrophe ∷ spelling_from Nothing (byte b ∷ ms)
quote_spelled b ms h =
    ap (λ c. (if c then [] else apostrophe ∷ []) ++ spelled_before (spelling_from (if c then Quote else Nothing) ms) (byte b)) h

-- a byte that needs no quote
plain_read : (text : List ℕ) (n : ℕ) (ks : List SaidKey) (cs : List SaidChoice) (b : ℕ) (ms : List Said) → (b == apostrophe) ≡ false
    → is_special (is_some (counts_at n cs)) b ≡ false → InText text n ks cs ms → IsRead text Text n ks cs Nothing (byte b ∷ ms)
plain_read text n ks cs b ms other plain k at d there keys choices =
    let e : spelling_from Nothing (byte b ∷ ms) ≡ b ∷ spelling_from Nothing ms = plain_spelled b ms other in
    let h : Here = here (in_state Text n) d at b (spelling_from Nothing ms) in
    ap (λ l. said_by text (reading_from text (in_state Text n) d at l)) e
    ∙ ap (said_by text) (reads text _ d _ _ _ (adds n Text (Byte b)) (plain_step (in_state Text n) h other (special_said text n d cs b false choices plain)))
    ∙ k.plain (at + 1) (with_added n (Some (Byte b)) d) (behind text at b (spelling_from Nothing ms) (there ∙ e)) keys choices
    ∙ regrouped text d.pieces (Byte b) (byte b) ms refl

byte_read : (text : List ℕ) (n : ℕ) (ks : List SaidKey) (cs : List SaidChoice) (b : ℕ) (ms : List Said)
    → is_special (is_some (counts_at n cs)) b ≡ false → InText text n ks cs ms → InText text n ks cs (byte b ∷ ms)
byte_read text n ks cs b ms plain k = elim (both (b == apostrophe)) [
  | inl e ↦ subst (λ b. InText text n ks cs (byte b ∷ ms)) (sym (equal_bytes b apostrophe e)) (apostrophe_read text n ks cs ms k)
  | inr e ↦
      let p : IsRead text Text n ks cs Nothing (byte b ∷ ms) = plain_read text n ks cs b ms e plain k in
      record {
        plain = p;
        quoted =
            unquoted text n ks cs (byte b ∷ ms) p (quote_spelled b ms e) (ap (λ l. first l == apostrophe) (plain_spelled b ms e) ∙ e);
      }
]

-- a byte that has to be quoted
special_read : (text : List ℕ) (n : ℕ) (ks : List SaidKey) (cs : List SaidChoice) (b : ℕ) (ms : List Said)
    → is_special (is_some (counts_at n cs)) b ≡ true → InText text n ks cs ms → InText text n ks cs (special b ∷ ms)
special_read text n ks cs b ms quoted k = record {
  plain =
      λ at d there keys choices.
      let s = special_said text n d cs b true choices quoted in
      let next = behind text at apostrophe (b ∷ spelling_from Quote ms) there in
      ap (said_by text) (quote_begins text n d at b (spelling_from Quote ms) s ∙ special_is_read text at n d (at + 1) b (spelling_from Quote ms) s)
      ∙ k.quoted at (at + 1 + 1) (with_added n (Some (Special b)) d) (behind text (at + 1) b (spelling_from Quote ms) next) keys choices
      ∙ regrouped text d.pieces (Special b) (special b) ms refl;
  quoted =
      λ from at d there keys choices.
      ap (said_by text) (special_is_read text from n d at b (spelling_from Quote ms) (special_said text n d cs b true choices quoted))
      ∙ k.quoted from (at + 1) (with_added n (Some (Special b)) d) (behind text at b (spelling_from Quote ms) there) keys choices
      ∙ regrouped text d.pieces (Special b) (special b) ms refl;
}

-- a place
place_read : (text : List ℕ) (n : ℕ) (ks : List SaidKey) (cs : List SaidChoice) (w : List ℕ) (ms : List Said) → nat_le 8 n ≡ false
    → is_name w ≡ true
    → InText text n ks cs ms → IsRead text Text n ks cs Nothing (place w ∷ ms)
place_read text n ks cs w ms deep name k at d there keys choices =
    let rest : List ℕ = spelling_from Nothing ms in
    let v : Word = record { start = at + 1; end = at + 1 + length w } in
    let next : drop (at + 1) text ≡ w ++ closing ∷ rest = behind text at opening (w ++ closing ∷ rest) there in
    let is : word_in text v ≡ w = word_there text (at + 1) w (closing ∷ rest) next in
    ap (said_by text) (place_is_read text n d at w rest deep name is)
    ∙ k.plain (at + 1 + length w + 1) (with_added n (Some (Place v)) d)
    (behind text (at + 1 + length w) closing rest (dropped text (at + 1) w (closing ∷ rest) next)) keys choices
    ∙ regrouped text d.pieces (Place v) (place w) ms (ap place is)

-- ---- formatted places are read

not_true : (b : Bool) → not b ≡ true → b ≡ false
not_true true h = absurd (cc)
not_true false h = refl

-- `number` is read
number_begins : (text : List ℕ) (v : Word) (n : ℕ) (d : Drafted) (at : ℕ) (rest : List ℕ)
    → reading_from text (in_state (KindDue v) n) d at (number_kind ++ rest)
    ≡ reading_from text (in_state (InKind v at) n) d (at + length number_kind) rest
number_begins text v n d at rest =
    reads text _ d _ _ _ (silent (in_state (KindDue v) n) (InKind v at)) refl
    ∙ kind_run text v at n d (at + 1) (117 ∷ 109 ∷ 98 ∷ 101 ∷ 114 ∷ []) rest refl
    ∙ ap (λ a. reading_from text (in_state (InKind v at) n) d a rest) (omega arith)

-- `number` ends
number_ends : (text : List ℕ) (v : Word) (from n : ℕ) (d : Drafted) (h : Here) → is_word h.byte ≡ false
    → is_number_kind (word_in text (word_to from h)) ≡ true → has_other_kind text Plural v d.choices ≡ false
    → in_kind text d.choices (in_state (InKind v from) n) v from h ≡ behind_number text (in_state (InKind v from) n) v h
number_ends text v from n d h ends is alike = if_else _ _ _ ends ∙ if_then _ _ _ is ∙ if_else _ _ _ alike

settings_read : (s : State) (v k : Word) (r : Result SkeletonData SkeletonFault) → is_ok r ≡ true
    → formatted_step s v k r ≡ Ok (adds s.level Text (Formatted v k))
settings_read s v k (Ok x) h = refl
settings_read s v k (Err fault) h = absurd (cc)

-- a skeleton is complete
skeleton_ends : (text : List ℕ) (s : State) (v k : Word) (bytes : List ℕ) → word_in text k ≡ bytes → is_skeleton bytes ≡ true
    → skeleton_read text s v k ≡ Ok (adds s.level Text (Formatted v k))
skeleton_ends text s v k bytes is h =
    ap (λ l. if is_style l then formatted_step s v k (skeleton_of l) else Err (Style k.start)) is
    ∙ if_then _ _ _ (and_left (is_style bytes) (is_ok (skeleton_of bytes)) h)
    ∙ settings_read s v k (skeleton_of bytes) (and_right (is_style bytes) (is_ok (skeleton_of bytes)) h)

-- no brace is in a skeleton
skeleton_bare : (k : List ℕ) → is_skeleton k ≡ true → has_brace k ≡ false
skeleton_bare k h = not_true (has_brace k) (and_right (is_utf8 k) (not (has_brace k)) (and_left (is_style k) (is_ok (skeleton_of k)) h))

no_closing : (b : ℕ) (k : List ℕ) → has_brace (b ∷ k) ≡ false → (b == closing) ≡ false
no_closing b k h = or_right (b == opening) (b == closing) (or_left (b == opening || b == closing) (has_brace k) h)

-- the bytes of a skeleton are read
skeleton_run : (text : List ℕ) (v : Word) (from n : ℕ) (d : Drafted) (at : ℕ) (k rest : List ℕ) → has_brace k ≡ false
    → reading_from text (in_state (InSkeleton v from) n) d at (k ++ rest) ≡ reading_from text (in_state (InSkeleton v from) n) d (at + length k) rest
skeleton_run text v from n d at [] rest h = ap (λ a. reading_from text (in_state (InSkeleton v from) n) d a rest) (omega arith)
skeleton_run text v from n d at (b ∷ k) rest h =
    reads text _ d _ _ _ (silent (in_state (InSkeleton v from) n) (InSkeleton v from)) (if_else _ _ _ (no_closing b k h))
    ∙ skeleton_run text v from n d (at + 1) k rest (or_right (b == opening || b == closing) (has_brace k) h)
    ∙ ap (λ a. reading_from text (in_state (InSkeleton v from) n) d a rest) (omega arith)

-- behind `number` a style and the end of a place are read
record StyleRead (text : List ℕ) (v : Word) (from n : ℕ) (d : Drafted) (at : ℕ) (k rest : List ℕ) : Type 0 where
  word : Word
  is : word_in text word ≡ k
  next : drop (word.end + 1) text ≡ rest
  read : reading_from text (in_state (InKind v from) n) d at (style k ++ closing ∷ rest)
      ≡ reading_from text (in_state Text n) (with_added n (Some (Formatted v word)) d) (word.end + 1) rest

style_is_read : (text : List ℕ) (v : Word) (from n : ℕ) (d : Drafted) (at : ℕ) (k rest : List ℕ)
    → is_number_kind (word_in text (record { start = from; end = at })) ≡ true → has_other_kind text Plural v d.choices ≡ false
    → is_skeleton k ≡ true → drop at text ≡ style k ++ closing ∷ rest → StyleRead text v from n d at k rest
style_is_read text v from n d at [] rest kind alike valid there =
    let word : Word = record { start = at; end = at } in
    let len : at - at ≡ 0 = omega arith in
    let is : word_in text word ≡ [] = ap (λ n. take n (drop at text)) len in
    record {
      word = word;
      is = is;
      next = behind text at closing rest there;
      read =
          reads text (in_state (InKind v from) n) d at closing rest (adds n Text (Formatted v word))
          (number_ends text v from n d (here (in_state (InKind v from) n) d at closing rest) refl kind alike
          ∙ skeleton_ends text (in_state (InKind v from) n) v word [] is valid);
    }
style_is_read text v from n d at (b ∷ k) rest kind alike valid there =
    let start : ℕ = at + 1 + 1 + 1 in
    let word : Word = record { start = start; end = start + length (b ∷ k) } in
    let first_colon : drop (at + 1) text ≡ colon ∷ colon ∷ b ∷ (k ++ closing ∷ rest) = behind text at comma _ there in
    let second_colon : drop (at + 1 + 1) text ≡ colon ∷ b ∷ (k ++ closing ∷ rest) = behind text (at + 1) colon _ first_colon in
    let skeleton : drop start text ≡ b ∷ (k ++ closing ∷ rest) = behind text (at + 1 + 1) colon _ second_colon in
    let bare : has_brace (b ∷ k) ≡ false = skeleton_bare (b ∷ k) valid in
    let is : word_in text word ≡ b ∷ k = word_there text start (b ∷ k) (closing ∷ rest) skeleton in
    record {
      word = word;
      is = is;
      next = behind text (start + length (b ∷ k)) closing rest (dropped text start (b ∷ k) (closing ∷ rest) skeleton);
      read =
          reads text (in_state (InKind v from) n) d at comma _ (silent (in_state Text n) (StyleDue v))
          (number_ends text v from n d (here (in_state (InKind v from) n) d at comma (colon ∷ colon ∷ b ∷ (k ++ closing ∷ rest))) refl kind alike)
          ∙ reads text (in_state (StyleDue v) n) d (at + 1) colon _ (silent (in_state Text n) (ColonDue v (at + 1))) refl
          ∙ reads text (in_state (ColonDue v (at + 1)) n) d (at + 1 + 1) colon _ (silent (in_state Text n) (SkeletonDue v)) refl
          ∙ reads text (in_state (SkeletonDue v) n) d start b _ (silent (in_state Text n) (InSkeleton v start)) (if_else _ _ _ (no_closing b k bare))
          ∙ skeleton_run text v start n d (start + 1) k (closing ∷ rest) (or_right (b == opening || b == closing) (has_brace k) bare)
          ∙ ap (λ a. reading_from text (in_state (InSkeleton v start) n) d a (closing ∷ rest)) (omega arith)
          ∙ reads text (in_state (InSkeleton v start) n) d (start + length (b ∷ k)) closing rest (adds n Text (Formatted v word))
          (skeleton_ends text (in_state (InSkeleton v start) n) v word (b ∷ k) is valid);
    }

-- a formatted place
formatted_read : (text : List ℕ) (n : ℕ) (ks : List SaidKey) (cs : List SaidChoice) (w k : List ℕ) (ms : List Said) → nat_le 8 n ≡ false
    → is_name w ≡ true → is_skeleton k ≡ true → kinds_differ Plural w cs ≡ false
    → InText text n ks (cs ++ record { level = no_level; kind = Plural; name = w } ∷ []) ms → IsRead text Text n ks cs Nothing (formatted w k ∷ ms)
formatted_read text n ks cs w k ms deep name valid alike behind_it at d there keys choices =
    let rest : List ℕ = spelling_from Nothing ms in
    let tail : List ℕ = style k ++ closing ∷ rest in
    let v : Word = record { start = at + 1; end = at + 1 + length w } in
    let from : ℕ = at + 1 + length w + 1 in
    let next : drop (at + 1) text ≡ w ++ comma ∷ (number_kind ++ tail) = behind text at opening (w ++ comma ∷ (number_kind ++ tail)) there in
    let is : word_in text v ≡ w = word_there text (at + 1) w (comma ∷ (number_kind ++ tail)) next in
    let kind : drop from text ≡ number_kind ++ tail =
    behind text (at + 1 + length w) comma (number_kind ++ tail) (dropped text (at + 1) w (comma ∷ (number_kind ++ tail)) next) in
    let one_kind : has_other_kind text Plural v d.choices ≡ false =
    kinds_said text Plural v d.choices ∙ ap (λ x. kinds_differ Plural x (said_choices text d.choices)) is ∙ ap (kinds_differ Plural w) choices ∙ alike in
    let x : StyleRead text v from n d (from + length number_kind) k rest =
    style_is_read text v from n d (from + length number_kind) k rest (ap is_number_kind (word_there text from number_kind tail kind)) one_kind valid
    (dropped text from number_kind tail kind) in
    ap (said_by text)
    (argument_begins text n d at w (comma ∷ (number_kind ++ tail)) deep (and_left (is_word_text w) _ name)
    ∙ reads text _ d _ _ _ (silent (in_state Text n) (KindDue v)) (if_then _ _ _ (ap is_name is ∙ name))
    ∙ number_begins text v n d from tail
    ∙ x.read)
    ∙ behind_it.plain (x.word.end + 1) (with_added n (Some (Formatted v x.word)) d) x.next keys
    (choice_added text d.choices (record { level = no_level; kind = Plural; name = v })
    ∙ ap (λ l. l ++ record { level = no_level; kind = Plural; name = word_in text v } ∷ []) choices
    ∙ ap (λ x. cs ++ record { level = no_level; kind = Plural; name = x } ∷ []) is)
    ∙ regrouped text d.pieces (Formatted v x.word) (formatted w k) ms (ap (λ y. formatted y (word_in text x.word)) is ∙ ap (formatted w) x.is)

-- `#`
counted_read : (text : List ℕ) (n : ℕ) (ks : List SaidKey) (cs : List SaidChoice) (w : List ℕ) (ms : List Said) → counts_at n cs ≡ Some w
    → InText text n ks cs ms → IsRead text Text n ks cs Nothing (counted w ∷ ms)
counted_read text n ks cs w ms count k at d there keys choices =
    let v = some_of text w (counted_at n d.choices) (counted_said text n d.choices ∙ ap (counts_at n) choices ∙ count) in
    ap (said_by text) (reads text _ d _ _ _ (adds n Text (Hash v.0)) (ap (λ o. Ok (hash_step (in_state Text n) o)) v.1))
    ∙ k.plain (at + 1) (with_added n (Some (Hash v.0)) d) (behind text at hash (spelling_from Nothing ms) there) keys choices
    ∙ regrouped text d.pieces (Hash v.0) (counted w) ms (ap counted v.2)

-- the beginning of a choice
choice_read : (text : List ℕ) (n : ℕ) (ks : List SaidKey) (cs : List SaidChoice) (c : ChoiceKind) (w : List ℕ) (ms : List Said) → nat_le 8 n ≡ false
    → is_name w ≡ true → kinds_differ c w cs ≡ false → InArms text (n + 1) ks (cs ++ record { level = n + 1; kind = c; name = w } ∷ []) ms
    → IsRead text Text n ks cs Nothing (choice c w ∷ ms)
choice_read text n ks cs c w ms deep name alike k at d there keys choices =
    let rest : List ℕ = spelling_from Nothing ms in
    let v : Word = record { start = at + 1; end = at + 1 + length w } in
    let from : ℕ = at + 1 + length w + 1 in
    let next : drop (at + 1) text ≡ w ++ comma ∷ (kind_name c ++ comma ∷ rest) =
    behind text at opening (w ++ comma ∷ (kind_name c ++ comma ∷ rest)) there in
    let is : word_in text v ≡ w = word_there text (at + 1) w (comma ∷ (kind_name c ++ comma ∷ rest)) next in
    let kind : drop from text ≡ kind_name c ++ comma ∷ rest =
    behind text (at + 1 + length w) comma (kind_name c ++ comma ∷ rest) (dropped text (at + 1) w (comma ∷ (kind_name c ++ comma ∷ rest)) next) in
    let one_kind : has_other_kind text c v d.choices ≡ false =
    kinds_said text c v d.choices ∙ ap (λ x. kinds_differ c x (said_choices text d.choices)) is ∙ ap (kinds_differ c w) choices ∙ alike in
    ap (said_by text) (choice_is_read text n d at c w rest deep name is (word_there text from (kind_name c) (comma ∷ rest) kind) one_kind)
    ∙ k.begun (from + length (kind_name c) + 1) (with_added (n + 1) (Some (Choice c v)) d)
    (behind text (from + length (kind_name c)) comma rest (dropped text from (kind_name c) (comma ∷ rest) kind)) keys
    (choice_added text d.choices (record { level = n + 1; kind = c; name = v })
    ∙ ap (λ l. l ++ record { level = n + 1; kind = c; name = word_in text v } ∷ []) choices
    ∙ ap (λ x. cs ++ record { level = n + 1; kind = c; name = x } ∷ []) is)
    ∙ regrouped text d.pieces (Choice c v) (choice c w) ms (ap (choice c) is)

-- the end of an arm
arm_end_read : (text : List ℕ) (n : ℕ) (ks : List SaidKey) (cs : List SaidChoice) (ms : List Said) → (n == 0) ≡ false → InArms text n ks cs ms
    → IsRead text Text n ks cs Nothing (end_arm ∷ ms)
arm_end_read text n ks cs ms some k at d there keys choices =
    ap (said_by text) (reads text (in_state Text n) d at closing (spelling_from EndedArm ms) (adds n KeyDue EndArm) (if_else _ _ _ some))
    ∙ k.ended (at + 1) (with_added n (Some EndArm) d) (behind text at closing (spelling_from EndedArm ms) there) keys choices
    ∙ regrouped text d.pieces EndArm end_arm ms refl

-- the beginning of an arm
arm_read : (text : List ℕ) (n : ℕ) (ks : List SaidKey) (cs : List SaidChoice) (w : List ℕ) (ms : List Said)
    → is_key (is_some (counts_at n cs)) w ≡ true
    → keys_have n w ks ≡ false → InText text n (ks ++ record { level = n; word = w } ∷ []) cs ms → IsRead text KeyDue n ks cs Nothing (arm w ∷ ms)
arm_read text n ks cs w ms key once k at d there keys choices =
    let rest : List ℕ = spelling_from Nothing ms in
    let v : Word = record { start = at; end = at + length w } in
    let is : word_in text v ≡ w = word_there text at w (opening ∷ rest) there in
    let fresh : has_key text n v d.keys ≡ false =
    keys_said text n v d.keys ∙ ap (λ x. keys_have n x (said_keys text d.keys)) is ∙ ap (keys_have n w) keys ∙ once in
    let valid : is_key (is_some (counted_at n d.choices)) w ≡ true =
    ap (λ c. is_key c w) (some_said text n d.choices ∙ ap (λ l. is_some (counts_at n l)) choices) ∙ key in
    ap (said_by text) (arm_is_read text n d at w rest valid is fresh)
    ∙ k.plain (at + length w + 1) (with_added n (Some (Arm v)) d) (behind text (at + length w) opening rest (dropped text at w (opening ∷ rest) there))
    (key_added text d.keys (record { level = n; word = v }) ∙ ap (λ l. l ++ record { level = n; word = word_in text v } ∷ []) keys
    ∙ ap (λ x. ks ++ record { level = n; word = x } ∷ []) is) choices
    ∙ regrouped text d.pieces (Arm v) (arm w) ms (ap arm is)

-- a space before it
spaced : (text : List ℕ) (n : ℕ) (ks : List SaidKey) (cs : List SaidChoice) (w : List ℕ) (ms : List Said)
    → IsRead text KeyDue n ks cs Nothing (arm w ∷ ms)
    → IsRead text KeyDue n ks cs EndedArm (arm w ∷ ms)
spaced text n ks cs w ms k at d there keys choices =
    ap (said_by text) (reads text _ d _ _ _ (silent (in_state KeyDue n) KeyDue) refl)
    ∙ k (at + 1) d (behind text at 32 (spelling_from Nothing (arm w ∷ ms)) there) keys choices

-- the end of a choice
choice_end_read : (text : List ℕ) (n : ℕ) (ks : List SaidKey) (cs : List SaidChoice) (ms : List Said) → keys_have n other ks ≡ true
    → InText text (n - 1) (filter (λ k. nat_le k.level (n - 1)) ks) cs ms → IsRead text KeyDue n ks cs Nothing (end_choice ∷ ms)
choice_end_read text n ks cs ms has k at d there keys choices =
    ap (said_by text) (reads text (in_state KeyDue n) d at closing (spelling_from Nothing ms) (adds (n - 1) Text EndChoice)
    (if_then _ _ _ (other_said text n d.keys ∙ ap (keys_have n other) keys ∙ has)))
    ∙ k.plain (at + 1) (with_added (n - 1) (Some EndChoice) d) (behind text at closing (spelling_from Nothing ms) there)
    (keys_closed text (n - 1) d.keys ∙ ap (filter (λ k. nat_le k.level (n - 1))) keys) choices
    ∙ regrouped text d.pieces EndChoice end_choice ms refl

nothing_read : (text : List ℕ) (ks : List SaidKey) (cs : List SaidChoice) → IsRead text Text 0 ks cs Nothing []
nothing_read text ks cs at d there keys choices =
    ap (said_by text) (at_end text (in_state Text 0) d at) ∙ ap (λ (l : List Said). Ok l) (sym (append-nil (said_all text d.pieces)))

-- with a quote that ends before it
with_quote : (text : List ℕ) (n : ℕ) (ks : List SaidKey) (cs : List SaidChoice) (ms : List Said) → IsRead text Text n ks cs Nothing ms
    → spelling_from Quote ms ≡ apostrophe ∷ spelling_from Nothing ms → (first (spelling_from Nothing ms) == apostrophe) ≡ false
    → InText text n ks cs ms
with_quote text n ks cs ms k e f = record { plain = k; quoted = unquoted text n ks cs ms k e f }

mutual
  read_message : (text : List ℕ) (n : ℕ) (ks : List SaidKey) (cs : List SaidChoice) (ms : List Said) → IsNormalFrom false n ks cs ms
      → InText text n ks cs ms
  read_message text n ks cs [] h =
      subst (λ n. InText text n ks cs []) (sym h) (with_quote text 0 ks cs [] (nothing_read text ks cs) refl refl)
  read_message text n ks cs (byte b ∷ ms) h = byte_read text n ks cs b ms h.0 (read_message text n ks cs ms h.1)
  read_message text n ks cs (special b ∷ ms) h = special_read text n ks cs b ms h.0 (read_message text n ks cs ms h.1)
  read_message text n ks cs (place w ∷ ms) h =
      with_quote text n ks cs (place w ∷ ms) (place_read text n ks cs w ms h.0 h.1 (read_message text n ks cs ms h.2)) refl refl
  read_message text n ks cs (formatted w k ∷ ms) h =
      with_quote text n ks cs (formatted w k ∷ ms)
      (formatted_read text n ks cs w k ms h.0 h.1 h.2 h.3
      (read_message text n ks (cs ++ record { level = no_level; kind = Plural; name = w } ∷ []) ms h.4)) refl refl
  read_message text n ks cs (counted w ∷ ms) h =
      with_quote text n ks cs (counted w ∷ ms) (counted_read text n ks cs w ms h.0 (read_message text n ks cs ms h.1)) refl refl
  read_message text n ks cs (choice c w ∷ ms) h =
      with_quote text n ks cs (choice c w ∷ ms)
      (choice_read text n ks cs c w ms h.0 h.1 h.2 (read_arms text (n + 1) ks (cs ++ record { level = n + 1; kind = c; name = w } ∷ []) ms h.3)) refl refl
  read_message text n ks cs (end_arm ∷ ms) h =
      with_quote text n ks cs (end_arm ∷ ms) (arm_end_read text n ks cs ms h.0 (read_arms text n ks cs ms h.1)) refl refl
  read_message text n ks cs (arm w ∷ ms) h = absurd h
  read_message text n ks cs (end_choice ∷ ms) h = absurd h

  read_arms : (text : List ℕ) (n : ℕ) (ks : List SaidKey) (cs : List SaidChoice) (ms : List Said) → IsNormalFrom true n ks cs ms
      → InArms text n ks cs ms
  read_arms text n ks cs (arm w ∷ ms) h =
      let k : IsRead text KeyDue n ks cs Nothing (arm w ∷ ms) =
      arm_read text n ks cs w ms h.0 h.1 (read_message text n (ks ++ record { level = n; word = w } ∷ []) cs ms h.2) in
      record { begun = k; ended = spaced text n ks cs w ms k }
  read_arms text n ks cs (end_choice ∷ ms) h =
      let k : IsRead text KeyDue n ks cs Nothing (end_choice ∷ ms) =
      choice_end_read text n ks cs ms h.0 (read_message text (n - 1) (filter (λ k. nat_le k.level (n - 1)) ks) cs ms h.1) in
      record { begun = k; ended = k }
  read_arms text n ks cs [] h = absurd h
  read_arms text n ks cs (byte b ∷ ms) h = absurd h
  read_arms text n ks cs (special b ∷ ms) h = absurd h
  read_arms text n ks cs (place w ∷ ms) h = absurd h
  read_arms text n ks cs (formatted w k ∷ ms) h = absurd h
  read_arms text n ks cs (counted w ∷ ms) h = absurd h
  read_arms text n ks cs (choice c w ∷ ms) h = absurd h
  read_arms text n ks cs (end_arm ∷ ms) h = absurd h

pub spelling-is-read : SpellingIsRead
spelling-is-read ms h short =
    ap (said_by (spelling ms)) (if_then _ _ _ short) ∙ (read_message (spelling ms) 0 [] [] ms h).plain 0 empty_draft refl refl refl
