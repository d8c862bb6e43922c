-- What is read is normal: what a step adds may stand there.
use Rattle.std.proofs.Common.{◌≡◌, ◌⊎◌, inl, inr, ℕ, zero, suc, ◌+◌, ◌-◌, List, [], ◌∷◌, ◌++◌, length, refl, sym, ap, subst}
use Rattle.std.proofs.Common.{◌∙◌, append_assoc, append-nil}
use Rattle.std.specs.Prelude.{Bool, true, false, ◌==◌, ◌&&◌, ◌||◌, nat_le, if◌then◌else◌, Option, Some, None, is_some, Result, Ok, Err}
use Rattle.std.specs.Option.{option_map}
use Rattle.std.specs.Result.{is_ok}
use Rattle.number_skeleton.specs.declared.fault.SkeletonFault.{SkeletonFault}
use Rattle.number_skeleton.specs.Tokens.{skeleton_of}
use Rattle.skeleton_settings.specs.Settings.{SkeletonData}
use Rattle.icu_message.specs.declared.error.ParseError.{ParseError}
use Rattle.icu_message.specs.declared.piece.Word.{Word}
use Rattle.icu_message.specs.declared.piece.ChoiceKind.{ChoiceKind}
use Rattle.icu_message.specs.declared.piece.ChoiceKind.TheVariants.{Plural}
use Rattle.icu_message.specs.declared.piece.Piece.{Piece}
use Rattle.icu_message.specs.declared.piece.Piece.TheVariants.{Byte, Special}
use Rattle.icu_message.specs.declared.stepping.Position.{Position}
use Rattle.icu_message.specs.declared.stepping.Position.TheVariants.{Text, Doubled, DoubledIn, Quoted, Opened, InName, Named, KindDue, InKind, AfterKind}
use Rattle.icu_message.specs.declared.stepping.Position.TheVariants.{AfterNumber, StyleDue, ColonDue, SkeletonDue, InSkeleton, KeyDue, InKey, ValueDue}
use Rattle.icu_message.specs.declared.stepping.Position.TheVariants.{InValue, AfterKey}
use Rattle.icu_message.specs.declared.stepping.State.{State}
use Rattle.icu_message.specs.declared.stepping.Step.{Step}
use Rattle.icu_message.specs.declared.stepping.Here.{Here}
use Rattle.icu_message.specs.Words.{is_space, is_digit, is_word, word_in}
use Rattle.icu_message.specs.Names.{is_name, is_key, kind_of, is_number_kind}
use Rattle.icu_message.specs.Keys.{has_key, has_keys, has_other, counted_at, has_other_kind}
use Rattle.icu_message.specs.Stepping.{opening, closing, comma, colon, apostrophe, hash, equals, is_special, start, step, step_in, hash_step, text_step}
use Rattle.icu_message.specs.Stepping.{quoted_step, is_style, formatted_step, skeleton_read, skeleton_step, behind_number, number_read, word_to, after_name}
use Rattle.icu_message.specs.Stepping.{behind_kind, kind_read, close_choice, key_step, after_key, key_read}
use Rattle.icu_message.specs.Reading.{Drafted, empty_draft, with_added, with_step, ended, here, first, fault_of_end, longest, no_level, reading_from, pieces_of}
use Rattle.icu_message.specs.Spelling.{Said, said, said_all, said_by, said_keys, said_choices, counts_at, is_skeleton, IsNormalFrom, IsNormal, ReadIsNormal}
use Rattle.icu_message.proofs.Left.{byte_is_read, at_end}
use Rattle.icu_message.proofs.Spelled.{in_state, keys_said, other_said, key_added, keys_closed, piece_added, kinds_said, choice_added, counted_said, some_said}

-- ---- cases

cases : {A : Type 0} (c : Bool) (x y r : A) → (if c then x else y) ≡ r → ((c ≡ true) × (x ≡ r)) ⊎ ((c ≡ false) × (y ≡ r))
cases true x y r h = inl (refl, h)
cases false x y r h = inr (refl, h)

known : (P : Step → Type 0) (a t : Step) → ◌≡◌ {A = Result Step ParseError} (Ok a) (Ok t) → P a → P t
known P a t h p = let e : a ≡ t = cc in subst P e p

never : {A : Type 0} (fault : ParseError) (t : Step) → ◌≡◌ {A = Result Step ParseError} (Err fault) (Ok t) → A
never fault t h = absurd (cc)

neither : (x y : Bool) → x ≡ false → y ≡ false → (x || y) ≡ false
neither true y h k = h
neither false y h k = k

-- ---- what holds at a position

abbrev between : Position → Bool
between KeyDue = true
between (InKey from) = true
between (ValueDue from) = true
between (InValue from digit) = true
between (AfterKey w) = true
between _ = false

abbrev Fine : List ℕ → Drafted → ℕ → Position → Type 0
Fine text d n Opened = nat_le 8 n ≡ false
Fine text d n (InName from) = nat_le 8 n ≡ false
Fine text d n (Named w) = (nat_le 8 n ≡ false) × (is_name (word_in text w) ≡ true)
Fine text d n (KindDue w) = (nat_le 8 n ≡ false) × (is_name (word_in text w) ≡ true)
Fine text d n (InKind w from) = (nat_le 8 n ≡ false) × (is_name (word_in text w) ≡ true)
Fine text d n (AfterKind k w) = (nat_le 8 n ≡ false) × (is_name (word_in text w) ≡ true) × (has_other_kind text k w d.choices ≡ false)
Fine text d n (AfterNumber w) = (nat_le 8 n ≡ false) × (is_name (word_in text w) ≡ true) × (has_other_kind text Plural w d.choices ≡ false)
Fine text d n (StyleDue w) = (nat_le 8 n ≡ false) × (is_name (word_in text w) ≡ true) × (has_other_kind text Plural w d.choices ≡ false)
Fine text d n (ColonDue w from) = (nat_le 8 n ≡ false) × (is_name (word_in text w) ≡ true) × (has_other_kind text Plural w d.choices ≡ false)
Fine text d n (SkeletonDue w) = (nat_le 8 n ≡ false) × (is_name (word_in text w) ≡ true) × (has_other_kind text Plural w d.choices ≡ false)
Fine text d n (InSkeleton w from) = (nat_le 8 n ≡ false) × (is_name (word_in text w) ≡ true) × (has_other_kind text Plural w d.choices ≡ false)
Fine text d n (AfterKey w) = is_key (is_some (counted_at n d.choices)) (word_in text w) ≡ true
Fine text d n _ = Unit {0}

-- what may stand behind what is read
abbrev Follows : List ℕ → Drafted → Bool → ℕ → List Said → Type 0
Follows text d b n rest = IsNormalFrom b n (said_keys text d.keys) (said_choices text d.choices) rest

-- what is added may stand there
abbrev MayStand : List ℕ → Drafted → Bool → ℕ → State → Option Piece → Type 0
MayStand text d b n s None = (between s.position ≡ b) × (s.level ≡ n)
MayStand text d b n s (Some p) =
    (rest : List Said) → Follows text (with_added s.level (Some p) d) (between s.position) s.level rest → Follows text d b n (said text p ∷ rest)

record Goes (text : List ℕ) (d : Drafted) (b : Bool) (n : ℕ) (t : Step) : Type 0 where
  fine : Fine text (with_step t d) t.state.level t.state.position
  stands : MayStand text d b n t.state t.added

-- ---- text

-- whether a byte has to be quoted
special_here : (text : List ℕ) (d : Drafted) (n b : ℕ) (c : Bool) → is_special (is_some (counted_at n d.choices)) b ≡ c
    → is_special (is_some (counts_at n (said_choices text d.choices))) b ≡ c
special_here text d n b c h = ap (λ s. is_special s b) (sym (some_said text n d.choices)) ∙ h

hash_goes : (text : List ℕ) (d : Drafted) (n : ℕ) (o : Option Word) → counted_at n d.choices ≡ o → Goes text d false n (hash_step (in_state Text n) o)
hash_goes text d n None e = record {
  fine = tt;
  stands = λ rest r. (sym (some_said text n d.choices) ∙ ap (λ (o : Option Word). is_some o) e, r);
}
hash_goes text d n (Some v) e = record {
  fine = tt;
  stands = λ rest r. (sym (counted_said text n d.choices) ∙ ap (option_map (word_in text)) e, r);
}

apostrophe_goes : (text : List ℕ) (d : Drafted) (n at next : ℕ) (c : Bool) (s : Bool) → Goes text d false n
    (if c then record { state = record { position = Doubled; level = n }; added = Some (Byte apostrophe) }
    else (if s then record { state = record { position = Quoted at; level = n }; added = None }
    else record { state = record { position = Text; level = n }; added = Some (Byte apostrophe) }))
apostrophe_goes text d n at next true s = record { fine = tt; stands = λ rest r. (refl, r) }
apostrophe_goes text d n at next false true = record { fine = tt; stands = (refl, refl) }
apostrophe_goes text d n at next false false = record { fine = tt; stands = λ rest r. (refl, r) }

text_goes : (text : List ℕ) (d : Drafted) (n at b : ℕ) (bs : List ℕ) (t : Step)
    → text_step (in_state Text n) (here (in_state Text n) d at b bs) ≡ Ok t
    → Goes text d false n t
text_goes text d n at b bs t h = elim (cases (b == opening) _ _ (Ok t) h) as (λ _. Goes text d false n t) [
  | inl h ↦ elim (cases (nat_le 8 n) _ _ (Ok t) h.1) as (λ _. Goes text d false n t) [
    | inl h ↦ never _ t h.1
    | inr h ↦ known (Goes text d false n) _ t h.1 (record { fine = h.0; stands = (refl, refl) })
  ]
  | inr o ↦ elim (cases (b == closing) _ _ (Ok t) o.1) as (λ _. Goes text d false n t) [
    | inl h ↦ elim (cases (n == 0) _ _ (Ok t) h.1) as (λ _. Goes text d false n t) [
      | inl h ↦ never _ t h.1
      | inr h ↦ known (Goes text d false n) _ t h.1 (record { fine = tt; stands = λ rest r. (h.0, r) })
    ]
    | inr p ↦ elim (cases (b == apostrophe) _ _ (Ok t) p.1) as (λ _. Goes text d false n t) [
      | inl h ↦ known (Goes text d false n) _ t h.1
          (apostrophe_goes text d n at (first bs) (first bs == apostrophe) (is_special (is_some (counted_at n d.choices)) (first bs)))
      | inr q ↦ elim (cases (b == hash) _ _ (Ok t) q.1) as (λ _. Goes text d false n t) [
        | inl h ↦ known (Goes text d false n) _ t h.1 (hash_goes text d n (counted_at n d.choices) refl)
        | inr h ↦ known (Goes text d false n) _ t h.1 (record {
          fine = tt;
          stands = λ rest r.
              (neither _ _ o.0 (neither _ _ p.0 (ap (λ c. c && is_some (counts_at n (said_choices text d.choices))) h.0)), r);
        })
      ]
    ]
  ]
]

byte_goes : (text : List ℕ) (d : Drafted) (n at from b : ℕ) (c : Bool) → is_special (is_some (counted_at n d.choices)) b ≡ c → Goes text d false n
    (if c then record { state = record { position = Quoted from; level = n }; added = Some (Special b) }
    else record { state = record { position = Quoted from; level = n }; added = Some (Byte b) })
byte_goes text d n at from b true h = record { fine = tt; stands = λ rest r. (special_here text d n b true h, r) }
byte_goes text d n at from b false h = record { fine = tt; stands = λ rest r. (special_here text d n b false h, r) }

ends_goes : (text : List ℕ) (d : Drafted) (n from : ℕ) (c : Bool) → Goes text d false n
    (if c then record { state = record { position = DoubledIn from; level = n }; added = Some (Byte apostrophe) }
    else record { state = record { position = Text; level = n }; added = None })
ends_goes text d n from true = record { fine = tt; stands = λ rest r. (refl, r) }
ends_goes text d n from false = record { fine = tt; stands = (refl, refl) }

quoted_goes : (text : List ℕ) (d : Drafted) (n at from b : ℕ) (bs : List ℕ) (t : Step)
    → quoted_step (in_state (Quoted from) n) from (here (in_state (Quoted from) n) d at b bs) ≡ t → Goes text d false n t
quoted_goes text d n at from b bs t h = elim (cases (b == apostrophe) _ _ t h) as (λ _. Goes text d false n t) [
  | inl h ↦ subst (Goes text d false n) h.1 (ends_goes text d n from (first bs == apostrophe))
  | inr h ↦ subst (Goes text d false n) h.1 (byte_goes text d n at from b (is_special (is_some (counted_at n d.choices)) b) refl)
]

-- ---- arguments

after_name_goes : (text : List ℕ) (d : Drafted) (p : Position) (n : ℕ) (w : Word) (h : Here) (t : Step) → nat_le 8 n ≡ false
    → is_name (word_in text w) ≡ true → after_name (in_state p n) w h ≡ Ok t → Goes text d false n t
after_name_goes text d p n w x t deep name h = elim (cases (x.byte == closing) _ _ (Ok t) h) as (λ _. Goes text d false n t) [
  | inl h ↦ known (Goes text d false n) _ t h.1 (record { fine = tt; stands = λ rest r. (deep, name, r) })
  | inr h ↦ elim (cases (x.byte == comma) _ _ (Ok t) h.1) as (λ _. Goes text d false n t) [
    | inl h ↦ known (Goes text d false n) _ t h.1 (record { fine = (deep, name); stands = (refl, refl) })
    | inr h ↦ elim (cases (is_space x.byte) _ _ (Ok t) h.1) as (λ _. Goes text d false n t) [
      | inl h ↦ known (Goes text d false n) _ t h.1 (record { fine = (deep, name); stands = (refl, refl) })
      | inr h ↦ never _ t h.1
    ]
  ]
]

behind_kind_goes : (text : List ℕ) (d : Drafted) (p : Position) (n : ℕ) (k : ChoiceKind) (w : Word) (h : Here) (t : Step) → nat_le 8 n ≡ false
    → is_name (word_in text w) ≡ true → has_other_kind text k w d.choices ≡ false → behind_kind (in_state p n) k w h ≡ Ok t
    → Goes text d false n t
behind_kind_goes text d p n k w x t deep name alike h = elim (cases (x.byte == comma) _ _ (Ok t) h) as (λ _. Goes text d false n t) [
  | inl h ↦ known (Goes text d false n) _ t h.1 (record {
    fine = tt;
    stands =
        λ rest r. (
          deep,
          name,
          sym (kinds_said text k w d.choices) ∙ alike,
          subst (λ l. IsNormalFrom true (n + 1) (said_keys text d.keys) l rest)
              (choice_added text d.choices (record { level = n + 1; kind = k; name = w })) r,
        );
  })
  | inr h ↦ elim (cases (is_space x.byte) _ _ (Ok t) h.1) as (λ _. Goes text d false n t) [
    | inl h ↦ known (Goes text d false n) _ t h.1 (record { fine = (deep, name, alike); stands = (refl, refl) })
    | inr h ↦ never _ t h.1
  ]
]

kind_read_goes : (text : List ℕ) (d : Drafted) (p : Position) (n : ℕ) (w : Word) (from : ℕ) (h : Here) (o : Option ChoiceKind) (t : Step)
    → nat_le 8 n ≡ false
    → is_name (word_in text w) ≡ true → kind_read text d.choices (in_state p n) w from h o ≡ Ok t → Goes text d false n t
kind_read_goes text d p n w from x None t deep name h = never _ t h
kind_read_goes text d p n w from x (Some k) t deep name h = elim (cases (has_other_kind text k w d.choices) _ _ (Ok t) h) as (λ _. Goes text d false n t) [
  | inl h ↦ never _ t h.1
  | inr h ↦ behind_kind_goes text d p n k w x t deep name h.0 h.1
]

-- ---- formatted places

formatted_goes : (text : List ℕ) (d : Drafted) (p : Position) (n : ℕ) (w k : Word) (r : Result SkeletonData SkeletonFault) (t : Step)
    → nat_le 8 n ≡ false → is_name (word_in text w) ≡ true → has_other_kind text Plural w d.choices ≡ false
    → is_style (word_in text k) ≡ true → skeleton_of (word_in text k) ≡ r → formatted_step (in_state p n) w k r ≡ Ok t → Goes text d false n t
formatted_goes text d p n w k (Ok x) t deep name alike style is h =
    let read : is_skeleton (word_in text k) ≡ true =
    ap (λ c. c && is_ok (skeleton_of (word_in text k))) style ∙ ap (λ (r : Result SkeletonData SkeletonFault). is_ok r) is in
    known (Goes text d false n) _ t h (record {
      fine = tt;
      stands =
          λ rest r. (
            deep,
            name,
            read,
            sym (kinds_said text Plural w d.choices) ∙ alike,
            subst (λ l. IsNormalFrom false n (said_keys text d.keys) l rest)
                (choice_added text d.choices (record { level = no_level; kind = Plural; name = w })) r,
          );
    })
formatted_goes text d p n w k (Err fault) t deep name alike style is h = never _ t h

skeleton_read_goes : (text : List ℕ) (d : Drafted) (p : Position) (n : ℕ) (w k : Word) (t : Step) → nat_le 8 n ≡ false
    → is_name (word_in text w) ≡ true → has_other_kind text Plural w d.choices ≡ false → skeleton_read text (in_state p n) w k ≡ Ok t
    → Goes text d false n t
skeleton_read_goes text d p n w k t deep name alike h = elim (cases (is_style (word_in text k)) _ _ (Ok t) h) as (λ _. Goes text d false n t) [
  | inl h ↦ formatted_goes text d p n w k (skeleton_of (word_in text k)) t deep name alike h.0 refl h.1
  | inr h ↦ never _ t h.1
]

skeleton_goes : (text : List ℕ) (d : Drafted) (p : Position) (n : ℕ) (w : Word) (from : ℕ) (h : Here) (t : Step) → nat_le 8 n ≡ false
    → is_name (word_in text w) ≡ true → has_other_kind text Plural w d.choices ≡ false → skeleton_step text (in_state p n) w from h ≡ Ok t
    → Goes text d false n t
skeleton_goes text d p n w from x t deep name alike h = elim (cases (x.byte == closing) _ _ (Ok t) h) as (λ _. Goes text d false n t) [
  | inl h ↦ skeleton_read_goes text d p n w (word_to from x) t deep name alike h.1
  | inr h ↦ known (Goes text d false n) _ t h.1 (record { fine = (deep, name, alike); stands = (refl, refl) })
]

number_goes : (text : List ℕ) (d : Drafted) (p : Position) (n : ℕ) (w : Word) (h : Here) (t : Step) → nat_le 8 n ≡ false
    → is_name (word_in text w) ≡ true → has_other_kind text Plural w d.choices ≡ false → behind_number text (in_state p n) w h ≡ Ok t
    → Goes text d false n t
number_goes text d p n w x t deep name alike h = elim (cases (x.byte == closing) _ _ (Ok t) h) as (λ _. Goes text d false n t) [
  | inl h ↦ skeleton_read_goes text d p n w (word_to x.at x) t deep name alike h.1
  | inr h ↦ elim (cases (x.byte == comma) _ _ (Ok t) h.1) as (λ _. Goes text d false n t) [
    | inl h ↦ known (Goes text d false n) _ t h.1 (record { fine = (deep, name, alike); stands = (refl, refl) })
    | inr h ↦ elim (cases (is_space x.byte) _ _ (Ok t) h.1) as (λ _. Goes text d false n t) [
      | inl h ↦ known (Goes text d false n) _ t h.1 (record { fine = (deep, name, alike); stands = (refl, refl) })
      | inr h ↦ never _ t h.1
    ]
  ]
]

number_read_goes : (text : List ℕ) (d : Drafted) (p : Position) (n : ℕ) (w : Word) (from : ℕ) (h : Here) (t : Step) → nat_le 8 n ≡ false
    → is_name (word_in text w) ≡ true → number_read text d.choices (in_state p n) w from h ≡ Ok t → Goes text d false n t
number_read_goes text d p n w from x t deep name h = elim (cases (has_other_kind text Plural w d.choices) _ _ (Ok t) h) as (λ _. Goes text d false n t) [
  | inl h ↦ never _ t h.1
  | inr h ↦ number_goes text d p n w x t deep name h.0 h.1
]

-- ---- keys

close_goes : (text : List ℕ) (d : Drafted) (p : Position) (n at : ℕ) (t : Step) → close_choice text d.keys (in_state p n) at ≡ Ok t
    → Goes text d true n t
close_goes text d p n at t h = elim (cases (has_other text n d.keys) _ _ (Ok t) h) as (λ _. Goes text d true n t) [
  | inl h ↦ known (Goes text d true n) _ t h.1 (record {
    fine = tt;
    stands = λ rest r. (
      sym (other_said text n d.keys) ∙ h.0,
      subst (λ l. IsNormalFrom false (n - 1) l (said_choices text d.choices) rest) (keys_closed text (n - 1) d.keys) r,
    );
  })
  | inr h ↦ elim (cases (has_keys n d.keys) _ _ (Ok t) h.1) as (λ _. Goes text d true n t) [
    | inl h ↦ never _ t h.1
    | inr h ↦ never _ t h.1
  ]
]

key_goes : (text : List ℕ) (d : Drafted) (p : Position) (n : ℕ) (h : Here) (t : Step) → key_step text d.keys (in_state p n) h ≡ Ok t
    → Goes text d true n t
key_goes text d p n x t h = elim (cases (is_space x.byte) _ _ (Ok t) h) as (λ _. Goes text d true n t) [
  | inl h ↦ known (Goes text d true n) _ t h.1 (record { fine = tt; stands = (refl, refl) })
  | inr h ↦ elim (cases (is_word x.byte) _ _ (Ok t) h.1) as (λ _. Goes text d true n t) [
    | inl h ↦ known (Goes text d true n) _ t h.1 (record { fine = tt; stands = (refl, refl) })
    | inr h ↦ elim (cases (x.byte == closing) _ _ (Ok t) h.1) as (λ _. Goes text d true n t) [
      | inl h ↦ close_goes text d p n x.at t h.1
      | inr h ↦ elim (cases (x.byte == equals && is_some x.counted) _ _ (Ok t) h.1) as (λ _. Goes text d true n t) [
        | inl h ↦ known (Goes text d true n) _ t h.1 (record { fine = tt; stands = (refl, refl) })
        | inr h ↦ never _ t h.1
      ]
    ]
  ]
]

after_key_goes : (text : List ℕ) (d : Drafted) (p : Position) (n : ℕ) (w : Word) (h : Here) (t : Step)
    → is_key (is_some (counted_at n d.choices)) (word_in text w) ≡ true → after_key text d.keys (in_state p n) w h ≡ Ok t → Goes text d true n t
after_key_goes text d p n w x t key h = elim (cases (has_key text n w d.keys) _ _ (Ok t) h) as (λ _. Goes text d true n t) [
  | inl h ↦ never _ t h.1
  | inr f ↦ elim (cases (x.byte == opening) _ _ (Ok t) f.1) as (λ _. Goes text d true n t) [
    | inl h ↦ known (Goes text d true n) _ t h.1 (record {
      fine = tt;
      stands = λ rest r. (
        ap (λ c. is_key c (word_in text w)) (sym (some_said text n d.choices)) ∙ key,
        sym (keys_said text n w d.keys) ∙ f.0,
        subst (λ l. IsNormalFrom false n l (said_choices text d.choices) rest) (key_added text d.keys (record { level = n; word = w })) r,
      );
    })
    | inr h ↦ elim (cases (is_space x.byte) _ _ (Ok t) h.1) as (λ _. Goes text d true n t) [
      | inl h ↦ known (Goes text d true n) _ t h.1 (record { fine = key; stands = (refl, refl) })
      | inr h ↦ never _ t h.1
    ]
  ]
]

key_read_goes : (text : List ℕ) (d : Drafted) (p : Position) (n at b from fault : ℕ) (bs : List ℕ) (t : Step)
    → key_read text d.keys (in_state p n) from fault (here (in_state p n) d at b bs) ≡ Ok t → Goes text d true n t
key_read_goes text d p n at b from fault bs t h =
    elim (cases (is_key (is_some (counted_at n d.choices)) (word_in text (record { start = from; end = at }))) _ _ (Ok t) h) as (λ _. Goes text d true n t) [
      | inl h ↦ after_key_goes text d p n (record { start = from; end = at }) (here (in_state p n) d at b bs) t h.0 h.1
      | inr h ↦ never _ t h.1
    ]

-- ---- each position

step_goes : (text : List ℕ) (d : Drafted) (p : Position) (n at b : ℕ) (bs : List ℕ) (t : Step) → Fine text d n p
    → step_in text d.keys d.choices (in_state p n) p (here (in_state p n) d at b bs) ≡ Ok t → Goes text d (between p) n t
step_goes text d Text n at b bs t f h = text_goes text d n at b bs t h
step_goes text d Doubled n at b bs t f h = known (Goes text d false n) _ t h (record { fine = tt; stands = (refl, refl) })
step_goes text d (Quoted from) n at b bs t f h =
    known (Goes text d false n) _ t h (quoted_goes text d n at from b bs _ refl)
step_goes text d (DoubledIn from) n at b bs t f h = known (Goes text d false n) _ t h (record { fine = tt; stands = (refl, refl) })
step_goes text d Opened n at b bs t f h = elim (cases (is_space b) _ _ (Ok t) h) as (λ _. Goes text d false n t) [
  | inl h ↦ known (Goes text d false n) _ t h.1 (record { fine = f; stands = (refl, refl) })
  | inr h ↦ elim (cases (is_word b) _ _ (Ok t) h.1) as (λ _. Goes text d false n t) [
    | inl h ↦ known (Goes text d false n) _ t h.1 (record { fine = f; stands = (refl, refl) })
    | inr h ↦ never _ t h.1
  ]
]
step_goes text d (InName from) n at b bs t f h = elim (cases (is_word b) _ _ (Ok t) h) as (λ _. Goes text d false n t) [
  | inl h ↦ known (Goes text d false n) _ t h.1 (record { fine = f; stands = (refl, refl) })
  | inr h ↦ elim (cases (is_name (word_in text (record { start = from; end = at }))) _ _ (Ok t) h.1) as (λ _. Goes text d false n t) [
    | inl h ↦ after_name_goes text d (InName from) n (record { start = from; end = at }) (here (in_state (InName from) n) d at b bs) t f h.0 h.1
    | inr h ↦ never _ t h.1
  ]
]
step_goes text d (Named w) n at b bs t f h = after_name_goes text d (Named w) n w (here (in_state (Named w) n) d at b bs) t f.0 f.1 h
step_goes text d (KindDue w) n at b bs t f h = elim (cases (is_space b) _ _ (Ok t) h) as (λ _. Goes text d false n t) [
  | inl h ↦ known (Goes text d false n) _ t h.1 (record { fine = f; stands = (refl, refl) })
  | inr h ↦ elim (cases (is_word b) _ _ (Ok t) h.1) as (λ _. Goes text d false n t) [
    | inl h ↦ known (Goes text d false n) _ t h.1 (record { fine = f; stands = (refl, refl) })
    | inr h ↦ never _ t h.1
  ]
]
step_goes text d (InKind w from) n at b bs t f h = elim (cases (is_word b) _ _ (Ok t) h) as (λ _. Goes text d false n t) [
  | inl h ↦ known (Goes text d false n) _ t h.1 (record { fine = f; stands = (refl, refl) })
  | inr h ↦ elim (cases (is_number_kind (word_in text (record { start = from; end = at }))) _ _ (Ok t) h.1) as (λ _. Goes text d false n t) [
    | inl h ↦ number_read_goes text d (InKind w from) n w from (here (in_state (InKind w from) n) d at b bs) t f.0 f.1 h.1
    | inr h ↦ kind_read_goes text d (InKind w from) n w from (here (in_state (InKind w from) n) d at b bs)
        (kind_of (word_in text (record { start = from; end = at }))) t f.0 f.1 h.1
  ]
]
step_goes text d (AfterKind k w) n at b bs t f h = behind_kind_goes text d (AfterKind k w) n k w (here (in_state (AfterKind k w) n) d at b bs) t f.0 f.1 f.2 h
step_goes text d (AfterNumber w) n at b bs t f h =
    number_goes text d (AfterNumber w) n w (here (in_state (AfterNumber w) n) d at b bs) t f.0 f.1 f.2 h
step_goes text d (StyleDue w) n at b bs t f h = elim (cases (is_space b) _ _ (Ok t) h) as (λ _. Goes text d false n t) [
  | inl h ↦ known (Goes text d false n) _ t h.1 (record { fine = f; stands = (refl, refl) })
  | inr h ↦ elim (cases (b == colon) _ _ (Ok t) h.1) as (λ _. Goes text d false n t) [
    | inl h ↦ known (Goes text d false n) _ t h.1 (record { fine = f; stands = (refl, refl) })
    | inr h ↦ never _ t h.1
  ]
]
step_goes text d (ColonDue w from) n at b bs t f h = elim (cases (b == colon) _ _ (Ok t) h) as (λ _. Goes text d false n t) [
  | inl h ↦ known (Goes text d false n) _ t h.1 (record { fine = f; stands = (refl, refl) })
  | inr h ↦ never _ t h.1
]
step_goes text d (SkeletonDue w) n at b bs t f h =
    skeleton_goes text d (SkeletonDue w) n w at (here (in_state (SkeletonDue w) n) d at b bs) t f.0 f.1 f.2 h
step_goes text d (InSkeleton w from) n at b bs t f h =
    skeleton_goes text d (InSkeleton w from) n w from (here (in_state (InSkeleton w from) n) d at b bs) t f.0 f.1 f.2 h
step_goes text d KeyDue n at b bs t f h = key_goes text d KeyDue n (here (in_state KeyDue n) d at b bs) t h
step_goes text d (InKey from) n at b bs t f h = elim (cases (is_word b) _ _ (Ok t) h) as (λ _. Goes text d true n t) [
  | inl h ↦ known (Goes text d true n) _ t h.1 (record { fine = tt; stands = (refl, refl) })
  | inr h ↦ key_read_goes text d (InKey from) n at b from from bs t h.1
]
step_goes text d (ValueDue from) n at b bs t f h = elim (cases (is_digit b) _ _ (Ok t) h) as (λ _. Goes text d true n t) [
  | inl h ↦ known (Goes text d true n) _ t h.1 (record { fine = tt; stands = (refl, refl) })
  | inr h ↦ never _ t h.1
]
step_goes text d (InValue from digit) n at b bs t f h = elim (cases (is_digit b) _ _ (Ok t) h) as (λ _. Goes text d true n t) [
  | inl h ↦ known (Goes text d true n) _ t h.1 (record { fine = tt; stands = (refl, refl) })
  | inr h ↦ key_read_goes text d (InValue from digit) n at b from digit bs t h.1
]
step_goes text d (AfterKey w) n at b bs t f h = after_key_goes text d (AfterKey w) n w (here (in_state (AfterKey w) n) d at b bs) t f h

-- ---- what is read so far

-- what may stand behind what is read makes a normal message
abbrev Completes : List ℕ → Bool → ℕ → Drafted → Type 0
Completes text b n d = (rest : List Said) → Follows text d b n rest → IsNormal (said_all text d.pieces ++ rest)

completes_on : (text : List ℕ) (b : Bool) (n : ℕ) (d : Drafted) (s : State) (added : Option Piece) → Completes text b n d
    → MayStand text d b n s added → Completes text (between s.position) s.level (with_added s.level added d)
completes_on text b n d s None k m rest r =
    k rest (subst (λ c. Follows text d c n rest) m.0 (subst (λ l. Follows text d (between s.position) l rest) m.1 r))
completes_on text b n d s (Some p) k m rest r =
    subst IsNormal (sym (ap (λ l. l ++ rest) (piece_added text d.pieces p) ∙ append_assoc (said_all text d.pieces) (said text p ∷ []) rest))
    (k (said text p ∷ rest) (m rest r))

no_fault : {A : Type 0} (fault : ParseError) (ps : List Piece) → ◌≡◌ {A = Result (List Piece) ParseError} (Err fault) (Ok ps) → A
no_fault fault ps h = absurd (cc)

same_pieces : (xs ps : List Piece) → ◌≡◌ {A = Result (List Piece) ParseError} (Ok xs) (Ok ps) → xs ≡ ps
same_pieces xs ps h = cc

-- at the end
end_normal : (text : List ℕ) (p : Position) (n at : ℕ) (d : Drafted) (ps : List Piece) → Completes text (between p) n d
    → ended (fault_of_end text (in_state p n) d at) d ≡ Ok ps → IsNormal (said_all text ps)
end_normal text Text zero at d ps k h =
    subst (λ l. IsNormal (said_all text l)) (same_pieces d.pieces ps h) (subst IsNormal (append-nil (said_all text d.pieces)) (k [] refl))
end_normal text Text (suc n) at d ps k h = no_fault _ ps h
end_normal text Doubled n at d ps k h = no_fault _ ps h
end_normal text (Quoted from) n at d ps k h = no_fault _ ps h
end_normal text (DoubledIn from) n at d ps k h = no_fault _ ps h
end_normal text Opened n at d ps k h = no_fault _ ps h
end_normal text (InName from) n at d ps k h = no_fault _ ps h
end_normal text (Named w) n at d ps k h = no_fault _ ps h
end_normal text (KindDue w) n at d ps k h = no_fault _ ps h
end_normal text (InKind w from) n at d ps k h = no_fault _ ps h
end_normal text (AfterKind c w) n at d ps k h = no_fault _ ps h
end_normal text (AfterNumber w) n at d ps k h = no_fault _ ps h
end_normal text (StyleDue w) n at d ps k h = no_fault _ ps h
end_normal text (ColonDue w from) n at d ps k h = no_fault _ ps h
end_normal text (SkeletonDue w) n at d ps k h = no_fault _ ps h
end_normal text (InSkeleton w from) n at d ps k h = no_fault _ ps h
end_normal text KeyDue n at d ps k h = no_fault _ ps h
end_normal text (InKey from) n at d ps k h = no_fault _ ps h
end_normal text (ValueDue from) n at d ps k h = no_fault _ ps h
end_normal text (InValue from digit) n at d ps k h = no_fault _ ps h
end_normal text (AfterKey w) n at d ps k h = no_fault _ ps h

step_result : (r : Result Step ParseError) → ((t : Step) × (r ≡ Ok t)) ⊎ ((fault : ParseError) × (r ≡ Err fault))
step_result (Ok t) = inl (t, refl)
step_result (Err fault) = inr (fault, refl)

read_normal : (text : List ℕ) (s : State) (d : Drafted) (at : ℕ) (bs : List ℕ) (ps : List Piece) → Fine text d s.level s.position
    → Completes text (between s.position) s.level d → reading_from text s d at bs ≡ Ok ps → IsNormal (said_all text ps)
read_normal text s d at [] ps f k h = end_normal text s.position s.level at d ps k (sym (at_end text s d at) ∙ h)
read_normal text s d at (b ∷ bs) ps f k h = elim (step_result (step text d.keys d.choices s (here s d at b bs))) as (λ _. IsNormal (said_all text ps)) [
  | inl x ↦
      let goes : Goes text d (between s.position) s.level x.0 = step_goes text d s.position s.level at b bs x.0 f x.1 in
      read_normal text x.0.state (with_step x.0 d) (at + 1) bs ps goes.fine
      (completes_on text (between s.position) s.level d x.0.state x.0.added k goes.stands)
      (sym (byte_is_read text s d at b bs (Ok x.0) x.1) ∙ h)
  | inr x ↦ no_fault x.0 ps (sym (byte_is_read text s d at b bs (Err x.0) x.1) ∙ h)
]

said_normal : (text : List ℕ) (r : Result (List Piece) ParseError) (ms : List Said) → r ≡ pieces_of text → said_by text r ≡ Ok ms → IsNormal ms
said_normal text (Ok ps) ms e h = elim (cases (nat_le (length text) longest) _ _ (Ok ps) (sym e)) as (λ _. IsNormal ms) [
  | inl x ↦
      let is : said_all text ps ≡ ms = cc in
      subst IsNormal is (read_normal text start empty_draft 0 text ps tt (λ rest r. r) x.1)
  | inr x ↦ no_fault _ ps x.1
]
said_normal text (Err fault) ms e h = absurd (cc)

-- the pieces of a text that is read say a normal message
pub pieces_are_normal : (text : List ℕ) (ps : List Piece) → pieces_of text ≡ Ok ps → IsNormal (said_all text ps)
pieces_are_normal text ps h = said_normal text (Ok ps) (said_all text ps) (sym h) refl

pub read-is-normal : ReadIsNormal
read-is-normal text ms h = said_normal text (pieces_of text) ms refl h
