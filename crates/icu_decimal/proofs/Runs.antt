-- A text of runs of digits between texts without one is read in one way.
-- Induction on the first run: where two equal texts begin with characters of one kind and go on with the other kind, the runs are equal,
-- and so are the rests (`split_run`). So a number's text is read from the left: what stands before, the groups, the decimal separator with
-- the fraction, what stands after. Groups are compared two by two; where one list ends first, its decimal separator would be the other's
-- grouping separator, or a digit would stand behind the number (`no_group`). An empty grouping separator is a case of its own, in which
-- all groups are one run (`integer_tells`).
-- Lengths don't help: nothing is known of how long separators are, nor that both numbers have equally many groups.
use Rattle.std.proofs.Common.{◌≡◌, ◌≢◌, ℕ, suc, arith, refl, sym, ap, ap₂, ◌∙◌, subst, List, [], ◌∷◌, ◌++◌, append_assoc, All}
use Rattle.std.proofs.Common.{map}
use Rattle.std.proofs.lemmas.List.{map-append}
use Rattle.icu_decimal_options.specs.Grouping.{concatenated, joined, joined_after}

-- a separator and digits, and nothing where there is none
abbrev pub fraction_text : List ℕ → List ℕ → List ℕ
fraction_text separator [] = []
fraction_text separator (c ∷ cs) = separator ++ c ∷ cs

-- P of each character, by recursion
abbrev pub Every : (ℕ → Type 0) → List ℕ → Type 0
Every P [] = Unit {0}
Every P (x ∷ xs) = P x × Every P xs

-- what holds of all holds of every one
pub every_of_all : (P : ℕ → Type 0) (xs : List ℕ) → All P xs → Every P xs
every_of_all P [] h = tt
every_of_all P (x ∷ xs) h = (h 0 x (omega arith), every_of_all P xs (λ k d l. h (suc k) d (omega arith)))

-- what holds of two lists holds of both joined
pub every-append : (P : ℕ → Type 0) (xs ys : List ℕ) → Every P xs → Every P ys → Every P (xs ++ ys)
every-append P [] ys h k = k
every-append P (x ∷ xs) ys h k = (h.0, every-append P xs ys h.1 k)

-- what holds of joined lists holds of the first
pub every_before : (P : ℕ → Type 0) (xs ys : List ℕ) → Every P (xs ++ ys) → Every P xs
every_before P [] ys h = tt
every_before P (x ∷ xs) ys h = (h.0, every_before P xs ys h.1)

-- what holds of joined lists holds of the second
pub every_after : (P : ℕ → Type 0) (xs ys : List ℕ) → Every P (xs ++ ys) → Every P ys
every_after P [] ys h = h
every_after P (x ∷ xs) ys h = every_after P xs ys h.1

-- P of the first character, if there is one
abbrev pub Begins : (ℕ → Type 0) → List ℕ → Type 0
Begins P [] = Unit {0}
Begins P (x ∷ xs) = P x

-- what holds of every character holds of the first
pub begins_every : (P : ℕ → Type 0) (xs : List ℕ) → Every P xs → Begins P xs
begins_every P [] h = tt
begins_every P (x ∷ xs) h = h.0

-- where a text is a run of characters of one kind, and then ends or goes on with one of another kind,
-- the run and the rest are determined
pub split_run : (P Q : ℕ → Type 0) → ((c : ℕ) → P c → Q c → ⊥) → (xs ys us vs : List ℕ) → Every P xs → Every P ys → Begins Q us →
    Begins Q vs → xs ++ us ≡ ys ++ vs → (xs ≡ ys) × (us ≡ vs)
split_run P Q clash [] [] us vs hx hy hu hv e = (refl, e)
split_run P Q clash [] (y ∷ ys) [] vs hx hy hu hv e = cc
split_run P Q clash [] (y ∷ ys) (u ∷ us) vs hx hy hu hv e = let same : u ≡ y = cc in absurd (clash y hy.0 (subst Q same hu))
split_run P Q clash (x ∷ xs) [] us [] hx hy hu hv e = cc
split_run P Q clash (x ∷ xs) [] us (v ∷ vs) hx hy hu hv e = let same : v ≡ x = cc in absurd (clash x hx.0 (subst Q same hv))
split_run P Q clash (x ∷ xs) (y ∷ ys) us vs hx hy hu hv e =
    let heads : x ≡ y = cc in
    let tails : xs ++ us ≡ ys ++ vs = cc in
    let rest = split_run P Q clash xs ys us vs hx.1 hy.1 hu hv tails in
    (ap₂ ◌∷◌ heads rest.0, rest.1)

-- groups with a character each, all of them P
abbrev pub Runs : (ℕ → Type 0) → List (List ℕ) → Type 0
Runs P [] = Unit {0}
Runs P ([] ∷ gs) = ⊥
Runs P ((x ∷ g) ∷ gs) = P x × Every P g × Runs P gs

-- without a separator the groups stand together
pub joined_after-nothing : (gs : List (List ℕ)) → joined_after [] gs ≡ concatenated gs
joined_after-nothing [] = refl
joined_after-nothing (g ∷ gs) = ap (λ l. g ++ l) (joined_after-nothing gs)

-- so do groups that are joined by an empty separator
pub joined-nothing : (gs : List (List ℕ)) → joined [] gs ≡ concatenated gs
joined-nothing [] = refl
joined-nothing (g ∷ gs) = ap (λ l. g ++ l) (joined_after-nothing gs)

-- what holds of each group's characters holds of those of all groups together
pub every_concatenated : (P : ℕ → Type 0) (gs : List (List ℕ)) → Runs P gs → Every P (concatenated gs)
every_concatenated P [] h = tt
every_concatenated P ([] ∷ gs) h = absurd h
every_concatenated P ((x ∷ g) ∷ gs) h = (h.0, every-append P g (concatenated gs) h.1 (every_concatenated P gs h.2))

-- what holds of every value holds of what each becomes
pub every_map : (P Q : ℕ → Type 0) (f : ℕ → ℕ) → ((c : ℕ) → P c → Q (f c)) → (xs : List ℕ) → Every P xs → Every Q (map f xs)
every_map P Q f each [] h = tt
every_map P Q f each (x ∷ xs) h = (each x h.0, every_map P Q f each xs h.1)

-- runs of values become runs of what each becomes
pub runs_map : (P Q : ℕ → Type 0) (f : ℕ → ℕ) → ((c : ℕ) → P c → Q (f c)) → (gs : List (List ℕ)) → Runs P gs →
    Runs Q (map (λ g. map f g) gs)
runs_map P Q f each [] h = tt
runs_map P Q f each ([] ∷ gs) h = absurd h
runs_map P Q f each ((x ∷ g) ∷ gs) h = (each x h.0, every_map P Q f each g h.1, runs_map P Q f each gs h.2)

-- joined runs, each value changed, are the changed runs joined
pub concatenated-map : (f : ℕ → ℕ) (gs : List (List ℕ)) → concatenated (map (λ g. map f g) gs) ≡ map f (concatenated gs)
concatenated-map f [] = refl
concatenated-map f (g ∷ gs) = ap (λ l. map f g ++ l) (concatenated-map f gs) ∙ sym (map-append f g (concatenated gs))

-- D: a digit; N: any other character
module _ (D N : ℕ → Type 0) (clash : (c : ℕ) → D c → N c → ⊥) (decimal : List ℕ) (decimal_none : Every N decimal)
    (decimal_some : decimal ≢ []) where
  -- two texts that begin with digits and go on with another character have the same digits and the same rest
  split_digits : (xs ys us vs : List ℕ) → Every D xs → Every D ys → Begins N us → Begins N vs → xs ++ us ≡ ys ++ vs → (xs ≡ ys) × (us ≡ vs)
  split_digits xs ys us vs hx hy hu hv e = split_run D N clash xs ys us vs hx hy hu hv e

  -- and so it is of two that begin with other characters and go on with a digit
  pub split_others : (xs ys us vs : List ℕ) → Every N xs → Every N ys → Begins D us → Begins D vs → xs ++ us ≡ ys ++ vs →
      (xs ≡ ys) × (us ≡ vs)
  split_others xs ys us vs hx hy hu hv e = split_run N D (λ c n d. clash c d n) xs ys us vs hx hy hu hv e

  -- what follows the digits at power 0 and above
  abbrev pub ending : List ℕ → List ℕ → List ℕ
  ending fs u = fraction_text decimal fs ++ u

  -- what follows begins with no digit
  ending_begins : (fs u : List ℕ) → Every N u → Begins N (ending fs u)
  ending_begins [] u hu = begins_every N u hu
  ending_begins (x ∷ fs) u hu = go decimal decimal_none decimal_some
    where
      go : (ds : List ℕ) → Every N ds → ds ≢ [] → Begins N ((ds ++ (x ∷ fs)) ++ u)
      go [] h some = absurd (some refl)
      go (d ∷ ds) h some = h.0

  -- a text of other characters has no digit after it
  no_digit_after : (us ds : List ℕ) (x : ℕ) (ws : List ℕ) → Every N us → Every N ds → D x → us ≡ ds ++ (x ∷ ws) → ⊥
  no_digit_after us ds x ws hu hd hx e = clash x hx (every_after N ds (x ∷ ws) (subst (Every N) e hu)).0

  -- the ending determines the fraction and what stands after the number
  pub ending_tells : (fs gs u v : List ℕ) → Every D fs → Every D gs → Every N u → Every N v → ending fs u ≡ ending gs v →
      (fs ≡ gs) × (u ≡ v)
  ending_tells [] [] u v hf hg hu hv e = (refl, e)
  ending_tells [] (y ∷ gs) u v hf hg hu hv e = absurd (no_digit_after u decimal y (gs ++ v) hu decimal_none hg.0 (e ∙ append_assoc decimal (y ∷ gs) v))
  ending_tells (x ∷ fs) [] u v hf hg hu hv e = absurd (no_digit_after v decimal x (fs ++ u) hv decimal_none hf.0
      (sym e ∙ append_assoc decimal (x ∷ fs) u))
  ending_tells (x ∷ fs) (y ∷ gs) u v hf hg hu hv e =
      let after = split_others decimal decimal (x ∷ (fs ++ u)) (y ∷ (gs ++ v)) decimal_none decimal_none hf.0 hg.0
      (sym (append_assoc decimal (x ∷ fs) u) ∙ e ∙ append_assoc decimal (y ∷ gs) v) in
      split_digits (x ∷ fs) (y ∷ gs) u v hf hg (begins_every N u hu) (begins_every N v hv) after.1

  module _ (s : ℕ) (group : List ℕ) (group_none : Every N (s ∷ group)) (differ : decimal ≢ s ∷ group) where
    -- an ending is no group after a separator
    no_group : (fs u g : List ℕ) (x : ℕ) (ws : List ℕ) → Every D fs → Every N u → D x → ending fs u ≡ (s ∷ group) ++ (x ∷ ws) → ⊥
    no_group [] u g x ws hf hu hx e = no_digit_after u (s ∷ group) x ws hu group_none hx e
    no_group (y ∷ fs) u g x ws hf hu hx e =
        differ (split_others decimal (s ∷ group) (y ∷ (fs ++ u)) (x ∷ ws) decimal_none group_none hf.0 hx
        (sym (append_assoc decimal (y ∷ fs) u) ∙ e)).0

    -- nor do groups behind a separator, with what follows them
    after_begins : (gs : List (List ℕ)) (fs u : List ℕ) → Every N u → Begins N (joined_after (s ∷ group) gs ++ ending fs u)
    after_begins [] fs u hu = ending_begins fs u hu
    after_begins (g ∷ gs) fs u hu = group_none.0

    -- groups behind separators determine their digits and what follows them
    pub after_tells : (gs hs : List (List ℕ)) (fs ks u v : List ℕ) → Runs D gs → Runs D hs → Every D fs → Every D ks → Every N u → Every N v
        → joined_after (s ∷ group) gs ++ ending fs u ≡ joined_after (s ∷ group) hs ++ ending ks v →
        (concatenated gs ≡ concatenated hs) × (ending fs u ≡ ending ks v)
    after_tells [] [] fs ks u v hg hh hf hk hu hv e = (refl, e)
    after_tells ([] ∷ gs) hs fs ks u v hg hh hf hk hu hv e = absurd hg
    after_tells gs ([] ∷ hs) fs ks u v hg hh hf hk hu hv e = absurd hh
    after_tells [] ((y ∷ h) ∷ hs) fs ks u v hg hh hf hk hu hv e =
        absurd (no_group fs u h y ((h ++ joined_after (s ∷ group) hs) ++ ending ks v) hf hu hh.0
        (e ∙ append_assoc (s ∷ group) (y ∷ (h ++ joined_after (s ∷ group) hs)) (ending ks v)))
    after_tells ((x ∷ g) ∷ gs) [] fs ks u v hg hh hf hk hu hv e =
        absurd (no_group ks v g x ((g ++ joined_after (s ∷ group) gs) ++ ending fs u) hk hv hg.0
        (sym e ∙ append_assoc (s ∷ group) (x ∷ (g ++ joined_after (s ∷ group) gs)) (ending fs u)))
    after_tells ((x ∷ g) ∷ gs) ((y ∷ h) ∷ hs) fs ks u v hg hh hf hk hu hv e =
        let opened = split_others (s ∷ group) (s ∷ group) ((x ∷ (g ++ joined_after (s ∷ group) gs)) ++ ending fs u)
        ((y ∷ (h ++ joined_after (s ∷ group) hs)) ++ ending ks v) group_none group_none hg.0 hh.0
        (sym (append_assoc (s ∷ group) (x ∷ (g ++ joined_after (s ∷ group) gs)) (ending fs u)) ∙ e
        ∙ append_assoc (s ∷ group) (y ∷ (h ++ joined_after (s ∷ group) hs)) (ending ks v)) in
        let first = split_digits (x ∷ g) (y ∷ h) (joined_after (s ∷ group) gs ++ ending fs u) (joined_after (s ∷ group) hs ++ ending ks v) (hg.0, hg.1)
        (hh.0, hh.1) (after_begins gs fs u hu) (after_begins hs ks v hv)
        (sym (append_assoc (x ∷ g) (joined_after (s ∷ group) gs) (ending fs u)) ∙ opened.1
        ∙ append_assoc (y ∷ h) (joined_after (s ∷ group) hs) (ending ks v)) in
        let rest = after_tells gs hs fs ks u v hg.2 hh.2 hf hk hu hv first.1 in
        (ap₂ ◌++◌ first.0 rest.0, rest.1)

    -- and so do groups of which the first has no separator before it
    pub joined_tells : (gs hs : List (List ℕ)) (fs ks u v : List ℕ) → Runs D gs → Runs D hs → gs ≢ [] → hs ≢ [] → Every D fs →
        Every D ks → Every N u → Every N v
        → joined (s ∷ group) gs ++ ending fs u ≡ joined (s ∷ group) hs ++ ending ks v →
        (concatenated gs ≡ concatenated hs) × (ending fs u ≡ ending ks v)
    joined_tells [] hs fs ks u v hg hh gsome hsome hf hk hu hv e = absurd (gsome refl)
    joined_tells gs [] fs ks u v hg hh gsome hsome hf hk hu hv e = absurd (hsome refl)
    joined_tells (g ∷ gs) (h ∷ hs) fs ks u v hg hh gsome hsome hf hk hu hv e =
        after_tells (g ∷ gs) (h ∷ hs) fs ks u v hg hh hf hk hu hv
        (append_assoc (s ∷ group) (joined (s ∷ group) (g ∷ gs)) (ending fs u) ∙ ap (λ l. (s ∷ group) ++ l) e
        ∙ sym (append_assoc (s ∷ group) (joined (s ∷ group) (h ∷ hs)) (ending ks v)))

  -- the same for any grouping separator, also an empty one
  pub integer_tells : (group : List ℕ) → Every N group → decimal ≢ group → (gs hs : List (List ℕ)) (fs ks u v : List ℕ) → Runs D gs →
      Runs D hs → gs ≢ [] → hs ≢ [] → Every D fs → Every D ks → Every N u → Every N v
      → joined group gs ++ ending fs u ≡ joined group hs ++ ending ks v → (concatenated gs ≡ concatenated hs) × (ending fs u ≡ ending ks v)
  integer_tells [] none differ gs hs fs ks u v hg hh gsome hsome hf hk hu hv e =
      split_digits (concatenated gs) (concatenated hs) (ending fs u) (ending ks v) (every_concatenated D gs hg) (every_concatenated D hs hh)
      (ending_begins fs u hu) (ending_begins ks v hv)
      (ap (λ l. l ++ ending fs u) (sym (joined-nothing gs)) ∙ e ∙ ap (λ l. l ++ ending ks v) (joined-nothing hs))
  integer_tells (s ∷ group) none differ gs hs fs ks u v hg hh gsome hsome hf hk hu hv e =
      joined_tells s group none differ gs hs fs ks u v hg hh gsome hsome hf hk hu hv e

  -- joined groups begin with a digit
  joined_begins : (group : List ℕ) (gs : List (List ℕ)) (ws : List ℕ) → Runs D gs → gs ≢ [] → Begins D (joined group gs ++ ws)
  joined_begins group [] ws h some = absurd (some refl)
  joined_begins group ([] ∷ gs) ws h some = absurd h
  joined_begins group ((x ∷ g) ∷ gs) ws h some = h.0

  -- a number's text between two texts without a digit determines its digits and what stands around it
  pub number_tells : (group : List ℕ) → Every N group → decimal ≢ group → (gs hs : List (List ℕ)) (fs ks p q u v : List ℕ) → Runs D gs →
      Runs D hs → gs ≢ [] → hs ≢ [] → Every D fs → Every D ks → Every N p → Every N q → Every N u → Every N v
      → p ++ ((joined group gs ++ fraction_text decimal fs) ++ u) ≡ q ++ ((joined group hs ++ fraction_text decimal ks) ++ v)
      → (p ≡ q) × (u ≡ v) × (concatenated gs ≡ concatenated hs) × (fs ≡ ks)
  number_tells group none differ gs hs fs ks p q u v hg hh gsome hsome hf hk hp hq hu hv e =
      let begun = split_others p q (joined group gs ++ ending fs u) (joined group hs ++ ending ks v) hp hq (joined_begins group gs (ending fs u) hg gsome)
      (joined_begins group hs (ending ks v) hh hsome)
      (ap (λ l. p ++ l) (sym (append_assoc (joined group gs) (fraction_text decimal fs) u)) ∙ e
      ∙ ap (λ l. q ++ l) (append_assoc (joined group hs) (fraction_text decimal ks) v)) in
      let whole = integer_tells group none differ gs hs fs ks u v hg hh gsome hsome hf hk hu hv begun.1 in
      let ended = ending_tells fs ks u v hf hk hu hv whole.1 in
      (begun.0, ended.1, whole.0, ended.0)
