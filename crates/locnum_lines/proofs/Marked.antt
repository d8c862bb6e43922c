-- An input and its byte order mark.
use Rattle.std.proofs.Common.{◌≡◌, ℕ, ◌≤◌, Bool, true, false, List, [], ◌∷◌, ◌++◌, length, take, drop, Option, Some, None}
use Rattle.std.proofs.Common.{◌⊎◌, inl, inr}
use Rattle.std.proofs.Common.{refl, sym, ap, ◌∙◌, append_assoc, arith}
use Rattle.std.specs.Prelude.{IfSome, nat_le, if◌then◌else◌}
use Rattle.std.proofs.lemmas.Bool.Decides.{nat_tests}
use Rattle.std.specs.Io.KnownBytes.{Appends, Consumes, IsAtEnd, prepend_known}
use Rattle.std.proofs.Math.Nat.{zero-max}
use Rattle.std.proofs.lemmas.List.{append-nil, drop-append-le, take-append-le}
use Rattle.decimal_lines.specs.Written.{AppendsBeginning, AppendsProperBeginning}
use Rattle.decimal_lines.proofs.Known.{Appends-then, AppendsBeginning-more, AppendsBeginning-nothing, AppendsBeginning-then}
use Rattle.number_forms.specs.Forms.{FormData}
use Rattle.locnum_lines.specs.Front.{is_marked, mark_length}
use Rattle.locnum_lines.specs.Ran.{Ran, joined_runs, writes}
use Rattle.locnum_lines.specs.RecordRuns.{behind_mark, input_ran, rest_ran}
use Rattle.locnum_lines.specs.Reported.{Begins, Ends, ReportData}
use Rattle.locnum_lines.specs.Settings.{SettingsData}
use Rattle.locnum_lines.specs.declared.settings.Source.{Source}
use Rattle.locnum_lines.specs.declared.settings.Source.TheVariants.{Lines, Word}

-- a mark is within the bytes
pub mark_length-within : (source : Source) (bytes : List ℕ) → mark_length source bytes ≤ length bytes
mark_length-within (Word number) bytes = omega arith
mark_length-within Lines [] = omega arith
mark_length-within Lines (a ∷ []) = omega arith
mark_length-within Lines (a ∷ b ∷ []) = omega arith
mark_length-within Lines (a ∷ b ∷ c ∷ rest) = go (is_marked (a ∷ b ∷ c ∷ rest))
  where
    go : (t : Bool) → (if t then 3 else 0) ≤ length (a ∷ b ∷ c ∷ rest)
    go true = omega arith
    go false = omega arith

-- three bytes say whether there is one, and so does a whole input
pub mark_length-front : (source : Source) (front rest : List ℕ) → (length front ≡ 3) ⊎ (rest ≡ []) →
    mark_length source (front ++ rest) ≡ mark_length source front
mark_length-front source front rest (inr e) = ap (λ (k : List ℕ). mark_length source (front ++ k)) e ∙ ap (mark_length source) (append-nil front)
mark_length-front (Word number) front rest (inl e) = refl
mark_length-front Lines [] rest (inl e) = absurd (omega (arith, e))
mark_length-front Lines (a ∷ []) rest (inl e) = absurd (omega (arith, e))
mark_length-front Lines (a ∷ b ∷ []) rest (inl e) = absurd (omega (arith, e))
mark_length-front Lines (a ∷ b ∷ c ∷ []) rest (inl e) =
    let enough : nat_le 3 (length (a ∷ b ∷ c ∷ rest)) ≡ true = grind (arith, nat_tests) in rw enough refl
mark_length-front Lines (a ∷ b ∷ c ∷ d ∷ more) rest (inl e) = absurd (omega (arith, e))

module _ (settings : SettingsData) (form : FormData) (front : List ℕ) (rest : List ℕ) (enough : (length front ≡ 3) ⊎ (rest ≡ [])) where
  abbrev n : ℕ
  n = mark_length settings.source front

  -- what an input writes by its first bytes
  pub input-marked : input_ran settings form (front ++ rest) ≡ joined_runs (writes (take n front)) (rest_ran settings form (drop n front ++ rest))
  unfolding input_ran
  input-marked =
      let within : n ≤ length front = mark_length-within settings.source front in
      ap (λ k. behind_mark settings form k (front ++ rest)) (mark_length-front settings.source front rest enough)
      ∙ rw (take-append-le n front rest within, drop-append-le n front rest within) refl

-- bytes were written, and what comes behind them
pub ends-behind : (ran : Ran) (mark : List ℕ) (w w1 w2 n n2 : Option (List ℕ)) (report : ReportData) (left : Option (List ℕ)) →
    Appends w w1 mark → Ends ran w1 w2 n n2 report left → Ends (joined_runs (writes mark) ran) w w2 n n2 report left
ends-behind ran mark w w1 w2 n n2 report left p e = record {
  written = Appends-then w w1 w2 mark ran.output p e.written;
  reported = e.reported;
  is_refused = e.is_refused;
  is_stopped = e.is_stopped;
  most_fields = e.most_fields ∙ sym (zero-max ran.most_fields);
  holding = e.holding;
  all_read = e.all_read;
}

-- or a beginning of that
begins-behind : (ran : Ran) (mark : List ℕ) (w w1 w2 n n2 : Option (List ℕ)) → Appends w w1 mark → Begins ran w1 w2 n n2 →
    Begins (joined_runs (writes mark) ran) w w2 n n2
begins-behind ran mark w w1 w2 n n2 p b =
    record { written = AppendsBeginning-then w w1 w2 mark ran.output p b.written; reported = b.reported }

-- a beginning of the bytes
begins-within : (ran : Ran) (mark : List ℕ) (w w1 n : Option (List ℕ)) → AppendsBeginning w w1 mark → Begins (joined_runs (writes mark) ran) w w1 n n
begins-within ran mark w w1 n b =
    record { written = AppendsBeginning-more w w1 mark ran.output b; reported = AppendsBeginning-nothing n ran.notes }

-- a proper beginning is a beginning
pub any_beginning : (w w1 : Option (List ℕ)) (whole : List ℕ) → AppendsProperBeginning w w1 whole → AppendsBeginning w w1 whole
any_beginning w w1 whole (front, p, (rest, e, some)) = (front, p, (rest, e))

-- bytes in front of no others
pub prepend-nothing : (known : Option (List ℕ)) → prepend_known [] known ≡ known
prepend-nothing None = refl
prepend-nothing (Some bytes) = refl

-- bytes in front of others are consumed part by part
pub prepend-consumes : (known : Option (List ℕ)) (rest part rest' : List ℕ) → rest ≡ part ++ rest' →
    Consumes (prepend_known rest known) (prepend_known rest' known) part
prepend-consumes None rest part rest' e = tt
prepend-consumes (Some bytes) rest part rest' e = ap (λ (k : List ℕ). k ++ bytes) e ∙ append_assoc part rest' bytes

-- where nothing is left of both, nothing is of either
pub prepend-end : (rest : List ℕ) (known : Option (List ℕ)) → rest ≡ [] → IsAtEnd known → IsAtEnd (prepend_known rest known)
prepend-end rest None e f = tt
prepend-end rest (Some bytes) e f = rw (e, f) refl

module _ (settings : SettingsData) (form : FormData) (front : List ℕ) where
  abbrev marked : ℕ
  marked = mark_length settings.source front

  module _ (r r1 : Option (List ℕ)) (w w1 w2 n n2 : Option (List ℕ)) where
    -- all of an input was run behind its first bytes
    pub ends-marked : (report : ReportData) (left left' : Option (List ℕ)) → Consumes r r1 front → (length front ≡ 3) ⊎ IsAtEnd r1 →
        Appends w w1 (take marked front) → (left' ≡ Some [] → left ≡ Some []) →
        IfSome (prepend_known (drop marked front) r1) (λ input. Ends (rest_ran settings form input) w1 w2 n n2 report left') →
        IfSome r (λ input. Ends (input_ran settings form input) w w2 n n2 report left)
    ends-marked report left left' consumed enough p all f = go r r1 consumed enough f
      where
        go : (r r1 : Option (List ℕ)) → Consumes r r1 front → (length front ≡ 3) ⊎ IsAtEnd r1 →
            IfSome (prepend_known (drop marked front) r1) (λ input. Ends (rest_ran settings form input) w1 w2 n n2 report left') →
            IfSome r (λ input. Ends (input_ran settings form input) w w2 n n2 report left)
        go None r1 c e f = tt
        go (Some input) None c e f = absurd c
        go (Some input) (Some rest) c e f =
            let ran : Ran = rest_ran settings form (drop marked front ++ rest) in
            let moved : Ends ran w1 w2 n n2 report left = record {
              written = f.written;
              reported = f.reported;
              is_refused = f.is_refused;
              is_stopped = f.is_stopped;
              most_fields = f.most_fields;
              holding = f.holding;
              all_read = λ on. all (f.all_read on);
            } in
            rw (c, input-marked settings form front rest e)
            (ends-behind ran (take marked front) w w1 w2 n n2 report left p moved)

    -- or a beginning of it was
    pub begins-marked : Consumes r r1 front → (length front ≡ 3) ⊎ IsAtEnd r1 → Appends w w1 (take marked front) →
        IfSome (prepend_known (drop marked front) r1) (λ input. Begins (rest_ran settings form input) w1 w2 n n2) →
        IfSome r (λ input. Begins (input_ran settings form input) w w2 n n2)
    begins-marked consumed enough p f = go r r1 consumed enough f
      where
        go : (r r1 : Option (List ℕ)) → Consumes r r1 front → (length front ≡ 3) ⊎ IsAtEnd r1 →
            IfSome (prepend_known (drop marked front) r1) (λ input. Begins (rest_ran settings form input) w1 w2 n n2) →
            IfSome r (λ input. Begins (input_ran settings form input) w w2 n n2)
        go None r1 c e f = tt
        go (Some input) None c e f = absurd c
        go (Some input) (Some rest) c e f =
            rw (c, input-marked settings form front rest e)
            (begins-behind (rest_ran settings form (drop marked front ++ rest)) (take marked front) w w1 w2 n n2 p f)

    -- or a beginning of the mark alone
    pub begins-in_mark : Consumes r r1 front → (length front ≡ 3) ⊎ IsAtEnd r1 → AppendsBeginning w w1 (take marked front) →
        IfSome r (λ input. Begins (input_ran settings form input) w w1 n n)
    begins-in_mark consumed enough p = go r r1 consumed enough
      where
        go : (r r1 : Option (List ℕ)) → Consumes r r1 front → (length front ≡ 3) ⊎ IsAtEnd r1 →
            IfSome r (λ input. Begins (input_ran settings form input) w w1 n n)
        go None r1 c e = tt
        go (Some input) None c e = absurd c
        go (Some input) (Some rest) c e =
            rw (c, input-marked settings form front rest e)
            (begins-within (rest_ran settings form (drop marked front ++ rest)) (take marked front) w w1 n p)

-- nothing was written
pub begins-unwritten : (settings : SettingsData) (form : FormData) (r w n : Option (List ℕ)) →
    IfSome r (λ input. Begins (input_ran settings form input) w w n n)
begins-unwritten settings form None w n = tt
begins-unwritten settings form (Some input) w n =
    record {
      written = AppendsBeginning-nothing w (input_ran settings form input).output;
      reported = AppendsBeginning-nothing n (input_ran settings form input).notes;
    }
