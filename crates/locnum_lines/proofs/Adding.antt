-- What is gathered, part by part.
use Rattle.std.proofs.Common.{◌≡◌, ℕ, ◌+◌, ◌≤◌, Bool, true, false, List, [], ◌∷◌, ◌++◌, drop, length, refl, sym, ap, ◌∙◌}
use Rattle.std.proofs.Common.{append_assoc, arith, subst}
use Rattle.std.proofs.Math.Seq.{drop-append_seam}
use Rattle.std.specs.Prelude.{◌||◌, max}
use Rattle.std.proofs.Math.Nat.{max-zero, zero-max}
use Rattle.std.proofs.lemmas.List.{append-nil}
use Rattle.locnum_lines.specs.Gathered.{Adds, GatheredData}
use Rattle.locnum_lines.specs.Ran.{Ran, counts, first_of, joined_runs, then_runs, writes}
use Rattle.locnum_lines.specs.Stage.{Stage}

-- where nothing was there before, what is there now was added
pub only_added : (new old added : List ℕ) → new ≡ old ++ added → old ≡ [] → new ≡ added
only_added new old added e none = e ∙ ap (λ (k : List ℕ). k ++ added) none

-- where that many bytes were there before, what is behind them was added
pub behind_all : (n : ℕ) (new old added : List ℕ) → new ≡ old ++ added → n ≡ length old → drop n new ≡ added
behind_all n new old added e count = rw (e, count) (drop-append_seam old added)

-- nothing was rejected besides
pub or_false : (b : Bool) → b ≡ (b || false)
or_false true = refl
or_false false = refl

or_assoc : (a b c : Bool) → ((a || b) || c) ≡ (a || (b || c))
or_assoc true b c = refl
or_assoc false b c = refl

-- no text comes behind the first one
pub first-nil : (a : List ℕ) → first_of a [] ≡ a
first-nil [] = refl
first-nil (x ∷ xs) = refl

-- the first of three texts
pub first-assoc : (a b c : List ℕ) → first_of (first_of a b) c ≡ first_of a (first_of b c)
first-assoc [] b c = refl
first-assoc (x ∷ xs) b c = refl

-- the greatest of three numbers
pub max-assoc : (a b c : ℕ) → max (max a b) c ≡ max a (max b c)
max-assoc a b c = omega arith

-- nothing runs in front of a part
pub joined_runs-none : (r : Ran) → joined_runs (writes []) r ≡ r
joined_runs-none r = ap (λ (k : ℕ). record r { most_fields = k }) (zero-max r.most_fields)

-- bytes were written
pub Adds-writes : (old new : GatheredData) (bytes : List ℕ) → old.is_stopped ≡ false → new ≡ record old { output = old.output ++ bytes } →
    Adds old new (writes bytes) old.stage
Adds-writes old new bytes going e = record {
  output = ap (λ g. g.output) e;
  notes = ap (λ g. g.notes) e ∙ sym (append-nil old.notes);
  is_refused = ap (λ g. g.is_refused) e ∙ or_false old.is_refused;
  is_stopped = ap (λ g. g.is_stopped) e ∙ going;
  most_fields = ap (λ g. g.most_fields) e ∙ sym (max-zero old.most_fields);
  holding = ap (λ g. g.holding) e ∙ sym (first-nil old.holding);
  stage = λ on. ap (λ g. g.stage) e;
}

-- one part, which doesn't stop, and then another
pub Adds-joined_runs : (a b c : GatheredData) (r s : Ran) (n m : Stage) → Adds a b r n → r.is_stopped ≡ false → Adds b c s m →
    Adds a c (joined_runs r s) m
Adds-joined_runs a b c r s n m f going g = record {
  output = g.output ∙ ap (λ (x : List ℕ). x ++ s.output) f.output ∙ append_assoc a.output r.output s.output;
  notes = g.notes ∙ ap (λ (x : List ℕ). x ++ s.notes) f.notes ∙ append_assoc a.notes r.notes s.notes;
  is_refused = g.is_refused ∙ ap (λ (p : Bool). p || s.is_refused) f.is_refused ∙ or_assoc a.is_refused r.is_refused s.is_refused;
  is_stopped = g.is_stopped;
  most_fields = g.most_fields ∙ ap (λ (k : ℕ). max k s.most_fields) f.most_fields ∙ max-assoc a.most_fields r.most_fields s.most_fields;
  holding = g.holding ∙ ap (λ (k : List ℕ). first_of k s.holding) f.holding ∙ first-assoc a.holding r.holding s.holding;
  stage = g.stage;
}

-- two parts within a record, which leave the run where it is
pub Adds-within : (a b c : GatheredData) (r s : Ran) → Adds a b r a.stage → r.is_stopped ≡ false → Adds b c s b.stage →
    Adds a c (joined_runs r s) a.stage
Adds-within a b c r s f going g =
    let same : b.stage ≡ a.stage = f.stage (f.is_stopped ∙ going) in
    Adds-joined_runs a b c r s a.stage a.stage f going (subst (λ (k : Stage). Adds b c s k) same g)

-- behind a part that doesn't stop the next one runs
pub then_runs-on : (r s : Ran) → r.is_stopped ≡ false → then_runs r s ≡ joined_runs r s
then_runs-on r s going = rw going refl

-- and behind one that stops nothing does
pub then_runs-stopped : (r s : Ran) → r.is_stopped ≡ true → then_runs r s ≡ r
then_runs-stopped r s stops = rw stops refl

-- nothing more is added
pub Adds-nothing : (a b : GatheredData) (r : Ran) (n : Stage) → Adds a b r n → r.is_stopped ≡ false →
    Adds a b (joined_runs r (joined_runs (writes []) (writes []))) n
Adds-nothing a b r n f going = record {
  output = f.output ∙ ap (λ (k : List ℕ). a.output ++ k) (sym (append-nil r.output));
  notes = f.notes ∙ ap (λ (k : List ℕ). a.notes ++ k) (sym (append-nil r.notes));
  is_refused = f.is_refused ∙ ap (λ k. a.is_refused || k) (or_false r.is_refused);
  is_stopped = f.is_stopped ∙ going;
  most_fields = f.most_fields ∙ ap (λ k. max a.most_fields k) (sym (max-zero r.most_fields));
  holding = f.holding ∙ ap (λ (k : List ℕ). first_of a.holding k) (sym (first-nil r.holding));
  stage = f.stage;
}

-- three parts
pub joined_runs-assoc : (r s t : Ran) → joined_runs r (joined_runs s t) ≡ joined_runs (joined_runs r s) t
joined_runs-assoc r s t = rw (
  append_assoc r.output s.output t.output,
  append_assoc r.notes s.notes t.notes,
  or_assoc r.is_refused s.is_refused t.is_refused,
  max-assoc r.most_fields s.most_fields t.most_fields,
  first-assoc r.holding s.holding t.holding,
) refl

-- nothing was run yet
pub Adds-start : (g : GatheredData) → g.is_stopped ≡ false → Adds g g (writes []) g.stage
Adds-start g going = record {
  output = sym (append-nil g.output);
  notes = sym (append-nil g.notes);
  is_refused = or_false g.is_refused;
  is_stopped = going;
  most_fields = sym (max-zero g.most_fields);
  holding = sym (first-nil g.holding);
  stage = λ on. refl;
}

-- nothing runs behind a part
pub Adds-end : (a b : GatheredData) (r : Ran) (n : Stage) → Adds a b r n → Adds a b (then_runs r (writes [])) n
Adds-end a b r n f = go r.is_stopped refl
  where
    go : (t : Bool) → r.is_stopped ≡ t → Adds a b (then_runs r (writes [])) n
    go true e = rw (then_runs-stopped r (writes []) e) f
    go false e = rw (then_runs-on r (writes []) e) (record {
      output = f.output ∙ ap (λ (k : List ℕ). a.output ++ k) (sym (append-nil r.output));
      notes = f.notes ∙ ap (λ (k : List ℕ). a.notes ++ k) (sym (append-nil r.notes));
      is_refused = f.is_refused ∙ ap (λ k. a.is_refused || k) (or_false r.is_refused);
      is_stopped = f.is_stopped ∙ e;
      most_fields = f.most_fields ∙ ap (λ k. max a.most_fields k) (sym (max-zero r.most_fields));
      holding = f.holding ∙ ap (λ (k : List ℕ). first_of a.holding k) (sym (first-nil r.holding));
      stage = f.stage;
    })

-- three parts, of which one may stop
pub then_runs-assoc : (r s t : Ran) → then_runs r (then_runs s t) ≡ then_runs (then_runs r s) t
then_runs-assoc r s t = go r.is_stopped refl s.is_stopped refl
  where
    go : (x : Bool) → r.is_stopped ≡ x → (y : Bool) → s.is_stopped ≡ y → then_runs r (then_runs s t) ≡ then_runs (then_runs r s) t
    go true e y f = then_runs-stopped r (then_runs s t) e ∙ sym (then_runs-stopped r t e) ∙ ap (λ k. then_runs k t) (sym (then_runs-stopped r s e))
    go false e true f = then_runs-on r (then_runs s t) e ∙ ap (joined_runs r) (then_runs-stopped s t f) ∙ sym (then_runs-stopped (joined_runs r s) t f)
        ∙ ap (λ k. then_runs k t) (sym (then_runs-on r s e))
    go false e false f = then_runs-on r (then_runs s t) e ∙ ap (joined_runs r) (then_runs-on s t f) ∙ joined_runs-assoc r s t
        ∙ sym (then_runs-on (joined_runs r s) t f) ∙ ap (λ k. then_runs k t) (sym (then_runs-on r s e))

-- lines are counted
pub Adds-lines : (a b c : GatheredData) (r : Ran) (n : Stage) (k : ℕ) → Adds a b r n →
    c ≡ record b { stage = record b.stage { lines = b.stage.lines + k } } → Adds a c r (record n { lines = n.lines + k })
Adds-lines a b c r n k f e = record {
  output = ap (λ g. g.output) e ∙ f.output;
  notes = ap (λ g. g.notes) e ∙ f.notes;
  is_refused = ap (λ g. g.is_refused) e ∙ f.is_refused;
  is_stopped = ap (λ g. g.is_stopped) e ∙ f.is_stopped;
  most_fields = ap (λ g. g.most_fields) e ∙ f.most_fields;
  holding = ap (λ g. g.holding) e ∙ f.holding;
  stage = λ on. ap (λ g. g.stage) e ∙ ap (λ (s : Stage). record s { lines = s.lines + k }) (f.stage (ap (λ g. g.is_stopped) (sym e) ∙ on));
}

-- a field of this number was counted before it was run
pub Adds-counted : (a b c : GatheredData) (r : Ran) (index : ℕ) (n : Stage) → b ≡ record a { most_fields = max a.most_fields index } →
    index ≤ r.most_fields → Adds b c r n → Adds a c r n
Adds-counted a b c r index n e counted f = record {
  output = f.output ∙ ap (λ g. g.output ++ r.output) e;
  notes = f.notes ∙ ap (λ g. g.notes ++ r.notes) e;
  is_refused = f.is_refused ∙ ap (λ g. g.is_refused || r.is_refused) e;
  is_stopped = f.is_stopped;
  most_fields = omega (arith, f.most_fields, ap (λ g. g.most_fields) e);
  holding = f.holding ∙ ap (λ g. first_of g.holding r.holding) e;
  stage = f.stage;
}

-- and counting it once more adds nothing
pub Adds-recounted : (a b : GatheredData) (r : Ran) (index : ℕ) (n : Stage) → index ≤ a.most_fields → Adds a b r n →
    Adds a b (joined_runs (counts index) r) n
Adds-recounted a b r index n counted f = record {
  output = f.output;
  notes = f.notes;
  is_refused = f.is_refused;
  is_stopped = f.is_stopped;
  most_fields = omega (arith, f.most_fields);
  holding = f.holding;
  stage = f.stage;
}
