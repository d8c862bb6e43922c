-- That edges are kept event by event. It stands here and not in proofs/ because the impl of `EventWriter` cites it.
use Rattle.std.proofs.Common.{◌≡◌, ℕ, List, [], ◌∷◌, ◌++◌, Result, Ok, Err, IsOk, IsErr, refl, sym, ap, ◌∙◌}
use Rattle.std.specs.Prelude.{Option}
use Rattle.writeable.specs.Events.{Event, characters}
use Rattle.writeable.specs.Writes.{characters-append}
use Rattle.writeable.specs.declared.sink.WriteFault.{WriteFault}
use Rattle.icu_ranges.specs.declared.edges.Edges.{Edges}
use Rattle.icu_ranges.specs.Edges.{edges_after, edges_with}

-- a text goes on with one text and then another
pub edges_after-append : (edges : Option Edges) (cs ds : List ℕ) → edges_after edges (cs ++ ds) ≡ edges_after (edges_after edges cs) ds
edges_after-append edges [] ds = refl
edges_after-append edges (c ∷ cs) ds = edges_after-append (edges_with edges c) cs ds

-- nothing changes no edge
pub edges_nothing : (a : Option Edges) → IsOk (let r : Result (Unit {0}) WriteFault = Ok tt in r) × (a ≡ edges_after a (characters []))
edges_nothing a = (refl, refl)

-- one text after another
pub edges_then : (a b c : Option Edges) (r : Result (Unit {0}) WriteFault) (es fs : List Event) →
    IsOk (let s : Result (Unit {0}) WriteFault = Ok tt in s) × (b ≡ edges_after a (characters es)) → IsOk r × (c ≡ edges_after b (characters fs)) →
    IsOk r × (c ≡ edges_after a (characters (es ++ fs)))
edges_then a b c r es fs h k = (
  k.0,
  k.1 ∙ ap (λ x. edges_after x (characters fs)) h.1 ∙ sym (edges_after-append a (characters es) (characters fs))
      ∙ ap (edges_after a) (sym (characters-append es fs)),
)

-- no write fails
pub edges_stop : (a b : Option Edges) (e : WriteFault) (r : Result (Unit {0}) WriteFault) (es fs : List Event) → IsErr r →
    IsOk (let s : Result (Unit {0}) WriteFault = Err e in s) × (b ≡ edges_after a (characters es)) →
    IsOk r × (b ≡ edges_after a (characters (es ++ fs)))
edges_stop a b e r es fs failed h = cc
