-- What a caller learns of what it hands over to a room: nothing.
use Rattle.talmuiga_c.proofs.Steps.{◌≡◌, ℕ, List, [], ◌∷◌, refl, sym, yes, stay_dropped, full_share, Val, block_ptr, lies_at, fat}
use Rattle.talmuiga_c.proofs.Steps.{fsep, ‵, ◌$◌, ◌∵◌, !, qed, done, move, use1, fsplit, fjoin, fpick, fpack, rewrite, peeks, shows}
use Rattle.talmuiga_c.proofs.Steps.{owned}
use mathlib.Core.Path.{subst}
use seplogic.Ra.Ura.{Ura}
use mir.Syntax.{Ty}
use lib.Dec.{T}
use mir.Val.{WT, has_ty, vptr, vstruct, vcons, vnil}
use denote.RawPtr.{rawptr_pure}
use denote.Struct.Struct.{Struct, Struct-Makes}
use denote.Struct.Owning.{shape}
use Rattle.talmuiga_c.specs.contracts.handle.Lent as Lent
use base.Logic.{ent, emp, sep, via}
use types.Kit.{Goal, Item, Seq}
use types.Logic.{Logic, sem}
use contract.Lifetimes.{Lfts}
use denote.Memory.{cell_at, lone, part_of}
use denote.Exit.{Kept as KeptAt, Last, left, no}
use denote.Param.Mute.{Mute, Mute-flat, Mute-variants, enum-Mute}
use denote.Enum.Declared.{variants}
use denote.Enum.Loose.{loose_lawful}
use denote.Laws.{Is, Lawful, Typed}
use denote.Signature.{Slot}
use denote.Triple.Walked.{Goes}
use Rattle.std.specs.Prelude.{Option, Some, None}
use Rattle.talmuiga_c.specs.Handle.{away, contains, empty, lent_owns}
use Rattle.decimal_lines.specs.contracts.mode.Mode as by-words
use Rattle.talmuiga_c.specs.contracts.kept.Kept as by-kept
use Rattle.talmuiga_c.proofs.held.Held.TheLaws.{the_loose}
use Rattle.talmuiga_c.specs.declared.held.Held.{Held}
use Rattle.talmuiga_c.specs.contracts.held.Held.{the_row, the_type}

-- a mode that is handed over has nothing that its caller learns
mode-Mute : Mute (by-words.the_field.row.exit no)
mode-Mute = Mute-variants no (variants by-words.the_type) ((Mute-flat (λ x w. refl) (λ x. tt), tt), ((Mute-flat (λ x w. refl) (λ x. tt), tt), tt))

-- nor has what a formatter holds: a mode, a form, or a form with the ranges of a locale
kept-Mute : Mute (by-kept.the_field.row.exit no)
kept-Mute = Mute-variants no (variants by-kept.the_type) (
  (mode-Mute, tt),
  (
    (Mute-flat (λ x w. refl) (λ x. tt), tt),
    (
      (
        Mute-flat (λ x w. refl) (λ x. tt),
        (Mute-flat (λ x w. refl) (λ x. tt), tt),
      ),
      tt,
    ),
  ),
)

-- nor what C keeps: what a formatter holds, a message, or arguments
pub held-Mute : Mute (the_row.exit yes)
held-Mute = enum-Mute the_type no (
  (kept-Mute, tt),
  (
    (Mute-flat (λ x w. refl) (λ x. tt), tt),
    ((Mute-flat (λ x w. refl) (λ x. tt), tt), tt),
  ),
)

-- and so it is of each parameter that is let go, where nothing is learnt by its type
pub told-nothing : {M : Type 1} {𝓤 : Ura M} (𝓛 : Logic 𝓤) (n : ℕ) (s : Slot n) (k : KeptAt) → ((κs : Lfts n) → Mute ((s.row κs).exit k))
    → Goes 𝓛 n s k (stay_dropped s k)
told-nothing {M = M} {𝓤 = 𝓤} 𝓛 n s k mute κs x f vs ok = via 𝓤 (sem 𝓛 (left ((s.row κs).exit k) x f))
    (subst (λ (w : Last ((s.row κs).exit k) x). ent 𝓤 (emp 𝓤) (sem 𝓛 (left ((s.row κs).exit k) x w))) (sym ((mute κs).once x f)) ((mute
    κs).quiet M 𝓤 𝓛 x))
    (𝓛.laws.⇛_intro _)

-- the row of what is held keeps the laws of rows
pub typed-held : {M : Type 1} {𝓤 : Ura M} (𝓛 : Logic 𝓤) → Lawful 𝓛 the_row
typed-held 𝓛 = loose_lawful the_type the_loose tt 𝓛

-- the type of the machine value that is what is held
abbrev pub layout : Ty
layout = lone the_row.mir

-- machine values of this type are one
alone : (vs : List Val) → Typed (layout ∷ []) vs → (v : Val) × ((vs ≡ v ∷ []) × (T (has_ty layout v) × WT v))
alone [] typed = absurd typed
alone (v ∷ []) typed = (v, (refl, typed.0))
alone (v ∷ u ∷ us) typed = absurd typed.1

module _ {M : Type 1} {𝓤 : Ura M} (𝓛 : Logic 𝓤) where
  -- so what is held is one
  pub one-value : (m : Held) (vs : List Val) → Is the_row m vs → (v : Val) × ((vs ≡ v ∷ []) × (T (has_ty layout v) × WT v))
  one-value m vs is = alone vs ((typed-held 𝓛).typed m vs is)

  -- what is held, with what it owns, lies where its machine value does
  pub lies_in : (m : Held) (b o : ℕ) (v : Val)
      → ent 𝓤 (sep 𝓤 (sem 𝓛 (fat full_share layout b o v)) (sem 𝓛 (the_row.own_val m (v ∷ [])))) (sem 𝓛 (lies_at the_row full_share
      (block_ptr b o) m))
  unfolding part_of
  lies_in m b o v = qed 𝓛 (‵ (fat full_share layout b o v) ∷ ‵ (the_row.own_val m (v ∷ [])) ∷ []) ∵
      use1 𝓛 (‵ (cell_at full_share the_row.mir (v ∷ []) b o)) (𝓛.laws.at_raw full_share layout b o v) $
      fjoin ! $ fpack ! (List Val) (λ ws. fsep (cell_at full_share the_row.mir ws b o) (the_row.own_val m ws)) (v ∷ []) $ done !

module _ {M : Type 1} {𝓤 : Ura M} {𝓛 : Logic 𝓤} {K : Type 0} {Γ : List (Item 𝓤)} {G : Goal 𝓤 𝓛.H} where
  -- and the other way
  pub lies_out : K → (m : Held) (b o : ℕ)
      → ((v : Val) → Is the_row m (v ∷ []) → T (has_ty layout v) × WT v
      → Seq K 𝓛 (‵ (fat full_share layout b o v) ∷ ‵ (the_row.own_val m (v ∷ [])) ∷ Γ) G)
      → Seq K 𝓛 (‵ (lies_at the_row full_share (block_ptr b o) m) ∷ Γ) G
  unfolding part_of
  lies_out t m b o k = fpick t (λ ws. fsplit t $ move t (1 ∷ []) $ peeks t the_row (Is the_row) (shows 𝓛 the_row) m ws (λ is.
      let one = one-value 𝓛 m ws is in
      rewrite t 0 (λ (us : List Val). ‵ (the_row.own_val m us)) one.1.0 refl $
      rewrite t 1 (λ (us : List Val). ‵ (cell_at full_share the_row.mir us b o)) one.1.0 refl $
      move t (1 ∷ []) $ use1 𝓛 (‵ (fat full_share layout b o one.0)) (𝓛.laws.raw_at full_share layout b o one.0) $
      k one.0 (subst (λ (us : List Val). Is the_row m us) one.1.0 is) one.1.1))

-- the machine value that is a struct of one pointer
abbrev pub pointer : ℕ → ℕ → Val
pointer b o = vstruct (vcons (vptr b o) vnil)

-- a place that isn't empty, and from which nothing is away, holds something
pub held_is : (x : Option (Option Held)) → (¬ (x ≡ away) × ¬ (x ≡ empty)) → (m : Held) × (x ≡ contains m)
held_is None not = absurd (not.0 refl)
held_is (Some None) not = absurd (not.1 refl)
held_is (Some (Some m)) not = (m, refl)

module _ {M : Type 1} {𝓤 : Ura M} (𝓛 : Logic 𝓤) where
  -- a pointer and what is lent at it are what a formatter lends
  pub lent-made : (b o : ℕ) (m : Held) → ent 𝓤 (sem 𝓛 (lent_owns (block_ptr b o) m)) (sem 𝓛 (Lent.the_row.own_val (record {
    at = block_ptr b
        o;
    held = m;
  }) (pointer b o ∷ [])))
  lent-made b o m = qed 𝓛 (‵ (lent_owns (block_ptr b o) m) ∷ []) ∵
      owned ! (Struct (shape Lent.the_type)) _ (Struct-Makes 𝓛 (shape Lent.the_type) (rawptr_pure, tt)) (
        block_ptr b o,
        tt,
      ) (pointer b o ∷ []) ((vptr b o ∷ [], tt), (refl, (refl, tt))) $
      fjoin ! $ done !
