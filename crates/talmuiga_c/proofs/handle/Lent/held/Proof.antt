-- The pointer of what is lent leads to it.
use Rattle.talmuiga_c.proofs.Steps.{ℕ, ◌+◌, [], ◌∷◌, refl, proved, id⊢, ftrue, flft, named, fact, tables, ‵, raw, ◌⊛◌, at_ret}
use Rattle.talmuiga_c.proofs.Steps.{◌$◌, ◌∵◌, !, qed, done, move, keep, use1, split, join, fsplit, fjoin, feq_i, suffices, frame, enter}
use Rattle.talmuiga_c.proofs.Steps.{of_opd, addr, look, stop, fld, hop, first, blocks, exec, returns, alloc_all, pass_all, free_all, look_at, get}
use Rattle.talmuiga_c.proofs.Steps.{through, sets, env, Ptr, plain, nothing, heard, Stays, walk_of, says, ends_at, yes}
use mir.Val.{vptr}
use base.Logic.{ent, sep}
use base.Fml.{Lft}
use seplogic.Ra.Ura.{Ura}
use types.Logic.{Logic, sem}
use types.ByLocal.{sets_last}
use Rattle.std.proofs.VecSteps.Shapes.{after}
use Rattle.std.proofs.Words.{pointer_in, pointer_out}
use denote.Memory.{hidden_shr, shared_of}
use denote.RawPtr.{RawPtr, InBlock, block_of, count_of, ptr_row_laws}
use denote.Ref.{Bor, ShrRef, shr_vals, shr_Tells}
use denote.SharingLaws.{contraction}
use denote.Struct.Struct.{Struct, Struct-row_laws}
use denote.Struct.Owning.{shape}
use denote.Struct.Lending.{in_block_says, lent_at, lent_out}
use denote.Triple.Walked.{stay_dropped, Goes-dropped}
use denote.Signature.{shr_ref_to}
use Rattle.talmuiga_c.specs.contracts.handle.Lent.held as f
use Rattle.talmuiga_c.proofs.handle.Lent.held.Statement.{statement}
use Rattle.talmuiga_c.proofs.handle.Lent.held.Code as code
use Rattle.talmuiga_c.specs.contracts.handle.Lent as lent
use Rattle.talmuiga_c.specs.declared.held.Held.{Held}
use Rattle.talmuiga_c.specs.contracts.held.Held.{the_row as Held-row}

abbrev stayed : Stays f.ended.signature.params f.ended.kept
stayed = (stay_dropped (shr_ref_to (0 ∷ []) tt (plain (λ _. lent.the_row))) yes, tt)

module _ {M : Type 1} {𝓤 : Ura M} (𝓛 : Logic 𝓤) (κ : Lft) (p : Ptr) (b o : ℕ) where
  -- a reference to a struct of one pointer is one to the pointer
  pub word-shown : ent 𝓤 (sem 𝓛 (hidden_shr (Struct (shape lent.the_type)) κ (
    p,
    tt,
  ) b o)) (sep 𝓤 (sem 𝓛 (hidden_shr RawPtr κ p b (o + 0))) (sem 𝓛 (hidden_shr (Struct (shape lent.the_type)) κ (p, tt) b o)))
  word-shown = qed 𝓛 (‵ (hidden_shr (Struct (shape lent.the_type)) κ (p, tt) b o) ∷ []) ∵
      use1 𝓛 (‵ (hidden_shr (Struct (shape lent.the_type)) κ (p, tt) b o) ⊛ ‵ (hidden_shr (Struct (shape lent.the_type)) κ (p, tt) b o))
      (contraction 𝓛 (shared_of (Struct (shape lent.the_type)) (p, tt) b o) (Struct-row_laws (shape lent.the_type) (ptr_row_laws, tt) (p, tt) b o) κ) $
      split ! $
      use1 𝓛 (‵ (shared_of (Struct (shape lent.the_type)) (p, tt) b o κ)) (id⊢ 𝓤 _) $ fsplit ! $ fsplit ! $
      use1 𝓛 (‵ (hidden_shr RawPtr κ p b (o + 0))) (id⊢ 𝓤 _) $ keep ! (0 ∷ 3 ∷ []) $ done !

-- the contract of `held` holds
pub held_spec : {M : Type 1} → statement M
held_spec 𝓤 𝓛 𝓜 𝓡 wired =
    let c = f.clauses 𝓛 𝓜.mem 𝓡.returns in let W = walk_of 𝓛 f.ended stayed c in let 𝓣 = tables 𝓤 𝓛.H 𝓜 𝓡 𝓡.env in
    proved 𝓛 f.ended stayed c 𝓜 𝓡 (Goes-dropped 𝓛 1 (shr_ref_to (0 ∷ []) tt (plain (λ _. lent.the_row))) yes (λ κs x f. refl), tt)
    f.Key.name code.function (code.unfolded 𝓤 𝓛.H 𝓜 𝓡 wired)
    (λ κs. (shr_vals, tt)) (λ κs. (shr_Tells (named 0) κs.0 lent.the_row, tt)) (λ κs qs bounds a _ are.
    let b = a.0.ref_ptr.0 in let o = a.0.ref_ptr.1 in let l = a.0.now in let vs = shr_vals a.0 in let κ = κs.0 in
    let 𝓣 = tables 𝓤 𝓛.H 𝓜 𝓡 𝓡.env in
    let lent-held : Bor Held = record { ref_ptr = (block_of l.at, count_of l.at); now = l.held } in
    let y : W.Ghost = ((κs, qs, bounds, a, (vs, tt)), tt) in
    qed 𝓛 (((‵ (flft κ qs.0) ⊛ ‵ ftrue) ⊛ ‵ ((ShrRef (named 0) κ lent.the_row).own_val a.0 vs) ⊛ ‵ ftrue) ∷ ‵ ftrue ∷ []) ∵
    split ! $ split ! $ move ! (2 ∷ []) $ split ! $ fsplit ! $ move ! (1 ∷ []) $
    use1 𝓛 (‵ (hidden_shr (Struct (shape lent.the_type)) κ (l.at, tt) b o)
    ⊛ ‵ (lent_at Held-row l.at l.held κ)) (lent_out 𝓛 lent.struct lent.the_codes lent.the_heap lent.the_lent κ l b o) $
    split ! $ move ! (1 ∷ []) $ fsplit ! $ use1 𝓛 (raw (fact 𝓤 (InBlock l.at))) (in_block_says 𝓛 l.at) $ heard ! (InBlock l.at) (λ inb.
    -- [what a reference to it holds; the pointer's; an equation; nothing; the token]
    keep ! (1 ∷ 4 ∷ 0 ∷ []) $ enter ! _ _ _ _ _ $ alloc_all ! (λ at. pass_all ! refl ((tt, tt), tt) $
    pointer_in ! tt l.at inb b (o + 0) (word-shown 𝓛 κ l.at b o) (λ q.
    -- [nothing; the pointer's cell; the way back; the pointer's; what a reference to it holds]
    first ! $ blocks ! $ sets_last ! (addr ! (through ! refl (fld ! refl (hop ! (look ! 1 refl) (stop !))))) refl (tt, tt) $
    exec ! 𝓣.C 𝓣.Λ (env code.Mir.locals at) (after 1 (code.function).body) (at_ret _ (W.post y)) $
    sets ! (of_opd ! (get ! refl)) refl (tt, tt) $
    pointer_out ! tt l.at inb b (o + 0) $ returns ! (look_at ! 0 refl) $ free_all ! refl $
    -- [the token; the pointer's; what a reference to it holds]
    suffices ! _ (ends_at 𝓛 f.ended stayed c y (vptr (block_of l.at) (count_of l.at)) lent-held (tt, tt) (tt, tt)) $ says ! refl $
    move ! (2 ∷ 0 ∷ []) $ use1 𝓛 (‵ (hidden_shr Held-row κ l.held (block_of l.at) (count_of l.at))) (id⊢ 𝓤 _) $
    feq_i ! _ (shr_vals lent-held) _ refl $ fjoin ! $ nothing ! $ nothing ! $ join ! $ nothing ! $ move ! (3 ∷ 0 ∷ []) $ join ! $
    frame ! $ frame ! $ keep ! (0 ∷ []) $ done !))))
