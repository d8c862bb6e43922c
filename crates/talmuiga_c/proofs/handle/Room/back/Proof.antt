-- What was lent is owned at the place again.
use Rattle.talmuiga_c.proofs.Steps.{◌≡◌, [], ◌∷◌, refl, proved, ftrue, flft, named, vunit, fact, tables, ‵, raw, ◌⊛◌, ◌$◌}
use Rattle.talmuiga_c.proofs.Steps.{◌∵◌, !, qed, done, move, keep, drop, split, join, fsplit, fsplit3, fjoin, feq_i, rewrite, suffices, frame}
use Rattle.talmuiga_c.proofs.Steps.{group, enter, of_opd, unit_lit, returns, alloc_all, pass_all, free_all, look_at, sets, Ptr, MutRef, mut_vals}
use Rattle.talmuiga_c.proofs.Steps.{mut_Tells, plain, nothing, opens, closes, heard, Stays, walk_of, says, stay_ref, Goes-ref, stay_dropped, ends_at}
use Rattle.talmuiga_c.proofs.Steps.{yes}
use Rattle.talmuiga_c.proofs.Owned.{told-nothing}
use denote.Exit.{rest}
use denote.Param.Mute.{Mute-flat}
use Rattle.talmuiga_c.specs.Handle.{away, contains, lent_owns}
use Rattle.talmuiga_c.specs.contracts.handle.Room.back as f
use Rattle.talmuiga_c.proofs.handle.Room.back.Statement.{statement}
use Rattle.talmuiga_c.proofs.handle.Room.back.Code as code
use Rattle.talmuiga_c.specs.contracts.handle.Room.{the_row as R}
use Rattle.talmuiga_c.specs.contracts.handle.Lent.{the_row as Lent}
use Rattle.talmuiga_c.proofs.handle.Lent.TheLaws.{lowers as lent-lowers, the_field_loose}

abbrev stayed : Stays f.ended.signature.params f.ended.kept
stayed = (stay_ref (0 ∷ []) tt (plain (λ _. R)), (stay_dropped _ yes, tt))

-- the contract of `back` holds
pub back_spec : {M : Type 1} → statement M
back_spec 𝓤 𝓛 𝓜 𝓡 wired =
    let c = f.clauses 𝓛 𝓜.mem 𝓡.returns in let W = walk_of 𝓛 f.ended stayed c in let 𝓣 = tables 𝓤 𝓛.H 𝓜 𝓡 𝓡.env in
    proved 𝓛 f.ended stayed c 𝓜 𝓡 (
      Goes-ref 𝓛 1 0 tt (plain (λ _. R)),
      (told-nothing 𝓛 1 (plain (λ _. Lent)) yes (λ κs. Mute-flat (λ x w. refl) (λ x. tt)), tt),
    )
    f.Key.name code.function (code.unfolded 𝓤 𝓛.H 𝓜 𝓡 wired)
    (λ κs. (mut_vals, ((λ l. lent-lowers.lowered l ∷ []), tt))) (λ κs. (
      mut_Tells (named 0) κs.0 R,
      (
        lent-lowers.val_is,
        tt,
      ),
    )) (λ κs qs bounds a _ are.
    let b = a.0.ref_ptr.0 in let o = a.0.ref_ptr.1 in let h = a.0.now in let vs = mut_vals a.0 in
    let l = a.1.0 in let ls = lent-lowers.lowered l ∷ [] in let typed = ((the_field_loose.lawful 𝓛).typed l ls are.1.0).0 in
    let held = record h { held = contains l.held } in
    let y : W.Ghost = ((κs, qs, bounds, a, (vs, (ls, tt))), tt) in
    qed 𝓛 (((‵ (flft κs.0 qs.0) ⊛ ‵ ftrue) ⊛ ‵ ((MutRef (named 0) κs.0 R).own_val a.0 vs) ⊛ ‵ (Lent.own_val l ls)
    ⊛ ‵ ftrue) ∷ raw (fact 𝓤 ((h.held ≡ away) × (l.at ≡ h.at))) ∷ []) ∵
    split ! $ split ! $ move ! (2 ∷ []) $ split ! $ move ! (1 ∷ []) $ split ! $ move ! (5 ∷ []) $ heard ! ((h.held ≡ away) × (l.at ≡ h.at)) (λ is.
    -- [what is lent; nothing; the reference; the token; nothing]
    fsplit ! $ drop ! $ rewrite ! 0 (λ (p : Ptr). ‵ (lent_owns p l.held)) is.1 refl $ keep ! (2 ∷ 3 ∷ 0 ∷ []) $
    enter ! _ _ _ _ _ $ alloc_all ! (λ at. pass_all ! refl ((tt, tt), (typed, tt)) $ fsplit3 ! $ move ! (1 ∷ 2 ∷ 3 ∷ []) $ opens ! tt R b o (λ us.
    -- [the cell; what self owns; the open borrow, in three entries; the place of self; what is lent]
    move ! (1 ∷ []) $ fsplit ! $ move ! (1 ∷ []) $ drop ! $ move ! (0 ∷ 6 ∷ []) $ fjoin ! $ move ! (1 ∷ 0 ∷ []) $ closes ! tt R held us b o $
    sets ! (of_opd ! (unit_lit !)) refl (tt, tt) $
    returns ! (look_at ! 0 refl) $ free_all ! refl $ move ! (3 ∷ []) $
    suffices ! _ (ends_at 𝓛 f.ended stayed c y vunit tt (held, (rest (Lent.exit yes) l, tt)) (tt, (tt, tt))) $ says ! refl $
    group ! 3 $ nothing ! $ nothing ! $ join ! $ move ! (1 ∷ 0 ∷ []) $ join ! $ nothing ! $ move ! (2 ∷ 0 ∷ []) $ join ! $ frame ! $ frame ! $
    feq_i ! _ (vunit ∷ []) _ refl $ done !))))
