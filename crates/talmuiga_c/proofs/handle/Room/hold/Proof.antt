-- What a room holds is written into its place.
use Rattle.talmuiga_c.proofs.Steps.{◌≡◌, List, [], ◌∷◌, prop, regoal, refl, sym, ap, ◌∙◌, full_share, id⊢, ftrue, flft, named}
use Rattle.talmuiga_c.proofs.Steps.{Val, vunit, fact, tables, ‵, raw, ◌⊛◌, at_ret, ◌$◌, ◌∵◌, !, qed, done, move, keep, use2, split}
use Rattle.talmuiga_c.proofs.Steps.{join, fsplit, fsplit3, fjoin, feq_i, rewrite, suffices, frame, group, enter, of_opd, unit_lit, load, stop, fld}
use Rattle.talmuiga_c.proofs.Steps.{assigns_last, first, blocks, exec, returns, alloc_all, pass_all, free_all, look_at, get, through, sets, env}
use Rattle.talmuiga_c.proofs.Steps.{shows, Ptr, block_ptr, lies_at, in_a_block, MutRef, mut_vals, mut_Tells, plain, nothing, opens, closes, peeks}
use Rattle.talmuiga_c.proofs.Steps.{heard, Stays, walk_of, says, stay_ref, Goes-ref, stay_dropped, ends_at, yes}
use Rattle.talmuiga_c.proofs.Owned.{lies_in, held-Mute, one-value, told-nothing}
use types.Part.{whole, sub, look_in}
use types.Run.{init}
use denote.Exit.{rest}
use Rattle.std.proofs.VecSteps.Shapes.{after}
use denote.Memory.{cell_at}
use denote.RawPtr.{room_at}
use Rattle.talmuiga_c.specs.Handle.{empty, contains, room_owns}
use Rattle.talmuiga_c.specs.contracts.handle.Room.hold as f
use Rattle.talmuiga_c.proofs.handle.Room.hold.Statement.{statement}
use Rattle.talmuiga_c.proofs.handle.Room.hold.Code as code
use Rattle.talmuiga_c.specs.contracts.handle.Room.{the_row as R}
use Rattle.talmuiga_c.proofs.handle.Room.TheLaws.{lowers}
use Rattle.std.specs.Prelude.{Option}
use Rattle.talmuiga_c.specs.declared.held.Held.{Held}
use Rattle.talmuiga_c.specs.contracts.held.Held.{the_row as HeldRow}
use Rattle.std.proofs.raw_atomic.Walks.{proved_at}
use Rattle.std.proofs.Common.{◌++◌}
use prog.Wp.{WpFn}

abbrev stayed : Stays f.ended.signature.params f.ended.kept
stayed = (stay_ref (0 ∷ []) tt (plain (λ _. R)), (stay_dropped _ yes, tt))

-- the contract of `hold` holds
pub hold_spec : {M : Type 1} → statement M
hold_spec 𝓤 𝓛 𝓜 𝓡 wired =
    let c = f.clauses 𝓛 𝓜.mem 𝓡.returns in let W = walk_of 𝓛 f.ended stayed c in let 𝓣 = tables 𝓤 𝓛.H 𝓜 𝓡 𝓡.env in
    proved_at 𝓛 f.ended stayed c 𝓜 𝓡 (
      Goes-ref 𝓛 1 0 tt (plain (λ _. R)),
      (told-nothing 𝓛 1 (plain (λ _. HeldRow)) yes (λ κs. held-Mute), tt),
    )
    f.Key.name code.function (code.unfolded 𝓤 𝓛.H 𝓜 𝓡 wired)
    (λ y are.
    let κs = y.0.0 in let qs = y.0.1 in let a = y.0.3 in let vs = y.0.4.0 in let ms = y.0.4.1.0 in
    let b = a.0.ref_ptr.0 in let o = a.0.ref_ptr.1 in let h = a.0.now in let m = a.1.0 in
    let one = one-value 𝓛 m ms are.1.0 in let v = one.0 in let typed = one.1.1 in
    qed 𝓛 (((‵ (flft κs.0 qs.0) ⊛ ‵ ftrue) ⊛ ‵ ((MutRef (named 0) κs.0 R).own_val a.0 vs) ⊛ ‵ (HeldRow.own_val m ms)
    ⊛ ‵ ftrue) ∷ raw (fact 𝓤 (h.held ≡ empty)) ∷ []) ∵
    split ! $ split ! $ move ! (2 ∷ []) $ split ! $ move ! (1 ∷ []) $ split ! $ move ! (5 ∷ []) $ heard ! (h.held ≡ empty) (λ none.
    -- [what is to be held; nothing; the reference; the token; nothing]
    keep ! (2 ∷ 3 ∷ 0 ∷ []) $
    regoal ! (λ (us : List Val). prop (WpFn 𝓤 𝓛.H 𝓣.C 𝓣.Λ code.function (us ++ (ms ++ [])) (W.post y))) (mut_Tells (named 0) κs.0 R a.0 vs
    are.0) refl $
    regoal ! (λ (us : List Val). prop (WpFn 𝓤 𝓛.H 𝓣.C 𝓣.Λ code.function (mut_vals a.0 ++ (us ++ [])) (W.post y))) one.1.0 refl $
    rewrite ! 2 (λ (us : List Val). ‵ (HeldRow.own_val m us)) one.1.0 refl $
    enter ! _ _ _ _ _ $ alloc_all ! (λ l. pass_all ! refl ((tt, tt), (typed, tt)) $ fsplit3 ! $ move ! (1 ∷ 2 ∷ 3 ∷ []) $ opens ! tt R b o (λ us.
    move ! (1 ∷ []) $ peeks ! R _ (shows 𝓛 R) h us (λ is. fsplit ! $ move ! (1 ∷ []) $
    rewrite ! 0 (λ (x : Option (Option Held)). ‵ (room_owns h.at x)) none refl $
    in_a_block ! h.at (λ p. room_at HeldRow p) (id⊢ 𝓤 _) (λ b' o' e.
    let word = lowers.val_is h us is ∙ ap (λ (p : Ptr). lowers.lowered (record h { at = p }) ∷ []) e in
    let Cell = λ (ws : List Val). ‵ (cell_at full_share R.mir ws b o) in
    rewrite ! 2 Cell word refl $
    -- [room; what the fields own; the cell; the open borrow, in three entries; the place of self; what is to be held]
    first ! $ blocks ! $
    sets ! (of_opd ! (load ! (through ! refl (fld ! refl (stop !))) (look_in ! 2 (sub ! 0 refl (whole !))))) refl (tt, tt) $
    sets ! (of_opd ! (get ! refl)) refl (tt, tt) $ sets ! (of_opd ! (get ! refl)) refl typed $
    assigns_last ! (of_opd ! (get ! refl)) (through ! refl (stop !)) (init ! 0 refl typed) $
    exec ! 𝓣.C 𝓣.Λ (env code.Mir.locals l) (after 1 (code.function).body) (at_ret _ (W.post y)) $
    sets ! (of_opd ! (unit_lit !)) refl (tt, tt) $
    -- [its cell; what the fields own; the cell; the open borrow, in three entries; the place of self; what it owns]
    move ! (0 ∷ 7 ∷ []) $ use2 𝓛 (‵ (lies_at HeldRow full_share (block_ptr b' o') m)) (lies_in 𝓛 m b' o' v) $
    rewrite ! 0 (λ (p : Ptr). ‵ (lies_at HeldRow full_share p m)) (sym e) refl $ rewrite ! 2 Cell (sym word) refl $
    move ! (1 ∷ []) $ fjoin ! $ move ! (1 ∷ []) $ closes ! tt R (record h { held = contains m }) us b o $
    -- [two parts of self; the token; the place of self]
    returns ! (look_at ! 0 refl) $ free_all ! refl $ move ! (3 ∷ []) $
    suffices ! _ (ends_at 𝓛 f.ended stayed c y vunit tt (record h { held = contains m }, (rest (HeldRow.exit yes) m, tt)) (tt, (tt, tt))) $ says ! refl $
    group ! 3 $ nothing ! $ nothing ! $ join ! $ move ! (1 ∷ 0 ∷ []) $ join ! $ nothing ! $ move ! (2 ∷ 0 ∷ []) $ join ! $ frame ! $ frame ! $
    feq_i ! _ (vunit ∷ []) _ refl $ done !))))))
