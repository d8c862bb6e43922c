-- What a room holds leaves its place, which is room again.
use Rattle.talmuiga_c.proofs.Steps.{◌≡◌, List, [], ◌∷◌, refl, sym, ap, ◌∙◌, proved, full_share, id⊢, ftrue, flft, named, Val}
use Rattle.talmuiga_c.proofs.Steps.{fact, tables, ‵, raw, ◌⊛◌, at_ret, ◌$◌, ◌∵◌, !, qed, done, move, keep, use1, split, join}
use Rattle.talmuiga_c.proofs.Steps.{fsplit, fsplit3, fjoin, rewrite, suffices, frame, group, enter, of_opd, load, look, stop, fld, first, blocks}
use Rattle.talmuiga_c.proofs.Steps.{exec, returns, alloc_all, pass_all, free_all, look_at, get, through, sets, env, shows, Ptr, block_ptr, lies_at}
use Rattle.talmuiga_c.proofs.Steps.{in_a_block, MutRef, mut_vals, mut_Tells, plain, nothing, opens, closes, peeks, heard, Stays, walk_of, says}
use Rattle.talmuiga_c.proofs.Steps.{stay_ref, Goes-ref, ends_at}
use Rattle.talmuiga_c.proofs.Owned.{held_is, layout, lies_out}
use types.Part.{whole, sub, look_in}
use types.ByLocal.{sets_last}
use Rattle.std.proofs.VecSteps.Shapes.{after}
use denote.Memory.{cell_at}
use denote.RawPtr.{room_at}
use Rattle.talmuiga_c.specs.Handle.{away, empty, room_owns}
use Rattle.talmuiga_c.specs.contracts.handle.Room.take as f
use Rattle.talmuiga_c.proofs.handle.Room.take.Statement.{statement}
use Rattle.talmuiga_c.proofs.handle.Room.take.Code as code
use Rattle.talmuiga_c.specs.contracts.handle.Room.{the_row as R}
use Rattle.talmuiga_c.proofs.handle.Room.TheLaws.{lowers}
use Rattle.std.specs.Prelude.{Option}
use Rattle.talmuiga_c.specs.declared.held.Held.{Held}
use Rattle.talmuiga_c.specs.contracts.held.Held.{the_row as HeldRow}

abbrev stayed : Stays f.ended.signature.params f.ended.kept
stayed = (stay_ref (0 ∷ []) tt (plain (λ _. R)), tt)

-- the contract of `take` holds
pub take_spec : {M : Type 1} → statement M
take_spec 𝓤 𝓛 𝓜 𝓡 wired =
    let c = f.clauses 𝓛 𝓜.mem 𝓡.returns in let W = walk_of 𝓛 f.ended stayed c in let 𝓣 = tables 𝓤 𝓛.H 𝓜 𝓡 𝓡.env in
    proved 𝓛 f.ended stayed c 𝓜 𝓡 (Goes-ref 𝓛 1 0 tt (plain (λ _. R)), tt)
    f.Key.name code.function (code.unfolded 𝓤 𝓛.H 𝓜 𝓡 wired)
    (λ κs. (mut_vals, tt)) (λ κs. (mut_Tells (named 0) κs.0 R, tt)) (λ κs qs bounds a _ are.
    let b = a.0.ref_ptr.0 in let o = a.0.ref_ptr.1 in let h = a.0.now in let vs = mut_vals a.0 in
    let y : W.Ghost = ((κs, qs, bounds, a, (vs, tt)), tt) in
    qed 𝓛 (((‵ (flft κs.0 qs.0) ⊛ ‵ ftrue) ⊛ ‵ ((MutRef (named 0) κs.0 R).own_val a.0 vs)
    ⊛ ‵ ftrue) ∷ raw (fact 𝓤 (¬ (h.held ≡ away) × ¬ (h.held ≡ empty))) ∷ []) ∵
    split ! $ split ! $ move ! (2 ∷ []) $ split ! $ move ! (4 ∷ []) $ heard ! (¬ (h.held ≡ away) × ¬ (h.held ≡ empty)) (λ not.
    let found = held_is h.held not in let m = found.0 in
    keep ! (0 ∷ 2 ∷ []) $
    enter ! _ _ _ _ _ $ alloc_all ! (λ l. pass_all ! refl ((tt, tt), tt) $ fsplit3 ! $ move ! (1 ∷ 2 ∷ 3 ∷ []) $ opens ! tt R b o (λ us.
    move ! (1 ∷ []) $ peeks ! R _ (shows 𝓛 R) h us (λ is. fsplit ! $ move ! (1 ∷ []) $
    rewrite ! 0 (λ (x : Option (Option Held)). ‵ (room_owns h.at x)) found.1 refl $
    in_a_block ! h.at (λ p. lies_at HeldRow full_share p m) (id⊢ 𝓤 _) (λ b' o' e.
    let word = lowers.val_is h us is ∙ ap (λ (p : Ptr). lowers.lowered (record h { at = p }) ∷ []) e in
    let Cell = λ (ws : List Val). ‵ (cell_at full_share R.mir ws b o) in
    rewrite ! 2 Cell word refl $
    lies_out ! m b' o' (λ v is-kept typed.
    -- [its cell; what it owns; what the fields own; the cell; the open borrow, in three entries; the place of self]
    first ! $ blocks ! $
    sets ! (of_opd ! (load ! (through ! refl (fld ! refl (stop !))) (look_in ! 3 (sub ! 0 refl (whole !))))) refl (tt, tt) $
    sets ! (of_opd ! (get ! refl)) refl (tt, tt) $
    sets_last ! (of_opd ! (load ! (through ! refl (stop !)) (look ! 0 refl))) refl typed $
    exec ! 𝓣.C 𝓣.Λ (env code.Mir.locals l) (after 1 (code.function).body) (at_ret _ (W.post y)) $
    sets ! (of_opd ! (get ! refl)) refl typed $
    use1 𝓛 (‵ (room_at HeldRow (block_ptr b' o'))) (𝓛.laws.at_room layout b' o' v) $
    rewrite ! 0 (λ (p : Ptr). ‵ (room_at HeldRow p)) (sym e) refl $ rewrite ! 3 Cell (sym word) refl $
    move ! (2 ∷ 0 ∷ []) $ fjoin ! $ move ! (2 ∷ 0 ∷ 3 ∷ 4 ∷ 5 ∷ []) $ closes ! tt R (record h { held = empty }) us b o $
    -- [two parts of self; the token; what it owns; the place of self]
    returns ! (look_at ! 0 refl) $ free_all ! refl $ move ! (4 ∷ []) $
    suffices ! _ (ends_at 𝓛 f.ended stayed c y v m (record h { held = empty }, tt) (tt, tt)) $ says ! (refl, found.1) $
    group ! 3 $ nothing ! $ move ! (1 ∷ 0 ∷ []) $ join ! $ nothing ! $ move ! (2 ∷ 0 ∷ []) $ join ! $ frame ! $ frame ! $ done !)))))))
