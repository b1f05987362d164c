-- `into_loose` casts the pointer back, and the parts own what the handle owned.
use Rattle.std.proofs.Common.{◌≡◌, List, [], ◌∷◌, ◌++◌, refl, sym, ap, subst, ◌∙◌, Option, Some, true}
use mir.Val.{Val, vptr}
use mir.Raw.{raw as bare}
use base.Logic.{SProp, ent, emp, never, fst∗, id⊢}
use base.Fml.{ftrue}
use prog.Wp.{WpFn}
use types.Logic.{sem}
use types.Kit.{‵, raw, ◌⊛◌, ◌$◌, ◌∵◌, !, qed, by, move, keep, drop, split, join, fsplit, fpick, fjoin, suffices, rewrite, use0}
use types.Run.{stop, fld, of_opd, no_more, and_then, returns, enter}
use types.ByLocal.{alloc_all, pass_all, free_all, look_at, get, get_in, sets}
use types.Part.{agg, sub, whole}
use contract.Monad.{fact, fact_i}
use contract.Running.{tables}
use denote.Exit.{yes}
use denote.RattleType.{RattleType, owns}
use denote.Memory.{lone}
use denote.Signature.{types_at, plain}
use denote.RawPtr.{Ptr, block_ptr, null_ptr, ptr_val, in_a_block}
use denote.Steps.{nothing, heard}
use denote.Triple.Walked.{Stays, stay_dropped, walk_of}
use Rattle.core.proofs.alloc.Calls.{Goes-blank, handle_tells}
use Rattle.std.proofs.raw_atomic.Walks.{proved_at, leaves}
use Rattle.std.specs.contracts.impls.GlobalAllocator.TheImpl.{ghosts}
use Rattle.std.proofs.alloc.Global.TheLaws as global_laws
use Rattle.std_alloc.specs.Box.Ownership.{box_owns}
use Rattle.ccsds123.specs.declared.scene.SceneEncoder.{SceneEncoder}
use Rattle.ccsds123.specs.contracts.scene.SceneEncoder as scene
use Rattle.ccsds123.specs.Scenes.{IsOpen, is_there}
use Rattle.ccsds123.specs.contracts.held.Held as held
use Rattle.ccsds123.specs.Held.{held_owns}
use Rattle.ccsds123.proofs.LooseValues.{both, loose_good, loose_in}
use Rattle.ccsds123.proofs.HeldValues.{Z, al, one, held_out, some_there}
use Rattle.ccsds123.specs.contracts.held.Held.into_loose.{ended, clauses}
use Rattle.ccsds123.specs.contracts.held.Held.into_loose.Key.{name as #self}
use Rattle.ccsds123.proofs.held.Held.into_loose.Statement.{statement}
use Rattle.ccsds123.proofs.held.Held.into_loose.Code as code

pub into_loose_spec : {M : Type 1} → statement M
into_loose_spec 𝓤 𝓛 𝓜 𝓡 wired =
    let H = 𝓛.H in let 𝓣 = tables 𝓤 H 𝓜 𝓡 𝓡.env in let R : RattleType = scene.the_row in let LZ = global_laws.the_row_laws in let c = clauses 𝓛 𝓜.mem 𝓡.returns in
    let hs : Stays ended.signature.params ended.kept = (stay_dropped (plain (λ _. held.the_row)) yes, (stay_dropped (plain (λ _. Z)) yes, tt)) in
    proved_at 𝓛 ended hs c 𝓜 𝓡 (Goes-blank 𝓛 0 (plain (λ _. held.the_row)) yes (λ κs x f. tt), (Goes-blank 𝓛 0 (plain (λ _. Z)) yes (λ κs x f. tt), tt)) #self code.function (code.unfolded 𝓤 H 𝓜 𝓡 wired) (λ z are.
    let κs = z.0.0 in let v = z.0.3.0 in let a = z.0.3.1.0 in
    let Post : Val → SProp 𝓤 = (walk_of 𝓛 ended hs c).post z in let Run : List Val → SProp 𝓤 = λ ws. WpFn 𝓤 H 𝓣.C 𝓣.Λ code.function ws Post in
    qed 𝓛 ((‵ ftrue ⊛ ‵ (owns (types_at ended.signature.params κs) z.0.3 z.0.4)) ∷ raw (fact 𝓤 (is_there v.value ≡ true)) ∷ []) ∵ split ! $ move ! (1 ∷ []) $ fsplit ! $
    held_out ! v z.0.4.0 (λ ws. move ! (3 ∷ []) $ heard ! (is_there v.value ≡ true) (λ there. let found = some_there v.value there in let x = found.0 in let is = found.1 in rewrite ! 0 (λ (m : Option SceneEncoder). ‵ (held_owns v.at m)) is refl $
    fsplit ! $ move ! (1 ∷ []) $ fpick ! (λ open'. drop ! $
    fpick ! (λ whose. in_a_block ! v.at (λ p. box_owns (ghosts.dealloc_token whose) R p x) (fst∗ 𝓤 (never 𝓤) (sem 𝓛 (ghosts.dealloc_token whose (bare (lone R.mir)) null_ptr))) (λ b o e.
    move ! (1 ∷ []) $ fsplit ! $ handle_tells al ! a z.0.4.1.0 (λ h ea fits.
    -- [the allocator; nothing; the value with its token; the tokens]
    let w : Val = both (vptr b o) h in let at_is = ws ∙ ap (λ (p : Ptr). one (ptr_val p) ∷ []) e in let typed = loose_good R Z LZ ghosts b o h fits in
    suffices ! (Run (one (vptr b o) ∷ h ∷ [])) (subst (λ (us : List Val). ent 𝓤 (Run (one (vptr b o) ∷ h ∷ [])) (Run us)) (sym (λ i. at_is i ++ (ea i ++ []))) (id⊢ 𝓤 (Run (one (vptr b o) ∷ h ∷ [])))) $
    enter ! 𝓣.C 𝓣.Λ code.function (one (vptr b o) ∷ h ∷ []) Post $ alloc_all ! (λ l. pass_all ! refl ((tt, (tt, tt)), (fits, tt)) $
    sets ! (of_opd ! (get_in ! (fld ! refl (stop !)) (sub ! 0 refl (whole !)))) refl (tt, tt) $
    sets ! (of_opd ! (get ! refl)) refl (tt, tt) $
    sets ! (agg ! (and_then ! (get ! refl) (and_then ! (get ! refl) (no_more !)))) refl typed $
    move ! (2 ∷ 0 ∷ []) $ loose_in R Z LZ ghosts ! b o h a x $
    use0 𝓛 (raw (fact 𝓤 (IsOpen x))) (fact_i 𝓤 (IsOpen x) (emp 𝓤) open') $ use0 𝓛 (raw (fact 𝓤 (v.value ≡ Some x))) (fact_i 𝓤 (v.value ≡ Some x) (emp 𝓤) is) $ join ! $ nothing ! $ nothing ! $ fjoin ! $ nothing ! $ fjoin ! $
    returns ! (look_at ! 0 refl) $ free_all ! refl $ keep ! (4 ∷ 0 ∷ 2 ∷ 1 ∷ []) $
    by ! (leaves 𝓛 ended hs c z w (record { at = block_ptr b o; alloc = a; value = x }) (tt, (tt, tt)) (tt, (tt, tt)))))))))))
