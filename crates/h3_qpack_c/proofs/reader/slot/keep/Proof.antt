-- `keep` takes the box apart, and the slot owns what it owned.
use Rattle.std.proofs.Common.{◌≡◌, List, [], ◌∷◌, ◌++◌, refl, sym, ap, ◌∙◌, subst, Some}
use mir.Syntax.{Dict, Callee, impl, method, no_args, tcons, tnil, dnil}
use seplogic.Ra.Ura.{Ura}
use prog.Model.{Model}
use types.Logic.{Logic}
use contract.Running.{Running}
use denote.Param.Glue as glue
use denote.Triple.Spec.{Spec, Meets}
use denote.Triple.Carry.{beside, spared}
use denote.Triple.Table.{run_framed, widened}
use prog.Routine.{◌≼⁺◌}
use base.Logic.{sep, via, emp∗, comm∗}
use Rattle.h3_qpack_c.specs.contracts.h3_qpack_c++reader++State+Destruct.drop as dropping
use Rattle.h3_qpack_c.specs.contracts.h3_qpack_c++reader++State+Destruct.drop.Key.{name as drop_name}
use Rattle.h3_qpack_c.proofs.h3_qpack_c++reader++State+Destruct.drop.Symbol as drop_symbol
use mir.Val.{Val, vptr, vstruct, vcons, vnil}
use base.Fraction.{full_share}
use base.Logic.{SProp, ent, emp, never, id⊢, fst∗}
use base.Fml.{ftrue, flft, fsep}
use prog.Wp.{WpFn}
use types.Logic.{sem}
use types.Kit.{show, done, ‵, raw, ◌⊛◌, some, later, ◌$◌, ◌∵◌, !, qed, by, move, keep, drop, split, join, fsplit, fjoin, fpack, pick, suffices, use0, use1, await, rewrite, feq_i, feq_l}
use types.Run.{of_opd, no_more, and_then, returns, enter}
use types.ByLocal.{alloc_all, pass_all, free_all, look_at, get, sets, lands_as}
use types.Part.{agg}
use contract.Monad.{fact, fact_i}
use contract.BorrowLft.{◌⊑◌}
use contract.Running.{tables}
use denote.Exit.{no}
use denote.RattleType.{RattleType, Valss, owns}
use denote.Struct.Struct.{within}
use denote.Struct.Owning.{shape}
use denote.Builtin.{RawPtr}
use denote.RawPtr.{Ptr, block_ptr, null_ptr, ptr_val, in_a_block}
use denote.Signature.{types_at, plain}
use denote.Steps.{nothing, peeks, only}
use denote.Laws.{Is, shows}
use denote.Param.{layout, arg}
use denote.Param.Laws.{arg_laws}
use denote.Param.NoDrop.{glues}
use denote.Triple.Clauses.{Lasts, lasts}
use denote.Triple.Spec.{triple_of}
use denote.Triple.Call.{calls_at}
use denote.Triple.Walked.{Stays, stay_dropped, walk_of}
use mir.Raw.{raw as bare}
use Rattle.std.proofs.alloc.Calls.{Goes-blank}
use Rattle.core.proofs.atomic.Steps.{fm}
use Rattle.core.proofs.cell.Inside.{one}
use Rattle.std.specs.contracts.alloc.Global as heap
use Rattle.std.proofs.alloc.Global.TheLaws as heap_laws
use Rattle.std.specs.contracts.impls.GlobalAllocator.TheImpl as global
use Rattle.std.proofs.impls.GlobalAllocator.TheImpl.Met as global_met
use Rattle.std.specs.Box.Ownership.{box_owns}
use Rattle.std.proofs.raw_atomic.Walks.{proved_at, leaves}
use Rattle.std.specs.contracts.boxed.Box as B
use Rattle.std.proofs.boxed.Box.TheLaws as box_laws
use Rattle.std.specs.contracts.boxed.Box.into_raw as callee
use Rattle.std.proofs.boxed.Box.into_raw.Met.{met}
use Rattle.h3_qpack_c.specs.contracts.reader.State as held
use Rattle.h3_qpack_c.proofs.reader.State.TheLaws as held_laws
use Rattle.h3_qpack_c.specs.contracts.reader.slot.Slot as slot
use Rattle.h3_qpack_c.specs.contracts.reader.slot.keep.{ended, clauses}
use Rattle.h3_qpack_c.specs.contracts.reader.slot.keep.Key.{name as #self}
use Rattle.h3_qpack_c.proofs.reader.slot.keep.Statement.{statement}
use Rattle.h3_qpack_c.proofs.reader.slot.keep.Code as code
use Rattle.h3_qpack_c.proofs.Destruct++none.drop.Code as undrop
use Rattle.h3_qpack_c.proofs.h3_qpack_c++reader++State+Destruct.drop.Met as state_drop

-- the glue of the state, from what its `drop` meets
state_glue : {M : Type 1} (𝓤 : Ura M) (𝓛 : Logic 𝓤) (𝓜 : Model 𝓤 𝓛.H) (𝓡 : Running 𝓤 𝓛.H 𝓜) → 𝓡.env drop_name ≼⁺ 𝓡.env (method (impl ("h3_qpack_c::h3_qpack_c++reader++State+Destruct::drop" ∷ []) tnil dnil) 0 no_args)
    → Meets 𝓛 dropping.signature (𝓡.run (𝓡.env drop_name)) (dropping.spec 𝓛 𝓜.mem 𝓡.returns)
    → glue.Met 𝓛 𝓜 𝓡 𝓡.env (arg (bare (layout held.the_row)) no held.the_row) (impl ("h3_qpack_c::h3_qpack_c++reader++State+Destruct::drop" ∷ []) tnil dnil)
state_glue {M} 𝓤 𝓛 𝓜 𝓡 same drops =
    let T : RattleType = arg (bare (layout held.the_row)) no held.the_row in
    let k : Callee = method (impl ("h3_qpack_c::h3_qpack_c++reader++State+Destruct::drop" ∷ []) tnil dnil) 0 no_args in
    let dropped : Spec 𝓤 (dropping.signature) = dropping.spec 𝓛 𝓜.mem 𝓡.returns in
    let said : Spec 𝓤 (glue.signature T) = λ κs a. record { ghost = (dropped tt a).ghost; requires = λ x. sep 𝓤 (fact 𝓤 (κs.0 ⊑ T.lives)) ((dropped tt a).requires x); ensures = λ x r. (dropped tt a).ensures x r } in
    beside 𝓛 (glue.signature T) (𝓡.run (𝓡.env k)) (run_framed 𝓤 𝓛.H 𝓜 𝓡 (𝓡.env k)) said (glue.spent 𝓛 T) (λ κs a x. tt) (λ κs a x. emp 𝓤)
    (λ κs a x. via 𝓤 (sep 𝓤 (emp 𝓤) ((said κs a).requires tt)) (emp∗ 𝓤 ((said κs a).requires tt)) (comm∗ 𝓤 (emp 𝓤) ((said κs a).requires tt)))
    (λ κs a x r. qed 𝓛 (raw ((said κs a).ensures tt r) ∷ raw (emp 𝓤) ∷ []) ∵ keep ! [] $ show ! (λ (ws : Unit {0} × Unit {0}). sep 𝓤 (sem 𝓛 (fsep ftrue ftrue)) (emp 𝓤)) (tt, tt) $ nothing ! $ nothing ! $ join ! $ nothing ! $ move ! (1 ∷ 0 ∷ []) $ join ! $ done !)
    (spared 𝓛 dropping.signature (𝓡.run (𝓡.env k)) (run_framed 𝓤 𝓛.H 𝓜 𝓡 (𝓡.env k)) 1 (T.lives, tt) dropped
    (widened 𝓤 𝓛.H (triple_of 𝓛 dropping.signature dropped) 𝓜 𝓡 𝓡.env (𝓡.env drop_name) (𝓡.env k) same drops))

pub keep_spec : {M : Type 1} → statement M
unfolding undrop.code
keep_spec {M} 𝓤 𝓛 𝓜 𝓡 wired =
    let H = 𝓛.H in let 𝓣 = tables 𝓤 H 𝓜 𝓡 𝓡.env in let c = clauses 𝓛 𝓜.mem 𝓡.returns in let fn = code.function in
    let T : RattleType = arg (bare (layout held.the_row)) no held.the_row in let LT = arg_laws (bare (layout held.the_row)) no held.the_row held_laws.the_row_laws refl in
    let A : RattleType = arg (bare (layout heap.the_row)) no heap.the_row in let LA = arg_laws (bare (layout heap.the_row)) no heap.the_row heap_laws.the_row_laws refl in
    let BX : RattleType = B.the_row T A global.ghosts in let BL = (box_laws.the_field_loose T A global.ghosts LT LA).lawful 𝓛 in
    let B0 : RattleType = B.the_row held.the_row heap.the_row global.ghosts in
    let hs : Stays ended.signature.params ended.kept = (stay_dropped (plain (λ _. B0)) ended.kept.0, tt) in
    proved_at 𝓛 ended hs c 𝓜 𝓡 (Goes-blank 𝓛 0 (plain (λ _. B0)) ended.kept.0 (λ κs x f. tt), tt) #self fn (code.unfolded 𝓤 H 𝓜 𝓡 wired) (λ z are.
    let v = z.0.3.0 in let Post : Val → SProp 𝓤 = (walk_of 𝓛 ended hs c).post z in let Run : List Val → SProp 𝓤 = λ ws. WpFn 𝓤 H 𝓣.C 𝓣.Λ fn ws Post in
    qed 𝓛 ((‵ ftrue ⊛ ‵ (owns (types_at ended.signature.params z.0.0) z.0.3 z.0.4)) ∷ raw ((c z.0.0 z.0.3).requires z.1) ∷ []) ∵ split ! $ drop ! $ fsplit ! $
    peeks ! BX (Is BX) (shows 𝓛 BX) v z.0.4.0 (λ is.
    let g = one (layout BX) z.0.4.0 (BL.typed v z.0.4.0 is) in let w : Val = g.0 in
    rewrite ! 0 (λ (us : List Val). ‵ (B0.own_val v us)) g.1 refl $
    suffices ! (Run (w ∷ [])) (subst (λ (us : List Val). ent 𝓤 (Run (w ∷ [])) (Run (us ++ []))) (sym g.1) (id⊢ 𝓤 (Run (w ∷ [])))) $
    enter ! 𝓣.C 𝓣.Λ fn (w ∷ []) Post $ alloc_all ! (λ l. pass_all ! refl (g.2, tt) $
    sets ! (of_opd ! (get ! refl)) refl g.2 $
    let dd : Dict = impl ("h3_qpack_c::Destruct++none::drop" ∷ []) (tcons (layout A) tnil) dnil in
    let dx : Dict = impl ("h3_qpack_c::h3_qpack_c++reader++State+Destruct::drop" ∷ []) tnil dnil in
    let k = triple_of 𝓛 (callee.signature T A global.ghosts global.dict dd dx) (callee.spec T A global.ghosts global.dict dd dx 𝓛 𝓜.mem 𝓡.returns) in
    let y : k.Ghost = ((([], ([], tt)), (full_share, (full_share, tt)), tt, (v, tt), (w ∷ [], tt)), tt) in
    nothing ! $ use0 𝓛 (raw (fact 𝓤 ([] ⊑ A.lives))) (fact_i 𝓤 ([] ⊑ A.lives) (emp 𝓤) (heap_laws.the_within [])) $ join ! $
    use0 𝓛 (raw (fact 𝓤 ([] ⊑ T.lives))) (fact_i 𝓤 ([] ⊑ T.lives) (emp 𝓤) (held_laws.the_within [])) $ join ! $
    nothing ! $ move ! (2 ∷ 0 ∷ []) $ fjoin ! $
    nothing ! $ use0 𝓛 (‵ (flft [] full_share)) (𝓛.lfts.lft-nil full_share) $ join ! $ use0 𝓛 (‵ (flft [] full_share)) (𝓛.lfts.lft-nil full_share) $ join ! $ join ! $ join ! $
    use1 𝓛 (raw (k.pre y)) (id⊢ 𝓤 _) $
    calls_at ! (fm 𝓛 𝓜 𝓡) k (met 𝓤 𝓛 𝓜 𝓡 (code.calls-std_alloc::boxed::Box::into_raw 𝓡.env wired) T A LT LA global.ghosts global.dict dd dx
    (global_met.passed 𝓡.env (code.calls-std_heap::GlobalAllocator::allocate 𝓡.env wired) (code.calls-std_heap::GlobalAllocator::deallocate 𝓡.env wired) (code.calls-std_heap::GlobalAllocator::grow 𝓡.env wired) (code.calls-std_heap::GlobalAllocator::shrink 𝓡.env wired) M 𝓤 𝓛 𝓜 𝓡)
    (glues "h3_qpack_c::Destruct++none::drop" 𝓡.env (code.calls-h3_qpack_c::Destruct++none::drop 𝓡.env wired) A LA M 𝓤 𝓛 𝓜 𝓡)
    (state_glue 𝓤 𝓛 𝓜 𝓡 (drop_symbol.as_method 𝓡.env (code.calls-h3_qpack_c::h3_qpack_c++reader++State+Destruct::drop 𝓡.env wired) (method dx 0 no_args) refl) (state_drop.met 𝓤 𝓛 𝓜 𝓡 (code.calls-h3_qpack_c::h3_qpack_c++reader++State+Destruct::drop 𝓡.env wired)))) y (and_then ! (get ! refl) (no_more !)) (λ u.
    use1 𝓛 (later (some (λ (r : Ptr). ((‵ (flft [] full_share) ⊛ ‵ (flft [] full_share) ⊛ ‵ ftrue) ⊛ ‵ (RawPtr.own_val r (u ∷ []))) ⊛ some (λ (ls : Lasts (callee.ended T A global.ghosts global.dict dd dx) y.0.0 y.0.3). ‵ (lasts (callee.ended T A global.ghosts global.dict dd dx) y.0.0 y.0.3 ls) ⊛ ‵ (box_owns (global.ghosts.dealloc_token v.alloc) T r v.value))))) (id⊢ 𝓤 (k.post y u)) $
    await ! tt $ pick ! (λ r. split ! $ move ! (1 ∷ []) $ pick ! (λ _. split ! $ drop ! $
    in_a_block ! r (λ p. box_owns (global.ghosts.dealloc_token v.alloc) T p v.value) (fst∗ 𝓤 (never 𝓤) (sem 𝓛 (global.ghosts.dealloc_token v.alloc (bare (layout T)) null_ptr))) (λ b o e.
    move ! (1 ∷ []) $ split ! $ move ! (1 ∷ []) $ feq_l ! (λ eu.
    let p = vptr b o in let made : Val = vstruct (vcons p vnil) in
    lands_as ! (ap only (eu ∙ ap (λ (q : Ptr). ptr_val q ∷ []) e)) refl (tt, tt) $
    sets ! (of_opd ! (get ! refl)) refl (tt, tt) $
    sets ! (agg ! (and_then ! (get ! refl) (no_more !))) refl (tt, (tt, tt)) $
    nothing ! $ feq_i ! (List Val) (p ∷ []) (p ∷ []) refl $ fjoin ! $ feq_i ! (List Val) (made ∷ []) (made ∷ []) refl $ fjoin ! $
    fpack ! (Valss (RawPtr ∷ [])) (within (shape slot.the_type) (block_ptr b o, tt) (made ∷ [])) (p ∷ [], tt) $
    move ! (0 ∷ 2 ∷ []) $ fjoin ! $
    let d : slot.the_row.Denot = record { at = block_ptr b o; value = Some v.value } in
    use1 𝓛 (‵ (slot.the_row.own_val d (made ∷ []))) (id⊢ 𝓤 _) $
    use0 𝓛 (raw (fact 𝓤 (Some v.value ≡ Some v.value))) (fact_i 𝓤 (Some v.value ≡ Some v.value) (emp 𝓤) refl) $ nothing ! $ nothing ! $ fjoin ! $ nothing ! $
    returns ! (look_at ! 0 refl) $ free_all ! refl $ keep ! (0 ∷ 1 ∷ 3 ∷ 2 ∷ []) $ by ! (leaves 𝓛 ended hs c z made d (tt, tt) (tt, tt))))))))))
