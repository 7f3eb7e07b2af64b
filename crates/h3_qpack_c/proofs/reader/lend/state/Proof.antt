-- `state` lends what a handle keeps.
use Rattle.std.proofs.Common.{◌≡◌, ℕ, List, [], ◌∷◌, ◌++◌, refl, sym, ap, subst}
use mir.Syntax.{named}
use mir.Val.{Val, vptr, vstruct, vcons, vnil, of_list}
use base.Fraction.{full_share}
use base.Logic.{SProp, ent, sep, never, id⊢, fst∗}
use base.Fml.{Fml, GName, ftrue, fsep, flft}
use types.Logic.{sem}
use types.Kit.{‵, raw, ◌⊛◌, some, later, at_ret, ◌$◌, ◌∵◌, !, qed, move, keep, drop, split, join, group, fsplit, fsplit3, fjoin, fpick, fpack, pick, split3, suffices, frame, use1, await, rewrite, feq_i, feq_l, done}
use types.Run.{stop, fld, load, addr, of_opd, first, blocks, exec, returns, enter}
use types.ByLocal.{alloc_all, pass_all, free_all, look_at, get, through, sets, sets_last, env}
use types.Part.{sub, whole, look_in}
use contract.Running.{tables}
use denote.Builtin.{RawPtr}
use denote.Exit.{no}
use denote.RattleType.{RattleType, Valss}
use denote.Memory.{mem, cell_at, part_at, part_of}
use denote.RawPtr.{Ptr, block_ptr, null_ptr, ptr_val, in_a_block}
use denote.Ref.{MutBor, MutRef, mut_vals, mut_Tells}
use denote.Signature.{plain, mut_ref_to}
use denote.Steps.{nothing, opens}
use denote.Follow.{follows, Part, lends_Part}
use denote.Param.{layout}
use denote.Struct.Struct.{within}
use denote.Struct.Owning.{shape}
use denote.Triple.Walked.{Stays, stay_dropped, walk_of, says, ends_at, Goes-spent_ref}
use mir.Raw.{raw as bare}
use Rattle.core.proofs.alloc.Shapes.{after}
use Rattle.std.specs.Box.Ownership.{box_owns}
use Rattle.h3_qpack_c.specs.Tokens.{token}
use Rattle.std.proofs.raw_atomic.Walks.{proved}
use Rattle.h3_qpack_c.specs.contracts.reader.State as held
use Rattle.h3_qpack_c.specs.ReaderFollows.{with_value}
use Rattle.h3_qpack_c.specs.contracts.reader.Handle as handle
use Rattle.h3_qpack_c.specs.contracts.reader.lend.state as F
use Rattle.h3_qpack_c.proofs.reader.lend.state.Statement.{statement}
use Rattle.h3_qpack_c.proofs.reader.lend.state.Code as code

abbrev T : RattleType
T = held.the_row

abbrev H' : RattleType
H' = handle.the_row

abbrev stayed : Stays F.ended.signature.params F.ended.kept
stayed = (stay_dropped (mut_ref_to (0 ∷ []) tt (plain (λ _. H'))) no, tt)

abbrev word : ℕ → ℕ → Val
word b o = vstruct (vcons (vptr b o) vnil)

-- all of the handle but what it keeps
abbrev Rest : ℕ → ℕ → ℕ → ℕ → Fml
Rest b o rb ro = fsep (token (bare (layout T)) (block_ptr b o)) (cell_at full_share H'.mir (word b o ∷ []) rb ro)

pub state_spec : {M : Type 1} → statement M
unfolding part_of
state_spec {M} 𝓤 𝓛 𝓜 𝓡 wired =
    let c = F.clauses 𝓛 𝓜.mem 𝓡.returns in let 𝓣 = tables 𝓤 𝓛.H 𝓜 𝓡 𝓡.env in let fn = code.function in
    proved 𝓛 F.ended stayed c 𝓜 𝓡 (Goes-spent_ref 𝓛 1 (0 ∷ []) tt (plain (λ _. H')), tt) F.Key.name fn (code.unfolded 𝓤 𝓛.H 𝓜 𝓡 wired)
    (λ κs. (mut_vals, tt)) (λ κs. (mut_Tells (named 0) κs.0 H', tt)) (λ κs qs bounds a g are.
    let κ = κs.0 in let q = qs.0 in let rb = a.0.ref_ptr.0 in let ro = a.0.ref_ptr.1 in let γ = a.0.ghost_name in let h = a.0.now in let W = walk_of 𝓛 F.ended stayed c in
    let y : W.Ghost = ((κs, qs, bounds, a, (mut_vals a.0, tt)), tt) in let Post : Val → SProp 𝓤 = W.post y in
    qed 𝓛 (((‵ (flft κ q) ⊛ ‵ ftrue) ⊛ ‵ ((MutRef (named 0) κ H').own_val a.0 (mut_vals a.0)) ⊛ ‵ ftrue) ∷ ‵ ftrue ∷ []) ∵
    split ! $ split ! $ move ! (2 ∷ []) $ split ! $ keep ! (0 ∷ 2 ∷ []) $
    enter ! 𝓣.C 𝓣.Λ fn (mut_vals a.0 ++ []) Post $ alloc_all ! (λ l. pass_all ! refl ((tt, tt), tt) $ let En = env fn.locals l in
    fsplit3 ! $ drop ! $ move ! (0 ∷ 1 ∷ 2 ∷ []) $ opens ! tt H' rb ro (λ vs. move ! (1 ∷ []) $
    fsplit ! $ fpick ! (λ vss. fsplit ! $ feq_l ! (λ ev. fsplit ! $ feq_l ! (λ ep. drop ! $
    in_a_block ! h.at (λ p. box_owns token T p h.value) (fst∗ 𝓤 (never 𝓤) (sem 𝓛 (token (bare (layout T)) null_ptr))) (λ b o e. fsplit ! $
    let w : Val = word b o in
    let is : vs ≡ w ∷ [] = subst (λ (p : Ptr). vs ≡ vstruct (of_list (ptr_val p ∷ [])) ∷ []) e (subst (λ (ps : List Val). vs ≡ vstruct (of_list (ps ++ [])) ∷ []) ep ev) in
    rewrite ! 2 (λ (us : List Val). ‵ (cell_at full_share H'.mir us rb ro)) is refl $
    let back : (x : T.Denot) → ent 𝓤 (sep 𝓤 (sem 𝓛 ((mem T).own_at x b o)) (sem 𝓛 (Rest b o rb ro))) (sem 𝓛 ((mem H').own_at (with_value h x) rb ro)) = λ x.
    qed 𝓛 (‵ (part_at T full_share x b o) ∷ ‵ (Rest b o rb ro) ∷ []) ∵ move ! (1 ∷ []) $ fsplit ! $ move ! (2 ∷ 0 ∷ []) $ fjoin ! $
    rewrite ! 0 (λ (p : Ptr). ‵ (box_owns token T p x)) (sym e) refl $
    nothing ! $ feq_i ! (List Val) (vptr b o ∷ []) (ptr_val h.at ∷ []) (ap (λ (p : Ptr). ptr_val p ∷ []) (sym e)) $ fjoin ! $
    feq_i ! (List Val) (w ∷ []) (w ∷ []) refl $ fjoin ! $ fpack ! (Valss (RawPtr ∷ [])) (within (shape handle.the_type) (h.at, tt) (w ∷ [])) (vptr b o ∷ [], tt) $ fjoin ! $ move ! (1 ∷ 0 ∷ []) $ fjoin ! $
    fpack ! (List Val) (λ us. fsep (cell_at full_share H'.mir us rb ro) (H'.own_val (with_value h x) us)) (w ∷ []) $ done ! in
    first ! $ blocks ! $ sets ! (of_opd ! (load ! (through ! refl (fld ! refl (stop !))) (look_in ! 2 (sub ! 0 refl (whole !))))) refl (tt, tt) $
    sets ! (of_opd ! (get ! refl)) refl (tt, tt) $ sets_last ! (addr ! (through ! refl (stop !))) refl (tt, tt) $ exec ! 𝓣.C 𝓣.Λ En (after 1 fn.body) (at_ret En Post) $ sets ! (of_opd ! (get ! refl)) refl (tt, tt) $
    move ! (1 ∷ 2 ∷ []) $ fjoin ! $ move ! (2 ∷ 3 ∷ 4 ∷ 1 ∷ 0 ∷ []) $ group ! 5 $
    use1 𝓛 (later (some (λ (γ' : GName). raw (Part 𝓛 H' T (with_value h) (named 0) κ q rb ro b o γ (sem 𝓛 (Rest b o rb ro)) back h.value γ'))))
    (lends_Part 𝓛 H' T (with_value h) (named 0) κ q rb ro b o γ (sem 𝓛 (Rest b o rb ro)) back (H'.coded.code h) (H'.coded.code h) h.value) $ await ! tt $ pick ! (λ γ'.
    returns ! (look_at ! 0 refl) $ free_all ! refl $ keep ! (0 ∷ []) $
    let r : MutBor T.Denot = record { ref_ptr = (b, o); ghost_name = γ'; now = h.value } in
    use1 𝓛 (‵ ((MutRef (named 0) κ T).own_val r (vptr b o ∷ [])) ⊛ ‵ (flft κ q) ⊛ ‵ (follows H' T γ γ' (with_value h))) (id⊢ 𝓤 _) $ split3 ! $
    suffices ! _ (ends_at 𝓛 F.ended stayed c y (vptr b o) r (tt, tt) (tt, tt)) $
    nothing ! $ nothing ! $ fjoin ! $ join ! $ nothing ! $ move ! (2 ∷ 0 ∷ []) $ join ! $ join ! $ frame ! $ says ! refl $ done !))))))))
