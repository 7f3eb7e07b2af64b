-- Calls over a stream in pieces, and that a stream has one way to be taken.
use Rattle.std.proofs.Common.{◌≡◌, ℕ, Bool, true, false, cond, List, [], ◌∷◌, ◌++◌, Option, Some, Result, Ok, Err}
use Rattle.std.proofs.Common.{refl, sym, ap, subst, ◌∙◌, inl, inr, append_assoc, append-nil}
use Rattle.std.proofs.lemmas.List.{append_cancel_left}
use Rattle.std.specs.Prelude.{⊤}
use Rattle.qpack_spec.specs.Bytes.{Begins, ◌>>=◌}
use Rattle.qpack_spec.specs.Form.{Form, FormFault, Spells, Refuses, Truncates, form_at}
use Rattle.qpack_spec.specs.Stream.{SpellsAll}
use Rattle.qpack_spec.specs.Table.{Table}
use Rattle.qpack_rules.specs.Taking.{TakesAllOf, apply_in_turn}
use Rattle.qpack_spec.specs.Window.{TableRefusal}
use Rattle.qpack_spec.proofs.Cuttings.{wire, nil_append, joined_append, refusal_apart}
use Rattle.qpack_spec.proofs.FormLaws.{form_refused}
use Rattle.qpack_spec.proofs.Results.{bind_ok, ok_is}
use Rattle.qpack_wire.specs.Cuttings.{joined_pieces}
use Rattle.qpack_codec.specs.Pieces.{GoesOn, TakesPieces, SameRefusal, SameEnd, TakenAlike}
use Rattle.qpack_codec.specs.Taking.{EndsTakingOf}

abbrev failed : {A E : Type 0} → E → Result A E
failed e = Err e

err_is : {A E : Type 0} (d e : E) → failed {A = A} {E = E} d ≡ failed e → d ≡ e
err_is d e h = cc

-- the table behind some instructions, and then others
applied_both : {L : Type 0} (apply : Table → L → Result Table TableRefusal) (ls ms : List L) (old now new : Table)
    → apply_in_turn apply old ls ≡ Ok now → apply_in_turn apply now ms ≡ Ok new
    → apply_in_turn apply old (ls ++ ms) ≡ Ok new
applied_both apply [] ms old now new h k =
    ap (λ (t : Table). apply_in_turn apply t ms) (ok_is old now h) ∙ k
applied_both apply (l ∷ ls) ms old now new h k =
    let first = bind_ok (apply old l) (λ u. apply_in_turn apply u ls) now h in
    ap (λ (r : Result Table TableRefusal). r >>= λ u. apply_in_turn apply u (ls ++ ms)) first.1
    ∙ applied_both apply ls ms first.0 now new first.2 k

module _ {L E : Type 0} (form_of : ℕ → Option (Form L)) (apply : Table → L → Result Table TableRefusal)
    (fault_of : E → Option FormFault) (refusal_of : E → Option TableRefusal) (is_consumed : TableRefusal → Bool) where
  abbrev spells : List ℕ → L → Type 0
  spells encoding l = Spells L form_of encoding l

  -- why no more is taken of the bytes, and what is left of them
  pub data Halts (t : Table) (at left : List ℕ) (e : E) : Type 0 where
    bad_bytes : (fault : FormFault) → Begins (λ encoding. Refuses L form_of encoding fault) at → fault_of e ≡ Some fault
        → left ≡ at → Halts t at left e
    bad_instruction : (encoding more : List ℕ) (i : L) (refusal : TableRefusal) → at ≡ encoding ++ more
        → spells encoding i → apply t i ≡ Err refusal → refusal_of e ≡ Some refusal
        → left ≡ cond (is_consumed refusal) more at → Halts t at left e

  abbrev Ends : Table → List ℕ → List ℕ → Result ⊤ E → Type 0
  Ends t at left (Ok done) = Truncates form_of at × (left ≡ at)
  Ends t at left (Err e) = Halts t at left e

  -- ---- behind a stop the stream may go on

  cond_behind : (b : Bool) (xs ys more : List ℕ) → cond b xs ys ++ more ≡ cond b (xs ++ more) (ys ++ more)
  cond_behind true xs ys more = refl
  cond_behind false xs ys more = refl

  halts_before : (t : Table) (at left more : List ℕ) (e : E) → Halts t at left e
      → Halts t (at ++ more) (left ++ more) e
  halts_before t at left more e (bad_bytes fault b f same) =
      bad_bytes fault
      (record {
        encoding = b.encoding;
        rest = b.rest ++ more;
        parts = ap (λ (x : List ℕ). x ++ more) b.parts ∙ append_assoc b.encoding b.rest more;
        holds = b.holds;
      }) f (ap (λ (x : List ℕ). x ++ more) same)
  halts_before t at left more e (bad_instruction encoding behind i refusal cut s a f same) =
      bad_instruction encoding (behind ++ more) i refusal
      (ap (λ (x : List ℕ). x ++ more) cut ∙ append_assoc encoding behind more) s a f
      (ap (λ (x : List ℕ). x ++ more) same ∙ cond_behind (is_consumed refusal) behind at more)

  -- ---- a stream has one way to be taken

  -- where it stops there is no instruction that is applied
  no_line : (t u : Table) (at left encoding more : List ℕ) (i : L) (r : Result ⊤ E) → Ends t at left r
      → at ≡ encoding ++ more → spells encoding i → apply t i ≡ Ok u → ⊥
  no_line t u at left encoding more i (Ok done) ends cut s a = (ends.0 encoding more cut).0 i s
  no_line t u at left encoding more i (Err e) (bad_bytes fault b f same) cut s a =
      refusal_apart form_of fault b.encoding encoding b.rest more i b.holds s (sym b.parts ∙ cut)
  no_line t u at left encoding more i (Err e) (bad_instruction other behind j refusal parts q b f same) cut s a =
      let one = (wire form_of).one_spelling encoding other more behind i j s q (sym cut ∙ parts) in
      let clash : Ok u ≡ Err refusal = sym a ∙ ap (apply t) one.1 ∙ b in
      cc

  same_halt : (t : Table) (at left other : List ℕ) (e d : E) → Halts t at left e → Halts t at other d
      → (left ≡ other) × SameRefusal fault_of refusal_of e d
  same_halt t at left other e d (bad_bytes fault b f same) (bad_bytes fault' b' f' same') =
      let one : fault ≡ fault' =
      err_is fault fault'
      (sym (form_refused form_of b.encoding b.rest fault b.holds)
      ∙ ap (form_at form_of) (sym b.parts ∙ b'.parts) ∙ form_refused form_of b'.encoding b'.rest fault' b'.holds) in
      (same ∙ sym same', inl (fault, f, f' ∙ ap (λ (x : FormFault). Some x) (sym one)))
  same_halt t at left other e d (bad_bytes fault b f same) (bad_instruction encoding more i refusal cut s a g same') =
      absurd (refusal_apart form_of fault b.encoding encoding b.rest more i b.holds s (sym b.parts ∙ cut))
  same_halt t at left other e d (bad_instruction encoding more i refusal cut s a g same) (bad_bytes fault b f same') =
      absurd (refusal_apart form_of fault b.encoding encoding b.rest more i b.holds s (sym b.parts ∙ cut))
  same_halt t at left other e d (bad_instruction encoding more i refusal cut s a g same)
      (bad_instruction encoding' more' i' refusal' cut' s' a' g' same') =
      let one = (wire form_of).one_spelling encoding encoding' more more' i i' s s' (sym cut ∙ cut') in
      let refused : refusal ≡ refusal' = err_is refusal refusal' (sym a ∙ ap (apply t) one.1 ∙ a') in
      let behind : more ≡ more' =
      append_cancel_left encoding' more more'
      (ap (λ (x : List ℕ). x ++ more) (sym one.0) ∙ sym cut ∙ cut') in (
        same ∙ (λ n. cond (is_consumed (refused n)) (behind n) at) ∙ sym same',
        inr (refusal, g, g' ∙ ap (λ (x : TableRefusal). Some x) (sym refused)),
      )

  same_end : (t : Table) (at left other : List ℕ) (r s : Result ⊤ E) → Ends t at left r → Ends t at other s
      → (left ≡ other) × SameEnd fault_of refusal_of r s
  same_end t at left other (Ok done) (Ok more) h k = (h.1 ∙ sym k.1, tt)
  same_end t at left other (Ok done) (Err e) h (bad_bytes fault b f same) =
      absurd ((h.0 b.encoding b.rest b.parts).1 fault b.holds)
  same_end t at left other (Ok done) (Err e) h (bad_instruction encoding more i refusal cut s a g same) =
      absurd ((h.0 encoding more cut).0 i s)
  same_end t at left other (Err e) (Ok done) (bad_bytes fault b f same) k =
      absurd ((k.0 b.encoding b.rest b.parts).1 fault b.holds)
  same_end t at left other (Err e) (Ok done) (bad_instruction encoding more i refusal cut s a g same) k =
      absurd ((k.0 encoding more cut).0 i s)
  same_end t at left other (Err e) (Err d) h k = same_halt t at left other e d h k

  -- a stream that was taken: its lines, and where it stops
  pub record Whole (old new : Table) (stream left : List ℕ) (r : Result ⊤ E) : Type 0 where
    pub lines : List L
    pub front : List ℕ
    pub at : List ℕ
    pub cut : stream ≡ front ++ at
    pub joined : SpellsAll spells front lines
    pub applies : apply_in_turn apply old lines ≡ Ok new
    pub ends : Ends new at left r

  one_way : (ls ms : List L) (t new other : Table) (a b at bt left rest : List ℕ) (r s : Result ⊤ E)
      → SpellsAll spells a ls → SpellsAll spells b ms → apply_in_turn apply t ls ≡ Ok new
      → apply_in_turn apply t ms ≡ Ok other → Ends new at left r → Ends other bt rest s → a ++ at ≡ b ++ bt
      → TakenAlike fault_of refusal_of new other left rest r s
  one_way [] [] t new other a b at bt left rest r s j k f g h i e =
      let one : new ≡ t = sym (ok_is t new f) in
      let two : other ≡ t = sym (ok_is t other g) in
      let stream : at ≡ bt = ap (λ (z : List ℕ). z ++ at) (sym j) ∙ e ∙ ap (λ (z : List ℕ). z ++ bt) k in
      let same = same_end t bt left rest r s
      (subst (λ (z : List ℕ). Ends t z left r) stream (subst (λ (x : Table). Ends x at left r) one h))
      (subst (λ (x : Table). Ends x bt rest s) two i) in
      record { table = one ∙ sym two; rests = same.0; ends = same.1 }
  one_way [] (m ∷ ms) t new other a b at bt left rest r s j k f g h i e =
      let first = bind_ok (apply t m) (λ u. apply_in_turn apply u ms) other g in
      absurd (no_line t first.0 at left k.0 (k.1 ++ bt) m r
      (subst (λ (x : Table). Ends x at left r) (sym (ok_is t new f)) h)
      (ap (λ (z : List ℕ). z ++ at) (sym j) ∙ e ∙ ap (λ (z : List ℕ). z ++ bt) k.2 ∙ append_assoc k.0 k.1 bt) k.3
      first.1)
  one_way (l ∷ ls) [] t new other a b at bt left rest r s j k f g h i e =
      let first = bind_ok (apply t l) (λ u. apply_in_turn apply u ls) new f in
      absurd (no_line t first.0 bt rest j.0 (j.1 ++ at) l s
      (subst (λ (x : Table). Ends x bt rest s) (sym (ok_is t other g)) i)
      (ap (λ (z : List ℕ). z ++ bt) (sym k) ∙ sym e ∙ ap (λ (z : List ℕ). z ++ at) j.2 ∙ append_assoc j.0 j.1 at) j.3
      first.1)
  one_way (l ∷ ls) (m ∷ ms) t new other a b at bt left rest r s j k f g h i e =
      let both : j.0 ++ (j.1 ++ at) ≡ k.0 ++ (k.1 ++ bt) =
      sym (append_assoc j.0 j.1 at) ∙ ap (λ (z : List ℕ). z ++ at) (sym j.2) ∙ e ∙ ap (λ (z : List ℕ). z ++ bt) k.2
      ∙ append_assoc k.0 k.1 bt in
      let same = (wire form_of).one_spelling j.0 k.0 (j.1 ++ at) (k.1 ++ bt) l m j.3 k.3 both in
      let tail : j.1 ++ at ≡ k.1 ++ bt =
      append_cancel_left k.0 (j.1 ++ at) (k.1 ++ bt) (ap (λ (z : List ℕ). z ++ (j.1 ++ at)) (sym same.0) ∙ both) in
      let first = bind_ok (apply t l) (λ u. apply_in_turn apply u ls) new f in
      let second = bind_ok (apply t m) (λ u. apply_in_turn apply u ms) other g in
      let now : first.0 ≡ second.0 =
      ok_is first.0 second.0 (sym first.1 ∙ ap (apply t) same.1 ∙ second.1) in
      one_way ls ms second.0 new other j.1 k.1 at bt left rest r s j.4 k.4
      (subst (λ (u : Table). apply_in_turn apply u ls ≡ Ok new) now first.2) second.2 h i tail

  -- ---- calls for pieces take the stream

  module _ (Stops : Table → List ℕ → List ℕ → E → Type 0) (memory : E)
      (halt : (t : Table) (at left : List ℕ) (e : E) → Stops t at left e → (e ≡ memory → ⊥) → Halts t at left e) where
    abbrev Takes : Table → Table → List ℕ → List ℕ → Result ⊤ E → Type 0
    Takes old new bytes left r =
        TakesAllOf form_of apply old new bytes (λ front rest. EndsTakingOf form_of Stops new rest left r)

    whole : (pieces : List (List ℕ)) (kept : List ℕ) (old new : Table) (left : List ℕ) (r : Result ⊤ E)
        → Truncates form_of kept → TakesPieces Takes old kept pieces new left r → (r ≡ Err memory → ⊥)
        → Whole old new (kept ++ joined_pieces pieces) left r
    whole [] kept old new left r cut h ample = record {
      lines = [];
      front = [];
      at = kept;
      cut = append-nil kept;
      joined = refl;
      applies = ap (λ (t : Table). Ok t) (sym h.0);
      ends = subst (λ (x : Result ⊤ E). Ends new kept left x) (sym h.2) (cut, h.1);
    }
    whole (piece ∷ pieces) kept old new left r cut h ample =
        pick h.2 h.3 h.4 (λ none more. whole pieces h.1 h.0 new left r none more ample)
      where
        behind : List ℕ
        behind = joined_pieces pieces

        parts : (front rest : List ℕ) → kept ++ piece ≡ front ++ rest → kept ++ (piece ++ behind) ≡ front ++ (rest ++ behind)
        parts front rest e =
            sym (append_assoc kept piece behind) ∙ ap (λ (x : List ℕ). x ++ behind) e ∙ append_assoc front rest behind

        pick : (first : Result ⊤ E) → Takes old h.0 (kept ++ piece) h.1 first
            → GoesOn first (TakesPieces Takes h.0 h.1 pieces new left r)
            (λ e. (new ≡ h.0) × (left ≡ h.1 ++ behind) × (r ≡ Err e))
            → (Truncates form_of h.1 → TakesPieces Takes h.0 h.1 pieces new left r → Whole h.0 new (h.1 ++ behind) left r)
            → Whole old new (kept ++ (piece ++ behind)) left r
        pick (Ok done) call more others =
            let later =
            others (subst (λ (x : List ℕ). Truncates form_of x) (sym call.ends.1) call.ends.0) more in
            let from : call.rest ++ behind ≡ later.front ++ later.at =
            ap (λ (x : List ℕ). x ++ behind) (sym call.ends.1) ∙ later.cut in
            record {
              lines = call.lines ++ later.lines;
              front = call.front ++ later.front;
              at = later.at;
              cut = parts call.front call.rest call.cut ∙ ap (λ (x : List ℕ). call.front ++ x) from
                  ∙ sym (append_assoc call.front later.front later.at);
              joined = joined_append spells call.front later.front call.lines later.lines call.joined later.joined;
              applies = applied_both apply call.lines later.lines old h.0 new call.applies later.applies;
              ends = later.ends;
            }
        pick (Err e) call last others =
            let stops = halts_before h.0 call.rest h.1 behind e
            (halt h.0 call.rest h.1 e call.ends (λ m. ample (last.2 ∙ ap (λ (x : E). Err x) m))) in
            record {
              lines = call.lines;
              front = call.front;
              at = call.rest ++ behind;
              cut = parts call.front call.rest call.cut;
              joined = call.joined;
              applies = call.applies ∙ ap (λ (t : Table). Ok t) (sym last.0);
              ends = subst (λ (x : Result ⊤ E). Ends new (call.rest ++ behind) left x) (sym last.2)
                  (subst (λ (x : List ℕ). Halts new (call.rest ++ behind) x e) (sym last.1)
                  (subst (λ (t : Table). Halts t (call.rest ++ behind) (h.1 ++ behind) e) (sym last.0) stops));
            }

    nothing_truncates : Truncates form_of []
    nothing_truncates encoding rest e =
        let none : encoding ≡ [] = nil_append encoding rest (sym e) in (
          λ l s. (wire form_of).spells_some l (subst (λ (x : List ℕ). spells x l) none s),
          λ fault f. absurd (let b = f.begins in cc),
        )

    pub any_pieces : (t new other : Table) (pieces others : List (List ℕ)) (rest left : List ℕ) (r s : Result ⊤ E)
        → joined_pieces pieces ≡ joined_pieces others → TakesPieces Takes t [] pieces new rest r
        → TakesPieces Takes t [] others other left s → (r ≡ Err memory → ⊥) → (s ≡ Err memory → ⊥)
        → TakenAlike fault_of refusal_of new other rest left r s
    any_pieces t new other pieces others rest left r s same h k ample also =
        let one = whole pieces [] t new rest r nothing_truncates h ample in
        let two = whole others [] t other left s nothing_truncates k also in
        one_way one.lines two.lines t new other one.front two.front one.at two.at rest left r s one.joined two.joined
        one.applies two.applies one.ends two.ends (sym one.cut ∙ same ∙ two.cut)
