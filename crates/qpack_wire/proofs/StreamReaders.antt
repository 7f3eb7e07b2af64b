-- What a reader of instructions answers in terms of spellings and refusals, where it reads a form alone and answers
-- none of an early end.
use Rattle.std.proofs.Common.{◌≡◌, ℕ, Bool, true, false, List, Option, None, Some, Result, Ok, Err, refl, sym, ap, ◌∙◌}
use Rattle.std.proofs.Common.{subst, inl, inr, ◌⊎◌, rules}
use Rattle.std.specs.Prelude.{IfSome}
use Rattle.qpack_spec.specs.Integer.{UnexpectedEnd}
use Rattle.qpack_spec.specs.Text.{EndsEarly}
use Rattle.qpack_spec.specs.Form.{BadInteger, BadString}
use Rattle.qpack_base.specs.Cursor.{CursorView}
use Rattle.qpack_base.specs.declared.prefix_int.Error.TheVariants as integer
use Rattle.qpack_base.specs.declared.prefix_string.Error.TheVariants as string
use Rattle.qpack_base.specs.declared.parse_error.ParseError.{ParseError}
use Rattle.qpack_base.specs.declared.parse_error.ParseError.TheVariants.{Integer, String}
use Rattle.qpack_wire.specs.Alone.{KindFault, Unreadable, is_cut_kind}
use Rattle.qpack_wire.specs.Answers.{fault_of, Tells, Fails, FailsEarly, Gives, TellsRefusal, ReadsForm}
use Rattle.qpack_wire.specs.StreamAnswers.{FindsInstruction, GivesInstruction, ReadsInstruction, TellsNone}
use Rattle.qpack_wire.specs.StreamAnswers.{DecodesInstruction, without_end}
use Rattle.qpack_wire.proofs.Readers.{Follows, found, only, refusals, ends, failed}

abbrev none : {V : Type 0} → Result (Option V) ParseError
none = Ok None

-- an error tells an early end, or it stays
record IsEnd (V : Type 0) (e : ParseError) : Type 0 where
  pub is : without_end {V = V} (failed e) ≡ none
  pub told : (fault : KindFault) × (is_cut_kind fault ≡ true) × Tells e fault
  pub cut : (fault : KindFault) → Tells e fault → is_cut_kind fault ≡ true

record IsStaying (V : Type 0) (e : ParseError) : Type 0 where
  pub is : without_end {V = V} (failed e) ≡ failed e
  pub whole : (fault : KindFault) → Tells e fault → is_cut_kind fault ≡ false

-- an error tells nothing but what its fault is
cut_as_told : (e : ParseError) (o : Option KindFault) (b : Bool) → fault_of e ≡ o → IfSome o (λ f. is_cut_kind f ≡ b)
    → (fault : KindFault) → Tells e fault → is_cut_kind fault ≡ b
cut_as_told e None b is h fault t = absurd cc
cut_as_told e (Some f) b is h fault t = let s : f ≡ fault = cc in ap is_cut_kind (sym s) ∙ h

end_or_error : (V : Type 0) (e : ParseError) → IsEnd V e ⊎ IsStaying V e
end_or_error V (Integer integer.UnexpectedEnd) =
    let is = Unreadable (BadInteger UnexpectedEnd) in
    inl (record {
      is = refl;
      told = (is, refl, refl);
      cut = cut_as_told (Integer integer.UnexpectedEnd) (Some is) true refl refl;
    })
end_or_error V (String string.UnexpectedEnd) =
    let is = Unreadable (BadString EndsEarly) in inl
    (record {
      is = refl;
      told = (is, refl, refl);
      cut =
          cut_as_told (String string.UnexpectedEnd) (Some is) true refl refl;
    })
end_or_error V e = inr (record { is = refl; whole = cut_as_told e (fault_of e) false refl (search rules) })

not_both : (fault : KindFault) → is_cut_kind fault ≡ true → is_cut_kind fault ≡ false → ⊥
not_both fault p q = absurd cc

-- ---- the clauses of an instruction's reader

line_found : {V L : Type 0} (view : V → L) (spells : List ℕ → L → Type 0) (refuses : List ℕ → KindFault → Type 0)
    (read : List ℕ → Result (L × List ℕ) KindFault) → Follows L spells refuses read
    → (old new : CursorView) (r : Result V ParseError) → ReadsForm view old new r (read old.rest)
    → FindsInstruction view spells old new (without_end r)
line_found view spells refuses read w old new (Ok v) h = found view spells refuses read w old new (Ok v) h
line_found {V} view spells refuses read w old new (Err e) h = pick (end_or_error V e)
  where
    pick : IsEnd V e ⊎ IsStaying V e → FindsInstruction view spells old new (without_end (Err e))
    pick (inl p) = subst (FindsInstruction view spells old new) (sym p.is) tt
    pick (inr p) = subst (FindsInstruction view spells old new) (sym p.is) tt

gives_line : {V L : Type 0} (view : V → L) (r : Result V ParseError) (l : L) (moved : Type 0) → Gives view r l moved
    → GivesInstruction view (without_end r) l moved
gives_line view (Ok v) l moved g = g
gives_line view (Err e) l moved g = absurd g

line_only : {V L : Type 0} (view : V → L) (spells : List ℕ → L → Type 0) (refuses : List ℕ → KindFault → Type 0)
    (read : List ℕ → Result (L × List ℕ) KindFault) → Follows L spells refuses read
    → (old new : CursorView) (r : Result V ParseError) → ReadsForm view old new r (read old.rest)
    → ReadsInstruction view spells old new (without_end r)
line_only view spells refuses read w old new r h encoding rest l s parts =
    elim (only view spells refuses read w old new r h encoding rest l s parts) [
      | inl g ↦ inl (gives_line view r l _ g)
      | inr m ↦ inr (ap without_end m)
    ]

fails_whole : {V : Type 0} (r : Result V ParseError) (fault : KindFault) → Fails (without_end r) fault → Fails r fault
fails_whole (Ok v) fault f = absurd f
fails_whole {V} (Err e) fault f = pick (end_or_error V e)
  where
    pick : IsEnd V e ⊎ IsStaying V e → Tells e fault
    pick (inl p) = absurd (subst (λ x. Fails x fault) p.is f)
    pick (inr p) = subst (λ x. Fails x fault) p.is f

whole_fails : {V : Type 0} (r : Result V ParseError) (fault : KindFault) → is_cut_kind fault ≡ false → Fails r fault
    → Fails (without_end r) fault
whole_fails (Ok v) fault k f = absurd f
whole_fails {V} (Err e) fault k f = pick (end_or_error V e)
  where
    pick : IsEnd V e ⊎ IsStaying V e → Fails (without_end {V = V} (failed e)) fault
    pick (inl p) = absurd (not_both fault (p.cut fault f) k)
    pick (inr p) = subst (λ x. Fails x fault) (sym p.is) f

line_refusals : {V L : Type 0} (view : V → L) (spells : List ℕ → L → Type 0) (refuses : List ℕ → KindFault → Type 0)
    (read : List ℕ → Result (L × List ℕ) KindFault) → Follows L spells refuses read
    → (old new : CursorView) (r : Result V ParseError) → ReadsForm view old new r (read old.rest)
    → TellsRefusal refuses old (without_end r)
line_refusals view spells refuses read w old new r h fault = (
  λ k f. (refusals view spells refuses read w old new r h fault).0 k (fails_whole r fault f),
  λ b.
      elim ((refusals view spells refuses read w old new r h fault).1 b) [
        | inl f ↦ inl (whole_fails r fault (w.whole b.encoding fault b.holds) f)
        | inr m ↦ inr (ap without_end m)
      ],
)

none_ends : {V : Type 0} (r : Result V ParseError) → without_end r ≡ none → FailsEarly r
none_ends (Ok v) q = absurd cc
none_ends {V} (Err e) q = pick (end_or_error V e)
  where
    pick : IsEnd V e ⊎ IsStaying V e → FailsEarly (failed {V = V} e)
    pick (inl p) = p.told
    pick (inr p) = absurd (let s = p.is in cc)

ends_none : {V : Type 0} (r : Result V ParseError) → FailsEarly r → without_end r ≡ none
ends_none (Ok v) f = absurd f.2
ends_none {V} (Err e) f = pick (end_or_error V e)
  where
    pick : IsEnd V e ⊎ IsStaying V e → without_end {V = V} (failed e) ≡ none
    pick (inl p) = p.is
    pick (inr p) = absurd (not_both f.0 f.1 (p.whole f.0 f.2))

never_early : {V : Type 0} (r : Result V ParseError) → FailsEarly (without_end r) → ⊥
never_early (Ok v) f = absurd f.2
never_early {V} (Err e) f = pick (end_or_error V e)
  where
    pick : IsEnd V e ⊎ IsStaying V e → ⊥
    pick (inl p) = subst (λ x. Fails x f.0) p.is f.2
    pick (inr p) = not_both f.0 f.1 (p.whole f.0 (subst (λ x. Fails x f.0) p.is f.2))

line_ends : {V L : Type 0} (view : V → L) (spells : List ℕ → L → Type 0) (refuses : List ℕ → KindFault → Type 0)
    (read : List ℕ → Result (L × List ℕ) KindFault) → Follows L spells refuses read
    → (old new : CursorView) (r : Result V ParseError) → ReadsForm view old new r (read old.rest)
    → TellsNone spells refuses old (without_end r)
line_ends view spells refuses read w old new r h = (
  λ q. (ends view spells refuses read w old new r h).0 (none_ends r q),
  λ t.
      elim ((ends view spells refuses read w old new r h).1 t) [
        | inl f ↦ inl (ends_none r f)
        | inr m ↦ inr (ap without_end m)
      ],
  never_early r,
)

-- a reader that answers none of an early end decodes its instruction, where it reads it from left to right
pub decodes_instruction : {V L : Type 0} {view : V → L} {spells : List ℕ → L → Type 0}
    {refuses : List ℕ → KindFault → Type 0} {read : List ℕ → Result (L × List ℕ) KindFault}
    {old new : CursorView} {answer : Result (Option V) ParseError} → Follows L spells refuses read
    → (r : Result V ParseError) → answer ≡ without_end r
    → ReadsForm view old new r (read old.rest) → DecodesInstruction view spells refuses old new answer
decodes_instruction {V} {L} {view} {spells} {refuses} {read} {old} {new} w r is h =
    subst (DecodesInstruction view spells refuses old new) (sym is)
    (record {
      found = line_found view spells refuses read w old new r h;
      only = line_only view spells refuses read w old new r h;
      refused = line_refusals view spells refuses read w old new r h;
      truncated = line_ends view spells refuses read w old new r h;
    })
