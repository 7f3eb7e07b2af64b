-- Calls of `next_line` one behind the other find what the bytes hold.
use Rattle.std.proofs.Common.{◌≡◌, ℕ, List, [], ◌∷◌, ◌++◌, Option, Some, None, Result, Ok, Err, refl, sym, ap, subst}
use Rattle.std.proofs.Common.{◌∙◌, ◌⊎◌, inl, inr, append_assoc}
use Rattle.qpack_base.specs.Cursor.{CursorView, MovesPast}
use Rattle.qpack_base.specs.declared.parse_error.ParseError.{ParseError}
use Rattle.qpack_base.specs.declared.parse_error.ParseError.TheVariants.{Memory}
use Rattle.qpack_wire.specs.Alone.{KindFault}
use Rattle.qpack_wire.specs.NextLines.{ReadsNoLine, NextLinesAreTheReading}
use Rattle.qpack_wire.specs.StreamAnswers.{StaysUnlessRead, GivesInstruction}

no_line_given : {V L : Type 0} (view : V → L) (r : Result (Option V) ParseError) (l : L) (moved : Type 0)
    → ReadsNoLine r
    → GivesInstruction view r l moved ⊎ (r ≡ Err Memory) → ⊥
no_line_given view (Ok None) l moved none (inl given) = given
no_line_given view (Ok None) l moved none (inr refused) = absurd cc
no_line_given view (Ok (Some v)) l moved none answer = none
no_line_given view (Err e) l moved none (inl given) = given
no_line_given {V} view (Err e) l moved none (inr refused) =
    subst (λ (r : Result (Option V) ParseError). ReadsNoLine r) refused none

stays : {V : Type 0} (old new : CursorView) (r : Result (Option V) ParseError) → ReadsNoLine r
    → StaysUnlessRead old new r
    → new ≡ old
stays old new (Ok None) none still = still
stays old new (Ok (Some v)) none still = absurd none
stays old new (Err e) none still = still

pub next_lines_read : {V L : Type 0} (view : V → L) (spells : List ℕ → L → Type 0) (refuses : List ℕ → KindFault
    → Type 0) → NextLinesAreTheReading view spells refuses
next_lines_read {V} {L} view spells refuses [] old new h =
    let same : new ≡ old = stays old new h.0 h.1 h.3 in
    record {
      front = [];
      cut = ap (λ (c : CursorView). c.rest) (sym same);
      joined = refl;
      cut_off = λ encoding more l e s. no_line_given view h.0 l (MovesPast encoding old new) h.1
          (h.2.only encoding more l s (ap (λ (c : CursorView). c.rest) (sym same) ∙ e));
    }
next_lines_read {V} {L} view spells refuses (l ∷ lines) old new h =
    let more = next_lines_read view spells refuses lines h.1 new h.4 in
    let found = h.3.found in
    record {
      front = found.0 ++ more.front;
      cut = found.2.0 ∙ ap (λ (x : List ℕ). found.0 ++ x) more.cut ∙ sym (append_assoc found.0 more.front new.rest);
      joined = (found.0, more.front, refl, subst (λ (x : L). spells found.0 x) h.2 found.1, more.joined);
      cut_off = more.cut_off;
    }
