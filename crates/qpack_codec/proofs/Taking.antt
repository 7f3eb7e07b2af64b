-- Instructions that are taken in turn, at either end.
use Rattle.std.proofs.Common.{◌≡◌, ℕ, ◌+◌, ◌<◌, Bool, true, false, List, [], ◌∷◌, ◌++◌, Option, Result, Ok, Err, refl}
use Rattle.std.proofs.Common.{length, sym, ap, subst, ◌∙◌, append_assoc, length-append, arith}
use Rattle.std.specs.Prelude.{⊤}
use Rattle.qpack_spec.specs.Form.{Form}
use Rattle.qpack_spec.specs.Table.{Table}
use Rattle.qpack_rules.specs.Taking.{TakesAllOf}
use Rattle.qpack_spec.specs.Window.{TableRefusal}
use Rattle.qpack_rules.proofs.Taking.{joined_last, applied_last}
use Rattle.qpack_codec.specs.Taking.{TakesOneOf, TakesNextOf, EndsTakingOf}

module _ {L E : Type 0} (form_of : ℕ → Option (Form L)) (apply : Table → L → Result Table TableRefusal)
    (Stops : Table → List ℕ → List ℕ → E → Type 0) where
  -- these were taken so far
  abbrev pub HasTaken : Table → Table → List ℕ → List ℕ → Type 0
  HasTaken old now bytes rest = TakesAllOf form_of apply old now bytes (λ front left. left ≡ rest)

  pub taken_none : (t : Table) (bytes : List ℕ) → HasTaken t t bytes bytes
  taken_none t bytes =
      record { lines = []; front = []; rest = bytes; cut = refl; joined = refl; applies = refl; ends = refl }

  pub taken_more : (old now new : Table) (bytes rest left : List ℕ) → HasTaken old now bytes rest
      → TakesOneOf form_of apply now new rest left → HasTaken old new bytes left
  taken_more old now new bytes rest left h one =
      record {
        lines = h.lines ++ one.instruction ∷ [];
        front = h.front ++ one.encoding;
        rest = left;
        cut = h.cut ∙ ap (λ (x : List ℕ). h.front ++ x) (h.ends ∙ one.cut)
            ∙ sym (append_assoc h.front one.encoding left);
        joined = joined_last form_of h.lines h.front one.encoding one.instruction h.joined one.spells;
        applies = applied_last apply h.lines one.instruction old now new h.applies one.applies;
        ends = refl;
      }

  -- an instruction takes a byte at least
  pub one_shortens : (now new : Table) (rest left : List ℕ) → TakesOneOf form_of apply now new rest left
      → length left < length rest
  one_shortens now new rest left one =
      let parts : length rest ≡ length one.encoding + length left =
      ap length one.cut ∙ length-append one.encoding left in
      omega (arith, parts, ap length one.spells.begins)

  pub one_was : (old new : Table) (rest left : List ℕ) (b : Bool)
      → TakesNextOf form_of apply Stops old new rest left (Ok b) → b ≡ true
      → TakesOneOf form_of apply old new rest left
  one_was old new rest left true takes is = takes
  one_was old new rest left false takes is = absurd cc

  -- behind them it ends so
  taken_to : (old now new : Table) (bytes rest left : List ℕ) (r : Result ⊤ E) → HasTaken old now bytes rest
      → new ≡ now → EndsTakingOf form_of Stops new rest left r
      → TakesAllOf form_of apply old new bytes (λ front more. EndsTakingOf form_of Stops new more left r)
  taken_to old now new bytes rest left r h same ends =
      record {
        lines = h.lines;
        front = h.front;
        rest = h.rest;
        cut = h.cut;
        joined = h.joined;
        applies = h.applies ∙ ap (λ (t : Table). Ok t) (sym same);
        ends = subst (λ (more : List ℕ). EndsTakingOf form_of Stops new more left r) (sym h.ends) ends;
      }

  -- none stands whole any more
  pub taken_all : (old now new : Table) (bytes rest left : List ℕ) (b : Bool) → HasTaken old now bytes rest
      → TakesNextOf form_of apply Stops now new rest left (Ok b) → b ≡ false
      → TakesAllOf form_of apply old new bytes (λ front more. EndsTakingOf form_of Stops new more left (Ok tt))
  taken_all old now new bytes rest left true h takes is = absurd cc
  taken_all old now new bytes rest left false h takes is =
      taken_to old now new bytes rest left (Ok tt) h takes.2 (takes.0, takes.1)

  -- the next one is not taken
  pub taken_until : (old now new : Table) (bytes rest left : List ℕ) (e : E) → HasTaken old now bytes rest
      → TakesNextOf form_of apply Stops now new rest left (Err e)
      → TakesAllOf form_of apply old new bytes (λ front more. EndsTakingOf form_of Stops new more left (Err e))
  taken_until old now new bytes rest left e h takes =
      taken_to old now new bytes rest left (Err e) h takes.1
      (subst (λ (t : Table). Stops t rest left e) (sym takes.1) takes.0)
