-- Instructions that are taken from one place of their stream to another.
use Rattle.std.proofs.Common.{◌≡◌, ℕ, ◌+◌, ◌-◌, Bool, true, false, List, [], ◌∷◌, ◌++◌, Result, Ok, Err, refl}
use Rattle.std.proofs.Common.{length, sym, ap, subst, ◌∙◌, append_assoc, length-append, arith}
use Rattle.std.specs.Prelude.{⊤}
use Rattle.qpack_spec.specs.Instruction.{encoder_instruction_form}
use Rattle.qpack_spec.specs.Table.{Table}
use Rattle.qpack_rules.proofs.Taking.{joined_last, applied_last}
use Rattle.qpack_codec.specs.Taking.{TakesOneOf, EndsTakingOf}
use Rattle.qpack_codec.specs.declared.error.DecoderError.{DecoderError}
use Rattle.qpack_shared.specs.Places.{first_place, passed}
use Rattle.qpack_shared.specs.declared.place.Place.{Place}
use Rattle.qpack_decoding.specs.Receiving.{strict_apply, StopsStrictly, PassesOne, TakesFrom, TakesNextStrictly}
use Rattle.qpack_decoding.specs.Receiving.{TakesAllStrictly, IsBehind}

-- ---- places

passed_twice : (p : Place) (m n a b : ℕ) → passed (passed p m a) n b ≡ passed p (m + n) (a + b)
passed_twice p m n a b =
    let many : (passed (passed p m a) n b).number ≡ (passed p (m + n) (a + b)).number = omega arith in
    let len : (passed (passed p m a) n b).offset ≡ (passed p (m + n) (a + b)).offset = omega arith in
    λ i. record { number = many i; offset = len i }

passed_as : (many more len size : ℕ) → many ≡ more → len ≡ size
    → passed first_place many len ≡ passed first_place more size
passed_as many more len size lines bytes = λ i. passed first_place (lines i) (bytes i)

stays_behind : (at : Place) → IsBehind at at 0 0
stays_behind at lines bytes is =
    is ∙ passed_as lines (lines + 0) bytes (bytes + 0) (omega arith) (omega arith)

one_behind : (from at to : Place) (many len more : ℕ) → IsBehind from at many len → to ≡ passed at 1 more
    → IsBehind from to (many + 1) (len + more)
one_behind from at to many len more h moved lines bytes is =
    moved ∙ ap (λ (p : Place). passed p 1 more) (h lines bytes is)
    ∙ passed_twice first_place (lines + many) 1 (bytes + len) more
    ∙ passed_as (lines + many + 1) (lines + (many + 1)) (bytes + len + more) (bytes + (len + more)) (omega arith)
    (omega arith)

-- ---- instructions one by one

-- none is taken, and the place stays
pub none_taken : (t : Table) (from : Place) (bytes : List ℕ) (P : List ℕ → Type 0) → P bytes
    → TakesFrom t t from from bytes P
none_taken t from bytes P ends = (
  record { lines = []; front = []; rest = bytes; cut = refl; joined = refl; applies = refl; ends = ends },
  stays_behind from,
)

-- these were taken so far
abbrev pub HasTaken : Table → Table → Place → Place → List ℕ → List ℕ → Type 0
HasTaken old now from at bytes rest = TakesFrom old now from at bytes (λ left. left ≡ rest)

pub one_further : (old now new : Table) (from at to : Place) (bytes rest left : List ℕ)
    → HasTaken old now from at bytes rest
    → TakesOneOf encoder_instruction_form strict_apply now new rest left
    → PassesOne at to rest left (Ok true) → HasTaken old new from to bytes left
one_further old now new from at to bytes rest left h one moved =
    let len : length rest - length left ≡ length one.encoding =
    omega (arith, ap length one.cut, length-append one.encoding left) in (
      record {
        lines = h.0.lines ++ one.instruction ∷ [];
        front = h.0.front ++ one.encoding;
        rest = left;
        cut = h.0.cut ∙ ap (λ (x : List ℕ). h.0.front ++ x) (h.0.ends ∙ one.cut)
            ∙ sym (append_assoc h.0.front one.encoding left);
        joined = joined_last encoder_instruction_form h.0.lines h.0.front one.encoding one.instruction h.0.joined
            one.spells;
        applies = applied_last strict_apply h.0.lines one.instruction old now new h.0.applies one.applies;
        ends = refl;
      },
      subst (λ (n : ℕ). IsBehind from to n (length (h.0.front ++ one.encoding)))
          (sym (length-append h.0.lines (one.instruction ∷ [])))
          (subst (λ (n : ℕ). IsBehind from to (length h.0.lines + 1) n)
          (sym (length-append h.0.front one.encoding))
          (one_behind from at to (length h.0.lines) (length h.0.front) (length one.encoding) h.1
          (moved ∙ ap (passed at 1) len))),
    )

-- ---- where it ends

-- behind them it ends so
taken_to : (old now new : Table) (from at to : Place) (bytes rest left : List ℕ) (r : Result ⊤ DecoderError)
    → HasTaken old now from at bytes rest → new ≡ now → to ≡ at
    → EndsTakingOf encoder_instruction_form StopsStrictly new rest left r
    → TakesAllStrictly old new from to bytes left r
taken_to old now new from at to bytes rest left r h same stays ends = (
  record {
    lines = h.0.lines;
    front = h.0.front;
    rest = h.0.rest;
    cut = h.0.cut;
    joined = h.0.joined;
    applies = h.0.applies ∙ ap (λ (t : Table). Ok t) (sym same);
    ends = subst (λ (more : List ℕ). EndsTakingOf encoder_instruction_form StopsStrictly new more left r)
        (sym h.0.ends) ends;
  },
  λ lines bytes is. stays ∙ h.1 lines bytes is,
)

-- none stands whole any more
pub taken_all : (old now new : Table) (from at to : Place) (bytes rest left : List ℕ) (b : Bool)
    → HasTaken old now from at bytes rest → TakesNextStrictly now new rest left (Ok b)
    → PassesOne at to rest left (Ok b) → b ≡ false → TakesAllStrictly old new from to bytes left (Ok tt)
taken_all old now new from at to bytes rest left true h takes moved is = absurd cc
taken_all old now new from at to bytes rest left false h takes moved is =
    taken_to old now new from at to bytes rest left (Ok tt) h takes.2 moved (takes.0, takes.1)

-- the next one is not taken
pub taken_until : (old now new : Table) (from at to : Place) (bytes rest left : List ℕ) (e : DecoderError)
    → HasTaken old now from at bytes rest → TakesNextStrictly now new rest left (Err e) → to ≡ at
    → TakesAllStrictly old new from to bytes left (Err e)
taken_until old now new from at to bytes rest left e h takes stays =
    taken_to old now new from at to bytes rest left (Err e) h takes.1 stays
    (subst (λ (t : Table). StopsStrictly t rest left e) (sym takes.1) takes.0)

-- where the next one was taken, it was one
pub one_passed : (at to : Place) (rest left : List ℕ) (b : Bool) → PassesOne at to rest left (Ok b) → b ≡ true
    → PassesOne at to rest left (Ok true)
one_passed at to rest left true moved is = moved
one_passed at to rest left false moved is = absurd cc
