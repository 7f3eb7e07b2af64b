-- Bytes that are to be sent, behind some that were.
use Rattle.std.proofs.Common.{◌≡◌, ◌+◌, ◌≤◌, ℕ, List, ◌++◌, length, drop, Result, Ok, Err, ap, ◌∙◌, arith, refl}
use Rattle.std.proofs.Common.{vec_len, vec_capacity, inl, inr}
use Rattle.std.specs.Prelude.{⊤, ◌⊎◌, IsOk, OnOk, OnErr}
use Rattle.std.specs.declared.vec.Vec.{Vec}
use Rattle.std.proofs.lemmas.Bool.{cases_lt}
use Rattle.std.proofs.lemmas.List.{drop-append-le, length-drop}
use Rattle.qpack_base.specs.Writes.{Writes}
use Rattle.qpack_shared.specs.Unsent.{UnsentView, HasRoom, LacksRoom, Appends}

-- what is appended to all is appended to those that are to be sent
pub appended : (sent : ℕ) (old new bytes : List ℕ) → sent + sent ≤ length old → new ≡ old ++ bytes
    → drop sent new ≡ drop sent old ++ bytes
appended sent old new bytes few is = ap (drop sent) is ∙ drop-append-le sent old bytes (omega (arith, few))

-- ---- room

-- the bytes that are to be sent, of a vector of which so many were sent
abbrev pub unsent_of : {A : Type 0} → ℕ → Vec ℕ A → UnsentView
unsent_of sent v = record { bytes = drop sent v.items; front = sent; capacity = vec_capacity v }

-- what there is room for fits the vector
pub fits : {A : Type 0} (sent many : ℕ) (v : Vec ℕ A) → vec_len v ≡ length v.items → sent + sent ≤ length v.items
    → HasRoom many (unsent_of sent v) → vec_len v + many ≤ vec_capacity v
fits sent many v len few room = omega (arith, len, few, room, length-drop sent v.items)

on_ok : {A E : Type 0} {P Q : Type 0} (r : Result A E) → (P → Q) → OnOk r P → OnOk r Q
on_ok (Ok x) f h = f h
on_ok (Err e) f h = tt

on_err : {A E : Type 0} {P Q : Type 0} (r : Result A E) → (P → Q) → OnErr r P → OnErr r Q
on_err (Ok x) f h = tt
on_err (Err e) f h = f h

-- what fails although it succeeds with room has none
lacks_on_err : {A E : Type 0} (r : Result A E) (many : ℕ) (u : UnsentView) → (HasRoom many u → IsOk r)
    → OnErr r (LacksRoom many u)
lacks_on_err (Ok x) many u succeeds = tt
lacks_on_err (Err e) many u succeeds = pick (cases_lt u.capacity (u.front + length u.bytes + many))
  where
    pick : LacksRoom many u ⊎ HasRoom many u → LacksRoom many u
    pick (inl lacks) = lacks
    pick (inr room) = absurd (let y = succeeds room in cc)

-- what a writer leaves in the vector is appended to what is to be sent
pub appends : {A E : Type 0} (sent : ℕ) (bytes : List ℕ) (old new : Vec ℕ A) (r : Result ⊤ E)
    → vec_len old ≡ length old.items → sent + sent ≤ length old.items → Writes bytes old new r
    → Appends bytes (unsent_of sent old) (unsent_of sent new) r
appends sent bytes old new r len few w =
    record {
      ok = on_ok r (appended sent old.items new.items bytes few) w.ok;
      err = on_err r (ap (drop sent)) w.err;
      lacks = lacks_on_err r (length bytes) (unsent_of sent old)
          (λ room. w.succeeds (fits sent (length bytes) old len few room));
      room = record {
        still = λ room. w.still (fits sent (length bytes) old len few room);
        capacity = w.capacity;
        front = refl;
      };
    }
