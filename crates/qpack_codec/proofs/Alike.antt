-- Writers whose errors come back in a register.
use Rattle.std.proofs.Common.{ℕ, List, Result, Ok, Err}
use Rattle.std.specs.Prelude.{⊤}
use Rattle.std.specs.declared.vec.Vec.{Vec}
use Rattle.qpack_base.specs.Writes.{Writes}
use Rattle.qpack_codec.specs.Encoding.{AreAlike}

pub writes_alike : {A E F : Type 0} (encoding : List ℕ) (old new : Vec ℕ A) (r : Result ⊤ E) (q : Result ⊤ F)
    → AreAlike r q → Writes encoding old new r → Writes encoding old new q
writes_alike encoding old new (Ok a) (Ok b) alike w =
    record { ok = w.ok; err = tt; succeeds = λ _. cc; still = w.still; capacity = w.capacity }
writes_alike encoding old new (Ok a) (Err f) alike w = absurd alike
writes_alike encoding old new (Err e) (Ok b) alike w = absurd alike
writes_alike encoding old new (Err e) (Err f) alike w =
    record {
      ok = tt;
      err = w.err;
      succeeds = λ room. absurd (let s = w.succeeds room in cc);
      still = w.still;
      capacity = w.capacity;
    }
