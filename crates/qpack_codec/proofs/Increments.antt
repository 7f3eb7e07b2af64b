-- Increments, written one behind the other.
use Rattle.std.proofs.Common.{◌≡◌, ℕ, ◌+◌, ◌<◌, ◌≤◌, min, List, [], ◌++◌, take, length, vec_len, vec_capacity, sym, ap}
use Rattle.std.proofs.Common.{◌∙◌, arith, append_assoc, append-nil, length-append, refl}
use Rattle.std.specs.Prelude.{OnOk, OnErr, IsOk, Result, Ok, Err, true, false}
use Rattle.std.specs.Result.{is_err}
use Rattle.std.specs.declared.vec.Vec.{Vec}
use Rattle.std.proofs.Math.Seq.{take-append_seam}
use Rattle.std.proofs.lemmas.List.{take-append-le}
use Rattle.qpack_spec.specs.Instruction.{Increment, written_decoder_instruction}
use Rattle.qpack_spec.specs.Instruction.{written_decoder_instructions}
use Rattle.qpack_rules.specs.Session.{increments, pieces_of}
use Rattle.qpack_rules.proofs.Pieces.{pieces_next}
use Rattle.qpack_base.specs.Writes.{Writes}
use Rattle.qpack_codec.specs.Receiving.{written_report}
use Rattle.qpack_base.specs.declared.coding.NoMemory.{NoMemory}

-- of so many insertions these are still to be reported: what reports them is missing, and the vector is grown only
-- where the whole report has no room
pub record HasReported {A : Type 0} (many rest : ℕ) (old now : Vec ℕ A) : Type 0 where
  pub written : now.items ++ written_report rest ≡ old.items ++ written_report many
  pub longer : length old.items ≤ length now.items
  pub within : rest ≤ many
  pub capacity : vec_capacity old ≤ vec_capacity now
  pub still : vec_len old + length (written_report many) ≤ vec_capacity old → vec_capacity now ≡ vec_capacity old

pub reported_none : {A : Type 0} (many : ℕ) (old : Vec ℕ A) → HasReported many many old old
reported_none many old =
    record {
      written = refl;
      longer = omega arith;
      within = omega arith;
      capacity = omega arith;
      still = λ h. refl;
    }

-- ---- one piece more

report_next : (rest left piece : ℕ) → 0 < rest → piece ≡ min rest 64 → left + piece ≡ rest
    → written_report rest ≡ written_decoder_instruction (Increment piece) ++ written_report left
unfolding written_decoder_instructions
report_next rest left piece some least parts =
    ap (λ (ns : List ℕ). written_decoder_instructions (increments ns)) (pieces_next rest left piece some least parts)

-- as long as what is missing fits, the next piece does
next_fits : {A : Type 0} (many rest left piece : ℕ) (old now : Vec ℕ A) → HasReported many rest old now
    → 0 < rest → piece ≡ min rest 64 → left + piece ≡ rest
    → vec_len old + length (written_report many) ≤ vec_capacity old
    → vec_len now + length (written_decoder_instruction (Increment piece)) ≤ vec_capacity now
next_fits many rest left piece old now h some least parts fits =
    omega (
      arith,
      fits,
      h.still fits,
      ap (λ (l : List ℕ). length l) h.written,
      length-append now.items (written_report rest),
      length-append old.items (written_report many),
      ap (λ (l : List ℕ). length l) (report_next rest left piece some least parts),
      length-append (written_decoder_instruction (Increment piece)) (written_report left),
      old.ok.0,
      now.ok.0,
    )

pub reported_more : {A : Type 0} (many rest left piece : ℕ) (old now new : Vec ℕ A) → HasReported many rest old now
    → 0 < rest → piece ≡ min rest 64 → left + piece ≡ rest
    → new.items ≡ now.items ++ written_decoder_instruction (Increment piece)
    → (vec_len now + length (written_decoder_instruction (Increment piece)) ≤ vec_capacity now → vec_capacity new
    ≡ vec_capacity now)
    → vec_capacity now ≤ vec_capacity new → HasReported many left old new
reported_more many rest left piece old now new h some least parts wrote still grows =
    record {
      written = ap (λ (l : List ℕ). l ++ written_report left) wrote
          ∙ append_assoc now.items (written_decoder_instruction (Increment piece)) (written_report left)
          ∙ ap (λ (l : List ℕ). now.items ++ l) (sym (report_next rest left piece some least parts))
          ∙ h.written;
      longer = omega (
        arith,
        h.longer,
        ap (λ (l : List ℕ). length l) wrote,
        length-append now.items (written_decoder_instruction (Increment piece)),
      );
      within = omega (arith, h.within, parts);
      capacity = omega (arith, h.capacity, grows);
      still = λ fits. still (next_fits many rest left piece old now h some least parts fits) ∙ h.still fits;
    }

-- ---- how it ends

nothing_more : written_report 0 ≡ []
unfolding written_decoder_instructions pieces_of
nothing_more = refl

pub reported_all : {A : Type 0} (many rest : ℕ) (old now : Vec ℕ A) → HasReported many rest old now → rest ≤ 0
    → Writes {E = NoMemory} (written_report many) old now (Ok tt)
reported_all many rest old now h none =
    let is : rest ≡ 0 = omega (arith, none) in
    record {
      ok = sym (append-nil now.items)
          ∙ ap (λ (l : List ℕ). now.items ++ l) (sym nothing_more)
          ∙ ap (λ (n : ℕ). now.items ++ written_report n) (sym is)
          ∙ h.written;
      err = tt;
      succeeds = λ fits. refl;
      still = h.still;
      capacity = h.capacity;
    }

-- cut back to what stood before
cut_back : {A : Type 0} (many rest : ℕ) (old now : Vec ℕ A) → HasReported many rest old now
    → take (length old.items) now.items ≡ old.items
cut_back many rest old now h =
    sym (take-append-le (length old.items) now.items (written_report rest) h.longer)
    ∙ ap (λ (l : List ℕ). take (length old.items) l) h.written
    ∙ take-append_seam old.items (written_report many)

no_ok : {A E : Type 0} (r : Result A E) → IsOk r → is_err r ≡ true → ⊥
no_ok (Ok x) ok is = absurd cc
no_ok (Err e) ok is = absurd (let f = ok in cc)

err_of : {A E : Type 0} (r : Result A E) (P : Type 0) → OnErr r P → is_err r ≡ true → P
err_of (Ok x) P h is = absurd cc
err_of (Err e) P h is = h

-- a piece was refused: what was written is cut off
pub reported_refused : {A : Type 0} (many rest left piece : ℕ) (old now new end : Vec ℕ A)
    (r : Result (Unit {0}) NoMemory) (e : NoMemory) → HasReported many rest old now → 0 < rest → piece ≡ min rest 64
    → left + piece ≡ rest → Writes (written_decoder_instruction (Increment piece)) now new r → is_err r ≡ true
    → end.items ≡ take (length old.items) new.items → vec_capacity end ≡ vec_capacity new
    → Writes (written_report many) old end (Err e)
reported_refused many rest left piece old now new end r e h some least parts wrote is cut same =
    let next = next_fits many rest left piece old now h some least parts in
    record {
      ok = tt;
      err = cut
          ∙ ap (λ (l : List ℕ). take (length old.items) l) (err_of r _ wrote.err is)
          ∙ cut_back many rest old now h;
      succeeds = λ fits. absurd (no_ok r (wrote.succeeds (next fits)) is);
      still = λ fits. same ∙ wrote.still (next fits) ∙ h.still fits;
      capacity = omega (arith, h.capacity, wrote.capacity, same);
    }

-- what a successful answer promises
pub ok_of : {A E : Type 0} (r : Result A E) (P : Type 0) → OnOk r P → is_err r ≡ false → P
ok_of (Ok x) P h is = h
ok_of (Err e) P h is = absurd cc
