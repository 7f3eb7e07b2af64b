-- Vectors of instructions, which are grown only where they have no room for the fields.
use Rattle.std.proofs.Common.{◌≡◌, ◌+◌, ◌*◌, ◌<◌, ◌≤◌, ◌++◌, ℕ, zero, suc, List, [], ◌∷◌, length}
use Rattle.std.proofs.Common.{get_or, map, take, vec_len, vec_capacity}
use Rattle.std.proofs.Common.{Result, Ok, Err, refl, ap, ◌∙◌, sym, arith, length-append}
use Rattle.std.proofs.lemmas.List.{map-append}
use Rattle.std.specs.declared.vec.Vec.{Vec}
use Rattle.qpack_spec.specs.Field.{Field, FieldLine, fields_of_lines, field_size, total_size}
use Rattle.qpack_spec.proofs.Sizes.{total_first, total_last}
use Rattle.qpack_base.specs.Writes.{Writes}
use Rattle.qpack_codec.specs.Encoding.{GrowsWithin, instructions_room}
use Rattle.qpack_codec.proofs.AddedFields.{front_of}

-- nothing was appended
pub grows_none : {A : Type 0} (room : ℕ) (v : Vec ℕ A) → GrowsWithin room v v
grows_none room v = record { longer = omega arith; still = λ h. refl; capacity = omega arith }

-- room for so many bytes was made, where there was less, within what a field's instruction may take
pub record MakesRoom {A : Type 0} (room : ℕ) (old made : Vec ℕ A) : Type 0 where
  pub least : ℕ
  pub within : least ≤ room
  pub len : vec_len made ≡ vec_len old
  pub still : vec_len old + least ≤ vec_capacity old → vec_capacity made ≡ vec_capacity old
  pub capacity : vec_capacity old ≤ vec_capacity made

-- what is written is as long as it is, or not there
wrote_longer : {A E : Type 0} (encoding : List ℕ) (old new : Vec ℕ A) (r : Result (Unit {0}) E)
    → Writes encoding old new r → vec_len new ≤ vec_len old + length encoding
wrote_longer encoding old new (Ok done) w =
    omega (arith, ap (λ (l : List ℕ). length l) w.ok, length-append old.items encoding, old.ok.0, new.ok.0)
wrote_longer encoding old new (Err e) w =
    omega (arith, ap (λ (l : List ℕ). length l) w.err, old.ok.0, new.ok.0)

-- room was made, and an instruction written into it
pub grows_written : {A E : Type 0} {room : ℕ} {old made : Vec ℕ A} (m : MakesRoom room old made) (encoding : List ℕ)
    (new : Vec ℕ A) (r : Result (Unit {0}) E) → vec_len made + m.least ≤ vec_capacity made
    → length encoding ≤ m.least → Writes encoding made new r → GrowsWithin room old new
grows_written {made = made} m encoding new r free small wrote =
    record {
      longer = omega (arith, wrote_longer encoding made new r wrote, m.len, small, m.within);
      still = λ fits. wrote.still (omega (arith, free, small)) ∙ m.still (omega (arith, fits, m.within));
      capacity = omega (arith, m.capacity, wrote.capacity);
    }

-- one behind the other
grows_on : {A : Type 0} (first second both : ℕ) (old mid new : Vec ℕ A) → GrowsWithin first old mid
    → GrowsWithin second mid new → first + second ≤ both → GrowsWithin both old new
grows_on first second both old mid new a b within =
    record {
      longer = omega (arith, a.longer, b.longer, within);
      still = λ fits. let same = a.still (omega (arith, fits, within)) in
          b.still (omega (arith, same, a.longer, fits, within)) ∙ same;
      capacity = omega (arith, a.capacity, b.capacity);
    }

front_smaller : {H : Type 0} (line : H → FieldLine) (xs : List H) (i : ℕ)
    → total_size (fields_of_lines (map line (take i xs))) ≤ total_size (fields_of_lines (map line xs))
front_smaller line xs zero = omega arith
front_smaller line [] (suc i) = omega arith
front_smaller line (x ∷ xs) (suc i) =
    omega (
      arith,
      front_smaller line xs i,
      total_first (line x).field (fields_of_lines (map line (take i xs))),
      total_first (line x).field (fields_of_lines (map line xs)),
    )

-- the room of field lines with one more
room_last : (ls : List FieldLine) (l : FieldLine)
    → instructions_room (fields_of_lines (ls ++ l ∷ [])) ≡ instructions_room (fields_of_lines ls) + 4 * field_size
    l.field
room_last ls l =
    omega (
      arith,
      ap (λ (fs : List Field). total_size fs) (map-append (λ (k : FieldLine). k.field) ls (l ∷ [])),
      total_last (fields_of_lines ls) l.field,
    )

-- a field line more
pub grows_next : {H A : Type 0} (line : H → FieldLine) (xs : List H) (i : ℕ) (x : H) (l : FieldLine)
    (old mid new : Vec ℕ A) → i < length xs → x ≡ get_or xs i x → l ≡ line x
    → GrowsWithin (instructions_room (fields_of_lines (map line (take i xs)))) old mid
    → GrowsWithin (4 * field_size l.field) mid new
    → GrowsWithin (instructions_room (fields_of_lines (map line (take (i + 1) xs)))) old new
grows_next {H = H} line xs i x l old mid new within is lent so_far more =
    let front : map line (take (i + 1) xs) ≡ map line (take i xs) ++ line x ∷ [] =
    front_of line xs i x within ∙ ap (λ (y : H). map line (take i xs) ++ line y ∷ []) (sym is) in
    grows_on (instructions_room (fields_of_lines (map line (take i xs)))) (4 * field_size l.field)
    (instructions_room (fields_of_lines (map line (take (i + 1) xs)))) old mid new so_far more
    (omega (
      arith,
      ap (λ (ls : List FieldLine). instructions_room (fields_of_lines ls)) front,
      room_last (map line (take i xs)) (line x),
      ap (λ (k : FieldLine). field_size k.field) lent,
    ))

-- some of the field lines take no more than all
pub grows_front : {H A : Type 0} (line : H → FieldLine) (xs : List H) (i : ℕ) (old new : Vec ℕ A)
    → GrowsWithin (instructions_room (fields_of_lines (map line (take i xs)))) old new
    → GrowsWithin (instructions_room (fields_of_lines (map line xs))) old new
grows_front line xs i old new so_far =
    grows_on (instructions_room (fields_of_lines (map line (take i xs)))) 0
    (instructions_room (fields_of_lines (map line xs))) old new new so_far (grows_none 0 new)
    (omega (arith, front_smaller line xs i))
