-- A prefix is read from left to right as its relation, and its required insert count by residues.
use Rattle.std.proofs.Common.{◌≡◌, ℕ, ◌+◌, ◌-◌, ◌*◌, ◌/◌, ◌%◌, ◌<◌, ◌≤◌, false, List, ◌++◌, Result, Ok, Err, refl, sym}
use Rattle.std.proofs.Common.{ap, subst, ◌∙◌, append_assoc, arith, inl, inr, ◌⊎◌}
use Rattle.std.specs.Prelude.{nat_eq}
use Rattle.std.proofs.Math.Nat.{div-add-mod, add-mul-mod_self_left}
use Rattle.qpack_spec.specs.Bytes.{Begins, ◌>>=◌}
use Rattle.qpack_spec.specs.Integer.{Overflow, UnexpectedEnd, integer_at}
use Rattle.qpack_spec.specs.Form.{FormFault, BadInteger, BadString, is_cut, RefusesIndex, or_bad_integer}
use Rattle.qpack_spec.specs.Prefix.{Prefix, SpellsPrefix, required_at, prefix_at}
use Rattle.qpack_spec.proofs.Forms.{index_takes, index_again, index_refused, index_refusal}
use Rattle.qpack_spec.proofs.BlockLaws.{reads_prefixes}
use Rattle.qpack_wire.specs.Alone.{KindFault, Unreadable, Foreign, is_cut_kind, or_unreadable}
use Rattle.qpack_wire.specs.Prefixes.{RefusesPrefix, read_prefix_at}
use Rattle.qpack_wire.proofs.Readers.{Follows}
use Rattle.qpack_wire.proofs.Alones.{readable_ok, readable_err}

-- the count less one away from the top, by residues alone
pub window_at : (total m count : ℕ) → 0 < count → count ≤ 2 * m
    → required_at (total + m) m count ≡ total + m - (total % (2 * m) + m + 2 * m - (count - 1)) % (2 * m)
unfolding required_at
window_at total m count some most =
    let split : (2 * m) * (total / (2 * m)) + total % (2 * m) ≡ total = div-add-mod total (2 * m) in
    let shape : total + m + 2 * m - (count - 1) ≡ (total % (2 * m) + m + 2 * m - (count - 1)) + (2 * m) *
    (total / (2 * m)) = omega arith in
    ap (λ (n : ℕ). total + m - n % (2 * m)) shape
    ∙ ap (λ (n : ℕ). total + m - n) (add-mul-mod_self_left (total % (2 * m) + m + 2 * m - (count - 1)) (2 * m)
    (total / (2 * m)))

-- ---- bytes

prefix_refused : (encoding rest : List ℕ) (fault : KindFault) → RefusesPrefix encoding fault
    → read_prefix_at (encoding ++ rest) ≡ Err fault
unfolding prefix_at
prefix_refused encoding rest (Unreadable f) (inl r) = rw (index_refused 8 encoding rest f r) refl
prefix_refused encoding rest (Unreadable f) (inr r) =
    let q : encoding ++ rest ≡ r.head ++ (r.tail ++ rest) = ap (λ x. x ++ rest) r.parts
    ∙ append_assoc r.head r.tail rest in
    rw (q, index_again 8 r.head (r.tail ++ rest) r.first.0 r.first.1, index_refused 7 r.tail rest f r.second) refl
prefix_refused encoding rest (Foreign bits) r = absurd r

abbrev Index : Type 0
Index = Result (ℕ × ℕ × List ℕ) FormFault

-- the delta behind a count
abbrev behind : ℕ → Index → Result (Prefix × List ℕ) FormFault
behind count read = read >>= λ d. Ok (record { count = count; sign = nat_eq d.0 1; delta = d.1 }, d.2)

behind_fails : (count : ℕ) (read : Index) (f : FormFault) → behind count read ≡ Err f → read ≡ Err f
behind_fails count (Ok d) f e = absurd cc
behind_fails count (Err g) f e = cc

prefix_fails : (bytes : List ℕ) (f : FormFault) → prefix_at bytes ≡ Err f → (r : Index)
    → or_bad_integer (integer_at 8 bytes) ≡ r
    → (r ≡ Err f) ⊎ ((i : ℕ × ℕ × List ℕ) × (or_bad_integer (integer_at 8 bytes) ≡ Ok i)
    × (or_bad_integer (integer_at 7 i.2) ≡ Err f))
unfolding prefix_at
prefix_fails bytes f e (Ok i) q =
    let h = rw q at e in inr (i, q, behind_fails i.1 (or_bad_integer (integer_at 7 i.2)) f h)
prefix_fails bytes f e (Err g) q = let h = rw q at e in inl cc

prefix_refusal : (bytes : List ℕ) (f : FormFault) → prefix_at bytes ≡ Err f → is_cut f ≡ false
    → Begins (λ encoding. RefusesPrefix encoding (Unreadable f)) bytes
prefix_refusal bytes f e k = pick (prefix_fails bytes f e (or_bad_integer (integer_at 8 bytes)) refl)
  where
    pick : (or_bad_integer (integer_at 8 bytes) ≡ Err f)
        ⊎ ((i : ℕ × ℕ × List ℕ) × (or_bad_integer (integer_at 8 bytes) ≡ Ok i)
        × (or_bad_integer (integer_at 7 i.2) ≡ Err f))
        → Begins (λ encoding. RefusesPrefix encoding (Unreadable f)) bytes
    pick (inl h) = let b =
        index_refusal 8 bytes f h k in record {
          encoding = b.encoding;
          rest = b.rest;
          parts = b.parts;
          holds = inl b.holds;
        }
    pick (inr h) =
        let t = index_takes 8 bytes h.0 h.1 in
        let b = index_refusal 7 h.0.2 f h.2 k in
        record {
          encoding = t.encoding ++ b.encoding;
          rest = b.rest;
          parts = t.parts ∙ ap (λ x. t.encoding ++ x) b.parts ∙ sym (append_assoc t.encoding b.encoding b.rest);
          holds = inr (record {
            head = t.encoding;
            tail = b.encoding;
            parts = refl;
            first = (h.0.1, t.holds);
            second = b.holds;
          });
        }

whole_index : (n : ℕ) (encoding : List ℕ) (f : FormFault) → RefusesIndex n encoding f → is_cut f ≡ false
whole_index n encoding (BadInteger Overflow) r = refl
whole_index n encoding (BadInteger UnexpectedEnd) r = absurd r
whole_index n encoding (BadString f) r = absurd r

pub prefix_follows : Follows Prefix SpellsPrefix RefusesPrefix read_prefix_at
prefix_follows = record {
  takes = λ bytes p rest e. (reads_prefixes bytes p rest).0 (readable_ok (prefix_at bytes) (p, rest) e);
  again = λ encoding rest p s. ap or_unreadable ((reads_prefixes (encoding ++ rest) p rest).1 (encoding, refl, s));
  refusal = λ bytes fault e k. (
      let u = readable_err (prefix_at bytes) fault e in
      subst (λ (g : KindFault). Begins (λ encoding. RefusesPrefix encoding g) bytes) (sym u.told)
      (prefix_refusal bytes u.because u.is (sym (ap is_cut_kind u.told) ∙ k))
      );
  refused = prefix_refused;
  whole = elim_whole;
}
  where
    elim_whole : (encoding : List ℕ) (fault : KindFault) → RefusesPrefix encoding fault → is_cut_kind fault ≡ false
    elim_whole encoding (Unreadable f) (inl r) = whole_index 8 encoding f r
    elim_whole encoding (Unreadable f) (inr r) = whole_index 7 r.tail f r.second
    elim_whole encoding (Foreign bits) r = absurd r
