-- Reading a block from the left is the relation of blocks.
use Rattle.std.proofs.Common.{◌≡◌, ℕ, zero, suc, ◌+◌, ◌-◌, ◌<◌, ◌≤◌, List, [], ◌∷◌, ◌++◌, length, Result, Ok, Err, refl}
use Rattle.std.proofs.Common.{sym, ap, subst, ◌∙◌, append_assoc, length-append, arith, inl, inr}
use Rattle.qpack_spec.specs.Bytes.{◌>>=◌}
use Rattle.qpack_spec.specs.Line.{Line, SpellsLine}
use Rattle.qpack_spec.specs.Prefix.{Prefix}
use Rattle.qpack_spec.specs.Reading.{Block}
use Rattle.qpack_spec.specs.Stream.{SpellsAll}
use Rattle.qpack_spec.proofs.Results.{bind_ok, ok_is}
use Rattle.qpack_wire.specs.Alone.{KindFault}
use Rattle.qpack_wire.specs.BlockLines.{line_at}
use Rattle.qpack_wire.specs.Blocks.{SpellsBlock, StopsLines, StopsBlock, lines_at, lines_in, block_at}
use Rattle.qpack_wire.specs.Prefixes.{read_prefix_at}
use Rattle.qpack_wire.proofs.BlockLines.{line_follows}
use Rattle.qpack_wire.proofs.Prefixes.{prefix_follows}

-- a line at the front of the bytes; it takes a byte at least
pub record TakesLine (bytes : List ℕ) (l : Line) (rest : List ℕ) : Type 0 where
  pub encoding : List ℕ
  pub parts : bytes ≡ encoding ++ rest
  pub spells : SpellsLine encoding l
  pub shorter : length rest < length bytes

behind_shorter : (bytes encoding rest : List ℕ) (l : Line) → bytes ≡ encoding ++ rest → SpellsLine encoding l
    → length rest < length bytes
behind_shorter bytes encoding rest l e s =
    let parts : length bytes ≡ length encoding + length rest = ap length e ∙ length-append encoding rest in
    omega (arith, parts, ap length s.begins)

pub line_takes : (bytes : List ℕ) (l : Line) (rest : List ℕ) → line_at bytes ≡ Ok (l, rest) → TakesLine bytes l rest
line_takes bytes l rest e =
    let t = line_follows.takes bytes l rest e in
    record { encoding = t.0; parts = t.1; spells = t.2; shorter = behind_shorter bytes t.0 rest l t.1 t.2 }

-- a line that can't be read
abbrev failed : KindFault → Result (Line × List ℕ) KindFault
failed fault = Err fault

-- the lines behind a line
abbrev pub behind : ℕ → Line × List ℕ → Result (List Line) KindFault
behind k r = lines_at k r.1 >>= λ ls. Ok (r.0 ∷ ls)

-- ---- lines that are read are spelled so

pub lines_found : (k : ℕ) (bytes : List ℕ) (ls : List Line) → length bytes ≤ k → lines_at k bytes ≡ Ok ls
    → SpellsAll SpellsLine bytes ls
unfolding lines_at
lines_found k [] ls h e = subst (SpellsAll SpellsLine []) (ok_is [] ls e) refl
lines_found zero (b ∷ bytes) ls h e = absurd (omega (arith, h))
lines_found (suc k) (b ∷ bytes) ls h e =
    let r = bind_ok (line_at (b ∷ bytes)) (behind k) ls e in
    let m = bind_ok (lines_at k r.0.1) (λ ls. Ok (r.0.0 ∷ ls)) ls r.2 in
    let t = line_takes (b ∷ bytes) r.0.0 r.0.1 r.1 in
    subst (SpellsAll SpellsLine (b ∷ bytes)) (ok_is (r.0.0 ∷ m.0) ls m.2)
    (t.encoding, r.0.1, t.parts, t.spells, lines_found k r.0.1 m.0 (omega (arith, h, t.shorter)) m.1)

-- ---- and what is spelled so is read

-- a line at the front is read first
turn : (k : ℕ) (encoding more : List ℕ) (l : Line) → SpellsLine encoding l → 0 < k
    → lines_at k (encoding ++ more) ≡ (lines_at (k - 1) more >>= λ ls. Ok (l ∷ ls))
unfolding lines_at
turn zero encoding more l s h = absurd (omega (arith, h))
turn (suc k) encoding more l s h =
    let e : suc k - 1 ≡ k = omega arith in
    let again = line_follows.again encoding more l s in
    let a = rw s.begins at again in
    rw (e, s.begins, a) refl

joined_turn : (k : ℕ) (bytes encoding more : List ℕ) (l : Line) → bytes ≡ encoding ++ more → SpellsLine encoding l
    → length bytes ≤ k
    → (lines_at k bytes ≡ (lines_at (k - 1) more >>= λ ls. Ok (l ∷ ls))) × (length more ≤ k - 1)
joined_turn k bytes encoding more l e s h =
    let short = behind_shorter bytes encoding more l e s in
    (ap (lines_at k) e ∙ turn k encoding more l s (omega (arith, h, short)), omega (arith, h, short))

lines_again : (ls : List Line) (k : ℕ) (bytes : List ℕ) → length bytes ≤ k → SpellsAll SpellsLine bytes ls
    → lines_at k bytes ≡ Ok ls
unfolding lines_at
lines_again [] k bytes h j = ap (lines_at k) j
lines_again (l ∷ ls) k bytes h j =
    let t = joined_turn k bytes j.0 j.1 l j.2 j.3 h in
    t.0 ∙ ap (λ (q : Result (List Line) KindFault). q >>= λ ls. Ok (l ∷ ls)) (lines_again ls (k - 1) j.1 t.1 j.4)

-- ---- a fault is that of the first line that can't be read

front_line : (bytes encoding rest : List ℕ) (l : Line) (fault : KindFault) → bytes ≡ encoding ++ rest
    → SpellsLine encoding l
    → StopsLines rest fault → StopsLines bytes fault
front_line bytes encoding rest l fault e s stop = record {
  lines = l ∷ stop.lines;
  front = encoding ++ stop.front;
  next = stop.next;
  more = stop.more;
  cut = e ∙ ap (λ (t : List ℕ). encoding ++ t) stop.cut
      ∙ sym (append_assoc encoding stop.front (stop.next ∷ stop.more));
  joined = (encoding, stop.front, refl, s, stop.joined);
  stops = stop.stops;
}

lines_stopped : (k : ℕ) (bytes : List ℕ) (fault : KindFault) → length bytes ≤ k → lines_at k bytes ≡ Err fault
    → StopsLines bytes fault
unfolding lines_at
lines_stopped k [] fault h e = absurd cc
lines_stopped zero (b ∷ bytes) fault h e = absurd cc
lines_stopped (suc k) (b ∷ bytes) fault h e =
    pick (λ rest short f. lines_stopped k rest fault short f) (line_at (b ∷ bytes)) refl e
  where
    bind_fails : (l : Line) (read : Result (List Line) KindFault) → (read >>= λ ls. Ok (l ∷ ls)) ≡ Err fault
        → read ≡ Err fault
    bind_fails l (Ok ls) e = absurd cc
    bind_fails l (Err g) e = cc

    pick : ((rest : List ℕ) → length rest ≤ k → lines_at k rest ≡ Err fault → StopsLines rest fault)
        → (r : Result (Line × List ℕ) KindFault) → line_at (b ∷ bytes) ≡ r → (r >>= behind k) ≡ Err fault
        → StopsLines (b ∷ bytes) fault
    pick ih (Err g) q f = record {
      lines = [];
      front = [];
      next = b;
      more = bytes;
      cut = refl;
      joined = refl;
      stops = (let same : g ≡ fault = cc in q ∙ ap (λ (x : KindFault). failed x) same);
    }
    pick ih (Ok r) q f =
        let t = line_takes (b ∷ bytes) r.0 r.1 q in
        front_line (b ∷ bytes) t.encoding r.1 r.0 fault t.parts t.spells
        (ih r.1 (omega (arith, h, t.shorter)) (bind_fails r.0 (lines_at k r.1) f))

stop_now : (k next : ℕ) (more : List ℕ) (fault : KindFault) → 0 < k → line_at (next ∷ more) ≡ Err fault
    → lines_at k (next ∷ more) ≡ Err fault
unfolding lines_at
stop_now zero next more fault h e = absurd (omega (arith, h))
stop_now (suc k) next more fault h e = rw e refl

lines_stop_at : (lines : List Line) (k : ℕ) (bytes front : List ℕ) (next : ℕ) (more : List ℕ) (fault : KindFault)
    → length bytes ≤ k → bytes ≡ front ++ next ∷ more → SpellsAll SpellsLine front lines
    → line_at (next ∷ more) ≡ Err fault → lines_at k bytes ≡ Err fault
lines_stop_at [] k bytes front next more fault h e j stop =
    let is : bytes ≡ next ∷ more = e ∙ ap (λ (t : List ℕ). t ++ next ∷ more) j in
    ap (lines_at k) is ∙ stop_now k next more fault (omega (arith, h, ap length is)) stop
lines_stop_at (l ∷ lines) k bytes front next more fault h e j stop =
    let t = joined_turn k bytes j.0 (j.1 ++ next ∷ more) l
    (e ∙ ap (λ (t : List ℕ). t ++ next ∷ more) j.2 ∙ append_assoc j.0 j.1 (next ∷ more)) j.3 h in
    t.0 ∙ ap (λ (q : Result (List Line) KindFault). q >>= λ ls. Ok (l ∷ ls))
    (lines_stop_at lines (k - 1) (j.1 ++ next ∷ more) j.1 next more fault t.1 refl j.4 stop)

lines_stop : (k : ℕ) (bytes : List ℕ) (fault : KindFault) → length bytes ≤ k → StopsLines bytes fault
    → lines_at k bytes ≡ Err fault
lines_stop k bytes fault h s =
    lines_stop_at s.lines k bytes s.front s.next s.more fault h s.cut s.joined s.stops

-- ---- a whole block

-- the block of a prefix and lines
abbrev block_with : Prefix → List Line → Result Block KindFault
block_with p ls = Ok (record { prefix = p; lines = ls })

-- a prefix that can't be read
abbrev no_prefix : KindFault → Result (Prefix × List ℕ) KindFault
no_prefix fault = Err fault

-- the block of a prefix and the lines behind it
abbrev with_lines : Prefix × List ℕ → Result Block KindFault
with_lines p = lines_in p.1 >>= λ ls. block_with p.0 ls

pub block_found : (bytes : List ℕ) (b : Block) → block_at bytes ≡ Ok b → SpellsBlock bytes b
block_found bytes b e =
    let p = bind_ok (read_prefix_at bytes) with_lines b e in
    let m = bind_ok (lines_in p.0.1) (λ ls. block_with p.0.0 ls) b p.2 in
    let t = prefix_follows.takes bytes p.0.0 p.0.1 p.1 in
    subst (SpellsBlock bytes) (ok_is (record { prefix = p.0.0; lines = m.0 }) b m.2)
    (record {
      head = t.0;
      tail = p.0.1;
      parts = t.1;
      first = t.2;
      second = lines_found (length p.0.1) p.0.1 m.0 (omega arith) m.1;
    })

pub block_again : (bytes : List ℕ) (b : Block) → SpellsBlock bytes b → block_at bytes ≡ Ok b
block_again bytes b s =
    let p = ap read_prefix_at s.parts ∙ prefix_follows.again s.head s.tail b.prefix s.first in
    let m = lines_again b.lines (length s.tail) s.tail (omega arith) s.second in
    ap (λ (q : Result (Prefix × List ℕ) KindFault). q >>= with_lines) p
    ∙ ap (λ (q : Result (List Line) KindFault). q >>= λ ls. block_with b.prefix ls) m

pub block_stopped : (bytes : List ℕ) (fault : KindFault) → block_at bytes ≡ Err fault → StopsBlock bytes fault
block_stopped bytes fault e = pick (read_prefix_at bytes) refl e
  where
    lines_fail : (p : Prefix) (read : Result (List Line) KindFault) → (read >>= λ ls. block_with p ls) ≡ Err fault
        → read ≡ Err fault
    lines_fail p (Ok ls) e = absurd cc
    lines_fail p (Err g) e = cc

    pick : (r : Result (Prefix × List ℕ) KindFault) → read_prefix_at bytes ≡ r → (r >>= with_lines) ≡ Err fault
        → StopsBlock bytes fault
    pick (Err g) q f = inl (let same : g ≡ fault = cc in q ∙ ap (λ (x : KindFault). no_prefix x) same)
    pick (Ok p) q f =
        let t = prefix_follows.takes bytes p.0 p.1 q in
        inr (record {
          head = t.0;
          tail = p.1;
          parts = t.1;
          first = (p.0, t.2);
          second = lines_stopped (length p.1) p.1 fault (omega arith) (lines_fail p.0 (lines_in p.1) f);
        })

pub block_stops : (bytes : List ℕ) (fault : KindFault) → StopsBlock bytes fault → block_at bytes ≡ Err fault
block_stops bytes fault (inl e) = ap (λ (q : Result (Prefix × List ℕ) KindFault). q >>= with_lines) e
block_stops bytes fault (inr s) =
    let p = ap read_prefix_at s.parts ∙ prefix_follows.again s.head s.tail s.first.0 s.first.1 in
    let m = lines_stop (length s.tail) s.tail fault (omega arith) s.second in
    ap (λ (q : Result (Prefix × List ℕ) KindFault). q >>= with_lines) p
    ∙ ap (λ (q : Result (List Line) KindFault). q >>= λ ls. block_with s.first.0 ls) m
