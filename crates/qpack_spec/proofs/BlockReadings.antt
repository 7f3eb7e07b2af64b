-- Reading a field section from its bytes: what is written is read as the block that it is, and reading line by line is
-- the relation of lines joined.
use Rattle.std.proofs.Common.{◌≡◌, ℕ, zero, suc, ◌<◌, ◌≤◌, Bool, true, false, List, [], ◌∷◌, ◌++◌, length, Result, Ok}
use Rattle.std.proofs.Common.{Err, refl, sym, ap, subst, ◌∙◌, append_assoc, arith, lit≤, length-append}
use Rattle.std.specs.List.{AllByRecursion}
use Rattle.std.specs.Prelude.{nat_eq}
use Rattle.qpack_spec.specs.Bytes.{◌>>=◌}
use Rattle.qpack_spec.specs.Field.{Field}
use Rattle.qpack_spec.specs.Integer.{IntegerFault, SpellsInteger, integer_at, written_integer}
use Rattle.qpack_spec.specs.Text.{Coding}
use Rattle.qpack_spec.specs.Form.{FormFault, or_bad_integer, form_at}
use Rattle.qpack_spec.specs.Line.{Line, line_form, SpellsLine, coded_line, coded_lines}
use Rattle.qpack_spec.specs.WrittenLaws.{IsWritableLineUnder, IsWritablePrefix, IsWritableBlockUnder}
use Rattle.qpack_spec.specs.Stream.{SpellsAll}
use Rattle.qpack_spec.specs.Prefix.{base_behind, Prefix, PrefixFault, SpellsPrefix, sign_bit, written_prefix, prefix_at}
use Rattle.qpack_spec.specs.Prefix.{read_prefix}
use Rattle.qpack_spec.specs.Window.{Window, maximum_capacity, window_insert_count}
use Rattle.qpack_spec.specs.History.{History, whole_window}
use Rattle.qpack_spec.specs.Reading.{Fault, BadForm, line_field, prepend_field, fields_of, Block, reading_behind}
use Rattle.qpack_spec.specs.Reading.{reading}
use Rattle.qpack_spec.specs.BlockReading.{meaning_over_all, StopsAt, in_bytes, in_line, ReadsSome, ReadsTo}
use Rattle.qpack_spec.specs.BlockReading.{or_bad_form, fields_at, fields_in_bytes, bytes_behind, reading_of_bytes}
use Rattle.qpack_spec.specs.BlockReading.{coded_block}
use Rattle.qpack_spec.proofs.Results.{bind_ok, ok_pair}
use Rattle.qpack_spec.proofs.Readings.{followed_ok}
use Rattle.qpack_spec.proofs.Integers.{integer_takes}
use Rattle.qpack_spec.proofs.Forms.{index_takes, index_again}
use Rattle.qpack_spec.proofs.FormLaws.{form_takes, form_again}
use Rattle.qpack_spec.proofs.WrittenForms.{lines_spelled, integer_written}

-- ---- lines

pub joined_written : (coding : Coding) (ls : List Line) → AllByRecursion (IsWritableLineUnder coding) ls
    → SpellsAll SpellsLine (coded_lines coding ls) ls
unfolding coded_lines
joined_written coding [] w = refl
joined_written coding (l ∷ ls) w = (
  coded_line coding l,
  coded_lines coding ls,
  refl,
  lines_spelled coding l w.0,
  joined_written coding ls w.1,
)

followed_is : (r : Result Field Fault) (rs : Result (List Field) Fault)
    → (r >>= λ f. rs >>= λ fs. Ok (f ∷ fs)) ≡ prepend_field r rs
followed_is (Ok f) (Ok fs) = refl
followed_is (Ok f) (Err e) = refl
followed_is (Err e) rs = refl

-- one line in front
step_at : (steps : ℕ) (w : Window) (base : ℕ) (encoding more : List ℕ) (l : Line) → SpellsLine encoding l
    → fields_at (suc steps) w base (encoding ++ more)
    ≡ prepend_field (line_field w base l) (fields_at steps w base more)
unfolding fields_at
step_at steps w base encoding more l s =
    let again : form_at line_form (encoding ++ more) ≡ Ok (l, more) = form_again line_form encoding more l s in
    let e : encoding ++ more ≡ s.first ∷ (s.more ++ more) = ap (λ x. x ++ more) s.begins in
    let again' = rw e at again in
    rw (e, again') (followed_is (line_field w base l) (fields_at steps w base more))

pub spelled_length : (encoding more : List ℕ) (l : Line) → SpellsLine encoding l → length more
    < length (encoding ++ more)
spelled_length encoding more l s = omega (arith, length-append encoding more, ap length s.begins)

pub no_bytes : (steps : ℕ) (w : Window) (base : ℕ) → fields_at steps w base [] ≡ Ok []
unfolding fields_at
no_bytes zero w base = refl
no_bytes (suc steps) w base = refl

no_lines : (w : Window) (base : ℕ) → fields_of w base [] ≡ Ok []
unfolding fields_of
no_lines w base = refl

one_line : (w : Window) (base : ℕ) (l : Line) (ls : List Line)
    → fields_of w base (l ∷ ls) ≡ prepend_field (line_field w base l) (fields_of w base ls)
unfolding fields_of
one_line w base l ls = refl

-- the bytes of lines give what the lines mean
fields_read : (steps : ℕ) (w : Window) (base : ℕ) (bytes : List ℕ) (ls : List Line) → SpellsAll SpellsLine bytes ls
    → length bytes ≤ steps → fields_at steps w base bytes ≡ fields_of w base ls
fields_read steps w base bytes [] j h = ap (fields_at steps w base) j ∙ no_bytes steps w base ∙ sym (no_lines w base)
fields_read zero w base bytes (l ∷ ls) j h = absurd (omega (arith, ap length j.2, spelled_length j.0 j.1 l j.3))
fields_read (suc steps) w base bytes (l ∷ ls) j h =
    let short : length j.1 ≤ steps = omega (arith, ap length j.2, spelled_length j.0 j.1 l j.3) in
    ap (fields_at (suc steps) w base) j.2 ∙ step_at steps w base j.0 j.1 l j.3
    ∙ ap (prepend_field (line_field w base l)) (fields_read steps w base j.1 ls j.4 short) ∙ sym (one_line w base l ls)

-- ---- reading line by line finds what the relation says

line_more : (w : Window) (base : ℕ) (encoding more : List ℕ) (l : Line) (f : Field) (r : Result (List Field) Fault)
    → SpellsLine encoding l → line_field w base l ≡ Ok f → ReadsTo w base more r
    → ReadsTo w base (encoding ++ more) (prepend_field (Ok f) r)
line_more w base encoding more l f (Ok fs) s e k =
    record {
      lines = l ∷ k.lines;
      joined = (encoding, more, refl, s, k.joined);
      means = one_line w base l k.lines
          ∙ (rw (e, k.means) refl);
    }
line_more w base encoding more l f (Err d) s e k =
    record {
      lines = l ∷ k.lines;
      front = encoding ++ k.front;
      next = k.next;
      more = k.more;
      cut = ap (λ x. encoding ++ x) k.cut ∙ sym (append_assoc encoding k.front (k.next ∷ k.more));
      joined = (encoding, k.front, refl, s, k.joined);
      so_far = f ∷ k.so_far;
      means = one_line w base l k.lines ∙ (rw (e, k.means) refl);
      stops = k.stops;
    }

-- the next line stops the reading
stops_at : (w : Window) (base b : ℕ) (bytes : List ℕ) (e : Fault) → StopsAt w base (b ∷ bytes) e
    → ReadsSome w base (b ∷ bytes) e
stops_at w base b bytes e s =
    record {
      lines = [];
      front = [];
      next = b;
      more = bytes;
      cut = refl;
      joined = refl;
      so_far = [];
      means = no_lines w base;
      stops = s;
    }

-- what is read of the next line, and behind it
next_line : ℕ → Window → ℕ → Result (Line × List ℕ) FormFault → Result (List Field) Fault
next_line steps w base r =
    or_bad_form r >>= λ l. line_field w base l.0 >>= λ f. fields_at steps w base l.1 >>= λ fs. Ok (f ∷ fs)

next_is : (steps : ℕ) (w : Window) (base b : ℕ) (bytes : List ℕ)
    → fields_at (suc steps) w base (b ∷ bytes) ≡ next_line steps w base (form_at line_form (b ∷ bytes))
unfolding fields_at next_line
next_is steps w base b bytes = refl

next_bad : (steps : ℕ) (w : Window) (base : ℕ) (e : FormFault) → next_line steps w base (Err e) ≡ Err (BadForm e)
unfolding next_line
next_bad steps w base e = refl

next_read : (steps : ℕ) (w : Window) (base : ℕ) (l : Line) (rest : List ℕ)
    → next_line steps w base (Ok (l, rest)) ≡ prepend_field (line_field w base l) (fields_at steps w base rest)
unfolding next_line
next_read steps w base l rest = followed_is (line_field w base l) (fields_at steps w base rest)

pub fields_found : (steps : ℕ) (w : Window) (base : ℕ) (bytes : List ℕ) → length bytes ≤ steps
    → ReadsTo w base bytes (fields_at steps w base bytes)
fields_found steps w base [] h =
    subst (ReadsTo w base []) (sym (no_bytes steps w base))
    (record { lines = []; joined = refl; means = no_lines w base })
fields_found zero w base (b ∷ bytes) h = absurd (omega arith)
fields_found (suc steps) w base (b ∷ bytes) h =
    subst (ReadsTo w base (b ∷ bytes)) (sym (next_is steps w base b bytes))
    (go (λ x le. fields_found steps w base x le) (form_at line_form (b ∷ bytes)) refl)
  where
    line : (l : Line) (rest encoding : List ℕ) → b ∷ bytes ≡ encoding ++ rest → SpellsLine encoding l
        → (r : Result Field Fault)
        → line_field w base l ≡ r → ReadsTo w base rest (fields_at steps w base rest)
        → ReadsTo w base (b ∷ bytes) (prepend_field r (fields_at steps w base rest))
    line l rest encoding p s (Err e) q k = stops_at w base b bytes e (in_line encoding rest l p s q)
    line l rest encoding p s (Ok f) q k =
        subst (λ (x : List ℕ). ReadsTo w base x (prepend_field (Ok f) (fields_at steps w base rest))) (sym p)
        (line_more w base encoding rest l f (fields_at steps w base rest) s q k)

    go : ((x : List ℕ) → length x ≤ steps → ReadsTo w base x (fields_at steps w base x))
        → (r : Result (Line × List ℕ) FormFault) → form_at line_form (b ∷ bytes) ≡ r
        → ReadsTo w base (b ∷ bytes) (next_line steps w base r)
    go found (Err e) q =
        subst (ReadsTo w base (b ∷ bytes)) (sym (next_bad steps w base e))
        (stops_at w base b bytes (BadForm e) (in_bytes e q refl))
    go found (Ok r) q =
        let t = form_takes line_form (b ∷ bytes) r.0 r.1 q in
        let short : length r.1 ≤ steps = omega (arith, ap length t.parts, spelled_length t.encoding r.1 r.0 t.spells) in
        subst (ReadsTo w base (b ∷ bytes)) (sym (next_read steps w base r.0 r.1))
        (line r.0 r.1 t.encoding t.parts t.spells (line_field w base r.0) refl (found r.1 short))

-- ---- and nothing else

-- a front of lines that mean fields is read, and what is behind it
front_read : (steps : ℕ) (w : Window) (base : ℕ) (front rest : List ℕ) (ls : List Line) (fs : List Field) (e : Fault)
    → SpellsAll SpellsLine front ls → fields_of w base ls ≡ Ok fs → length (front ++ rest) ≤ steps
    → ((k : ℕ) → length rest ≤ k → fields_at k w base rest ≡ Err e) → fields_at steps w base (front ++ rest) ≡ Err e
front_read steps w base front rest [] fs e j m h stop =
    ap (λ x. fields_at steps w base (x ++ rest)) j
    ∙ stop steps (omega (arith, h, ap length j, length-append front rest))
front_read zero w base front rest (l ∷ ls) fs e j m h stop =
    absurd (omega (arith, h, length-append front rest, ap length j.2, spelled_length j.0 j.1 l j.3))
front_read (suc steps) w base front rest (l ∷ ls) fs e j m h stop =
    let split : front ++ rest ≡ j.0 ++ (j.1 ++ rest) = ap (λ x. x ++ rest) j.2 ∙ append_assoc j.0 j.1 rest in
    let p = followed_ok (line_field w base l) (fields_of w base ls) fs (sym (one_line w base l ls) ∙ m) in
    let short : length (j.1 ++ rest) ≤ steps =
    omega (arith, h, ap length split, spelled_length j.0 (j.1 ++ rest) l j.3) in
    ap (fields_at (suc steps) w base) split ∙ step_at steps w base j.0 (j.1 ++ rest) l j.3
    ∙ (rw (p.2, front_read steps w base j.1 rest ls p.1 e j.4 p.3 short stop) refl)

stops_read : (steps : ℕ) (w : Window) (base b : ℕ) (bytes : List ℕ) (e : Fault) → StopsAt w base (b ∷ bytes) e
    → length (b ∷ bytes) ≤ steps → fields_at steps w base (b ∷ bytes) ≡ Err e
stops_read zero w base b bytes e s h = absurd (omega arith)
stops_read (suc steps) w base b bytes e (in_bytes fault q same) h =
    next_is steps w base b bytes ∙ ap (next_line steps w base) q ∙ next_bad steps w base fault
    ∙ ap (λ (x : Fault). let r : Result (List Field) Fault = Err x in r) (sym same)
stops_read (suc steps) w base b bytes e (in_line encoding more l cut s bad) h =
    ap (fields_at (suc steps) w base) cut ∙ step_at steps w base encoding more l s
    ∙ ap (λ r. prepend_field r (fields_at steps w base more)) bad

pub fields_only : (w : Window) (base : ℕ) (bytes : List ℕ) (r : Result (List Field) Fault) → ReadsTo w base bytes r
    → fields_in_bytes w base bytes ≡ r
fields_only w base bytes (Ok fs) k = fields_read (length bytes) w base bytes k.lines k.joined (omega arith) ∙ k.means
fields_only w base bytes (Err e) k =
    ap (λ x. fields_at (length bytes) w base x) k.cut
    ∙ front_read (length bytes) w base k.front (k.next ∷ k.more) k.lines k.so_far e k.joined k.means
    (omega (arith, ap length k.cut)) (λ n le. stops_read n w base k.next k.more e k.stops le)

-- ---- prefixes

pub prefix_spelled : (p : Prefix) → IsWritablePrefix p → SpellsPrefix (written_prefix p) p
unfolding written_prefix
prefix_spelled p w = go p.sign refl
  where
    go : (b : Bool) → p.sign ≡ b → SpellsPrefix (written_integer 8 0 p.count ++ written_integer 7 (sign_bit p) p.delta)
        p
    go true e = record {
      head = written_integer 8 0 p.count;
      tail = written_integer 7 (sign_bit p) p.delta;
      parts = refl;
      count = (0, integer_written 8 0 p.count (lit≤ tt) (lit≤ tt) (lit≤ tt) w.count);
      sign = 1;
      is_sign = e;
      delta = rw e (integer_written 7 1 p.delta (lit≤ tt) (lit≤ tt) (lit≤ tt) w.delta);
    }
    go false e = record {
      head = written_integer 8 0 p.count;
      tail = written_integer 7 (sign_bit p) p.delta;
      parts = refl;
      count = (0, integer_written 8 0 p.count (lit≤ tt) (lit≤ tt) (lit≤ tt) w.count);
      sign = 0;
      is_sign = e;
      delta = rw e (integer_written 7 0 p.delta (lit≤ tt) (lit≤ tt) (lit≤ tt) w.delta);
    }

-- an integer with its flags
record TakesNumber (n : ℕ) (bytes : List ℕ) (flags value : ℕ) (rest : List ℕ) : Type 0 where
  pub encoding : List ℕ
  pub parts : bytes ≡ encoding ++ rest
  pub spells : SpellsInteger n encoding flags value

number_takes : (n : ℕ) (bytes : List ℕ) (i : ℕ × ℕ × List ℕ) → or_bad_integer (integer_at n bytes) ≡ Ok i
    → TakesNumber n bytes i.0 i.1 i.2
number_takes n bytes i e = go (integer_at n bytes) refl e
  where
    go : (r : Result (ℕ × ℕ × List ℕ) IntegerFault) → integer_at n bytes ≡ r → or_bad_integer r ≡ Ok i
        → TakesNumber n bytes i.0 i.1 i.2
    go (Ok j) q h =
        let same : j ≡ i = cc in
        let t = integer_takes n bytes i.0 i.1 i.2 (q
        ∙ ap (λ (x : ℕ × ℕ × List ℕ). let r : Result (ℕ × ℕ × List ℕ) IntegerFault = Ok x in r) same) in
        record { encoding = t.encoding; parts = t.parts; spells = t.spells }
    go (Err f) q h = absurd cc

abbrev prefix_of : ℕ → ℕ → ℕ → Prefix
prefix_of count sign delta = record { count = count; sign = nat_eq sign 1; delta = delta }

prefix_same : (p : Prefix) (sign : Bool) → p.sign ≡ sign
    → (let q : Prefix = record { count = p.count; sign = sign; delta = p.delta } in q ≡ p)
prefix_same p sign e =
    ap (λ (b : Bool). let q : Prefix = record { count = p.count; sign = b; delta = p.delta } in q) (sym e)

pub prefix_again : (encoding rest : List ℕ) (p : Prefix) → SpellsPrefix encoding p → prefix_at (encoding ++ rest)
    ≡ Ok (p, rest)
unfolding prefix_at
prefix_again encoding rest p s =
    let e : encoding ++ rest ≡ s.head ++ (s.tail ++ rest) = ap (λ x. x ++ rest) s.parts
    ∙ append_assoc s.head s.tail rest in
    rw (e, index_again 8 s.head (s.tail ++ rest) p.count s.count, index_again 7 s.tail rest p.delta (s.sign, s.delta))
    (ap (λ (q : Prefix). let r : Result (Prefix × List ℕ) FormFault = Ok (q, rest) in
    r) (prefix_same p (nat_eq s.sign 1) s.is_sign))

pub record TakesPrefix (bytes : List ℕ) (p : Prefix) (rest : List ℕ) : Type 0 where
  pub encoding : List ℕ
  pub parts : bytes ≡ encoding ++ rest
  pub spells : SpellsPrefix encoding p

pub prefix_takes : (bytes : List ℕ) (p : Prefix) (rest : List ℕ) → prefix_at bytes ≡ Ok (p, rest)
    → TakesPrefix bytes p rest
unfolding prefix_at
prefix_takes bytes p rest e =
    let b = bind_ok (or_bad_integer (integer_at 8 bytes))
    (λ c. or_bad_integer (integer_at 7 c.2) >>= λ d. Ok (prefix_of c.1 d.0 d.1, d.2)) (p, rest) e in
    let c = bind_ok (or_bad_integer (integer_at 7 b.0.2)) (λ d. Ok (prefix_of b.0.1 d.0 d.1, d.2)) (p, rest) b.2 in
    let t = index_takes 8 bytes b.0 b.1 in
    let u = number_takes 7 b.0.2 c.0 c.1 in
    let q = ok_pair (prefix_of b.0.1 c.0.0 c.0.1) p c.0.2 rest c.2 in
    record {
      encoding = t.encoding ++ u.encoding;
      parts = t.parts ∙ ap (λ x. t.encoding ++ x) (u.parts ∙ ap (λ x. u.encoding ++ x) q.1)
          ∙ sym (append_assoc t.encoding u.encoding rest);
      spells = subst (λ (x : Prefix). SpellsPrefix (t.encoding ++ u.encoding) x) q.0
          (record {
            head = t.encoding;
            tail = u.encoding;
            parts = refl;
            count = t.holds;
            sign = c.0.0;
            is_sign = refl;
            delta = u.spells;
          });
    }

-- ---- whole blocks

-- what is written of a block is read as the block is
pub written_read : (coding : Coding) (w : Window) (b : Block) → IsWritableBlockUnder coding b
    → reading_of_bytes w (coded_block coding b) ≡ reading w b
unfolding reading_of_bytes coded_block reading
written_read coding w b k =
    rw (prefix_again (written_prefix b.prefix) (coded_lines coding b.lines) b.prefix (prefix_spelled b.prefix k.prefix))
    (behind (read_prefix (window_insert_count w) (maximum_capacity w.agreed_max w.capacity) b.prefix))
  where
    behind : (r : Result (ℕ × ℕ) PrefixFault) → bytes_behind w (coded_lines coding b.lines) r ≡ reading_behind w b.lines r
    behind (Err e) = refl
    behind (Ok p) =
        rw (fields_read (length (coded_lines coding b.lines)) w p.1 (coded_lines coding b.lines) b.lines
        (joined_written coding b.lines k.lines) (omega arith)) refl

-- what the lines of a written block mean over all insertions, where its base is the one that was written
pub written_means : (coding : Coding) (all : History) (b : Block) (required base : ℕ) (fs : List Field)
    → IsWritableBlockUnder coding b → base_behind b.prefix required ≡ Ok base → fields_of (whole_window all) base b.lines ≡ Ok fs
    → meaning_over_all all (coded_block coding b) required ≡ Ok fs
unfolding meaning_over_all coded_block
written_means coding all b required base fs k e m =
    rw (prefix_again (written_prefix b.prefix) (coded_lines coding b.lines) b.prefix (prefix_spelled b.prefix k.prefix), e)
    (fields_read (length (coded_lines coding b.lines)) (whole_window all) base (coded_lines coding b.lines) b.lines
    (joined_written coding b.lines k.lines) (omega arith) ∙ m)
