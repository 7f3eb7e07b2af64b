-- A section that comes in pieces, under windows that read it alike.
use Rattle.std.proofs.Common.{◌≡◌, ℕ, suc, ◌+◌, ◌-◌, ◌<◌, ◌≤◌, Bool, true, false, cond, List, [], ◌∷◌, ◌++◌, length}
use Rattle.std.proofs.Common.{drop, Option, None, Some, Result, Ok, Err, refl, sym, ap, ◌∙◌, append_assoc}
use Rattle.std.proofs.Common.{subst, inl, inr}
use Rattle.std.specs.Prelude.{nat_lt, nat_le, nat_eq, ◌&&◌}
use Rattle.std.proofs.lemmas.Bool.{lt-ltb, le-leb, cases_lt}
use Rattle.qpack_spec.specs.Field.{FieldLine, field_size}
use Rattle.qpack_spec.specs.Form.{FormFault}
use Rattle.qpack_spec.specs.Prefix.{Prefix, PrefixFault, prefix_at, read_required, read_strict_prefix, strict_base, with_base}
use Rattle.qpack_spec.specs.Stateless.{saturated_size}
use Rattle.qpack_spec.specs.StrictReading.{CountAtZero, InLine, LineFault, LinesUnder, SectionFault, StrictReading, Read, Blocked, Refused}
use Rattle.qpack_spec.specs.StrictReading.{lines_behind, strict_lines_at}
use Rattle.qpack_spec.specs.Window.{Window, maximum_capacity, window_insert_count}
use Rattle.qpack_spec.proofs.Results.{ok_is, ok_pair}
use Rattle.qpack_decoding.specs.Missing.{line_missing, prefix_missing}
use Rattle.qpack_decoding.specs.PieceLaws.{reading_behind, reading_on, with_field, ReadsOrWaits, LeavesReading}
use Rattle.qpack_decoding.specs.PieceLaws.{PiecesLeaveTheReading}
use Rattle.qpack_decoding.specs.Pieces.{ReaderView, IsPlaced, opened, behind_line, lines_under, Next, More, Opens}
use Rattle.qpack_decoding.specs.Pieces.{Stays, Gives, Over, Fails, goes_on, line_at, line_says, prefix_says, next_prefix}
use Rattle.qpack_decoding.specs.Pieces.{next_line, next_behind, most_read}
use Rattle.qpack_decoding.specs.SectionPrefixes.{or_in_prefix, strict_numbers, with_length, prefix_behind, strict_prefix}
use Rattle.qpack_decoding.specs.declared.section.SectionPrefix.{SectionPrefix}
use Rattle.qpack_decoding.proofs.MissingParts.{line_form_is}
use Rattle.qpack_decoding.proofs.PieceParts.{next_stays, next_lines, next_within}
use Rattle.qpack_decoding.proofs.PieceSteps.{Keeps, behind_keeps, behind_read, same_behind, shorter_front}

-- ---- readings

pub never_refused : (fields : List FieldLine) (required : ℕ) (fault : SectionFault)
    → ReadsOrWaits fields required (Refused fault) → ⊥
never_refused fields required fault (inl e) = absurd cc
never_refused fields required fault (inr e) = absurd cc

waits_for : (fields : List FieldLine) (required many : ℕ) → ReadsOrWaits fields required (Blocked many) → many ≡ required
waits_for fields required many (inl e) = absurd cc
waits_for fields required many (inr e) = cc

behind_requires : (fields : List FieldLine) (required many : ℕ) (read : Result (List FieldLine) SectionFault)
    → ReadsOrWaits fields required (lines_behind many read) → many ≡ required
behind_requires fields required many (Ok fs) (inl e) = cc
behind_requires fields required many (Ok fs) (inr e) = absurd cc
behind_requires fields required many (Err fault) (inl e) = absurd cc
behind_requires fields required many (Err fault) (inr e) = absurd cc

over_is : (fields : List FieldLine) (required many : ℕ) → ReadsOrWaits fields required (Read [] many)
    → (fields ≡ []) × (many ≡ required)
over_is fields required many (inl e) = (cc, cc)
over_is fields required many (inr e) = absurd cc

-- a reading with a field before, of lines that do not wait
record ReadsFirst (f : FieldLine) (fields : List FieldLine) (required : ℕ) (read : StrictReading) : Type 0 where
  pub others : List FieldLine
  pub all : fields ≡ f ∷ others
  pub behind : read ≡ Read others required

reads_first : (f : FieldLine) (fields : List FieldLine) (required many : ℕ) (read : Result (List FieldLine) SectionFault)
    → ReadsOrWaits fields required (with_field f (lines_behind many read))
    → ReadsFirst f fields required (lines_behind many read)
reads_first f fields required many (Ok fs) (inl e) = record { others = fs; all = cc; behind = cc }
reads_first f fields required many (Ok fs) (inr e) = absurd cc
reads_first f fields required many (Err fault) (inl e) = absurd cc
reads_first f fields required many (Err fault) (inr e) = absurd cc

-- ---- prefixes

-- the base follows from what is required
based : (total maximum : ℕ) (p : Prefix) (r : Result ℕ PrefixFault) (required base : ℕ)
    → or_in_prefix (with_base (λ required. strict_base p required) r) ≡ Ok (required, base)
    → strict_base p required ≡ Ok base
based total maximum p (Err e) required base q = absurd cc
based total maximum p (Ok n) required base q = go (strict_base p n) refl q
  where
    go : (b : Result ℕ PrefixFault) → strict_base p n ≡ b
        → or_in_prefix (with_base (λ (required : ℕ). b) (Ok n)) ≡ Ok (required, base)
        → strict_base p required ≡ Ok base
    go (Err e) is h = absurd cc
    go (Ok x) is h =
        let same = ok_pair n required x base h in
        ap (strict_base p) (sym same.0) ∙ is ∙ ap (λ (y : ℕ). let z : Result ℕ PrefixFault = Ok y in z) same.1

numbers_based : (w : Window) (p : Prefix) (required base : ℕ) → strict_numbers w p ≡ Ok (required, base)
    → strict_base p required ≡ Ok base
unfolding read_strict_prefix
numbers_based w p required base e =
    let maximum = maximum_capacity w.agreed_max w.capacity in
    go (nat_eq maximum 0 && nat_lt 0 p.count) e
  where
    go : (t : Bool) → (let maximum = maximum_capacity w.agreed_max w.capacity in
        cond t (Err CountAtZero) (or_in_prefix (read_strict_prefix (window_insert_count w) maximum p)))
        ≡ Ok (required, base) → strict_base p required ≡ Ok base
    go true q = absurd cc
    go false q =
        let maximum = maximum_capacity w.agreed_max w.capacity in
        based (window_insert_count w) maximum p (read_required (window_insert_count w) maximum p.count) required base q

-- two windows that require the same of a prefix read it alike
prefix_alike : (w other : Window) (bytes : List ℕ) (p q : ℕ × ℕ × ℕ) → strict_prefix w bytes ≡ Ok p
    → strict_prefix other bytes ≡ Ok q → p.0 ≡ q.0 → (p.1 ≡ q.1) × (p.2 ≡ q.2)
unfolding strict_prefix
prefix_alike w other bytes p q e h same = go (prefix_at bytes) e h
  where
    numbers : (len : ℕ) (n : Result (ℕ × ℕ) SectionFault) (x : ℕ × ℕ × ℕ) → with_length len n ≡ Ok x
        → (n ≡ Ok (x.0, x.1)) × (x.2 ≡ len)
    numbers len (Ok y) x is =
        let same : (let z : ℕ × ℕ × ℕ = (y.0, y.1, len) in z) ≡ x = ok_is (y.0, y.1, len) x is in (
          ap (λ (z : ℕ × ℕ × ℕ). let r : Result (ℕ × ℕ) SectionFault = Ok (z.0, z.1) in r) same,
          sym (ap (λ (z : ℕ × ℕ × ℕ). z.2) same),
        )
    numbers len (Err f) x is = absurd cc

    go : (r : Result (Prefix × List ℕ) FormFault) → prefix_behind w (length bytes) r ≡ Ok p
        → prefix_behind other (length bytes) r ≡ Ok q → (p.1 ≡ q.1) × (p.2 ≡ q.2)
    go (Err f) is at = absurd cc
    go (Ok x) is at =
        let len = length bytes - length x.1 in
        let n = numbers len (strict_numbers w x.0) p is in
        let m = numbers len (strict_numbers other x.0) q at in
        let a = numbers_based w x.0 p.0 p.1 n.0 in
        let b = numbers_based other x.0 q.0 q.1 m.0 in (
          ok_is p.1 q.1 (sym a ∙ ap (strict_base x.0) same ∙ b),
          n.1 ∙ sym m.1,
        )

-- what a section requires whose prefix was read
prefix_requires : (w : Window) (limit : ℕ) (r : ReaderView) (p : SectionPrefix) (bytes : List ℕ) (fields : List FieldLine)
    (required : ℕ) → ReadsOrWaits fields required (reading_behind w limit r (Some p) bytes) → p.required ≡ required
prefix_requires w limit r p bytes fields required reads =
    go (nat_lt (window_insert_count w) p.required) reads
  where
    lines : Result (List FieldLine) SectionFault
    lines = strict_lines_at (length bytes) (lines_under w limit p (r.offset + length bytes)) r.lines r.sum bytes

    go : (t : Bool) → ReadsOrWaits fields required (cond t (Blocked p.required) (lines_behind p.required lines))
        → p.required ≡ required
    go true h = waits_for fields required p.required h
    go false h = behind_requires fields required p.required lines h

-- ---- a step

-- what is read is what comes next, and the fields behind it
abbrev pub Leaves : Option SectionPrefix → Window → ℕ → ReaderView → List ℕ → List ℕ → List FieldLine → ℕ → Next → Type 0
Leaves o w limit r all more fields required More =
    ReadsOrWaits fields required (reading_behind w limit r o (all ++ more))
Leaves o w limit r all more fields required next = LeavesReading w limit r all more fields required next

leaves_is : (o : Option SectionPrefix) (w : Window) (limit : ℕ) (r : ReaderView) (all more : List ℕ)
    (fields : List FieldLine) (required : ℕ) (next : Next) → r.prefix ≡ o
    → Leaves o w limit r all more fields required next → LeavesReading w limit r all more fields required next
leaves_is o w limit r all more fields required More is k =
    subst (ReadsOrWaits fields required)
    (ap (λ (x : Option SectionPrefix). reading_behind w limit r x (all ++ more)) (sym is)
    ∙ sym (same_behind r.prefix w limit r all (all ++ more))) k
leaves_is o w limit r all more fields required (Opens p) is k = k
leaves_is o w limit r all more fields required (Stays many) is k = k
leaves_is o w limit r all more fields required (Gives f left) is k = k
leaves_is o w limit r all more fields required (Over many) is k = k
leaves_is o w limit r all more fields required (Fails fault) is k = k

-- what is asked of both windows
abbrev pub BothRead : Window → Window → ℕ → ReaderView → Option SectionPrefix → List ℕ → List FieldLine → ℕ → Type 0
BothRead w other limit r o bytes fields required =
    ReadsOrWaits fields required (reading_behind w limit r o bytes)
    × ReadsOrWaits fields required (reading_behind other limit r o bytes)

prefix_leaves : (w other : Window) (limit : ℕ) (last : Bool) (r : ReaderView) (all more : List ℕ)
    (fields : List FieldLine) (required : ℕ) → BothRead w other limit r None (all ++ more) fields required
    → Keeps None w limit r all more (reading_behind w limit r None (all ++ more)) (next_prefix w last all)
    → Keeps None other limit r all more (reading_behind other limit r None (all ++ more)) (next_prefix other last all)
    → Leaves None other limit r all more fields required (next_prefix w last all)
prefix_leaves w other limit last r all more fields required both here there =
    pick (goes_on last (prefix_missing all)) here there
  where
    keeps : Window → Next → Type 0
    keeps v next = Keeps None v limit r all more (reading_behind v limit r None (all ++ more)) next

    said : (x y : Result (ℕ × ℕ × ℕ) SectionFault) → strict_prefix w all ≡ x → strict_prefix other all ≡ y
        → keeps w (prefix_says x) → keeps other (prefix_says y)
        → Leaves None other limit r all more fields required (prefix_says x)
    said (Err fault) y e h k l = never_refused fields required fault (subst (ReadsOrWaits fields required) k both.0)
    said (Ok p) (Err fault) e h k l =
        absurd (never_refused fields required fault (subst (ReadsOrWaits fields required) l both.1))
    said (Ok p) (Ok q) e h k l =
        let a : SectionPrefix = record { required = p.0; base = p.1; length = p.2 } in
        let b : SectionPrefix = record { required = q.0; base = q.1; length = q.2 } in
        let bytes_of = λ (x : SectionPrefix). drop x.length all ++ more in
        let first = prefix_requires w limit (opened a r) a (bytes_of a) fields required
        (subst (ReadsOrWaits fields required) k both.0) in
        let second = prefix_requires other limit (opened b r) b (bytes_of b) fields required
        (subst (ReadsOrWaits fields required) l both.1) in
        let numbers = first ∙ sym second in
        let alike = prefix_alike w other all p q e h numbers in
        let same : b ≡ a =
        ap (λ (n : ℕ). let x : SectionPrefix = record { required = n; base = q.1; length = q.2 } in x) (sym numbers)
        ∙ ap (λ (n : ℕ). let x : SectionPrefix = record { required = p.0; base = n; length = q.2 } in x) (sym alike.0)
        ∙ ap (λ (n : ℕ). let x : SectionPrefix = record { required = p.0; base = p.1; length = n } in x) (sym alike.1) in (
          first,
          subst (ReadsOrWaits fields required)
              (l ∙ ap (λ (x : SectionPrefix). reading_on other limit (opened x r) (drop x.length all ++ more)) same) both.1,
        )

    pick : (t : Bool) → keeps w (cond t More (prefix_says (strict_prefix w all)))
        → keeps other (cond t More (prefix_says (strict_prefix other all)))
        → Leaves None other limit r all more fields required (cond t More (prefix_says (strict_prefix w all)))
    pick true k l = both.1
    pick false k l = said (strict_prefix w all) (strict_prefix other all) refl refl k l

-- what is left after a line is the same under each window
left_alike : (u v : LinesUnder) (sum : ℕ) (bytes left rest : List ℕ) (f g : FieldLine)
    → line_at u sum bytes ≡ Ok (f, left) → line_at v sum bytes ≡ Ok (g, rest) → left ≡ rest
left_alike u v sum bytes left rest f g e h =
    let a = line_form_is u sum bytes left f e in
    let b = line_form_is v sum bytes rest g h in
    (ok_pair a.line b.line left rest (sym a.is ∙ b.is)).1

-- what is read after a line
line_on : (w : Window) (limit : ℕ) (r : ReaderView) (p : SectionPrefix) (f : FieldLine) (len : ℕ) (bytes : List ℕ)
    → r.prefix ≡ Some p → p.required ≤ window_insert_count w
    → reading_on w limit (behind_line len f.field r) bytes
    ≡ lines_behind p.required (strict_lines_at (length bytes) (lines_under w limit p (r.offset + len + length bytes))
    (suc r.lines) (saturated_size (r.sum + field_size f.field)) bytes)
line_on w limit r p f len bytes known there =
    ap (λ (o : Option SectionPrefix). reading_behind w limit (behind_line len f.field r) o bytes) known
    ∙ behind_read w limit r p f len bytes there

-- a section that waits at its prefix
waits_on : (w : Window) (limit : ℕ) (r : ReaderView) (p : SectionPrefix) (bytes : List ℕ) → r.prefix ≡ Some p
    → window_insert_count w < p.required → reading_behind w limit r r.prefix bytes ≡ Blocked p.required
waits_on w limit r p bytes known lt =
    ap (λ (o : Option SectionPrefix). reading_behind w limit r o bytes) known
    ∙ rw (lt-ltb (window_insert_count w) p.required lt) refl

lines_leave : (w other : Window) (limit : ℕ) (last : Bool) (r : ReaderView) (p : SectionPrefix) (all more : List ℕ)
    (fields : List FieldLine) (required : ℕ) → r.prefix ≡ Some p → p.required ≤ window_insert_count w
    → BothRead w other limit r (Some p) (all ++ more) fields required
    → Keeps (Some p) w limit r all more (reading_behind w limit r (Some p) (all ++ more))
    (next_line (lines_under w limit p 0) last r all)
    → (p.required ≤ window_insert_count other
    → Keeps (Some p) other limit r all more (reading_behind other limit r (Some p) (all ++ more))
    (next_line (lines_under other limit p 0) last r all))
    → Leaves (Some p) other limit r all more fields required (next_line (lines_under w limit p 0) last r all)
lines_leave w other limit true r p [] more fields required known le both k l =
    over_is fields required p.required (subst (ReadsOrWaits fields required) k both.0)
lines_leave w other limit false r p [] more fields required known le both k l = both.1
lines_leave w other limit last r p (b ∷ rest) more fields required known le both k l =
    pick (goes_on last (line_missing (b ∷ rest))) k l
  where
    all : List ℕ
    all = b ∷ rest

    keeps : Window → Next → Type 0
    keeps v next = Keeps (Some p) v limit r all more (reading_behind v limit r (Some p) (all ++ more)) next

    read : Window → Result (FieldLine × List ℕ) LineFault
    read v = line_at (lines_under v limit p 0) r.sum all

    says : Result (FieldLine × List ℕ) LineFault → Next
    says x = line_says (suc r.lines) r.offset x

    behind : FieldLine → List ℕ → StrictReading
    behind f left = reading_on other limit (behind_line (length all - length left) f.field r) (left ++ more)

    first : (v : Window) (f : FieldLine) (left : List ℕ) → p.required ≤ window_insert_count v → keeps v (Gives f left)
        → ReadsOrWaits fields required (reading_behind v limit r (Some p) (all ++ more))
        → ReadsFirst f fields required
        (reading_on v limit (behind_line (length all - length left) f.field r) (left ++ more))
    first v f left there kept reads =
        let len = length all - length left in
        let lines = strict_lines_at (length (left ++ more))
        (lines_under v limit p (r.offset + len + length (left ++ more))) (suc r.lines)
        (saturated_size (r.sum + field_size f.field)) (left ++ more) in
        let is = line_on v limit r p f len (left ++ more) known there in
        subst (ReadsFirst f fields required) (sym is)
        (reads_first f fields required p.required lines
        (subst (ReadsOrWaits fields required) (kept ∙ ap (with_field f) is) reads))

    requires : (f : FieldLine) (left : List ℕ) (here : ReadsFirst f fields required
        (reading_on w limit (behind_line (length all - length left) f.field r) (left ++ more))) → p.required ≡ required
    requires f left here =
        prefix_requires w limit (behind_line (length all - length left) f.field r) p (left ++ more) here.others required
        (inl (ap (λ (o : Option SectionPrefix). reading_behind w limit
        (behind_line (length all - length left) f.field r) o (left ++ more)) (sym known) ∙ here.behind))

    given : (x : FieldLine × List ℕ) (y : Result (FieldLine × List ℕ) LineFault) → read w ≡ Ok x → read other ≡ y
        → ReadsFirst x.0 fields required
        (reading_on w limit (behind_line (length all - length x.1) x.0.field r) (x.1 ++ more))
        → p.required ≤ window_insert_count other → keeps other (says y)
        → (here : List FieldLine) → fields ≡ x.0 ∷ here → behind x.0 x.1 ≡ Read here required
    given x (Err fault) e h reads there kept here is =
        absurd (never_refused fields required (InLine (suc r.lines) r.offset fault)
        (subst (ReadsOrWaits fields required) kept both.1))
    given x (Ok y) e h reads there kept here is =
        let second = first other y.0 y.1 there kept both.1 in
        let left : x.1 ≡ y.1 =
        left_alike (lines_under w limit p 0) (lines_under other limit p 0) r.sum all x.1 y.1 x.0 y.0 e h in
        let both : (x.0 ∷ here) ≡ (y.0 ∷ second.others) = sym is ∙ second.all in
        let field : x.0 ≡ y.0 = cc in
        let others : second.others ≡ here = cc in
        ap (λ (f : FieldLine). behind f x.1) field ∙ ap (behind y.0) left ∙ second.behind
        ∙ ap (λ (fs : List FieldLine). Read fs required) others

    found : (x y : Result (FieldLine × List ℕ) LineFault) → read w ≡ x → read other ≡ y → keeps w (says x)
        → (p.required ≤ window_insert_count other → keeps other (says y))
        → Leaves (Some p) other limit r all more fields required (says x)
    found (Err fault) y e h kept there =
        never_refused fields required (InLine (suc r.lines) r.offset fault)
        (subst (ReadsOrWaits fields required) kept both.0)
    found (Ok x) y e h kept there =
        let here = first w x.0 x.1 le kept both.0 in
        elim (cases_lt (window_insert_count other) p.required) [
          | inl lt ↦ (
            here.others,
            here.all,
            inr (waits_on other limit (behind_line (length all - length x.1) x.0.field r) p (x.1 ++ more) known lt
                ∙ ap Blocked (requires x.0 x.1 here)),
          )
          | inr le ↦ (here.others, here.all, inl (given x y e h here le (there le) here.others here.all))
        ]

    pick : (t : Bool) → keeps w (cond t More (says (read w)))
        → (p.required ≤ window_insert_count other → keeps other (cond t More (says (read other))))
        → Leaves (Some p) other limit r all more fields required (cond t More (says (read w)))
    pick true kept there = both.1
    pick false kept there = found (read w) (read other) refl refl kept there

-- ---- the law

behind_leaves : (o : Option SectionPrefix) (w other : Window) (limit : ℕ) (last : Bool) (r : ReaderView)
    (all more : List ℕ) (fields : List FieldLine) (required : ℕ) → r.prefix ≡ o → IsPlaced o r → (last ≡ true → more ≡ [])
    → BothRead w other limit r o (all ++ more) fields required
    → Leaves o other limit r all more fields required (next_behind w limit last r o all)
behind_leaves None w other limit last r all more fields required known placed ends both =
    prefix_leaves w other limit last r all more fields required both
    (behind_keeps None w limit last r all more known placed ends)
    (behind_keeps None other limit last r all more known placed ends)
behind_leaves (Some p) w other limit last r all more fields required known placed ends both =
    elim (cases_lt (window_insert_count w) p.required) [
      | inl lt ↦
          subst (Leaves (Some p) other limit r all more fields required) (sym (next_stays w limit last r p all lt))
          (let waits : reading_behind w limit r (Some p) (all ++ more) ≡ Blocked p.required =
          rw (lt-ltb (window_insert_count w) p.required lt) refl in
          waits_for fields required p.required (subst (ReadsOrWaits fields required) waits both.0))
      | inr le ↦
          subst (Leaves (Some p) other limit r all more fields required) (sym (next_lines w limit last r p all le))
          (lines_leave w other limit last r p all more fields required known le both (kept w le) (kept other))
    ]
  where
    kept : (v : Window) → p.required ≤ window_insert_count v
        → Keeps (Some p) v limit r all more (reading_behind v limit r (Some p) (all ++ more))
        (next_line (lines_under v limit p 0) last r all)
    kept v le =
        subst (Keeps (Some p) v limit r all more (reading_behind v limit r (Some p) (all ++ more)))
        (next_lines v limit last r p all le) (behind_keeps (Some p) v limit last r all more known placed ends)

pub pieces_leave : PiecesLeaveTheReading
pieces_leave w other limit last r bytes more fields required k ends fits here there =
    let all = r.pending ++ bytes in
    let assoc : r.pending ++ (bytes ++ more) ≡ all ++ more = sym (append_assoc r.pending bytes more) in
    let short : r.offset + length r.pending + length bytes ≤ most_read limit =
    shorter_front r.offset (most_read limit) r.pending bytes more fits in
    let within : nat_le (r.offset + length r.pending + length bytes) (most_read limit) ≡ true =
    le-leb (r.offset + length r.pending + length bytes) (most_read limit) short in
    subst (LeavesReading other limit r all more fields required) (sym (next_within w limit last r bytes within))
    (leaves_is r.prefix other limit r all more fields required (next_behind w limit last r r.prefix all) refl
    (behind_leaves r.prefix w other limit last r all more fields required refl k.placed ends (
      subst (λ (l : List ℕ). ReadsOrWaits fields required (reading_behind w limit r r.prefix l)) assoc here,
      subst (λ (l : List ℕ). ReadsOrWaits fields required (reading_behind other limit r r.prefix l)) assoc there,
    )))
