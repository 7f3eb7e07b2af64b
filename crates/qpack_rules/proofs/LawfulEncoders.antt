-- A strict decoder reads what a lawful encoder wrote, whatever front of its instructions it has received.
use Rattle.std.proofs.Common.{ℕ, zero, suc, ◌+◌, ◌-◌, ◌^◌, ◌<◌, ◌≤◌, ◌≡◌, Bool, true, false, List}
use Rattle.std.proofs.Common.{[], ◌∷◌, ◌++◌, length, Some, Result, Ok, Err, refl, sym, ap, ◌∙◌, subst, arith}
use Rattle.std.proofs.Common.{length-append, length-drop}
use Rattle.std.specs.List.{AllByRecursion}
use Rattle.std.proofs.Common.{inl, inr}
use Rattle.std.specs.Prelude.{nat_eq, ◌&&◌}
use Rattle.std.proofs.lemmas.Bool.{lt-ltb, le-ltb, le-leb}
use Rattle.qpack_spec.specs.Field.{Field, FieldLine, field_size, total_size, fields_of_lines}
use Rattle.qpack_spec.specs.Form.{form_at}
use Rattle.qpack_spec.specs.History.{History, window_of, whole_window, initial_history, Leads}
use Rattle.qpack_spec.specs.Instruction.{EncoderInstruction}
use Rattle.qpack_rules.specs.LawfulEncoders.{IsInsertion, MeansLine, MayBeReferenced, SpellsField, TellsPrefix}
use Rattle.qpack_rules.specs.LawfulEncoders.{IsLawfulSection, EntriesStayLive, ReadsLawfully, LawfulSectionsAreRead}
use Rattle.qpack_spec.specs.LengthLaws.{longest_section}
use Rattle.qpack_spec.specs.Line.{Line, IndexedStatic, IndexedDynamic, IndexedPostBase, NamedStatic, NamedDynamic}
use Rattle.qpack_spec.specs.Line.{NamedPostBase, Literal, line_form, SpellsLine}
use Rattle.qpack_spec.specs.Prefix.{Prefix, PrefixFault, read_strict_prefix, read_base, read_required}
use Rattle.qpack_spec.specs.Reading.{fields_of, line_field, references_of_line, greatest_of}
use Rattle.qpack_spec.specs.Stateless.{saturated_size}
use Rattle.qpack_spec.specs.Stream.{SpellsAll}
use Rattle.qpack_spec.specs.StrictReading.{LinesUnder, within_size, strict_field, strict_line_at, strict_lines_at}
use Rattle.qpack_spec.specs.StrictReading.{is_never_indexed, strict_reading}
use Rattle.qpack_spec.specs.Window.{Window, absolute_entry, maximum_capacity, window_insert_count}
use Rattle.qpack_rules.specs.StrictInstructions.{inserts, strict_apply}
use Rattle.qpack_spec.specs.Table.{Table, table_of, empty_table, apply_encoder_instruction}
use Rattle.qpack_rules.specs.Taking.{apply_in_turn}
use Rattle.qpack_spec.specs.Window.{DoesNotFit, Effect, effect, window_after, apply}
use Rattle.qpack_spec.specs.History.{history_after}
use Rattle.qpack_rules.proofs.PutTables.{applied_put}
use Rattle.qpack_spec.proofs.Results.{bind_ok, chosen, ok_is}
use Rattle.qpack_spec.proofs.Windows.{window_grown, sound_grown, allowed}
use Rattle.qpack_spec.proofs.BlockReadings.{prefix_again, spelled_length}
use Rattle.qpack_spec.proofs.FormLaws.{form_again}
use Rattle.qpack_spec.proofs.Lists.{every_weaker}
use Rattle.qpack_spec.proofs.Prefixes.{InReach, ReadsAs, reads_required, reads_none, prefix_dynamic, prefix_plain}
use Rattle.qpack_spec.proofs.Prefixes.{strict_same}
use Rattle.qpack_spec.proofs.Readings.{static_means, entry_relative, entry_post_base, valued_from, line_plain}
use Rattle.qpack_spec.proofs.Readings.{greatest_bound}
use Rattle.qpack_rules.proofs.SectionLengths.{prefix_short, lines_short}
use Rattle.qpack_spec.proofs.Sizes.{total_first}
use Rattle.qpack_rules.proofs.StrictReadings.{strict_none}
use Rattle.qpack_rules.proofs.StrictWritten.{count_free}
use Rattle.qpack_spec.proofs.Windows.{Sound, Agreed, sound_few, sound_start, agreed_start, leads_sound, leads_agreed}
use Rattle.qpack_spec.proofs.Windows.{Grows, leads_grows, leads_split, leads_unique, kept_received, entry_whole}

-- ---- entries stay live

-- an insertion that is not evicted later, at a moment that has it
entry_kept : (received made : History) (a : ℕ) (f : Field) → Grows received made → made.dropped < a
    → a ≤ length received.inserted → IsInsertion made.inserted a f → absolute_entry (window_of received) a ≡ Some f
entry_kept received made a f g low high is =
    kept_received received made a g low high f (entry_whole made a f is.0 is.1)

pub entries_stay : EntriesStayLive
entries_stay maximum a front others received made f l k low high is =
    entry_kept received made a f (leads_grows received others made k) low high is

-- ---- a line

-- what is inserted where a line looks for it, is there
abbrev Shows : List Field → Window → ℕ → Type 0
Shows inserted w a = (f : Field) → IsInsertion inserted a f → absolute_entry w a ≡ Some f

line_means : (inserted : List Field) (w : Window) (base : ℕ) (l : Line) (f : Field)
    → AllByRecursion (Shows inserted w) (references_of_line base l) → MeansLine inserted base l f
    → line_field w base l ≡ Ok f
unfolding line_field references_of_line
line_means inserted w base (IndexedStatic i) f k m = static_means i f m
line_means inserted w base (IndexedDynamic i) f k m = entry_relative w base i f (k.0 f m)
line_means inserted w base (IndexedPostBase i) f k m = entry_post_base w base i f (k.0 f m)
line_means inserted w base (NamedStatic i v) f k m = valued_from v _ m.0 f (static_means i m.0 m.1) (sym m.2)
line_means inserted w base (NamedDynamic i v) f k m =
    valued_from v _ m.0 f (entry_relative w base i m.0 (k.0 m.0 m.1)) (sym m.2)
line_means inserted w base (NamedPostBase i v) f k m =
    valued_from v _ m.0 f (entry_post_base w base i m.0 (k.0 m.0 m.1)) (sym m.2)
line_means inserted w base (Literal n v) f k m = ap (λ (x : Field). Ok x) (sym m)

-- lines that reference nothing do so from every base
plain_base : (base other : ℕ) (l : Line) → references_of_line base l ≡ [] → references_of_line other l ≡ []
unfolding references_of_line
plain_base base other (IndexedStatic i) e = refl
plain_base base other (IndexedDynamic i) e = absurd cc
plain_base base other (IndexedPostBase i) e = absurd cc
plain_base base other (NamedStatic i v) e = refl
plain_base base other (NamedDynamic i v) e = absurd cc
plain_base base other (NamedPostBase i v) e = absurd cc
plain_base base other (Literal n v) e = refl

-- nothing may be referenced where nothing is required
none_referenced : (made : History) (xs : List ℕ) → AllByRecursion (MayBeReferenced made 0) xs → xs ≡ []
none_referenced made [] h = refl
none_referenced made (x ∷ xs) h = absurd (omega (arith, h.0.0, h.0.1))

-- a line that is spelled so is read so
spelled_read : (u : LinesUnder) (sum : ℕ) (l : Line) (f : FieldLine) (encoding more : List ℕ)
    (s : SpellsLine encoding l) → is_never_indexed s.first ≡ f.never_indexed
    → AllByRecursion (λ a. a ≤ u.required) (references_of_line u.base l) → line_field u.window u.base l ≡ Ok f.field
    → sum + field_size f.field ≤ u.limit → strict_line_at u sum s.first (s.more ++ more) ≡ Ok (f, more)
unfolding strict_line_at strict_field within_size
spelled_read u sum l f encoding more s marked within means low =
    let again : form_at line_form (s.first ∷ (s.more ++ more)) ≡ Ok (l, more) =
    subst (λ (x : List ℕ). form_at line_form (x ++ more) ≡ Ok (l, more)) s.begins
    (form_again line_form encoding more l s) in
    rw (
      again,
      le-leb (greatest_of (references_of_line u.base l)) u.required
          (greatest_bound u.required (references_of_line u.base l) within),
      means,
      le-ltb u.limit (saturated_size (sum + field_size f.field)) (omega (arith, low)),
      marked,
    ) refl

-- ---- the lines

-- what a decoder needs of a line: its field under the window and the base that it reads lines with
record IsReadUnder (u : LinesUnder) (encoding : List ℕ) (f : FieldLine) : Type 0 where
  pub line : Line
  pub spelled : SpellsLine encoding line
  pub marked : is_never_indexed spelled.first ≡ f.never_indexed
  pub within : AllByRecursion (λ a. a ≤ u.required) (references_of_line u.base line)
  pub means : line_field u.window u.base line ≡ Ok f.field

lines_read : (steps : ℕ) (u : LinesUnder) (number sum : ℕ) (bytes : List ℕ) (fs : List FieldLine)
    → SpellsAll (IsReadUnder u) bytes fs → sum + total_size (fields_of_lines fs) ≤ u.limit → length bytes ≤ steps
    → strict_lines_at steps u number sum bytes ≡ Ok fs
unfolding strict_lines_at
lines_read steps u number sum bytes [] s low enough = rw s (strict_none steps u number sum)
lines_read zero u number sum bytes (f ∷ fs) s low enough =
    absurd (omega (arith, enough, ap length s.2, spelled_length s.0 s.1 s.3.line s.3.spelled))
lines_read (suc steps) u number sum bytes (f ∷ fs) s low enough =
    let k = s.3 in
    let size : sum + (field_size f.field + total_size (fields_of_lines fs)) ≤ u.limit =
    omega (arith, low, total_first f.field (fields_of_lines fs)) in
    let e : bytes ≡ k.spelled.first ∷ (k.spelled.more ++ s.1) = s.2 ∙ ap (λ x. x ++ s.1) k.spelled.begins in
    let one = spelled_read u sum k.line f s.0 s.1 k.spelled k.marked k.within k.means (omega (arith, size)) in
    let others = lines_read steps u (suc number) (sum + field_size f.field) s.1 fs s.4 (omega (arith, size))
    (omega (arith, enough, ap length s.2, spelled_length s.0 s.1 k.line k.spelled)) in
    rw (e, one, others) refl

spells_each : {L : Type 0} (S T : List ℕ → L → Type 0) → ((encoding : List ℕ) (l : L) → S encoding l → T encoding l)
    → (bytes : List ℕ) (ls : List L) → SpellsAll S bytes ls → SpellsAll T bytes ls
spells_each S T h bytes [] s = s
spells_each S T h bytes (l ∷ ls) s = (s.0, s.1, s.2, h s.0 l s.3, spells_each S T h s.1 ls s.4)

-- the lines, of all insertions
record MeansAll (made : History) (base : ℕ) (bytes : List ℕ) (fs : List Field) : Type 0 where
  pub lines : List Line
  pub joined : SpellsAll SpellsLine bytes lines
  pub means : fields_of (whole_window made) base lines ≡ Ok fs

every_shown : (inserted : List Field) (w : Window) (P : ℕ → Type 0) → ((a : ℕ) → P a → Shows inserted w a)
    → (xs : List ℕ) → AllByRecursion P xs → AllByRecursion (Shows inserted w) xs
every_shown inserted w P h [] k = tt
every_shown inserted w P h (x ∷ xs) k = (h x k.0, every_shown inserted w P h xs k.1)

all_mean : (made : History) (required base : ℕ) (bytes : List ℕ) (fs : List FieldLine)
    → SpellsAll (SpellsField made required base) bytes fs → MeansAll made base bytes (fields_of_lines fs)
unfolding fields_of
all_mean made required base bytes [] s = record { lines = []; joined = s; means = refl }
all_mean made required base bytes (f ∷ fs) s =
    let k = s.3 in
    let more = all_mean made required base s.1 fs s.4 in
    let one : line_field (whole_window made) base k.line ≡ Ok f.field =
    line_means made.inserted (whole_window made) base k.line f.field
    (every_shown made.inserted (whole_window made) (MayBeReferenced made required)
    (λ a h. λ g is. entry_whole made a g is.0 is.1) (references_of_line base k.line) k.references) k.means in
    record {
      lines = k.line ∷ more.lines;
      joined = (s.0, s.1, s.2, k.spelled, more.joined);
      means = rw (one, more.means) refl;
    }

-- ---- the prefix

-- the base that lines are read with: that of the section, or 0 where nothing is required
abbrev base_read : ℕ → ℕ → ℕ
base_read zero base = 0
base_read (suc n) base = base

base_told : (maximum required base : ℕ) (p : Prefix) → TellsPrefix maximum required base p → base < 2 ^ 64
    → read_base p.sign required p.delta ≡ Ok base
unfolding read_base
base_told maximum required base p t small = by p.sign refl
  where
    by : (sign : Bool) → p.sign ≡ sign → read_base sign required p.delta ≡ Ok base
    by false e =
        let is = t.above e in
        rw (lt-ltb (required + p.delta) (2 ^ 64) (omega (arith, is, small)))
        (ap (λ (n : ℕ). let r : Result ℕ PrefixFault = Ok n in r) (sym is))
    by true e =
        let is = t.below e in
        let same : required - p.delta - 1 ≡ base = omega (arith, is) in
        rw (lt-ltb p.delta required (omega (arith, is)))
        (ap (λ (n : ℕ). let r : Result ℕ PrefixFault = Ok n in r) same)

prefix_told : (received maximum required base : ℕ) (p : Prefix) → TellsPrefix maximum required base p → base < 2 ^ 64
    → (0 < required → InReach received maximum required)
    → read_strict_prefix received maximum p ≡ Ok (required, base_read required base)
prefix_told received maximum zero base p t small reach =
    strict_same received maximum 0 0 p (prefix_plain received maximum base p reads) reads.not_below
  where
    plain : (sign : Bool) → p.sign ≡ sign → p.sign ≡ false
    plain false e = e
    plain true e = absurd (omega (arith, t.below e))

    reads : ReadsAs received maximum 0 base p
    reads = record {
      reads_count = subst (λ (n : ℕ). read_required received maximum n ≡ Ok 0) (sym (t.none refl))
          (reads_none received maximum);
      reads_base = λ _. base_told maximum 0 base p t small;
      not_below = λ _. plain p.sign refl;
    }
prefix_told received maximum (suc n) base p t small reach =
    strict_same received maximum (suc n) base p (prefix_dynamic received maximum (suc n) base p reads (omega arith))
    reads.not_below
  where
    reads : ReadsAs received maximum (suc n) base p
    reads = record {
      reads_count = subst (λ (m : ℕ). read_required received maximum m ≡ Ok (suc n)) (sym (t.some (omega arith)))
          (reads_required received maximum (suc n) (omega arith) (reach (omega arith)));
      reads_base = λ _. base_told maximum (suc n) base p t small;
      not_below = λ e. absurd (omega (arith, e));
    }

-- ---- the moment

-- what is received of what was made, and that what was dropped is received
pub record Moment (maximum : ℕ) (received made : History) : Type 0 where
  pub grows : Grows received made
  pub sound_received : Sound received
  pub agreed_received : Agreed maximum received
  pub sound_made : Sound made
  pub agreed_made : Agreed maximum made
  pub dropped : made.dropped ≤ length received.inserted

pub moment : (maximum known : ℕ) (front others : List EncoderInstruction) (received made : History)
    → Leads (initial_history 0 maximum) front received → Leads received others made → made.dropped ≤ known
    → known ≤ length received.inserted → Moment maximum received made
moment maximum known front others received made l k evicted told =
    let sound = leads_sound (initial_history 0 maximum) front received l (sound_start 0 maximum) in
    let agreed = leads_agreed maximum (initial_history 0 maximum) front received l
    (agreed_start 0 maximum (omega arith)) in
    record {
      grows = leads_grows received others made k;
      sound_received = sound;
      agreed_received = agreed;
      sound_made = leads_sound received others made k sound;
      agreed_made = leads_agreed maximum received others made k agreed;
      dropped = omega (arith, evicted, told);
    }

pub all_counted : (h : History) → Sound h → window_insert_count (window_of h) ≡ length h.inserted
unfolding window_of
all_counted h s = omega (arith, length-drop h.dropped h.inserted, s.in_range)

-- the maximum of a history's window is the agreed one
pub maximum_is : (maximum : ℕ) (h : History) → Agreed maximum h
    → maximum_capacity (window_of h).agreed_max (window_of h).capacity ≡ maximum
unfolding window_of
maximum_is maximum h a = rw a.is_agreed refl

-- so the count of a section can be read back
in_reach : (maximum required : ℕ) (received made : History) → Moment maximum received made
    → required ≤ length made.inserted → made.dropped < required
    → InReach (length received.inserted) maximum required
in_reach maximum required received made m inserted held =
    let more : length received.inserted ≤ length made.inserted =
    omega (
      arith,
      ap length m.grows.inserts,
      length-append received.inserted m.grows.more,
    ) in
    let room : 32 ≤ maximum = m.agreed_made.roomy (omega (arith, inserted, held)) in
    let few = sound_few made m.sound_made in
    let within = m.agreed_made.within in
    record {
      room = room;
      low = omega (arith, few, within, m.dropped, inserted);
      high = omega (arith, few, within, more, held);
      small = omega (arith, inserted, m.sound_made.few);
    }

-- ---- a section

-- what a line is read as, behind the prefix
field_under : (received made : History) (required base : ℕ) (u : LinesUnder) (maximum : ℕ)
    → Moment maximum received made
    → required ≤ length received.inserted → u.window ≡ window_of received → u.required ≡ required
    → u.base ≡ base_read required base → (encoding : List ℕ) (f : FieldLine)
    → SpellsField made required base encoding f → IsReadUnder u encoding f
field_under received made zero base u maximum m within window required_is base_is encoding f k =
    let nothing = none_referenced made (references_of_line base k.line) k.references in
    let nothing' : references_of_line u.base k.line ≡ [] = plain_base base u.base k.line nothing in
    record {
      line = k.line;
      spelled = k.spelled;
      marked = k.marked;
      within = subst (AllByRecursion (λ a. a ≤ u.required)) (sym nothing') tt;
      means = line_plain u.window (window_of received) u.base base k.line nothing'
          ∙ line_means made.inserted (window_of received) base k.line f.field
          (subst (AllByRecursion (Shows made.inserted (window_of received))) (sym nothing) tt) k.means;
    }
field_under received made (suc n) base u maximum m within window required_is base_is encoding f k =
    rw (window, required_is, base_is) (record {
      line = k.line;
      spelled = k.spelled;
      marked = k.marked;
      within = every_weaker (MayBeReferenced made (suc n)) (λ a. a ≤ suc n) (λ a h. h.1) (references_of_line base k.line)
          k.references;
      means = line_means made.inserted (window_of received) base k.line f.field
          (every_shown made.inserted (window_of received) (MayBeReferenced made (suc n))
          (λ a h. λ g is. entry_kept received made a g m.grows h.0 (omega (arith, h.1, within)) is)
          (references_of_line base k.line) k.references) k.means;
    })

-- it is no longer than any within the limit
section_short : (maximum required limit : ℕ) (made : History) (fields : List FieldLine) (bytes : List ℕ)
    → IsLawfulSection maximum made required fields bytes → total_size (fields_of_lines fields) ≤ limit
    → length bytes ≤ longest_section limit
section_short maximum required limit made fields bytes k low =
    let all = all_mean made required k.base k.tail fields k.lines_spelled in
    omega (
      arith,
      low,
      ap length k.cut,
      length-append k.head k.tail,
      prefix_short k.head k.prefix k.prefix_spelled,
      lines_short (whole_window made) k.base k.tail all.lines (fields_of_lines fields) all.joined all.means,
    )

-- where the maximum is 0 nothing is required
none_at_zero : (maximum required : ℕ) (received made : History) (base : ℕ) (p : Prefix) → Moment maximum received made
    → required ≤ length made.inserted → TellsPrefix maximum required base p → maximum ≡ 0 → p.count ≡ 0
none_at_zero maximum zero received made base p m inserted t e = t.none refl
none_at_zero maximum (suc n) received made base p m inserted t e =
    absurd (let room = m.agreed_made.roomy (omega (arith, inserted)) in omega (arith, room, e))

reads_so : (maximum limit required : ℕ) (received made : History) (fields : List FieldLine) (bytes : List ℕ)
    → Moment maximum received made → IsLawfulSection maximum made required fields bytes
    → total_size (fields_of_lines fields) ≤ limit → ReadsLawfully received limit required fields bytes
unfolding strict_reading
reads_so maximum limit required received made fields bytes m k low =
    let w = window_of received in
    let short = section_short maximum required limit made fields bytes k low in
    let total = all_counted received m.sound_received in
    let agreed = maximum_is maximum received m.agreed_received in
    let again = prefix_again k.head k.tail k.prefix k.prefix_spelled in
    let free = count_free maximum k.prefix.count
    (none_at_zero maximum required received made k.base k.prefix m k.inserted k.tells) in
    let told = prefix_told (length received.inserted) maximum required k.base k.prefix k.tells k.small
    (λ some. in_reach maximum required received made m k.inserted (k.held some)) in
    let u : LinesUnder =
    record {
      window = w;
      required = required;
      base = base_read required k.base;
      limit = limit;
      section = length (k.head ++ k.tail);
    } in
    rw k.cut (record {
      read = λ within.
          rw (
            le-ltb (longest_section limit) (length (k.head ++ k.tail)) (omega (arith, short, ap length k.cut)),
            again,
            agreed,
            free,
            total,
            told,
            le-ltb (window_insert_count w) required (omega (arith, total, within)),
            lines_read (length k.tail) u 0 0 k.tail fields
                (spells_each (SpellsField made required k.base) (IsReadUnder u)
                (field_under received made required k.base u maximum m within refl refl refl) k.tail fields
                k.lines_spelled) (omega (arith, low)) (omega arith),
          ) refl;
      blocked = λ missing.
          rw (
            le-ltb (longest_section limit) (length (k.head ++ k.tail)) (omega (arith, short, ap length k.cut)),
            again,
            agreed,
            free,
            total,
            told,
            lt-ltb (window_insert_count w) required (omega (arith, total, missing)),
          ) refl;
    })

pub lawful_sections_read : LawfulSectionsAreRead
lawful_sections_read maximum known limit required front others received made fields bytes e l told k low =
    let parts = leads_split (initial_history 0 maximum) front others made e.makes in
    let same : parts.0 ≡ received = leads_unique (initial_history 0 maximum) front parts.0 received parts.1 l in
    reads_so maximum limit required received made fields bytes
    (moment maximum known front others received made l
    (subst (λ (h : History). Leads h others made) same parts.2) e.evicted told) k low

-- ---- what was taken strictly

strict_leads_one : (h : History) (i : EncoderInstruction) (u : Table) → Sound h
    → strict_apply (table_of (window_of h)) i ≡ Ok u
    → (e : Effect) × (effect (window_of h) i ≡ Ok e) × (u ≡ table_of (window_of (history_after h e)))
unfolding strict_apply
strict_leads_one h i u sound applied =
    elim (chosen (nat_eq (table_of (window_of h)).capacity 0 && inserts i) (Err DoesNotFit)
    (apply_encoder_instruction (table_of (window_of h)) i) (Ok u) applied) [
      | inl unlawful ↦ absurd (let l = unlawful.1 in cc)
      | inr lawful ↦
          let w = window_of h in
          let x = bind_ok (apply w i) (λ y. Ok (table_of y)) u (sym (applied_put w i) ∙ lawful.1) in
          let e = bind_ok (effect w i) (λ e. Ok (window_after w e)) x.0 x.1 in (
            e.0,
            e.1,
            sym (ok_is (table_of x.0) u x.2)
                ∙ ap table_of (sym (ok_is (window_after w e.0) x.0 e.2) ∙ sym (window_grown h e.0 sound.in_range)),
          )
    ]

-- instructions that a strict decoder takes make the insertions that they lead to
pub strict_leads : (h : History) (is : List EncoderInstruction) (t : Table) → Sound h
    → apply_in_turn strict_apply (table_of (window_of h)) is ≡ Ok t
    → (h' : History) × Leads h is h' × (t ≡ table_of (window_of h'))
strict_leads h [] t sound e = (h, refl, sym (ok_is (table_of (window_of h)) t e))
strict_leads h (i ∷ is) t sound e =
    let first = bind_ok (strict_apply (table_of (window_of h)) i) (λ u. apply_in_turn strict_apply u is) t e in
    let one = strict_leads_one h i first.0 sound first.1 in
    let grown = sound_grown h one.0 sound (allowed (window_of h) i one.0 one.1) in
    let more = strict_leads (history_after h one.0) is t grown
    (subst (λ (u : Table). apply_in_turn strict_apply u is ≡ Ok t) one.2 first.2) in
    (more.0, (one.0, one.1, more.1), more.2)

-- a decoder's table as it begins
pub begins_empty : (maximum : ℕ) → empty_table 0 (Some maximum) 0 ≡ table_of (window_of (initial_history 0 maximum))
unfolding table_of window_of
begins_empty maximum = refl
