-- What a lawful decoder writes is heard, and insertions go on where nothing is under way.
use Rattle.std.proofs.Common.{ℕ, zero, suc, ◌+◌, ◌-◌, ◌^◌, ◌<◌, ◌≤◌, ◌≡◌, ◌⊎◌, inl, inr, max, Bool, true, false, cond}
use Rattle.std.proofs.Common.{List, [], ◌∷◌, ◌++◌, length, take, Option, None, Some, Result, Ok, refl, sym, ap, ◌∙◌}
use Rattle.std.proofs.Common.{subst, arith}
use Rattle.std.specs.Option.{option_map}
use Rattle.std.specs.Prelude.{nat_eq, nat_le, not, ◌&&◌, find}
use Rattle.std.proofs.lemmas.Bool.{cond_both, lt-ltb, le-ltb, le-leb, ne_eqb}
use Rattle.std.proofs.lemmas.List.Elements.{filter-append}
use Rattle.qpack_spec.specs.Bytes.{◌>>=◌}
use Rattle.qpack_spec.specs.Field.{Field, FieldLine, field_size, has_name, is_field}
use Rattle.qpack_spec.specs.Instruction.{DecoderInstruction, Acknowledgment, Cancellation, Increment}
use Rattle.qpack_rules.specs.LawfulDecoders.{HasDecoded, MayWrite, IsQuiet, IsToBeInserted, LawfulInstructionsAreHeard}
use Rattle.qpack_rules.specs.LawfulDecoders.{MoreSectionsChangeNothing, InsertionsGoOn}
use Rattle.qpack_spec.specs.Line.{Line, IndexedDynamic, Literal}
use Rattle.qpack_spec.specs.Marked.{marked_rule, marked_field, marked_fields}
use Rattle.qpack_spec.specs.Reading.{greatest_of}
use Rattle.qpack_spec.specs.Rule.{Draft, empty_draft, with_line, with_referencing_line, with_new_entry, literal}
use Rattle.qpack_spec.specs.Rule.{literal_by_entry, name_reference_line, by_static, by_entry, insertion_or_literal}
use Rattle.qpack_spec.specs.Rule.{rule_field}
use Rattle.qpack_spec.specs.StaticTable.{static_index, static_name_index}
use Rattle.qpack_rules.specs.StrictInstructions.{HearingRefusal, required_by, oldest_required, known_at_least}
use Rattle.qpack_rules.specs.StrictInstructions.{strict_hear, hear_in_turn}
use Rattle.qpack_spec.specs.Table.{Table, Entry, UnacknowledgedBlock, insert_count, without_oldest, without_stream}
use Rattle.qpack_spec.specs.Table.{newest_index, with_increment, apply_decoder_instruction, is_evictable, all_evictable}
use Rattle.qpack_spec.specs.Table.{eviction_count_for, has_room, below_limit, without_references, may_reference}
use Rattle.qpack_spec.specs.Table.{with_reference, with_entry}
use Rattle.qpack_spec.proofs.References.{greatest_track}

-- ---- what is heard

-- the table behind an acknowledgment of a section that requires so many insertions
abbrev acknowledged : Table → List UnacknowledgedBlock → ℕ → Table
acknowledged t others required = known_at_least required (record t { unacknowledged = others })

hears_acknowledgment : (t : Table) (received stream : ℕ) (d : HasDecoded received stream t.unacknowledged)
    → strict_hear t (Acknowledgment stream) ≡ Ok (acknowledged t d.others d.required)
unfolding strict_hear apply_decoder_instruction
hears_acknowledgment t received stream d = rw (d.others_are, d.oldest) refl

hears_increment : (t : Table) (by : ℕ) → 0 < by → t.known_received_count + by ≤ insert_count t
    → strict_hear t (Increment by) ≡ Ok (with_increment t by)
unfolding strict_hear
hears_increment t by some made =
    rw (
      ne_eqb by 0 (λ e. absurd (omega (arith, e, some))),
      le-ltb (insert_count t) (t.known_received_count + by) made,
    ) refl

-- what an increment makes of the parts that count here
record Raised (t u : Table) (by : ℕ) : Type 0 where
  pub known : u.known_received_count ≡ t.known_received_count + by
  pub sections : u.unacknowledged ≡ t.unacknowledged
  pub count : insert_count u ≡ insert_count t

raised : (t : Table) (by : ℕ) → t.known_received_count + by < 2 ^ 64 → Raised t (with_increment t by) by
unfolding with_increment
raised t by few = record { known = omega (arith, few); sections = refl; count = refl }

abbrev Heard : Table → ℕ → List DecoderInstruction → Type 0
Heard t received more = (u : Table) × (hear_in_turn t more ≡ Ok u) × (u.known_received_count ≤ received)

behind : (t u : Table) (received : ℕ) (i : DecoderInstruction) (more : List DecoderInstruction)
    → strict_hear t i ≡ Ok u → Heard u received more → Heard t received (i ∷ more)
behind t u received i more e h =
    (h.0, ap (λ (r : Result Table HearingRefusal). r >>= λ v. hear_in_turn v more) e ∙ h.1, h.2)

pub instructions_heard : LawfulInstructionsAreHeard
unfolding strict_hear apply_decoder_instruction
instructions_heard t received [] may known order few = (t, refl, known)
instructions_heard t received (Acknowledgment stream ∷ more) may known order few =
    let d = may.0 in
    let v : Table = record t { unacknowledged = d.others } in
    let u = acknowledged t d.others d.required in
    let r = raised v (d.required - t.known_received_count) (omega (arith, d.decoded, known, order, few)) in
    behind t u received (Acknowledgment stream) more (hears_acknowledgment t received stream d)
    (instructions_heard u received more
    (subst (λ (n : ℕ). MayWrite received n u.unacknowledged more)
    (let e : max t.known_received_count d.required ≡ u.known_received_count = omega (arith, r.known) in e)
    (subst (λ (bs : List UnacknowledgedBlock). MayWrite received (max t.known_received_count d.required) bs more)
    (sym r.sections) may.1)) (omega (arith, r.known, d.decoded, known)) (omega (arith, r.count, order))
    (omega (arith, r.count, few)))
instructions_heard t received (Cancellation stream ∷ more) may known order few =
    let u : Table = record t { unacknowledged = without_stream stream t.unacknowledged } in
    behind t u received (Cancellation stream) more refl (instructions_heard u received more may known order few)
instructions_heard t received (Increment by ∷ more) may known order few =
    let u = with_increment t by in
    let r = raised t by (omega (arith, may.1, order, few)) in
    behind t u received (Increment by) more (hears_increment t by may.0 (omega (arith, may.1, order)))
    (instructions_heard u received more
    (subst (λ (n : ℕ). MayWrite received n u.unacknowledged more) (sym r.known)
    (subst (λ (bs : List UnacknowledgedBlock). MayWrite received (t.known_received_count + by) bs more)
    (sym r.sections) may.2)) (omega (arith, r.known, may.1)) (omega (arith, r.count, order))
    (omega (arith, r.count, few)))

-- ---- more sections

oldest_more : (s : ℕ) (bs later : List UnacknowledgedBlock) (required : ℕ) → oldest_required s bs ≡ Some required
    → oldest_required s (bs ++ later) ≡ Some required
oldest_more s [] later required e = absurd cc
oldest_more s (b ∷ bs) later required e = both (nat_eq b.stream s) (oldest_more s bs later required) e
  where
    both : (t : Bool) → (oldest_required s bs ≡ Some required → oldest_required s (bs ++ later) ≡ Some required)
        → option_map required_by (cond t (Some b) (find (λ c. nat_eq c.stream s) bs)) ≡ Some required
        → option_map required_by (cond t (Some b) (find (λ c. nat_eq c.stream s) (bs ++ later))) ≡ Some required
    both true rest h = h
    both false rest h = rest h

others_more : (s : ℕ) (bs later others : List UnacknowledgedBlock) → without_oldest s bs ≡ Some others
    → without_oldest s (bs ++ later) ≡ Some (others ++ later)
unfolding without_oldest
others_more s [] later others e = absurd cc
others_more s (b ∷ bs) later others e =
    both (nat_eq b.stream s) (without_oldest s bs) refl (others_more s bs later) e
  where
    same : (x y : List UnacknowledgedBlock) → Some x ≡ Some y → x ≡ y
    same x y h = cc

    both : (t : Bool) (o : Option (List UnacknowledgedBlock)) → without_oldest s bs ≡ o
        → ((rest : List UnacknowledgedBlock) → without_oldest s bs ≡ Some rest
        → without_oldest s (bs ++ later) ≡ Some (rest ++ later))
        → cond t (Some bs) (option_map (λ rest. b ∷ rest) o) ≡ Some others
        → cond t (Some (bs ++ later)) (option_map (λ rest. b ∷ rest) (without_oldest s (bs ++ later)))
        ≡ Some (others ++ later)
    both true o q rest h = ap (λ (x : List UnacknowledgedBlock). Some (x ++ later)) (same bs others h)
    both false None q rest h = absurd cc
    both false (Some more) q rest h =
        rw (rest more q) (ap (λ (x : List UnacknowledgedBlock). Some (x ++ later)) (same (b ∷ more) others h))

pub more_sections : MoreSectionsChangeNothing
unfolding without_stream
more_sections received told sections later [] may = tt
more_sections received told sections later (Acknowledgment stream ∷ more) may =
    let d = may.0 in (
      record {
        required = d.required;
        others = d.others ++ later;
        oldest = oldest_more stream sections later d.required d.oldest;
        others_are = others_more stream sections later d.others d.others_are;
        decoded = d.decoded;
      },
      more_sections received (max told d.required) d.others later more may.1,
    )
more_sections received told sections later (Cancellation stream ∷ more) may =
    subst (λ (bs : List UnacknowledgedBlock). MayWrite received told bs more)
    (sym (filter-append (λ (b : UnacknowledgedBlock). not (nat_eq b.stream stream)) sections later))
    (more_sections received told (without_stream stream sections) (without_stream stream later) more may)
more_sections received told sections later (Increment by ∷ more) may =
    (may.0, may.1, more_sections received (told + by) sections later more may.2)

-- ---- insertions go on

-- what is known to be received and is not referenced may go
free : (t : Table) (a : ℕ) (sent : Bool) → t.referenced ≡ [] → t.unacknowledged ≡ [] → a ≤ t.known_received_count
    → is_evictable t a sent ≡ true
unfolding is_evictable
free t a sent unnamed unopened known = rw (unnamed, unopened, le-ltb t.known_received_count a known) (by sent)
  where
    by : (b : Bool) → not (b && false) ≡ true
    by true = refl
    by false = refl

all_free : (t : Table) (a : ℕ) (es : List Entry) → t.referenced ≡ [] → t.unacknowledged ≡ []
    → a + length es ≤ suc t.known_received_count → all_evictable t a es ≡ true
unfolding all_evictable
all_free t a [] unnamed unopened known = refl
all_free t a (e ∷ es) unnamed unopened known =
    rw (
      free t a e.sent unnamed unopened (omega (arith, known)),
      all_free t (suc a) es unnamed unopened (omega (arith, known)),
    ) refl

shorter : (n : ℕ) (es : List Entry) → length (take n es) ≤ length es
shorter zero es = omega arith
shorter (suc n) [] = omega arith
shorter (suc n) (e ∷ es) = omega (arith, shorter n es)

pub has_room_quiet : (t : Table) (f : Field) → IsQuiet t → t.referenced ≡ [] → field_size f ≤ t.capacity
    → insert_count t < 2 ^ 62 → has_room t f ≡ true
unfolding has_room
has_room_quiet t f quiet unnamed fits few =
    rw (
      le-leb (field_size f) t.capacity fits,
      lt-ltb (insert_count t) (2 ^ 62) few,
      all_free t (suc t.dropped) (take (eviction_count_for t f) t.live) unnamed quiet.acknowledged
          (omega (arith, shorter (eviction_count_for t f) t.live, quiet.known)),
    ) refl

first_inserted : (base : ℕ) (d : Draft) (l : FieldLine) → IsQuiet d.table → d.table.referenced ≡ []
    → IsToBeInserted d.table l → length d.table.blocked < d.table.limit → insert_count d.table < 2 ^ 62
    → marked_field base d l ≡ with_new_entry base d l.field
unfolding rule_field
first_inserted base d l quiet unnamed is below few =
    rw (
      is.indexable,
      is.not_static,
      is.not_there,
      lt-ltb (length d.table.blocked) d.table.limit below,
      has_room_quiet d.table l.field quiet unnamed is.fits few,
    ) refl

-- what is referenced stays so
abbrev Reaches : ℕ → Draft → Type 0
Reaches n d = n ≤ greatest_of d.table.referenced

reaches_referencing : (n : ℕ) (d : Draft) (a : ℕ) (l : Line) → Reaches n d → Reaches n (with_referencing_line d a l)
unfolding with_reference
reaches_referencing n d a l h = omega (arith, h, greatest_track d.table.referenced a)

reaches_inserted : (n base : ℕ) (d : Draft) (f : Field) → Reaches n d ⊎ (n ≤ insert_count d.table + 1)
    → Reaches n (with_new_entry base d f)
unfolding with_reference with_entry
reaches_inserted n base d f (inl h) =
    omega (arith, h, greatest_track d.table.referenced (insert_count d.table + 1))
reaches_inserted n base d f (inr h) =
    omega (arith, h, greatest_track d.table.referenced (insert_count d.table + 1))

reaches_by_name : (n base : ℕ) (d : Draft) (f : Field) (o : Option ℕ) → Reaches n d
    → Reaches n (literal_by_entry base d f o)
reaches_by_name n base d f None h = h
reaches_by_name n base d f (Some a) h =
    cond_both (may_reference d.table a) (with_referencing_line d a (name_reference_line base a f))
    (with_line d (Literal f.name f.value)) (Reaches n)
    (λ _. reaches_referencing n d a (name_reference_line base a f) h) (λ _. h)

reaches_literal : (n base : ℕ) (d : Draft) (f : Field) (o : Option ℕ) → Reaches n d → Reaches n (literal base d f o)
reaches_literal n base d f (Some i) h = h
reaches_literal n base d f None h = reaches_by_name n base d f (newest_index d.table (has_name f.name)) h

reaches_insertion : (n base : ℕ) (d : Draft) (f : Field) → Reaches n d → Reaches n (insertion_or_literal base d f)
reaches_insertion n base d f h =
    cond_both (below_limit d.table && has_room d.table f) (with_new_entry base d f)
    (literal base d f (static_name_index f.name)) (Reaches n) (λ _. reaches_inserted n base d f (inl h))
    (λ _. reaches_literal n base d f (static_name_index f.name) h)

reaches_entry : (n base : ℕ) (d : Draft) (f : Field) (o : Option ℕ) → Reaches n d → Reaches n (by_entry base d f o)
reaches_entry n base d f None h = reaches_insertion n base d f h
reaches_entry n base d f (Some a) h =
    cond_both (nat_le a base && may_reference d.table a) (with_referencing_line d a (IndexedDynamic (base - a)))
    (insertion_or_literal base d f) (Reaches n) (λ _. reaches_referencing n d a (IndexedDynamic (base - a)) h)
    (λ _. reaches_insertion n base d f h)

reaches_static : (n base : ℕ) (d : Draft) (f : Field) (o : Option ℕ) → Reaches n d → Reaches n (by_static base d f o)
reaches_static n base d f (Some i) h = h
reaches_static n base d f None h = reaches_entry n base d f (newest_index d.table (is_field f)) h

reaches_all : (n base : ℕ) (d : Draft) (ls : List FieldLine) → Reaches n d → Reaches n (marked_fields base d ls)
unfolding rule_field
reaches_all n base d [] h = h
reaches_all n base d (l ∷ ls) h =
    reaches_all n base (marked_field base d l) ls
    (cond_both l.never_indexed (literal base d l.field (static_name_index l.field.name)) (rule_field base d l.field)
    (Reaches n) (λ _. reaches_literal n base d l.field (static_name_index l.field.name) h)
    (λ _. reaches_static n base d l.field (static_index l.field) h))

first_is : (t : Table) (l : FieldLine) (more : List FieldLine) → IsQuiet t → IsToBeInserted t l
    → length t.blocked < t.limit → insert_count t < 2 ^ 62
    → marked_rule t (l ∷ more)
    ≡ marked_fields (insert_count t) (with_new_entry (insert_count t) (empty_draft t) l.field) more
unfolding marked_rule without_references newest_index
first_is t l more quiet is below few =
    ap (λ (d : Draft). marked_fields (insert_count t) d more)
    (first_inserted (insert_count t) (empty_draft t) l
    (record { acknowledged = quiet.acknowledged; known = quiet.known }) refl
    (record { indexable = is.indexable; fits = is.fits; not_static = is.not_static; not_there = is.not_there }) below
    few)

pub go_on : InsertionsGoOn
unfolding without_references
go_on t l more quiet is below few =
    let first = first_is t l more quiet is below few in
    let reached = reaches_all (insert_count t + 1) (insert_count t)
    (with_new_entry (insert_count t) (empty_draft t) l.field) more
    (reaches_inserted (insert_count t + 1) (insert_count t) (empty_draft t) l.field (inr (omega arith))) in
    (first, omega (arith, reached, ap (λ (d : Draft). greatest_of d.table.referenced) first))
