-- What a strict decoder takes and reads is lawful.
use Rattle.std.proofs.Common.{ℕ, ◌+◌, ◌*◌, ◌%◌, ◌<◌, ◌≤◌, ◌≡◌, false, List, length, Result, Ok, Err, inl, inr}
use Rattle.std.proofs.Common.{refl, sym, ap, ◌∙◌, subst, arith}
use Rattle.std.specs.Prelude.{IsOk, nat_lt, nat_eq, ◌&&◌}
use Rattle.std.proofs.lemmas.Bool.{ltb-false, eq-eqb, and_cases}
use Rattle.qpack_spec.specs.Field.{FieldLine}
use Rattle.qpack_spec.specs.Form.{FormFault}
use Rattle.qpack_spec.specs.History.{History, window_of, initial_history}
use Rattle.qpack_rules.specs.LawfulEncoders.{IsLawfulSection}
use Rattle.qpack_spec.specs.StrictReading.{SectionFault, strict_lines_at, Read, strict_reading, lines_behind}
use Rattle.qpack_spec.specs.StrictReading.{strict_behind, strict_section_behind}
use Rattle.qpack_spec.specs.Window.{Window, maximum_capacity, window_insert_count}
use Rattle.qpack_spec.proofs.Results.{chosen}
use Rattle.qpack_spec.proofs.BlockReadings.{prefix_takes}
use Rattle.qpack_rules.proofs.LawfulEncoders.{all_counted, maximum_is, strict_leads, begins_empty}
use Rattle.qpack_spec.proofs.Windows.{Sound, Agreed, sound_start, agreed_start, leads_sound, leads_agreed}
use Rattle.qpack_spec.specs.LengthLaws.{longest_section}
use Rattle.qpack_spec.specs.Prefix.{Prefix, PrefixFault, most_entries, strict_base, read_strict_prefix, prefix_at}
use Rattle.qpack_rules.specs.StrictInstructions.{strict_apply}
use Rattle.qpack_spec.specs.Table.{Table, table_of}
use Rattle.qpack_rules.specs.Taking.{apply_in_turn}
use Rattle.qpack_connection.specs.LawfulVerdicts.{TakenStreamsAreLawful, ReadSectionsAreLawful}
use Rattle.qpack_connection.proofs.ReadLines.{lines_lawful, lines_from}
use Rattle.qpack_connection.proofs.ReadPrefixes.{spelled_small, based, count_told, base_told}

-- ---- a section

record IsReadBehind (w : Window) (limit section : ℕ) (r : Result (Prefix × List ℕ) FormFault) (fields : List FieldLine)
    (required : ℕ) : Type 0 where
  pub prefix : Prefix
  pub rest : List ℕ
  pub stands : r ≡ Ok (prefix, rest)
  pub free : maximum_capacity w.agreed_max w.capacity ≡ 0 → prefix.count ≡ 0
  pub behind : strict_behind w limit section rest
      (read_strict_prefix (window_insert_count w) (maximum_capacity w.agreed_max w.capacity) prefix)
      ≡ Read fields required

count_free : (maximum count : ℕ) → (nat_eq maximum 0 && nat_lt 0 count) ≡ false → maximum ≡ 0 → count ≡ 0
count_free maximum count e m =
    elim (and_cases (nat_eq maximum 0) (nat_lt 0 count) e) [
      | inl k ↦ absurd (let x = sym k ∙ eq-eqb maximum 0 m in cc)
      | inr k ↦ omega (arith, ltb-false 0 count k)
    ]

section_good : (w : Window) (limit section : ℕ) (r : Result (Prefix × List ℕ) FormFault) (fields : List FieldLine)
    (required : ℕ) → strict_section_behind w limit section r ≡ Read fields required
    → IsReadBehind w limit section r fields required
section_good w limit section (Err d) fields required e = absurd cc
section_good w limit section (Ok p) fields required e =
    let maximum = maximum_capacity w.agreed_max w.capacity in
    elim (chosen (nat_eq maximum 0 && nat_lt 0 p.0.count) _ _ (Read fields required) e) [
      | inl k ↦ absurd (let x = k.1 in cc)
      | inr k ↦
          record {
            prefix = p.0;
            rest = p.1;
            stands = refl;
            free = count_free maximum p.0.count k.0;
            behind = k.1;
          }
    ]

lines_good : (n required : ℕ) (r : Result (List FieldLine) SectionFault) (fields : List FieldLine)
    → lines_behind n r ≡ Read fields required → (n ≡ required) × (r ≡ Ok fields)
lines_good n required (Ok fs) fields e = (cc, cc)
lines_good n required (Err d) fields e = absurd cc

record IsReadWith (w : Window) (limit section : ℕ) (rest : List ℕ) (r : Result (ℕ × ℕ) PrefixFault)
    (fields : List FieldLine) (required : ℕ) : Type 0 where
  pub base : ℕ
  pub told : r ≡ Ok (required, base)
  pub within : required ≤ window_insert_count w
  pub lines : strict_lines_at (length rest)
      (record { window = w; required = required; base = base; limit = limit; section = section }) 0 0 rest ≡ Ok fields

behind_good : (w : Window) (limit section : ℕ) (rest : List ℕ) (r : Result (ℕ × ℕ) PrefixFault)
    (fields : List FieldLine) (required : ℕ) → strict_behind w limit section rest r ≡ Read fields required
    → IsReadWith w limit section rest r fields required
behind_good w limit section rest (Err d) fields required e = absurd cc
behind_good w limit section rest (Ok p) fields required e =
    elim (chosen (nat_lt (window_insert_count w) p.0) _ _ (Read fields required) e) [
      | inl k ↦ absurd (let x = k.1 in cc)
      | inr k ↦
          let l = lines_good p.0 required _ fields k.1 in
          let within = ltb-false (window_insert_count w) p.0 k.0 in
          record {
            base = p.1;
            told = ap (λ (n : ℕ). let r : Result (ℕ × ℕ) PrefixFault = Ok (n, p.1) in r) l.0;
            within = omega (arith, within, l.0);
            lines = subst (λ (n : ℕ). strict_lines_at (length rest)
                (record { window = w; required = n; base = p.1; limit = limit; section = section }) 0 0 rest
                ≡ Ok fields) l.0 l.1;
          }
    ]

-- under the window of a history
section_lawful : (maximum limit required section : ℕ) (made : History) (fields : List FieldLine) (bytes : List ℕ)
    → Sound made → Agreed maximum made
    → strict_section_behind (window_of made) limit section (prefix_at bytes) ≡ Read fields required
    → (0 < required → made.dropped < required) → IsLawfulSection maximum made required fields bytes
unfolding read_strict_prefix
section_lawful maximum limit required section made fields bytes sound agreed e held =
    let w = window_of made in
    let most = maximum_is maximum made agreed in
    let k = section_good w limit section (prefix_at bytes) fields required e in
    let p = prefix_takes bytes k.prefix k.rest k.stands in
    let most_of = maximum_capacity w.agreed_max w.capacity in
    let r = behind_good w limit section k.rest (read_strict_prefix (window_insert_count w) most_of k.prefix) fields
    required k.behind in
    let within : required ≤ window_insert_count w = r.within in
    let inserted : required ≤ length made.inserted = omega (arith, within, all_counted made sound) in
    let told = based (λ n. strict_base k.prefix n) _ required r.base r.told in
    let count = count_told (window_insert_count w) most_of k.prefix.count required told.0 k.free in
    let low = spelled_small p.spells.tail p.spells.sign k.prefix.delta p.spells.delta in
    let base = base_told required r.base k.prefix low (omega (arith, inserted, sound.few)) told.1 in
    record {
      base = base.whole;
      small = base.small;
      prefix = k.prefix;
      head = p.encoding;
      tail = k.rest;
      cut = p.parts;
      prefix_spelled = p.spells;
      tells = record {
        none = count.none;
        some = subst (λ (m : ℕ). 0 < required → k.prefix.count ≡ required % (2 * most_entries m) + 1) most count.some;
        above = base.above;
        below = base.below;
      };
      lines_spelled = lines_from made required r.base base.whole k.rest fields base.same
          (lines_lawful made _ (length k.rest) 0 0 k.rest fields refl (omega arith) r.lines);
      inserted = inserted;
      held = held;
    }

pub read_lawful : ReadSectionsAreLawful
unfolding strict_reading
read_lawful maximum known limit required sent made fields bytes k e held =
    let sound = leads_sound (initial_history 0 maximum) sent made k.makes (sound_start 0 maximum) in
    let agreed = leads_agreed maximum (initial_history 0 maximum) sent made k.makes
    (agreed_start 0 maximum (omega arith)) in
    elim (chosen (nat_lt (longest_section limit) (length bytes)) _ _ (Read fields required) e) [
      | inl long ↦ absurd (let x = long.1 in cc)
      | inr short ↦ section_lawful maximum limit required (length bytes) made fields bytes sound agreed short.1 held
    ]

pub taken_lawful : TakenStreamsAreLawful
unfolding table_of window_of
taken_lawful maximum known sent t e low =
    let begun = subst (λ (u : Table). apply_in_turn strict_apply u sent ≡ Ok t) (begins_empty maximum) e in
    let k = strict_leads (initial_history 0 maximum) sent t (sound_start 0 maximum) begun in
    let same : t.dropped ≡ k.0.dropped = ap (λ (u : Table). u.dropped) k.2 in (
      k.0,
      record {
        taken = subst (λ r. IsOk r) (sym e) refl;
        makes = k.1;
        evicted = omega (arith, same, low);
      },
      k.2,
    )
