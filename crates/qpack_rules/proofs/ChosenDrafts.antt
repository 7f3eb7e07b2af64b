-- Whatever is chosen, a block in progress keeps what a block of the rule keeps.
use Rattle.std.proofs.Common.{ℕ, ◌+◌, ◌-◌, ◌<◌, ◌≤◌, ◌≡◌, Bool, List, [], ◌∷◌, ◌++◌, length, Option, None, Some, Ok}
use Rattle.std.proofs.Common.{refl, sym, ap, ◌∙◌, subst, arith, length-append, length-drop}
use Rattle.std.specs.Prelude.{nat_le, ◌&&◌}
use Rattle.std.proofs.lemmas.Bool.{cond_both, and_parts, ltb-true, leb-true, leb-false}
use Rattle.std.proofs.lemmas.List.{append-nil, append_assoc}
use Rattle.qpack_spec.specs.Chosen.{Choice, Alone, References, Names, Inserts, Naming, Chosen, passes_at}
use Rattle.qpack_spec.specs.Chosen.{literal_alone, passed_over, instruction_naming}
use Rattle.qpack_spec.specs.Chosen.{line_alone, entry_reference_line, named_or, literal_chosen, line_chosen}
use Rattle.qpack_spec.specs.Chosen.{with_unreferenced_entry, unreferenced_chosen, chosen_field, chosen_fields}
use Rattle.qpack_spec.specs.Chosen.{chosen_rule, alone_chosen}
use Rattle.qpack_spec.specs.Field.{Field, FieldLine, fields_of_lines, has_name, is_field}
use Rattle.qpack_spec.specs.History.{History, whole_window, history_after}
use Rattle.qpack_spec.specs.Line.{IndexedStatic, IndexedDynamic, IndexedPostBase, NamedStatic, Literal}
use Rattle.qpack_spec.specs.Reading.{line_field, references_of_line, references_of}
use Rattle.qpack_spec.specs.Rule.{Draft, with_referencing_line, with_inserted, name_reference_line, empty_draft}
use Rattle.qpack_spec.specs.StaticTable.{static_index, static_name_index}
use Rattle.qpack_spec.specs.Table.{Table, sent_entry, insert_count, has_room, below_limit, may_reference, with_entry}
use Rattle.qpack_spec.specs.Table.{eviction_count_for}
use Rattle.qpack_spec.specs.Window.{Window, absolute_entry, Inserts as WindowInserts}
use Rattle.qpack_spec.proofs.Drafts.{KeepsTable, Drafting, Room, room, evicted_bound, passed_live, drafting_writes}
use Rattle.qpack_spec.proofs.Drafts.{drafting_names}
use Rattle.qpack_spec.proofs.Drafts.{may_stand, live_after, keeps_inserted, one_effect, drafting_inserts, indexed_line}
use Rattle.qpack_spec.proofs.Drafts.{line_by_name, found_whole, static_line, static_name_line, literal_line}
use Rattle.qpack_spec.proofs.Drafts.{drafting_blank}
use Rattle.qpack_spec.proofs.Lists.{every_all}
use Rattle.qpack_spec.proofs.Positions.{static_found, static_name_found, same_name, same_field, IsFree, evicted_free}
use Rattle.qpack_spec.proofs.Readings.{fields_kept, entry_post_base}
use Rattle.qpack_spec.proofs.References.{KeepsReferences, static_names, static_name_names, literal_names, indexed_names}
use Rattle.qpack_spec.proofs.References.{named_line_names}
use Rattle.qpack_spec.proofs.Windows.{Sound, leads_append, leads_sound, grows_one, Kept, kept_growing}
use Rattle.qpack_rules.proofs.ChosenSteps.{found_at, field_by}

unreferenced_keeps_references : (t0 : Table) (d : Draft) (names : Naming) (f : Field) → KeepsReferences t0 d
    → KeepsReferences t0 (with_unreferenced_entry names d f)
unfolding with_entry
unreferenced_keeps_references t0 d names f k =
    record {
      known_received_count = k.known_received_count;
      limit = k.limit;
      unacknowledged = k.unacknowledged;
      blocked = k.blocked;
      refs = k.refs;
      base = omega (
        arith,
        k.base,
        length-drop (eviction_count_for d.table f) (d.table.live ++ sent_entry f ∷ []),
        length-append d.table.live (sent_entry f ∷ []),
      );
    }

drafting_unreferenced : (t0 : Table) (h0 : History) (done : List Field) (d : Draft) (names : Naming) (f : Field)
    → Sound h0 → Drafting t0 h0 done d → Room d.table f → Drafting t0 h0 done (with_unreferenced_entry names d f)
unfolding with_entry
drafting_unreferenced t0 h0 done d names f s0 k r =
    let t = d.table in
    let h = k.history in
    let s : Sound h = leads_sound h0 d.instructions h k.leads s0 in
    let b : eviction_count_for t f ≤ length t.live = evicted_bound t f r.fits in
    let none : (x : ℕ) → t.dropped < x → x ≤ t.dropped + eviction_count_for t f → IsFree t x =
    evicted_free t (eviction_count_for t f) r.drops b k.table.marked in
    record {
      history = history_after h (WindowInserts f);
      leads = leads_append h0 d.instructions (instruction_naming names t f ∷ []) h
          (history_after h (WindowInserts f)) k.leads (
            WindowInserts f,
            one_effect t h f (passed_over names (eviction_count_for t f)) k.table.shares (passed_live t names f r) r,
            refl,
          );
      table = keeps_inserted h t f s k.table r;
      references = unreferenced_keeps_references t0 d names f k.references;
      referenced = live_after t f t.referenced b (λ x low high. (none x low high).unnamed) k.referenced;
      means = fields_kept (whole_window h) (whole_window (history_after h (WindowInserts f))) (insert_count t0) d.lines
          done
          (every_all (Kept (whole_window h) (whole_window (history_after h (WindowInserts f))))
          (λ a. kept_growing h (history_after h (WindowInserts f)) a (grows_one h (WindowInserts f)))
          (references_of (insert_count t0) d.lines)) k.means;
      may = k.may;
    }

drafting_unreferenced_chosen : (t0 : Table) (h0 : History) (done : List Field) (names : Naming) (unreferenced : Bool)
    (d : Draft) (f : Field) → Sound h0 → Drafting t0 h0 done d
    → Drafting t0 h0 done (unreferenced_chosen names unreferenced d f)
drafting_unreferenced_chosen t0 h0 done names unreferenced d f s k =
    cond_both (unreferenced && has_room d.table f) (with_unreferenced_entry names d f) d (Drafting t0 h0 done)
    (λ t. drafting_unreferenced t0 h0 done d names f s k (room d.table f (and_parts unreferenced (has_room d.table f) t).1))
    (λ _. k)

drafting_literal_alone : (t0 : Table) (h0 : History) (done : List Field) (d : Draft) (f : Field) → Drafting t0 h0 done d
    → (o : Option ℕ) → static_name_index f.name ≡ o → Drafting t0 h0 (done ++ f ∷ []) (literal_alone d f o)
drafting_literal_alone t0 h0 done d f k None e =
    drafting_writes t0 h0 done d (Literal f.name f.value) f k (literal_names (insert_count t0) f.name f.value)
    (literal_line (whole_window k.history) (insert_count t0) f)
drafting_literal_alone t0 h0 done d f k (Some i) e =
    let at = static_name_found f.name i e in
    drafting_writes t0 h0 done d (NamedStatic i f.value) f k (static_name_names (insert_count t0) i f.value)
    (static_name_line (whole_window k.history) (insert_count t0) i f at.0 at.1 at.2)

drafting_line_alone : (t0 : Table) (h0 : History) (done : List Field) (d : Draft) (f : Field) → Drafting t0 h0 done d
    → (o : Option ℕ) → static_index f ≡ o → Drafting t0 h0 (done ++ f ∷ []) (line_alone d f o)
drafting_line_alone t0 h0 done d f k None e = drafting_literal_alone t0 h0 done d f k (static_name_index f.name) refl
drafting_line_alone t0 h0 done d f k (Some i) e =
    drafting_writes t0 h0 done d (IndexedStatic i) f k (static_names (insert_count t0) i)
    (static_line (whole_window k.history) (insert_count t0) i f (static_found f i e))

drafting_named_or : (t0 : Table) (h0 : History) (done : List Field) (d other : Draft) (f : Field) (a : ℕ)
    → Drafting t0 h0 done d → Drafting t0 h0 (done ++ f ∷ []) other
    → Drafting t0 h0 (done ++ f ∷ []) (named_or (insert_count t0) d f a other)
drafting_named_or t0 h0 done d other f a k o =
    cond_both (passes_at d.table (has_name f.name) a && may_reference d.table a)
    (with_referencing_line d a (name_reference_line (insert_count t0) a f)) other (Drafting t0 h0 (done ++ f ∷ []))
    (λ t. let p = and_parts (passes_at d.table (has_name f.name) a) (may_reference d.table a) t in
    let at = found_at d.table (has_name f.name) a p.0 in
    let means =
    line_by_name (whole_window k.history) (insert_count t0) a f at.item
    (found_whole d.table k.history (has_name f.name) a k.table.shares at) (same_name f.name at.item at.passes) in
    drafting_names t0 h0 done d a (name_reference_line (insert_count t0) a f) f k
    (named_line_names (insert_count t0) a f) means (at.above, at.within) (may_stand t0 h0 done d a k p.1))
    (λ _. o)

drafting_literal_chosen : (t0 : Table) (h0 : History) (done : List Field) (d : Draft) (f : Field) (c : Choice)
    → Drafting t0 h0 done d → Drafting t0 h0 (done ++ f ∷ []) (literal_chosen (insert_count t0) d f c)
drafting_literal_chosen t0 h0 done d f Alone k = drafting_literal_alone t0 h0 done d f k (static_name_index f.name) refl
drafting_literal_chosen t0 h0 done d f (References a) k =
    drafting_literal_alone t0 h0 done d f k (static_name_index f.name) refl
drafting_literal_chosen t0 h0 done d f (Names a) k =
    drafting_named_or t0 h0 done d (literal_alone d f (static_name_index f.name)) f a k
    (drafting_literal_alone t0 h0 done d f k (static_name_index f.name) refl)
drafting_literal_chosen t0 h0 done d f Inserts k =
    drafting_literal_alone t0 h0 done d f k (static_name_index f.name) refl

-- the line of an entry means its field, and references it
entry_reference_means : (w : Window) (base a : ℕ) (f : Field) → absolute_entry w a ≡ Some f
    → line_field w base (entry_reference_line base a) ≡ Ok f
unfolding line_field
entry_reference_means w base a f e =
    cond_both (nat_le a base) (IndexedDynamic (base - a)) (IndexedPostBase (a - base - 1))
    (λ l. line_field w base l ≡ Ok f)
    (λ t. indexed_line w base a f (leb-true _ _ t) e)
    (λ t. let lt : base < a = leb-false _ _ t in let n : base + (a - base - 1) + 1 ≡ a = omega arith in
    entry_post_base w base (a - base - 1) f (rw n e))

entry_reference_names : (base a : ℕ) → references_of_line base (entry_reference_line base a) ≡ a ∷ []
unfolding references_of_line
entry_reference_names base a =
    cond_both (nat_le a base) (IndexedDynamic (base - a)) (IndexedPostBase (a - base - 1))
    (λ l. references_of_line base l ≡ a ∷ [])
    (λ t. indexed_names base a (leb-true _ _ t))
    (λ t. let lt : base < a = leb-false _ _ t in let n : base + (a - base - 1) + 1 ≡ a = omega arith in rw n refl)

drafting_line_chosen : (t0 : Table) (h0 : History) (done : List Field) (names : Naming) (d : Draft) (f : Field)
    (c : Choice) → Sound h0 → Drafting t0 h0 done d
    → Drafting t0 h0 (done ++ f ∷ []) (line_chosen names (insert_count t0) d f c)
drafting_line_chosen t0 h0 done names d f Alone s k = drafting_line_alone t0 h0 done d f k (static_index f) refl
drafting_line_chosen t0 h0 done names d f (References a) s k =
    cond_both (passes_at d.table (is_field f) a && may_reference d.table a)
    (with_referencing_line d a (entry_reference_line (insert_count t0) a)) (line_alone d f (static_index f))
    (Drafting t0 h0 (done ++ f ∷ []))
    (λ t. let p = and_parts (passes_at d.table (is_field f) a) (may_reference d.table a) t in
    let at = found_at d.table (is_field f) a p.0 in
    let there : absolute_entry (whole_window k.history) a ≡ Some f =
    found_whole d.table k.history (is_field f) a k.table.shares at
    ∙ ap Some (sym (same_field f at.item at.passes)) in
    drafting_names t0 h0 done d a (entry_reference_line (insert_count t0) a) f k
    (entry_reference_names (insert_count t0) a)
    (entry_reference_means (whole_window k.history) (insert_count t0) a f there) (at.above, at.within)
    (may_stand t0 h0 done d a k p.1))
    (λ _. drafting_line_alone t0 h0 done d f k (static_index f) refl)
drafting_line_chosen t0 h0 done names d f (Names a) s k =
    drafting_named_or t0 h0 done d (line_alone d f (static_index f)) f a k
    (drafting_line_alone t0 h0 done d f k (static_index f) refl)
drafting_line_chosen t0 h0 done names d f Inserts s k =
    cond_both (below_limit d.table && has_room d.table f)
    (with_inserted (insert_count t0) d f (instruction_naming names d.table f)) (line_alone d f (static_index f)) (Drafting t0 h0 (done ++ f ∷ []))
    (λ t. let p = and_parts (below_limit d.table) (has_room d.table f) t in
    let lt : length d.table.blocked < d.table.limit = ltb-true _ _ p.0 in
    let r = room d.table f p.1 in
    drafting_inserts t0 h0 done d f (passed_over names (eviction_count_for d.table f)) s k
    (rw (← k.references.blocked, ← k.references.limit) lt) r (passed_live d.table names f r))
    (λ _. drafting_line_alone t0 h0 done d f k (static_index f) refl)

drafting_chosen_field : (t0 : Table) (h0 : History) (done : List Field) (d : Draft) (l : FieldLine) (c : Chosen)
    → Sound h0 → Drafting t0 h0 done d → Drafting t0 h0 (done ++ l.field ∷ []) (chosen_field (insert_count t0) d l c)
drafting_chosen_field t0 h0 done d l c s k =
    field_by (Drafting t0 h0 (done ++ l.field ∷ [])) (insert_count t0) d l c
    (drafting_literal_chosen t0 h0 done d l.field c.line k)
    (drafting_unreferenced_chosen t0 h0 (done ++ l.field ∷ []) c.names c.unreferenced
    (line_chosen c.names (insert_count t0) d l.field c.line) l.field s
    (drafting_line_chosen t0 h0 done c.names d l.field c.line s k))

drafting_chosen : (t0 : Table) (h0 : History) (done : List Field) (d : Draft) (ls : List FieldLine) (cs : List Chosen)
    → Sound h0 → Drafting t0 h0 done d
    → Drafting t0 h0 (done ++ fields_of_lines ls) (chosen_fields (insert_count t0) d ls cs)
drafting_chosen t0 h0 done d [] cs s k = rw append-nil k
drafting_chosen t0 h0 done d (l ∷ ls) [] s k =
    let new = chosen_field (insert_count t0) d l alone_chosen in
    subst (λ (fs : List Field). Drafting t0 h0 fs (chosen_fields (insert_count t0) new ls []))
    (append_assoc done (l.field ∷ []) (fields_of_lines ls))
    (drafting_chosen t0 h0 (done ++ l.field ∷ []) new ls [] s (drafting_chosen_field t0 h0 done d l alone_chosen s k))
drafting_chosen t0 h0 done d (l ∷ ls) (c ∷ cs) s k =
    let new = chosen_field (insert_count t0) d l c in
    subst (λ (fs : List Field). Drafting t0 h0 fs (chosen_fields (insert_count t0) new ls cs))
    (append_assoc done (l.field ∷ []) (fields_of_lines ls))
    (drafting_chosen t0 h0 (done ++ l.field ∷ []) new ls cs s (drafting_chosen_field t0 h0 done d l c s k))

-- THE SAFETY OF ANY CHOICE: the block means the fields under all insertions, its instructions lead from the old table
-- to the new one, each entry that it names is live, and may be referenced
pub chosen_drafts : (t : Table) (h : History) (ls : List FieldLine) (cs : List Chosen) → Sound h → KeepsTable h t
    → Drafting t h (fields_of_lines ls) (chosen_rule t ls cs)
unfolding chosen_rule
chosen_drafts t h ls cs s k = drafting_chosen t h [] (empty_draft t) ls cs s (drafting_blank t h k)
