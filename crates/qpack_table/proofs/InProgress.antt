-- The block in progress: what it references, when it is given up, and when it ends.
use Rattle.std.proofs.Common.{◌≡◌, ℕ, suc, ◌+◌, ◌-◌, ◌^◌, ◌<◌, ◌≤◌, Bool, true, false, List, [], ◌∷◌, ◌++◌, length}
use Rattle.std.proofs.lemmas.List.{length-map}
use Rattle.std.proofs.Common.{Some, refl, sym, ap, subst, ◌∙◌, arith, inl, inr, get_or}
use Rattle.std.specs.Prelude.{slice_get, slice_set, nat_lt, if◌then◌else◌}
use Rattle.std.specs.List.{AllByRecursion}
use Rattle.std.proofs.lemmas.Bool.{cases_lt, lt-ltb, cases_eq}
use Rattle.qpack_spec.proofs.Lists.{every_append}
use Rattle.qpack_spec.specs.Table as table
use Rattle.qpack_spec.specs.Table.{has_number, with_number, with_unacknowledged, without_references, with_reference}
use Rattle.qpack_spec.specs.Table.{commit}
use Rattle.qpack_table.specs.Positions.{Positions}
use Rattle.qpack_table.specs.Tables.{times, references_in, uses_of, flags_of, NoneTwice, AreUsed, AreFlagged}
use Rattle.qpack_table.specs.Tables.{AreCounted, CountsReferences, entry_of, entries_of}
use Rattle.qpack_table.proofs.EvictableEntries.{item_there}
use Rattle.qpack_table.specs.Entries.{Entry}
use Rattle.qpack_table.proofs.References.{times_append, references_append, is_among, same_map, flagged_as, used_as}
use Rattle.qpack_table.proofs.Marks.{map_written, There, Elsewhere, written, once_more, other_times, used_counted}

used_same : (dropped : ℕ) (es now : List Entry) (references : List ℕ) → uses_of now ≡ uses_of es
    → AreUsed dropped es references → AreUsed dropped now references
used_same dropped es now references same h = λ position e at.
    let old = same_map (λ (x : Entry). x.uses) now es position e same at in sym old.2 ∙ h position old.0 old.1

-- ---- the block is given up

pub counted_in_progress : (v : Positions) (es cleared : List Entry) (referenced : List ℕ)
    (unacknowledged : List table.UnacknowledgedBlock) (references : List ℕ) (dropped : ℕ)
    → CountsReferences v es referenced unacknowledged → uses_of cleared ≡ uses_of es → references ≡ referenced
    → dropped ≡ v.dropped → AreCounted dropped cleared references
counted_in_progress v es cleared referenced unacknowledged references dropped kept same is at =
    rw (at, is) (used_counted v.dropped cleared referenced (referenced ++ references_in unacknowledged)
    (λ a. omega (arith, times_append a referenced (references_in unacknowledged)))
    (used_same v.dropped es cleared (referenced ++ references_in unacknowledged) same kept.used))

pub references_given_up : (v : Positions) (es cleared now : List Entry) (referenced : List ℕ)
    (unacknowledged : List table.UnacknowledgedBlock) (first second : List ℕ) (dropped : ℕ)
    → CountsReferences v es referenced unacknowledged → dropped ≡ v.dropped → first ≡ referenced → second ≡ referenced
    → uses_of cleared ≡ uses_of es
    → (AreFlagged dropped es first → AreFlagged dropped cleared []) → flags_of now ≡ flags_of cleared
    → ((rest : List ℕ) → AreUsed dropped cleared (second ++ rest) → AreUsed dropped now rest)
    → CountsReferences v now [] unacknowledged
references_given_up v es cleared now referenced unacknowledged first second dropped kept at one two uses clear flags
    lower =
    record {
      flagged = flagged_as v.dropped cleared now [] flags
          (subst (λ (d : ℕ). AreFlagged d es referenced → AreFlagged d cleared []) at
          (subst (λ (l : List ℕ). AreFlagged dropped es l → AreFlagged dropped cleared []) one clear) kept.flagged);
      used = subst
          (λ (d : ℕ). AreUsed d cleared (referenced ++ references_in unacknowledged)
          → AreUsed d now (references_in unacknowledged)) at
          (subst (λ (l : List ℕ). AreUsed dropped cleared (l ++ references_in unacknowledged)
          → AreUsed dropped now (references_in unacknowledged)) two (lower (references_in unacknowledged)))
          (used_same v.dropped es cleared (referenced ++ references_in unacknowledged) uses kept.used);
      once = λ a. omega arith;
      each_once = kept.each_once;
      behind = λ absolute above. omega (
        arith,
        kept.behind absolute above,
        times_append absolute referenced (references_in unacknowledged),
      );
      few = kept.few;
    }

-- ---- the block ends

-- the references of a block that is opened are those of the block in progress
times_opened : (a s : ℕ) (bs : List table.UnacknowledgedBlock) (xs : List ℕ)
    → times a (references_in (with_unacknowledged bs s xs)) ≡ times a xs + times a (references_in bs)
times_opened a s bs [] = omega arith
times_opened a s bs (x ∷ more) =
    let b : table.UnacknowledgedBlock = record { stream = s; entries = x ∷ more } in
    let none : times a [] ≡ 0 = refl in
    omega (arith, references_append a bs (b ∷ []), times_append a (x ∷ more) [], none)

each_opened : (s : ℕ) (bs : List table.UnacknowledgedBlock) (xs : List ℕ) → NoneTwice xs
    → AllByRecursion (λ b. NoneTwice b.entries) bs
    → AllByRecursion (λ b. NoneTwice b.entries) (with_unacknowledged bs s xs)
each_opened s bs [] once h = h
each_opened s bs (x ∷ more) once h =
    every_append (λ (b : table.UnacknowledgedBlock). NoneTwice b.entries) bs
    (record { stream = s; entries = x ∷ more } ∷ []) h (once, tt)

pub references_opened : (v : Positions) (es now : List Entry) (referenced left : List ℕ)
    (unacknowledged opened : List table.UnacknowledgedBlock) (s dropped : ℕ)
    → CountsReferences v es referenced unacknowledged → dropped ≡ v.dropped → uses_of now ≡ uses_of es
    → (AreFlagged dropped es referenced → AreFlagged dropped now []) → left ≡ []
    → opened ≡ with_unacknowledged unacknowledged s referenced
    → (length unacknowledged ≤ 2 ^ 62 → length opened ≤ 2 ^ 62) → CountsReferences v now left opened
references_opened v es now referenced left unacknowledged opened s dropped kept at uses clear none is few =
    rw (none, is)
    (record {
      flagged = subst (λ (d : ℕ). AreFlagged d es referenced → AreFlagged d now []) at clear kept.flagged;
      used = used_as v.dropped now (referenced ++ references_in unacknowledged)
          (references_in (with_unacknowledged unacknowledged s referenced))
          (λ a. omega (
            arith,
            times_append a referenced (references_in unacknowledged),
            times_opened a s unacknowledged referenced,
          ))
          (used_same v.dropped es now (referenced ++ references_in unacknowledged) uses kept.used);
      once = λ a. omega arith;
      each_once = each_opened s unacknowledged referenced kept.once kept.each_once;
      behind = λ absolute above. omega (
        arith,
        kept.behind absolute above,
        times_append absolute referenced (references_in unacknowledged),
        times_opened absolute s unacknowledged referenced,
      );
      few = rw is at (few kept.few);
    })

-- ---- one entry more is referenced

-- an entry is referenced by each block once at most
times_few : (a : ℕ) (bs : List table.UnacknowledgedBlock) → AllByRecursion (λ b. NoneTwice b.entries) bs
    → times a (references_in bs) ≤ length bs
times_few a [] h = omega arith
times_few a (b ∷ bs) h = omega (arith, times_append a b.entries (references_in bs), h.0 a, times_few a bs h.1)

-- a number that is not among some is there no time
no_times : (a : ℕ) (xs : List ℕ) → has_number a xs ≡ false → times a xs ≡ 0
no_times a xs e = elim (cases_lt 0 (times a xs)) [
  | inl h ↦ let some : has_number a xs ≡ true = is_among a xs ∙ lt-ltb 0 (times a xs) h in absurd cc
  | inr h ↦ omega (arith, h)
]

with_known : (a : ℕ) (xs : List ℕ) → has_number a xs ≡ true → with_number xs a ≡ xs
unfolding with_number
with_known a xs e = rw e refl

pub with_new : (a : ℕ) (xs : List ℕ) → has_number a xs ≡ false → with_number xs a ≡ xs ++ a ∷ []
unfolding with_number
with_new a xs e = rw e refl

-- a new number behind some
times_last : (a b : ℕ) (xs : List ℕ) → (a ≡ b → ⊥) → times b (xs ++ a ∷ []) ≡ times b xs
times_last a b xs not = omega (arith, times_append b xs (a ∷ []), other_times a b [] not)

times_here : (a : ℕ) (xs : List ℕ) → times a (xs ++ a ∷ []) ≡ suc (times a xs)
times_here a xs = omega (arith, times_append a xs (a ∷ []), once_more a [])

has_by_times : (b : ℕ) (xs ys : List ℕ) → times b xs ≡ times b ys → has_number b xs ≡ has_number b ys
has_by_times b xs ys e = is_among b xs ∙ ap (nat_lt 0) e ∙ sym (is_among b ys)

once_with : (a b : ℕ) (xs : List ℕ) → times a xs ≡ 0 → NoneTwice xs → times b (xs ++ a ∷ []) ≤ 1
once_with a b xs none once = elim (cases_eq a b) [
  | inl same ↦ rw (← same) (omega (arith, none, times_here a xs))
  | inr other ↦ omega (arith, times_last a b xs other, once b)
]

pub references_of_block : (v : Positions) (es now : List Entry) (referenced left : List ℕ)
    (unacknowledged : List table.UnacknowledgedBlock) (a position : ℕ) (old new : Entry)
    → CountsReferences v es referenced unacknowledged → a ≡ v.dropped + position + 1 → a ≤ v.total
    → slice_get es position ≡ Some old → old.referenced ≡ false
    → new ≡ record old { referenced = true; uses = old.uses + 1 } → now ≡ slice_set es position new
    → left ≡ referenced ++ a ∷ [] → CountsReferences v now left unacknowledged
references_of_block v es now referenced left unacknowledged a position old new kept is inserted at unflagged marked
    items
    more = rw (items, more) (record {
      flagged = λ p e there. elim (written es position new p e there) [
        | There here it ↦
            let b = v.dropped + p + 1 in
            let same : b ≡ a = omega (arith, here, is) in
            ap (λ (x : Entry). x.referenced) (sym it ∙ marked) ∙ sym (ap (λ (n : ℕ). has_number n
            (referenced ++ a ∷ [])) same ∙ is_among a (referenced ++ a ∷ []) ∙ lt-ltb 0 (times a
            (referenced ++ a ∷ [])) (omega (arith, times_here a referenced)))
        | Elsewhere here it ↦ kept.flagged p e it ∙ has_by_times (v.dropped + p + 1) referenced (referenced ++ a ∷ [])
            (sym (times_last a (v.dropped + p + 1) referenced (λ f. here (omega (arith, is, f)))))
      ];
      used = λ p e there. elim (written es position new p e there) [
        | There here it ↦
            let b = v.dropped + p + 1 in
            let same : b ≡ a = omega (arith, here, is) in
            let count : old.uses ≡ times a (referenced ++ references_in unacknowledged) =
            kept.used position old at
            ∙ ap (λ (n : ℕ). times n (referenced ++ references_in unacknowledged)) (sym is) in
            let all : e.uses ≡ times a (referenced ++ a ∷ [] ++ references_in unacknowledged) = omega (
              arith,
              count,
              ap (λ (x : Entry). x.uses) (sym it ∙ marked),
              times_here a referenced,
              times_append a referenced (references_in unacknowledged),
              times_append a (referenced ++ a ∷ []) (references_in unacknowledged),
            ) in
            all ∙ ap (λ (n : ℕ). times n (referenced ++ a ∷ [] ++ references_in unacknowledged)) (sym same)
        | Elsewhere here it ↦
            let b = v.dropped + p + 1 in
            omega (
              arith,
              kept.used p e it,
              times_last a b referenced (λ f. here (omega (arith, is, f))),
              times_append b referenced (references_in unacknowledged),
              times_append b (referenced ++ a ∷ []) (references_in unacknowledged),
            )
      ];
      once = λ b. once_with a b referenced
          (no_times a referenced (ap (λ (n : ℕ). has_number n referenced) is
          ∙ sym (kept.flagged position old at) ∙ unflagged))
          kept.once;
      each_once = kept.each_once;
      behind = λ absolute above. omega (
        arith,
        kept.behind absolute above,
        times_append absolute referenced (references_in unacknowledged),
        times_append absolute (referenced ++ a ∷ []) (references_in unacknowledged),
        times_last a absolute referenced (λ f. omega (arith, above, inserted, f)),
      );
      few = kept.few;
    })

-- ---- what becomes of the table

pub given_up : (t : table.Table) (live : List table.Entry) (referenced : List ℕ) → live ≡ t.live → referenced ≡ []
    → record t { live = live; referenced = referenced } ≡ without_references t
unfolding without_references
given_up t live referenced same none = rw (same, none) refl

pub committed : (t : table.Table) (s required : ℕ) (live : List table.Entry) (referenced : List ℕ)
    (opened : List table.UnacknowledgedBlock) (blocked : List ℕ) (is_blocked : Bool) → live ≡ t.live → referenced ≡ []
    → opened ≡ with_unacknowledged t.unacknowledged s t.referenced
    → is_blocked ≡ nat_lt t.known_received_count required
    → blocked ≡ (if is_blocked then t.blocked ++ required ∷ [] else t.blocked)
    → record t { live = live; referenced = referenced; unacknowledged = opened; blocked = blocked }
    ≡ commit t s required
unfolding commit
committed t s required live referenced opened blocked is_blocked same none is test more =
    rw (same, none, is, more, test) refl

-- a live entry that is not referenced yet can be counted once more
pub uses_fit : (v : Positions) (es : List Entry) (referenced : List ℕ) (unacknowledged : List table.UnacknowledgedBlock)
    (position : ℕ) (e : Entry) → CountsReferences v es referenced unacknowledged → slice_get es position ≡ Some e
    → e.referenced ≡ false → e.uses ≤ 2 ^ 62
uses_fit v es referenced unacknowledged position e kept at unflagged =
    let a = v.dropped + position + 1 in
    omega (
      arith,
      kept.used position e at,
      times_append a referenced (references_in unacknowledged),
      no_times a referenced (sym (kept.flagged position e at) ∙ unflagged),
      times_few a unacknowledged kept.each_once,
      kept.few,
    )

pub referenced_before : (t : table.Table) (a : ℕ) → has_number a t.referenced ≡ true → t ≡ with_reference t a
unfolding with_reference
referenced_before t a e = rw (with_known a t.referenced e) refl

pub referenced_now : (t : table.Table) (a : ℕ) (live : List table.Entry) (referenced : List ℕ)
    → has_number a t.referenced ≡ false → live ≡ t.live → referenced ≡ t.referenced ++ a ∷ []
    → record t { live = live; referenced = referenced } ≡ with_reference t a
unfolding with_reference
referenced_now t a live referenced e same is = rw (with_new a t.referenced e, same, is) refl

-- what an entry says of itself
pub flag_tells : (v : Positions) (es : List Entry) (referenced : List ℕ)
    (unacknowledged : List table.UnacknowledgedBlock) (a position : ℕ) (e : Entry) (b : Bool)
    → CountsReferences v es referenced unacknowledged → a ≡ v.dropped + position + 1 → position < length es
    → e ≡ get_or es position e → e.referenced ≡ b → has_number a referenced ≡ b
flag_tells v es referenced unacknowledged a position e b kept is within at flag =
    ap (λ (n : ℕ). has_number n referenced) is ∙ sym (kept.flagged position e (item_there es position e within at))
    ∙ flag

-- what stays of the entries where one is marked
pub same_live : (es : List Entry) (position : ℕ) (old new : Entry) → position < length es
    → old ≡ get_or es position old → entry_of new ≡ entry_of old
    → entries_of (slice_set es position new) ≡ entries_of es
same_live es position old new within at same =
    map_written _ es position old new (item_there es position old within at) same

-- where a live entry stands
pub live_position : (dropped : ℕ) (es : List Entry) (seen now : table.Table) (known absolute : ℕ)
    → seen.dropped ≡ dropped → seen.live ≡ entries_of es → seen ≡ now → known ≡ dropped
    → now.dropped < absolute → absolute ≤ table.insert_count now
    → (absolute ≡ dropped + (absolute - known - 1) + 1) × (absolute - known - 1 < length es)
live_position dropped es seen now known absolute first live is at after inserted =
    let gone = ap (λ (t : table.Table). t.dropped) is in
    let all = ap (λ (t : table.Table). table.insert_count t) is in
    let long = ap (λ (l : List table.Entry). length l) live in (
      omega (arith, first, gone, at, after),
      omega (arith, first, gone, at, after, inserted, all, long, length-map es entry_of),
    )
