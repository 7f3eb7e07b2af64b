-- Events that are inspected in turn: what is printed of the rest stands behind what was printed.
use Rattle.std.proofs.Common.{◌≡◌, ℕ, ◌+◌, ◌-◌, ◌<◌, ◌≤◌, List, [], ◌∷◌, ◌++◌, length, drop, take, Option, Some, None}
use Rattle.std.proofs.Common.{Ok, refl, sym, ap, subst, ◌∙◌, append_assoc, append-nil, length-append, arith}
use Rattle.std.proofs.Common.{inl, inr}
use Rattle.std.specs.Prelude.{get_or}
use Rattle.std.proofs.lemmas.List.{drop-append-le, drop-drop, drop_more, drop_all, length-drop, take_rest}
use Rattle.qpack_spec.specs.Table.{Table}
use Rattle.qpack_codec.specs.declared.error.DecoderError.{DecoderError}
use Rattle.qpk.specs.Inspecting.{Event, Piece, Section, Inspects}
use Rattle.qpk.specs.Inspections.{event_of, events_in, InspectsInstructions, FailsInstructions, InspectsBlock}
use Rattle.qpk.specs.Inspections.{FailsInspecting}
use Rattle.qpk.specs.Inspections.{InspectsEvents}
use Rattle.qpk.specs.declared.inspect.events.Event.{Event as ReadEvent}
use Rattle.qpk.specs.declared.text.Fault.{Fault}
use Rattle.qpk.specs.declared.text.Fault.TheVariants.{Refused, Memory}

-- whatever is printed of the events that are left, all of them print it behind this text
abbrev pub Goes : Table → List Event → List ℕ → Table → List ℕ → List Event → List ℕ → Type 0
Goes start all before now unread left text =
    (more : List ℕ) (refused : Option DecoderError) → Inspects now unread left more refused
    → (out : List ℕ) × Inspects start [] all out refused × (text ++ more ≡ before ++ out)

pub goes_none : (start : Table) (all : List Event) (before : List ℕ) → Goes start all before start [] all before
goes_none start all before more refused h = (more, h, refl)

-- the event behind those that were inspected
pub next_is : (events : List ReadEvent) (i : ℕ) (d : ReadEvent) → i < length events
    → events_in (drop i events) ≡ event_of (get_or events i d) ∷ events_in (drop (i + 1) events)
next_is events i d h = ap events_in (drop_more events i d h)

-- a piece of the encoder stream that was inspected
goes_inspected : (start now new : Table) (all left : List Event) (before text after unread piece : List ℕ) (taken : ℕ)
    → Goes start all before now unread (Piece piece ∷ left) text
    → InspectsInstructions now new (unread ++ piece) text after (Ok taken)
    → Goes start all before new (drop taken (unread ++ piece)) left after
goes_inspected start now new all left before text after unread piece taken goes inspects more refused h =
    let g = goes (inspects.0 ++ more) refused
    (inl (new, drop taken (unread ++ piece), inspects.0, more, inspects.1, h, refl)) in
    (g.0, g.1, ap (λ (x : List ℕ). x ++ more) inspects.2 ∙ append_assoc text inspects.0 more ∙ g.2)

-- a piece that is refused
pub goes_until : (start now : Table) (all left : List Event) (before text after unread piece : List ℕ) (fault : Fault)
    → Goes start all before now unread (Piece piece ∷ left) text
    → FailsInstructions now (unread ++ piece) text after fault → FailsInspecting start all before after fault
goes_until start now all left before text after unread piece (Refused e) goes fails =
    let g = goes fails.0 (Some e) (inr (e, fails.1, refl)) in (g.0, g.1, fails.2 ∙ g.2)
goes_until start now all left before text after unread piece Memory goes fails = tt
goes_until start now all left before text after unread piece fault goes fails = absurd fails

-- a block
pub goes_block : (start now : Table) (all left : List Event) (before text after unread block : List ℕ)
    → Goes start all before now unread (Section block ∷ left) text
    → InspectsBlock now block text after (Ok tt)
    → Goes start all before now unread left after
goes_block start now all left before text after unread block goes prints more refused h =
    let g = goes (prints.0 ++ more) refused (prints.0, more, prints.1, h, refl) in
    (g.0, g.1, ap (λ (x : List ℕ). x ++ more) prints.2 ∙ append_assoc text prints.0 more ∙ g.2)

-- all
pub goes_all : (start now : Table) (all : List Event) (before text unread : List ℕ)
    → Goes start all before now unread [] text → InspectsEvents start all before text (Ok tt)
goes_all start now all before text unread goes =
    let g = goes [] None (refl, refl) in (g.0, g.1, sym (append-nil text) ∙ g.2)

-- ---- the bytes of the encoder stream, of which so many were taken

-- the next event
pub goes_next : (start now : Table) (all : List Event) (before text unread : List ℕ) (events : List ReadEvent) (i : ℕ)
    (item : ReadEvent) (event : Event)
    → Goes start all before now unread (events_in (drop i events)) text → i < length events
    → item ≡ get_or events i item → event_of item ≡ event
    → Goes start all before now unread (event ∷ events_in (drop (i + 1) events)) text
goes_next start now all before text unread events i item event goes h is e =
    subst (λ (es : List Event). Goes start all before now unread es text)
    (next_is events i item h
    ∙ ap (λ (x : Event). x ∷ events_in (drop (i + 1) events)) (ap event_of (sym is) ∙ e)) goes

-- the unread bytes, with a piece behind them
unread_is : (stream joined piece : List ℕ) (taken : ℕ) → taken ≤ length stream → joined ≡ stream ++ piece
    → drop taken joined ≡ drop taken stream ++ piece
unread_is stream joined piece taken h e = ap (drop taken) e ∙ drop-append-le taken stream piece h

pub slice_unread : (stream joined slice piece given : List ℕ) (taken : ℕ) → taken ≤ length stream
    → joined ≡ stream ++ given → given ≡ piece → slice ≡ joined
    → take (length slice - taken) (drop taken slice) ≡ drop taken stream ++ piece
slice_unread stream joined slice piece given taken h e g s =
    take_rest slice taken ∙ ap (drop taken) s
    ∙ unread_is stream joined piece taken h (e ∙ ap (λ (x : List ℕ). stream ++ x) g)

-- what stands behind some events
pub record Moved (start now : Table) (all left : List Event) (before text stream : List ℕ) (taken : ℕ) : Type 0 where
  pub goes : Goes start all before now (drop taken stream) left text
  pub within : taken ≤ length stream

pub piece_moves : (start now new : Table) (all left : List Event) (before text after stream joined piece slice : List ℕ)
    (taken more : ℕ)
    → Goes start all before now (drop taken stream) (Piece piece ∷ left) text → taken ≤ length stream
    → joined ≡ stream ++ piece → slice ≡ drop taken stream ++ piece
    → InspectsInstructions now new slice text after (Ok more)
    → Moved start new all left before after joined (taken + more)
piece_moves start now new all left before text after stream joined piece slice taken more goes h e s inspects =
    let unread = unread_is stream joined piece taken h e in
    let inspected = subst (λ (b : List ℕ). InspectsInstructions now new b text after (Ok more)) s inspects in
    let further : drop (taken + more) joined ≡ drop more (drop taken stream ++ piece) =
    sym (drop-drop more taken joined) ∙ ap (drop more) unread in
    let n : length joined ≡ length stream + length piece = ap length e ∙ length-append stream piece in
    let m : length (drop taken stream ++ piece) ≡ length joined - taken =
    ap length (sym unread) ∙ length-drop taken joined in
    record {
      goes = subst (λ (u : List ℕ). Goes start all before new u left after) (sym further)
          (goes_inspected start now new all left before text after (drop taken stream) piece more goes inspected);
      within = omega (arith, h, n, m, inspected.3);
    }

-- behind the last event none is left
pub none_left : (events : List ReadEvent) (i : ℕ) → length events ≤ i → events_in (drop i events) ≡ []
none_left events i h = ap events_in (drop_all i events h)
