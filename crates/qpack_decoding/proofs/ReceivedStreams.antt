-- An encoder stream that is received piece by piece.
use Rattle.std.proofs.Common.{◌≡◌, ℕ, ◌<◌, ◌≤◌, List, [], ◌∷◌, ◌++◌, length, Result, Ok, Err, refl, sym, ap}
use Rattle.std.proofs.Common.{◌+◌, subst, ◌∙◌, inl, inr, arith, append_assoc, length-append, append-nil}
use Rattle.std.proofs.Common.{take, drop}
use Rattle.std.proofs.lemmas.List.{take-append-drop, drop_all}
use Rattle.std.specs.Prelude.{⊤}
use Rattle.qpack_spec.specs.Bytes.{◌>>=◌}
use Rattle.qpack_spec.specs.Form.{Spells, Truncates}
use Rattle.qpack_spec.specs.Instruction.{EncoderInstruction, encoder_instruction_form}
use Rattle.qpack_spec.specs.Table.{Table}
use Rattle.qpack_rules.specs.Taking.{apply_in_turn}
use Rattle.qpack_spec.specs.Wanted.{least_field_size}
use Rattle.qpack_spec.specs.Window.{TableRefusal}
use Rattle.qpack_spec.proofs.Cuttings.{joined_append}
use Rattle.qpack_spec.proofs.Results.{bind_ok, ok_is}
use Rattle.qpack_rules.proofs.SessionRows.{cut_none}
use Rattle.qpack_rules.proofs.Waiting.{nothing_before_wanted}
use Rattle.qpack_codec.specs.Receiving.{AsksToTake}
use Rattle.qpack_codec.specs.declared.error.DecoderError.{DecoderError}
use Rattle.qpack_codec.specs.declared.error.DecoderError.TheVariants.{Memory}
use Rattle.qpack_shared.specs.Places.{first_place, passed, behind}
use Rattle.qpack_shared.specs.declared.place.Place.{Place}
use Rattle.qpack_decoding.specs.Receiving.{strict_apply, Refuses, StopsStrictly, TakesAllStrictly, MayGrow}
use Rattle.qpack_decoding.specs.Receiving.{bad_bytes, bad_instruction, no_capacity, too_large}
use Rattle.qpack_decoding.specs.Receiving.{StreamView, HasReceived, Receives, HasRefused, TakesUpTo, TakesFrom}
use Rattle.qpack_decoding.specs.Receiving.{IsBehind, ReceivesMore, FindsWanted, IsShort, stream_error_at}
use Rattle.qpack_decoding.specs.Receiving.{TakesIn, RefusesFront, FailsReceiving, ReceivesFront}
use Rattle.qpack_decoding.specs.declared.encoder_stream.EncoderStreamError.{EncoderStreamError}
use Rattle.qpack_decoding.specs.declared.encoder_stream.EncoderStreamError.TheVariants as stream
use Rattle.qpack_decoding.proofs.PlacedTaking.{none_taken}

-- ---- what was taken of further bytes

applied_on : {L : Type 0} (apply : Table → L → Result Table TableRefusal) (ls ms : List L) (start now new : Table)
    → apply_in_turn apply start ls ≡ Ok now → apply_in_turn apply now ms ≡ Ok new
    → apply_in_turn apply start (ls ++ ms) ≡ Ok new
applied_on apply [] ms start now new first last =
    subst (λ (t : Table). apply_in_turn apply t ms ≡ Ok new) (sym (ok_is start now first)) last
applied_on apply (l ∷ ls) ms start now new first last =
    let one = bind_ok (apply start l) (λ u. apply_in_turn apply u ls) now first in
    ap (λ (r : Result Table TableRefusal). r >>= λ u. apply_in_turn apply u (ls ++ ms)) one.1
    ∙ applied_on apply ls ms one.0 now new one.2 last

-- the same instructions, under another end
ends_up : {start now : Table} {bytes : List ℕ} (place : Place) (P Q : List ℕ → Type 0)
    → (k : TakesUpTo start now bytes place P) → Q k.0.rest → TakesUpTo start now bytes place Q
ends_up place P Q k ends = (
  record {
    lines = k.0.lines;
    front = k.0.front;
    rest = k.0.rest;
    cut = k.0.cut;
    joined = k.0.joined;
    applies = k.0.applies;
    ends = ends;
  },
  k.1,
)

-- the place behind further instructions
place_on : (from at : Place) (lines more : List EncoderInstruction) (front behind_it : List ℕ)
    → from ≡ behind lines front → IsBehind from at (length more) (length behind_it)
    → at ≡ behind (lines ++ more) (front ++ behind_it)
place_on from at lines more front behind_it is h =
    h (length lines) (length front) is
    ∙ ap (λ (n : ℕ). passed first_place n (length front + length behind_it)) (sym (length-append lines more))
    ∙ ap (passed first_place (length (lines ++ more))) (sym (length-append front behind_it))

taken_on : (start now new : Table) (from at : Place) (before bytes pending : List ℕ) (P Q : List ℕ → Type 0)
    → (k : TakesUpTo start now before from P) → k.0.rest ≡ pending → TakesFrom now new from at (pending ++ bytes) Q
    → TakesUpTo start new (before ++ bytes) at Q
taken_on start now new from at before bytes pending P Q k same m = (
  record {
    lines = k.0.lines ++ m.0.lines;
    front = k.0.front ++ m.0.front;
    rest = m.0.rest;
    cut = ap (λ (x : List ℕ). x ++ bytes) (k.0.cut ∙ ap (λ (x : List ℕ). k.0.front ++ x) same)
        ∙ append_assoc k.0.front pending bytes ∙ ap (λ (x : List ℕ). k.0.front ++ x) m.0.cut
        ∙ sym (append_assoc k.0.front m.0.front m.0.rest);
    joined = joined_append (λ t l. Spells EncoderInstruction encoder_instruction_form t l) k.0.front m.0.front
        k.0.lines m.0.lines k.0.joined m.0.joined;
    applies = applied_on strict_apply k.0.lines m.0.lines start now new k.0.applies m.0.applies;
    ends = m.0.ends;
  },
  place_on from at k.0.lines m.0.lines k.0.front m.0.front k.1 m.1,
)

-- nothing was received yet
pub nothing_received : (t : Table) (place : Place) (pending : List ℕ) → place ≡ first_place → pending ≡ []
    → Receives t t [] (record { pending = pending; wanted = 0; place = place })
nothing_received t place pending first none = (
  record {
    lines = [];
    front = [];
    rest = [];
    cut = refl;
    joined = refl;
    applies = refl;
    ends = (sym none, λ some. absurd (omega (arith, some)));
  },
  first,
)

-- ---- where a call comes to

-- instructions were taken up to a place, and behind them these bytes wait, of which no front is one
abbrev Reaches : Table → Table → List ℕ → Place → List ℕ → Type 0
Reaches start now bytes place pending =
    TakesUpTo start now bytes place (λ rest. (rest ≡ pending) × Truncates encoder_instruction_form rest)

pub reaches_same : (start now new : Table) (place at : Place) (bytes pending kept : List ℕ) → new ≡ now → at ≡ place
    → kept ≡ pending → Reaches start now bytes place pending → Reaches start new bytes at kept
reaches_same start now new place at bytes pending kept here there same k =
    subst (λ (t : Table). Reaches start t bytes at kept) (sym here)
    (subst (λ (p : Place). Reaches start now bytes p kept) (sym there)
    (subst (λ (x : List ℕ). Reaches start now bytes place x) (sym same) k))

-- fewer bytes wait than are wanted
pub still_waiting : (start now : Table) (before bytes grown : List ℕ) (s : StreamView)
    → Receives start now before s → grown ≡ s.pending ++ bytes → length grown < s.wanted
    → Reaches start now (before ++ bytes) s.place grown
still_waiting start now before bytes grown s k is less =
    let waits = k.0.ends.1 (omega (arith, less)) in
    taken_on start now now s.place s.place before bytes s.pending _ _ k k.0.ends.0
    (none_taken now s.place (s.pending ++ bytes) _
    (sym is, nothing_before_wanted s.pending bytes waits.0.cut (omega (arith, less, ap length is, waits.1))))

-- what stood whole was taken
pub took_whole : (start old new : Table) (place : Place) (before bytes grown kept : List ℕ) (s : StreamView) (done : ⊤)
    → Receives start old before s → grown ≡ s.pending ++ bytes
    → TakesAllStrictly old new s.place place grown kept (Ok done) → Reaches start new (before ++ bytes) place kept
took_whole start old new place before bytes grown kept s done k is takes =
    let m = taken_on start old new s.place place before bytes s.pending _ _ k k.0.ends.0
    (subst (λ (x : List ℕ). TakesAllStrictly old new s.place place x kept (Ok done)) is takes) in
    ends_up _ _ _ m (sym m.0.ends.1, m.0.ends.0)

-- ---- what a call answers

-- want of memory is no reason that a stream is refused for
never_memory : (t : Table) (rest : List ℕ) (e : DecoderError) → Refuses t rest e → e ≡ Memory → ⊥
never_memory t rest e (bad_bytes fault begins is) memory = absurd cc
never_memory t rest e (bad_instruction i refusal begins refused is) memory = absurd cc
never_memory t rest e (no_capacity none begins is) memory = absurd cc
never_memory t rest e (too_large cut large is) memory = absurd cc

-- what waits may grow
pub answers_waiting : (start now : Table) (bytes : List ℕ) (place : Place) (pending : List ℕ) (many : ℕ)
    → Reaches start now bytes place pending
    → (Truncates encoder_instruction_form pending → FindsWanted now pending (Ok many))
    → HasReceived start now bytes place pending
    × Receives start now bytes (record { pending = pending; wanted = many; place = place }) × IsShort now pending
answers_waiting start now bytes place pending many k finds =
    let found = finds (subst (λ (x : List ℕ). Truncates encoder_instruction_form x) k.0.ends.0 k.0.ends.1) in (
      ends_up _ _ _ k (k.0.ends.0, subst (λ (x : List ℕ). MayGrow now x) (sym k.0.ends.0) found.0),
      ends_up _ _ _ k (k.0.ends.0, λ some. (found.0, found.1)),
      found.2,
    )

-- what waits may not
pub answers_too_large : (start now : Table) (bytes : List ℕ) (place : Place) (pending : List ℕ) (e : DecoderError)
    → Reaches start now bytes place pending
    → (Truncates encoder_instruction_form pending → FindsWanted now pending (Err e))
    → HasRefused start now bytes place e
answers_too_large start now bytes place pending e k finds =
    let found = finds (subst (λ (x : List ℕ). Truncates encoder_instruction_form x) k.0.ends.0 k.0.ends.1) in
    ends_up _ _ _ k (subst (λ (x : List ℕ). Refuses now x e) (sym k.0.ends.0) found)

-- the stream is refused
pub answers_refused : (start new : Table) (before bytes left : List ℕ) (s u : StreamView) (e : DecoderError)
    → RefusesFront start new before bytes u.place e
    → FailsReceiving start new before bytes left s u (stream_error_at u.place e)
answers_refused start new before bytes left s u Memory k =
    absurd (never_memory new k.refused.0.rest Memory k.refused.0.ends refl)
answers_refused start new before bytes left s u e k = (never_memory new k.refused.0.rest e k.refused.0.ends, k)

-- what is left of some bytes is no longer than they
no_longer : (pending bytes front rest kept : List ℕ) → pending ++ bytes ≡ front ++ rest → kept ≡ rest
    → length kept ≤ length pending + length bytes
no_longer pending bytes front rest kept cut same =
    omega (arith, ap length same, ap length cut, length-append pending bytes, length-append front rest)

-- ---- a front of the bytes that is taken in behind what waits

-- an instruction was not taken
pub front_not_taken : (start old new : Table) (place : Place) (before bytes more left grown kept : List ℕ)
    (s : StreamView) (e : DecoderError) → Receives start old before s → bytes ≡ more ++ left → grown ≡ s.pending ++ more
    → TakesAllStrictly old new s.place place grown kept (Err e)
    → FailsReceiving start new before bytes left s (record { pending = kept; wanted = 0; place = place })
    (stream_error_at place e)
unfolding taken_on
front_not_taken start old new place before bytes more left grown kept s e k cut is takes = by_stop m.0.ends
  where
    taken : TakesAllStrictly old new s.place place (s.pending ++ more) kept (Err e)
    taken = subst (λ (x : List ℕ). TakesAllStrictly old new s.place place x kept (Err e)) is takes

    m : TakesUpTo start new (before ++ more) place (λ rest. StopsStrictly new rest kept e)
    m = taken_on start old new s.place place before more s.pending _ _ k k.0.ends.0 taken

    by_stop : StopsStrictly new m.0.rest kept e
        → FailsReceiving start new before bytes left s (record { pending = kept; wanted = 0; place = place })
        (stream_error_at place e)
    by_stop (inl stops) =
        rw (stops.1) (
          record {
            taken = more;
            cut = cut;
            stream = ends_up _ _ _ m (sym stops.2, λ some. absurd (omega (arith, some)));
            no_longer = no_longer s.pending more taken.0.front taken.0.rest kept taken.0.cut stops.2;
          },
          inl (subst (λ (x : List ℕ). AsksToTake new x) (sym stops.2) stops.0),
        )
    by_stop (inr refuses) =
        answers_refused start new before bytes left s (record { pending = kept; wanted = 0; place = place }) e
        (record { front = more; back = left; cut = cut; refused = ends_up _ _ _ m refuses })

-- what is kept of what was taken is no longer
pub kept_shorter : (old new : Table) (from at : Place) (grown kept : List ℕ) (done : ⊤)
    → TakesAllStrictly old new from at grown kept (Ok done) → length kept ≤ length grown
kept_shorter old new from at grown kept done k =
    omega (arith, ap length k.0.cut, length-append k.0.front k.0.rest, ap length k.0.ends.1)

-- what waits may grow
pub front_waits : (start now : Table) (before bytes more left : List ℕ) (s : StreamView) (place : Place)
    (pending : List ℕ) (many : ℕ) → Reaches start now (before ++ more) place pending → bytes ≡ more ++ left
    → length pending ≤ length s.pending + length more
    → (Truncates encoder_instruction_form pending → FindsWanted now pending (Ok many))
    → ReceivesFront start now before bytes left s (record { pending = pending; wanted = many; place = place }) (Ok tt)
front_waits start now before bytes more left s place pending many k cut fewer finds =
    let waiting = answers_waiting start now (before ++ more) place pending many k finds in
    (record { taken = more; cut = cut; stream = waiting.1; no_longer = fewer }, waiting.0, waiting.2)

-- or may not
pub front_too_large : (start now : Table) (before bytes more left : List ℕ) (s u : StreamView) (pending : List ℕ)
    (e : DecoderError) → Reaches start now (before ++ more) u.place pending → bytes ≡ more ++ left
    → (Truncates encoder_instruction_form pending → FindsWanted now pending (Err e))
    → FailsReceiving start now before bytes left s u (stream_error_at u.place e)
front_too_large start now before bytes more left s u pending e k cut finds =
    answers_refused start now before bytes left s u e
    (record {
      front = more;
      back = left;
      cut = cut;
      refused = answers_too_large start now (before ++ more) u.place pending e k finds;
    })

-- memory was refused for the bytes
pub front_unkept : (start now : Table) (before bytes : List ℕ) (s u : StreamView) → u ≡ s
    → Receives start now before s → 0 < length bytes
    → FailsReceiving start now before bytes bytes s u stream.Memory
front_unkept start now before bytes s u same k some =
    subst (λ (v : StreamView). FailsReceiving start now before bytes bytes s v stream.Memory) (sym same) (
      record {
        taken = [];
        cut = refl;
        stream = subst (λ (b : List ℕ). Receives start now b s) (sym (append-nil before)) k;
        no_longer = omega arith;
      },
      inr (inr (λ none. absurd (omega (arith, some, ap length none)))),
    )

-- a front of the bytes, and those behind it
pub cut_at : (count : ℕ) (bytes front left : List ℕ) → front ≡ take count bytes → left ≡ drop count bytes
    → bytes ≡ front ++ left
cut_at count bytes front left is rest =
    sym (take-append-drop count bytes) ∙ ap (λ (x : List ℕ). x ++ drop count bytes) (sym is)
    ∙ ap (λ (x : List ℕ). front ++ x) (sym rest)

-- ---- fronts in turn

-- nothing was taken in
pub none_in : (start now : Table) (before bytes : List ℕ) (s : StreamView) → Receives start now before s
    → TakesIn start now before bytes bytes s s
none_in start now before bytes s k =
    record {
      taken = [];
      cut = refl;
      stream = subst (λ (b : List ℕ). Receives start now b s) (sym (append-nil before)) k;
      no_longer = omega arith;
    }

-- one front, and then another
pub takes_on : (start now new : Table) (before bytes rest left : List ℕ) (s m u : StreamView)
    → (t : TakesIn start now before bytes rest s m) → TakesIn start new (before ++ t.taken) rest left m u
    → TakesIn start new before bytes left s u
takes_on start now new before bytes rest left s m u t w =
    record {
      taken = t.taken ++ w.taken;
      cut = t.cut ∙ ap (λ (x : List ℕ). t.taken ++ x) w.cut ∙ sym (append_assoc t.taken w.taken left);
      stream = subst (λ (b : List ℕ). Receives start new b u) (append_assoc before t.taken w.taken) w.stream;
      no_longer = omega (arith, t.no_longer, w.no_longer, length-append t.taken w.taken);
    }

-- behind a front it fails as it does without
pub fails_on : (start now new : Table) (before bytes rest left : List ℕ) (s m u : StreamView) (e : EncoderStreamError)
    → (t : TakesIn start now before bytes rest s m) → FailsReceiving start new (before ++ t.taken) rest left m u e
    → FailsReceiving start new before bytes left s u e
fails_on start now new before bytes rest left s m u stream.Memory t w =
    (takes_on start now new before bytes rest left s m u t w.0, w.1)
fails_on start now new before bytes rest left s m u (stream.Refused place e) t w = (
  w.0,
  record {
    front = t.taken ++ w.1.front;
    back = w.1.back;
    cut = t.cut ∙ ap (λ (x : List ℕ). t.taken ++ x) w.1.cut ∙ sym (append_assoc t.taken w.1.front w.1.back);
    refused = subst (λ (b : List ℕ). HasRefused start new b place e) (append_assoc before t.taken w.1.front)
        w.1.refused;
  },
)

-- all bytes of a front and of those behind it
all_of : (before bytes taken rest : List ℕ) → bytes ≡ taken ++ rest → (before ++ taken) ++ rest ≡ before ++ bytes
all_of before bytes taken rest cut =
    append_assoc before taken rest ∙ ap (λ (x : List ℕ). before ++ x) (sym cut)

-- behind a front all the others are received
pub more_on : (start old now new : Table) (before bytes rest left : List ℕ) (s m u : StreamView)
    (r : Result ⊤ EncoderStreamError) → (t : TakesIn start now before bytes rest s m)
    → ReceivesMore start now new (before ++ t.taken) rest left m u r
    → ReceivesMore start old new before bytes left s u r
more_on start old now new before bytes rest left s m u (Ok done) t w =
    let all = all_of before bytes t.taken rest t.cut in (
      w.0,
      subst (λ (b : List ℕ). HasReceived start new b u.place u.pending) all w.1,
      subst (λ (b : List ℕ). Receives start new b u) all w.2,
      w.3,
    )
more_on start old now new before bytes rest left s m u (Err e) t w =
    fails_on start now new before bytes rest left s m u e t w

-- what is whole of one front, and then of another
pub front_on : (start now new : Table) (before bytes rest left : List ℕ) (s m u : StreamView)
    → (t : TakesIn start now before bytes rest s m)
    → ReceivesFront start new (before ++ t.taken) rest left m u (Ok tt)
    → ReceivesFront start new before bytes left s u (Ok tt)
unfolding takes_on
front_on start now new before bytes rest left s m u t w = (
  takes_on start now new before bytes rest left s m u t w.0,
  subst (λ (b : List ℕ). HasReceived start new b u.place u.pending) (append_assoc before t.taken w.0.taken) w.1,
  w.2,
)

-- a front that is all of them
pub front_is_all : (start old new : Table) (before bytes left : List ℕ) (s u : StreamView)
    → ReceivesFront start new before bytes left s u (Ok tt) → left ≡ []
    → ReceivesMore start old new before bytes left s u (Ok tt)
front_is_all start old new before bytes left s u w none =
    let all : w.0.taken ≡ bytes =
    sym (w.0.cut ∙ ap (λ (x : List ℕ). w.0.taken ++ x) none ∙ append-nil w.0.taken) in
    let with : before ++ w.0.taken ≡ before ++ bytes = ap (λ (x : List ℕ). before ++ x) all in (
      none,
      subst (λ (b : List ℕ). HasReceived start new b u.place u.pending) with w.1,
      subst (λ (b : List ℕ). Receives start new b u) with w.0.stream,
      w.2,
    )

-- ---- where nothing waits, from the bytes themselves

-- these were taken of all that follow
pub rest_taken : (start old new : Table) (place : Place) (before bytes : List ℕ) (s : StreamView)
    (P : List ℕ → Type 0) → (k : Receives start old before s) → s.pending ≡ []
    → TakesFrom old new s.place place bytes P → TakesUpTo start new (before ++ bytes) place P
rest_taken start old new place before bytes s P k nothing takes =
    taken_on start old new s.place place before bytes [] _ _ k (k.0.ends.0 ∙ nothing) takes

-- the front of them alone
pub rest_front : (old new : Table) (from at : Place) (bytes : List ℕ) (P : List ℕ → Type 0)
    → (m : TakesFrom old new from at bytes P) → TakesFrom old new from at m.0.front (λ rest. rest ≡ [])
rest_front old new from at bytes P m = (
  record {
    lines = m.0.lines;
    front = m.0.front;
    rest = [];
    cut = sym (append-nil m.0.front);
    joined = m.0.joined;
    applies = m.0.applies;
    ends = refl;
  },
  m.1,
)

-- nothing waits behind that front, and the others are left
front_alone : (start old new : Table) (place : Place) (before bytes left kept : List ℕ) (s : StreamView)
    (P : List ℕ → Type 0) → (k : Receives start old before s) → s.pending ≡ [] → kept ≡ []
    → (m : TakesFrom old new s.place place bytes P) → left ≡ m.0.rest
    → TakesIn start new before bytes left s (record { pending = kept; wanted = 0; place = place })
front_alone start old new place before bytes left kept s P k nothing none m same =
    let front = rest_taken start old new place before m.0.front s (λ rest. rest ≡ []) k nothing
    (rest_front old new s.place place bytes P m) in
    record {
      taken = m.0.front;
      cut = m.0.cut ∙ ap (λ (x : List ℕ). m.0.front ++ x) (sym same);
      stream = ends_up _ _ _ front (front.0.ends ∙ sym none, λ some. absurd (omega (arith, some)));
      no_longer = omega (arith, ap length none);
    }

-- an instruction was not taken
pub rest_not_taken : (start old new : Table) (place : Place) (before bytes left kept : List ℕ) (s : StreamView)
    (e : DecoderError) → Receives start old before s → s.pending ≡ [] → kept ≡ []
    → TakesAllStrictly old new s.place place bytes left (Err e)
    → FailsReceiving start new before bytes left s (record { pending = kept; wanted = 0; place = place })
    (stream_error_at place e)
unfolding taken_on
rest_not_taken start old new place before bytes left kept s e k nothing none takes = by_stop m.0.ends
  where
    m : TakesUpTo start new (before ++ bytes) place (λ rest. StopsStrictly new rest left e)
    m = taken_on start old new s.place place before bytes [] _ _ k (k.0.ends.0 ∙ nothing) takes

    by_stop : StopsStrictly new m.0.rest left e
        → FailsReceiving start new before bytes left s (record { pending = kept; wanted = 0; place = place })
        (stream_error_at place e)
    by_stop (inl stops) =
        rw (stops.1) (
          front_alone start old new place before bytes left kept s _ k nothing none takes stops.2,
          inr (inl (subst (λ (x : List ℕ). AsksToTake new x) (sym stops.2) stops.0)),
        )
    by_stop (inr refuses) =
        answers_refused start new before bytes left s (record { pending = kept; wanted = 0; place = place }) e
        (record {
          front = bytes;
          back = [];
          cut = sym (append-nil bytes);
          refused = ends_up _ _ _ m refuses;
        })

-- none is whole any more
pub rest_reaches : (start old new : Table) (place : Place) (before bytes left kept : List ℕ) (s : StreamView)
    (done : ⊤) → (k : Receives start old before s) → s.pending ≡ []
    → TakesAllStrictly old new s.place place bytes left (Ok done) → kept ≡ left
    → Reaches start new (before ++ bytes) place kept
rest_reaches start old new place before bytes left kept s done k nothing takes same =
    let m = rest_taken start old new place before bytes s _ k nothing takes in
    ends_up _ _ _ m (sym m.0.ends.1 ∙ sym same, m.0.ends.0)

-- what is left may not grow
pub rest_too_large : (start now : Table) (before bytes left : List ℕ) (s u : StreamView) (pending : List ℕ)
    (e : DecoderError) → Reaches start now (before ++ bytes) u.place pending
    → (Truncates encoder_instruction_form pending → FindsWanted now pending (Err e))
    → FailsReceiving start now before bytes left s u (stream_error_at u.place e)
rest_too_large start now before bytes left s u pending e k finds =
    answers_refused start now before bytes left s u e
    (record {
      front = bytes;
      back = [];
      cut = sym (append-nil bytes);
      refused = answers_too_large start now (before ++ bytes) u.place pending e k finds;
    })

-- memory was refused for those that are left
pub rest_unkept : (start old new : Table) (place : Place) (before bytes left kept : List ℕ) (s : StreamView) (done : ⊤)
    → Receives start old before s → s.pending ≡ [] → kept ≡ []
    → TakesAllStrictly old new s.place place bytes left (Ok done) → 0 < length left
    → FailsReceiving start new before bytes left s (record { pending = kept; wanted = 0; place = place }) stream.Memory
rest_unkept start old new place before bytes left kept s done k nothing none takes some = (
  front_alone start old new place before bytes left kept s _ k nothing none takes takes.0.ends.1,
  inr (inr (λ empty. absurd (omega (arith, some, ap length empty)))),
)

-- they are kept
pub rest_waits : (start old now : Table) (before bytes : List ℕ) (s : StreamView) (place : Place) (pending : List ℕ)
    (many : ℕ) (left : List ℕ) → Reaches start now (before ++ bytes) place pending → left ≡ []
    → (Truncates encoder_instruction_form pending → FindsWanted now pending (Ok many))
    → ReceivesMore start old now before bytes left s (record { pending = pending; wanted = many; place = place })
    (Ok tt)
rest_waits start old now before bytes s place pending many left k none finds =
    let waiting = answers_waiting start now (before ++ bytes) place pending many k finds in
    (none, waiting.0, waiting.1, waiting.2)

nothing_fits : (now : Table) → least_field_size [] ≤ now.capacity
unfolding least_field_size
nothing_fits now = omega arith

-- no byte comes, and none waits
pub nothing_more : (start now : Table) (before bytes left : List ℕ) (s : StreamView) → Receives start now before s
    → s.pending ≡ [] → 0 ≡ length bytes → left ≡ bytes → ReceivesMore start now now before bytes left s s (Ok tt)
nothing_more start now before [] left s k none no_more same =
    let empty : k.0.rest ≡ [] = k.0.ends.0 ∙ none in (
      same,
      rw (append-nil before) (ends_up _ _ _ k (
        k.0.ends.0,
        subst (λ (x : List ℕ). MayGrow now x) (sym empty)
            (record { cut = cut_none; fits = nothing_fits now }),
      )),
      rw (append-nil before) k,
      omega (arith, ap length none),
    )
nothing_more start now before (b ∷ bytes) left s k none no_more same = absurd cc

-- as many bytes were passed as there were
pub all_passed : (many : ℕ) (bytes left : List ℕ) → many ≡ length bytes → left ≡ drop many bytes → left ≡ []
all_passed many bytes left all is = is ∙ drop_all many bytes (omega (arith, all))

-- no byte waits
pub nothing_waits : (pending : List ℕ) (many : ℕ) → many ≡ length pending → (0 < many → ⊥) → pending ≡ []
nothing_waits [] many is none = refl
nothing_waits (b ∷ pending) many is none = absurd (none (omega (arith, is)))
