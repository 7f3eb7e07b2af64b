-- What a session answers, by its events and answers alone.
use Rattle.std.proofs.Common.{ℕ, suc, ◌≤◌, ◌<◌, ◌≡◌, Bool, true, false, not, List, [], ◌∷◌, ◌++◌, length, map, take}
use Rattle.std.proofs.Common.{cond, filter, Some, refl, sym, ap, ◌∙◌, subst, inl, inr, ◌⊎◌, arith, append_assoc}
use Rattle.std.specs.List.{slice_get}
use Rattle.std.specs.Option.{option_map}
use Rattle.std.specs.Prelude.{nat_eq}
use Rattle.std.proofs.lemmas.Bool.{cases_eq, eq-eqb, ne_eqb}
use Rattle.std.proofs.lemmas.List.{append-nil, length-append, length-map, map-append, take-map}
use Rattle.std.proofs.lemmas.Option.{slice_get-map}
use Rattle.qpack_spec.specs.Field.{Field, total_size}
use Rattle.qpack_spec.specs.Stateless.{saturated_size}
use Rattle.qpack_spec.specs.Table.{insert_count}
use Rattle.qpack_rules.specs.Session.{KeptBlock, stream_at, requires_entry, Session, Event, Encode, Decode, ToDecoder}
use Rattle.qpack_rules.specs.Session.{ToEncoder, Acknowledge, Cancel, ChangeCapacity, Outcome, Encoded, Decoded}
use Rattle.qpack_rules.specs.Session.{Delivered, NoMemory, Skipped, Step, Skips, LawfulStep, Run}
use Rattle.qpack_rules.specs.Session.{initial_session}
use Rattle.qpack_rules.specs.SessionLaws.{IsOutsideOn, number_too_great, was_cancelled, is_not_there, IsOutside}
use Rattle.qpack_rules.proofs.SkippedEvents.{skipped_exactly}
use Rattle.qpack_safety.specs.Headline.{AnsweredEncode, encode_of, encodes_on, fields_decoded_of, fields_decoded_on}
use Rattle.qpack_safety.specs.Headline.{decode_of, decodes_on, next_encode, acknowledgments_on, to_acknowledge_on}
use Rattle.qpack_safety.specs.Headline.{is_cancelled, IsSkippedRightly, great_number, stream_cancelled, IsRightDecode}
use Rattle.qpack_safety.specs.Headline.{fields_handed, count_missing, decode_wants_memory, nothing_to_decode}
use Rattle.qpack_safety.specs.Headline.{decode_skipped, IsRight, SessionsAnswerWhatWasHanded}
use Rattle.qpack_safety.specs.SessionSafety.{IsSafe, AnswersFields, encode_behind, DecodeAnswer, is_skipped}
use Rattle.qpack_safety.specs.SessionSafety.{wants_memory, gives_fields, waits_for}
use Rattle.qpack_safety.proofs.FourParts.{sessions_safe}
use Rattle.qpack_safety.proofs.StreamMarks.{Marks, runs_mark}

-- ---- each answer is right

-- an event among others: those before it lead to a session from which it steps
record Moment (v : Session) (before : List (Event × Outcome)) (e : Event) (o : Outcome) : Type 0 where
  pub at : Session
  pub next : Session
  pub run : Run v before at
  pub step : Step at e o next

moment_of : (v v' : Session) (before after : List (Event × Outcome)) (e : Event) (o : Outcome)
    → Run v (before ++ (e, o) ∷ after) v' → Moment v before e o
moment_of v v' [] after e o r = record { at = v; next = r.0; run = refl; step = r.1.goes }
moment_of v v' (p ∷ before) after e o r =
    let k = moment_of r.0 v' before after e o r.2 in
    record { at = k.at; next = k.next; run = (r.0, r.1, k.run); step = k.step }

-- of the blocks as many require an entry as of their encodes
requiring : (bs : List KeptBlock) → length (filter requires_entry bs)
    ≡ length (filter (λ (encode : AnsweredEncode). not (nat_eq encode.required 0)) (map (λ b. encode_behind b) bs))
requiring [] = refl
requiring (b ∷ bs) = pick (nat_eq b.required 0) refl (requiring bs)
  where
    pick : (t : Bool) → nat_eq b.required 0 ≡ t → length (filter requires_entry bs)
        ≡ length (filter (λ (encode : AnsweredEncode). not (nat_eq encode.required 0)) (map (λ b. encode_behind b) bs))
        → length (filter requires_entry (b ∷ bs))
        ≡ length (filter (λ (encode : AnsweredEncode). not (nat_eq encode.required 0))
        (map (λ b. encode_behind b) (b ∷ bs)))
    pick true q more = rw q more
    pick false q more = rw q (ap suc more)

module _ (capacity maximum limit : ℕ) (within : capacity ≤ maximum) (before : List (Event × Outcome)) (v : Session)
    (run : Run (initial_session capacity maximum limit) before v) where
  safe : IsSafe capacity maximum limit before v
  safe = sessions_safe capacity maximum limit within before v run

  marks : (s : ℕ) → Marks (stream_at (initial_session capacity maximum limit).streams s) (stream_at v.streams s)
      (acknowledgments_on s before) (is_cancelled s before)
  marks s = runs_mark (initial_session capacity maximum limit) before v s run

  cancelled_so : (s : ℕ) → (stream_at v.streams s).cancelled ≡ true → is_cancelled s before ≡ true
  cancelled_so s c = sym (marks s).cancelled_is ∙ c

  all_decoded : (s : ℕ) → ((stream_at v.streams s).decoded < length (stream_at v.streams s).blocks → ⊥)
      → length (encodes_on s before) ≤ decodes_on s before
  all_decoded s none =
      let k = stream_at v.streams s in
      let most : length k.blocks ≤ k.decoded = not_less k.decoded (length k.blocks) none in
      omega (
        arith,
        most,
        safe.decodes.decoded_are s,
        sym (length-map k.blocks (λ b. encode_behind b)) ∙ ap length (safe.decodes.blocks_are s),
      )
    where
      not_less : (a b : ℕ) → (a < b → ⊥) → b ≤ a
      not_less a b n = omega (arith, n)

  all_acknowledged : (s : ℕ)
      → ((stream_at v.streams s).acknowledged
      < length (filter requires_entry (take (stream_at v.streams s).decoded (stream_at v.streams s).blocks)) → ⊥)
      → to_acknowledge_on s before ≤ acknowledgments_on s before
  all_acknowledged s none =
      let k = stream_at v.streams s in
      let same : map (λ b. encode_behind b) (take k.decoded k.blocks)
      ≡ take (decodes_on s before) (encodes_on s before) =
      sym (take-map (λ b. encode_behind b) k.decoded k.blocks)
      ∙ ap (take k.decoded) (safe.decodes.blocks_are s)
      ∙ ap (λ (n : ℕ). take n (encodes_on s before)) (safe.decodes.decoded_are s) in
      let many : length (filter requires_entry (take k.decoded k.blocks)) ≡ to_acknowledge_on s before =
      requiring (take k.decoded k.blocks)
      ∙ ap (λ (l : List AnsweredEncode). length (filter (λ encode. not (nat_eq encode.required 0)) l)) same in
      omega (arith, none, many, (marks s).acknowledged)

  -- a skipped event
  skipped_rightly : (s : ℕ) (IsThere : Type 0) (missing reason : ℕ) (o : Outcome) → o ≡ Skipped reason
      → IsOutsideOn v s IsThere missing reason
      → IsSkippedRightly before s o ⊎ ((IsThere → ⊥) × (o ≡ Skipped missing))
  skipped_rightly s IsThere missing reason o is (number_too_great most r) =
      inl (great_number most (is ∙ ap Skipped r))
  skipped_rightly s IsThere missing reason o is (was_cancelled small c r) =
      inl (stream_cancelled (cancelled_so s c) (is ∙ ap Skipped r))
  skipped_rightly s IsThere missing reason o is (is_not_there small live none r) = inr (none, is ∙ ap Skipped r)

  decode_skips : (s reason : ℕ) (o : Outcome) → o ≡ Skipped reason → IsOutside v (Decode s) reason
      → IsRightDecode before s o
  decode_skips s reason o is out =
      let k = stream_at v.streams s in
      pick (skipped_rightly s (k.decoded < length k.blocks) 2 reason o is out)
    where
      pick : IsSkippedRightly before s o
          ⊎ (((stream_at v.streams s).decoded < length (stream_at v.streams s).blocks → ⊥) × (o ≡ Skipped 2))
          → IsRightDecode before s o
      pick (inl h) = decode_skipped h
      pick (inr h) = nothing_to_decode (all_decoded s h.0) h.1

  handed : (s : ℕ) (fields : List Field) (size : ℕ) (is_dynamic : Bool) (o : Outcome)
      → o ≡ Decoded fields size is_dynamic → AnswersFields before s fields size is_dynamic → IsRightDecode before s o
  handed s fields size is_dynamic o is a =
      fields_handed a.encode a.is_next
      (is ∙ ap (λ (x : List Field). Decoded x size is_dynamic) a.fields_are
      ∙ ap (λ (n : ℕ). Decoded a.encode.fields n is_dynamic) a.size_is
      ∙ ap (λ (b : Bool). Decoded a.encode.fields (saturated_size (total_size a.encode.fields)) b) a.dynamic_is)

  right_decode : (s : ℕ) (o : Outcome) (w : Session) → Step v (Decode s) o w → IsRightDecode before s o
  right_decode s o w step = go (safe.waits.answers s o w step)
    where
      go : DecodeAnswer before v s o → IsRightDecode before s o
      go (is_skipped reason skips is) =
          decode_skips s reason o is ((skipped_exactly v (Decode s) reason).0 skips)
      go (wants_memory is) = decode_wants_memory is
      go (gives_fields fields size is_dynamic is) =
          handed s fields size is_dynamic o is
          (safe.decodes.answers s fields size is_dynamic w (subst (λ (x : Outcome). Step v (Decode s) x w) is step))
      go (waits_for encode next exceeds is) = count_missing encode next is

  skips : (e : Event) (o : Outcome) (w : Session) → (h : Skips v e o w) → IsOutside v e h.reason
  skips e o w h = (skipped_exactly v e h.reason).0 h.is_reason

  right_acknowledgment : (s : ℕ) (o : Outcome) (w : Session) → Step v (Acknowledge s) o w
      → IsRight before (Acknowledge s) o
  unfolding LawfulStep
  right_acknowledgment s o w (inl h) =
      pick (skipped_rightly s ((stream_at v.streams s).acknowledged
      < length (filter requires_entry (take (stream_at v.streams s).decoded (stream_at v.streams s).blocks)))
      4 h.reason o h.answers (skips (Acknowledge s) o w h))
    where
      pick : IsSkippedRightly before s o
          ⊎ (((stream_at v.streams s).acknowledged
          < length (filter requires_entry (take (stream_at v.streams s).decoded (stream_at v.streams s).blocks)) → ⊥)
          × (o ≡ Skipped 4)) → IsRight before (Acknowledge s) o
      pick (inl k) = inr (inr (inr k))
      pick (inr k) = inr (inr (inl (all_acknowledged s k.0, k.1)))
  right_acknowledgment s o w (inr (none, inl h)) = inl h.0
  right_acknowledgment s o w (inr (none, inr h)) = inr (inl h.0)

  right_cancellation : (s : ℕ) (o : Outcome) (w : Session) → Step v (Cancel s) o w → IsRight before (Cancel s) o
  unfolding LawfulStep
  right_cancellation s o w (inl h) =
      pick (skipped_rightly s (Unit {0}) 0 h.reason o h.answers (skips (Cancel s) o w h))
    where
      pick : IsSkippedRightly before s o ⊎ ((Unit {0} → ⊥) × (o ≡ Skipped 0)) → IsRight before (Cancel s) o
      pick (inl k) = inr (inr k)
      pick (inr k) = absurd (k.0 tt)
  right_cancellation s o w (inr (none, inl h)) = inl h.0
  right_cancellation s o w (inr (none, inr h)) = inr (inl h.0)

  right : (e : Event) (o : Outcome) (w : Session) → Step v e o w → IsRight before e o
  unfolding LawfulStep
  right (Encode s fields) o w (inl h) =
      let out = skips (Encode s fields) o w h in inr (inr (out.0, h.answers ∙ ap Skipped out.1))
  right (Encode s fields) o w (inr (none, inl h)) = inl (_, h.0)
  right (Encode s fields) o w (inr (none, inr (inl h))) = inr (inl h.answers)
  right (Encode s fields) o w (inr (none, inr (inr h))) = inr (inl h.0)
  right (Decode s) o w step = right_decode s o w step
  right (ToDecoder n) o w step = pick (safe.refuses.delivers n o w step)
    where
      pick : (o ≡ Delivered (insert_count w.decoder)) ⊎ (o ≡ NoMemory) → IsRight before (ToDecoder n) o
      pick (inl q) = inl (_, q)
      pick (inr q) = inr q
  right (ToEncoder n) o w step = safe.refuses.hears n o w step
  right (Acknowledge s) o w step = right_acknowledgment s o w step
  right (Cancel s) o w step = right_cancellation s o w step
  right (ChangeCapacity n) o w (inl h) = absurd (skips (ChangeCapacity n) o w h)
  right (ChangeCapacity n) o w (inr (none, inl h)) = inl h.answers
  right (ChangeCapacity n) o w (inr (none, inr (inl h))) = inr (inl (h.refusal, h.answers))
  right (ChangeCapacity n) o w (inr (none, inr (inr h))) = inr (inr h.0)

-- ---- on each stream what was decoded is the front of what was encoded

abbrev fields_encoded_on : ℕ → List (Event × Outcome) → List (List Field)
fields_encoded_on s events = map (λ (encode : AnsweredEncode). encode.fields) (encodes_on s events)

abbrev IsFront : ℕ → List (Event × Outcome) → Type 0
IsFront s events = (more : List (List Field)) × (fields_encoded_on s events ≡ fields_decoded_on s events ++ more)

encodes_append : (s : ℕ) (xs ys : List (Event × Outcome)) → encodes_on s (xs ++ ys) ≡ encodes_on s xs ++ encodes_on s ys
encodes_append s [] ys = refl
encodes_append s (p ∷ xs) ys =
    ap (λ (l : List AnsweredEncode). encode_of s p.0 p.1 ++ l) (encodes_append s xs ys)
    ∙ sym (append_assoc (encode_of s p.0 p.1) (encodes_on s xs) (encodes_on s ys))

decoded_append : (s : ℕ) (xs ys : List (Event × Outcome))
    → fields_decoded_on s (xs ++ ys) ≡ fields_decoded_on s xs ++ fields_decoded_on s ys
decoded_append s [] ys = refl
decoded_append s (p ∷ xs) ys =
    ap (λ (l : List (List Field)). fields_decoded_of s p.0 p.1 ++ l) (decoded_append s xs ys)
    ∙ sym (append_assoc (fields_decoded_of s p.0 p.1) (fields_decoded_on s xs) (fields_decoded_on s ys))

-- one decode more
decodes_count : (s : ℕ) (events : List (Event × Outcome)) → length (fields_decoded_on s events) ≡ decodes_on s events
decodes_count s [] = refl
decodes_count s (p ∷ events) =
    omega (
      arith,
      length-append (fields_decoded_of s p.0 p.1) (fields_decoded_on s events),
      one p.0 p.1,
      decodes_count s events,
    )
  where
    by : (b : Bool) (fields : List Field) → length (cond b (fields ∷ []) []) ≡ cond b 1 0
    by true fields = refl
    by false fields = refl

    one : (e : Event) (o : Outcome) → length (fields_decoded_of s e o) ≡ decode_of s e o
    one (Decode t) (Decoded fields size is_dynamic) = by (nat_eq t s) fields
    one e o = refl

-- what stands behind the front
behind : {X : Type 0} (front more : List X) (x : X) → slice_get (front ++ more) (length front) ≡ Some x
    → (rest : List X) × (more ≡ x ∷ rest)
behind [] [] x e = absurd cc
behind [] (y ∷ more) x e = (more, cc)
behind (y ∷ front) more x e = behind front more x e

module _ (s : ℕ) (done : List (Event × Outcome)) (front : IsFront s done) where
  abbrev More : Event → Outcome → Type 0
  More e o =
      (more : List (List Field))
      × (map (λ (encode : AnsweredEncode). encode.fields) (encodes_on s done ++ encode_of s e o)
      ≡ (fields_decoded_on s done ++ fields_decoded_of s e o) ++ more)

  -- encodes more, and nothing decoded
  only_encoded : (encodes : List AnsweredEncode)
      → (more : List (List Field)) × (map (λ (encode : AnsweredEncode). encode.fields) (encodes_on s done ++ encodes)
      ≡ (fields_decoded_on s done ++ []) ++ more)
  only_encoded encodes = (
    front.0 ++ map (λ (encode : AnsweredEncode). encode.fields) encodes,
    map-append (λ (encode : AnsweredEncode). encode.fields) (encodes_on s done) encodes
        ∙ ap (λ (l : List (List Field)). l ++ map (λ (encode : AnsweredEncode). encode.fields) encodes) front.1
        ∙ append_assoc (fields_decoded_on s done) front.0 (map (λ (encode : AnsweredEncode). encode.fields) encodes)
        ∙ ap (λ (l : List (List Field)). l ++ (front.0 ++ map (λ (encode : AnsweredEncode). encode.fields) encodes))
        (sym (append-nil (fields_decoded_on s done))),
  )

  -- the fields of the next encode decoded
  next_decoded : (encode : AnsweredEncode) → next_encode s done ≡ Some encode
      → (more : List (List Field)) × (map (λ (encode : AnsweredEncode). encode.fields) (encodes_on s done ++ [])
      ≡ (fields_decoded_on s done ++ encode.fields ∷ []) ++ more)
  next_decoded encode next =
      let at : slice_get (fields_decoded_on s done ++ front.0) (length (fields_decoded_on s done))
      ≡ Some encode.fields =
      ap (λ (l : List (List Field)). slice_get l (length (fields_decoded_on s done))) (sym front.1)
      ∙ ap (slice_get (fields_encoded_on s done)) (decodes_count s done)
      ∙ slice_get-map (λ (x : AnsweredEncode). x.fields) (encodes_on s done) (decodes_on s done)
      ∙ ap (option_map (λ (x : AnsweredEncode). x.fields)) next in
      let rest = behind (fields_decoded_on s done) front.0 encode.fields at in (
        rest.0,
        ap (map (λ (x : AnsweredEncode). x.fields)) (append-nil (encodes_on s done)) ∙ front.1
            ∙ ap (λ (l : List (List Field)). fields_decoded_on s done ++ l) rest.1
            ∙ sym (append_assoc (fields_decoded_on s done) (encode.fields ∷ []) rest.0),
      )

  fields_of_decode : (fields : List Field) (size : ℕ) (is_dynamic : Bool)
      → IsRightDecode done s (Decoded fields size is_dynamic)
      → (encode : AnsweredEncode) × (next_encode s done ≡ Some encode) × (fields ≡ encode.fields)
  fields_of_decode fields size is_dynamic (fields_handed encode next is) = (encode, next, cc)
  fields_of_decode fields size is_dynamic (count_missing encode next is) = absurd cc
  fields_of_decode fields size is_dynamic (decode_wants_memory is) = absurd cc
  fields_of_decode fields size is_dynamic (nothing_to_decode none is) = absurd cc
  fields_of_decode fields size is_dynamic (decode_skipped (great_number most is)) = absurd cc
  fields_of_decode fields size is_dynamic (decode_skipped (stream_cancelled c is)) = absurd cc

  decode_more : (t : ℕ) (fields : List Field) (size : ℕ) (is_dynamic : Bool)
      → IsRightDecode done t (Decoded fields size is_dynamic) → More (Decode t) (Decoded fields size is_dynamic)
  decode_more t fields size is_dynamic r = pick (cases_eq t s)
    where
      pick : (t ≡ s) ⊎ (t ≡ s → ⊥) → More (Decode t) (Decoded fields size is_dynamic)
      pick (inl q) =
          let own : nat_eq t s ≡ true = eq-eqb t s q in
          let a = fields_of_decode fields size is_dynamic
          (subst (λ (x : ℕ). IsRightDecode done x (Decoded fields size is_dynamic)) q r) in
          rw (own, a.2) (next_decoded a.0 a.1)
      pick (inr d) = let apart : nat_eq t s ≡ false = ne_eqb t s d in rw apart (only_encoded [])

  more_of : (e : Event) (o : Outcome) → IsRight done e o → More e o
  more_of (Decode t) (Decoded fields size is_dynamic) r = decode_more t fields size is_dynamic r
  more_of (Encode t fields) (Encoded required) r = only_encoded (encode_of s (Encode t fields) (Encoded required))
  more_of e o r = only_encoded []

  front_more : (e : Event) (o : Outcome) → IsRight done e o → IsFront s (done ++ (e, o) ∷ [])
  front_more e o r =
      let m = more_of e o r in
      let encoded : encodes_on s (done ++ (e, o) ∷ []) ≡ encodes_on s done ++ encode_of s e o =
      encodes_append s done ((e, o) ∷ [])
      ∙ ap (λ (l : List AnsweredEncode). encodes_on s done ++ l) (append-nil (encode_of s e o)) in
      let decoded : fields_decoded_on s (done ++ (e, o) ∷ []) ≡ fields_decoded_on s done ++ fields_decoded_of s e o =
      decoded_append s done ((e, o) ∷ [])
      ∙ ap (λ (l : List (List Field)). fields_decoded_on s done ++ l) (append-nil (fields_decoded_of s e o)) in (
        m.0,
        ap (map (λ (x : AnsweredEncode). x.fields)) encoded ∙ m.1
            ∙ ap (λ (l : List (List Field)). l ++ m.0) (sym decoded),
      )

abbrev AreRight : List (Event × Outcome) → Type 0
AreRight events =
    (before after : List (Event × Outcome)) (e : Event) (o : Outcome) → events ≡ before ++ (e, o) ∷ after
    → IsRight before e o

front_behind : (s : ℕ) (done rest : List (Event × Outcome)) → IsFront s done → AreRight (done ++ rest)
    → IsFront s (done ++ rest)
front_behind s done [] front each = subst (IsFront s) (sym (append-nil done)) front
front_behind s done (p ∷ rest) front each =
    let whole : (done ++ p ∷ []) ++ rest ≡ done ++ p ∷ rest = append_assoc done (p ∷ []) rest in
    subst (IsFront s) whole
    (front_behind s (done ++ p ∷ []) rest (front_more s done front p.0 p.1 (each done rest p.0 p.1 refl))
    (subst AreRight (sym whole) each))

-- ---- the headline

pub answers_handed : SessionsAnswerWhatWasHanded
answers_handed capacity maximum limit within events v run =
    let each : AreRight events = λ before after e o cut.
    let m = moment_of (initial_session capacity maximum limit) v before after e o
    (subst (λ (x : List (Event × Outcome)). Run (initial_session capacity maximum limit) x v) cut run) in
    right capacity maximum limit within before m.at m.run e o m.next m.step in
    record { in_order = λ s. front_behind s [] events ([], refl) each; each = each }
