-- What events and outcomes say of each stream is what a connection keeps of it.
use Rattle.std.proofs.Common.{◌≡◌, ◌≤◌, ◌<◌, ◌+◌, ◌^◌, ℕ, zero, suc, Bool, true, false, cond, List, [], ◌∷◌, ◌++◌}
use Rattle.std.proofs.Common.{length, map, drop, Option, None, Some, Result, refl, sym, ap, subst, ◌∙◌, arith}
use Rattle.std.proofs.Common.{length-append}
use Rattle.std.proofs.lemmas.Bool.{eqb-true}
use Rattle.std.specs.Option.{is_some}
use Rattle.std.specs.Prelude.{nat_eq, slice_get}
use Rattle.qpack_spec.specs.Field.{FieldLine}
use Rattle.qpack_rules.specs.Session.{RequestStream, stream_at, with_stream, oldest_undecoded}
use Rattle.qpack_decoding.specs.FieldSections.{SectionView}
use Rattle.qpack_decoding.specs.declared.decoder.DecodingError.{DecodingError}
use Rattle.qpack_decoding.specs.declared.section.Reading.{Reading}
use Rattle.qpack_connection.specs.declared.connection.Outcome.{Outcome}
use Rattle.qpack_connection.specs.declared.connection.Outcome.TheVariants.{Decoded, Skipped}
use Rattle.qpack_connection.specs.declared.connection.Skip.{Skip}
use Rattle.qpack_connection.specs.declared.connection.Skip.TheVariants.{NothingToDecode, StreamCancelled}
use Rattle.qpack_connection.specs.ConnectionEvents.{decode_skip, cancel_skip}
use Rattle.qpack_connection.specs.Connections.{SentSection}
use Rattle.qpack_connection.specs.Headline.{HandedSection, HandedStream, SoFar, with_handed, AnswersSection}
use Rattle.qpack_connection.specs.Headline.{AnswersDecode, AnswersCancel}

-- ---- one stream

abbrev pub handed_of : SentSection → HandedSection
handed_of k = record { fields = k.fields; required = k.required }

-- the sections that were not decoded
abbrev left_of : RequestStream SentSection → List HandedSection
left_of st = map handed_of (drop st.decoded st.blocks)

-- its sections are those that are not decoded, and if there are any the stream's number is one
pub record IsStream (s : ℕ) (h : HandedStream) (st : RequestStream SentSection) : Type 0 where
  pub sections : h.sections ≡ left_of st
  pub cancelled : h.cancelled ≡ st.cancelled
  pub within : st.decoded ≤ length st.blocks
  pub number : (next : HandedSection) (more : List HandedSection) → h.sections ≡ next ∷ more → s < 2 ^ 62

-- ---- its sections

drop_more : (xs : List SentSection) (n : ℕ) (x : SentSection) → n ≤ length xs
    → map handed_of (drop n (xs ++ x ∷ [])) ≡ map handed_of (drop n xs) ++ handed_of x ∷ []
drop_more [] zero x within = refl
drop_more [] (suc n) x within = absurd (omega (arith, within))
drop_more (y ∷ ys) zero x within =
    ap (λ (l : List HandedSection). handed_of y ∷ l) (drop_more ys zero x (omega arith))
drop_more (y ∷ ys) (suc n) x within = drop_more ys n x (omega (arith, within))

drop_next : (xs : List SentSection) (n : ℕ) (x : SentSection) → slice_get xs n ≡ Some x
    → (map handed_of (drop n xs) ≡ handed_of x ∷ map handed_of (drop (suc n) xs)) × (n < length xs)
drop_next [] n x e = absurd cc
drop_next (y ∷ ys) zero x e = (ap (λ (o : Option SentSection). pending o) e, omega arith)
  where
    pending : Option SentSection → List HandedSection
    pending None = []
    pending (Some k) = handed_of k ∷ map handed_of ys
drop_next (y ∷ ys) (suc n) x e = let r = drop_next ys n x e in (r.0, omega (arith, r.1))

drop_none : (xs : List SentSection) (n : ℕ) → slice_get xs n ≡ None → map handed_of (drop n xs) ≡ []
drop_none [] zero e = refl
drop_none [] (suc n) e = refl
drop_none (y ∷ ys) zero e = absurd cc
drop_none (y ∷ ys) (suc n) e = drop_none ys n e

next_place : (n : ℕ) → suc n ≡ n + 1
next_place n = omega arith

-- the next one
next_is : (s : ℕ) (h : HandedStream) (st : RequestStream SentSection) (k : SentSection)
    → oldest_undecoded st ≡ Some k → IsStream s h st
    → h.sections ≡ handed_of k ∷ map handed_of (drop (suc st.decoded) st.blocks)
next_is s h st k e is = is.sections ∙ (drop_next st.blocks st.decoded k e).0

pub is_number : (s : ℕ) (h : HandedStream) (st : RequestStream SentSection) (k : SentSection)
    → oldest_undecoded st ≡ Some k → IsStream s h st → s < 2 ^ 62
is_number s h st k e is =
    is.number (handed_of k) (map handed_of (drop (suc st.decoded) st.blocks)) (next_is s h st k e is)

-- ---- what becomes of it

pub none_handed : (s : ℕ)
    → IsStream s (record { sections = []; cancelled = false })
    (record { blocks = []; decoded = 0; acknowledged = 0; cancelled = false })
none_handed s =
    record { sections = refl; cancelled = refl; within = omega arith; number = λ next more e. absurd (let q = e in cc) }

pub one_handed : (s : ℕ) (h : HandedStream) (st : RequestStream SentSection) (k : SentSection) → s < 2 ^ 62
    → IsStream s h st
    → IsStream s (record h { sections = h.sections ++ handed_of k ∷ [] }) (record st { blocks = st.blocks ++ k ∷ [] })
one_handed s h st k number is =
    record {
      sections = ap (λ (l : List HandedSection). l ++ handed_of k ∷ []) is.sections
          ∙ sym (drop_more st.blocks st.decoded k is.within);
      cancelled = is.cancelled;
      within = omega (arith, is.within, length-append st.blocks (k ∷ []));
      number = λ next more e. number;
    }

pub one_decoded : (s acknowledged : ℕ) (h : HandedStream) (st : RequestStream SentSection) (k : SentSection)
    → oldest_undecoded st ≡ Some k → IsStream s h st
    → IsStream s (record h { sections = drop 1 h.sections })
    (record st { decoded = st.decoded + 1; acknowledged = acknowledged })
one_decoded s acknowledged h st k e is =
    record {
      sections = ap (λ (l : List HandedSection). drop 1 l) (next_is s h st k e is)
          ∙ ap (λ (n : ℕ). map handed_of (drop n st.blocks)) (next_place st.decoded);
      cancelled = is.cancelled;
      within = omega (arith, (drop_next st.blocks st.decoded k e).1);
      number = λ next more behind. is_number s h st k e is;
    }

pub now_cancelled : (s : ℕ) (h : HandedStream) (st : RequestStream SentSection) → IsStream s h st
    → IsStream s (record h { cancelled = true }) (record st { cancelled = true })
now_cancelled s h st is =
    record { sections = is.sections; cancelled = refl; within = is.within; number = is.number }

-- ---- all streams

abbrev pub AreStreams : (ℕ → HandedStream) → List (ℕ × RequestStream SentSection) → Type 0
AreStreams hs ps = (s : ℕ) → IsStream s (hs s) (stream_at ps s)

-- one is changed
pub one_changed : (hs : ℕ → HandedStream) (ps : List (ℕ × RequestStream SentSection)) (q : ℕ) (h : HandedStream)
    (st : RequestStream SentSection) → IsStream q h st → AreStreams hs ps
    → AreStreams (with_handed q h hs) (with_stream ps q st)
one_changed hs ps q h st new are s = both (nat_eq q s) refl
  where
    both : (b : Bool) → nat_eq q s ≡ b → IsStream s (cond b h (hs s)) (cond b st (stream_at ps s))
    both true e = subst (λ (x : ℕ). IsStream x h st) (eqb-true q s e) new
    both false e = are s

-- ---- what a decode and a cancellation answer

pub decode_answers : (limit : ℕ) (f : SoFar) (s : ℕ) (h : HandedStream) (st : RequestStream SentSection)
    (k : SentSection) (r : Result Reading DecodingError) (shown : SectionView) → st.cancelled ≡ false
    → oldest_undecoded st ≡ Some k → IsStream s h st → AnswersSection limit f s (handed_of k) r shown.fields
    → AnswersDecode limit f s h.cancelled h.sections (Decoded r shown)
decode_answers limit f s h st k r shown live e is a =
    subst (λ (c : Bool). AnswersDecode limit f s c h.sections (Decoded r shown)) (sym (is.cancelled ∙ live))
    (subst (λ (l : List HandedSection). AnswersDecode limit f s false l (Decoded r shown))
    (sym (next_is s h st k e is)) a)

skipped_is : (x y : Skip) → Some x ≡ Some y → Skipped y ≡ Skipped x
skipped_is x y e = cc

skip_answers : (limit : ℕ) (f : SoFar) (s : ℕ) (why : Skip) (c : Bool) (o : Option SentSection)
    (l : List HandedSection) → (o ≡ None → l ≡ [])
    → cond c (Some StreamCancelled) (cond (is_some o) None (Some NothingToDecode)) ≡ Some why
    → AnswersDecode limit f s c l (Skipped why)
skip_answers limit f s why true o l none e = skipped_is StreamCancelled why e
skip_answers limit f s why false None l none e =
    subst (λ (l : List HandedSection). AnswersDecode limit f s false l (Skipped why)) (sym (none refl))
    (skipped_is NothingToDecode why e)
skip_answers limit f s why false (Some k) l none e = absurd cc

pub decode_skipped : (limit : ℕ) (f : SoFar) (s : ℕ) (h : HandedStream) (st : RequestStream SentSection) (why : Skip)
    → decode_skip st ≡ Some why → IsStream s h st → AnswersDecode limit f s h.cancelled h.sections (Skipped why)
decode_skipped limit f s h st why e is =
    subst (λ (c : Bool). AnswersDecode limit f s c h.sections (Skipped why)) (sym is.cancelled)
    (subst (λ (l : List HandedSection). AnswersDecode limit f s st.cancelled l (Skipped why)) (sym is.sections)
    (skip_answers limit f s why st.cancelled (oldest_undecoded st) (left_of st)
    (λ none. drop_none st.blocks st.decoded none) e))

-- a stream that is not cancelled
pub cancel_answers : (maximum s : ℕ) (h : HandedStream) (st : RequestStream SentSection) (o : Outcome)
    → cancel_skip st ≡ None → IsStream s h st → AnswersCancel maximum s false o
    → AnswersCancel maximum s h.cancelled o
cancel_answers maximum s h st o e is a =
    subst (λ (c : Bool). AnswersCancel maximum s c o) (sym (is.cancelled ∙ live st.cancelled e)) a
  where
    live : (c : Bool) → cond c (Some StreamCancelled) None ≡ None → c ≡ false
    live true e = absurd cc
    live false e = refl

pub cancel_skipped : (maximum s : ℕ) (h : HandedStream) (st : RequestStream SentSection) (why : Skip)
    → cancel_skip st ≡ Some why → IsStream s h st → AnswersCancel maximum s h.cancelled (Skipped why)
cancel_skipped maximum s h st why e is =
    subst (λ (c : Bool). AnswersCancel maximum s c (Skipped why)) (sym is.cancelled) (skip st.cancelled e)
  where
    skip : (c : Bool) → cond c (Some StreamCancelled) None ≡ Some why → AnswersCancel maximum s c (Skipped why)
    skip true e = skipped_is StreamCancelled why e
    skip false e = absurd cc
