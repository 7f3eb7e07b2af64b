-- A decoder stream that is received byte by byte.
use Rattle.std.proofs.Common.{◌≡◌, ℕ, ◌<◌, List, [], ◌∷◌, ◌++◌, length, Option, None, Some, Result, Ok, refl, sym, ap}
use Rattle.std.proofs.Common.{subst, ◌∙◌, ◌+◌, arith, append_assoc, append-nil, length-append, take, drop, get_or}
use Rattle.std.proofs.Common.{add-one}
use Rattle.std.proofs.Math.Seq.{take-suc}
use Rattle.std.proofs.lemmas.List.{take-append-drop}
use Rattle.std.specs.Prelude.{nat_lt}
use Rattle.std.proofs.lemmas.Bool.{cond_both, ltb-false}
use Rattle.qpack_spec.specs.Bytes.{Begins, ◌>>=◌}
use Rattle.qpack_spec.specs.Huffman.{AreBytes}
use Rattle.qpack_spec.specs.Form.{Form, Index, IndexAndValue, NameAndValue, Truncates, in_form, form_at}
use Rattle.qpack_spec.specs.Instruction.{DecoderInstruction, decoder_instruction_form, SpellsDecoderInstruction}
use Rattle.qpack_spec.specs.Table.{Table}
use Rattle.qpack_spec.proofs.FormLaws.{reads_form_truncation}
use Rattle.qpack_spec.proofs.Results.{bind_ok, ok_is}
use Rattle.qpack_rules.proofs.Taking.{joined_last}
use Rattle.qpack_rules.proofs.Waiting.{IsCut}
use Rattle.qpack_rules.proofs.WaitingBytes.{lone_index_few}
use Rattle.qpack_encoding.specs.Hearing.{HearingRefusal, strict_hear, hear_in_turn, HearsOne, Refuses}
use Rattle.qpack_encoding.specs.Hearing.{bad_bytes, bad_instruction, StreamView, StandsBehind, Receives, HasRefused}
use Rattle.qpack_encoding.specs.Hearing.{HearsMore}
use Rattle.qpack_shared.specs.Places.{first_place, passed, behind}
use Rattle.qpack_encoding.specs.declared.decoder_stream.DecoderStreamError.{DecoderStreamError}
use Rattle.qpack_shared.specs.declared.place.Place.{Place}
use Rattle.qpack_encoding.specs.declared.decoder_stream.HearingError.{HearingError}

-- ---- what waits is short

-- each byte names a form, which is an integer alone
IsIndex : Option (Form DecoderInstruction) → Type 0
IsIndex None = ⊥
IsIndex (Some (Index n make)) = Unit {0}
IsIndex (Some (IndexAndValue n make)) = ⊥
IsIndex (Some (NameAndValue n make)) = ⊥

names_index : (first : ℕ) → first < 256 → IsIndex (decoder_instruction_form first)
unfolding decoder_instruction_form IsIndex
names_index first byte =
    cond_both (nat_lt first 64) _ _ IsIndex (λ _. tt)
    (λ _. cond_both (nat_lt first 128) _ _ IsIndex (λ _. tt)
    (λ _. cond_both (nat_lt first 256) _ _ IsIndex (λ _. tt)
    (λ f. absurd (omega (arith, ltb-false first 256 f, byte)))))

index_short : (o : Option (Form DecoderInstruction)) (bytes : List ℕ) → IsIndex o → IsCut (in_form o bytes)
    → length bytes < 10
unfolding IsIndex
index_short None bytes is cut = absurd is
index_short (Some (Index n make)) bytes is cut = omega (arith, lone_index_few n make bytes cut)
index_short (Some (IndexAndValue n make)) bytes is cut = absurd is
index_short (Some (NameAndValue n make)) bytes is cut = absurd is

front_short : (bytes : List ℕ) → AreBytes bytes → IsCut (form_at decoder_instruction_form bytes) → length bytes < 10
unfolding form_at
front_short [] are cut = omega arith
front_short (b ∷ bytes) are cut =
    index_short (decoder_instruction_form b) (b ∷ bytes) (names_index b are.0) cut

pub waits_short : (bytes : List ℕ) → AreBytes bytes → Truncates decoder_instruction_form bytes → length bytes < 10
waits_short bytes are truncates =
    front_short bytes are ((reads_form_truncation decoder_instruction_form bytes).1 truncates)

-- ---- where an instruction ends

nothing_stands : Truncates decoder_instruction_form []
nothing_stands [] rest cut = (λ l s. (let b = s.begins in absurd cc), λ fault r. (let b = r.begins in absurd cc))
nothing_stands (x ∷ encoding) rest cut = absurd cc

without_last : (xs ys : List ℕ) (b r : ℕ) (rs : List ℕ) → xs ++ b ∷ [] ≡ ys ++ r ∷ rs → (zs : List ℕ) × (xs ≡ ys ++ zs)
without_last xs [] b r rs e = (xs, refl)
without_last [] (y ∷ ys) b r rs e =
    absurd (omega (arith, ap length e, length-append (y ∷ ys) (r ∷ rs)))
without_last (x ∷ xs) (y ∷ ys) b r rs e =
    let same : x ≡ y = cc in
    let tails : xs ++ b ∷ [] ≡ ys ++ r ∷ rs = cc in
    let more = without_last xs ys b r rs tails in
    let front = more.1 in
    (more.0, cc)

-- no byte of an instruction waited for the one that completes it
ends_there : (pending : List ℕ) (b : ℕ) (i : DecoderInstruction) → Truncates decoder_instruction_form pending
    → (k : Begins (λ encoding. SpellsDecoderInstruction encoding i) (pending ++ b ∷ [])) → k.rest ≡ []
ends_there pending b i truncates k = go k.rest refl
  where
    go : (rest : List ℕ) → k.rest ≡ rest → k.rest ≡ []
    go [] is = is
    go (r ∷ rs) is =
        let parts : pending ++ b ∷ [] ≡ k.encoding ++ r ∷ rs = k.parts ∙ ap (λ (x : List ℕ). k.encoding ++ x) is in
        let front = without_last pending k.encoding b r rs parts in
        absurd ((truncates k.encoding front.0 front.1).0 i k.holds)

-- ---- what is made of one byte more

pub nothing_received : (pending : List ℕ) (place : Place) → pending ≡ [] → place ≡ first_place
    → Receives [] [] (record { pending = pending; place = place })
nothing_received pending place none first =
    record { front = []; rest = []; cut = refl; joined = refl; at = first; ends = (sym none, nothing_stands) }

-- the same instructions, with more bytes behind them
behind_more : (front rest pending before more : List ℕ) → before ≡ front ++ rest → rest ≡ pending
    → before ++ more ≡ front ++ (pending ++ more)
behind_more front rest pending before more cut same =
    ap (λ (x : List ℕ). x ++ more) (cut ∙ ap (λ (x : List ℕ). front ++ x) same) ∙ append_assoc front pending more

stands_on : (heard : List DecoderInstruction) (before more : List ℕ) (s : StreamView) (Ends : List ℕ → Type 0)
    → Receives heard before s → Ends (s.pending ++ more) → StandsBehind heard (before ++ more) s.place Ends
stands_on heard before more s Ends k ends =
    record {
      front = k.front;
      rest = s.pending ++ more;
      cut = behind_more k.front k.rest s.pending before more k.cut k.ends.0;
      joined = k.joined;
      at = k.at;
      ends = ends;
    }

-- no instruction more
pub none_more : (old new : Table) (heard : List DecoderInstruction) (Then : List DecoderInstruction → Type 0)
    → new ≡ old → Then heard → HearsMore old new heard Then
none_more old new heard Then same h =
    record {
      more = [];
      applies = ap (λ (t : Table). Ok t) (sym same);
      behind_them = subst Then (sym (append-nil heard)) h;
    }

pub still_waits : (old new : Table) (heard : List DecoderInstruction) (before grown : List ℕ) (b : ℕ) (s : StreamView)
    → Receives heard before s → grown ≡ s.pending ++ b ∷ [] → Truncates decoder_instruction_form grown → new ≡ old
    → HearsMore old new heard
    (λ all. Receives all (before ++ b ∷ []) (record { pending = grown; place = s.place }))
still_waits old new heard before grown b s k is cut same =
    none_more old new heard _ same
    (stands_on heard before (b ∷ []) s _ k
    (sym is, subst (λ (x : List ℕ). Truncates decoder_instruction_form x) is cut))

pub is_refused : (old new : Table) (heard : List DecoderInstruction) (before grown : List ℕ) (b : ℕ) (s : StreamView)
    (e : HearingError) → Receives heard before s → grown ≡ s.pending ++ b ∷ [] → Refuses old grown e → new ≡ old
    → HearsMore old new heard
    (λ all. HasRefused new all (before ++ b ∷ []) (record { place = s.place; error = e }))
is_refused old new heard before grown b s e k is refuses same =
    none_more old new heard _ same
    (stands_on heard before (b ∷ []) s _ k
    (subst (λ (t : Table). Refuses t (s.pending ++ b ∷ []) e) (sym same)
    (subst (λ (x : List ℕ). Refuses old x e) is refuses)))

abbrev place_at : ℕ → ℕ → Place
place_at number offset = record { number = number; offset = offset }

same_place : (n m o p : ℕ) → n ≡ m → o ≡ p → place_at n o ≡ place_at m p
same_place n m o p number offset = cc

-- the place behind one instruction more
passed_one : (lines : List DecoderInstruction) (front encoding : List ℕ) (i : DecoderInstruction) (p : Place)
    → p ≡ behind lines front → passed p 1 (length encoding) ≡ behind (lines ++ i ∷ []) (front ++ encoding)
passed_one lines front encoding i p is =
    let number = ap (λ (q : Place). q.number) is in
    let offset = ap (λ (q : Place). q.offset) is in
    same_place _ _ _ _ (omega (arith, number, length-append lines (i ∷ [])))
    (omega (arith, offset, length-append front encoding))

pub is_completed : (old new : Table) (heard : List DecoderInstruction) (before grown : List ℕ) (b : ℕ) (s : StreamView)
    (place : Place) → Receives heard before s → grown ≡ s.pending ++ b ∷ [] → HearsOne old new grown
    → place ≡ passed s.place 1 (length grown)
    → HearsMore old new heard (λ all. Receives all (before ++ b ∷ []) (record { pending = []; place = place }))
is_completed old new heard before grown b s place k is one behind_it =
    let whole : HearsOne old new (s.pending ++ b ∷ []) = subst (λ (x : List ℕ). HearsOne old new x) is one in
    let ends = ends_there s.pending b whole.instruction
    (subst (λ (x : List ℕ). Truncates decoder_instruction_form x) k.ends.0 k.ends.1) whole.stands in
    let parts : s.pending ++ b ∷ [] ≡ whole.stands.encoding ++ [] =
    whole.stands.parts ∙ ap (λ (x : List ℕ). whole.stands.encoding ++ x) ends in
    let size : length grown ≡ length whole.stands.encoding =
    ap length (is ∙ parts ∙ append-nil whole.stands.encoding) in
    record {
      more = whole.instruction ∷ [];
      applies = ap (λ (r : Result Table HearingRefusal). r >>= λ u. Ok u) whole.applies;
      behind_them = record {
        front = k.front ++ whole.stands.encoding;
        rest = [];
        cut = behind_more k.front k.rest s.pending before (b ∷ []) k.cut k.ends.0
            ∙ ap (λ (x : List ℕ). k.front ++ x) parts ∙ sym (append_assoc k.front whole.stands.encoding []);
        joined = joined_last decoder_instruction_form heard k.front whole.stands.encoding whole.instruction
            k.joined whole.stands.holds;
        at = behind_it ∙ ap (λ (n : ℕ). passed s.place 1 n) size
            ∙ passed_one heard k.front whole.stands.encoding whole.instruction s.place k.at;
        ends = (refl, nothing_stands);
      };
    }

-- ---- the bytes behind a refusal

begins_more : (P : List ℕ → Type 0) (bytes more : List ℕ) → Begins P bytes → Begins P (bytes ++ more)
begins_more P bytes more k =
    record {
      encoding = k.encoding;
      rest = k.rest ++ more;
      parts = ap (λ (x : List ℕ). x ++ more) k.parts ∙ append_assoc k.encoding k.rest more;
      holds = k.holds;
    }

refuses_more : (t : Table) (rest more : List ℕ) (e : HearingError) → Refuses t rest e → Refuses t (rest ++ more) e
refuses_more t rest more e (bad_bytes begins is) = bad_bytes (begins_more _ rest more begins) is
refuses_more t rest more e (bad_instruction i begins tells) = bad_instruction i (begins_more _ rest more begins) tells

refused_before : (t : Table) (heard : List DecoderInstruction) (bytes more : List ℕ) (e : DecoderStreamError)
    → HasRefused t heard bytes e → HasRefused t heard (bytes ++ more) e
refused_before t heard bytes more e k =
    record {
      front = k.front;
      rest = k.rest ++ more;
      cut = behind_more k.front k.rest k.rest bytes more k.cut refl;
      joined = k.joined;
      at = k.at;
      ends = refuses_more t k.rest more e.error k.ends;
    }

-- ---- the bytes in turn

pub next_byte : (P : List ℕ → Type 0) (before bytes : List ℕ) (i : ℕ) → i < length bytes
    → P (before ++ take i bytes ++ get_or bytes i 0 ∷ []) → P (before ++ take (i + 1) bytes)
next_byte P before bytes i within h =
    rw (add-one, take-suc bytes i 0 within, ← append_assoc before (take i bytes) (get_or bytes i 0 ∷ [])) h

pub refused_within : (t : Table) (heard : List DecoderInstruction) (before bytes : List ℕ) (many : ℕ)
    (e : DecoderStreamError) → HasRefused t heard (before ++ take many bytes) e
    → HasRefused t heard (before ++ bytes) e
refused_within t heard before bytes many e k =
    subst (λ (x : List ℕ). HasRefused t heard (before ++ x) e) (take-append-drop many bytes)
    (subst (λ (x : List ℕ). HasRefused t heard x e) (append_assoc before (take many bytes) (drop many bytes))
    (refused_before t heard (before ++ take many bytes) (drop many bytes) e k))

heard_on : (is more : List DecoderInstruction) (old now new : Table) → hear_in_turn old is ≡ Ok now
    → hear_in_turn now more ≡ Ok new → hear_in_turn old (is ++ more) ≡ Ok new
heard_on [] more old now new first last =
    subst (λ (t : Table). hear_in_turn t more ≡ Ok new) (sym (ok_is old now first)) last
heard_on (i ∷ is) more old now new first last =
    let one = bind_ok (strict_hear old i) (λ u. hear_in_turn u is) now first in
    ap (λ (r : Result Table HearingRefusal). r >>= λ u. hear_in_turn u (is ++ more)) one.1
    ∙ heard_on is more one.0 now new one.2 last

-- what was heard, and then more
pub then_more : (old now new : Table) (heard : List DecoderInstruction) (P Q : List DecoderInstruction → Type 0)
    → (k : HearsMore old now heard P) → (m : HearsMore now new (heard ++ k.more) Q) → HearsMore old new heard Q
then_more old now new heard P Q k m =
    record {
      more = k.more ++ m.more;
      applies = heard_on k.more m.more old now new k.applies m.applies;
      behind_them = subst Q (append_assoc heard k.more m.more) m.behind_them;
    }

-- the same instructions, of which more is known
pub heard_as : (old new : Table) (heard : List DecoderInstruction) (P Q : List DecoderInstruction → Type 0)
    → ((all : List DecoderInstruction) → P all → Q all) → HearsMore old new heard P → HearsMore old new heard Q
heard_as old new heard P Q known k =
    record { more = k.more; applies = k.applies; behind_them = known (heard ++ k.more) k.behind_them }
