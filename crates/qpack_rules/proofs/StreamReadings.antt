-- Every byte list has a reading as a stream's lines.
use Rattle.std.proofs.Common.{ℕ, zero, suc, ◌≤◌, ◌≡◌, Bool, true, false, List, [], ◌∷◌, ◌++◌, length, Option, Result}
use Rattle.std.proofs.Common.{Ok, Err, refl, sym, ap, ◌∙◌, arith, inl, inr, ◌⊎◌, length-append}
use Rattle.std.proofs.lemmas.List.{append_assoc}
use Rattle.qpack_spec.specs.Bytes.{Begins}
use Rattle.qpack_spec.specs.Form.{FormFault, is_cut, Form, Spells, Refuses, Truncates, form_at}
use Rattle.qpack_spec.specs.Stream.{Holds}
use Rattle.qpack_spec.specs.StreamLaws.{EveryStreamHasAReading}
use Rattle.qpack_spec.proofs.FormLaws.{form_takes, form_again, form_refusal, reads_form_truncation}
use Rattle.qpack_spec.proofs.Cuttings.{streams_read}

-- a reading, and how its rest begins
record StreamReading (L : Type 0) (form_of : ℕ → Option (Form L)) (bytes : List ℕ) : Type 0 where
  pub lines : List L
  pub rest : List ℕ
  pub holds : Holds L (λ t l. Spells L form_of t l) bytes lines rest
  pub ends : Truncates form_of rest ⊎ ((fault : FormFault) × Begins (λ t. Refuses L form_of t fault) rest)

-- bytes whose next line can't be read hold none
no_line_read : {L : Type 0} (form_of : ℕ → Option (Form L)) (bytes : List ℕ) (e : FormFault)
    → form_at form_of bytes ≡ Err e → StreamReading L form_of bytes
no_line_read {L} form_of bytes e q =
    record {
      lines = [];
      rest = bytes;
      holds = record {
        front = [];
        cut = refl;
        joined = refl;
        cut_off =
            λ encoding more l p s.
            (let again = form_again form_of encoding more l s in let same = ap (form_at form_of) p in
            absurd cc);
      };
      ends = pick (is_cut e) refl;
    }
  where
    pick : (b : Bool) → is_cut e ≡ b → Truncates form_of bytes
        ⊎ ((fault : FormFault) × Begins (λ t. Refuses L form_of t fault) bytes)
    pick true c = inl ((reads_form_truncation form_of bytes).0 (e, c, q))
    pick false c = inr (e, form_refusal form_of bytes e q c)

line_read : {L : Type 0} (form_of : ℕ → Option (Form L)) (bytes encoding more : List ℕ) (l : L) → bytes ≡ encoding
    ++ more
    → Spells L form_of encoding l
    → StreamReading L form_of more → StreamReading L form_of bytes
line_read form_of bytes encoding more l p s k =
    record {
      lines = l ∷ k.lines;
      rest = k.rest;
      holds = record {
        front = encoding ++ k.holds.front;
        cut = p ∙ ap (λ x. encoding ++ x) k.holds.cut ∙ sym (append_assoc encoding k.holds.front k.rest);
        joined = (encoding, k.holds.front, refl, s, k.holds.joined);
        cut_off = k.holds.cut_off;
      };
      ends = k.ends;
    }

bytes_read : {L : Type 0} (form_of : ℕ → Option (Form L)) (steps : ℕ) (bytes : List ℕ) → length bytes ≤ steps
    → StreamReading L form_of bytes
bytes_read {L} form_of zero bytes h = pick (form_at form_of bytes) refl
  where
    pick : (r : Result (L × List ℕ) FormFault) → form_at form_of bytes ≡ r → StreamReading L form_of bytes
    pick (Err e) q = no_line_read form_of bytes e q
    pick (Ok x) q = let k =
        form_takes form_of bytes x.0 x.1 q in absurd
        (omega (arith, h, ap length k.parts, length-append k.encoding x.1, ap length k.spells.begins))
bytes_read {L} form_of (suc steps) bytes h =
    pick (λ b short. bytes_read form_of steps b short) (form_at form_of bytes) refl
  where
    pick : ((b : List ℕ) → length b ≤ steps → StreamReading L form_of b) → (r : Result (L × List ℕ) FormFault)
        → form_at form_of bytes ≡ r → StreamReading L form_of bytes
    pick ih (Err e) q = no_line_read form_of bytes e q
    pick ih (Ok x) q =
        let k = form_takes form_of bytes x.0 x.1 q in
        line_read form_of bytes k.encoding x.1 x.0 k.parts k.spells
        (ih x.1 (omega (arith, h, ap length k.parts, length-append k.encoding x.1, ap length k.spells.begins)))

pub stream_reads : {L : Type 0} (form_of : ℕ → Option (Form L)) → EveryStreamHasAReading form_of
stream_reads form_of bytes =
    let r = bytes_read form_of (length bytes) bytes (omega arith) in
    record {
      lines = r.lines;
      rest = r.rest;
      holds = r.holds;
      ends = r.ends;
      only = λ ms more h. streams_read form_of bytes r.lines ms r.rest more r.holds h;
    }
