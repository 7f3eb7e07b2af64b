-- What the decoder answers is what the bytes mean.
use Rattle.std.proofs.Common.{◌≡◌, ℕ, zero, List, Option, None, Some, Result, Ok, Err, refl, sym, subst, ◌∙◌}
use Rattle.std.specs.Prelude.{◌≢◌, IfOk, IfErr}
use Rattle.qpack_spec.specs.Field.{Field}
use Rattle.qpack_spec.specs.Stateless.{StatelessFault, NamesEntry, stateless_reading}
use Rattle.qpack_spec.specs.StatelessMeaning.{MeansStateless, StopsStateless}
use Rattle.qpack_spec.proofs.Results.{ok_is}
use Rattle.qpack_rules.proofs.StatelessMeanings.{reading_alone}
use Rattle.qpack_wire.specs.Answers.{ReadAs}
use Rattle.qpack_codec.specs.declared.decoder.Decoded.{Decoded}
use Rattle.qpack_codec.specs.declared.error.DecoderError.{DecoderError}
use Rattle.qpack_codec.specs.declared.error.DecoderError.TheVariants.{MissingRefs, Memory}
use Rattle.qpack_codec.specs.Stateless.{fault_of, FailsStateless, DecodesStateless, Tells, GivesFields, GivesFault}
use Rattle.qpack_codec.specs.Stateless.{FindsFields}
use Rattle.qpack_codec.specs.Stateless.{FindsFault, fields_in}
use Rattle.qpack_codec.proofs.ReadLines.{good}

-- no error but want of memory tells of fields
no_fault : (e : DecoderError) (fs : List Field) → FailsStateless e (good fs) → e ≡ Memory
no_fault Memory fs h = refl
no_fault (MissingRefs zero) fs h = absurd cc
no_fault e fs h = absurd (as_none (fault_of e) fs h)
  where
    as_none : (o : Option StatelessFault) (fs : List Field) → ReadAs (good fs) o → ⊥
    as_none None fs h = h
    as_none (Some f) fs h = absurd cc

-- any other error tells a fault
fault_told : (e : DecoderError) (read : Result (List Field) StatelessFault) → FailsStateless e read → (e ≢ Memory)
    → (fault : StatelessFault) × Tells e fault × (read ≡ Err fault)
fault_told Memory read h other = absurd (other refl)
fault_told (MissingRefs zero) read h other = (NamesEntry, refl, h)
fault_told e read h other = tell (fault_of e) h
  where
    tell : (o : Option StatelessFault) → ReadAs read o
        → (fault : StatelessFault) × ReadAs {A = List Field} (Err fault) o × (read ≡ Err fault)
    tell None h = absurd h
    tell (Some f) h = (f, refl, h)

pub decoded_found : (limit : ℕ) (bytes : List ℕ) (r : Result Decoded DecoderError)
    → DecodesStateless r (stateless_reading limit bytes) → IfOk r (FindsFields limit bytes)
decoded_found limit bytes (Ok d) h = ((reading_alone limit bytes (Ok (fields_in d.fields.items))).0 h.0, h.1, h.2)
decoded_found limit bytes (Err e) h = tt

pub decoded_only : (limit : ℕ) (bytes : List ℕ) (r : Result Decoded DecoderError)
    → DecodesStateless r (stateless_reading limit bytes)
    → (fields : List Field) → MeansStateless limit bytes fields → GivesFields r fields
decoded_only limit bytes (Ok d) h fields m =
    ok_is (fields_in d.fields.items) fields (sym h.0 ∙ (reading_alone limit bytes (Ok fields)).1 m)
decoded_only limit bytes (Err e) h fields m =
    no_fault e fields (subst (FailsStateless e) ((reading_alone limit bytes (Ok fields)).1 m) h)

pub decoded_refused : (limit : ℕ) (bytes : List ℕ) (r : Result Decoded DecoderError)
    → DecodesStateless r (stateless_reading limit bytes) → IfErr r (FindsFault limit bytes)
decoded_refused limit bytes (Ok d) h = tt
decoded_refused limit bytes (Err e) h = λ other. let t =
    fault_told e (stateless_reading limit bytes) h other in (t.0, t.1, (reading_alone limit bytes (Err t.0)).0 t.2)

pub decoded_told : (limit : ℕ) (bytes : List ℕ) (r : Result Decoded DecoderError)
    → DecodesStateless r (stateless_reading limit bytes)
    → (fault : StatelessFault) → StopsStateless limit bytes fault → GivesFault r fault
decoded_told limit bytes (Ok d) h fault s = let e = sym h.0 ∙ (reading_alone limit bytes (Err fault)).1 s in cc
decoded_told limit bytes (Err e) h fault s = subst (FailsStateless e) ((reading_alone limit bytes (Err fault)).1 s) h
