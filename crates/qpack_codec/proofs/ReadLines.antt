-- Reading lines from the left, behind those that were read.
use Rattle.std.proofs.Common.{◌≡◌, ℕ, zero, suc, ◌+◌, ◌-◌, ◌^◌, ◌<◌, ◌≤◌, min, cond, ltb, Bool, true, false, List, []}
use Rattle.std.proofs.Common.{◌∷◌, ◌++◌, length, drop, Option, Some, None, Result, Ok, Err, refl, sym, ap, subst, ◌∙◌}
use Rattle.std.proofs.Common.{append_assoc, append-nil, length-append, inl, inr, arith}
use Rattle.std.specs.Prelude.{slice_get}
use Rattle.std.proofs.lemmas.Bool.{lt-ltb, le-ltb}
use Rattle.qpack_spec.specs.Bytes.{Begins, ◌>>=◌}
use Rattle.qpack_spec.specs.Field.{Field, field_size}
use Rattle.qpack_spec.specs.Form.{FormFault, form_at}
use Rattle.qpack_spec.specs.Line.{Line, line_form}
use Rattle.qpack_spec.specs.Stateless.{StatelessFault, NamesEntry, TooLong, saturated_size, stateless_field}
use Rattle.qpack_spec.specs.Stateless.{or_bad_bytes}
use Rattle.qpack_spec.specs.Stateless.{within_limit, stateless_at}
use Rattle.qpack_spec.proofs.Results.{bind_ok, chosen, ok_is, ok_pair}
use Rattle.qpack_spec.proofs.FormLaws.{TakesSpelling, form_takes}
use Rattle.qpack_base.specs.declared.field.HeaderField.{HeaderField}
use Rattle.qpack_base.specs.HeaderFields.{field_of}
use Rattle.qpack_wire.specs.Answers.{ReadAs}
use Rattle.qpack_codec.specs.declared.error.DecoderError.{DecoderError}
use Rattle.qpack_codec.specs.declared.error.DecoderError.TheVariants.{MissingRefs, Memory}
use Rattle.qpack_wire.specs.Memory.{HoldsLine}
use Rattle.qpack_codec.specs.Stateless.{fault_of, FailsStateless, fields_in, stateless_field_at}

-- a fault of a part is the whole's
fails_on : {A B : Type 0} (e : DecoderError) (read : Result A StatelessFault) (whole : Result B StatelessFault)
    → FailsStateless e read
    → ((x : StatelessFault) → read ≡ Err x → whole ≡ Err x) → FailsStateless e whole
fails_on Memory read whole h on = tt
fails_on (MissingRefs zero) read whole h on = on NamesEntry h
fails_on e read whole h on = as_on (fault_of e) h
  where
    as_on : (o : Option StatelessFault) → ReadAs read o → ReadAs whole o
    as_on None h = h
    as_on (Some f) h = on f h

abbrev pub with_front : List Field → Result (List Field) StatelessFault → Result (List Field) StatelessFault
with_front front read = read >>= λ fs. Ok (front ++ fs)

-- fields that were read
abbrev pub good : List Field → Result (List Field) StatelessFault
good fs = Ok fs

-- a line whose field was read stands at the front
record TakesLine (b : ℕ) (cs rest : List ℕ) : Type 0 where
  pub line : Line
  pub takes : TakesSpelling Line line_form (b ∷ cs) line rest

field_takes : (b : ℕ) (cs : List ℕ) (f : Field) (rest : List ℕ) → stateless_field_at b cs ≡ Ok (f, rest)
    → TakesLine b cs rest
field_takes b cs f rest e =
    elim (chosen (ltb b 32) (Err NamesEntry) (or_bad_bytes
    (form_at line_form (b ∷ cs)) >>= λ r. stateless_field r.0 >>= λ g. Ok (g, r.1)) (Ok (f, rest)) e) [
      | inl h ↦ absurd (let g = h.1 in cc)
      | inr h ↦
          let r = bind_ok (or_bad_bytes (form_at line_form (b ∷ cs))) (λ r. stateless_field r.0 >>= λ g. Ok (g, r.1))
          (f, rest) h.1 in
          let g = bind_ok (stateless_field r.0.0) (λ g. Ok (g, r.0.1)) (f, rest) r.2 in
          let p = ok_pair g.0 f r.0.1 rest g.2 in
          subst (TakesLine b cs) p.1
          (record {
            line = r.0.0;
            takes = form_takes line_form (b ∷ cs) r.0.0 r.0.1
                (bytes_ok (form_at line_form (b ∷ cs)) r.0 r.1);
          })
    ]
  where
    bytes_ok : (read : Result (Line × List ℕ) FormFault) (r : Line × List ℕ) → or_bad_bytes read ≡ Ok r → read ≡ Ok r
    bytes_ok (Ok x) r e = let s = ok_is x r e in ap (λ (y : Line × List ℕ). Ok y) s
    bytes_ok (Err x) r e = absurd cc

pub line_taken : (b : ℕ) (cs : List ℕ) (f : Field) (rest : List ℕ) → stateless_field_at b cs ≡ Ok (f, rest)
    → Begins HoldsLine (b ∷ cs)
line_taken b cs f rest e =
    let t = field_takes b cs f rest e in
    record { encoding = t.takes.encoding; rest = rest; parts = t.takes.parts; holds = (t.line, t.takes.spells) }

-- a line takes a byte at least
field_shortens : (b : ℕ) (cs : List ℕ) (f : Field) (rest : List ℕ) → stateless_field_at b cs ≡ Ok (f, rest)
    → length rest ≤ length cs
field_shortens b cs f rest e =
    let t = (field_takes b cs f rest e).takes in
    let parts : length (b ∷ cs) ≡ length t.encoding + length rest = ap length t.parts ∙ length-append t.encoding rest in
    omega (arith, parts, ap length t.spells.begins)

-- ---- one turn of the loop: what was read stands in front, at most k lines are left

pub lines_end : (k limit sum : ℕ) (rest : List ℕ) (front : List Field) (whole : Result (List Field) StatelessFault)
    → with_front front (stateless_at k limit sum rest) ≡ whole → rest ≡ [] → whole ≡ Ok front
unfolding stateless_at
lines_end k limit sum rest front whole is none =
    sym is ∙ ap (λ (bytes : List ℕ). with_front front (stateless_at k limit sum bytes)) none
    ∙ ap good (append-nil front)

-- the lines behind a field
abbrev behind : ℕ → ℕ → ℕ → Field × List ℕ → Result (List Field) StatelessFault
behind k limit sum r =
    within_limit limit sum r.0 >>= λ g. stateless_at k limit (sum + field_size g) r.1 >>= λ fs. Ok (g ∷ fs)

-- with lines left, the one at the front decides
turn : (k limit sum b : ℕ) (cs : List ℕ) → 0 < k
    → stateless_at k limit sum (b ∷ cs) ≡ (stateless_field_at b cs >>= behind (k - 1) limit sum)
unfolding stateless_at
turn zero limit sum b cs h = absurd (omega arith)
turn (suc k) limit sum b cs h = let e : suc k - 1 ≡ k = omega arith in rw e (go (ltb b 32) (form_at line_form (b ∷ cs)))
  where
    meant : (r : Result Field StatelessFault) (rest : List ℕ)
        → (r >>= λ f. within_limit limit sum f >>= λ g. stateless_at k limit (sum + field_size g) rest >>= λ fs. Ok
        (g ∷ fs)) ≡ ((r >>= λ f. Ok (f, rest)) >>= behind k limit sum)
    meant (Ok f) rest = refl
    meant (Err e) rest = refl

    go : (t : Bool) (r : Result (Line × List ℕ) FormFault)
        → cond t (Err NamesEntry) (or_bad_bytes r >>= λ r. stateless_field r.0 >>= λ f. within_limit limit sum f >>= λ
        g. stateless_at k limit (sum + field_size g) r.1 >>= λ fs. Ok (g ∷ fs))
        ≡ (cond t (Err NamesEntry) (or_bad_bytes r >>= λ r. stateless_field r.0 >>= λ f. Ok (f, r.1)) >>= behind k limit
        sum)
    go true r = refl
    go false (Ok r) = meant (stateless_field r.0) r.1
    go false (Err e) = refl

too_long : (limit sum : ℕ) (f : Field) → limit < saturated_size (sum + field_size f)
    → within_limit limit sum f ≡ Err (TooLong (saturated_size (sum + field_size f)))
too_long limit sum f h = rw (lt-ltb _ _ h) refl

fits_limit : (limit sum : ℕ) (f : Field) → saturated_size (sum + field_size f) ≤ limit → within_limit limit sum f ≡ Ok f
fits_limit limit sum f h = rw (le-ltb _ _ h) refl

front_more : (front : List Field) (f : Field) (read : Result (List Field) StatelessFault)
    → with_front front (read >>= λ fs. Ok (f ∷ fs)) ≡ with_front (front ++ f ∷ []) read
front_more front f (Ok fs) = ap good (sym (append_assoc front (f ∷ []) fs))
front_more front f (Err e) = refl

-- ---- what is left at the front

-- the first byte of what is left
pub first_is : (bytes : List ℕ) (b : ℕ) → Some b ≡ slice_get bytes 0 → bytes ≡ b ∷ drop 1 bytes
first_is [] b e = absurd cc
first_is (x ∷ bytes) b e = let s : b ≡ x = cc in ap (λ (y : ℕ). y ∷ bytes) (sym s)

-- nothing is left where there is no first byte
pub none_left : (bytes : List ℕ) → None ≡ slice_get bytes 0 → bytes ≡ []
none_left [] e = refl
none_left (x ∷ bytes) e = absurd cc

length_first : (bytes : List ℕ) (b : ℕ) (cs : List ℕ) → bytes ≡ b ∷ cs → length bytes ≡ length cs + 1
length_first bytes b cs e = let l = ap length e in omega (arith, l)

-- what the whole is, by the line at the front
by_line : (k limit sum : ℕ) (rest : List ℕ) (b : ℕ) (front : List Field) (whole : Result (List Field) StatelessFault)
    → length rest ≤ k → with_front front (stateless_at k limit sum rest) ≡ whole → Some b ≡ slice_get rest 0
    → with_front front (stateless_field_at b (drop 1 rest) >>= behind (k - 1) limit sum) ≡ whole
by_line k limit sum rest b front whole fits is at =
    let first = first_is rest b at in
    let len = length_first rest b (drop 1 rest) first in
    ap (with_front front) (sym (turn k limit sum b (drop 1 rest) (omega (arith, len, fits)))
    ∙ ap (stateless_at k limit sum) (sym first)) ∙ is

-- ---- the three ways of a turn

pub turn_bad : (k limit sum : ℕ) (rest : List ℕ) (b : ℕ) (front : List Field)
    (whole : Result (List Field) StatelessFault) (e : DecoderError)
    → length rest ≤ k → with_front front (stateless_at k limit sum rest) ≡ whole → Some b ≡ slice_get rest 0
    → FailsStateless e (stateless_field_at b (drop 1 rest)) → FailsStateless e whole
turn_bad k limit sum rest b front whole e fits is at bad =
    let line = by_line k limit sum rest b front whole fits is at in
    fails_on e (stateless_field_at b (drop 1 rest)) whole bad
    (λ x r. sym line ∙ ap (λ q. with_front front (q >>= behind (k - 1) limit sum)) r)

pub turn_long : (k limit sum : ℕ) (rest : List ℕ) (b : ℕ) (front : List Field)
    (whole : Result (List Field) StatelessFault) (f : Field) (more : List ℕ)
    → length rest ≤ k → with_front front (stateless_at k limit sum rest) ≡ whole → Some b ≡ slice_get rest 0
    → stateless_field_at b (drop 1 rest) ≡ Ok (f, more) → limit < saturated_size (sum + field_size f)
    → whole ≡ Err (TooLong (saturated_size (sum + field_size f)))
turn_long k limit sum rest b front whole f more fits is at read long =
    let line = by_line k limit sum rest b front whole fits is at in
    sym line ∙ ap (λ q. with_front front (q >>= behind (k - 1) limit sum)) read
    ∙ ap (λ q. with_front front (q >>= λ g. stateless_at (k - 1) limit (sum + field_size g) more >>= λ fs. good
    (g ∷ fs))) (too_long limit sum f long)

-- what stands after a turn
pub record Goes (limit sum : ℕ) (rest : List ℕ) (front : List Field) (whole : Result (List Field) StatelessFault)
    (f : Field) (more : List ℕ) : Type 0 where
  pub next : (k : ℕ) × (length more ≤ k) × (with_front (front ++ f ∷ [])
      (stateless_at k limit (sum + field_size f) more) ≡ whole)
  pub shorter : length more < length rest

pub turn_good : (k limit sum : ℕ) (rest : List ℕ) (b : ℕ) (front : List Field)
    (whole : Result (List Field) StatelessFault) (f : Field) (more : List ℕ)
    → length rest ≤ k → with_front front (stateless_at k limit sum rest) ≡ whole → Some b ≡ slice_get rest 0
    → stateless_field_at b (drop 1 rest) ≡ Ok (f, more) → saturated_size (sum + field_size f) ≤ limit
    → Goes limit sum rest front whole f more
turn_good k limit sum rest b front whole f more fits is at read low =
    let line = by_line k limit sum rest b front whole fits is at in
    let len = length_first rest b (drop 1 rest) (first_is rest b at) in
    let short = field_shortens b (drop 1 rest) f more read in
    record {
      next = (
        k - 1,
        omega (arith, len, short, fits),
        sym (front_more front f (stateless_at (k - 1) limit (sum + field_size f) more))
            ∙ sym (ap (λ q. with_front front (q >>= λ g. stateless_at (k - 1) limit
            (sum + field_size g) more >>= λ fs. good (g ∷ fs))) (fits_limit limit sum f low))
            ∙ sym (ap (λ q. with_front front (q >>= behind (k - 1) limit sum)) read)
            ∙ line,
      );
      shorter = omega (arith, len, short);
    }

-- ---- sizes and fields, one by one

-- the sum held so far, with one size more
pub saturated_is : (sum size saturated held now : ℕ) → held ≡ saturated_size sum → saturated ≡ min size (2 ^ 64 - 1)
    → now ≡ min (held + saturated) (2 ^ 64 - 1) → now ≡ saturated_size (sum + size)
saturated_is sum size saturated held now h t n = rw (n, h, t) (omega arith)

pub fields_more : (xs : List HeaderField) (x : HeaderField) → fields_in (xs ++ x ∷ []) ≡ fields_in xs ++ field_of x ∷ []
fields_more [] x = refl
fields_more (y ∷ xs) x = ap (λ (fs : List Field). field_of y ∷ fs) (fields_more xs x)
