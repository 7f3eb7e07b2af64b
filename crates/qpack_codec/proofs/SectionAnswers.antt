-- What a section is read as, by its prefix.
use Rattle.std.proofs.Common.{◌≡◌, ℕ, ◌+◌, ◌<◌, ◌≤◌, cond, nat_lt, Bool, List, Result, Ok, Err, refl, sym}
use Rattle.std.proofs.Common.{ap, subst, ◌∙◌}
use Rattle.std.proofs.lemmas.Bool.{lt-ltb, le-ltb}
use Rattle.std.proofs.lemmas.List.{length-map}
use Rattle.qpack_spec.specs.Field.{Field}
use Rattle.qpack_spec.specs.Form.{FormFault}
use Rattle.qpack_spec.specs.Prefix.{Prefix, PrefixFault, OutOfRange, BelowZero, read_prefix, prefix_at}
use Rattle.qpack_spec.specs.Reading.{Fault, Reading, Missing, reading_of_fields}
use Rattle.qpack_spec.specs.BlockReading.{bytes_behind, section_behind, fields_in_bytes, reading_of_bytes}
use Rattle.qpack_spec.specs.Table.{Table, Entry, window, insert_count}
use Rattle.qpack_spec.specs.Window.{Window, maximum_capacity, window_insert_count}
use Rattle.qpack_spec.proofs.Results.{ok_is}
use Rattle.qpack_base.specs.declared.parse_error.ParseError.{ParseError}
use Rattle.qpack_wire.specs.Alone.{or_unreadable}
use Rattle.qpack_wire.specs.Prefixes.{read_prefix_at, error_of_prefix, or_prefix_error}
use Rattle.qpack_codec.specs.Errors.{decoder_error_of_parse}
use Rattle.qpack_codec.specs.Sections.{DecodesSection, FailsWith}
use Rattle.qpack_codec.specs.declared.error.DecoderError.{DecoderError}
use Rattle.qpack_codec.specs.declared.error.DecoderError.TheVariants.{Memory}

inserted_is : (t : Table) → window_insert_count (window t) ≡ insert_count t
unfolding window
inserted_is t = ap (λ (n : ℕ). t.dropped + n) (length-map t.live (λ (e : Entry). e.field))

prefix_ok : (read : Result (Prefix × List ℕ) FormFault) (r : Prefix × List ℕ) → or_unreadable read ≡ Ok r
    → read ≡ Ok r
prefix_ok (Ok x) r e = let s = ok_is x r e in ap (λ (y : Prefix × List ℕ). Ok y) s
prefix_ok (Err x) r e = absurd cc

-- what is read behind a prefix that was read
section_is : (t : Table) (bytes rest : List ℕ) (p : Prefix) (total most : ℕ) → read_prefix_at bytes ≡ Ok (p, rest)
    → total ≡ insert_count t → most ≡ maximum_capacity t.agreed_max t.capacity
    → reading_of_bytes (window t) bytes ≡ bytes_behind (window t) rest (read_prefix total most p)
unfolding reading_of_bytes window
section_is t bytes rest p total most at inserted agreed =
    ap (section_behind (window t)) (prefix_ok (prefix_at bytes) (p, rest) at)
    ∙ ap (λ (n : ℕ). bytes_behind (window t) rest (read_prefix n (maximum_capacity t.agreed_max t.capacity) p))
    (inserted_is t ∙ sym inserted)
    ∙ ap (λ (n : ℕ). bytes_behind (window t) rest (read_prefix total n p)) (sym agreed)

told_out : (fault : PrefixFault) (w : Window) (rest : List ℕ)
    → DecodesSection (Err (decoder_error_of_parse (error_of_prefix fault))) (bytes_behind w rest (Err fault))
told_out OutOfRange w rest = refl
told_out (BelowZero base) w rest = refl

-- a prefix out of range
pub section_out : (t : Table) (bytes rest : List ℕ) (p : Prefix) (total most : ℕ) (e : ParseError)
    → read_prefix_at bytes ≡ Ok (p, rest)
    → total ≡ insert_count t → most ≡ maximum_capacity t.agreed_max t.capacity
    → Err e ≡ or_prefix_error (read_prefix total most p)
    → DecodesSection (Err (decoder_error_of_parse e)) (reading_of_bytes (window t) bytes)
section_out t bytes rest p total most e at inserted agreed is =
    subst (λ (r : Reading). DecodesSection (Err (decoder_error_of_parse e)) r)
    (sym (section_is t bytes rest p total most at inserted agreed)) (by_read (read_prefix total most p) is)
  where
    by_read : (q : Result (ℕ × ℕ) PrefixFault) → Err e ≡ or_prefix_error q
        → DecodesSection (Err (decoder_error_of_parse e)) (bytes_behind (window t) rest q)
    by_read (Ok x) is = absurd cc
    by_read (Err fault) is =
        let same : e ≡ error_of_prefix fault = cc in
        subst (λ (x : ParseError). DecodesSection (Err (decoder_error_of_parse x)) (bytes_behind (window t) rest
        (Err fault))) (sym same) (told_out fault (window t) rest)

-- a prefix that is read
section_in : (t : Table) (bytes rest : List ℕ) (p : Prefix) (total most required base : ℕ)
    → read_prefix_at bytes ≡ Ok (p, rest)
    → total ≡ insert_count t → most ≡ maximum_capacity t.agreed_max t.capacity
    → Ok (required, base) ≡ or_prefix_error (read_prefix total most p)
    → reading_of_bytes (window t) bytes ≡ cond (nat_lt total required) (Missing required)
    (reading_of_fields (fields_in_bytes (window t) base rest) (nat_lt 0 required))
section_in t bytes rest p total most required base at inserted agreed is =
    section_is t bytes rest p total most at inserted agreed
    ∙ ap (bytes_behind (window t) rest) (by_read (read_prefix total most p) is)
    ∙ ap (λ (n : ℕ). cond (nat_lt n required) (Missing required)
    (reading_of_fields (fields_in_bytes (window t) base rest) (nat_lt 0 required))) (inserted_is t ∙ sym inserted)
  where
    by_read : (q : Result (ℕ × ℕ) PrefixFault) → Ok (required, base) ≡ or_prefix_error q → q ≡ Ok (required, base)
    by_read (Ok x) is = let s : x ≡ (required, base) = ok_is x (required, base) (sym is) in ap (λ (y : ℕ × ℕ). Ok y) s
    by_read (Err fault) is = absurd cc

pub section_missing : (t : Table) (bytes rest : List ℕ) (p : Prefix) (total most required base : ℕ)
    → read_prefix_at bytes ≡ Ok (p, rest)
    → total ≡ insert_count t → most ≡ maximum_capacity t.agreed_max t.capacity
    → Ok (required, base) ≡ or_prefix_error (read_prefix total most p)
    → total < required → reading_of_bytes (window t) bytes ≡ Missing required
section_missing t bytes rest p total most required base at inserted agreed is more =
    section_in t bytes rest p total most required base at inserted agreed is ∙ rw (lt-ltb _ _ more) refl

pub section_read : (t : Table) (bytes rest : List ℕ) (p : Prefix) (total most required base : ℕ)
    → read_prefix_at bytes ≡ Ok (p, rest)
    → total ≡ insert_count t → most ≡ maximum_capacity t.agreed_max t.capacity
    → Ok (required, base) ≡ or_prefix_error (read_prefix total most p)
    → required ≤ total
    → reading_of_bytes (window t) bytes
    ≡ reading_of_fields (fields_in_bytes (window t) base rest) (nat_lt 0 required)
section_read t bytes rest p total most required base at inserted agreed is enough =
    section_in t bytes rest p total most required base at inserted agreed is ∙ rw (le-ltb _ _ enough) refl

-- a fault of the lines
pub section_fails : (e : DecoderError) (fields : Result (List Field) Fault) (read : Reading) (is_dynamic : Bool)
    → read ≡ reading_of_fields fields is_dynamic → FailsWith e fields → DecodesSection (Err e) read
section_fails Memory fields read is_dynamic is fails = tt
section_fails e (Ok fs) read is_dynamic is fails = absurd fails
section_fails e (Err fault) read is_dynamic is fails = subst (λ (r : Reading). DecodesSection (Err e) r) (sym is) fails
