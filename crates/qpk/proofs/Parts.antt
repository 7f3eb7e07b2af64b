-- The parts of a script's line, and the number that a part says.
use Rattle.std.proofs.Common.{◌≡◌, ℕ, suc, zero, ◌^◌, ◌<◌, Bool, true, false, cond, eqb, List, [], ◌∷◌, ◌++◌}
use Rattle.std.proofs.Common.{drop, nat_lt, Option, Some, None, Result, Ok, Err, OkIff, refl, sym, ap, ◌∙◌, arith}
use Rattle.std.proofs.Common.{IsAscii, IsUtf8, eqb-true, ltb-true, ltb-false}
use Rattle.std.specs.Borrow.{Bor}
use Rattle.std.specs.Prelude.{MatchResult}
use Rattle.std.specs.Result.{result_ok}
use Rattle.std.specs.Str.{all_ascii_digits}
use Rattle.std.specs.Str.Parse.{IsNumeral, digits_value, without_leading_plus, ParsesUnsigned}
use Rattle.std.proofs.lemmas.Str.{IsUtf8-from_ascii}
use Rattle.std.proofs.lemmas.Str.Parse.{IsNumeralModel, numerals_by_value, tells_all_ascii_digits}
use Rattle.std.proofs.lemmas.Fmt.{IsAscii-from_digits}
use Rattle.qpack_spec.specs.Field.{Field}
use Rattle.qpk_qif.specs.Lines.{with_byte, with_name_byte, field_of_line}
use Rattle.qpk.specs.Scripts.{parts_of, number_of_digits, number_of, event_alone}

-- ---- parts

-- the first part is the whole text where it has no TAB
pub whole_part : (bytes : List ℕ) → field_of_line bytes ≡ None → parts_of bytes ≡ bytes ∷ []
whole_part [] e = refl
whole_part (b ∷ bytes) e = go (eqb b 9) (field_of_line bytes) e (whole_part bytes)
  where
    go : (t : Bool) (o : Option Field) → cond t (Some (record { name = []; value = bytes })) (with_name_byte b o) ≡ None
        → (o ≡ None → parts_of bytes ≡ bytes ∷ [])
        → cond t ([] ∷ parts_of bytes) (with_byte b (parts_of bytes)) ≡ (b ∷ bytes) ∷ []
    go true o e more = absurd cc
    go false None e more = ap (with_byte b) (more refl)
    go false (Some f) e more = absurd cc

-- or it ends at the first TAB
pub first_part : (bytes : List ℕ) (f : Field) → field_of_line bytes ≡ Some f → parts_of bytes
    ≡ f.name ∷ parts_of f.value
first_part [] f e = absurd cc
first_part (b ∷ bytes) f e = go (eqb b 9) (field_of_line bytes) e (first_part bytes)
  where
    go : (t : Bool) (o : Option Field)
        → cond t (Some (record { name = []; value = bytes })) (with_name_byte b o) ≡ Some f
        → ((g : Field) → o ≡ Some g → parts_of bytes ≡ g.name ∷ parts_of g.value)
        → cond t ([] ∷ parts_of bytes) (with_byte b (parts_of bytes)) ≡ f.name ∷ parts_of f.value
    go true o e more = let s : record { name = []; value = bytes } ≡ f = cc in rw (← s) refl
    go false None e more = absurd cc
    go false (Some g) e more =
        let s : record { name = b ∷ g.name; value = g.value } ≡ f = cc in
        rw (← s) (ap (with_byte b) (more g refl))

-- an event that has a number alone has no part behind it
pub part_behind : (name : List ℕ) (n : ℕ) (bytes : List ℕ) → event_alone name n (parts_of bytes) ≡ None
part_behind name n [] = refl
part_behind name n (b ∷ bytes) = go (eqb b 9) (parts_of bytes)
  where
    go : (t : Bool) (parts : List (List ℕ)) → event_alone name n (cond t ([] ∷ parts) (with_byte b parts)) ≡ None
    go true parts = refl
    go false [] = refl
    go false (part ∷ parts) = refl

-- ---- numbers

own : IsNumeralModel (λ ds. all_ascii_digits ds ≡ true) (digits_value 10)
own = numerals_by_value (λ ds. all_ascii_digits ds ≡ true) tells_all_ascii_digits

-- digits that are decimal and say a number of 64 bits say it, and no others do
numeral_read : {E : Type 0} (ds : List ℕ) (r : Result ℕ E)
    → OkIff r (IsNumeral 10 ds × (digits_value 10 ds < 2 ^ 64)) (digits_value 10 ds) → number_of_digits ds ≡ result_ok r
numeral_read [] (Ok n) h = absurd (omega (arith, h.0.0.0))
numeral_read [] (Err e) h = refl
numeral_read {E} (d ∷ ds) r h =
    go (all_ascii_digits (d ∷ ds)) (nat_lt (digits_value 10 (d ∷ ds)) (2 ^ 64)) refl refl r h
  where
    go : (t u : Bool) → all_ascii_digits (d ∷ ds) ≡ t → nat_lt (digits_value 10 (d ∷ ds)) (2 ^ 64) ≡ u
        → (q : Result ℕ E)
        → OkIff q (IsNumeral 10 (d ∷ ds) × (digits_value 10 (d ∷ ds) < 2 ^ 64)) (digits_value 10 (d ∷ ds))
        → cond t (cond u (Some (digits_value 10 (d ∷ ds))) None) None ≡ result_ok q
    go true true a b (Ok n) k = ap (λ (m : ℕ). Some m) (sym k.1)
    go true true a b (Err e) k = absurd (k ((omega arith, own.to (d ∷ ds) a), ltb-true _ _ b))
    go true false a b (Ok n) k = absurd (let l = ltb-false _ _ b in omega (arith, l, k.0.1))
    go true false a b (Err e) k = refl
    go false u a b (Ok n) k = absurd (let l = own.from (d ∷ ds) k.0.0.1 in cc)
    go false u a b (Err e) k = refl

pub number_read : {E : Type 0} (part : List ℕ) (r : Result ℕ E) → ParsesUnsigned 64 10 part r
    → number_of part ≡ result_ok r
number_read part r h = numeral_read (without_leading_plus part) r h

-- a part that was read as text is that text
pub is_text : {E : Type 0} (part : List ℕ) (Q : E → Type 0) (t : Result (Bor (List ℕ)) E) (s : Bor (List ℕ))
    → Some s ≡ result_ok t → MatchResult t (λ s. (s.now ≡ part) × IsUtf8 part) Q → s.now ≡ part
is_text part Q (Ok x) s e m = let k : s ≡ x = cc in ap (λ (b : Bor (List ℕ)). b.now) k ∙ m.0
is_text part Q (Err f) s e m = absurd cc

pub no_text : {E : Type 0} (part : List ℕ) (P : Bor (List ℕ) → Type 0) (Q : E → Type 0) (t : Result (Bor (List ℕ)) E)
    → None ≡ result_ok t → MatchResult t P (λ e. (¬ IsUtf8 part) × Q e) → IsUtf8 part → ⊥
no_text part P Q (Ok x) e m = absurd cc
no_text part P Q (Err f) e m = m.0

plus_ascii : (bs : List ℕ) → IsAscii (without_leading_plus bs) → IsAscii bs
plus_ascii [] h = h
plus_ascii (b ∷ bs) h = go (eqb b 43) refl h
  where
    go : (t : Bool) → eqb b 43 ≡ t → IsAscii (drop (cond t 1 0) (b ∷ bs)) → IsAscii (b ∷ bs)
    go true e k zero = let s = eqb-true _ _ e in omega (arith, s)
    go true e k (suc i) = k i
    go false e k i = k i

not_decimal : (ds : List ℕ) → (all_ascii_digits ds ≡ true → ⊥) → number_of_digits ds ≡ None
not_decimal [] n = refl
not_decimal (d ∷ ds) n = go (all_ascii_digits (d ∷ ds)) refl
  where
    go : (t : Bool) → all_ascii_digits (d ∷ ds) ≡ t
        → cond t (cond (nat_lt (digits_value 10 (d ∷ ds)) (2 ^ 64)) (Some (digits_value 10 (d ∷ ds))) None) None ≡ None
    go true e = absurd (n e)
    go false e = refl

pub no_text_no_number : (part : List ℕ) → (IsUtf8 part → ⊥) → number_of part ≡ None
no_text_no_number part n = not_decimal (without_leading_plus part) (λ a.
    n (IsUtf8-from_ascii part (plus_ascii part (IsAscii-from_digits (without_leading_plus part)
    (own.to (without_leading_plus part) a)))))

-- ---- fields

abbrev pub with_fields : List Field → Option (List Field) → Option (List Field)
with_fields front None = None
with_fields front (Some fs) = Some (front ++ fs)
