-- The laws of forms, for whatever first bytes name them.
use Rattle.std.proofs.Common.{◌≡◌, ℕ, Bool, true, false, List, [], ◌∷◌, ◌++◌, Option, None, Some, Result, Ok, Err, refl}
use Rattle.std.proofs.Common.{sym, ap, subst, ◌∙◌, append_assoc, inl, inr}
use Rattle.std.proofs.lemmas.List.{append_cancel_left}
use Rattle.std.proofs.lemmas.Option.{same_Some}
use Rattle.qpack_spec.specs.Bytes.{Begins}
use Rattle.qpack_spec.specs.Integer.{Overflow, UnexpectedEnd, integer_at}
use Rattle.qpack_spec.specs.Text.{StringFault, EndsEarly, LengthOverflows, BadHuffman, RefusesString, string_at}
use Rattle.qpack_spec.specs.Form.{FormFault, BadInteger, BadString, is_cut, Form, Index, IndexAndValue, NameAndValue}
use Rattle.qpack_spec.specs.Form.{HoldsIndex, HoldsText, InTurn, SpellsForm, RefusesIndex, RefusesText, RefusesForm}
use Rattle.qpack_spec.specs.Form.{Spells, Refuses, Truncates, or_bad_integer, or_bad_string, made_at, in_form, form_at}
use Rattle.qpack_spec.specs.FormLaws.{FormsHaveOneValue, NoFormBeginsAnother, ReadingFindsForms}
use Rattle.qpack_spec.specs.FormLaws.{ReadingFindsFormRefusals, ReadingFindsFormTruncation}
use Rattle.qpack_spec.proofs.Results.{ok_pair}
use Rattle.qpack_spec.proofs.Integers.{none_begins, same_front}
use Rattle.qpack_spec.proofs.Texts.{no_string_begins}
use Rattle.qpack_spec.proofs.Forms.{index_again, index_refused, text_again, text_refused, made_takes, made_again}
use Rattle.qpack_spec.proofs.Forms.{made_refused, made_refusal}

-- the fault of a form in no bytes
abbrev end_of : {L : Type 0} → Form L → FormFault
end_of (Index n make) = BadInteger UnexpectedEnd
end_of (IndexAndValue n make) = BadInteger UnexpectedEnd
end_of (NameAndValue n make) = BadString EndsEarly

nothing_made : {L : Type 0} (form : Form L) → made_at form [] ≡ Err (end_of form)
unfolding made_at integer_at string_at
nothing_made (Index n make) = refl
nothing_made (IndexAndValue n make) = refl
nothing_made (NameAndValue n make) = refl

nothing_cut : {L : Type 0} (form : Form L) → is_cut (end_of form) ≡ true
nothing_cut (Index n make) = refl
nothing_cut (IndexAndValue n make) = refl
nothing_cut (NameAndValue n make) = refl

-- no form is spelled or refused by no bytes
spelled_some : {L : Type 0} (form : Form L) (l : L) → SpellsForm form [] l → ⊥
spelled_some form l s = let a = made_again form [] [] l s in let b = nothing_made form in absurd cc

whole_string : (n : ℕ) (encoding : List ℕ) (f : StringFault) → RefusesString n encoding f → is_cut (BadString f) ≡ true
    → ⊥
whole_string n encoding EndsEarly r c = r
whole_string n encoding LengthOverflows r c = absurd cc
whole_string n encoding (BadHuffman g) r c = absurd cc

no_cut_refusal : {L : Type 0} (form : Form L) (encoding : List ℕ) (e : FormFault) → RefusesForm form encoding e
    → is_cut e ≡ true → ⊥
no_cut_refusal (Index n make) encoding (BadInteger Overflow) r c = absurd cc
no_cut_refusal (Index n make) encoding (BadInteger UnexpectedEnd) r c = r
no_cut_refusal (Index n make) encoding (BadString f) r c = r
no_cut_refusal (IndexAndValue n make) encoding (BadInteger Overflow) r c = absurd cc
no_cut_refusal (IndexAndValue n make) encoding (BadInteger UnexpectedEnd) (inl r) c = r
no_cut_refusal (IndexAndValue n make) encoding (BadInteger UnexpectedEnd) (inr r) c = r.second
no_cut_refusal (IndexAndValue n make) encoding (BadString f) (inl r) c = r
no_cut_refusal (IndexAndValue n make) encoding (BadString f) (inr r) c = whole_string 8 r.tail f r.second c
no_cut_refusal (NameAndValue n make) encoding (BadInteger f) (inl r) c = r
no_cut_refusal (NameAndValue n make) encoding (BadInteger f) (inr r) c = r.second
no_cut_refusal (NameAndValue n make) encoding (BadString f) (inl r) c = whole_string n encoding f r c
no_cut_refusal (NameAndValue n make) encoding (BadString f) (inr r) c = whole_string 8 r.tail f r.second c

refused_some : {L : Type 0} (form : Form L) (e : FormFault) → RefusesForm form [] e → ⊥
refused_some form e r =
    let a = made_refused form [] [] e r in
    let b = nothing_made form in
    let same : end_of form ≡ e = cc in
    no_cut_refusal form [] e r (ap is_cut (sym same) ∙ nothing_cut form)

-- ---- reading

pub record TakesSpelling (L : Type 0) (form_of : ℕ
    → Option (Form L)) (bytes : List ℕ) (l : L) (rest : List ℕ) : Type 0 where
  pub encoding : List ℕ
  pub parts : bytes ≡ encoding ++ rest
  pub spells : Spells L form_of encoding l

pub form_takes : {L : Type 0} (form_of : ℕ → Option (Form L)) (bytes : List ℕ) (l : L) (rest : List ℕ)
    → form_at form_of bytes ≡ Ok (l, rest) → TakesSpelling L form_of bytes l rest
unfolding form_at
form_takes form_of [] l rest e = absurd cc
form_takes {L} form_of (b ∷ bs) l rest e = go (form_of b) refl e
  where
    named : (form : Form L) → form_of b ≡ Some form → (encoding : List ℕ) → b ∷ bs ≡ encoding ++ rest
        → SpellsForm form encoding l
        → TakesSpelling L form_of (b ∷ bs) l rest
    named form q [] p s = absurd (spelled_some form l s)
    named form q (c ∷ cs) p s =
        let same : b ≡ c = cc in
        record {
          encoding = c ∷ cs;
          parts = p;
          spells = record {
            first = c;
            more = cs;
            form = form;
            begins = refl;
            names = ap form_of (sym same) ∙ q;
            spells = s;
          };
        }

    go : (o : Option (Form L)) → form_of b ≡ o → in_form o (b ∷ bs) ≡ Ok (l, rest)
        → TakesSpelling L form_of (b ∷ bs) l rest
    go None q h = absurd cc
    go (Some form) q h = let t = made_takes form (b ∷ bs) l rest h in named form q t.encoding t.parts t.spells

pub form_again : {L : Type 0} (form_of : ℕ → Option (Form L)) (encoding rest : List ℕ) (l : L)
    → Spells L form_of encoding l
    → form_at form_of (encoding ++ rest) ≡ Ok (l, rest)
unfolding form_at
form_again form_of encoding rest l s =
    let m = made_again s.form encoding rest l s.spells in
    let n = rw s.begins at m in
    rw (s.begins, s.names) n

pub form_refused : {L : Type 0} (form_of : ℕ → Option (Form L)) (encoding rest : List ℕ) (e : FormFault)
    → Refuses L form_of encoding e → form_at form_of (encoding ++ rest) ≡ Err e
unfolding form_at
form_refused form_of encoding rest e s =
    let m = made_refused s.form encoding rest e s.refuses in
    let n = rw s.begins at m in
    rw (s.begins, s.names) n

pub form_refusal : {L : Type 0} (form_of : ℕ → Option (Form L)) (bytes : List ℕ) (e : FormFault)
    → form_at form_of bytes ≡ Err e → is_cut e ≡ false → Begins (λ t. Refuses L form_of t e) bytes
unfolding form_at
form_refusal form_of [] e h c = let same : BadInteger UnexpectedEnd ≡ e = cc in let d = ap is_cut same in absurd cc
form_refusal {L} form_of (b ∷ bs) e h c = go (form_of b) refl h
  where
    named : (form : Form L) → form_of b ≡ Some form → (encoding rest : List ℕ) → b ∷ bs ≡ encoding ++ rest
        → RefusesForm form encoding e → Begins (λ t. Refuses L form_of t e) (b ∷ bs)
    named form q [] rest p r = absurd (refused_some form e r)
    named form q (d ∷ ds) rest p r =
        let same : b ≡ d = cc in
        record {
          encoding = d ∷ ds;
          rest = rest;
          parts = p;
          holds = record {
            first = d;
            more = ds;
            form = form;
            begins = refl;
            names = ap form_of (sym same)
                ∙ q;
            refuses = r;
          };
        }

    go : (o : Option (Form L)) → form_of b ≡ o → in_form o (b ∷ bs) ≡ Err e
        → Begins (λ t. Refuses L form_of t e) (b ∷ bs)
    go None q k = let same : BadInteger UnexpectedEnd ≡ e = cc in let d = ap is_cut same in absurd cc
    go (Some form) q k = let m = made_refusal form (b ∷ bs) e k c in named form q m.encoding m.rest m.parts m.holds

-- ---- the laws

pub one_form : {L : Type 0} (form_of : ℕ → Option (Form L)) → FormsHaveOneValue form_of
one_form form_of encoding l m s t =
    let a = form_again form_of encoding [] l s in
    let b = form_again form_of encoding [] m t in
    (ok_pair l m [] [] (sym a ∙ b)).0

pub reads_forms : {L : Type 0} (form_of : ℕ → Option (Form L)) → ReadingFindsForms form_of
reads_forms form_of bytes l rest = (
  λ e. let t = form_takes form_of bytes l rest e in (t.encoding, t.parts, t.spells),
  λ p. ap (form_at form_of) p.1 ∙ form_again form_of p.0 rest l p.2,
)

pub reads_form_refusals : {L : Type 0} (form_of : ℕ → Option (Form L)) → ReadingFindsFormRefusals form_of
reads_form_refusals form_of bytes e c = (
  λ h. form_refusal form_of bytes e h c,
  λ b. ap (form_at form_of) b.parts ∙ form_refused form_of b.encoding b.rest e b.holds,
)

pub refuses_whole : {L : Type 0} (form_of : ℕ → Option (Form L)) (encoding : List ℕ) (e : FormFault)
    → Refuses L form_of encoding e
    → is_cut e ≡ false
refuses_whole form_of encoding e r = go (is_cut e) refl
  where
    go : (b : Bool) → is_cut e ≡ b → b ≡ false
    go true q = absurd (no_cut_refusal r.form encoding e r.refuses q)
    go false q = refl

pub reads_form_truncation : {L : Type 0} (form_of : ℕ → Option (Form L)) → ReadingFindsFormTruncation form_of
reads_form_truncation {L} form_of bytes = (
  λ h encoding rest p. (
    λ l s. (let a = form_again form_of encoding rest l s in let b = ap (form_at form_of) p in let c = h.2 in absurd cc),
    λ e r. (let a = form_refused form_of encoding rest e r in let b = ap (form_at form_of) p in let c = h.2 in
        let d : h.0 ≡ e = cc in let f = refuses_whole form_of encoding e r in let g = h.1 in absurd cc),
  ),
  λ t. back t (form_at form_of bytes) refl,
)
  where
    cut : Truncates form_of bytes → (e : FormFault) → form_at form_of bytes ≡ Err e → (b : Bool) → is_cut e ≡ b
        → (fault : FormFault) × (is_cut fault ≡ true) × (form_at form_of bytes ≡ Err fault)
    cut t e q true c = (e, c, q)
    cut t e q false c = let b = form_refusal form_of bytes e q c in absurd ((t b.encoding b.rest b.parts).1 e b.holds)

    back : Truncates form_of bytes → (r : Result (L × List ℕ) FormFault) → form_at form_of bytes ≡ r
        → (fault : FormFault) × (is_cut fault ≡ true) × (form_at form_of bytes ≡ Err fault)
    back t (Ok x) q = let k = form_takes form_of bytes x.0 x.1 q in absurd ((t k.encoding x.1 k.parts).0 x.0 k.spells)
    back t (Err e) q = cut t e q (is_cut e) refl

-- ---- no spelling or refusal begins another

-- two things in turn, of each of which none begins another
turns_begin : (P Q R S : List ℕ → Type 0)
    → ((a b x y : List ℕ) → P a → R b → a ++ x ≡ b ++ y → a ≡ b)
    → ((a b x y : List ℕ) → Q a → S b → a ++ x ≡ b ++ y → a ≡ b)
    → (a b x y : List ℕ) → InTurn P Q a → InTurn R S b → a ++ x ≡ b ++ y → a ≡ b
turns_begin P Q R S first second a b x y p q e =
    let both : p.head ++ (p.tail ++ x) ≡ q.head ++ (q.tail ++ y) =
    sym (append_assoc p.head p.tail x) ∙ ap (λ z. z ++ x) (sym p.parts) ∙ e ∙ ap (λ z. z ++ y) q.parts
    ∙ append_assoc q.head q.tail y in
    let heads : p.head ≡ q.head = first p.head q.head (p.tail ++ x) (q.tail ++ y) p.first q.first both in
    let tails : p.tail ++ x ≡ q.tail ++ y =
    append_cancel_left q.head (p.tail ++ x) (q.tail ++ y) (ap (λ z. z ++ (p.tail ++ x)) (sym heads) ∙ both) in
    let same : p.tail ≡ q.tail = second p.tail q.tail x y p.second q.second tails in
    p.parts ∙ ap (λ z. z ++ p.tail) heads ∙ ap (λ z. q.head ++ z) same ∙ sym q.parts

index_refusals : (n : ℕ) (a b x y : List ℕ) (e f : FormFault) → RefusesIndex n a e → RefusesIndex n b f
    → a ++ x ≡ b ++ y → a ≡ b
index_refusals n a b x y (BadInteger Overflow) (BadInteger Overflow) p q e = none_begins n a b x y (inr p) (inr q) e
index_refusals n a b x y (BadInteger Overflow) (BadInteger UnexpectedEnd) p q e = absurd q
index_refusals n a b x y (BadInteger Overflow) (BadString g) p q e = absurd q
index_refusals n a b x y (BadInteger UnexpectedEnd) f p q e = absurd p
index_refusals n a b x y (BadString g) f p q e = absurd p

text_refusals : (n : ℕ) (a b x y : List ℕ) (e f : FormFault) → RefusesText n a e → RefusesText n b f → a ++ x ≡ b ++ y
    → a ≡ b
text_refusals n a b x y (BadInteger d) f p q e = absurd p
text_refusals n a b x y (BadString d) (BadInteger g) p q e = absurd q
text_refusals n a b x y (BadString d) (BadString g) p q e = no_string_begins n a b x y (inr (d, p)) (inr (g, q)) e

index_apart : (n : ℕ) (a b x y : List ℕ) (e : FormFault) (i : ℕ) → RefusesIndex n a e → HoldsIndex n i b
    → a ++ x ≡ b ++ y → ⊥
index_apart n a b x y e i p q h =
    let r = index_refused n a x e p in let s = index_again n b y i q in let t =
    ap (λ z. or_bad_integer (integer_at n z)) h in absurd cc

text_apart : (n : ℕ) (a b x y : List ℕ) (e : FormFault) (v : List ℕ) → RefusesText n a e → HoldsText n v b
    → a ++ x ≡ b ++ y → ⊥
text_apart n a b x y e v p q h =
    let r = text_refused n a x e p in let s = text_again n b y v q in let t =
    ap (λ z. or_bad_string (string_at n z)) h in absurd cc

regrouped : (P Q : List ℕ → Type 0) (b y : List ℕ) (t : InTurn P Q b) → b ++ y ≡ t.head ++ (t.tail ++ y)
regrouped P Q b y t = ap (λ z. z ++ y) t.parts ∙ append_assoc t.head t.tail y

form_refusals : {L : Type 0} (form : Form L) (a b x y : List ℕ) (e f : FormFault) → RefusesForm form a e
    → RefusesForm form b f → a ++ x ≡ b ++ y → a ≡ b
form_refusals (Index n make) a b x y e f p q h = index_refusals n a b x y e f p q h
form_refusals (IndexAndValue n make) a b x y e f (inl p) (inl q) h = index_refusals n a b x y e f p q h
form_refusals (IndexAndValue n make) a b x y e f (inl p) (inr q) h =
    absurd (index_apart n a q.head x (q.tail ++ y) e q.first.0 p q.first.1 (h ∙ regrouped _ _ b y q))
form_refusals (IndexAndValue n make) a b x y e f (inr p) (inl q) h =
    absurd (index_apart n b p.head y (p.tail ++ x) f p.first.0 q p.first.1 (sym h ∙ regrouped _ _ a x p))
form_refusals (IndexAndValue n make) a b x y e f (inr p) (inr q) h =
    turns_begin (λ t. (index : ℕ) × HoldsIndex n index t) (λ t. RefusesText 8 t e) (λ t. (index : ℕ)
    × HoldsIndex n index t) (λ t. RefusesText 8 t f)
    (λ c d z w k l g. none_begins n c d z w (inl (k.1.0, k.0, k.1.1)) (inl (l.1.0, l.0, l.1.1)) g)
    (λ c d z w k l g. text_refusals 8 c d z w e f k l g) a b x y p q h
form_refusals (NameAndValue n make) a b x y e f (inl p) (inl q) h = text_refusals n a b x y e f p q h
form_refusals (NameAndValue n make) a b x y e f (inl p) (inr q) h =
    absurd (text_apart n a q.head x (q.tail ++ y) e q.first.0 p q.first.1 (h ∙ regrouped _ _ b y q))
form_refusals (NameAndValue n make) a b x y e f (inr p) (inl q) h =
    absurd (text_apart n b p.head y (p.tail ++ x) f p.first.0 q p.first.1 (sym h ∙ regrouped _ _ a x p))
form_refusals (NameAndValue n make) a b x y e f (inr p) (inr q) h =
    turns_begin (λ t. (name : List ℕ) × HoldsText n name t) (λ t. RefusesText 8 t e) (λ t. (name : List ℕ)
    × HoldsText n name t) (λ t. RefusesText 8 t f)
    (λ c d z w k l g. no_string_begins n c d z w (inl (k.1.0, k.0, k.1.1)) (inl (l.1.0, l.0, l.1.1)) g)
    (λ c d z w k l g. text_refusals 8 c d z w e f k l g) a b x y p q h

refusals_begin : {L : Type 0} (form_of : ℕ → Option (Form L)) (a b x y : List ℕ) (e f : FormFault)
    → Refuses L form_of a e → Refuses L form_of b f → a ++ x ≡ b ++ y → a ≡ b
refusals_begin {L} form_of a b x y e f p q h =
    let bytes : p.first ∷ (p.more ++ x) ≡ q.first ∷ (q.more ++ y) =
    ap (λ z. z ++ x) (sym p.begins) ∙ h ∙ ap (λ z. z ++ y) q.begins in
    let first : p.first ≡ q.first = cc in
    let form : p.form ≡ q.form = same_Some _ _ (sym p.names ∙ ap form_of first ∙ q.names) in
    form_refusals q.form a b x y e f (subst (λ (g : Form L). RefusesForm g a e) form p.refuses) q.refuses h

pub no_form_begins : {L : Type 0} (form_of : ℕ → Option (Form L)) → NoFormBeginsAnother form_of
no_form_begins form_of a b x y (inl p) (inl q) h =
    let s = form_again form_of a x p.0 p.1 in
    let t = form_again form_of b y q.0 q.1 in
    same_front a b x y h (ok_pair p.0 q.0 x y (sym s ∙ ap (form_at form_of) h ∙ t)).1
no_form_begins form_of a b x y (inl p) (inr q) h =
    let s = form_again form_of a x p.0 p.1 in let t = form_refused form_of b y q.0 q.1 in let u =
    ap (form_at form_of) h in absurd cc
no_form_begins form_of a b x y (inr p) (inl q) h =
    let s = form_refused form_of a x p.0 p.1 in let t = form_again form_of b y q.0 q.1 in let u =
    ap (form_at form_of) h in absurd cc
no_form_begins form_of a b x y (inr p) (inr q) h = refusals_begin form_of a b x y p.0 q.0 p.1 q.1 h
