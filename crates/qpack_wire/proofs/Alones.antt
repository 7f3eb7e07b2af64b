-- Reading a form alone from left to right is its relation: spellings, refusals, and what is cut off.
use Rattle.std.proofs.Common.{◌≡◌, ℕ, ◌/◌, ◌^◌, false, List, [], ◌∷◌, ◌++◌, Option, None, Some, Result, Ok}
use Rattle.std.proofs.Common.{Err, refl, sym, ap, subst, ◌∙◌, inl, inr}
use Rattle.qpack_spec.specs.Bytes.{Begins, ◌>>=◌}
use Rattle.qpack_spec.specs.Integer.{IntegerFault, Overflow, UnexpectedEnd, StandsFor, OverflowsInteger, integer_at}
use Rattle.qpack_spec.specs.Form.{FormFault, BadInteger, BadString, Form, Index, IndexAndValue, NameAndValue}
use Rattle.qpack_spec.specs.Form.{Spells, Refuses, or_bad_integer, made_at, form_at}
use Rattle.qpack_spec.proofs.Integers.{integer_takes, integer_again, overflow_begins}
use Rattle.qpack_spec.proofs.Forms.{index_refused, made_again, made_refused}
use Rattle.qpack_spec.proofs.FormLaws.{TakesSpelling, form_takes, form_again, form_refused, form_refusal}
use Rattle.qpack_spec.proofs.FormLaws.{refuses_whole}
use Rattle.qpack_wire.specs.Alone.{Kind, ByFlags, ByFirstByte, KindFault, Unreadable, Foreign, form_for}
use Rattle.qpack_wire.specs.Alone.{SpellsKind, RefusesForeign, RefusesKind, is_cut_kind, or_unreadable}
use Rattle.qpack_wire.specs.Alone.{made_or_foreign, kind_at}
use Rattle.qpack_wire.proofs.Readers.{Follows}

-- the form begins with an integer with a prefix of n bits
abbrev pub HasPrefix : {L : Type 0} → ℕ → Form L → Type 0
HasPrefix n (Index m make) = m ≡ n
HasPrefix n (IndexAndValue m make) = m ≡ n
HasPrefix n (NameAndValue m make) = ⊥

-- every form that flags name begins with the integer above which the flags stand
abbrev pub Coherent : {L : Type 0} → Kind L → Type 0
Coherent {L} (ByFlags n named) = (flags : ℕ) (form : Form L) → named flags ≡ Some form → HasPrefix n form
Coherent (ByFirstByte named) = Unit {0}

-- ---- one step of reading

pub flags_above : (n b : ℕ) (bs : List ℕ) (i : ℕ × ℕ × List ℕ) → integer_at n (b ∷ bs) ≡ Ok i → i.0 ≡ b / 2 ^ n
flags_above n b bs i e = let t = integer_takes n (b ∷ bs) i.0 i.1 i.2 e in go t.encoding t.parts t.spells.stands
  where
    go : (encoding : List ℕ) → b ∷ bs ≡ encoding ++ i.2 → StandsFor n encoding i.0 i.1 → i.0 ≡ b / 2 ^ n
    go [] p s = absurd s
    go (c ∷ cs) p s = let same : b ≡ c = cc in s.0 ∙ ap (λ (x : ℕ). x / 2 ^ n) (sym same)

made_integer : {L : Type 0} (n : ℕ) (form : Form L) (bytes : List ℕ) (e : IntegerFault) → HasPrefix n form
    → integer_at n bytes ≡ Err e → made_at form bytes ≡ Err (BadInteger e)
unfolding made_at
made_integer n (Index m make) bytes e h q = rw (h, q) refl
made_integer n (IndexAndValue m make) bytes e h q = rw (h, q) refl
made_integer n (NameAndValue m make) bytes e h q = absurd h

own_read : {L : Type 0} (n : ℕ) (named : ℕ → Option (Form L)) (b : ℕ) (bs : List ℕ) (form : Form L)
    → named (b / 2 ^ n) ≡ Some form → HasPrefix n form
    → (r : Result (ℕ × ℕ × List ℕ) IntegerFault) → integer_at n (b ∷ bs) ≡ r
    → (or_unreadable (or_bad_integer r) >>= λ i. made_or_foreign i.0 (named i.0) (b ∷ bs))
    ≡ or_unreadable (made_at form (b ∷ bs))
own_read n named b bs form h p (Ok i) q = let f = flags_above n b bs i q in rw (f, h) refl
own_read n named b bs form h p (Err e) q = let m = made_integer n form (b ∷ bs) e p q in rw m refl

-- where the first byte names a form, that is read
pub alone_own : {L : Type 0} (a : Kind L) → Coherent a → (b : ℕ) (bs : List ℕ) (form : Form L)
    → form_for a b ≡ Some form → kind_at a (b ∷ bs) ≡ or_unreadable (made_at form (b ∷ bs))
unfolding kind_at
alone_own (ByFlags n named) c b bs form h =
    own_read n named b bs form h (c (b / 2 ^ n) form h) (integer_at n (b ∷ bs)) refl
alone_own (ByFirstByte named) c b bs form h = rw h refl

pub form_own : {L : Type 0} (form_of : ℕ → Option (Form L)) (b : ℕ) (bs : List ℕ) (form : Form L)
    → form_of b ≡ Some form → form_at form_of (b ∷ bs) ≡ made_at form (b ∷ bs)
unfolding form_at
form_own form_of b bs form h = rw h refl

alone_nothing : {L : Type 0} (a : Kind L) → kind_at a [] ≡ Err (Unreadable (BadInteger UnexpectedEnd))
unfolding kind_at integer_at
alone_nothing (ByFlags n named) = refl
alone_nothing (ByFirstByte named) = refl

-- what is told of first bits that name no form
abbrev foreign_of : {L : Type 0} → Result (ℕ × ℕ × List ℕ) IntegerFault → Result (L × List ℕ) KindFault
foreign_of (Ok i) = Err (Foreign i.0)
foreign_of (Err e) = Err (Unreadable (BadInteger e))

foreign_step : {L : Type 0} (n : ℕ) (named : ℕ → Option (Form L)) (b : ℕ) (bs : List ℕ) → named (b / 2 ^ n) ≡ None
    → (r : Result (ℕ × ℕ × List ℕ) IntegerFault) → integer_at n (b ∷ bs) ≡ r
    → (or_unreadable (or_bad_integer r) >>= λ i. made_or_foreign i.0 (named i.0) (b ∷ bs)) ≡ foreign_of r
foreign_step n named b bs h (Ok i) q =
    let f = flags_above n b bs i q in let g : named i.0 ≡ None = ap named f ∙ h in rw g refl
foreign_step n named b bs h (Err e) q = refl

foreign_read : {L : Type 0} (n : ℕ) (named : ℕ → Option (Form L)) (b : ℕ) (bs : List ℕ) → named (b / 2 ^ n) ≡ None
    → kind_at (ByFlags n named) (b ∷ bs) ≡ foreign_of (integer_at n (b ∷ bs))
unfolding kind_at
foreign_read n named b bs h = foreign_step n named b bs h (integer_at n (b ∷ bs)) refl

foreign_byte : {L : Type 0} (named : ℕ → Option (Form L)) (b : ℕ) (bs : List ℕ) → named b ≡ None
    → kind_at (ByFirstByte named) (b ∷ bs) ≡ Err (Foreign b)
unfolding kind_at
foreign_byte named b bs h = rw h refl

-- ---- spellings

pub readable_ok : {A : Type 0} (r : Result A FormFault) (x : A) → or_unreadable r ≡ Ok x → r ≡ Ok x
readable_ok (Ok y) x e = cc
readable_ok (Err f) x e = absurd cc

pub record Unread (A : Type 0) (r : Result A FormFault) (fault : KindFault) : Type 0 where
  pub because : FormFault
  pub told : fault ≡ Unreadable because
  pub is : r ≡ Err because

pub readable_err : {A : Type 0} (r : Result A FormFault) (fault : KindFault) → or_unreadable r ≡ Err fault
    → Unread A r fault
readable_err (Ok y) fault e = absurd cc
readable_err (Err f) fault e = record { because = f; told = cc; is = refl }

foreign_fails : {L : Type 0} (r : Result (ℕ × ℕ × List ℕ) IntegerFault) (x : L × List ℕ) → foreign_of r ≡ Ok x → ⊥
foreign_fails (Ok i) x e = absurd cc
foreign_fails (Err f) x e = absurd cc

no_foreign_value : {L : Type 0} (a : Kind L) (b : ℕ) (bs : List ℕ) (x : L × List ℕ) → form_for a b ≡ None
    → kind_at a (b ∷ bs) ≡ Ok x → ⊥
no_foreign_value (ByFlags n named) b bs x h e =
    foreign_fails (integer_at n (b ∷ bs)) x (sym (foreign_read n named b bs h) ∙ e)
no_foreign_value (ByFirstByte named) b bs x h e = let f = foreign_byte named b bs h in absurd cc

alone_takes : {L : Type 0} (a : Kind L) → Coherent a → (bytes : List ℕ) (l : L) (rest : List ℕ)
    → kind_at a bytes ≡ Ok (l, rest) → TakesSpelling L (form_for a) bytes l rest
alone_takes a c [] l rest e = absurd (let n = alone_nothing a in cc)
alone_takes {L} a c (b ∷ bs) l rest e = go (form_for a b) refl
  where
    go : (o : Option (Form L)) → form_for a b ≡ o → TakesSpelling L (form_for a) (b ∷ bs) l rest
    go None q = absurd (no_foreign_value a b bs (l, rest) q e)
    go (Some form) q =
        let m = readable_ok (made_at form (b ∷ bs)) (l, rest) (sym (alone_own a c b bs form q) ∙ e) in
        form_takes (form_for a) (b ∷ bs) l rest (form_own (form_for a) b bs form q ∙ m)

alone_again : {L : Type 0} (a : Kind L) → Coherent a → (encoding rest : List ℕ) (l : L) → SpellsKind a encoding l
    → kind_at a (encoding ++ rest) ≡ Ok (l, rest)
alone_again a c encoding rest l s =
    let m = made_again s.form encoding rest l s.spells in
    let n = rw s.begins at m in
    let o = alone_own a c s.first (s.more ++ rest) s.form s.names in
    rw s.begins (o ∙ ap or_unreadable n)

-- ---- refusals

alone_refused : {L : Type 0} (a : Kind L) → Coherent a → (encoding rest : List ℕ) (fault : KindFault)
    → RefusesKind a encoding fault → kind_at a (encoding ++ rest) ≡ Err fault
unfolding kind_at
alone_refused a c encoding rest (Unreadable f) (inl r) =
    let m = made_refused r.form encoding rest f r.refuses in
    let n = rw r.begins at m in
    let o = alone_own a c r.first (r.more ++ rest) r.form r.names in
    rw r.begins (o ∙ ap or_unreadable n)
alone_refused (ByFlags n named) c [] rest (Unreadable f) (inr r) = absurd r
alone_refused (ByFlags n named) c (b ∷ bs) rest (Unreadable f) (inr r) = rw (index_refused n (b ∷ bs) rest f r.1) refl
alone_refused (ByFirstByte named) c encoding rest (Unreadable f) (inr r) = absurd r
alone_refused (ByFlags n named) c encoding rest (Foreign bits) r =
    let i = integer_again n encoding rest bits r.1.0 r.1.1 in let h = r.0 in rw (i, h) refl
alone_refused (ByFirstByte named) c encoding rest (Foreign bits) r = let h = r.0 in rw (r.1, h) refl

whole_overflow : {L : Type 0} (n : ℕ) (named : ℕ → Option (Form L)) (b : ℕ) (bs encoding rest : List ℕ)
    → named (b / 2 ^ n) ≡ None → b ∷ bs ≡ encoding ++ rest → OverflowsInteger n encoding
    → RefusesForeign (ByFlags n named) encoding (BadInteger Overflow)
whole_overflow n named b bs [] rest h p o = absurd o
whole_overflow n named b bs (d ∷ ds) rest h p o =
    let same : b ≡ d = cc in (ap (λ (x : ℕ). named (x / 2 ^ n)) (sym same) ∙ h, o)

foreign_refusal : {L : Type 0} (n : ℕ) (named : ℕ → Option (Form L)) (b : ℕ) (bs : List ℕ) (fault : KindFault)
    → named (b / 2 ^ n) ≡ None
    → (r : Result (ℕ × ℕ × List ℕ) IntegerFault) → integer_at n (b ∷ bs) ≡ r
    → (let f : Result (L × List ℕ) KindFault = foreign_of r in f ≡ Err fault) → is_cut_kind fault ≡ false
    → Begins (λ t. RefusesKind (ByFlags n named) t fault) (b ∷ bs)
foreign_refusal n named b bs fault h (Ok i) q e c =
    let same : Foreign i.0 ≡ fault = cc in
    let t = integer_takes n (b ∷ bs) i.0 i.1 i.2 q in
    subst (λ (f : KindFault). Begins (λ x. RefusesKind (ByFlags n named) x f) (b ∷ bs)) same
    (record {
      encoding = t.encoding;
      rest = i.2;
      parts = t.parts;
      holds = (ap named (flags_above n b bs i q) ∙ h, (i.1, t.spells));
    })
foreign_refusal n named b bs fault h (Err Overflow) q e c =
    let same : Unreadable (BadInteger Overflow) ≡ fault = cc in
    let t = overflow_begins n (b ∷ bs) q in
    subst (λ (f : KindFault). Begins (λ x. RefusesKind (ByFlags n named) x f) (b ∷ bs)) same
    (record {
      encoding = t.encoding;
      rest = t.rest;
      parts = t.parts;
      holds = inr (whole_overflow n named b bs t.encoding t.rest h t.parts t.holds);
    })
foreign_refusal n named b bs fault h (Err UnexpectedEnd) q e c =
    let same : Unreadable (BadInteger UnexpectedEnd) ≡ fault = cc in let d = ap is_cut_kind same in absurd cc

other_refusal : {L : Type 0} (a : Kind L) (b : ℕ) (bs : List ℕ) (fault : KindFault) → form_for a b ≡ None
    → kind_at a (b ∷ bs) ≡ Err fault → is_cut_kind fault ≡ false
    → Begins (λ t. RefusesKind a t fault) (b ∷ bs)
other_refusal (ByFlags n named) b bs fault h e c =
    foreign_refusal n named b bs fault h (integer_at n (b ∷ bs)) refl (sym (foreign_read n named b bs h) ∙ e) c
other_refusal {L} (ByFirstByte named) b bs fault h e c =
    let f = foreign_byte named b bs h in
    let same : Foreign b ≡ fault = cc in
    subst (λ (g : KindFault). Begins (λ x. RefusesKind (ByFirstByte named) x g) (b ∷ bs)) same
    (record { encoding = b ∷ []; rest = bs; parts = refl; holds = (h, refl) })

alone_refusal : {L : Type 0} (a : Kind L) → Coherent a → (bytes : List ℕ) (fault : KindFault)
    → kind_at a bytes ≡ Err fault → is_cut_kind fault ≡ false → Begins (λ t. RefusesKind a t fault) bytes
alone_refusal a c [] fault e k =
    absurd (let n = alone_nothing a in let same : Unreadable (BadInteger UnexpectedEnd) ≡ fault = cc in
    let d = ap is_cut_kind same in cc)
alone_refusal {L} a c (b ∷ bs) fault e k = go (form_for a b) refl
  where
    go : (o : Option (Form L)) → form_for a b ≡ o → Begins (λ t. RefusesKind a t fault) (b ∷ bs)
    go None q = other_refusal a b bs fault q e k
    go (Some form) q =
        let u = readable_err (made_at form (b ∷ bs)) fault (sym (alone_own a c b bs form q) ∙ e) in
        let w = form_refusal (form_for a) (b ∷ bs) u.because (form_own (form_for a) b bs form q ∙ u.is)
        (sym (ap is_cut_kind u.told) ∙ k) in
        subst (λ (g : KindFault). Begins (λ x. RefusesKind a x g) (b ∷ bs)) (sym u.told)
        (record { encoding = w.encoding; rest = w.rest; parts = w.parts; holds = inl w.holds })

whole_text : {L : Type 0} (a : Kind L) → Coherent a → (encoding : List ℕ) (fault : KindFault)
    → RefusesKind a encoding fault → is_cut_kind fault ≡ false
whole_text a c encoding (Unreadable f) (inl r) = refuses_whole (form_for a) encoding f r
whole_text (ByFlags n named) c [] (Unreadable f) (inr r) = absurd r
whole_text (ByFlags n named) c (b ∷ bs) (Unreadable (BadInteger Overflow)) (inr r) = refl
whole_text (ByFlags n named) c (b ∷ bs) (Unreadable (BadInteger UnexpectedEnd)) (inr r) = absurd r.1
whole_text (ByFlags n named) c (b ∷ bs) (Unreadable (BadString f)) (inr r) = absurd r.1
whole_text (ByFirstByte named) c encoding (Unreadable f) (inr r) = absurd r
whole_text a c encoding (Foreign bits) r = refl

-- ---- the reading of forms alone is their relation

pub alone_follows : {L : Type 0} (a : Kind L) → Coherent a → Follows L (SpellsKind a) (RefusesKind a) (kind_at a)
alone_follows a c = record {
  takes = λ bytes l rest e. (let t = alone_takes a c bytes l rest e in (t.encoding, t.parts, t.spells));
  again = alone_again a c;
  refusal = alone_refusal a c;
  refused = alone_refused a c;
  whole = whole_text a c;
}

-- ---- and so is the reading of all forms, whatever first bytes name them; no first bits are foreign

pub forms_follow : {L : Type 0} (form_of : ℕ → Option (Form L)) (refuses : List ℕ → KindFault → Type 0)
    → ((encoding : List ℕ) (fault : FormFault)
    → (refuses encoding (Unreadable fault) → Refuses L form_of encoding fault)
    × (Refuses L form_of encoding fault → refuses encoding (Unreadable fault)))
    → ((encoding : List ℕ) (bits : ℕ) → refuses encoding (Foreign bits) → ⊥)
    → Follows L (λ encoding l. Spells L form_of encoding l) refuses (λ bytes. or_unreadable (form_at form_of bytes))
forms_follow {L} form_of refuses same none = record {
  takes = λ bytes l rest e. (let t = form_takes form_of bytes l rest
      (readable_ok (form_at form_of bytes) (l, rest) e) in (t.encoding, t.parts, t.spells));
  again = λ encoding rest l s. ap or_unreadable (form_again form_of encoding rest l s);
  refusal = λ bytes fault e k. (
      let u = readable_err (form_at form_of bytes) fault e in
      let w = form_refusal form_of bytes u.because u.is (sym (ap is_cut_kind u.told) ∙ k) in
      subst (λ (g : KindFault). Begins (λ encoding. refuses encoding g) bytes) (sym u.told)
      (record { encoding = w.encoding; rest = w.rest; parts = w.parts; holds = (same w.encoding u.because).1 w.holds })
      );
  refused = told_again;
  whole = all_whole;
}
  where
    told_again : (encoding rest : List ℕ) (fault : KindFault) → refuses encoding fault
        → (let r : Result (L × List ℕ) KindFault = or_unreadable (form_at form_of (encoding ++ rest)) in r) ≡ Err fault
    told_again encoding rest (Unreadable f) r = ap or_unreadable
        (form_refused form_of encoding rest f ((same encoding f).0 r))
    told_again encoding rest (Foreign bits) r = absurd (none encoding bits r)

    all_whole : (encoding : List ℕ) (fault : KindFault) → refuses encoding fault → is_cut_kind fault ≡ false
    all_whole encoding (Unreadable f) r = refuses_whole form_of encoding f ((same encoding f).0 r)
    all_whole encoding (Foreign bits) r = absurd (none encoding bits r)
