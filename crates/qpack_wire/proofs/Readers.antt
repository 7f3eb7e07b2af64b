-- What a reader answers in terms of spellings and refusals, where it meets a reading function that follows them.
use Rattle.std.proofs.Common.{◌≡◌, ℕ, Bool, true, false, List, ◌++◌, Option, None, Some, Result, Ok, Err, refl, sym, ap}
use Rattle.std.proofs.Common.{◌∙◌, inl, inr, ◌⊎◌}
use Rattle.qpack_spec.specs.Bytes.{Begins}
use Rattle.qpack_spec.proofs.Results.{ok_pair}
use Rattle.qpack_base.specs.Cursor.{CursorView}
use Rattle.qpack_base.specs.declared.parse_error.ParseError.{ParseError}
use Rattle.qpack_base.specs.declared.parse_error.ParseError.TheVariants.{Memory}
use Rattle.qpack_wire.specs.Alone.{KindFault, is_cut_kind}
use Rattle.qpack_wire.specs.Answers.{fault_of, ReadAs, Tells, FailsEarly, IsTruncated, FindsSpelling, ReadsSpelling}
use Rattle.qpack_wire.specs.Answers.{TellsRefusal, TellsEnd, FailsForm, ReadsForm, Decodes}

-- reading from left to right is the relation of spellings and refusals
pub record Follows (L : Type 0) (spells : List ℕ → L → Type 0) (refuses : List ℕ → KindFault → Type 0)
    (read : List ℕ → Result (L × List ℕ) KindFault) : Type 0 where
  pub takes : (bytes : List ℕ) (l : L) (rest : List ℕ) → read bytes ≡ Ok (l, rest)
      → (encoding : List ℕ) × (bytes ≡ encoding ++ rest) × spells encoding l
  pub again : (encoding rest : List ℕ) (l : L) → spells encoding l → read (encoding ++ rest) ≡ Ok (l, rest)
  pub refusal : (bytes : List ℕ) (fault : KindFault) → read bytes ≡ Err fault → is_cut_kind fault ≡ false
      → Begins (λ encoding. refuses encoding fault) bytes
  pub refused : (encoding rest : List ℕ) (fault : KindFault) → refuses encoding fault → read (encoding ++ rest)
      ≡ Err fault
  pub whole : (encoding : List ℕ) (fault : KindFault) → refuses encoding fault → is_cut_kind fault ≡ false

-- ---- truncation

follows_cut : (L : Type 0) (spells : List ℕ → L → Type 0) (refuses : List ℕ → KindFault → Type 0)
    (read : List ℕ → Result (L × List ℕ) KindFault) → Follows L spells refuses read
    → (bytes : List ℕ) (fault : KindFault) → is_cut_kind fault ≡ true → read bytes ≡ Err fault
    → IsTruncated spells refuses bytes
follows_cut L spells refuses read w bytes fault k e encoding rest p = (
  λ l s. (let g = w.again encoding rest l s in let h = ap read p in absurd cc),
  λ f r. (
      let g = w.refused encoding rest f r in
      let h = ap read p in
      let same : fault ≡ f = cc in
      let v = ap is_cut_kind same in
      let u = w.whole encoding f r in
      absurd cc
      ),
)

cut_follows : (L : Type 0) (spells : List ℕ → L → Type 0) (refuses : List ℕ → KindFault → Type 0)
    (read : List ℕ → Result (L × List ℕ) KindFault) → Follows L spells refuses read
    → (bytes : List ℕ) → IsTruncated spells refuses bytes
    → (fault : KindFault) × (is_cut_kind fault ≡ true) × (read bytes ≡ Err fault)
cut_follows L spells refuses read w bytes t = go (read bytes) refl
  where
    cut : (fault : KindFault) → read bytes ≡ Err fault → (b : Bool) → is_cut_kind fault ≡ b
        → (fault : KindFault) × (is_cut_kind fault ≡ true) × (read bytes ≡ Err fault)
    cut fault e true k = (fault, k, e)
    cut fault e false k = let b = w.refusal bytes fault e k in absurd ((t b.encoding b.rest b.parts).1 fault b.holds)

    go : (r : Result (L × List ℕ) KindFault) → read bytes ≡ r
        → (fault : KindFault) × (is_cut_kind fault ≡ true) × (read bytes ≡ Err fault)
    go (Ok x) e = let k = w.takes bytes x.0 x.1 e in absurd ((t k.0 x.1 k.1).0 x.0 k.2)
    go (Err fault) e = cut fault e (is_cut_kind fault) refl

-- ---- errors

-- a fault that was read is the one that an error tells
read_same : {A : Type 0} (o : Option KindFault) (read : Result A KindFault) (fault : KindFault) → ReadAs read o
    → o ≡ Some fault → read ≡ Err fault
read_same None read fault h t = absurd h
read_same (Some f) read fault h t = cc

same_read : {A : Type 0} (o : Option KindFault) (read : Result A KindFault) (fault : KindFault) → ReadAs read o
    → read ≡ Err fault → o ≡ Some fault
same_read None read fault h t = absurd h
same_read (Some f) read fault h t = let s : f ≡ fault = cc in ap (λ (x : KindFault). Some x) s

not_read : {A : Type 0} (o : Option KindFault) (read : Result A KindFault) (x : A) → ReadAs read o → read ≡ Ok x → ⊥
not_read None read x h t = h
not_read (Some f) read x h t = absurd cc

-- an error that tells a fault was read as that fault
told_read : {A : Type 0} (e : ParseError) (read : Result A KindFault) (fault : KindFault) → FailsForm e read
    → Tells e fault → read ≡ Err fault
told_read Memory read fault h t = absurd cc
told_read e read fault h t = read_same (fault_of e) read fault h t

-- what was read as a fault is told so, or memory was refused
read_told : {A : Type 0} (e : ParseError) (read : Result A KindFault) (fault : KindFault) → FailsForm e read
    → read ≡ Err fault → Tells e fault ⊎ (e ≡ Memory)
read_told Memory read fault h t = inr refl
read_told e read fault h t = inl (same_read (fault_of e) read fault h t)

no_value : {A : Type 0} (e : ParseError) (read : Result A KindFault) (x : A) → FailsForm e read → read ≡ Ok x
    → e ≡ Memory
no_value Memory read x h t = refl
no_value e read x h t = absurd (not_read (fault_of e) read x h t)

-- ---- the clauses

abbrev pub failed : {V : Type 0} → ParseError → Result V ParseError
failed e = Err e

pub found : {V L : Type 0} (view : V → L) (spells : List ℕ → L → Type 0) (refuses : List ℕ → KindFault → Type 0)
    (read : List ℕ → Result (L × List ℕ) KindFault) → Follows L spells refuses read
    → (old new : CursorView) (r : Result V ParseError) → ReadsForm view old new r (read old.rest)
    → FindsSpelling view spells old new r
found view spells refuses read w old new (Ok v) h =
    let t = w.takes old.rest (view v) new.rest h.0 in (t.0, t.2, (t.1, h.1))
found view spells refuses read w old new (Err e) h = tt

pub only : {V L : Type 0} (view : V → L) (spells : List ℕ → L → Type 0) (refuses : List ℕ → KindFault → Type 0)
    (read : List ℕ → Result (L × List ℕ) KindFault) → Follows L spells refuses read
    → (old new : CursorView) (r : Result V ParseError) → ReadsForm view old new r (read old.rest)
    → ReadsSpelling view spells old new r
only view spells refuses read w old new (Ok v) h encoding rest l s parts =
    let e = ap read parts ∙ w.again encoding rest l s in
    let p = ok_pair (view v) l new.rest rest (sym h.0 ∙ e) in
    inl (p.0, (parts ∙ ap (λ (x : List ℕ). encoding ++ x) (sym p.1), h.1))
only {V} view spells refuses read w old new (Err e) h encoding rest l s parts =
    let m = no_value e (read old.rest) (l, rest) h (ap read parts ∙ w.again encoding rest l s) in
    inr (ap (λ (x : ParseError). failed {V = V} x) m)

refused_value : (L : Type 0) (read : Result (L × List ℕ) KindFault) (x : L × List ℕ) (fault : KindFault) → read ≡ Ok x
    → read ≡ Err fault → ⊥
refused_value L read x fault p q = absurd cc

pub refusals : {V L : Type 0} (view : V → L) (spells : List ℕ → L → Type 0) (refuses : List ℕ → KindFault → Type 0)
    (read : List ℕ → Result (L × List ℕ) KindFault) → Follows L spells refuses read
    → (old new : CursorView) (r : Result V ParseError) → ReadsForm view old new r (read old.rest)
    → TellsRefusal refuses old r
refusals {V} {L} view spells refuses read w old new (Ok v) h fault = (
  λ k f. absurd f,
  λ b. absurd (refused_value L (read old.rest) (view v, new.rest) fault h.0
      (ap read b.parts ∙ w.refused b.encoding b.rest fault b.holds)),
)
refusals {V} view spells refuses read w old new (Err e) h fault = (
  λ k f. w.refusal old.rest fault (told_read e (read old.rest) fault h f) k,
  λ b. pick (read_told e (read old.rest) fault h (ap read b.parts ∙ w.refused b.encoding b.rest fault b.holds)),
)
  where
    pick : Tells e fault ⊎ (e ≡ Memory) → Tells e fault ⊎ (failed {V = V} e ≡ Err Memory)
    pick (inl t) = inl t
    pick (inr m) = inr (ap (λ (x : ParseError). failed {V = V} x) m)

pub ends : {V L : Type 0} (view : V → L) (spells : List ℕ → L → Type 0) (refuses : List ℕ → KindFault → Type 0)
    (read : List ℕ → Result (L × List ℕ) KindFault) → Follows L spells refuses read
    → (old new : CursorView) (r : Result V ParseError) → ReadsForm view old new r (read old.rest)
    → TellsEnd spells refuses old r
ends {V} {L} view spells refuses read w old new (Ok v) h = (
  λ f. absurd f.2,
  λ t. absurd (let k = cut_follows L spells refuses read w old.rest t in
      refused_value L (read old.rest) (view v, new.rest) k.0 h.0 k.2),
)
ends {V} {L} view spells refuses read w old new (Err e) h = (
  λ f. follows_cut L spells refuses read w old.rest f.0 f.1 (told_read e (read old.rest) f.0 h f.2),
  λ t. (let k = cut_follows L spells refuses read w old.rest t in pick k.0 k.1 (read_told e (read old.rest) k.0 h k.2)),
)
  where
    pick : (fault : KindFault) → is_cut_kind fault ≡ true → Tells e fault ⊎ (e ≡ Memory)
        → FailsEarly (failed {V = V} e) ⊎ (failed {V = V} e ≡ Err Memory)
    pick fault k (inl x) = inl (fault, k, x)
    pick fault k (inr m) = inr (ap (λ (x : ParseError). failed {V = V} x) m)

-- a reader decodes its form, where it reads it from left to right
pub decodes : {V L : Type 0} {view : V → L} {spells : List ℕ → L → Type 0} {refuses : List ℕ → KindFault → Type 0}
    {read : List ℕ → Result (L × List ℕ) KindFault}
    {old new : CursorView} {r : Result V ParseError} → Follows L spells refuses read
    → ReadsForm view old new r (read old.rest) → Decodes view spells refuses old new r
decodes {V} {L} {view} {spells} {refuses} {read} {old} {new} {r} w h =
    record {
      found = found view spells refuses read w old new r h;
      only = only view spells refuses read w old new r h;
      refused = refusals view spells refuses read w old new r h;
      truncated = ends view spells refuses read w old new r h;
    }
