-- The unacknowledged blocks of each stream.
use Rattle.std.proofs.Common.{ℕ, ◌<◌, ◌≡◌, Bool, true, false, cond, List, [], ◌∷◌, ◌++◌, length, drop, Some, refl, sym}
use Rattle.std.proofs.Common.{ap, ◌∙◌, arith}
use Rattle.std.specs.List.{AllByRecursion}
use Rattle.std.specs.Prelude.{not, nat_eq}
use Rattle.std.proofs.lemmas.Bool.{ne_eqb, eqb-true}
use Rattle.qpack_spec.specs.Table.{UnacknowledgedBlock, without_oldest, without_stream}

-- the unacknowledged blocks of a stream
unfoldable pub open_of : ℕ → List UnacknowledgedBlock → List (List ℕ)
open_of s [] = []
open_of s (b ∷ bs) = cond (nat_eq b.stream s) (b.entries ∷ open_of s bs) (open_of s bs)

pub record Released (s : ℕ) (bs rest : List UnacknowledgedBlock) : Type 1 where
  pub own : open_of s rest ≡ drop 1 (open_of s bs)
  pub others : (q : ℕ) → (s ≡ q → ⊥) → open_of q rest ≡ open_of q bs
  pub every : (P : UnacknowledgedBlock → Type 0) → AllByRecursion P bs → AllByRecursion P rest

pub release_some : (s : ℕ) (bs : List UnacknowledgedBlock) → 0 < length (open_of s bs)
    → (rest : List UnacknowledgedBlock) × (without_oldest s bs ≡ Some rest) × Released s bs rest
unfolding open_of without_oldest
release_some s [] h = absurd (omega arith)
release_some s (b ∷ bs) h = pick (nat_eq b.stream s) refl (release_some s bs)
  where
    pick : (t : Bool) → nat_eq b.stream s ≡ t
        → (0 < length (open_of s bs) → (rest : List UnacknowledgedBlock) × (without_oldest s bs ≡ Some rest)
        × Released s bs rest)
        → (rest : List UnacknowledgedBlock) × (without_oldest s (b ∷ bs) ≡ Some rest) × Released s (b ∷ bs) rest
    pick true t r = (
      bs,
      rw t refl,
      record {
        own = rw t refl;
        others = λ q d. let apart : nat_eq b.stream q ≡ false =
            ne_eqb b.stream q (λ e. d (sym (eqb-true b.stream s t) ∙ e)) in rw apart refl;
        every = λ P k. k.1;
      },
    )
    pick false t r =
        let p : 0 < length (open_of s bs) =
        let x : 0 < length (cond (nat_eq b.stream s) (b.entries ∷ open_of s bs) (open_of s bs)) = h in rw t at x in
        let q = r p in (
          b ∷ q.0,
          rw (t, q.1) refl,
          record {
            own = rw t q.2.own;
            others = λ n d. ap (λ l. cond (nat_eq b.stream n) (b.entries ∷ l) l) (q.2.others n d);
            every = λ P k. (k.0, q.2.every P k.1);
          },
        )

pub record ReleasedAll (s : ℕ) (bs rest : List UnacknowledgedBlock) : Type 1 where
  pub none_left : open_of s rest ≡ []
  pub others_stay : (q : ℕ) → (s ≡ q → ⊥) → open_of q rest ≡ open_of q bs
  pub all_stay : (P : UnacknowledgedBlock → Type 0) → AllByRecursion P bs → AllByRecursion P rest

pub releases_stream : (s : ℕ) (bs : List UnacknowledgedBlock) → ReleasedAll s bs (without_stream s bs)
unfolding open_of without_stream
releases_stream s [] = record { none_left = refl; others_stay = λ q d. refl; all_stay = λ P k. k }
releases_stream s (b ∷ bs) = pick (nat_eq b.stream s) refl (releases_stream s bs)
  where
    pick : (t : Bool) → nat_eq b.stream s ≡ t → ReleasedAll s bs (without_stream s bs)
        → ReleasedAll s (b ∷ bs) (cond (not t) (b ∷ without_stream s bs) (without_stream s bs))
    pick true t r = record {
      none_left = r.none_left;
      others_stay =
          λ q d. (let apart : nat_eq b.stream q ≡ false = ne_eqb b.stream q
          (λ e. d (sym (eqb-true b.stream s t) ∙ e)) in rw apart (r.others_stay q d));
      all_stay = λ P k. r.all_stay P k.1;
    }
    pick false t r = record {
      none_left = rw (t, r.none_left) refl;
      others_stay = λ q d. ap (λ l. cond (nat_eq b.stream q) (b.entries ∷ l) l) (r.others_stay q d);
      all_stay = λ P k. (k.0, r.all_stay P k.1);
    }

-- the unacknowledged blocks of a stream after one more
pub open_push : (s q : ℕ) (referenced : List ℕ) (bs : List UnacknowledgedBlock)
    → open_of q (bs ++ record { stream = s; entries = referenced } ∷ []) ≡ open_of q bs
    ++ cond (nat_eq s q) (referenced ∷ []) []
unfolding open_of
open_push s q referenced [] =
    elim (nat_eq s q) as (λ b. cond b (referenced ∷ []) [] ≡ cond b (referenced ∷ []) []) [ true ↦ refl | false ↦ refl ]
open_push s q referenced (b ∷ bs) =
    rw (open_push s q referenced bs) (elim (nat_eq b.stream q) as
    (λ t. cond t (b.entries ∷ (open_of q bs ++ cond (nat_eq s q) (referenced ∷ []) []))
    (open_of q bs ++ cond (nat_eq s q) (referenced ∷ []) [])
    ≡ cond t (b.entries ∷ open_of q bs) (open_of q bs) ++ cond (nat_eq s q) (referenced ∷ []) [])
    [ true ↦ refl | false ↦ refl ])

pub every_open : (P : List ℕ → Type 0) (s : ℕ) (bs : List UnacknowledgedBlock)
    → AllByRecursion (λ (b : UnacknowledgedBlock). P b.entries) bs → AllByRecursion P (open_of s bs)
unfolding open_of
every_open P s [] h = tt
every_open P s (b ∷ bs) h = let rest = every_open P s bs h.1 in
    elim (nat_eq b.stream s) as (λ t. AllByRecursion P (cond t (b.entries ∷ open_of s bs) (open_of s bs)))
    [ true ↦ (h.0, rest) | false ↦ rest ]
