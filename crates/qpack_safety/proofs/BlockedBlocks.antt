-- The encoder's table counts the blocked blocks: those kept that require more than it knows to be received.
use Rattle.std.proofs.Common.{ℕ, ◌+◌, ◌-◌, ◌^◌, ◌<◌, ◌≤◌, ◌≡◌, Bool, true, false, cond, List, [], ◌∷◌, ◌++◌}
use Rattle.std.proofs.Common.{length, min, Option, None, Some, Result, Ok, Err, refl, sym, ap, ◌∙◌, subst, arith, inl}
use Rattle.std.proofs.Common.{inr, ◌⊎◌, length-append}
use Rattle.std.specs.List.{filter}
use Rattle.std.specs.Prelude.{nat_lt, nat_eq, ◌||◌}
use Rattle.std.proofs.lemmas.Bool.{eq-eqb, ne_eqb, cases_eq, lt-ltb, le-ltb, ltb-true, ltb-false}
use Rattle.std.proofs.lemmas.List.Elements.{filter-append}
use Rattle.qpack_spec.specs.Table.{UnacknowledgedBlock, Table, has_number, commit, without_oldest, with_increment}
use Rattle.qpack_spec.specs.Table.{apply_decoder_instruction}
use Rattle.qpack_spec.specs.Bytes.{◌>>=◌}
use Rattle.qpack_spec.specs.Instruction.{DecoderInstruction, Acknowledgment, Cancellation, Increment}
use Rattle.qpack_spec.specs.Window.{TableRefusal, UnknownStream, or_refusal}
use Rattle.qpack_spec.proofs.Results.{ok_is}
use Rattle.qpack_rules.specs.Session.{KeptBlock, KeptStream, stream_at, blocked_on, blocked_among}
use Rattle.qpack_rules.specs.Session.{apply_decoder_instructions}

-- ---- the count of the streams

-- a number was counted or not, however the list of those counted is written
among_same : (n : ℕ) (a b : List ℕ) (ps : List (ℕ × KeptStream)) → ((s : ℕ) → has_number s a ≡ has_number s b)
    → blocked_among n a ps ≡ blocked_among n b ps
among_same n a b [] h = refl
among_same n a b (p ∷ ps) h =
    let skipped = among_same n a b ps h in
    let counted = among_same n (p.0 ∷ a) (p.0 ∷ b) ps (λ s. ap (λ t. nat_eq p.0 s || t) (h s)) in
    rw (h p.0) (pick (has_number p.0 b) skipped counted)
  where
    pick : (t : Bool) → blocked_among n a ps ≡ blocked_among n b ps
        → blocked_among n (p.0 ∷ a) ps ≡ blocked_among n (p.0 ∷ b) ps
        → cond t (blocked_among n a ps) (blocked_on n p.1 + blocked_among n (p.0 ∷ a) ps)
        ≡ cond t (blocked_among n b ps) (blocked_on n p.1 + blocked_among n (p.0 ∷ b) ps)
    pick true x y = x
    pick false x y = ap (λ m. blocked_on n p.1 + m) y

swapped : (s a b : ℕ) (seen : List ℕ) → has_number s (a ∷ b ∷ seen) ≡ has_number s (b ∷ a ∷ seen)
swapped s a b seen = pick (nat_eq a s) (nat_eq b s)
  where
    pick : (x y : Bool) → (x || (y || has_number s seen)) ≡ (y || (x || has_number s seen))
    pick true true = refl
    pick true false = refl
    pick false true = refl
    pick false false = refl

-- a stream that isn't counted yet, and the others
pub among_split : (n s : ℕ) (seen : List ℕ) (ps : List (ℕ × KeptStream)) → has_number s seen ≡ false
    → blocked_among n seen ps ≡ blocked_on n (stream_at ps s) + blocked_among n (s ∷ seen) ps
among_split n s seen [] h = refl
among_split n s seen (p ∷ ps) h =
    pick (cases_eq p.0 s) (among_split n s seen ps h)
    (λ other d. among_split n s (other ∷ seen) ps (rw (ne_eqb other s d) h))
  where
    others : (t : Bool) → blocked_among n seen ps ≡ blocked_on n (stream_at ps s) + blocked_among n (s ∷ seen) ps
        → blocked_among n (p.0 ∷ seen) ps ≡ blocked_on n (stream_at ps s) + blocked_among n (s ∷ p.0 ∷ seen) ps
        → cond t (blocked_among n seen ps) (blocked_on n p.1 + blocked_among n (p.0 ∷ seen) ps)
        ≡ blocked_on n (stream_at ps s) + cond t (blocked_among n (s ∷ seen) ps)
        (blocked_on n p.1 + blocked_among n (p.0 ∷ s ∷ seen) ps)
    others true e r = e
    others false e r = omega (arith, r, among_same n (s ∷ p.0 ∷ seen) (p.0 ∷ s ∷ seen) ps (λ q. swapped q s p.0 seen))

    pick : (p.0 ≡ s) ⊎ (p.0 ≡ s → ⊥) → blocked_among n seen ps
        ≡ blocked_on n (stream_at ps s) + blocked_among n (s ∷ seen) ps
        → ((other : ℕ) → (other ≡ s → ⊥) → blocked_among n (other ∷ seen) ps
        ≡ blocked_on n (stream_at ps s) + blocked_among n (s ∷ other ∷ seen) ps)
        → blocked_among n seen (p ∷ ps) ≡ blocked_on n (stream_at (p ∷ ps) s) + blocked_among n (s ∷ seen) (p ∷ ps)
    pick (inl e) r rest =
        let own : nat_eq p.0 s ≡ true = eq-eqb p.0 s e in
        let back : nat_eq s p.0 ≡ true = eq-eqb s p.0 (sym e) in
        let new : has_number p.0 seen ≡ false = ap (λ x. has_number x seen) e ∙ h in
        rw (own, back, new) (ap (λ x. blocked_on n p.1 + blocked_among n (x ∷ seen) ps) e)
    pick (inr d) r rest =
        let apart : nat_eq p.0 s ≡ false = ne_eqb p.0 s d in
        let apart' : nat_eq s p.0 ≡ false = ne_eqb s p.0 (λ e. d (sym e)) in
        rw (apart, apart') (others (has_number p.0 seen) r (rest p.0 d))

-- one stream changed
pub among_changed : (n s : ℕ) (k : KeptStream) (ps : List (ℕ × KeptStream))
    → blocked_among n [] ((s, k) ∷ ps) + blocked_on n (stream_at ps s) ≡ blocked_on n k + blocked_among n [] ps
among_changed n s k ps = omega (arith, among_split n s [] ps refl)

-- fewer blocks require more than a greater count
filter_fewer : (n m : ℕ) (bs : List KeptBlock) → n ≤ m
    → length (filter (λ b. nat_lt m b.required) bs) ≤ length (filter (λ b. nat_lt n b.required) bs)
filter_fewer n m [] le = omega arith
filter_fewer n m (b ∷ bs) le = pick (nat_lt m b.required) refl (filter_fewer n m bs le)
  where
    pick : (t : Bool) → nat_lt m b.required ≡ t
        → length (filter (λ x. nat_lt m x.required) bs) ≤ length (filter (λ x. nat_lt n x.required) bs)
        → length (cond t (b ∷ filter (λ x. nat_lt m x.required) bs) (filter (λ x. nat_lt m x.required) bs))
        ≤ length (filter (λ x. nat_lt n x.required) (b ∷ bs))
    pick true e r = let above : nat_lt n b.required ≡ true = lt-ltb n b.required (omega (arith, ltb-true _ _ e)) in
        rw above (omega (arith, r))
    pick false e r = more (nat_lt n b.required) r
      where
        more : (u : Bool) → length (filter (λ x. nat_lt m x.required) bs)
            ≤ length (filter (λ x. nat_lt n x.required) bs)
            → length (filter (λ x. nat_lt m x.required) bs)
            ≤ length (cond u (b ∷ filter (λ x. nat_lt n x.required) bs) (filter (λ x. nat_lt n x.required) bs))
        more true r = omega (arith, r)
        more false r = r

pub among_fewer : (n m : ℕ) (seen : List ℕ) (ps : List (ℕ × KeptStream)) → n ≤ m
    → blocked_among m seen ps ≤ blocked_among n seen ps
among_fewer n m seen [] le = omega arith
among_fewer n m seen (p ∷ ps) le =
    pick (has_number p.0 seen) (among_fewer n m seen ps le) (among_fewer n m (p.0 ∷ seen) ps le)
  where
    pick : (t : Bool) → blocked_among m seen ps ≤ blocked_among n seen ps
        → blocked_among m (p.0 ∷ seen) ps ≤ blocked_among n (p.0 ∷ seen) ps
        → cond t (blocked_among m seen ps) (blocked_on m p.1 + blocked_among m (p.0 ∷ seen) ps)
        ≤ cond t (blocked_among n seen ps) (blocked_on n p.1 + blocked_among n (p.0 ∷ seen) ps)
    pick true x y = x
    pick false x y = omega (arith, y, filter_fewer n m p.1.blocks le)

-- ---- the table's count

-- the required insert counts that the table holds are those of the blocks kept, at any count from the known one on
pub record CountsBlocked (t : Table) (ps : List (ℕ × KeptStream)) : Type 0 where
  pub small : t.known_received_count ≤ 2 ^ 64 - 1
  pub above : length (filter (λ r. nat_lt t.known_received_count r) t.blocked) ≡ length t.blocked
  pub counts : (n : ℕ) → t.known_received_count ≤ n → length (filter (λ r. nat_lt n r) t.blocked)
      ≡ blocked_among n [] ps

-- the table counts the blocked blocks
pub counts_all : (t : Table) (ps : List (ℕ × KeptStream)) → CountsBlocked t ps
    → length t.blocked ≡ blocked_among t.known_received_count [] ps
counts_all t ps c = sym c.above ∙ c.counts t.known_received_count (omega arith)

-- a table with the same counts
pub counts_table : (t u : Table) (ps : List (ℕ × KeptStream)) → u.known_received_count ≡ t.known_received_count
    → u.blocked ≡ t.blocked
    → CountsBlocked t ps → CountsBlocked u ps
counts_table t u ps k w c =
    record {
      small = omega (arith, c.small, k);
      above = rw (k, w) c.above;
      counts = λ n le. rw w (c.counts n (omega (arith, le, k)));
    }

-- a stream with the same blocks
pub counts_stream : (t : Table) (s : ℕ) (k : KeptStream) (ps : List (ℕ × KeptStream))
    → k.blocks ≡ (stream_at ps s).blocks → CountsBlocked t ps → CountsBlocked t ((s, k) ∷ ps)
counts_stream t s k ps e c =
    record {
      small = c.small;
      above = c.above;
      counts =
          λ n le. c.counts n le ∙ omega (
            arith,
            among_changed n s k ps,
            ap (λ bs. length (filter (λ b. nat_lt n b.required) bs)) e,
          );
    }

-- 1 if a required insert count is above this one
abbrev one_required : ℕ → ℕ → ℕ
one_required n r = length (filter (λ x. nat_lt n x) (r ∷ []))

-- a block more, and the table behind it
pub counts_pushed : (t u : Table) (s : ℕ) (k : KeptStream) (b : KeptBlock) (ps : List (ℕ × KeptStream))
    → u.known_received_count ≡ t.known_received_count → u.blocked ≡ t.blocked
    → k.blocks ≡ (stream_at ps s).blocks ++ b ∷ [] → CountsBlocked t ps
    → CountsBlocked (commit u s b.required) ((s, k) ∷ ps)
unfolding commit
counts_pushed t u s k b ps e w more c = pick (nat_lt u.known_received_count b.required) refl
  where
    block_one : (n : ℕ) → (x : Bool) → length (cond x (b ∷ []) []) ≡ length (cond x (b.required ∷ []) [])
    block_one n true = refl
    block_one n false = refl

    blocks : (n : ℕ) → blocked_on n k ≡ blocked_on n (stream_at ps s) + one_required n b.required
    blocks n =
        ap (λ bs. length (filter (λ x. nat_lt n x.required) bs)) more
        ∙ ap length (filter-append (λ x. nat_lt n x.required) (stream_at ps s).blocks (b ∷ []))
        ∙ length-append (filter (λ x. nat_lt n x.required) (stream_at ps s).blocks)
        (filter (λ x. nat_lt n x.required) (b ∷ []))
        ∙ ap (λ m. blocked_on n (stream_at ps s) + m) (block_one n (nat_lt n b.required))

    pushed : (n : ℕ) → length (filter (λ r. nat_lt n r) (u.blocked ++ b.required ∷ []))
        ≡ length (filter (λ r. nat_lt n r) t.blocked) + one_required n b.required
    pushed n =
        ap length (filter-append (λ r. nat_lt n r) u.blocked (b.required ∷ []))
        ∙ length-append (filter (λ r. nat_lt n r) u.blocked) (filter (λ r. nat_lt n r) (b.required ∷ []))
        ∙ ap (λ ws. length (filter (λ r. nat_lt n r) ws) + one_required n b.required) w

    total : (n : ℕ) → blocked_among n [] ((s, k) ∷ ps) ≡ blocked_among n [] ps + one_required n b.required
    total n = omega (arith, among_changed n s k ps, blocks n)

    one_above : (n : ℕ) → n < b.required → one_required n b.required ≡ 1
    one_above n lt = rw (lt-ltb n b.required lt) refl

    none_above : (n : ℕ) → b.required ≤ n → one_required n b.required ≡ 0
    none_above n le = rw (le-ltb n b.required le) refl

    pick : (x : Bool) → nat_lt u.known_received_count b.required ≡ x
        → CountsBlocked (record (commit u s b.required) { blocked = cond x (u.blocked ++ b.required ∷ []) u.blocked })
        ((s, k) ∷ ps)
    pick true q =
        let lt : u.known_received_count < b.required = ltb-true _ _ q in
        record {
          small = omega (arith, c.small, e);
          above = ap (λ m. length (filter (λ r. nat_lt m r) (u.blocked ++ b.required ∷ []))) e
              ∙ omega (
                arith,
                pushed t.known_received_count,
                c.above,
                one_above t.known_received_count (omega (arith, lt, e)),
                length-append u.blocked (b.required ∷ []),
                ap length w,
              );
          counts = λ n le. omega (arith, pushed n, total n, c.counts n (omega (arith, le, e)));
        }
    pick false q =
        let le' : b.required ≤ u.known_received_count = ltb-false _ _ q in
        record {
          small = omega (arith, c.small, e);
          above = rw (e, w) c.above;
          counts =
              λ n le. ap (λ ws. length (filter (λ r. nat_lt n r) ws)) w
              ∙ omega (arith, c.counts n (omega (arith, le, e)), total n, none_above n (omega (arith, le, le')));
        }

-- what is filtered by a lower count is filtered by none
filter_again : (n m : ℕ) (ws : List ℕ) → n ≤ m
    → filter (λ r. nat_lt m r) (filter (λ r. nat_lt n r) ws) ≡ filter (λ r. nat_lt m r) ws
filter_again n m [] le = refl
filter_again n m (r ∷ ws) le = pick (nat_lt n r) refl (filter_again n m ws le)
  where
    pick : (x : Bool) → nat_lt n r ≡ x → filter (λ a. nat_lt m a) (filter (λ a. nat_lt n a) ws)
        ≡ filter (λ a. nat_lt m a) ws
        → filter (λ a. nat_lt m a) (cond x (r ∷ filter (λ a. nat_lt n a) ws) (filter (λ a. nat_lt n a) ws))
        ≡ filter (λ a. nat_lt m a) (r ∷ ws)
    pick true e h = ap (λ l. cond (nat_lt m r) (r ∷ l) l) h
    pick false e h = let low : nat_lt m r ≡ false = le-ltb m r (omega (arith, ltb-false _ _ e)) in rw low h

-- the encoder's table takes a decoder instruction
counts_raised : (t : Table) (n : ℕ) (ps : List (ℕ × KeptStream)) → CountsBlocked t ps
    → CountsBlocked (with_increment t n) ps
unfolding with_increment
counts_raised t n ps c =
    let known_received_count = min (t.known_received_count + n) (2 ^ 64 - 1) in
    let more : t.known_received_count ≤ known_received_count = omega (arith, c.small) in
    record {
      small = omega arith;
      above = ap length (filter_again known_received_count known_received_count t.blocked (omega arith));
      counts = λ m le. ap length (filter_again known_received_count m t.blocked le)
          ∙ c.counts m (omega (arith, le, more));
    }

pub counts_heard : (t u : Table) (r : DecoderInstruction) (ps : List (ℕ × KeptStream)) → apply_decoder_instruction t r
    ≡ Ok u → CountsBlocked t ps
    → CountsBlocked u ps
unfolding apply_decoder_instruction
counts_heard t u (Acknowledgment s) ps e c = pick (without_oldest s t.unacknowledged) e
  where
    pick : (o : Option (List UnacknowledgedBlock))
        → (or_refusal o (UnknownStream s) >>= λ bs. Ok (record t { unacknowledged = bs }))
        ≡ Ok u → CountsBlocked u ps
    pick None q = absurd cc
    pick (Some bs) q =
        subst (λ x. CountsBlocked x ps) (ok_is _ _ q) (record { small = c.small; above = c.above; counts = c.counts })
counts_heard t u (Cancellation s) ps e c =
    subst (λ x. CountsBlocked x ps) (ok_is _ _ e) (record { small = c.small; above = c.above; counts = c.counts })
counts_heard t u (Increment n) ps e c = subst (λ x. CountsBlocked x ps) (ok_is _ _ e) (counts_raised t n ps c)

pub counts_all_heard : (t u : Table) (rs : List DecoderInstruction) (ps : List (ℕ × KeptStream))
    → apply_decoder_instructions t rs ≡ Ok u
    → CountsBlocked t ps → CountsBlocked u ps
counts_all_heard t u [] ps e c = subst (λ x. CountsBlocked x ps) (ok_is _ _ e) c
counts_all_heard t u (r ∷ rs) ps e c = pick (apply_decoder_instruction t r) refl e (λ x. counts_all_heard x u rs ps)
  where
    pick : (o : Result Table TableRefusal) → apply_decoder_instruction t r ≡ o
        → (o >>= λ x. apply_decoder_instructions x rs) ≡ Ok u
        → ((x : Table) → apply_decoder_instructions x rs ≡ Ok u → CountsBlocked x ps → CountsBlocked u ps)
        → CountsBlocked u ps
    pick (Err f) h q rest = absurd cc
    pick (Ok x) h q rest = rest x q (counts_heard t x r ps h c)
