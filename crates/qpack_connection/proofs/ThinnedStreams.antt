-- Hearing a thinned stream is hearing the whole.
use Rattle.std.proofs.Common.{ℕ, ◌+◌, ◌-◌, ◌^◌, ◌<◌, ◌≤◌, ◌≡◌, ◌⊎◌, inl, inr, max, min, Bool, true, false, cond}
use Rattle.std.proofs.Common.{List, [], ◌∷◌, ◌++◌, Option, None, Some, Result, Ok, Err, refl, sym, ap, ◌∙◌, subst, arith}
use Rattle.std.specs.List.{AllByRecursion}
use Rattle.std.specs.Option.{option_map}
use Rattle.std.specs.Prelude.{nat_eq, nat_lt, not, filter, find}
use Rattle.std.proofs.lemmas.Bool.{ltb-false, ltb-true, lt-ltb}
use Rattle.std.proofs.lemmas.List.{append_assoc, append-nil}
use Rattle.std.proofs.lemmas.List.Elements.{filter-append}
use Rattle.qpack_spec.specs.Bytes.{◌>>=◌}
use Rattle.qpack_spec.specs.Instruction.{DecoderInstruction, Acknowledgment, Cancellation, Increment}
use Rattle.qpack_rules.specs.Session.{sum_of, increments}
use Rattle.qpack_rules.specs.StrictInstructions.{HearingRefusal, ZeroIncrement, PastInsertions, required_by}
use Rattle.qpack_rules.specs.StrictInstructions.{oldest_required, known_at_least, strict_hear, hear_in_turn}
use Rattle.qpack_spec.specs.Table.{Table, UnacknowledgedBlock, insert_count, without_oldest, without_stream}
use Rattle.qpack_spec.specs.Table.{with_increment, with_unacknowledged, apply_decoder_instruction}
use Rattle.qpack_spec.proofs.Results.{bind_ok, ok_is}
use Rattle.qpack_connection.specs.Thinned.{Thins}
use Rattle.qpack_connection.proofs.HeardVerdicts.{AtMost, oldest_of, others_low}

-- ---- sections that are not acknowledged

same_count : (m n : ℕ) → Some m ≡ Some n → m ≡ n
same_count m n e = cc

oldest_more : (s : ℕ) (bs later : List UnacknowledgedBlock) (required : ℕ) → oldest_required s bs ≡ Some required
    → oldest_required s (bs ++ later) ≡ Some required
oldest_more s [] later required e = absurd cc
oldest_more s (b ∷ bs) later required e = both (nat_eq b.stream s) (oldest_more s bs later required) e
  where
    both : (t : Bool) → (oldest_required s bs ≡ Some required → oldest_required s (bs ++ later) ≡ Some required)
        → option_map required_by (cond t (Some b) (find (λ c. nat_eq c.stream s) bs)) ≡ Some required
        → option_map required_by (cond t (Some b) (find (λ c. nat_eq c.stream s) (bs ++ later))) ≡ Some required
    both true rest h = h
    both false rest h = rest h

others_more : (s : ℕ) (bs later others : List UnacknowledgedBlock) → without_oldest s bs ≡ Some others
    → without_oldest s (bs ++ later) ≡ Some (others ++ later)
unfolding without_oldest
others_more s [] later others e = absurd cc
others_more s (b ∷ bs) later others e =
    both (nat_eq b.stream s) (without_oldest s bs) refl (others_more s bs later) e
  where
    same : (x y : List UnacknowledgedBlock) → Some x ≡ Some y → x ≡ y
    same x y h = cc

    both : (t : Bool) (o : Option (List UnacknowledgedBlock)) → without_oldest s bs ≡ o
        → ((rest : List UnacknowledgedBlock) → without_oldest s bs ≡ Some rest
        → without_oldest s (bs ++ later) ≡ Some (rest ++ later))
        → cond t (Some bs) (option_map (λ rest. b ∷ rest) o) ≡ Some others
        → cond t (Some (bs ++ later)) (option_map (λ rest. b ∷ rest) (without_oldest s (bs ++ later)))
        ≡ Some (others ++ later)
    both true o q rest h = ap (λ (x : List UnacknowledgedBlock). Some (x ++ later)) (same bs others h)
    both false None q rest h = absurd cc
    both false (Some more) q rest h =
        rw (rest more q) (ap (λ (x : List UnacknowledgedBlock). Some (x ++ later)) (same (b ∷ more) others h))

-- ---- an increment is heard

-- what an increment makes of the parts that count here
record Raised (t u : Table) (by : ℕ) : Type 0 where
  pub table : u ≡ with_increment t by
  pub within : t.known_received_count + by ≤ insert_count t

raised : (t u : Table) (by : ℕ) → strict_hear t (Increment by) ≡ Ok u → Raised t u by
unfolding strict_hear
raised t u by e = pick (nat_eq by 0) refl (nat_lt (insert_count t) (t.known_received_count + by)) refl
  where
    pick : (z : Bool) → nat_eq by 0 ≡ z → (p : Bool) → nat_lt (insert_count t) (t.known_received_count + by) ≡ p
        → Raised t u by
    pick true q p r =
        let x : strict_hear t (Increment by) ≡ Err ZeroIncrement = rw q refl in
        absurd (let y = sym x ∙ e in cc)
    pick false q true r =
        let x : strict_hear t (Increment by) ≡ Err (PastInsertions by) = rw (q, r) refl in
        absurd (let y = sym x ∙ e in cc)
    pick false q false r =
        let x : strict_hear t (Increment by) ≡ Ok (with_increment t by) = rw (q, r) refl in
        record {
          table = sym (ok_is (with_increment t by) u (sym x ∙ e));
          within = ltb-false (insert_count t) (t.known_received_count + by) r;
        }

-- the count that is known then
known_after : (t : Table) (by : ℕ) → t.known_received_count + by < 2 ^ 64
    → (with_increment t by).known_received_count ≡ t.known_received_count + by
unfolding with_increment
known_after t by few = omega (arith, few)

-- it is no greater
known_at_most : (t : Table) (by : ℕ) → (with_increment t by).known_received_count ≤ t.known_received_count + by
unfolding with_increment
known_at_most t by = omega arith

sections_stay : (t : Table) (by : ℕ) → (with_increment t by).unacknowledged ≡ t.unacknowledged
unfolding with_increment
sections_stay t by = refl

-- ---- increments, and the acknowledgment right behind them

-- of two counts the greater one decides what is still blocked
above_both : (a b : ℕ) (xs : List ℕ) → b ≤ a
    → filter (λ r. nat_lt a r) (filter (λ r. nat_lt b r) xs) ≡ filter (λ r. nat_lt a r) xs
above_both a b [] low = refl
above_both a b (x ∷ xs) low = pick (nat_lt b x) refl (nat_lt a x) refl (above_both a b xs low)
  where
    pick : (p : Bool) → nat_lt b x ≡ p → (q : Bool) → nat_lt a x ≡ q
        → filter (λ r. nat_lt a r) (filter (λ r. nat_lt b r) xs) ≡ filter (λ r. nat_lt a r) xs
        → filter (λ r. nat_lt a r) (cond p (x ∷ filter (λ r. nat_lt b r) xs) (filter (λ r. nat_lt b r) xs))
        ≡ cond q (x ∷ filter (λ r. nat_lt a r) xs) (filter (λ r. nat_lt a r) xs)
    pick true e true f rest = rw f (ap (λ (ys : List ℕ). x ∷ ys) rest)
    pick true e false f rest = rw f rest
    pick false e true f rest = absurd (omega (arith, low, ltb-false b x e, ltb-true a x f))
    pick false e false f rest = rest

-- an acknowledgment that reports no fewer insertions than an increment leaves the table that it leaves alone
told_alone : (t : Table) (others : List UnacknowledgedBlock) (by required : ℕ)
    → t.known_received_count + by ≤ required
    → known_at_least required (record (with_increment t by) { unacknowledged = others })
    ≡ known_at_least required (record t { unacknowledged = others })
unfolding with_increment
told_alone t others by required low =
    let first = min (t.known_received_count + by) (2 ^ 64 - 1) in
    let count : min (first + (required - first)) (2 ^ 64 - 1)
    ≡ min (t.known_received_count + (required - t.known_received_count)) (2 ^ 64 - 1) = omega (arith, low) in
    let blocked : filter (λ r. nat_lt (min (first + (required - first)) (2 ^ 64 - 1)) r)
    (filter (λ r. nat_lt first r) t.blocked)
    ≡ filter (λ r. nat_lt (min (t.known_received_count + (required - t.known_received_count)) (2 ^ 64 - 1)) r)
    t.blocked =
    above_both (min (first + (required - first)) (2 ^ 64 - 1)) first t.blocked (omega (arith, low))
    ∙ ap (λ (n : ℕ). filter (λ r. nat_lt n r) t.blocked) count in
    λ i. record t { unacknowledged = others; known_received_count = count i; blocked = blocked i }

-- what an acknowledgment makes of a table
hears_acknowledgment : (t : Table) (s required : ℕ) (others : List UnacknowledgedBlock)
    → oldest_required s t.unacknowledged ≡ Some required → without_oldest s t.unacknowledged ≡ Some others
    → strict_hear t (Acknowledgment s) ≡ Ok (known_at_least required (record t { unacknowledged = others }))
unfolding strict_hear apply_decoder_instruction
hears_acknowledgment t s required others oldest are = rw (are, oldest) refl

-- the table behind an acknowledgment, and what is heard behind it
record HeardAlone (t last : Table) (s required : ℕ) (others : List UnacknowledgedBlock)
    (front rest : List DecoderInstruction) : Type 0 where
  pub all : hear_in_turn t front ≡ Ok (known_at_least required (record t { unacknowledged = others }))
  pub left : hear_in_turn (known_at_least required (record t { unacknowledged = others })) rest ≡ Ok last

heard_alone : (ps : List ℕ) (t last : Table) (s required : ℕ) (others : List UnacknowledgedBlock)
    (rest : List DecoderInstruction) → oldest_required s t.unacknowledged ≡ Some required
    → without_oldest s t.unacknowledged ≡ Some others
    → (ps ≡ []) ⊎ (t.known_received_count + sum_of ps ≤ required)
    → hear_in_turn t (increments ps ++ Acknowledgment s ∷ rest) ≡ Ok last
    → HeardAlone t last s required others (increments ps ++ Acknowledgment s ∷ []) rest
heard_alone [] t last s required others rest oldest are told e =
    let x = hears_acknowledgment t s required others oldest are in
    record {
      all = ap (λ (r : Result Table HearingRefusal). r >>= λ u. hear_in_turn u []) x;
      left = sym (ap (λ (r : Result Table HearingRefusal). r >>= λ u. hear_in_turn u rest) x) ∙ e;
    }
heard_alone (p ∷ ps) t last s required others rest oldest are (inl none) e = absurd cc
heard_alone (p ∷ ps) t last s required others rest oldest are (inr told) e =
    let front = increments ps ++ Acknowledgment s ∷ rest in
    let one = bind_ok (strict_hear t (Increment p)) (λ u. hear_in_turn u front) last e in
    let r = raised t one.0 p one.1 in
    let u = with_increment t p in
    let same = sections_stay t p in
    let behind = heard_alone ps u last s required others rest (rw same oldest) (rw same are)
    (inr (omega (arith, told, known_at_most t p)))
    (subst (λ (x : Table). hear_in_turn x front ≡ Ok last) r.table one.2) in
    let is = told_alone t others p required (omega (arith, told)) in
    record {
      all = ap (λ (x : Result Table HearingRefusal). x >>= λ v. hear_in_turn v (increments ps ++ Acknowledgment s ∷ []))
          (one.1 ∙ ap (λ (x : Table). let y : Result Table HearingRefusal = Ok x in y) r.table)
          ∙ behind.all ∙ ap (λ (x : Table). let y : Result Table HearingRefusal = Ok x in y) is;
      left = subst (λ (x : Table). hear_in_turn x rest ≡ Ok last) is behind.left;
    }

-- instructions behind others
heard_both : (t u v : Table) (xs ys : List DecoderInstruction) → hear_in_turn t xs ≡ Ok u → hear_in_turn u ys ≡ Ok v
    → hear_in_turn t (xs ++ ys) ≡ Ok v
heard_both t u v [] ys h k = subst (λ (x : Table). hear_in_turn x ys ≡ Ok v) (sym (ok_is t u h)) k
heard_both t u v (x ∷ xs) ys h k =
    let one = bind_ok (strict_hear t x) (λ w. hear_in_turn w xs) u h in
    ap (λ (r : Result Table HearingRefusal). r >>= λ w. hear_in_turn w (xs ++ ys)) one.1
    ∙ heard_both one.0 u v xs ys one.2 k

-- ---- the next instruction of a thinned stream

-- the counts of a table are numbers of 64 bits, and no section requires an insertion that was not made
pub record IsWithin (t : Table) : Type 0 where
  pub few : insert_count t < 2 ^ 64
  pub known : t.known_received_count ≤ insert_count t
  pub low : AllByRecursion (AtMost (insert_count t)) t.unacknowledged

raised_within : (t : Table) (by : ℕ) → (with_increment t by).known_received_count ≡ t.known_received_count + by
    → t.known_received_count + by ≤ insert_count t → IsWithin t → IsWithin (with_increment t by)
unfolding with_increment
raised_within t by now made within =
    record { few = within.few; known = omega (arith, now, made); low = within.low }

-- it leaves the table that a front of the whole leaves, the rest is thinned still, and with another rest the two are so too
record NextThinned (t last : Table) (i : DecoderInstruction) (more whole : List DecoderInstruction) : Type 0 where
  pub table : Table
  pub front : List DecoderInstruction
  pub rest : List DecoderInstruction
  pub whole_is : whole ≡ front ++ rest
  pub one : strict_hear t i ≡ Ok table
  pub all : hear_in_turn t front ≡ Ok table
  pub left : hear_in_turn table rest ≡ Ok last
  pub within : IsWithin table
  pub thins : Thins table.known_received_count table.unacknowledged more rest
  pub again : (ws xs : List DecoderInstruction) → Thins table.known_received_count table.unacknowledged ws xs
      → Thins t.known_received_count t.unacknowledged (i ∷ ws) (front ++ xs)

next_thinned : (t last : Table) (i : DecoderInstruction) (more whole : List DecoderInstruction) → IsWithin t
    → Thins t.known_received_count t.unacknowledged (i ∷ more) whole → hear_in_turn t whole ≡ Ok last
    → NextThinned t last i more whole
unfolding strict_hear apply_decoder_instruction with_increment
next_thinned t last (Acknowledgment s) more whole within (a, behind) e =
    let front = increments a.pieces ++ Acknowledgment s ∷ [] in
    let held : Table = record t { unacknowledged = a.others } in
    let u = known_at_least a.required held in
    let cut : whole ≡ front ++ a.rest =
    a.whole_is ∙ sym (append_assoc (increments a.pieces) (Acknowledgment s ∷ []) a.rest) in
    let h = heard_alone a.pieces t last s a.required a.others a.rest a.oldest a.others_are a.told
    (subst (λ (is : List DecoderInstruction). hear_in_turn t is ≡ Ok last) a.whole_is e) in
    let k = oldest_of (insert_count t) s t.unacknowledged a.others within.low a.others_are in
    let same = same_count k.required a.required (sym k.oldest ∙ a.oldest) in
    let now = known_after held (a.required - t.known_received_count)
    (omega (arith, within.few, within.known, k.low, same)) in
    let count : max t.known_received_count a.required ≡ u.known_received_count = omega (arith, now) in
    let sections : a.others ≡ u.unacknowledged = sym (sections_stay held (a.required - t.known_received_count)) in
    record {
      table = u;
      front = front;
      rest = a.rest;
      whole_is = cut;
      one = hears_acknowledgment t s a.required a.others a.oldest a.others_are;
      all = h.all;
      left = h.left;
      within = record {
        few = within.few;
        known = omega (arith, count, within.known, k.low, same);
        low = k.rest;
      };
      thins = subst (λ (n : ℕ). Thins n u.unacknowledged more a.rest) count
          (subst (λ (bs : List UnacknowledgedBlock). Thins (max t.known_received_count a.required) bs more a.rest) sections
          behind);
      again = λ ws xs thins. (
        record {
          required = a.required;
          others = a.others;
          oldest = a.oldest;
          others_are = a.others_are;
          pieces = a.pieces;
          rest = xs;
          whole_is = append_assoc (increments a.pieces) (Acknowledgment s ∷ []) xs;
          told = a.told;
        },
        subst (λ (n : ℕ). Thins n a.others ws xs) (sym count)
            (subst (λ (bs : List UnacknowledgedBlock). Thins u.known_received_count bs ws xs) (sym sections) thins),
      );
    }
next_thinned t last (Cancellation s) more whole within (rest, is, behind) e =
    let u : Table = record t { unacknowledged = without_stream s t.unacknowledged } in
    record {
      table = u;
      front = Cancellation s ∷ [];
      rest = rest;
      whole_is = is;
      one = refl;
      all = refl;
      left = subst (λ (is : List DecoderInstruction). hear_in_turn t is ≡ Ok last) is e;
      within = record {
        few = within.few;
        known = within.known;
        low = others_low (insert_count t) s t.unacknowledged within.low;
      };
      thins = behind;
      again = λ ws xs thins. (xs, refl, thins);
    }
next_thinned t last (Increment by) more whole within (rest, is, behind) e =
    let heard = subst (λ (is : List DecoderInstruction). hear_in_turn t is ≡ Ok last) is e in
    let one = bind_ok (strict_hear t (Increment by)) (λ v. hear_in_turn v rest) last heard in
    let r = raised t one.0 by one.1 in
    let u = with_increment t by in
    let hears : strict_hear t (Increment by) ≡ Ok u =
    one.1 ∙ ap (λ (x : Table). let y : Result Table HearingRefusal = Ok x in y) r.table in
    let now = known_after t by (omega (arith, within.few, r.within)) in
    let sections = sections_stay t by in
    record {
      table = u;
      front = Increment by ∷ [];
      rest = rest;
      whole_is = is;
      one = hears;
      all = ap (λ (x : Result Table HearingRefusal). x >>= λ v. hear_in_turn v []) hears;
      left = subst (λ (x : Table). hear_in_turn x rest ≡ Ok last) r.table one.2;
      within = raised_within t by now r.within within;
      thins = subst (λ (n : ℕ). Thins n u.unacknowledged more rest) (sym now)
          (subst (λ (bs : List UnacknowledgedBlock). Thins (t.known_received_count + by) bs more rest) (sym sections) behind);
      again = λ ws xs thins. (
        xs,
        refl,
        subst (λ (n : ℕ). Thins n t.unacknowledged ws xs) now
            (subst (λ (bs : List UnacknowledgedBlock). Thins u.known_received_count bs ws xs) sections thins),
      );
    }

-- ---- a front of it

-- a front of a thinned stream leaves the table that a front of the whole leaves, and what is behind is thinned still
pub record FrontThinned (t last u : Table) (still whole : List DecoderInstruction) : Type 0 where
  pub front : List DecoderInstruction
  pub rest : List DecoderInstruction
  pub whole_is : whole ≡ front ++ rest
  pub all : hear_in_turn t front ≡ Ok u
  pub thins : Thins u.known_received_count u.unacknowledged still rest

pub front_thinned : (t last u : Table) (more still whole : List DecoderInstruction) → IsWithin t
    → Thins t.known_received_count t.unacknowledged (more ++ still) whole → hear_in_turn t whole ≡ Ok last
    → hear_in_turn t more ≡ Ok u → FrontThinned t last u still whole
front_thinned t last u [] still whole within thins e heard =
    let same = ok_is t u heard in
    record {
      front = [];
      rest = whole;
      whole_is = refl;
      all = heard;
      thins = subst (λ (x : Table). Thins x.known_received_count x.unacknowledged still whole) same thins;
    }
front_thinned t last u (i ∷ more) still whole within thins e heard =
    let n = next_thinned t last i (more ++ still) whole within thins e in
    let behind = front_thinned n.table last u more still n.rest n.within n.thins n.left
    (sym (ap (λ (x : Result Table HearingRefusal). x >>= λ v. hear_in_turn v more) n.one) ∙ heard) in
    record {
      front = n.front ++ behind.front;
      rest = behind.rest;
      whole_is = n.whole_is ∙ ap (λ (is : List DecoderInstruction). n.front ++ is) behind.whole_is
          ∙ sym (append_assoc n.front behind.front behind.rest);
      all = heard_both t n.table u n.front behind.front n.all behind.all;
      thins = behind.thins;
    }

-- all of it is heard, and leaves the table that the whole leaves
pub all_thinned : (t last : Table) (written whole : List DecoderInstruction) → IsWithin t
    → Thins t.known_received_count t.unacknowledged written whole → hear_in_turn t whole ≡ Ok last
    → hear_in_turn t written ≡ Ok last
all_thinned t last [] whole within none e = subst (λ (is : List DecoderInstruction). hear_in_turn t is ≡ Ok last) none e
all_thinned t last (i ∷ more) whole within thins e =
    let n = next_thinned t last i more whole within thins e in
    ap (λ (x : Result Table HearingRefusal). x >>= λ v. hear_in_turn v more) n.one
    ∙ all_thinned n.table last more n.rest n.within n.thins n.left

-- ---- more is written

-- behind a thinned stream, what thins more of the whole
pub thins_behind : (t last : Table) (written whole ws xs : List DecoderInstruction) → IsWithin t
    → Thins t.known_received_count t.unacknowledged written whole → hear_in_turn t whole ≡ Ok last
    → Thins last.known_received_count last.unacknowledged ws xs
    → Thins t.known_received_count t.unacknowledged (written ++ ws) (whole ++ xs)
thins_behind t last [] whole ws xs within none e thins =
    let same : t ≡ last = ok_is t last (subst (λ (is : List DecoderInstruction). hear_in_turn t is ≡ Ok last) none e) in
    subst (λ (is : List DecoderInstruction). Thins t.known_received_count t.unacknowledged ws (is ++ xs)) (sym none)
    (subst (λ (x : Table). Thins x.known_received_count x.unacknowledged ws xs) (sym same) thins)
thins_behind t last (i ∷ more) whole ws xs within thins e behind =
    let n = next_thinned t last i more whole within thins e in
    subst (λ (is : List DecoderInstruction). Thins t.known_received_count t.unacknowledged (i ∷ (more ++ ws)) is)
    (sym (append_assoc n.front n.rest xs) ∙ ap (λ (is : List DecoderInstruction). is ++ xs) (sym n.whole_is))
    (n.again (more ++ ws) (n.rest ++ xs)
    (thins_behind n.table last more n.rest ws xs n.within n.thins n.left behind))

-- and while the encoder writes more sections
pub thins_later : (known : ℕ) (sections later : List UnacknowledgedBlock) (written whole : List DecoderInstruction)
    → Thins known sections written whole → Thins known (sections ++ later) written whole
unfolding without_stream
thins_later known sections later [] whole none = none
thins_later known sections later (Acknowledgment s ∷ more) whole (a, behind) = (
  record {
    required = a.required;
    others = a.others ++ later;
    oldest = oldest_more s sections later a.required a.oldest;
    others_are = others_more s sections later a.others a.others_are;
    pieces = a.pieces;
    rest = a.rest;
    whole_is = a.whole_is;
    told = a.told;
  },
  thins_later (max known a.required) a.others later more a.rest behind,
)
thins_later known sections later (Cancellation s ∷ more) whole (rest, is, behind) = (
  rest,
  is,
  subst (λ (bs : List UnacknowledgedBlock). Thins known bs more rest)
      (sym (filter-append (λ (b : UnacknowledgedBlock). not (nat_eq b.stream s)) sections later))
      (thins_later known (without_stream s sections) (without_stream s later) more rest behind),
)
thins_later known sections later (Increment by ∷ more) whole (rest, is, behind) =
    (rest, is, thins_later (known + by) sections later more rest behind)

-- the same increments before both
pub thins_report : (known : ℕ) (sections : List UnacknowledgedBlock) (ps : List ℕ) (ws xs : List DecoderInstruction)
    → Thins (known + sum_of ps) sections ws xs → Thins known sections (increments ps ++ ws) (increments ps ++ xs)
thins_report known sections [] ws xs thins = subst (λ (n : ℕ). Thins n sections ws xs) (omega arith) thins
thins_report known sections (p ∷ ps) ws xs thins = (
  increments ps ++ xs,
  refl,
  thins_report (known + p) sections ps ws xs (subst (λ (n : ℕ). Thins n sections ws xs) (omega arith) thins),
)

-- ---- the encoder goes on

-- the encoder knows of as many insertions, and the same sections are not acknowledged, with others behind them
pub record KeepsSections (t u : Table) : Type 0 where
  pub known : u.known_received_count ≡ t.known_received_count
  pub later : List UnacknowledgedBlock
  pub sections : u.unacknowledged ≡ t.unacknowledged ++ later

pub keeps_same : (t u : Table) → u.known_received_count ≡ t.known_received_count
    → u.unacknowledged ≡ t.unacknowledged → KeepsSections t u
keeps_same t u known same =
    record { known = known; later = []; sections = same ∙ sym (append-nil t.unacknowledged) }

pub keeps_more : (t u : Table) (s : ℕ) (entries : List ℕ) → u.known_received_count ≡ t.known_received_count
    → u.unacknowledged ≡ with_unacknowledged t.unacknowledged s entries → KeepsSections t u
keeps_more t u s [] known more = keeps_same t u known more
keeps_more t u s (a ∷ entries) known more =
    record { known = known; later = record { stream = s; entries = a ∷ entries } ∷ []; sections = more }

pub thins_kept : (t u : Table) (written whole : List DecoderInstruction) → KeepsSections t u
    → Thins t.known_received_count t.unacknowledged written whole
    → Thins u.known_received_count u.unacknowledged written whole
thins_kept t u written whole k thins =
    subst (λ (n : ℕ). Thins n u.unacknowledged written whole) (sym k.known)
    (subst (λ (bs : List UnacknowledgedBlock). Thins t.known_received_count bs written whole) (sym k.sections)
    (thins_later t.known_received_count t.unacknowledged k.later written whole thins))
