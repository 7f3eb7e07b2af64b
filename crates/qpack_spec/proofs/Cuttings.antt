-- A piece of written bytes holds a front of the lines that were written.
use Rattle.std.proofs.Common.{ℕ, ◌+◌, ◌≤◌, ◌≡◌, List, [], ◌∷◌, ◌++◌, length, Option, refl, sym, ap, ◌∙◌, subst, arith}
use Rattle.std.proofs.Common.{length-append, take, drop, inl}
use Rattle.std.proofs.lemmas.List.{append_assoc, append_cancel_left, drop_at, take-append-drop, drop-append-le}
use Rattle.std.proofs.lemmas.List.{length-take}
use Rattle.qpack_spec.specs.Form.{FormFault, Form, Spells, Refuses, form_at}
use Rattle.qpack_spec.specs.StreamLaws.{StreamsHaveOneReading, PiecesHoldFronts, PiecesAreNeverRefused}
use Rattle.qpack_spec.specs.Stream.{SpellsAll, IsCutOff, Carries}
use Rattle.qpack_spec.proofs.Results.{ok_pair}
use Rattle.qpack_spec.proofs.FormLaws.{form_again, form_refused, no_form_begins}
use Rattle.qpack_spec.proofs.Lists.{front_of}

-- the laws of a stream's lines: none is empty, and no spelling begins another
pub record Wire (L : Type 0) (S : List ℕ → L → Type 0) : Type 0 where
  pub spells_some : (l : L) → S [] l → ⊥
  pub one_spelling : (a b x y : List ℕ) (l m : L) → S a l → S b m → a ++ x ≡ b ++ y → (a ≡ b) × (l ≡ m)

-- whatever first bytes name the forms
pub wire : {L : Type 0} (form_of : ℕ → Option (Form L)) → Wire L (λ encoding l. Spells L form_of encoding l)
wire form_of = record {
  spells_some = λ l s. absurd (let e = s.begins in cc);
  one_spelling = λ a b x y l m s t e. (
    no_form_begins form_of a b x y (inl (l, s)) (inl (m, t)) e,
    (let p = form_again form_of a x l s in let q = form_again form_of b y m t in
        ok_pair l m x y (sym p ∙ ap (form_at form_of) e ∙ q)).0,
  );
}

pub refusal_apart : {L : Type 0} (form_of : ℕ → Option (Form L)) (fault : FormFault) (a b x y : List ℕ) (l : L)
    → Refuses L form_of a fault → Spells L form_of b l → a ++ x ≡ b ++ y → ⊥
refusal_apart form_of fault a b x y l r s e =
    let p = form_refused form_of a x fault r in let q = form_again form_of b y l s in let h =
    ap (form_at form_of) e in absurd cc

pub nil_append : {X : Type 0} (xs ys : List X) → xs ++ ys ≡ [] → xs ≡ []
nil_append [] ys h = refl
nil_append (x ∷ xs) ys h = absurd (cc)

-- what was read of a piece, and what stays in flight
pub record Read (L : Type 0) (S : List ℕ → L → Type 0) (lines in_flight : List L) (rest more : List ℕ) : Type 0 where
  pub still : List L
  pub goes_on : in_flight ≡ lines ++ still
  pub left : SpellsAll S (rest ++ more) still

pub reads_front : {L : Type 0} (S : List ℕ → L → Type 0) (W : Wire L S) (lines in_flight : List L)
    (front rest more : List ℕ)
    → SpellsAll S front lines → SpellsAll S (front ++ (rest ++ more)) in_flight → Read L S lines in_flight rest more
reads_front S W [] in_flight front rest more j f =
    record {
      still = in_flight;
      goes_on = refl;
      left = subst
          (λ (b : List ℕ). SpellsAll S (b ++ (rest ++ more)) in_flight) j f;
    }
reads_front S W (l ∷ lines) [] front rest more j f =
    let none : front ≡ [] = nil_append front (rest ++ more) f in
    let a : j.0 ≡ [] = nil_append j.0 j.1 (sym j.2 ∙ none) in
    absurd (W.spells_some l (subst (λ (b : List ℕ). S b l) a j.3))
reads_front S W (l ∷ lines) (i ∷ in_flight) front rest more j f =
    let both : j.0 ++ (j.1 ++ (rest ++ more)) ≡ f.0 ++ f.1 =
    sym (append_assoc j.0 j.1 (rest ++ more)) ∙ ap (λ b. b ++ (rest ++ more)) (sym j.2) ∙ f.2 in
    let same = W.one_spelling j.0 f.0 (j.1 ++ (rest ++ more)) f.1 l i j.3 f.3 both in
    let tail : j.1 ++ (rest ++ more) ≡ f.1 =
    append_cancel_left f.0 (j.1 ++ (rest ++ more)) f.1 (ap (λ b. b ++ (j.1 ++ (rest ++ more))) (sym same.0)
    ∙ both) in
    let r = reads_front S W lines in_flight j.1 rest more j.4
    (subst (λ (b : List ℕ). SpellsAll S b in_flight) (sym tail) f.4) in
    record { still = r.still; goes_on = (λ n. (sym same.1) n ∷ r.goes_on n); left = r.left }

-- what is left of a piece begins with nothing that begins no line
pub nothing_left : {L : Type 0} (S : List ℕ → L → Type 0) (R : List ℕ → Type 0)
    → ((encoding : List ℕ) → R encoding → encoding ≡ [] → ⊥)
    → ((a b x y : List ℕ) (l : L) → R a → S b l → a ++ x ≡ b ++ y → ⊥)
    → (still : List L) (rest more a b : List ℕ) → SpellsAll S (rest ++ more) still → rest ≡ a ++ b → R a → ⊥
nothing_left S R some apart [] rest more a b j e r = some a r (nil_append a b (sym e ∙ nil_append rest more j))
nothing_left S R some apart (l ∷ still) rest more a b j e r =
    apart a j.0 (b ++ more) j.1 l r j.3 (sym (append_assoc a b more) ∙ ap (λ x. x ++ more) (sym e) ∙ j.2)

-- once the bytes of the first lines were delivered, those lines were read
pub reads_delivered : {L : Type 0} (S : List ℕ → L
    → Type 0) (W : Wire L S) (lines ms os : List L) (front rest more wanted others : List ℕ)
    → SpellsAll S front lines → IsCutOff S rest → SpellsAll S wanted ms → wanted ++ others ≡ front ++ (rest ++ more)
    → length wanted ≤ length front + length rest → length ms ≤ length lines
reads_delivered S W lines [] os front rest more wanted others j c m e le = omega arith
reads_delivered S W [] (i ∷ ms) os front rest more wanted others j c m e le =
    let same : wanted ++ others ≡ rest ++ more = e ∙ ap (λ b. b ++ (rest ++ more)) j in
    let short : length front ≡ 0 = ap length j in
    let f = front_of wanted others rest more same (omega arith) in
    absurd (c m.0 (m.1 ++ f.0) i (sym f.1 ∙ ap (λ b. b ++ f.0) m.2 ∙ append_assoc m.0 m.1 f.0) m.3)
reads_delivered S W (l ∷ lines) (i ∷ ms) os front rest more wanted others j c m e le =
    let both : m.0 ++ (m.1 ++ others) ≡ j.0 ++ (j.1 ++ (rest ++ more)) =
    sym (append_assoc m.0 m.1 others) ∙ ap (λ b. b ++ others) (sym m.2) ∙ e ∙ ap (λ b. b ++ (rest ++ more)) j.2
    ∙ append_assoc j.0 j.1 (rest ++ more) in
    let same = W.one_spelling m.0 j.0 (m.1 ++ others) (j.1 ++ (rest ++ more)) i l m.3 j.3 both in
    let tail : m.1 ++ others ≡ j.1 ++ (rest ++ more) =
    append_cancel_left j.0 (m.1 ++ others) (j.1 ++ (rest ++ more)) (ap (λ b. b ++ (m.1 ++ others)) (sym same.0)
    ∙ both) in
    let n : length j.1 + length rest + length j.0 ≡ length front + length rest =
    omega (arith, ap length j.2, length-append j.0 j.1) in
    let n' : length m.1 + length m.0 ≡ length wanted = omega (arith, ap length m.2, length-append m.0 m.1) in
    let n'' : length m.0 ≡ length j.0 = ap length same.0 in
    let r = reads_delivered S W lines ms os j.1 rest more m.1 others j.4 c m.4 tail (omega arith) in
    omega (arith, r)

pub joined_append : {L : Type 0} (S : List ℕ → L → Type 0) (as' bs : List ℕ) (ls ms : List L) → SpellsAll S as' ls
    → SpellsAll S bs ms → SpellsAll S (as' ++ bs) (ls ++ ms)
joined_append S as' bs [] ms j k = subst (λ (b : List ℕ). SpellsAll S (b ++ bs) ms) (sym j) k
joined_append S as' bs (l ∷ ls) ms j k =
    (j.0, j.1 ++ bs, ap (λ b. b ++ bs) j.2 ∙ append_assoc j.0 j.1 bs, j.3, joined_append S j.1 bs ls ms j.4 k)

-- of a piece of the bytes under way a front was consumed as these lines: so they are the next ones, and what is behind
-- them stays under way
pub record CarriesOn (L : Type 0) (S : List ℕ → L
    → Type 0) (bytes : List ℕ) (position : ℕ) (taken in_flight lines : List L) (front rest : List ℕ) : Type 0 where
  pub still : List L
  pub more : List ℕ
  pub goes_on : in_flight ≡ lines ++ still
  pub left : SpellsAll S (rest ++ more) still
  pub carried : Carries L S bytes (position + length front) (taken ++ lines) still
  pub rest_is : carried.rest ≡ rest ++ more

pub carried_on : {L : Type 0} (S : List ℕ → L
    → Type 0) (W : Wire L S) (bytes : List ℕ) (position most : ℕ) (taken in_flight lines : List L) (front rest : List ℕ)
    → Carries L S bytes position taken in_flight → position ≤ most → drop position (take most bytes) ≡ front ++ rest
    → SpellsAll S front lines
    → CarriesOn L S bytes position taken in_flight lines front rest
carried_on {L} S W bytes position most taken in_flight lines front rest c order piece joined =
    let behind : drop position bytes ≡ c.rest = ap (drop position) c.cut ∙ drop_at c.front c.rest position c.ends in
    let more = drop most bytes in
    let within : position ≤ length (take most bytes) =
    omega (arith, length-take most bytes, order, c.ends, ap length c.cut, length-append c.front c.rest) in
    let split : drop position bytes ≡ drop position (take most bytes) ++ more =
    ap (drop position) (sym (take-append-drop most bytes)) ∙ drop-append-le position (take most bytes) more within in
    let whole : c.rest ≡ front ++ (rest ++ more) =
    sym behind ∙ split ∙ ap (λ b. b ++ more) piece ∙ append_assoc front rest more in
    let r : Read L S lines in_flight rest more =
    reads_front S W lines in_flight front rest more joined
    (subst (λ (b : List ℕ). SpellsAll S b in_flight) whole c.rest_joined) in
    record {
      still = r.still;
      more = more;
      goes_on = r.goes_on;
      left = r.left;
      carried = record {
        front = c.front ++ front;
        rest = rest ++ more;
        cut = c.cut ∙ ap (λ b. c.front ++ b) whole ∙ sym (append_assoc c.front front (rest ++ more));
        ends = omega (arith, c.ends, length-append c.front front);
        front_joined = joined_append S c.front front taken lines c.front_joined joined;
        rest_joined = r.left;
      };
      rest_is = refl;
    }

-- more is written behind what is under way
pub carried_more : {L : Type 0} (S : List ℕ → L
    → Type 0) (bytes more : List ℕ) (position : ℕ) (taken in_flight lines : List L)
    → Carries L S bytes position taken in_flight
    → SpellsAll S more lines → Carries L S (bytes ++ more) position taken (in_flight ++ lines)
carried_more S bytes more position taken in_flight lines c j =
    record {
      front = c.front;
      rest = c.rest ++ more;
      cut = ap (λ b. b ++ more) c.cut ∙ append_assoc c.front c.rest more;
      ends = c.ends;
      front_joined = c.front_joined;
      rest_joined = joined_append S c.rest more in_flight lines c.rest_joined j;
    }

-- ---- the laws

-- of two ways to read a byte list, the rests being cut off, each has the lines of the other
pub one_reading : {L : Type 0} (S : List ℕ → L → Type 0) (W : Wire L S) (ls ms : List L) (a b rest more : List ℕ)
    → SpellsAll S a ls → SpellsAll S b ms → IsCutOff S rest → IsCutOff S more → a ++ rest ≡ b ++ more
    → (ls ≡ ms) × (rest ≡ more)
one_reading S W [] [] a b rest more j k c d e = (refl, ap (λ z. z ++ rest) (sym j) ∙ e ∙ ap (λ z. z ++ more) k)
one_reading S W [] (m ∷ ms) a b rest more j k c d e =
    absurd (c k.0 (k.1 ++ more) m (ap (λ z. z ++ rest) (sym j) ∙ e ∙ ap (λ z. z ++ more) k.2
    ∙ append_assoc k.0 k.1 more) k.3)
one_reading S W (l ∷ ls) [] a b rest more j k c d e =
    absurd (d j.0 (j.1 ++ rest) l (ap (λ z. z ++ more) (sym k) ∙ sym e ∙ ap (λ z. z ++ rest) j.2
    ∙ append_assoc j.0 j.1 rest) j.3)
one_reading S W (l ∷ ls) (m ∷ ms) a b rest more j k c d e =
    let both : j.0 ++ (j.1 ++ rest) ≡ k.0 ++ (k.1 ++ more) =
    sym (append_assoc j.0 j.1 rest) ∙ ap (λ z. z ++ rest) (sym j.2) ∙ e ∙ ap (λ z. z ++ more) k.2
    ∙ append_assoc k.0 k.1 more in
    let same = W.one_spelling j.0 k.0 (j.1 ++ rest) (k.1 ++ more) l m j.3 k.3 both in
    let tail : j.1 ++ rest ≡ k.1 ++ more =
    append_cancel_left k.0 (j.1 ++ rest) (k.1 ++ more) (ap (λ z. z ++ (j.1 ++ rest)) (sym same.0) ∙ both) in
    let r = one_reading S W ls ms j.1 k.1 rest more j.4 k.4 c d tail in
    ((λ n. same.1 n ∷ r.0 n), r.1)

pub streams_read : {L : Type 0} (form_of : ℕ → Option (Form L)) → StreamsHaveOneReading form_of
streams_read {L} form_of bytes ls ms rest more h k =
    one_reading (λ t l. Spells L form_of t l) (wire form_of) ls ms h.front k.front rest more h.joined k.joined
    h.cut_off k.cut_off (sym h.cut ∙ k.cut)

pub pieces_hold : {L : Type 0} (form_of : ℕ → Option (Form L)) → PiecesHoldFronts form_of
pieces_hold {L} form_of piece behind all ls rest j h =
    let r = reads_front (λ t l. Spells L form_of t l) (wire form_of) ls all h.front rest behind h.joined
    (subst (λ (b : List ℕ). SpellsAll (λ t l. Spells L form_of t l) b all) (ap (λ x. x ++ behind) h.cut
    ∙ append_assoc h.front rest behind) j) in
    (r.still, r.goes_on, r.left)

pub pieces_lawful : {L : Type 0} (form_of : ℕ → Option (Form L)) → PiecesAreNeverRefused form_of
pieces_lawful {L} form_of piece behind all ls rest encoding more fault j h e r =
    let k = pieces_hold form_of piece behind all ls rest j h in
    nothing_left (λ t l. Spells L form_of t l) (λ t. Refuses L form_of t fault) (λ t x q. (let y = x.begins in
    absurd cc))
    (λ a b x y l p s q. refusal_apart form_of fault a b x y l p s q) k.0 rest behind encoding more k.2 e r
