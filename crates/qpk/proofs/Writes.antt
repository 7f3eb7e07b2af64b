-- Writes of one piece after the other.
use Rattle.std.proofs.Common.{◌≡◌, ℕ, ◌+◌, List, ◌++◌, ◌-◌, length, Option, Some, None, take, drop, sym, ap}
use Rattle.std.proofs.Common.{subst, append_assoc, arith, ◌∙◌, ◌<◌, [], inl, inr}
use Rattle.std.proofs.Math.Seq.{take-add, take-append-add}
use Rattle.std.specs.Io.KnownBytes.{Appends, Keeps}
use Rattle.std.proofs.lemmas.List.{append-nil, drop-drop, length-append, take_rest}
use Rattle.qpk.specs.Refusals.{AppendsPartOfSome, AppendsSome}
use Rattle.qpk.specs.Serving.{StopsShowing}
use Rattle.qpk.specs.declared.refusal.Refusal.{Refusal}

-- what a writer gained is a front of the bytes, and the rest is left
abbrev pub Written : Option (List ℕ) → Option (List ℕ) → List ℕ → List ℕ → Type 0
Written old new bytes rest = (n : ℕ) × (rest ≡ drop n bytes) × Appends old new (take n bytes)

appends_two : (a b c : Option (List ℕ)) (xs ys : List ℕ) → Appends a b xs → Appends b c ys → Appends a c (xs ++ ys)
appends_two None b c xs ys p q = tt
appends_two (Some old) None c xs ys p q = absurd p
appends_two (Some old) (Some mid) None xs ys p q = absurd q
appends_two (Some old) (Some mid) (Some new) xs ys p q = q ∙ ap (λ l. l ++ ys) p ∙ append_assoc old xs ys

appends_kept : (a b c : Option (List ℕ)) (xs : List ℕ) → Appends a b xs → Keeps b c → Appends a c xs
appends_kept None b c xs p q = tt
appends_kept (Some old) None c xs p q = absurd p
appends_kept (Some old) (Some mid) None xs p q = absurd q
appends_kept (Some old) (Some mid) (Some new) xs p q = q ∙ p

pub written_more : (a b c : Option (List ℕ)) (bytes rest after : List ℕ) (m : ℕ) → Written a b bytes rest
    → Appends b c (take m rest) → after ≡ take (length rest - m) (drop m rest)
    → Written a c bytes after
written_more a b c bytes rest after m (n, left, wrote) more e = (
  n + m,
  e ∙ take_rest rest m ∙ ap (drop m) left ∙ drop-drop m n bytes,
  subst (Appends a c) (ap (λ l. take n bytes ++ take m l) left ∙ sym (take-add n m bytes))
      (appends_two a b c (take n bytes) (take m rest) wrote more),
)

pub written_kept : (a b c : Option (List ℕ)) (bytes rest : List ℕ) → Written a b bytes rest → Keeps b c
    → Written a c bytes rest
written_kept a b c bytes rest (n, left, wrote) kept = (n, left, appends_kept a b c _ wrote kept)

-- nothing was written
pub nothing_more : (a : Option (List ℕ)) → AppendsSome a a
nothing_more None = ([], tt)
nothing_more (Some old) = ([], sym (append-nil old))

-- two pieces were written
pub some_more : (a b c : Option (List ℕ)) → AppendsSome a b → AppendsSome b c → AppendsSome a c
some_more a b c (xs, p) (ys, q) = (xs ++ ys, appends_two a b c xs ys p q)

-- a piece was written, and then a part of one
part_more : (a b c : Option (List ℕ)) → AppendsSome a b → AppendsPartOfSome b c → AppendsPartOfSome a c
part_more a b c (xs, p) (ys, (n, lt, q)) =
    let sum : length (xs ++ ys) ≡ length xs + length ys = length-append xs ys in
    let within : length xs + n < length (xs ++ ys) = omega arith in
    let more : Appends a c (take (length xs + n) (xs ++ ys)) =
    subst (Appends a c) (sym (take-append-add xs ys n)) (appends_two a b c xs (take n ys) p q) in
    (xs ++ ys, (length xs + n, within, more))

-- a piece was written, and then showing ended early
pub stops_later : (a b c : Option (List ℕ)) (r : Refusal) → AppendsSome a b → StopsShowing b c r → StopsShowing a c r
stops_later a b c r some (inl (why, part)) = inl (why, part_more a b c some part)
stops_later a b c r some (inr (why, more)) = inr (why, some_more a b c some more)
