-- Blocks that a stream keeps.
use Rattle.std.proofs.Common.{◌≡◌, ℕ, List, [], ◌∷◌, ◌++◌, length, take, filter, length-append}
use Rattle.std.proofs.Common.{subst, refl, sym, ap}
use Rattle.std.proofs.Common.{◌∙◌, arith, inl, inr, IsSome, Some, Result, Ok, Err, IfOk, OnErr, nat_eq}
use Rattle.std.proofs.iter.Yields.{fronts}
use Rattle.std.proofs.lemmas.List.{take-append-le}
use Rattle.std.proofs.lemmas.Bool.Decides.{nat_tests}
use Rattle.std.proofs.Math.Seq.{take-nil}
use Rattle.std.specs.BTreeMap.{BTreeMap, is_at, WritesThrough}
use Rattle.std.specs.Map.{lookup}
use Rattle.std.specs.Ordering.{nat_cmp}
use Rattle.std.specs.Slice.Iter.{iter_rest}
use Rattle.std.specs.declared.slice.Iter.{Iter}
use Rattle.std.specs.Prelude.{if◌then◌else◌}
use Rattle.qpack_spec.specs.Field.{Field}
use Rattle.qpack_spec.specs.Instruction.{written_encoder_instructions}
use Rattle.qpack_spec.specs.Rule.{rule}
use Rattle.qpack_rules.specs.Session.{stream_at}
use Rattle.qpack_spec.specs.Table.{Table, without_references}
use Rattle.qpack_base.proofs.FieldLists.{fields_from_slice}
use Rattle.qpack_base.specs.HeaderFields.{DrainsFields}
use Rattle.qpack_base.specs.declared.field.HeaderField.{HeaderField}
use Rattle.qpack_codec.specs.Encoding.{EncodesBlock, GivesUpBlock, StopsEncoding}
use Rattle.qpack_codec.proofs.Streams.{stream_found, stream_put}
use Rattle.qpack_codec.specs.RequestStreams.{KeepsStreams}
use Rattle.h3_qpack.specs.Sessions.{StoredBlock, StoredStream, CountsDecoded, stored_requires_entry}
use Rattle.qpack_codec.specs.RequestStreams.{ChangesStream}
use Rattle.h3_qpack.specs.Sessions.{WritesBlock, WritesStream}
use Rattle.qpack_codec.specs.declared.error.EncoderError.{EncoderError}
use Rattle.qpack_codec.specs.Stateless.{fields_in}

-- a block more is no decoded one
pub counted_more : (blocks before more : List StoredBlock) (decoded dynamic : ℕ) (b : StoredBlock)
    → more ≡ before ++ b ∷ [] → before ≡ blocks → CountsDecoded blocks decoded dynamic
    → CountsDecoded more decoded dynamic
counted_more blocks before more decoded dynamic b e same k =
    let whole : more ≡ blocks ++ b ∷ [] = e ∙ ap (λ (bs : List StoredBlock). bs ++ b ∷ []) same in
    record {
      within = rw whole (omega (arith, k.within, length-append blocks (b ∷ [])));
      dynamic_are = k.dynamic_are
          ∙ sym (ap (λ (bs : List StoredBlock). length (filter stored_requires_entry bs))
          (ap (take decoded) whole ∙ take-append-le decoded blocks (b ∷ []) k.within));
    }

-- it is kept behind the others
pub kept_more : (view now : StoredStream) (b : StoredBlock) (before items : List StoredBlock) → view ≡ now
    → items ≡ before ++ b ∷ [] → before ≡ view.blocks
    → record view { blocks = items } ≡ record now { blocks = now.blocks ++ b ∷ [] }
kept_more view now b before items e f same =
    ap (λ (bs : List StoredBlock). let k : StoredStream = record view { blocks = bs } in k)
    (f ∙ ap (λ (bs : List StoredBlock). bs ++ b ∷ []) same)
    ∙ ap (λ (k : StoredStream). let x : StoredStream = record k { blocks = k.blocks ++ b ∷ [] } in x) e

-- the fields that were drained are the slice's
pub encodes_slice : (number : ℕ) (s : Iter HeaderField) (xs : List HeaderField) (old new : Table)
    (block block' written written' : List ℕ) (required : ℕ) → iter_rest s ≡ xs → block ≡ []
    → DrainsFields fronts s (λ fs. EncodesBlock number fs old new block block' written written' required)
    → EncodesBlock number (fields_in xs) old new [] block' written written' required
encodes_slice number s xs old new block block' written written' required e empty d =
    subst (λ (b : List ℕ). EncodesBlock number (fields_in xs) old new b block' written written' required) empty
    (subst (λ (fs : List Field). EncodesBlock number fs old new block block' written written' required)
    (fields_from_slice s xs d.0 e d.1) d.2)

-- a block that was given up before its fields were gathered was given up behind none of them
given_up_at_once : (fs : List Field) (old new : Table) (written written' : List ℕ)
    → GivesUpBlock [] old new written written'
    → GivesUpBlock fs old new written written'
given_up_at_once fs old new written written' g =
    record {
      many = 0;
      table = subst (λ (l : List Field). new ≡ without_references (rule old l).table) (take-nil g.many) g.table;
      written = subst (λ (l : List Field). written' ≡ written ++ written_encoder_instructions (rule old l).instructions)
          (take-nil g.many) g.written;
    }

pub stops_slice : (s : Iter HeaderField) (xs : List HeaderField) (old new : Table) (written written' : List ℕ)
    → iter_rest s ≡ xs → StopsEncoding fronts s old new written written'
    → GivesUpBlock (fields_in xs) old new written written'
stops_slice s xs old new written written' e (inl g) = given_up_at_once (fields_in xs) old new written written' g
stops_slice s xs old new written written' e (inr d) =
    subst (λ (fs : List Field). GivesUpBlock fs old new written written') (fields_from_slice s xs d.0 e d.1) d.2

-- ---- among the streams

module _ (before opened : List (ℕ × StoredStream)) (m n : BTreeMap ℕ StoredStream) (number : ℕ)
    (seen k : StoredStream) where
  abbrev IsWritten : Type 0
  IsWritten =
      KeepsStreams before opened × (m.entries ≡ opened) × (Some seen ≡ lookup (is_at (nat_cmp number)) m.entries)
      × WritesThrough nat_cmp (nat_cmp number) m k n

  same_seen : IsWritten → seen ≡ stream_at before number
  same_seen h =
      sym (stream_found m.entries number seen h.2)
      ∙ ap (λ (l : List (ℕ × StoredStream)). stream_at l number) h.1 ∙ h.0 number

  changes : IsWritten → ChangesStream number k before n.entries
  changes h q =
      stream_put m n number k (h.3.3 (subst (λ o. IsSome o) h.2 refl)) q
      ∙ ap (λ (x : StoredStream). if nat_eq number q then k else x)
      (ap (λ (l : List (ℕ × StoredStream)). stream_at l q) h.1 ∙ h.0 q)

  -- the block was written at the stream that was looked up
  pub written_among : (fields : List Field) (old new : Table) (written written' : List ℕ) (r : Result ℕ EncoderError)
      → IsWritten → IfOk r (WritesBlock number fields old new written written' seen k)
      → IfOk r (WritesStream number fields old new written written' before n.entries)
  written_among fields old new written written' (Ok required) h w =
      record {
        stream = k;
        writes = subst (λ (x : StoredStream). WritesBlock number fields old new written written' x k required)
            (same_seen h) w;
        changes = changes h;
      }
  written_among fields old new written written' (Err e) h w = tt

  -- or the streams stay, as the one that was looked up does
  pub kept_among : (r : Result ℕ EncoderError) → IsWritten → OnErr r (k ≡ seen)
      → OnErr r (KeepsStreams before n.entries)
  kept_among (Ok required) h w = tt
  kept_among (Err e) h w = λ q.
      grind (arith, nat_tests, changes h q, same_seen h, w)
