-- A new encoding end is sound.
use Rattle.std.proofs.Common.{◌≡◌, ◌≤◌, ◌<◌, ◌^◌, ℕ, min, Bool, true, false}
use Rattle.std.proofs.Common.{cond, [], Option, None}
use Rattle.std.proofs.Common.{Some, IfSome, sym, ap, subst, ◌∙◌, arith}
use Rattle.std.specs.Option.{IsSome}
use Rattle.std.specs.Prelude.{nat_eq}
use Rattle.qpack_spec.specs.Table.{Table}
use Rattle.qpack_spec.specs.Window.{greatest_capacity}
use Rattle.qpack_encoding.specs.declared.encoder.EncoderSettings.{EncoderSettings}
use Rattle.qpack_encoding.specs.declared.encoder.EncodingError.{EncodingError}
use Rattle.qpack_encoding.specs.Encoders.{EncodingEnd, Starts, IsUnused, IsSound, IsToBeTold, begun, WritesSection, WritesAlone}
use Rattle.qpack_encoding.specs.Encoders.{ReceivesBytes, Encodes, SetsIt, first_capacity}
use Rattle.qpack_encoding.specs.Encoders as encoders

-- the first capacity is within the maximum
first_wanted : (d : EncodingEnd) (n most : ℕ) (b : Bool) → n ≤ most → most < 2 ^ 30 → d.table.agreed_max ≡ Some most
    → IfSome (cond b None (Some n)) (λ m. IsToBeTold d m)
first_wanted d n most true within small agreed = tt
first_wanted d n most false within small agreed =
    subst (λ (o : Option ℕ). n ≤ greatest_capacity o) (sym agreed) (omega (arith, within, small))

-- a new end is unused
pub unused_first : (settings : EncoderSettings) (d : EncodingEnd) → Starts settings d → IsUnused settings d
unused_first settings d k =
    record {
      capacity_in_range = k.capacity_in_range;
      settings_are = k.settings_are;
      table = k.table;
      wanted = k.wanted;
      stream = ([], [], k.stream);
      unsent = k.unsent;
      failure = k.failure;
    }

pub sound_first : (settings : EncoderSettings) (d : EncodingEnd) → IsUnused settings d → IsSound d
sound_first s d e =
    record {
      wanted = subst (λ (o : Option ℕ). IfSome o (λ m. IsToBeTold d m)) (sym e.wanted)
          (first_wanted d (min s.capacity s.max_capacity) s.max_capacity
          (nat_eq (min s.capacity s.max_capacity) 0) (omega arith) e.capacity_in_range
          (ap (λ (t : Table). t.agreed_max) e.table));
      stream = λ none. e.stream;
      failure = subst (λ (o : Option EncodingError). IfSome o (λ x. IsSome (encoders.code_of x))) (sym e.failure) tt;
    }
