-- How a session begins.
use Rattle.std.proofs.Common.{◌≡◌, ◌<◌, ◌^◌, ◌-◌, ℕ, List, [], Option, Some, None, Ok, Err, min}
use Rattle.std.proofs.Common.{◌≤◌, ◌⊎◌, Result, inl, inr, refl, sym, ap, subst, ◌∙◌, arith}
use Rattle.std.proofs.lemmas.Bool.{cases_lt, le-leb, lt-leb}
use Rattle.qpack_rules.specs.Session.{begin_session, initial_session}
use Rattle.qpack_spec.specs.History.{window_of}
use Rattle.qpack_spec.specs.Table.{Table, empty_table, table_of, with_capacity, all_evictable}
use Rattle.qpack_spec.specs.Window.{eviction_count, TableRefusal, AboveMaximum}
use Rattle.qpack_spec.proofs.Results.{ok_is}
use Rattle.qpack_base.specs.Refusals.{IsRefusedFor}
use Rattle.qpack_table.specs.Tables.{refusal_of}
use Rattle.qpack_table.specs.declared.dynamic.Error.{Error}
use Rattle.qpack_table.specs.declared.dynamic.Error.TheVariants.{MaxTableSizeReached, MaximumTableSizeTooLarge}
use Rattle.qpack_table.specs.declared.dynamic.Error.TheVariants.{UnknownStreamId}
use Rattle.qpack_codec.specs.Receiving.{DecoderView}
use Rattle.h3_qpack.specs.Sessions.{SessionView, StoredStream, Shows, Reaches, IsReached}

-- an empty table takes any capacity up to a maximum below 2^30
pub empty_resized : (capacity maximum : ℕ) → capacity ≤ maximum → maximum < 2 ^ 30
    → with_capacity (empty_table 0 (Some maximum) 0) capacity ≡ Ok (empty_table capacity (Some maximum) 0)
unfolding with_capacity eviction_count all_evictable
empty_resized capacity maximum within small = rw (le-leb capacity (min maximum (2 ^ 30 - 1)) (omega arith)) refl

-- and refuses one above it
empty_refuses : (capacity maximum : ℕ) → maximum < capacity
    → with_capacity (empty_table 0 (Some maximum) 0) capacity ≡ Err AboveMaximum
unfolding with_capacity
empty_refuses capacity maximum above = rw (lt-leb capacity (min maximum (2 ^ 30 - 1)) (omega arith)) refl

pub begins_ok : (capacity maximum limit : ℕ) → capacity ≤ maximum → maximum < 2 ^ 30 → limit < 65535
    → begin_session capacity maximum limit ≡ Ok (initial_session capacity maximum limit)
begins_ok capacity maximum limit within small few =
    rw (le-leb capacity maximum within, le-leb maximum (2 ^ 30 - 1) (omega arith), le-leb limit 65534 (omega arith))
    refl

-- what is kept at the beginning
abbrev pub first_view : ℕ → ℕ → ℕ → SessionView
first_view capacity maximum limit =
    record {
      encoder = empty_table capacity (Some maximum) limit;
      decoder = record { table = empty_table capacity (Some maximum) 0; unreported = 0 };
      encoder_stream = [];
      encoder_stream_delivered = 0;
      encoder_stream_taken = 0;
      decoder_stream = [];
      decoder_stream_delivered = 0;
      decoder_stream_taken = 0;
      streams = [];
    }

first_shown : (capacity maximum limit : ℕ)
    → Shows (first_view capacity maximum limit) (initial_session capacity maximum limit)
unfolding table_of window_of
first_shown capacity maximum limit =
    record {
      encoder = refl;
      decoder = refl;
      unreported = refl;
      encoder_stream = refl;
      encoder_stream_delivered = refl;
      encoder_stream_taken = refl;
      decoder_stream = refl;
      decoder_stream_delivered = refl;
      decoder_stream_taken = refl;
      streams = λ q. refl;
    }

pub first_reached : (capacity maximum limit : ℕ) → capacity ≤ maximum → (s : SessionView)
    → s ≡ first_view capacity maximum limit
    → Reaches s capacity maximum limit [] (initial_session capacity maximum limit)
first_reached capacity maximum limit within s same =
    record {
      within = within;
      shows = subst (λ (x : SessionView). Shows x (initial_session capacity maximum limit)) (sym same)
          (first_shown capacity maximum limit);
      run = refl;
    }

pub first_is : (capacity maximum limit : ℕ) → capacity ≤ maximum → (s : SessionView)
    → s ≡ first_view capacity maximum limit → IsReached s
first_is capacity maximum limit within s same =
    record {
      capacity = capacity;
      maximum = maximum;
      limit = limit;
      events = [];
      session = initial_session capacity maximum limit;
      reaches = first_reached capacity maximum limit within s same;
    }

-- ---- the code

agreed_with : (t u : Table) (maximum : ℕ) → t ≡ empty_table 0 None 0 → u ≡ record t { agreed_max = Some maximum }
    → u ≡ empty_table 0 (Some maximum) 0
agreed_with t u maximum first agreed =
    agreed ∙ ap (λ (x : Table). let y : Table = record x { agreed_max = Some maximum } in y) first

-- the table that is made, of a capacity within the maximum
pub table_made : (t u w : Table) (capacity maximum : ℕ) → t ≡ empty_table 0 None 0 → maximum < 2 ^ 30
    → u ≡ record t { agreed_max = Some maximum } → with_capacity u capacity ≡ Ok w
    → (capacity ≤ maximum) × (w ≡ empty_table capacity (Some maximum) 0)
table_made t u w capacity maximum first small agreed set = pick (cases_lt maximum capacity)
  where
    same : with_capacity (empty_table 0 (Some maximum) 0) capacity ≡ Ok w
    same = ap (λ (x : Table). with_capacity x capacity) (sym (agreed_with t u maximum first agreed)) ∙ set

    pick : (maximum < capacity) ⊎ (capacity ≤ maximum)
        → (capacity ≤ maximum) × (w ≡ empty_table capacity (Some maximum) 0)
    pick (inl above) =
        absurd (let e : Err AboveMaximum ≡ Ok w = sym (empty_refuses capacity maximum above) ∙ same in cc)
    pick (inr within) = (
      within,
      ok_is w (empty_table capacity (Some maximum) 0)
          (sym same ∙ empty_resized capacity maximum within small),
    )

-- the one error that tells a capacity above the maximum
above_told : (e : Error) → IsRefusedFor {A = Table} (Err AboveMaximum) (refusal_of e) → e ≡ MaximumTableSizeTooLarge
above_told MaximumTableSizeTooLarge told = refl
above_told MaxTableSizeReached told = absurd cc
above_told (UnknownStreamId stream) told = absurd cc
above_told e told = absurd told

-- a capacity is refused above the maximum, as the table refuses it
pub table_refused : (t u : Table) (capacity maximum : ℕ) (e : Error) → t ≡ empty_table 0 None 0
    → maximum < 2 ^ 30 → u ≡ record t { agreed_max = Some maximum }
    → IsRefusedFor (with_capacity u capacity) (refusal_of e)
    → (e ≡ MaximumTableSizeTooLarge) × (maximum < capacity)
table_refused t u capacity maximum e first small agreed refused = pick (cases_lt maximum capacity)
  where
    same : IsRefusedFor (with_capacity (empty_table 0 (Some maximum) 0) capacity) (refusal_of e)
    same = subst (λ (x : Table). IsRefusedFor (with_capacity x capacity) (refusal_of e))
        (agreed_with t u maximum first agreed) refused

    not_refused : (o : Option TableRefusal) (w : Table) → IsRefusedFor (Ok w) o → ⊥
    not_refused None w told = told
    not_refused (Some refusal) w told = cc

    pick : (maximum < capacity) ⊎ (capacity ≤ maximum) → (e ≡ MaximumTableSizeTooLarge) × (maximum < capacity)
    pick (inl above) = (
      above_told e (subst (λ (r : Result Table TableRefusal). IsRefusedFor r (refusal_of e))
          (empty_refuses capacity maximum above) same),
      above,
    )
    pick (inr within) =
        absurd (not_refused (refusal_of e) (empty_table capacity (Some maximum) 0)
        (subst (λ (r : Result Table TableRefusal). IsRefusedFor r (refusal_of e))
        (empty_resized capacity maximum within small) same))

pub first_view_is : (capacity maximum limit : ℕ) (encoder table limited made : Table) (decoder : DecoderView)
    (to_decoder to_encoder : List ℕ) (streams : List (ℕ × StoredStream)) → encoder ≡ limited
    → limited ≡ record table { limit = limit }
    → table ≡ empty_table capacity (Some maximum) 0 → decoder ≡ record { table = made; unreported = 0 }
    → made ≡ empty_table capacity (Some maximum) 0 → to_decoder ≡ [] → to_encoder ≡ [] → streams ≡ []
    → (let s : SessionView =
    record {
      encoder = encoder;
      decoder = decoder;
      encoder_stream = to_decoder;
      encoder_stream_delivered = 0;
      encoder_stream_taken = 0;
      decoder_stream = to_encoder;
      decoder_stream_delivered = 0;
      decoder_stream_taken = 0;
      streams = streams;
    } in s)
    ≡ first_view capacity maximum limit
first_view_is capacity maximum limit encoder table limited made decoder to_decoder to_encoder streams a b c d e f g h =
    rw (a, b, c, d, e, f, g, h) refl
