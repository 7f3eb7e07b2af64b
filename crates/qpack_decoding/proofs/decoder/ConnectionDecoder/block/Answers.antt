use Rattle.std.proofs.Common.{sym, subst, ◌≡◌, ◌<◌, ◌≤◌, ℕ, false, List}
use Rattle.qpack_spec.specs.Table.{insert_count}
use Rattle.qpack_decoding.specs.Blocked.{is_blocked, blocked_among}
use Rattle.qpack_shared.specs.declared.streams.BlockedStream.{BlockedStream}
use Rattle.qpack_decoding.proofs.BlockedStreams.{put_within}
use Rattle.qpack_decoding.proofs.decoder.ConnectionDecoder.block.Goals as goal

pub invariant_of-self : goal.invariant_of-self
invariant_of-self c =
    record {
      blocked =
          subst (λ (bs : List BlockedStream). blocked_among (insert_count c.self.inside.table) bs
          ≤ c.self.inside.settings.max_blocked) (sym c.in-Ok.ensures.0)
          (put_within (insert_count c.self.inside.table) c.self.inside.settings.max_blocked _ c.self.inside.blocked
          c.self.invariant.blocked
          (subst (λ (n : ℕ). is_blocked n c.args.stream c.self.inside.blocked ≡ false
          → blocked_among n c.self.inside.blocked < c.self.inside.settings.max_blocked)
          c.total_inserted-inserted.ensures c.in-Ok.ensures.1));
      failure = c.self.invariant.failure;
    }
