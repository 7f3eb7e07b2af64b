use Rattle.std.proofs.Common.{rules}
use Rattle.qpack_encoding.proofs.encoder.ConnectionEncoder.set_peer_settings.Goals as goal

-- what is agreed on changes no stream at risk
pub invariant_of-self-2 : goal.invariant_of-self-2
invariant_of-self-2 c =
    let risk = c.self.invariant.1.streams in (
      record { wanted = search rules; stream = search rules; failure = search rules },
      record {
        streams = rw c.agree_on.ensures (record {
          once = risk.once;
          above = risk.above;
          small = risk.small;
          known = risk.known;
          each = risk.each;
        });
        limit = search rules;
      },
      search rules,
    )
