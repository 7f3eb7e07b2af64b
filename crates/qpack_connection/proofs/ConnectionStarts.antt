-- How a connection begins of which both ends keep all that they wrote.
use Rattle.std.proofs.Common.{◌≡◌, ℕ, List, [], refl, ap, arith}
use Rattle.qpack_rules.specs.Session.{RequestStream}
use Rattle.qpack_connection.specs.declared.connection.ConnectionSettings.{ConnectionSettings}
use Rattle.qpack_decoding.specs.declared.decoder.DecoderSettings.{DecoderSettings}
use Rattle.qpack_encoding.specs.declared.encoder.EncoderSettings.{EncoderSettings}
use Rattle.qpack_connection.specs.ConnectionEvents.{connection_of, encoder_settings, BeginsWith}
use Rattle.qpack_connection.specs.Connections.{SentSection}
use Rattle.qpack_decoding.specs.Decoders.{DecodingEnd}
use Rattle.qpack_decoding.specs.Decoders as decoders
use Rattle.qpack_encoding.specs.Encoders.{EncodingEnd}
use Rattle.qpack_encoding.specs.Encoders as encoders
use Rattle.qpack_connection.proofs.ConnectionCalls.{wire_is}
use Rattle.qpack_connection.proofs.FramedEncoderCalls as encoder
use Rattle.qpack_connection.proofs.FramedDecoderCalls as decoder

starts_sent : (settings : EncoderSettings) (e : EncodingEnd) → encoders.Starts settings e
    → encoders.Starts settings (encoder.with_unsent [] e)
starts_sent settings e k =
    record {
      capacity_in_range = k.capacity_in_range;
      settings_are = k.settings_are;
      table = k.table;
      wanted = k.wanted;
      stream = k.stream;
      unsent = refl;
      failure = k.failure;
    }

begins_sent : (settings : DecoderSettings) (d : DecodingEnd) → decoders.Begins settings d
    → decoders.Begins settings (decoder.with_unsent [] d)
begins_sent settings d k =
    record {
      capacity_in_range = k.capacity_in_range;
      blocked_in_range = k.blocked_in_range;
      settings_are = k.settings_are;
      table = k.table;
      stream = k.stream;
      reported = k.reported;
      blocked = k.blocked;
      unsent = refl;
      failure = k.failure;
    }

pub begins_with : (settings : ConnectionSettings) (e : EncodingEnd) (d : DecodingEnd) (given : EncoderSettings)
    (ps : List (ℕ × RequestStream SentSection)) → given ≡ encoder_settings settings → encoders.Starts given e
    → decoders.Begins settings.decoder d → ps ≡ [] → BeginsWith settings (connection_of e d 0 0 ps)
begins_with settings e d given ps is starts begins none =
    record {
      new = record {
        encoder_settings = given;
        decoder_settings = settings.decoder;
        same_capacity = ap (λ (s : EncoderSettings). s.max_capacity) is;
        blocks_within = omega (arith, ap (λ (s : EncoderSettings). s.max_blocked) is);
        encoder = starts_sent given e starts;
        decoder = begins_sent settings.decoder d begins;
        encoder_stream = wire_is e.unsent [] 0 starts.unsent;
        decoder_stream = wire_is d.unsent [] 0 begins.unsent;
        streams = none;
      };
      encoder_is = is;
      decoder_is = refl;
    }
