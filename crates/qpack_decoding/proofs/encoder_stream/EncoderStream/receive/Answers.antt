use Rattle.std.proofs.Common.{◌≡◌, ◌∙◌, ap, refl, sym}
use Rattle.qpack_decoding.specs.Receiving.{StreamView, answer_at}
use Rattle.qpack_decoding.proofs.AskingToReceive.{memory_of}
use Rattle.qpack_decoding.proofs.encoder_stream.EncoderStream.receive.Goals as goal
use Rattle.qpack_decoding.proofs.encoder_stream.EncoderStream.receive.Goals.{in-Ok, in-Err}

pub returns-clause-receives : goal.returns-clause-receives
returns-clause-receives g c start before k =
    let is : c.match-receive_bytes.result ≡ answer_at c.receive_bytes.new.self.place c.receive_bytes.result =
    elim c.match-receive_bytes.branch [
      | in-Ok w ↦ w.result-is ∙ (rw w.in-Ok.is refl)
      | in-Err w ↦
          w.result-is
          ∙ (rw (w.in-Err.is, w.at.ensures, ← ap (λ (v : StreamView). v.place) c.self.view_is) refl)
    ] in
    rw is (c.receive_bytes.ensures.receives start before k)

pub returns-clause-memory : goal.returns-clause-memory
returns-clause-memory g c e =
    let is : c.match-receive_bytes.result ≡ answer_at c.receive_bytes.new.self.place c.receive_bytes.result =
    elim c.match-receive_bytes.branch [
      | in-Ok w ↦ w.result-is ∙ (rw w.in-Ok.is refl)
      | in-Err w ↦
          w.result-is
          ∙ (rw (w.in-Err.is, w.at.ensures, ← ap (λ (v : StreamView). v.place) c.self.view_is) refl)
    ] in
    c.receive_bytes.ensures.memory (memory_of c.receive_bytes.new.self.place c.receive_bytes.result (sym is ∙ e))
