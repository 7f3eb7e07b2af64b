use Rattle.std.proofs.Common.{List, ℕ, ◌++◌, length, ap, ◌∙◌}
use Rattle.std.specs.Int.{w32, w64, to_be_bytes}
use Rattle.qpk_qif.proofs.RecordBytes.{pushed}
use Rattle.qpk_qif.proofs.recording.push_record.Goals as goal

pub returns : goal.returns
returns c =
    pushed c.args.out.now.items c.extend_from_slice.new.self.items c.extend_from_slice-2.new.self.items
    c.extend_from_slice-3.new.self.items (to_be_bytes w64 c.args.stream) (to_be_bytes w32 (length c.args.bytes.now))
    c.args.bytes.now
    (c.in_ok-extend_from_slice.ensures.items ∙ ap (λ (t : List ℕ). c.args.out.now.items ++ t) c.to_be_bytes.ensures)
    (c.in_ok-extend_from_slice-2.ensures.items
    ∙ ap (λ (t : List ℕ). c.extend_from_slice.new.self.items ++ t) c.to_be_bytes-2.ensures)
    c.in_ok-extend_from_slice-3.ensures.items
