use Rattle.std.proofs.Common.{◌∙◌, sym, arith, inl}
use Rattle.qpack_spec.specs.Huffman.{bits_of_bytes}
use Rattle.qpack_base.proofs.TextItems.{text_passed, whole_passed, fault_passed, items_kept, front_is}
use Rattle.qpack_base.proofs.TextItems.{after_ok, after_err, after_fault}
use Rattle.qpack_base.proofs.prefix_string.push_text.Goals as goal

pub push_rest-requires-clause-room : goal.push_rest-requires-clause-room
push_rest-requires-clause-room g c = inl c.replace_with-rest.ensures.1.0

pub returns-then-is_end-clause-ok : goal.returns-then-is_end-clause-ok
returns-then-is_end-clause-ok g c =
    let push = c.replace_with-rest in
    front_is c.args.text.now.items _ push.new.dest.items
    (whole_passed (bits_of_bytes c.args.payload.now) push.result c.args.text.now.items push.new.dest.items
    push.ensures.0 (c.is_end.ensures c.if-is_end.true))

pub returns-clause-ok : goal.returns-clause-ok
returns-clause-ok g c =
    let push = c.replace_with-rest in
    let passed = text_passed (bits_of_bytes c.args.payload.now) push.result c.args.text.now.items push.new.dest.items
    push.ensures.0 in
    after_ok c.push_rest.result _ _
    (λ h. front_is c.args.text.now.items _ c.push_rest.new.text.items (sym passed ∙ h)) c.push_rest.ensures.ok

pub returns-clause-fault : goal.returns-clause-fault
returns-clause-fault g c =
    let push = c.replace_with-rest in
    after_fault c.push_rest.result _ _
    (λ e h. fault_passed (bits_of_bytes c.args.payload.now) push.result c.args.text.now.items push.new.dest.items _
    push.ensures.0 h) c.push_rest.ensures.fault

pub returns-clause-err : goal.returns-clause-err
returns-clause-err g c =
    let push = c.replace_with-rest in
    let kept = items_kept c.len-start.result (bits_of_bytes c.args.payload.now) push.result c.args.text.now.items
    push.new.dest.items push.ensures.0 (omega (arith, c.len-start.ensures, c.args.text.now.ok.0)) in
    after_err c.push_rest.result _ _ (λ h. h ∙ kept) c.push_rest.ensures.err
