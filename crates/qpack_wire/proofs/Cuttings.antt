-- The lines of a byte list are one list, so that cutting the bytes into pieces changes nothing.
use Rattle.std.proofs.Common.{◌≡◌, ℕ, List, [], ◌∷◌, ◌++◌, Option, refl, sym, ap, subst, ◌∙◌, append_assoc, append-nil}
use Rattle.qpack_spec.specs.Form.{Form, Spells}
use Rattle.qpack_spec.specs.Instruction.{SpellsEncoderInstruction}
use Rattle.qpack_spec.specs.Instruction.{SpellsDecoderInstruction, encoder_instruction_form}
use Rattle.qpack_spec.specs.Instruction.{decoder_instruction_form}
use Rattle.qpack_spec.specs.Stream.{SpellsAll, IsCutOff, Holds}
use Rattle.qpack_spec.proofs.Cuttings.{wire, nil_append, joined_append, one_reading}
use Rattle.qpack_wire.specs.Cuttings.{joined_pieces, ReadInPieces, CuttingChangesNothing}

in_pieces : (L : Type 0) (spells : List ℕ → L → Type 0) (pieces : List (List ℕ)) (unread : List ℕ) (lines : List L)
    (rest : List ℕ)
    → IsCutOff spells unread → ReadInPieces spells unread pieces lines rest
    → Holds L spells (unread ++ joined_pieces pieces) lines rest
in_pieces L spells [] unread lines rest c h =
    record {
      front = [];
      cut = append-nil unread ∙ sym h.1;
      joined = subst (λ (x : List L). SpellsAll spells [] x) (sym h.0) refl;
      cut_off = subst (IsCutOff spells) (sym h.1) c;
    }
in_pieces L spells (piece ∷ pieces) unread lines rest c h =
    let first = h.3 in
    let more = in_pieces L spells pieces h.1 h.2 rest first.cut_off h.4 in
    let parts : unread ++ (piece ++ joined_pieces pieces) ≡ (first.front ++ more.front) ++ rest =
    sym (append_assoc unread piece (joined_pieces pieces)) ∙ ap (λ x. x ++ joined_pieces pieces) first.cut
    ∙ append_assoc first.front h.1 (joined_pieces pieces) ∙ ap (λ x. first.front ++ x) more.cut
    ∙ sym (append_assoc first.front more.front rest) in
    record {
      front = first.front ++ more.front;
      cut = parts;
      joined = subst (λ (x : List L). SpellsAll spells (first.front ++ more.front) x) (sym h.5)
          (joined_append spells first.front more.front h.0 h.2 first.joined more.joined);
      cut_off = more.cut_off;
    }

-- what the pieces hold is one reading of the whole, and the whole has but one
any_cutting : {L : Type 0} (form_of : ℕ → Option (Form L))
    → CuttingChangesNothing (λ encoding l. Spells L form_of encoding l)
any_cutting {L} form_of pieces lines whole rest left h w =
    let spells : List ℕ → L → Type 0 = λ encoding l. Spells L form_of encoding l in
    let nothing : IsCutOff spells [] = λ encoding more l e s. (wire form_of).spells_some l
    (subst (λ (x : List ℕ). spells x l) (nil_append encoding more (sym e)) s) in
    let all = in_pieces L spells pieces [] lines rest nothing h in
    one_reading spells (wire form_of) lines whole all.front w.front rest left all.joined w.joined all.cut_off w.cut_off
    (sym all.cut ∙ w.cut)

pub instructions_any_cutting : CuttingChangesNothing SpellsEncoderInstruction
instructions_any_cutting = any_cutting encoder_instruction_form

pub decoder_instructions_any_cutting : CuttingChangesNothing SpellsDecoderInstruction
decoder_instructions_any_cutting = any_cutting decoder_instruction_form
