-- A refusal and the line that tells it.
use Rattle.std.proofs.Common.{◌≡◌, ◌≢◌, ℕ, Bool, List, Option, Some, None, Result, Ok, Err, refl, sym, subst, inl, inr}
use Rattle.std.specs.Io.KnownBytes.{Appends}
use Rattle.std.specs.Prelude.{String, codes, IfSome, OnOk, OnErr}
use Rattle.qpk.specs.Refusals.{AppendsPart, AppendsPartOfSome, AppendsSome, AppendsFront, MayWantMemory, Says, TellsBy}
use Rattle.qpk.specs.Refusals.{refusal_line}
use Rattle.qpack_codec.specs.declared.error.DecoderError.{DecoderError}
use Rattle.qpk.specs.Serving.{HasStatus, TellsFound, HasFault, EndsFor, EndsForCommand, Stops, IsInspection, input_of}
use Rattle.qpk.specs.Serving.{Answers, AnswersInput, IsBeyond, IsShow, MayFind, MayHaveFound, Prints, StopsReply}
use Rattle.qpk.specs.Serving.{SaysNote, StopsShowing, StopsWhole, WritesPart, WritesReply}
use Rattle.qpk.specs.declared.serve.Output.{Output}
use Rattle.qpk.specs.declared.serve.Reply.{Reply}
use Rattle.qpk.specs.declared.serve.Reply.TheVariants.{Whole, Shown}
use Rattle.qpk.specs.declared.command.Command.{Command}
use Rattle.qpk.specs.declared.command.Command.TheVariants.{Help, Encode, Decode, DecodeHex, Inspect, Run, Show}
use Rattle.qpk.specs.declared.command.Command.TheVariants.{DecodeJson, EncodeLists, DecodeRecords, Version, Check}
use Rattle.qpk.specs.declared.command.Command.TheVariants.{ExplainWords, ExplainInput}
use Rattle.qpk_view.specs.declared.show.ShowOptions.{ShowOptions}
use Rattle.qpk.specs.Commands.{KeepsWord, TellsWords, WordsFault}
use Rattle.qpk.specs.declared.text.Fault.{Fault}
use Rattle.qpk.specs.declared.text.Fault.TheVariants.{Memory}
use Rattle.qpk.specs.declared.refusal.Refusal.{Refusal}
use Rattle.qpk.specs.declared.refusal.Refusal.TheVariants as refusal

-- what was written of a line is all of it, or a part
pub front_of : {A E : Type 0} (r : Result A E) (old new : Option (List ℕ)) (line : List ℕ)
    → OnOk r (Appends old new line) → OnErr r (AppendsPart old new line) → AppendsFront old new line
front_of (Ok x) old new line all part = inl all
front_of (Err e) old new line all part = inr part

-- what was said of a remark is all of it, or a part
pub note_front : {A E : Type 0} (r : Result A E) (old new : Option (List ℕ)) (note : Option (List ℕ))
    → SaysNote (Says r old new) old new note → SaysNote (AppendsFront old new) old new note
note_front r old new None says = says
note_front r old new (Some line) says = front_of r old new line says.0 says.1

-- the same of a refusal
pub told_front : {A E : Type 0} (r : Result A E) (old new : Option (List ℕ)) (refused : Refusal)
    → TellsBy refused (Says r old new) → TellsBy refused (AppendsFront old new)
told_front r old new refused told = (told.0, told.1, front_of r old new (refusal_line told.0) told.2.0 told.2.1)

pub told_as : (r : Refusal) (P : List ℕ → Type 0) (written : List ℕ) → written ≡ refusal_line r → P written
    → TellsBy r P
told_as r P written e wrote = (r, inl refl, subst P e wrote)

pub told_of_memory : (r : Refusal) (P : List ℕ → Type 0) (written : List ℕ) → written
    ≡ codes "qpk: refused: memory\n" → MayWantMemory r → P written → TellsBy r P
told_of_memory r P written e may wrote = (refusal.Fault Memory, inr (may, refl), subst P e wrote)

memory_has : (command : Command) (bytes : List ℕ) → HasFault command bytes Memory
memory_has (Help topic) bytes = refl
memory_has Version bytes = refl
memory_has Encode bytes = tt
memory_has (Decode limit) bytes = tt
memory_has (DecodeHex limit) bytes = tt
memory_has (DecodeJson limit) bytes = tt
memory_has (Inspect capacity) bytes = tt
memory_has (Run capacity limit) bytes = tt
memory_has (Show options) bytes = tt
memory_has (Check options) bytes = tt
memory_has (ExplainWords options) bytes = tt
memory_has (ExplainInput options) bytes = tt
memory_has (EncodeLists settings) bytes = tt
memory_has (DecodeRecords settings) bytes = tt

memory_may_be : (command : Command) (input : Option (List ℕ))
    → IfSome input (λ bytes. HasFault command bytes Memory)
memory_may_be command None = tt
memory_may_be command (Some bytes) = memory_has command bytes

-- words may as well be told by want of memory
words_memory : (r : Refusal) (fault : WordsFault) → MayWantMemory r → TellsWords r fault
    → TellsWords (refusal.Fault Memory) fault
words_memory refusal.Usage fault may tells = absurd may
words_memory (refusal.Missing topic wanted) fault may tells = (refl, subst KeepsWord (sym tells) tt)
words_memory (refusal.BadWord topic wanted word) fault may tells = (refl, subst KeepsWord (sym tells) tt)
words_memory refusal.Input fault may tells = absurd may
words_memory refusal.Output fault may tells = absurd may
words_memory refusal.Unread fault may tells = absurd may
words_memory (refusal.Fault f) fault may tells = (refl, tells.1)

-- a command that ends for a fault may as well end for want of memory
command_memory : (command : Command) (input old new : Option (List ℕ)) (r : Refusal) → MayWantMemory r
    → EndsForCommand command input old new r → EndsForCommand command input old new (refusal.Fault Memory)
command_memory command input old new refusal.Usage may ends = absurd may
command_memory command input old new (refusal.Missing topic wanted) may ends = absurd ends
command_memory command input old new (refusal.BadWord topic wanted word) may ends = absurd ends
command_memory command input old new refusal.Input may ends = absurd may
command_memory command input old new refusal.Output may ends = absurd may
command_memory command input old new refusal.Unread may ends = absurd may
command_memory command input old new (refusal.Fault fault) may (inl h) =
    inl (memory_may_be command (input_of command input), h.1)
command_memory command input old new (refusal.Fault fault) may (inr (inl h)) =
    inr (inl (h.0, h.1, inr refl, h.3, h.4, h.5))
command_memory command input old new (refusal.Fault fault) may (inr (inr h)) = inr (inr (h.0, refl, h.2))

-- a command that wants memory may end before it wrote anything
pub command_wants_memory : (command : Command) (input old : Option (List ℕ)) (fault : Fault) → fault ≡ Memory
    → EndsForCommand command input old old (refusal.Fault fault)
command_wants_memory command input old fault e =
    subst (λ (f : Fault). EndsForCommand command input old old (refusal.Fault f)) (sym e)
    (inl (memory_may_be command (input_of command input), refl))

memory_ends : {Z : Type 0} (words : List (String Z)) (input old new : Option (List ℕ)) (r : Refusal) → MayWantMemory r
    → EndsFor words input old new r → EndsFor words input old new (refusal.Fault Memory)
memory_ends words input old new r may (inl ends) =
    inl (ends.0, ends.1, words_memory r ends.0 may ends.2, ends.3)
memory_ends words input old new r may (inr ends) =
    inr (ends.0, ends.1, command_memory ends.0 input old new r may ends.2)

-- what was told is why the run ended
pub ends_told : {Z : Type 0} (words : List (String Z)) (input old new : Option (List ℕ)) (r : Refusal)
    (P : List ℕ → Type 0) → EndsFor words input old new r → TellsBy r P
    → (s : Refusal) × EndsFor words input old new s × P (refusal_line s)
ends_told words input old new r P ends (told, inl e, wrote) =
    (told, subst (EndsFor words input old new) (sym e) ends, wrote)
ends_told words input old new r P ends (told, inr (may, e), wrote) = (
  told,
  subst (EndsFor words input old new) (sym e) (memory_ends words input old new r may ends),
  wrote,
)

pub stops_inspecting : (command : Command) (bytes out : List ℕ) (e : DecoderError) → Stops command bytes out e
    → IsInspection command
stops_inspecting (Help topic) bytes out e stops = stops
stops_inspecting Version bytes out e stops = stops
stops_inspecting Encode bytes out e stops = stops
stops_inspecting (Decode limit) bytes out e stops = stops
stops_inspecting (DecodeHex limit) bytes out e stops = stops
stops_inspecting (DecodeJson limit) bytes out e stops = stops
stops_inspecting (Inspect capacity) bytes out e stops = tt
stops_inspecting (Run capacity limit) bytes out e stops = stops
stops_inspecting (Show options) bytes out e stops = stops
stops_inspecting (Check options) bytes out e stops = stops
stops_inspecting (ExplainWords options) bytes out e stops = stops
stops_inspecting (ExplainInput options) bytes out e stops = stops
stops_inspecting (EncodeLists settings) bytes out e stops = stops
stops_inspecting (DecodeRecords settings) bytes out e stops = stops

-- a status that is not 0 tells that something was refused or found
pub found_of : (command : Command) (status : ℕ) → HasStatus command status → status ≢ 0 → TellsFound command status
found_of command status (inl none) other = absurd (other none)
found_of command status (inr found) other = found

-- what an inspection stops at is the input, where that is known
pub inspected_input : (command : Command) (input : Option (List ℕ)) (bytes out : List ℕ) (e : DecoderError)
    → IsInspection command → IfSome (input_of command input) (λ all. bytes ≡ all) → Stops command bytes out e
    → IfSome input (λ all. Stops command all out e)
inspected_input (Inspect capacity) None bytes out e is read stops = tt
inspected_input (Inspect capacity) (Some all) bytes out e is read stops =
    subst (λ (b : List ℕ). Stops (Inspect capacity) b out e) read stops
inspected_input (Help topic) input bytes out e is read stops = absurd is
inspected_input Version input bytes out e is read stops = absurd is
inspected_input Encode input bytes out e is read stops = absurd is
inspected_input (Decode limit) input bytes out e is read stops = absurd is
inspected_input (DecodeHex limit) input bytes out e is read stops = absurd is
inspected_input (DecodeJson limit) input bytes out e is read stops = absurd is
inspected_input (Run capacity limit) input bytes out e is read stops = absurd is
inspected_input (Show options) input bytes out e is read stops = absurd is
inspected_input (Check options) input bytes out e is read stops = absurd is
inspected_input (ExplainWords options) input bytes out e is read stops = absurd is
inspected_input (ExplainInput options) input bytes out e is read stops = absurd is
inspected_input (EncodeLists settings) input bytes out e is read stops = absurd is
inspected_input (DecodeRecords settings) input bytes out e is read stops = absurd is

-- what holds for each command that shows a connection
of_show : (P : Command → Type 0) → ((options : ShowOptions) → P (Show options)) → (command : Command) → IsShow command
    → P command
of_show P holds (Show options) is = holds options
of_show P holds (Help topic) is = absurd is
of_show P holds Version is = absurd is
of_show P holds Encode is = absurd is
of_show P holds (Decode limit) is = absurd is
of_show P holds (DecodeHex limit) is = absurd is
of_show P holds (DecodeJson limit) is = absurd is
of_show P holds (Inspect capacity) is = absurd is
of_show P holds (Run capacity limit) is = absurd is
of_show P holds (Check options) is = absurd is
of_show P holds (ExplainWords options) is = absurd is
of_show P holds (ExplainInput options) is = absurd is
of_show P holds (EncodeLists settings) is = absurd is
of_show P holds (DecodeRecords settings) is = absurd is

-- what is shown is answered by whatever was written
shown_by : (options : ShowOptions) (input old new : Option (List ℕ)) → AppendsSome old new
    → IfSome input (λ bytes. (out : List ℕ) × Answers (Show options) bytes out × Appends old new out)
shown_by options None old new wrote = tt
shown_by options (Some bytes) old new (out, wrote) = (out, tt, wrote)

pub shown_answers : (command : Command) (input old new : Option (List ℕ)) → IsShow command → AppendsSome old new
    → IfSome (input_of command input) (λ bytes. (out : List ℕ) × Answers command bytes out × Appends old new out)
shown_answers command input old new is wrote =
    of_show
    (λ c. IfSome (input_of c input) (λ bytes. (out : List ℕ) × Answers c bytes out × Appends old new out))
    (λ options. shown_by options input old new wrote) command is

part_by : (options : ShowOptions) (input old new : Option (List ℕ)) → AppendsPartOfSome old new
    → WritesPart (Show options) input old new
part_by options None old new part = tt
part_by options (Some bytes) old new (out, part) = (out, None, tt, part)

shown_part : (command : Command) (input old new : Option (List ℕ)) → IsShow command → AppendsPartOfSome old new
    → IsBeyond command × WritesPart command input old new
shown_part command input old new is part =
    of_show (λ c. IsBeyond c × WritesPart c input old new) (λ options. (tt, part_by options input old new part)) command is

-- why showing ended early is why the command did
pub shown_ends : (command : Command) (input old new : Option (List ℕ)) (r : Refusal) → IsShow command
    → StopsShowing old new r → EndsForCommand command input old new r
shown_ends command input old new r is (inl (inl e, part)) =
    subst (EndsForCommand command input old new) (sym e) (shown_part command input old new is part).1
shown_ends command input old new r is (inl (inr e, part)) =
    subst (EndsForCommand command input old new) (sym e) (shown_part command input old new is part)
shown_ends command input old new r is (inr (e, some)) =
    subst (EndsForCommand command input old new) (sym e) (inr (inr (is, refl, some)))

known_part : (known : Option (List ℕ)) (command : Command) (old new : Option (List ℕ)) (bytes out : List ℕ)
    (refused : Option DecoderError) → IfSome known (λ all. bytes ≡ all) → Prints command bytes out refused
    → AppendsPart old new out
    → IfSome known (λ all. (o : List ℕ) × (e : Option DecoderError) × Prints command all o e × AppendsPart old new o)
known_part None command old new bytes out refused read prints part = tt
known_part (Some all) command old new bytes out refused read prints part =
    (out, refused, subst (λ (b : List ℕ). Prints command b out refused) read prints, part)

-- a part of an output was written
whole_part : (command : Command) (input old new : Option (List ℕ)) (bytes out : List ℕ)
    (refused : Option DecoderError) → IfSome (input_of command input) (λ all. bytes ≡ all)
    → Prints command bytes out refused → AppendsPart old new out → WritesPart command input old new
whole_part command input old new bytes out refused read prints part =
    known_part (input_of command input) command old new bytes out refused read prints part

-- why writing a whole output ended is why the command did
pub whole_ends : (command : Command) (input old new : Option (List ℕ)) (bytes : List ℕ) (whole : Output) (r : Refusal)
    → IfSome (input_of command input) (λ all. bytes ≡ all) → Prints command bytes whole.bytes.items whole.refused
    → StopsWhole command whole old new r → EndsForCommand command input old new r
whole_ends command input old new bytes whole r read prints (inl (inl e, part)) =
    subst (EndsForCommand command input old new) (sym e)
    (whole_part command input old new bytes whole.bytes.items whole.refused read prints part)
whole_ends command input old new bytes whole r read prints (inl (inr (e, beyond), part)) =
    subst (EndsForCommand command input old new) (sym e)
    (beyond, whole_part command input old new bytes whole.bytes.items whole.refused read prints part)
whole_ends command input old new bytes whole r read prints (inr (refused, e, stops, wrote)) =
    let stopped : Stops command bytes whole.bytes.items refused =
    subst (Prints command bytes whole.bytes.items) stops prints in
    let is = stops_inspecting command bytes whole.bytes.items refused stopped in
    subst (EndsForCommand command input old new) (sym e)
    (inr (inl (
      is,
      refused,
      inl refl,
      whole.bytes.items,
      wrote,
      inspected_input command input bytes whole.bytes.items refused is read stopped,
    )))

known_answers : (known : Option (List ℕ)) (command : Command) (old new : Option (List ℕ)) (bytes out : List ℕ)
    → IfSome known (λ all. bytes ≡ all) → Answers command bytes out → Appends old new out
    → IfSome known (λ all. (o : List ℕ) × Answers command all o × Appends old new o)
known_answers None command old new bytes out read answers wrote = tt
known_answers (Some all) command old new bytes out read answers wrote =
    (out, subst (λ (b : List ℕ). Answers command b out) read answers, wrote)

-- an answer that was written is that of the command
pub reply_answers : (command : Command) (input old new : Option (List ℕ)) (bytes : List ℕ) (reply : Reply) (found : Bool)
    → IfSome (input_of command input) (λ all. bytes ≡ all) → AnswersInput command bytes (Ok reply)
    → WritesReply reply old new found
    → IfSome (input_of command input) (λ all. (out : List ℕ) × Answers command all out × Appends old new out)
reply_answers command input old new bytes (Whole a) found read answers (is, none, wrote) =
    known_answers (input_of command input) command old new bytes a.bytes.items read
    (subst (Prints command bytes a.bytes.items) none answers) wrote
reply_answers command input old new bytes (Shown showing) found read answers wrote =
    shown_answers command input old new answers wrote

-- why writing an answer ended is why the command did
pub reply_ends : (command : Command) (input old new : Option (List ℕ)) (bytes : List ℕ) (reply : Reply) (r : Refusal)
    → IfSome (input_of command input) (λ all. bytes ≡ all) → AnswersInput command bytes (Ok reply)
    → StopsReply command reply old new r → EndsForCommand command input old new r
reply_ends command input old new bytes (Whole a) r read answers stops =
    whole_ends command input old new bytes a r read answers stops
reply_ends command input old new bytes (Shown showing) r read answers stops =
    shown_ends command input old new r answers stops

-- what is found in an answer may be found in that of the command
pub reply_may_find : (command : Command) (old new : Option (List ℕ)) (reply : Reply) (found : Bool)
    → MayHaveFound command reply → WritesReply reply old new found → MayFind command found
reply_may_find command old new (Whole a) found may wrote = subst (MayFind command) (sym wrote.0) may
reply_may_find command old new (Shown showing) found may wrote =
    of_show (λ c. MayFind c found) (λ options. tt) command may
