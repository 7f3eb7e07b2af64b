-- What it means that an error is reported.
use Rattle.std.specs.Prelude.{◌≡◌, Option, Some, None, Result, Err}

-- what was read is refused for this reason, of which there is one
abbrev pub IsRefusedFor : {A E : Type 0} → Result A E → Option E → Type 0
IsRefusedFor read (Some reason) = read ≡ Err reason
IsRefusedFor read None = ⊥
