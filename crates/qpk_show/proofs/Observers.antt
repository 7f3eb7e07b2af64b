-- What an onlooker is shown of a section.
use Rattle.std.proofs.Common.{◌≡◌, ℕ, refl}
use Rattle.qpk_show.specs.Sections.{Reading}
use Rattle.qpk_show.specs.Showing.{Arrived, Observed, Section, is_waiting, section_read}
use Rattle.qpk_show.specs.Answers.{IsReading}
use Rattle.qpk_show.specs.declared.section.Reading.{Reading as ReadSection}
use Rattle.qpk_show.specs.declared.section.Reading.TheVariants as read

-- a section that does not wait is shown
pub shown_unless_blocked : (o : Observed) (index : ℕ) (a : Arrived) (reading : ReadSection) (r : Reading)
    → IsReading reading r → ((n : ℕ) → reading ≡ read.Blocked n → ⊥)
    → section_read o index a r ≡ (Section a.stream (is_waiting a) r, o)
shown_unless_blocked o index a (read.Lines required base lines stop) r is not = rw is.2 refl
shown_unless_blocked o index a (read.Blocked required) r is not = absurd (not required refl)
shown_unless_blocked o index a (read.Refused e) r is not = rw is.2 refl
