-- Which strings are coded, as the definition of codings has it (RFC 9204, section 4.1.2).
use Rattle.qpack_spec.specs.Text as text
use Rattle.qpack_base.specs.declared.prefix_string.Coding.{Coding}
use Rattle.qpack_base.specs.declared.prefix_string.Coding.TheVariants.{Always, WhereShorter}

-- the coding that a value represents
abbrev pub coding_of : Coding → text.Coding
coding_of Always = text.Always
coding_of WhereShorter = text.WhereShorter
