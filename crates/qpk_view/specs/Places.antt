-- Where something came from, as it is printed.
use Rattle.std.specs.Prelude.{ℕ, List, codes}

-- how an object of JSON begins, which has the line that something came in
abbrev pub object_front : List ℕ
object_front = codes "{\"line\":"
