-- The errors of the dynamic table, made of those of its indexes.
use Rattle.qpack_table.specs.declared.vas.Error.{Error as IndexError}
use Rattle.qpack_table.specs.declared.vas.Error.TheVariants.{RelativeIndex, PostbaseIndex, Index}
use Rattle.qpack_table.specs.declared.dynamic.Error.{Error as TableError}
use Rattle.qpack_table.specs.declared.dynamic.Error.TheVariants.{BadRelativeIndex, BadPostbaseIndex, BadIndex}

-- an index that references no live entry
abbrev pub table_error_of_index : IndexError → TableError
table_error_of_index (RelativeIndex index) = BadRelativeIndex index
table_error_of_index (PostbaseIndex index) = BadPostbaseIndex index
table_error_of_index (Index position) = BadIndex position
