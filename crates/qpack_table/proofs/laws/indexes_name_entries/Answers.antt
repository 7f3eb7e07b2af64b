use Rattle.qpack_table.proofs.Entries.{live_is_there, there_is_live, at_position, recent_is_entry, relative_at_position}
use Rattle.qpack_table.proofs.Entries.{relative_dropped, post_base_is_entry}
use Rattle.qpack_table.proofs.laws.indexes_name_entries.Goals as goal

pub returns-clause-positions : goal.returns-clause-positions
returns-clause-positions c = λ w absolute.
    ((there_is_live w absolute, live_is_there w absolute), at_position w absolute)

pub returns-clause-recent : goal.returns-clause-recent
returns-clause-recent c = recent_is_entry

pub returns-clause-relative : goal.returns-clause-relative
returns-clause-relative c = λ w base relative. (relative_at_position w base relative, relative_dropped w base relative)

pub returns-clause-post_base : goal.returns-clause-post_base
returns-clause-post_base c = post_base_is_entry
