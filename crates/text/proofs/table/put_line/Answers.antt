-- `put_line` puts the slot and then the counts.
use Rattle.text.specs.Lines.{line}
use Rattle.text.proofs.Put.{put_then}
use Rattle.text.proofs.table.put_line.Goals as goal

pub returns : goal.returns
unfolding line
returns c =
    put_then c.put_number-place.ensures c.put_counts.ensures
