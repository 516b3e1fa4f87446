-- `put_list` puts a row without a word.
use Rattle.row_lines.specs.Lines.{labelled}
use Rattle.row_lines.proofs.put_list.Goals as goal

pub returns : goal.returns
unfolding labelled
returns c = c.put_row.ensures
