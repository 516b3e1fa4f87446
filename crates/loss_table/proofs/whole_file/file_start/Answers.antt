use Rattle.loss_table.proofs.WholeFile.{cut_read}
use Rattle.loss_table.proofs.whole_file.file_start.Goals as goal

pub returns : goal.returns
returns g c =
    rw (← c.take.ensures.inner) (cut_read (g.R.Read.remaining c.take.result.inner) 65536 c.new-file.result.items _ c.new-file.ensures.items
    (rw (← c.take.ensures.limit) c.in_ok-read_to_end.ensures.bytes))
