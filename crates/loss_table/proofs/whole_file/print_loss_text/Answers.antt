use Prim.Native.Nat.{ℕ}
use lib.ListN.{replicate, length-replicate}
use Rattle.std.specs.Io.KnownBytes.{Appends}
use Rattle.loss_table.proofs.WholeFile.{whole_written, text_sent}
use Rattle.loss_table.proofs.whole_file.print_loss_text.Goals as goal

pub returns : goal.returns
returns g c =
    whole_written c.write_all.result (g.R.Read.remaining c.args.reader) c.in_ok-file.file.items _
    (Appends (g.W.Write.contents c.args.out.now) (g.W.Write.contents c.write_all.new.self))
    c.in_ok-file.ensures
    (text_sent (replicate 262272 0) c.loss_text-length.new.out c.in_ok-file.file.items c.loss_text-length.result (length-replicate {A = ℕ} 262272 0) (rw (← c.deref.ensures.value) c.loss_text-length.ensures))
    c.write_all.ensures.bytes
