-- Refused files by hand (document 01, "The stream file"): "A refused file prints only the word refused and the number."
use Rattle.std.specs.Prelude.{◌≡◌, replicate}
use Rattle.text.specs.Lines.{bytes}
use Rattle.loss_table.specs.Text.{printed_text}

pub record RefusedSample : Type 0 where
  -- A file of 19 bytes gets 12.
  pub few_bytes : printed_text (replicate 19 0) ≡ bytes "refused 12\n"
  -- A file of 20 bytes, all 0, has L 0 and gets 1.
  pub no_windows : printed_text (replicate 20 0) ≡ bytes "refused 1\n"
