-- `counts_at` reads a slot's counts and works what is held after it.
use Rattle.std.proofs.Common.{rules}
use Rattle.text.proofs.table.Lists.counts_at.Goals as goal

pub returns : goal.returns
returns c =
    record {
      arrives = search rules;
      admits = search rules;
      drops = search rules;
      departs = search rules;
      holds = search rules;
      arrives_fits = search rules;
      admits_fits = search rules;
      drops_fits = search rules;
      departs_fits = search rules;
    }
