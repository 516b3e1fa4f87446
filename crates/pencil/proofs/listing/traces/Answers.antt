-- `traces` is small.
use Rattle.std.proofs.Common.{arith}
use Rattle.pencil.proofs.FilledListing.{four_small}
use Rattle.pencil.proofs.listing.traces.Goals as goal

pub pow-requires : goal.pow-requires
pow-requires c = omega (arith, four_small c.args.slots c.requires)

pub returns : goal.returns
returns c = (c.pow.ensures, omega (arith, c.pow.ensures, four_small c.args.slots c.requires))
