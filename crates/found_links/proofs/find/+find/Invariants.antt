-- `find` calls itself for the slot that its link begins in: the measure is the slot where the link ends.
use Rattle.found_links.proofs.find.+find.Given as goal

abbrev pub decreases-find : goal.decreases-find
decreases-find l = l.t
