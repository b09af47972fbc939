use Rattle.queue_pop.proofs.departures.+pop_from.Given as goal

abbrev pub decreases-pop_from : goal.decreases-pop_from
decreases-pop_from l = l.left
