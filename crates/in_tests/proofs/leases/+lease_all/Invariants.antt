use Rattle.in_tests.proofs.leases.+lease_all.Given as goal

abbrev pub decreases-lease_all : goal.decreases-lease_all
decreases-lease_all g l = l.count
