use Rattle.in_tests.proofs.leases.+one_back.Given as goal

abbrev pub decreases-one_back : goal.decreases-one_back
decreases-one_back g l = l.count
