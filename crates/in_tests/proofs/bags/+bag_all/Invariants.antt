use Rattle.in_tests.proofs.bags.+bag_all.Given as goal

abbrev pub decreases-bag_all : goal.decreases-bag_all
decreases-bag_all g l = l.count
