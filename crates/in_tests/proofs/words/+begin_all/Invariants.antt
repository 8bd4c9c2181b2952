use Rattle.in_tests.proofs.words.+begin_all.Given as goal

abbrev pub decreases-begin_all : goal.decreases-begin_all
decreases-begin_all g l = l.count
