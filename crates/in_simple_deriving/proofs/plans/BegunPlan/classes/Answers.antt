use Rattle.std.proofs.Common.{sym, subst}
use Rattle.in_open_nets.specs.OpenNets.{IsAgent}
use Rattle.in_simple_deriving.specs.Progress.{Progress}
use Rattle.in_simple_deriving.proofs.Stages.{starts_classes}
use Rattle.in_simple_deriving.proofs.plans.BegunPlan.classes.Goals as goal

pub invariant_of-classes : goal.invariant_of-classes
invariant_of-classes c =
    let agent = subst (λ (s : Progress). IsAgent s.net s.node) (sym c.self.view_is) c.requires in
    starts_classes c.self.inside.wired.now c.self.inside.node c.self.inside.plan c.self.invariant agent
