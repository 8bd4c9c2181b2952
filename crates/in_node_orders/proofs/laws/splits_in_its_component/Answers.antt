use Rattle.in_node_orders.proofs.Components.{component_of, splits_larger, splits_smaller}
use Rattle.in_node_orders.proofs.laws.splits_in_its_component.Goals as goal

pub returns : goal.returns
returns c = λ o s d n part here. (
  (λ h. splits_larger o d s n (component_of o s d part) here h),
  λ h. splits_smaller o d s n (component_of o s d part).inside h,
)
