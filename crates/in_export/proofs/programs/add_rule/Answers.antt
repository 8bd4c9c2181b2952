use Rattle.std.proofs.Common.{◌++◌, codes, sym, ap, ◌∙◌}
use Rattle.in_check.specs.declared.checked.Item.TheVariants.{RuleItem}
use Rattle.in_export.specs.Programs.{both_members_text, item_text, rule_text}
use Rattle.in_export.proofs.Arrays.{then_more}
use Rattle.in_export.proofs.programs.add_rule.Goals as goal

pub returns : goal.returns
returns c =
    let p = c.args.checked.now in
    let r = c.rule-rule.result.now in
    let old = c.args.bytes.now.items in
    let end = c.push-3.new.self.items in
    let steps = item_text p (RuleItem c.args.number) in
    then_more old c.push.new.self.items end (codes "{") (both_members_text r ++ (codes "," ++ (steps ++ codes "}"))) c.in_ok-push.ensures.items
    (then_more c.push.new.self.items c.add_both_members.new.bytes.items end (both_members_text r) (codes "," ++ (steps ++ codes "}")) c.in_ok-add_both_members.ensures
    (then_more c.add_both_members.new.bytes.items c.push-2.new.self.items end (codes ",") (steps ++ codes "}") c.in_ok-push-2.ensures.items
    (then_more c.push-2.new.self.items c.add_item.new.bytes.items end steps (codes "}") c.in_ok-add_item.ensures c.in_ok-push-3.ensures.items)))
    ∙ ap (λ z. old ++ rule_text p c.args.number.0 z) (sym c.rule-rule.ensures)
