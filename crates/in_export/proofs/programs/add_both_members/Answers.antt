use Rattle.std.proofs.Common.{◌++◌, codes, ap, ◌∙◌}
use Rattle.in_export.specs.Parts.{graph_text}
use Rattle.in_export.specs.Programs.{heads_text}
use Rattle.in_export.proofs.Arrays.{then_more}
use Rattle.in_export.proofs.programs.add_both_members.Goals as goal

pub returns : goal.returns
returns c =
    let r = c.args.rule.now in
    let old = c.args.bytes.now.items in
    let end = c.add_graph.new.bytes.items in
    then_more old c.add_heads.new.bytes.items end (heads_text r.heads) (codes "," ++ graph_text r.member) (c.in_ok-add_heads.ensures ∙ ap (λ z. old ++ heads_text z) c.heads.ensures)
    (then_more c.add_heads.new.bytes.items c.push.new.self.items end (codes ",") (graph_text r.member) c.in_ok-push.ensures.items
    (c.in_ok-add_graph.ensures ∙ ap (λ z. c.push.new.self.items ++ graph_text z) c.member.ensures))
