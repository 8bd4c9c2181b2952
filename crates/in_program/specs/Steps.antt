-- The lines of derivations: for each rule its heads' names and its steps, and then the net's steps. They are this project's own
-- choice.
use Rattle.std.specs.Prelude.{ℕ, suc, List, [], ◌∷◌, ◌++◌, codes, decimal, Option, Some, None}
use Rattle.in_symbols.specs.Names.{name_in}
use Rattle.in_symbols.specs.Tables.{Tables}
use Rattle.in_net.specs.Rules.{RuleParts}
use Rattle.in_open_nets.specs.declared.open_nets.Node.{Node}
use Rattle.in_open_nets.specs.declared.open_nets.Node.TheVariants.{AgentNode, ClassNode}
use Rattle.in_open_nets.specs.declared.derivations.Step.{Step}
use Rattle.in_open_nets.specs.declared.derivations.Step.TheVariants.{Empty, Link, Given, Graft, Cut, Mix}
use Rattle.in_open_nets.specs.OpenNets.{OpenNet, node_in}
use Rattle.in_check.specs.declared.checked.Certificate.{Certificate}
use Rattle.in_check.specs.Programs.{Certified}
use Rattle.in_program.specs.Lines.{line_end}

-- the name of an agent's symbol; of a class node the name of its head's symbol and the class
abbrev pub node_text : Tables → Option Node → List ℕ
node_text t None = []
node_text t (Some (AgentNode s)) = name_in s.0 t.names
node_text t (Some (ClassNode s c)) = name_in s.0 t.names ++ (codes " " ++ decimal c)

-- each number after a space
abbrev pub numbers_text : List ℕ → List ℕ
numbers_text [] = []
numbers_text (n ∷ ns) = codes " " ++ (decimal n ++ numbers_text ns)

abbrev pub step_text : Tables → OpenNet → Step → List ℕ
step_text t o Empty = codes "empty"
step_text t o (Link w) = codes "link"
step_text t o (Given n) = codes "given " ++ node_text t (node_in o n)
step_text t o (Graft n steps) = codes "graft " ++ (node_text t (node_in o n) ++ numbers_text steps)
step_text t o (Cut w a b) = codes "cut" ++ numbers_text (a ∷ b ∷ [])
step_text t o (Mix a b) = codes "mix" ++ numbers_text (a ∷ b ∷ [])

-- a line for each step, from number k on
abbrev pub lines_from : Tables → OpenNet → ℕ → List Step → List ℕ
lines_from t o k [] = []
lines_from t o k (s ∷ ss) = decimal k ++ (codes " " ++ (step_text t o s ++ (line_end ++ lines_from t o (suc k) ss)))

abbrev pub certificate_lines : Tables → Certificate → List ℕ
certificate_lines t c = lines_from t c.shape 0 c.derivation.steps

-- the names of a rule's heads as they are written
abbrev pub heads_line : Tables → RuleParts → List ℕ
heads_line t p = codes "rule " ++ (name_in p.written.0.0 t.names ++ (codes " " ++ (name_in p.written.1.0 t.names ++ line_end)))

abbrev pub rule_lines : Tables → RuleParts → Certificate → List ℕ
rule_lines t p c = heads_line t p ++ certificate_lines t c

abbrev pub rules_lines : Tables → List RuleParts → List Certificate → List ℕ
rules_lines t [] cs = []
rules_lines t (p ∷ ps) [] = []
rules_lines t (p ∷ ps) (c ∷ cs) = rule_lines t p c ++ rules_lines t ps cs

abbrev pub net_lines : Tables → Certificate → List ℕ
net_lines t c = codes "net" ++ (line_end ++ certificate_lines t c)

abbrev pub derivation_lines : Certified → List ℕ
derivation_lines c = rules_lines c.program.tables c.program.rules c.rule_certificates ++ net_lines c.program.tables c.net_certificate
