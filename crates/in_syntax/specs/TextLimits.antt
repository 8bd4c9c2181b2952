-- The limits on a text and on what it declares, usual and large ones. All are this project's own choice.
use Rattle.std.specs.Prelude.{ℕ}
use Rattle.in_syntax.specs.declared.text_limits.TextLimits.{TextLimits}
use Rattle.in_syntax.specs.declared.text_limits.TextLimits.TheVariants.{Usual, Large}

-- the greatest number of bytes of a text
abbrev pub text_limit : TextLimits → ℕ
text_limit Usual = 1_048_576
text_limit Large = 67_108_864

-- the greatest number of symbols, of rules and of free names
abbrev pub max_symbols : TextLimits → ℕ
max_symbols Usual = 512
max_symbols Large = 4096

abbrev pub max_rules : TextLimits → ℕ
max_rules Usual = 4096
max_rules Large = 65_536

abbrev pub max_free : TextLimits → ℕ
max_free Usual = 256
max_free Large = 4096

-- the greatest number of agents of the net, and of a right member
abbrev pub max_agents : TextLimits → ℕ
max_agents Usual = 4000
max_agents Large = 1_048_576

abbrev pub max_member_agents : TextLimits → ℕ
max_member_agents Usual = 64
max_member_agents Large = 1024

-- the same numbers by any limits
abbrev pub most_bytes : ℕ
most_bytes = 67_108_864

abbrev pub most_symbols : ℕ
most_symbols = 4096

abbrev pub most_rules : ℕ
most_rules = 65_536

abbrev pub most_free : ℕ
most_free = 4096

abbrev pub most_net_agents : ℕ
most_net_agents = 1_048_576

abbrev pub most_member_agents : ℕ
most_member_agents = 1024
