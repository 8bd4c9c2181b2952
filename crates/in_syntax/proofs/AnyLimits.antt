-- What no limits exceed.
use Rattle.std.proofs.Common.{◌≤◌, arith}
use Rattle.in_syntax.specs.declared.text_limits.TextLimits.{TextLimits}
use Rattle.in_syntax.specs.declared.text_limits.TextLimits.TheVariants.{Usual, Large}
use Rattle.in_syntax.specs.TextLimits.{text_limit, max_symbols, max_rules, max_free, max_agents, max_member_agents, most_bytes, most_symbols, most_rules, most_free, most_net_agents, most_member_agents}

pub text_few : (limits : TextLimits) → text_limit limits ≤ most_bytes
text_few Usual = omega arith
text_few Large = omega arith

pub symbols_few : (limits : TextLimits) → max_symbols limits ≤ most_symbols
symbols_few Usual = omega arith
symbols_few Large = omega arith

pub rules_few : (limits : TextLimits) → max_rules limits ≤ most_rules
rules_few Usual = omega arith
rules_few Large = omega arith

pub free_few : (limits : TextLimits) → max_free limits ≤ most_free
free_few Usual = omega arith
free_few Large = omega arith

pub agents_few : (limits : TextLimits) → max_agents limits ≤ most_net_agents
agents_few Usual = omega arith
agents_few Large = omega arith

pub member_agents_few : (limits : TextLimits) → max_member_agents limits ≤ most_member_agents
member_agents_few Usual = omega arith
member_agents_few Large = omega arith
