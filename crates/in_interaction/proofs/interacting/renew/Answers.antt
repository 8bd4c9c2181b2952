use Rattle.std.proofs.Common.{◌≡◌, ℕ, false, List, [], sym, subst}
use Rattle.in_interaction.specs.After.{IsAfter}
use Rattle.in_net.specs.Renewing.{Rejoins}
use Rattle.in_interaction.specs.Following.{SiteParts, IsSite}
use Rattle.in_interaction.specs.Interacting.{Interacts}
use Rattle.in_interaction.specs.Listing.{AreListed, unlisted}
use Rattle.in_net.specs.Parts.{Parts, IsWhole, as_built}
use Rattle.in_net.specs.Rules.{RuleParts}
use Rattle.in_interaction.specs.declared.interacting.After.{After}
use Rattle.in_net.specs.declared.nets.AgentNo.{AgentNo}
use Rattle.in_net.specs.declared.nets.FreeEnd.{FreeEnd}
use Rattle.in_net.specs.declared.nets.Point.{Point}
use Rattle.in_interaction.proofs.Stepping.Cells.{all_rejoined, ends_rejoined}
use Rattle.in_interaction.proofs.Stepping.Outcome.{whole, interacts}
use Rattle.in_interaction.proofs.interacting.renew.Goals as goal

listed_of : (s : SiteParts) (a : After) (free : List FreeEnd) → IsAfter s a → Rejoins a.ends s.net.free free → AreListed (unlisted a.cells free) (λ p. Unit {0}) a.wires
listed_of s a free after new = after.listed free (ends_rejoined a.ends s.net.free free after.ends.many new)

abbrev site_of : Parts → RuleParts → AgentNo → AgentNo → ℕ → List AgentNo → SiteParts
site_of n r a b first names = record { net = n; rule = r; one = a; two = b; first = first; names = names }

-- the net with the new agents and wires, and with its free ends joined anew, is whole, and is that of the definition
renewed : (s : SiteParts) (x : After) (free : List FreeEnd) → IsSite s → IsAfter s x → Rejoins x.ends s.net.free free →
    IsWhole (record (as_built x.cells free x.wires []) { built = false }) × Interacts s.net s.rule s.one s.two (record (as_built x.cells free x.wires []) { built = false })
renewed s x free site is new =
    let frees = all_rejoined s x.ends free is.ends new in
    let listed = listed_of s x free is new in
    (whole s site x.cells free x.wires is.count is.cells frees listed, interacts s site x.cells free x.wires is.count is.cells frees listed)

-- .. if the partners are a slice
rejoins : (ends slice : List Point) (old free : List FreeEnd) → slice ≡ ends → Rejoins slice old free → Rejoins ends old free
rejoins ends slice old free e new = subst (λ (ps : List Point). Rejoins ps old free) e new

pub renew-requires-clause-whole : goal.renew-requires-clause-whole
renew-requires-clause-whole c =
    λ free new.
    let n = c.args.net.now in
    let x = c.requires.3 in
    let after : After = c.args.after in
    (renewed (site_of n c.requires.0 c.requires.1 c.requires.2 x.first x.names) after free x.site x.after (rejoins after.ends c.as_slice.result.now n.free free c.as_slice.ensures new)).0

pub returns : goal.returns
returns c =
    λ r a b x.
    let n = c.args.net.now in
    let after : After = c.args.after in
    let is = c.renew.ensures in
    subst (λ (m : Parts). Interacts n r a b m) (sym is.2)
    (renewed (site_of n r a b x.first x.names) after is.0 x.site x.after (rejoins after.ends c.as_slice.result.now n.free is.0 c.as_slice.ensures is.1)).1
