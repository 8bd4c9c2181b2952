use Rattle.std.proofs.Common.{map, subst}
use Rattle.std.specs.String.{string_bytes}
use Rattle.std.proofs.Common.{Ok}
use Rattle.in_symbols.specs.Names.{Declares}
use Rattle.in_symbols.proofs.Maps.{declares}
use Rattle.in_symbols.proofs.names.Names.declare.Goals as goal

pub returns : goal.returns
returns c =
    let k = declares c.self.inside.set.keys c.insert.new.self.keys c.in_ok-from_str.field-0 c.in_ok-added.added c.in_ok-added.ensures.added c.in_ok-added.ensures.keys in
    subst (λ o. Declares o c.args.name.now (map string_bytes c.insert.new.self.keys) (Ok c.in_ok-added.added)) c.self.view_is
    (subst (λ n. Declares (map string_bytes c.self.inside.set.keys) n (map string_bytes c.insert.new.self.keys) (Ok c.in_ok-added.added)) c.in_ok-from_str.ensures.ok k)
