use Rattle.std.proofs.Common.{◌≡◌, ◌++◌, drop}
use Rattle.std.specs.Prelude.{filter, nat_eq}
use Rattle.std.specs.List.{starts_with}
use Rattle.scfs_base.specs.Limits.{names_limit}
use Rattle.scfs_net.specs.Store.{names_with, last_of}
use Rattle.scfs_net.proofs.store.Store.list.Given as goal

-- the names so far, and those to come but for the spare ones, are the last names of all
abbrev pub invariant-loop-name : goal.invariant-loop-name
invariant-loop-name l =
    l.names ++ drop l.spare (filter (λ name. starts_with nat_eq name l.prefix) l.name-iterator)
    ≡ last_of names_limit (names_with l.self l.prefix)
