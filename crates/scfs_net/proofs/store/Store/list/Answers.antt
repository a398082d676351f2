use Rattle.std.proofs.Common.{◌≡◌, ℕ, List, ◌++◌, true, ap, sym, ◌∙◌, rules}
use Rattle.std.specs.Prelude.{nat_eq}
use Rattle.std.specs.List.{starts_with}
use Rattle.scfs_net.proofs.NameLemmas.{drop_filter_more}
use Rattle.scfs_net.proofs.store.Store.list.Goals as goal

pub loop-name-preserved-else-spare-eq0 : goal.loop-name-preserved-else-spare-eq0
loop-name-preserved-else-spare-eq0 c =
    let begins = λ (name : List ℕ). starts_with nat_eq name c.args.prefix.now in
    let passes : starts_with nat_eq c.in-Some.name.now c.args.prefix.now ≡ true = search rules in
    ap (λ later. c.loop-name.names ++ later)
    (sym (drop_filter_more begins c.loop-name.spare c.in-Some.name.now _ _ c.in-Some.ensures.steps passes c.if-spare-eq0.false))
    ∙ c.loop-name.invariant
