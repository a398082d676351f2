use Rattle.std.proofs.Common.{◌≢◌, ℕ, ◌<◌, ◌^◌, List, [], ◌∷◌, length, Option, Some, None, Ok, Err, refl, sym, subst, arith}
use Rattle.std.specs.Option.{option_map}
use Rattle.scfs_base.specs.declared.naming.FileId.{FileId}
use Rattle.scfs_base.specs.declared.naming.RequestNo.{RequestNo}
use Rattle.scfs_schedule.specs.declared.types.Kind.{Kind}
use Rattle.scfs_schedule.specs.declared.types.Kind.TheVariants as kinds
use Rattle.scfs_schedule.specs.declared.types.Refusal.TheVariants as refusals
use Rattle.scfs_model.specs.Tree.{Node, Lock, node_in, session_lock}
use Rattle.scfs_model.specs.Walks.{OrRefusal}
use Rattle.scfs_model.specs.NameSteps.{Make, Look, made, new_file, name_outcome}
use Rattle.scfs_model.specs.LockSteps.{Lock_step, Unlock, Unlock_all, Renew, frees, renewed, lock_outcome}
use Rattle.scfs_anchor.specs.Shapes.{root}
use Rattle.scfs_anchor.specs.Tree as anchor
use Rattle.scfs_anchor.specs.Tree.{Entry, Each, IsEntry, IsTree}
use Rattle.scfs_anchor.specs.Items.{Item, node_said, entries_of, nodes}
use Rattle.scfs_anchor.specs.StepPlans.{last_name}
use Rattle.scfs_anchor.specs.StepReplies.{FitsNames, FitsLocks}
use Rattle.scfs_anchor.proofs.OpenLemmas.{NodeFits, node_fits}
use Rattle.scfs_anchor.proofs.ItemLemmas.{node_found}
use Rattle.scfs_anchor.proofs.ItemWalks.{on_from, directory_at}
use Rattle.scfs_anchor.proofs.MakeLemmas.{made_in, make_walks}
use Rattle.scfs_anchor.proofs.LookLemmas.{shown, shown_in, look_walks}
use Rattle.scfs_anchor.proofs.ListLemmas.{short_filter}

-- The numbers of what steps on names and on locks come to fit.

abbrev pub DirFits : OrRefusal ℕ → Type 0
DirFits (Ok d) = d < 2 ^ 64
DirFits (Err why) = Unit {0}

way_fits : (o : Option anchor.Node) (go : ℕ → OrRefusal ℕ) → NodeFits o → ((d : ℕ) → d < 2 ^ 64 → DirFits (go d)) → DirFits (anchor.in_directory o go)
way_fits None go h rest = tt
way_fits (Some n) go h rest = by n.kind (rest n.id.0 h.id) where
  by : (k : Kind) → DirFits (go n.id.0) → DirFits (anchor.if_file k (Err refusals.NotDir) (go n.id.0))
  by kinds.File there = tt
  by kinds.Dir there = there

-- the number of a directory that is reached fits
pub directory_fits : (now : ℕ) (es : List Entry) → Each (IsEntry now) es → (names : List (List ℕ)) (d : ℕ) → d < 2 ^ 64
    → DirFits (directory_at (anchor.nodes_of es) d names)
directory_fits now es h [] d small = small
directory_fits now es h (name ∷ []) d small = small
directory_fits now es h (name ∷ next ∷ names) d small =
    way_fits (anchor.node_at (anchor.nodes_of es) d name) (λ b. directory_at (anchor.nodes_of es) b (next ∷ names)) (node_fits now d name es h)
    (λ b few. directory_fits now es h (next ∷ names) b few)

-- a node that is found fits
node_in_fits : (now : ℕ) (items : List Item) → Each (IsEntry now) (entries_of items) → (d : FileId) (name : List ℕ)
    → NodeFits (option_map node_said (node_in (nodes items) d name))
node_in_fits now items h d name = subst NodeFits (node_found items d name) (node_fits now d.0 name (entries_of items) h)

made_fits : (names : List (List ℕ)) (id : FileId) (d : ℕ) (last : List ℕ) → id.0 < 2 ^ 64 → d < 2 ^ 64 → (o : Option Node)
    → FitsNames (Make names id) (made o (new_file id (record { 0 = d }) last))
made_fits names id d last few small None = (refl, record { id = few; parent = small; newest = omega arith; size = omega arith })
made_fits names id d last few small (Some n) = tt

make_comes : (items : List Item) (names : List (List ℕ)) (id : FileId) → id.0 < 2 ^ 64 → (r : OrRefusal ℕ) → DirFits r
    → FitsNames (Make names id) (on_from (made_in items names id) r)
make_comes items names id few (Ok d) small =
    made_fits names id d (last_name names) few small (node_in (nodes items) (record { 0 = d }) (last_name names))
make_comes items names id few (Err why) small = tt

pub make_fits : (now : ℕ) (items : List Item) (names : List (List ℕ)) (id : FileId) → IsTree now (entries_of items) → names ≢ [] → id.0 < 2 ^ 64
    → FitsNames (Make names id) (name_outcome (nodes items) (Make names id))
make_fits now items names id is some few =
    subst (FitsNames (Make names id)) (sym (make_walks items names id some))
    (make_comes items names id few (directory_at (anchor.nodes_of (entries_of items)) root names)
    (directory_fits now (entries_of items) is.ranges names root (omega arith)))

shown_fits : (name : List ℕ) (names : List (List ℕ)) (o : Option Node) → NodeFits (option_map node_said o) → FitsNames (Look (name ∷ names)) (shown o)
shown_fits name names None h = tt
shown_fits name names (Some n) h = h

look_comes : (now : ℕ) (items : List Item) (name : List ℕ) (names : List (List ℕ)) → IsTree now (entries_of items) → (r : OrRefusal ℕ)
    → FitsNames (Look (name ∷ names)) (on_from (shown_in items (name ∷ names)) r)
look_comes now items name names is (Ok d) =
    let last = last_name (name ∷ names) in
    shown_fits name names (node_in (nodes items) (record { 0 = d }) last) (node_in_fits now items is.ranges (record { 0 = d }) last)
look_comes now items name names is (Err why) = tt

pub look_fits : (now : ℕ) (items : List Item) (names : List (List ℕ)) → IsTree now (entries_of items)
    → FitsNames (Look names) (name_outcome (nodes items) (Look names))
look_fits now items [] is = refl
look_fits now items (name ∷ names) is =
    subst (FitsNames (Look (name ∷ names))) (sym (look_walks items name names))
    (look_comes now items name names is (directory_at (anchor.nodes_of (entries_of items)) root (name ∷ names)))

-- the numbers of what a step on locks comes to fit
pub locks_fit : (ls : List Lock) (until : ℕ) (request : RequestNo) (x : Lock_step) → length ls < 2 ^ 64 → until < 2 ^ 64
    → FitsLocks x (lock_outcome ls until request x)
locks_fit ls until request (Unlock file session) few small = let short = short_filter (frees request (Unlock file session)) ls in omega arith
locks_fit ls until request Unlock_all few small = let short = short_filter (frees request Unlock_all) ls in omega arith
locks_fit ls until request (Renew file session) few small = by (session_lock ls request file session) where
  by : (o : Option Lock) → FitsLocks (Renew file session) (renewed until o)
  by None = tt
  by (Some l) = small
