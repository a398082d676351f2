use Rattle.std.proofs.Common.{◌≡◌, ◌≢◌, ℕ, List, [], ◌∷◌, Option, Some, None, Ok, Err, refl, ap, ◌∙◌, sym}
use Rattle.std.specs.Option.{option_map}
use Rattle.scfs_base.specs.declared.naming.FileId.{FileId}
use Rattle.scfs_schedule.specs.declared.types.Kind.{Kind}
use Rattle.scfs_schedule.specs.declared.types.Kind.TheVariants as kinds
use Rattle.scfs_schedule.specs.declared.types.Refusal.TheVariants as refusals
use Rattle.scfs_model.specs.Tree.{Node, node_in}
use Rattle.scfs_model.specs.Walks.{OrRefusal, by_kind, from_directory, from_file, walk}
use Rattle.scfs_anchor.specs.Tree as anchor
use Rattle.scfs_anchor.specs.Items.{Item, node_said, entries_of, nodes}
use Rattle.scfs_anchor.specs.StepPlans.{last_name}
use Rattle.scfs_anchor.proofs.ItemLemmas.{node_meant, node_found}

-- Where names lead in the tree of items they lead in the entries.

-- on with what was reached, or refused
abbrev pub on_from : {X Y : Type 0} → (X → OrRefusal Y) → OrRefusal X → OrRefusal Y
on_from on (Ok x) = on x
on_from on (Err why) = Err why

-- what a walk to a file comes to, and the way to it through the entries
abbrev pub walked : {Y : Type 0} → List Item → FileId → List (List ℕ) → (Node → OrRefusal Y) → OrRefusal Y
walked items d names on = walk (nodes items) d names (λ inner name. from_file (node_in (nodes items) inner name) on)

abbrev pub reached : {Y : Type 0} → List Item → (d : ℕ) → List (List ℕ) → (Node → OrRefusal Y) → OrRefusal Y
reached items d names on = on_from (λ n. on (node_meant n)) (anchor.file_at (anchor.nodes_of (entries_of items)) d names)

last_by : {Y : Type 0} (n : Node) (on : Node → OrRefusal Y) (k : Kind)
    → by_kind k (on n) (Err refusals.IsDir) ≡ on_from (λ n. on (node_meant n)) (anchor.if_file k (Ok (node_said n)) (Err refusals.IsDir))
last_by n on kinds.File = refl
last_by n on kinds.Dir = refl

last_of : {Y : Type 0} (on : Node → OrRefusal Y) (o : Option Node)
    → from_file o on ≡ on_from (λ n. on (node_meant n)) (anchor.as_file (option_map node_said o))
last_of on None = refl
last_of on (Some n) = last_by n on n.kind

-- on from a directory, by what the names behind it come to
way_by : {X Y : Type 0} (on : X → OrRefusal Y) (k : Kind) (o : OrRefusal Y) (r : OrRefusal X)
    → o ≡ on_from on r → by_kind k (Err refusals.NotDir) o ≡ on_from on (anchor.if_file k (Err refusals.NotDir) r)
way_by on kinds.File o r h = refl
way_by on kinds.Dir o r h = h

way_of : {X Y : Type 0} (on : X → OrRefusal Y) (go : FileId → OrRefusal Y) (reach : ℕ → OrRefusal X)
    → ((d : FileId) → go d ≡ on_from on (reach d.0)) → (o : Option Node)
    → from_directory o go ≡ on_from on (anchor.in_directory (option_map node_said o) reach)
way_of on go reach rest None = refl
way_of on go reach rest (Some n) = way_by on n.kind (go n.id) (reach n.id.0) (rest n.id)

-- a walk to a file is a way to it through the entries
pub walk_to_file : {Y : Type 0} (items : List Item) (d : FileId) (names : List (List ℕ)) (on : Node → OrRefusal Y)
    → names ≢ [] → walked items d names on ≡ reached items d.0 names on
walk_to_file items d [] on some = absurd (some refl)
walk_to_file items d (name ∷ []) on some =
    last_of on (node_in (nodes items) d name) ∙ ap (λ o. on_from (λ n. on (node_meant n)) (anchor.as_file o)) (sym (node_found items d name))
walk_to_file items d (name ∷ next ∷ names) on some =
    let reach = λ (below : ℕ). anchor.file_at (anchor.nodes_of (entries_of items)) below (next ∷ names) in
    way_of (λ n. on (node_meant n)) (λ inner. walked items inner (next ∷ names) on) reach
    (λ inner. walk_to_file items inner (next ∷ names) on (λ e. cc)) (node_in (nodes items) d name)
    ∙ ap (λ o. on_from (λ n. on (node_meant n)) (anchor.in_directory o reach)) (sym (node_found items d name))

-- the number of the directory in which the last name is looked up, or the first refusal on the way
abbrev pub directory_at : List anchor.Node → ℕ → List (List ℕ) → OrRefusal ℕ
directory_at ns d [] = Ok d
directory_at ns d (name ∷ []) = Ok d
directory_at ns d (name ∷ next ∷ names) = anchor.in_directory (anchor.node_at ns d name) (λ below. directory_at ns below (next ∷ names))

-- a walk to a directory is a way to it through the entries
pub walk_to_directory : {Y : Type 0} (items : List Item) (d : FileId) (names : List (List ℕ)) (on : FileId → List ℕ → OrRefusal Y)
    → names ≢ []
    → walk (nodes items) d names on
    ≡ on_from (λ i. on (record { 0 = i }) (last_name names)) (directory_at (anchor.nodes_of (entries_of items)) d.0 names)
walk_to_directory items d [] on some = absurd (some refl)
walk_to_directory items d (name ∷ []) on some = refl
walk_to_directory items d (name ∷ next ∷ names) on some =
    let reach = λ (below : ℕ). directory_at (anchor.nodes_of (entries_of items)) below (next ∷ names) in
    let go = λ (i : ℕ). on (record { 0 = i }) (last_name (next ∷ names)) in
    way_of go (λ inner. walk (nodes items) inner (next ∷ names) on) reach
    (λ inner. walk_to_directory items inner (next ∷ names) on (λ e. cc)) (node_in (nodes items) d name)
    ∙ ap (λ o. on_from go (anchor.in_directory o reach)) (sym (node_found items d name))
