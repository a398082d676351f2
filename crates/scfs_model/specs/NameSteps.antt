use Rattle.std.specs.Prelude.{ℕ, List, [], ◌∷◌, ◌++◌, Option, Some, None, Ok, Err}
use Rattle.scfs_base.specs.declared.naming.FileId.{FileId}
use Rattle.scfs_base.specs.declared.naming.RequestNo.{RequestNo}
use Rattle.scfs_schedule.specs.declared.types.Kind.TheVariants as kinds
use Rattle.scfs_schedule.specs.declared.types.Line.{Line}
use Rattle.scfs_schedule.specs.declared.types.Line.TheVariants as lines
use Rattle.scfs_schedule.specs.declared.types.Refusal.TheVariants as refusals
use Rattle.scfs_model.specs.Names.{root_id}
use Rattle.scfs_model.specs.Tree.{Node, node_in}
use Rattle.scfs_model.specs.Walks.{OrRefusal, root_node, from_node, walk}

-- Steps on names. They don't rest on versions.

-- what an agent asks, by the names of a path from the root down
pub data Name_step : Type 0 where
  -- a new file, with the id that was drawn for it
  Make : (names : List (List ℕ)) → FileId → Name_step
  Look : (names : List (List ℕ)) → Name_step

-- what it comes to
pub data Name_outcome : Type 0 where
  Makes : Node → Name_outcome
  Shows : Node → Name_outcome

-- a new file in a directory
abbrev pub new_file : FileId → (directory : FileId) → (name : List ℕ) → Node
new_file id directory name = record { id = id; parent = directory; name = name; kind = kinds.File; newest = 0; size = 0 }

-- a new node, where its name is free
abbrev pub made : Option Node → Node → OrRefusal Name_outcome
made None new = Ok (Makes new)
made (Some there) new = Err refusals.Exists

-- what a step comes to, with these nodes
abbrev pub name_outcome : List Node → Name_step → OrRefusal Name_outcome
name_outcome nodes (Make names id) =
    walk nodes root_id names (λ directory last. made (node_in nodes directory last) (new_file id directory last))
name_outcome nodes (Look []) = Ok (Shows root_node)
name_outcome nodes (Look (name ∷ names)) =
    walk nodes root_id (name ∷ names) (λ directory last. from_node (node_in nodes directory last) (λ n. Ok (Shows n)))

-- the nodes after it
abbrev pub nodes_after : List Node → Name_outcome → List Node
nodes_after nodes (Makes n) = nodes ++ n ∷ []
nodes_after nodes (Shows n) = nodes

-- its line, where the space serves it
abbrev pub name_line : RequestNo → Name_outcome → Line
name_line request (Makes n) = lines.Changed request
name_line request (Shows n) = lines.Looked request
