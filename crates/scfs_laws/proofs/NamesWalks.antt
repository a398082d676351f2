-- What holds of where names lead.
use Rattle.std.proofs.Common.{◌≡◌, ℕ, List, [], ◌∷◌, refl, Option, Some, None, Err}
use Rattle.scfs_base.specs.declared.naming.FileId.{FileId}
use Rattle.scfs_schedule.specs.declared.types.Kind.{Kind}
use Rattle.scfs_schedule.specs.declared.types.Kind.TheVariants as kinds
use Rattle.scfs_model.specs.Tree.{Node, node_in}
use Rattle.scfs_model.specs.Walks.{OrRefusal, by_kind, from_node, from_directory, from_file, walk}

-- what each refusal has, and each end of a walk, a walk has
module _ {X : Type 0} (P : OrRefusal X → Type 0) (refused : (why : _) → P (Err why)) where
  pub of_node : (o : Option Node) (on : Node → OrRefusal X) → ((n : Node) → o ≡ Some n → P (on n)) → P (from_node o on)
  of_node None on each = refused _
  of_node (Some n) on each = each n refl

  of_kind : (k : Kind) (x y : OrRefusal X) → P x → P y → P (by_kind k x y)
  of_kind kinds.File x y h g = h
  of_kind kinds.Dir x y h g = g

  of_directory : (o : Option Node) (on : FileId → OrRefusal X) → ((d : FileId) → P (on d)) → P (from_directory o on)
  of_directory o on each = of_node o _ (λ n found. of_kind n.kind _ _ (refused _) (each n.id))

  pub of_file : (o : Option Node) (on : Node → OrRefusal X) → ((n : Node) → o ≡ Some n → P (on n)) → P (from_file o on)
  of_file o on each = of_node o _ (λ n found. of_kind n.kind _ _ (each n found) (refused _))

  pub of_walk : (nodes : List Node) (d : FileId) (names : List (List ℕ)) (on : FileId → List ℕ → OrRefusal X)
      → ((inner : FileId) (name : List ℕ) → P (on inner name)) → P (walk nodes d names on)
  of_walk nodes d [] on each = refused _
  of_walk nodes d (name ∷ []) on each = each d name
  of_walk nodes d (name ∷ next ∷ names) on each =
      of_directory (node_in nodes d name) _ (λ inner. of_walk nodes inner (next ∷ names) on each)
