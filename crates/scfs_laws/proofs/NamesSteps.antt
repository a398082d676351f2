-- What the steps of the space come to, by cases.
use Rattle.std.proofs.Common.{◌≡◌, ℕ, ◌-◌, List, [], ◌∷◌, refl, Option, Some, None, Ok, Err, Bool, find}
use Rattle.scfs_base.specs.declared.naming.FileId.{FileId}
use Rattle.scfs_base.specs.declared.naming.RequestNo.{RequestNo}
use Rattle.scfs_model.specs.Names.{root_id}
use Rattle.scfs_model.specs.Versions.{Versions}
use Rattle.scfs_model.specs.Tree.{Node, Lock, Tree, node_in, node_at, lock_on, session_lock}
use Rattle.scfs_model.specs.Walks.{OrRefusal, on_ok, root_node, file_at, free_file_at, unlocked}
use Rattle.scfs_model.specs.NameSteps.{Make, Look, Name_outcome, Makes, Shows, new_file, made, name_outcome}
use Rattle.scfs_model.specs.SessionSteps.{Session_step, Open_read, Open_write, Commit, Session_outcome, Sees, Locks, Completes, still_held, sight_of, new_lock, with_version, session_outcome}
use Rattle.scfs_laws.proofs.NamesWalks.{of_node, of_file, of_walk}

module _ (nodes : List Node) (P : OrRefusal Name_outcome → Type 0) (refused : (why : _) → P (Err why)) where
  made_case : (o : Option Node) (new : Node) → (o ≡ None → P (Ok (Makes new))) → P (made o new)
  made_case None new free = free refl
  made_case (Some n) new free = refused _

  -- a new file, where its name is free
  pub make_cases : (names : List (List ℕ)) (id : FileId)
      → ((d : FileId) (last : List ℕ) → node_in nodes d last ≡ None → P (Ok (Makes (new_file id d last)))) → P (name_outcome nodes (Make names id))
  make_cases names id each =
      of_walk P refused nodes root_id names _ (λ d last. made_case (node_in nodes d last) (new_file id d last) (each d last))

  -- a look at a node
  pub look_cases : (names : List (List ℕ)) → ((n : Node) → P (Ok (Shows n))) → P (name_outcome nodes (Look names))
  look_cases [] each = each root_node
  look_cases (name ∷ names) each =
      of_walk P refused nodes root_id (name ∷ names) _ (λ d last. of_node P refused (node_in nodes d last) _ (λ n found. each n))

module _ {V : Type 0} (vs : Versions V) (tree : Tree V) (now until : ℕ) (request : RequestNo)
    (P : Session_step V → OrRefusal (Session_outcome V) → Type 0) (refused : (x : Session_step V) (why : _) → P x (Err why)) where
  -- a node of the tree, which some test finds
  abbrev pub IsThere : Node → Type 0
  IsThere n = (test : Node → Bool) × (find test tree.nodes ≡ Some n)

  abbrev IsFile : OrRefusal Node → Type 0
  IsFile (Ok n) = IsThere n
  IsFile (Err why) = Unit {0}

  abbrev IsFree : OrRefusal Node → Type 0
  IsFree (Ok n) = IsThere n × (lock_on tree.locks n.id ≡ None)
  IsFree (Err why) = Unit {0}

  file_is : (names : List (List ℕ)) → IsFile (file_at tree.nodes names)
  file_is names = of_walk IsFile (λ why. tt) tree.nodes root_id names _ (λ d last.
      of_file IsFile (λ why. tt) (node_in tree.nodes d last) _ (λ n found. (_, found)))

  unlocked_is : (o : Option Lock) (n : Node) → IsThere n → lock_on tree.locks n.id ≡ o → IsFree (unlocked o n)
  unlocked_is None n q e = (q, e)
  unlocked_is (Some l) n q e = tt

  free_file_is : (names : List (List ℕ)) → IsFree (free_file_at tree.nodes tree.locks names)
  free_file_is names = of_walk IsFree (λ why. tt) tree.nodes root_id names _ (λ d last.
      of_file IsFree (λ why. tt) (node_in tree.nodes d last) _ (λ n found.
      unlocked_is (lock_on tree.locks n.id) n (_, found) refl))

  -- what P holds of: an open sees a node, one for writing where it has no lock; a close finds its lock and its node
  pub record Cases : Type 0 where
    pub sees : (names : List (List ℕ)) (session : ℕ) (n : Node) → IsThere n → P (Open_read names session) (Ok (Sees (sight_of vs tree n)))
    pub locks : (names : List (List ℕ)) (session : ℕ) (n : Node) → IsThere n → lock_on tree.locks n.id ≡ None
        → P (Open_write names session) (Ok (Locks (sight_of vs tree n) (new_lock request session until n.id)))
    pub completes : (session : ℕ) (v : V) (l : Lock) (n : Node) → session_lock tree.locks request (vs.file v) session ≡ Some l
        → node_at tree.nodes (vs.file v) (vs.number v - 1) ≡ Some n
        → P (Commit session v) (Ok (Completes session (vs.completed v now) (with_version vs n (vs.completed v now))))

  module _ (cases : Cases) where
    sees_case : (names : List (List ℕ)) (session : ℕ) (r : OrRefusal Node) → IsFile r
        → P (Open_read names session) (on_ok (λ n. Sees (sight_of vs tree n)) r)
    sees_case names session (Ok n) q = cases.sees names session n q
    sees_case names session (Err why) q = refused _ why

    locks_case : (names : List (List ℕ)) (session : ℕ) (r : OrRefusal Node) → IsFree r
        → P (Open_write names session) (on_ok (λ (n : Node). Locks (sight_of vs tree n) (new_lock request session until n.id)) r)
    locks_case names session (Ok n) q = cases.locks names session n q.0 q.1
    locks_case names session (Err why) q = refused _ why

    completes_case : (session : ℕ) (v : V) (l : Option Lock) (n : Option Node) → session_lock tree.locks request (vs.file v) session ≡ l
        → node_at tree.nodes (vs.file v) (vs.number v - 1) ≡ n
        → P (Commit session v) (on_ok (λ m. Completes session (vs.completed v now) (with_version vs m (vs.completed v now))) (still_held l n))
    completes_case session v None n locked found = refused _ _
    completes_case session v (Some l) None locked found = refused _ _
    completes_case session v (Some l) (Some n) locked found = cases.completes session v l n locked found

    -- a step for a session
    pub session_cases : (x : Session_step V) → P x (session_outcome vs tree now until request x)
    session_cases (Open_read names session) = sees_case names session (file_at tree.nodes names) (file_is names)
    session_cases (Open_write names session) = locks_case names session (free_file_at tree.nodes tree.locks names) (free_file_is names)
    session_cases (Commit session v) = completes_case session v _ _ refl refl
