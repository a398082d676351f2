use Rattle.std.proofs.Common.{◌≡◌, ℕ, ◌+◌, ◌-◌, ◌<◌, ◌≤◌, ◌^◌, [], ◌∷◌, ◌++◌, List, length, eqb, Option, Some, None, refl, ap, ◌∙◌, sym, arith}
use Rattle.std.proofs.lemmas.Bool.{eqb-true}
use Rattle.scfs_base.specs.declared.naming.RequestNo.{RequestNo}
use Rattle.scfs_schedule.specs.declared.types.Kind.TheVariants.{File}
use Rattle.scfs_model.specs.Layers.{Row, rows}
use Rattle.scfs_model.specs.Lists.{without_first}
use Rattle.scfs_model.specs.Tree.{Node, Lock, Tree, node_at, session_lock, is_lock_by, is_node_at}
use Rattle.scfs_model.specs.SessionSteps.{with_version}
use Rattle.scfs_model.specs.Steps.{after_ok}
use Rattle.scfs_anchor.specs.Tree.{Each, IsNode, IsVersion}
use Rattle.scfs_anchor.specs.Items.{Item, Of_node, Of_version, Of_lock, row_said, node_said, nodes, versions, locks}
use Rattle.scfs_anchor.specs.Holding.{IsClosing}
use Rattle.scfs_anchor.proofs.Alike.{lock_that, node_that, opened_up, session_items}
use Rattle.scfs_anchor.proofs.CommitStepLemmas.{completed, committed, AtFile, found_at, held_files}
use Rattle.scfs_anchor.proofs.ListLemmas.{both_true, each_also, each_append, each_without, each_found, found_passes, apart_without, short_without}
use Rattle.scfs_anchor.proofs.WholeLemmas.{same_lock}
use Rattle.scfs_anchor.proofs.MovedLemmas.{moved, Close, close_whole}
use Rattle.scfs_anchor.proofs.KeptLemmas.{tree_with, without_lock, without_node, closed_behind}
use Rattle.scfs_anchor.proofs.StayLemmas.{Before, Stays, Fits, FilesAt, stay, more, tree_opened}

-- What a close leaves is a tree, and the machine's.

nodes_fit : (now : ℕ) (items : List Item) → Each (Fits now) items → Each (λ n. IsNode (node_said n)) (nodes items)
nodes_fit now [] h = tt
nodes_fit now (Of_node n ∷ items) h = (h.0, nodes_fit now items h.1)
nodes_fit now (Of_version v ∷ items) h = nodes_fit now items h.1
nodes_fit now (Of_lock l ∷ items) h = nodes_fit now items h.1

-- the version that is completed fits
row_fits : (now : ℕ) (request : RequestNo) (v : Row) → v.number ≤ 1000000 → IsClosing request v → IsVersion now (row_said (completed now v))
row_fits now request v few is =
    let count : v.upload.count < 2 ^ 32 = is.upload.count in
    let incarnation : v.upload.incarnation < 2 ^ 24 = is.upload.incarnation in
    let short : v.length ≤ 65536 = is.short in
    record {
      fits = record {
        number = omega arith;
        root = is.root;
        content = is.content;
        length = omega arith;
        agent = is.upload.agent;
        incarnation = omega arith;
        count = count;
      };
      number = few;
      length = short;
      incarnation = incarnation;
      time = omega arith;
    }

-- the file's node and the session's lock were there
came_stays : (now most : ℕ) (items : List Item) (request : RequestNo) (session : ℕ) (v : Row) → Before now most items → most < 1000000
    → IsClosing request v → (l : Lock) (n : Node) → node_at (nodes items) v.file (v.number - 1) ≡ Some n → (n.id.0 ≡ v.file.0) × (n.kind ≡ File)
    → (let r = committed now session v (Some l) (Some n) in
    Stays now (most + 1) (after_ok items (session_items items request) r) (tree_opened items request r))
came_stays now most items request session v is low closing l n e at =
    let base = v.number - 1 in
    let test = is_node_at v.file base in
    let own = is_lock_by request v.file session in
    let w = completed now v in
    let new = with_version rows n w in
    let put = Of_node new ∷ Of_version w ∷ [] in
    let unlocked = without_first (lock_that own) items in
    let left = opened_up items request v.file session base in
    let first : 1 ≤ v.number = closing.first in
    let short : v.length ≤ 65536 = closing.short in
    let s = is.stand in
    let held : length (locks items) ≤ most = s.held in
    let fewer = short_without own (locks items) in
    let newest : n.newest ≡ base = eqb-true n.newest base (both_true (eqb n.id.0 v.file.0) _ (found_passes test (nodes items) n e)).1 in
    let under_most : n.newest ≤ most = each_found (λ (m : Node). m.newest ≤ most) test (nodes items) s.few n e in
    let node = each_found (λ m. IsNode (node_said m)) test (nodes items) (nodes_fit now items is.fit) n e in
    let close : Close test (nodes items) (versions items) n w =
    record { whole = s.whole; found = e; file = at.1; id = sym at.0; number = omega arith } in
    let gone = without_node test unlocked
    ∙ ap (λ (t : Tree Row). tree_with (without_first test t.nodes) t.locks t.versions) (without_lock own items) in
    record {
      fit =
          each_append (Fits now) left put (each_without (Fits now) (node_that test) unlocked (each_without (Fits now) (lock_that own) items is.fit))
          (record { id = node.id; parent = node.parent; newest = omega arith; size = short }, (row_fits now request v (omega arith) closing, tt));
      meant = closed_behind left new w ∙ ap (λ (t : Tree Row). tree_with (t.nodes ++ new ∷ []) t.locks (t.versions ++ w ∷ [])) gone;
      stand = record {
        whole = close_whole close;
        apart = apart_without same_lock own (locks items) s.apart;
        files =
            each_without (λ (l : Lock). FilesAt (moved test (nodes items) new) l.file.0) own (locks items)
            (each_also (λ (l : Lock). FilesAt (nodes items) l.file.0) (λ (l : Lock). FilesAt (moved test (nodes items) new) l.file.0)
            (λ l h. each_append (λ (m : Node). m.id.0 ≡ l.file.0 → m.kind ≡ File) (without_first test (nodes items)) (new ∷ [])
            (each_without (λ (m : Node). m.id.0 ≡ l.file.0 → m.kind ≡ File) test (nodes items) h) ((λ i. at.1), tt)) (locks items) s.files);
        few =
            each_append (λ (m : Node). m.newest ≤ most + 1) (without_first test (nodes items)) (new ∷ [])
            (each_without (λ (m : Node). m.newest ≤ most + 1) test (nodes items) (more most (nodes items) s.few)) (omega arith, tt);
        held = omega arith;
      };
    }

by_found : (now most : ℕ) (items : List Item) (request : RequestNo) (session : ℕ) (v : Row) → Before now most items → most < 1000000
    → IsClosing request v → (o : Option Lock) (n : Option Node) → node_at (nodes items) v.file (v.number - 1) ≡ n
    → ((l : Lock) → o ≡ Some l → AtFile v.file n)
    → (let r = committed now session v o n in Stays now (most + 1) (after_ok items (session_items items request) r) (tree_opened items request r))
by_found now most items request session v is low closing None n e at = stay now most items is
by_found now most items request session v is low closing (Some l) None e at = stay now most items is
by_found now most items request session v is low closing (Some l) (Some n) e at =
    came_stays now most items request session v is low closing l n e (at l refl)

pub commit_stays : (now most : ℕ) (items : List Item) (request : RequestNo) (session : ℕ) (v : Row) → Before now most items → most < 1000000
    → IsClosing request v
    → (let r = committed now session v (session_lock (locks items) request v.file session) (node_at (nodes items) v.file (v.number - 1)) in
    Stays now (most + 1) (after_ok items (session_items items request) r) (tree_opened items request r))
commit_stays now most items request session v is low closing =
    let all = held_files request v.file session (nodes items) (locks items) is.stand.files in
    by_found now most items request session v is low closing (session_lock (locks items) request v.file session)
    (node_at (nodes items) v.file (v.number - 1)) refl (λ l e. found_at v.file (v.number - 1) (nodes items) (all l e))
