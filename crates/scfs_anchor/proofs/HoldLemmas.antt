use Rattle.std.proofs.Common.{◌≡◌, ℕ, ◌+◌, ◌<◌, ◌≤◌, ◌^◌, List, [], ◌∷◌, length, map, Bool, true, false, refl, ap, ◌∙◌, sym, subst, arith}
use Rattle.std.specs.Prelude.{nat_lt}
use Rattle.std.specs.List.{filter}
use Rattle.std.proofs.lemmas.Bool.Decides.{nat_tests}
use Rattle.scfs_base.specs.declared.naming.RequestNo.{RequestNo}
use Rattle.scfs_tuples.specs.After.{reply_among, left_among}
use Rattle.scfs_tuples.specs.declared.types.Tuple.{Tuple}
use Rattle.scfs_model.specs.Layers.{Row, rows}
use Rattle.scfs_model.specs.Tree.{Node, Lock, Tree}
use Rattle.scfs_model.specs.Tree as machine
use Rattle.scfs_model.specs.Walks.{OrRefusal}
use Rattle.scfs_model.specs.NameSteps.{Make, Look, Name_outcome, name_outcome}
use Rattle.scfs_model.specs.LockSteps.{lock_outcome}
use Rattle.scfs_model.specs.SessionSteps.{Open_read, Open_write, Commit, Session_outcome, session_outcome}
use Rattle.scfs_model.specs.Steps.{Step, On_names, On_locks, On_sessions, Served, served, after_ok}
use Rattle.scfs_anchor.specs.Shapes.{root}
use Rattle.scfs_anchor.specs.Tree as anchor
use Rattle.scfs_anchor.specs.Tree.{Each, Apart, IsEntry, IsTree}
use Rattle.scfs_anchor.specs.Items.{Item, Of_node, Of_version, Of_lock, lock_said, entry_of, entries_of, space_of, nodes, locks, tree_of, is_live, live}
use Rattle.scfs_anchor.specs.StepPlans.{step_on_tuples}
use Rattle.scfs_anchor.specs.StepReplies.{IsReplyTo, FitsOutcome}
use Rattle.scfs_anchor.specs.Holding.{IsAskable, IsRequest, IsFresh, LockFiles, HaveAtMost, ServesAlike, EmptyHolds, HoldsOn, StepsServeAlike}
use Rattle.scfs_anchor.proofs.OpenLemmas.{file_fits}
use Rattle.scfs_anchor.proofs.Alike.{name_items, lock_items, session_items}
use Rattle.scfs_anchor.proofs.ItemLemmas.{live_said, live_space, locks_live, locks_said, tree_live}
use Rattle.scfs_anchor.proofs.ItemWalks.{directory_at}
use Rattle.scfs_anchor.proofs.MakeLemmas.{make_walks, make_alike}
use Rattle.scfs_anchor.proofs.LookLemmas.{look_walks, look_alike}
use Rattle.scfs_anchor.proofs.LockStepLemmas.{locks_alike}
use Rattle.scfs_anchor.proofs.OpenStepLemmas.{read_walks, read_alike, read_fits, write_walks, write_alike, write_fits}
use Rattle.scfs_anchor.proofs.CommitStepLemmas.{commit_alike, commit_fits}
use Rattle.scfs_anchor.proofs.FitLemmas.{directory_fits, make_fits, look_fits, locks_fit}
use Rattle.scfs_anchor.proofs.ListLemmas.{each_map, each_unmap, each_also, each_filter, apart_unmap, apart_filter, short_filter}
use Rattle.scfs_anchor.proofs.WholeLemmas.{same_lock, whole_of, stands_live}
use Rattle.scfs_anchor.proofs.StayLemmas.{Stand, Fits, Before, Stays, FilesAt, valid, stay, make_stays, look_stays, locks_stay, read_stays, file_alone, write_stays, tree_named, tree_opened}
use Rattle.scfs_anchor.proofs.ClosedLemmas.{commit_stays}

-- Tuples go on to hold the tree of the machine.

-- what lives later lives now
still_live : (now later : ℕ) → now ≤ later → (ls : List Lock)
    → filter (λ (l : Lock). nat_lt later l.until) (filter (λ (l : Lock). nat_lt now l.until) ls) ≡ filter (λ (l : Lock). nat_lt later l.until) ls
still_live now later after [] = refl
still_live now later after (l ∷ ls) = here (nat_lt now l.until) (nat_lt later l.until) refl refl (still_live now later after ls) where
  here : (t u : Bool) → nat_lt now l.until ≡ t → nat_lt later l.until ≡ u
      → filter (λ (l : Lock). nat_lt later l.until) (filter (λ (l : Lock). nat_lt now l.until) ls) ≡ filter (λ (l : Lock). nat_lt later l.until) ls
      → filter (λ (l : Lock). nat_lt later l.until) (filter (λ (l : Lock). nat_lt now l.until) (l ∷ ls)) ≡ filter (λ (l : Lock). nat_lt later l.until)
      (l ∷ ls)
  here true true e f rest = rw (e, f) (ap (λ x. l ∷ x) rest)
  here true false e f rest = rw (e, f) rest
  here false true e f rest = absurd (earlier e f) where
    earlier : nat_lt now l.until ≡ false → nat_lt later l.until ≡ true → ⊥
    earlier e f = grind (arith, nat_tests)
  here false false e f rest = rw (e, f) rest

later_item : (now later : ℕ) → now ≤ later → (x : Item) → IsEntry now (entry_of x) → IsEntry later (entry_of x)
later_item now later after (Of_node n) h = h
later_item now later after (Of_lock l) h = h
later_item now later after (Of_version v) h =
    let past : v.moment ≤ now = h.time in
    record { fits = h.fits; number = h.number; length = h.length; incarnation = h.incarnation; time = omega arith }

-- the locks that live are of different files
live_apart : (now : ℕ) (items : List Item) → IsTree now (entries_of items) → Apart same_lock (filter (λ (l : Lock). nat_lt now l.until) (locks items))
live_apart now items is =
    apart_unmap lock_said (λ a b. anchor.same_file a.file b.file) (filter (λ (l : Lock). nat_lt now l.until) (locks items))
    (subst (Apart (λ a b. anchor.same_file a.file b.file))
    (ap anchor.locks_of (live_said now items) ∙ locks_said (live now items) ∙ ap (map lock_said) (locks_live now items)) is.locks)

-- items stand for a tree at a later moment too
later_stands : (now later : ℕ) (items : List Item) → IsTree now (entries_of items) → now ≤ later → IsTree later (entries_of items)
later_stands now later items is after =
    let lives = λ (l : Lock). nat_lt later l.until in
    let apart = subst (Apart same_lock) (still_live now later after (locks items))
    (apart_filter same_lock lives (filter (λ (l : Lock). nat_lt now l.until) (locks items)) (live_apart now items is)) in
    let ranges = each_also (λ x. IsEntry now (entry_of x)) (λ x. IsEntry later (entry_of x)) (later_item now later after) items
    (each_unmap entry_of (IsEntry now) items is.ranges) in
    stands_live later items (each_map entry_of (IsEntry later) items ranges) apart (whole_of now items is)

pub holds_on : HoldsOn
holds_on now later most more tuples tree is after over =
    record {
      items = is.items;
      said = is.said;
      meant = is.meant;
      valid = later_stands now later is.items is.valid after;
      files = is.files;
      few = each_also (λ (n : Node). n.newest ≤ most) (λ (n : Node). n.newest ≤ more) (λ n k. omega arith) tree.nodes is.few;
      held = let held : length tree.locks ≤ most = is.held in omega arith;
    }

pub empty_holds : EmptyHolds
empty_holds now =
    record {
      items = [];
      said = refl;
      meant = refl;
      valid =
          record { ranges = tt; ids = tt; places = tt; locks = tt; versions = tt; gone = tt; newest = tt; numbers = tt; owners = tt; buried = tt };
      files = tt;
      few = tt;
      held = omega arith;
    }

-- what lives stands for a tree
live_before : (now most : ℕ) (items : List Item) → IsTree now (entries_of items) → LockFiles (nodes items) (locks items)
    → HaveAtMost most (nodes items) → length (locks items) ≤ most → Before now most (live now items)
live_before now most items is files few held =
    let lives = λ (l : Lock). nat_lt now l.until in
    let short = short_filter lives (locks items) in
    record {
      fit = each_filter (Fits now) (is_live now) items (each_unmap entry_of (IsEntry now) items is.ranges);
      stand = subst (Stand most) (sym (tree_live now items)) (record {
        whole = whole_of now items is;
        apart = live_apart now items is;
        files = each_filter (λ (l : Lock). FilesAt (nodes items) l.file.0) lives (locks items) files;
        few = few;
        held = omega arith;
      });
    }

-- a step on the tuples of items that live does what it does on the machine: the items that are left, and what the law says of them
record Does (now most lease : ℕ) (items : List Item) (request : RequestNo) (step : Step Row) (x : Served Row) : Type 0 where
  left : List Item
  tuples : left_among (space_of items) now (step_on_tuples lease request step) ≡ space_of left
  stays : Stays now (most + 1) left x.tree
  reply : IsReplyTo lease request x.outcome (reply_among (space_of items) now (step_on_tuples lease request step))
  fits : FitsOutcome x.outcome

each_does : (now most lease : ℕ) (items : List Item) (request : RequestNo) (step : Step Row) → Before now most items → most < 1000000
    → now + lease < 2 ^ 64 → IsRequest request → IsAskable request step → IsFresh (nodes items) step
    → Does now most lease items request step (served rows (tree_of items) now lease request step)
each_does now most lease items request (On_names (Make names id)) is low soon from ask fresh =
    let tree = valid now most items is in
    let alike = make_alike now items names id tree ask.0 in
    record {
      left = after_ok items (name_items items) (name_outcome (nodes items) (Make names id));
      tuples = alike.1;
      stays =
          subst (λ (r : OrRefusal Name_outcome). Stays now (most + 1) (after_ok items (name_items items) r) (tree_named items r))
          (sym (make_walks items names id ask.0))
          (make_stays now most items names id is ask.1 fresh (directory_at (anchor.nodes_of (entries_of items)) root names)
          (directory_fits now (entries_of items) tree.ranges names root (omega arith)));
      reply = alike.0;
      fits = make_fits now items names id tree ask.0 ask.1;
    }
each_does now most lease items request (On_names (Look [])) is low soon from ask fresh =
    let tree = valid now most items is in
    let alike = look_alike now items [] tree in
    record { left = items; tuples = alike.1; stays = stay now most items is; reply = alike.0; fits = look_fits now items [] tree }
each_does now most lease items request (On_names (Look (name ∷ names))) is low soon from ask fresh =
    let tree = valid now most items is in
    let alike = look_alike now items (name ∷ names) tree in
    record {
      left = after_ok items (name_items items) (name_outcome (nodes items) (Look (name ∷ names)));
      tuples = alike.1;
      stays =
          subst (λ (r : OrRefusal Name_outcome). Stays now (most + 1) (after_ok items (name_items items) r) (tree_named items r))
          (sym (look_walks items name names))
          (look_stays now most items (name ∷ names) is (directory_at (anchor.nodes_of (entries_of items)) root (name ∷ names)));
      reply = alike.0;
      fits = look_fits now items (name ∷ names) tree;
    }
each_does now most lease items request (On_locks x) is low soon from ask fresh =
    let alike = locks_alike now lease items request x in
    let held : length (locks items) ≤ most = is.stand.held in
    record {
      left = after_ok items (lock_items items request x) (lock_outcome (locks items) (now + lease) request x);
      tuples = alike.1;
      stays = locks_stay now most (now + lease) items request x is;
      reply = alike.0;
      fits = locks_fit (locks items) (now + lease) request x (omega arith) soon;
    }
each_does now most lease items request (On_sessions (Open_read names session)) is low soon from ask fresh =
    let tree = valid now most items is in
    let alike = read_alike now lease items request names session tree is.stand.apart ask in
    record {
      left = after_ok items (session_items items request) (session_outcome rows (tree_of items) now (now + lease) request (Open_read names session));
      tuples = alike.1;
      stays =
          subst (λ (r : OrRefusal (Session_outcome Row)). Stays now (most + 1) (after_ok items (session_items items request) r)
          (tree_opened items request r)) (sym (read_walks now (now + lease) items request names session ask))
          (read_stays now most items request is (anchor.file_at (anchor.nodes_of (entries_of items)) root names));
      reply = alike.0;
      fits = read_fits now (now + lease) items request names session tree ask;
    }
each_does now most lease items request (On_sessions (Open_write names session)) is low soon from ask fresh =
    let tree = valid now most items is in
    let es = entries_of items in
    let alike = write_alike now lease items request names session tree is.stand.apart ask.0 in
    record {
      left = after_ok items (session_items items request) (session_outcome rows (tree_of items) now (now + lease) request (Open_write names session));
      tuples = alike.1;
      stays =
          subst (λ (r : OrRefusal (Session_outcome Row)). Stays now (most + 1) (after_ok items (session_items items request) r)
          (tree_opened items request r)) (sym (write_walks now (now + lease) items request names session ask.0))
          (write_stays now most (now + lease) items request session is from.0 from.1 ask.1 (anchor.file_at (anchor.nodes_of es) root names)
          (file_fits now es tree.ranges names root) (file_alone items is.stand.whole.ids names root));
      reply = alike.0;
      fits = write_fits now (now + lease) items request names session tree soon ask.0;
    }
each_does now most lease items request (On_sessions (Commit session v)) is low soon from ask fresh =
    let alike = commit_alike now lease items request session v ask.agent ask.incarnation is.stand.files in
    record {
      left = after_ok items (session_items items request) (session_outcome rows (tree_of items) now (now + lease) request (Commit session v));
      tuples = alike.1;
      stays = commit_stays now most items request session v is low ask;
      reply = alike.0;
      fits = commit_fits now (now + lease) items request session v;
    }

-- over the tuples of items
over_items : (now most lease : ℕ) (items : List Item) (request : RequestNo) (step : Step Row) → IsTree now (entries_of items)
    → LockFiles (nodes items) (locks items) → HaveAtMost most (nodes items) → length (locks items) ≤ most → most < 1000000
    → now + lease < 2 ^ 64 → IsRequest request → IsAskable request step → IsFresh (nodes items) step
    → ServesAlike now most lease (space_of items) request step (served rows (machine.live now (tree_of items)) now lease request step)
over_items now most lease items request step is files few held low soon from ask fresh =
    let T = live now items in
    let asked = step_on_tuples lease request step in
    let new = subst (λ (t : Tree Row). IsFresh t.nodes step) (sym (tree_live now items)) fresh in
    let d = each_does now most lease T request step (live_before now most items is files few held) low soon from ask new in
    let x = served rows (tree_of T) now lease request step in
    let s = d.stays.stand in
    subst (λ (t : Tree Row). ServesAlike now most lease (space_of items) request step (served rows t now lease request step)) (tree_live now items)
    (record {
      holds = record {
        items = d.left;
        said = ap (λ (ts : List Tuple). left_among ts now asked) (live_space now items) ∙ d.tuples;
        meant = sym d.stays.meant;
        valid = valid now (most + 1) d.left (record { fit = d.stays.fit; stand = subst (Stand (most + 1)) (sym d.stays.meant) s });
        files = s.files;
        few = s.few;
        held = s.held;
      };
      reply = subst (λ (ts : List Tuple). IsReplyTo lease request x.outcome (reply_among ts now asked)) (sym (live_space now items)) d.reply;
      fits = d.fits;
    })

pub steps_serve_alike : StepsServeAlike
steps_serve_alike now most lease tuples tree request step is low soon from ask fresh =
    let items = is.items in
    let files = subst (λ (t : Tree Row). LockFiles t.nodes t.locks) is.meant is.files in
    let few = subst (λ (t : Tree Row). HaveAtMost most t.nodes) is.meant is.few in
    let held = subst (λ (t : Tree Row). length t.locks ≤ most) is.meant is.held in
    let new = subst (λ (t : Tree Row). IsFresh t.nodes step) is.meant fresh in
    let done = over_items now most lease items request step is.valid files few held low soon from ask new in
    subst (λ (t : Tree Row). ServesAlike now most lease tuples request step (served rows (machine.live now t) now lease request step)) (sym is.meant)
    (subst (λ (ts : List Tuple). ServesAlike now most lease ts request step (served rows (machine.live now (tree_of items)) now lease request step))
    (sym is.said) done)
