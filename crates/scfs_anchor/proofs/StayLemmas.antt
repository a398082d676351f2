use Rattle.std.proofs.Common.{◌≡◌, ◌≢◌, ℕ, ◌+◌, ◌<◌, ◌≤◌, ◌^◌, List, [], ◌∷◌, ◌++◌, length, eqb, Bool, true, false, Option, Some, None, Ok, Err, refl, ap, ◌∙◌, sym, subst, arith, length-append}
use Rattle.std.specs.Prelude.{not}
use Rattle.std.specs.List.{find}
use Rattle.std.specs.Option.{option_map}
use Rattle.std.proofs.lemmas.Bool.{eqb-true}
use Rattle.scfs_base.specs.declared.naming.FileId.{FileId}
use Rattle.scfs_base.specs.declared.naming.RequestNo.{RequestNo}
use Rattle.scfs_schedule.specs.declared.types.Kind.{Kind}
use Rattle.scfs_schedule.specs.declared.types.Kind.TheVariants as kinds
use Rattle.scfs_schedule.specs.declared.types.Refusal.TheVariants as refusals
use Rattle.scfs_model.specs.Layers.{Row, rows}
use Rattle.scfs_model.specs.Tree.{Node, Lock, Tree, node_in, lock_on, is_lock_by, session_lock}
use Rattle.scfs_model.specs.Walks.{OrRefusal, on_ok, unlocked}
use Rattle.scfs_model.specs.NameSteps.{Name_outcome, made, new_file, nodes_after}
use Rattle.scfs_model.specs.Lists.{without_first}
use Rattle.scfs_model.specs.LockSteps.{Lock_step, Unlock, Unlock_all, Renew, Lock_outcome, Frees, frees, freed, renewed, lock_outcome, locks_after}
use Rattle.scfs_model.specs.SessionSteps.{Session_outcome, Locks, sight_of, new_lock, session_after}
use Rattle.scfs_model.specs.Steps.{after_ok}
use Rattle.scfs_anchor.specs.Tree as anchor
use Rattle.scfs_anchor.specs.Tree.{Each, Apart, IsEntry, IsTree}
use Rattle.scfs_anchor.specs.Items.{Item, Of_node, Of_version, Of_lock, node_said, entry_of, entries_of, nodes, versions, locks, tree_of}
use Rattle.scfs_anchor.specs.StepPlans.{last_name}
use Rattle.scfs_anchor.specs.Holding.{LockFiles, HaveAtMost}
use Rattle.scfs_anchor.proofs.OpenLemmas.{FileFits}
use Rattle.scfs_anchor.proofs.Alike.{lock_that, lock_items, name_items, session_items}
use Rattle.scfs_anchor.proofs.ItemLemmas.{node_meant, node_found, eqb_sym}
use Rattle.scfs_anchor.proofs.ItemWalks.{on_from}
use Rattle.scfs_anchor.proofs.MakeLemmas.{made_in}
use Rattle.scfs_anchor.proofs.LookLemmas.{shown, shown_in}
use Rattle.scfs_anchor.proofs.OpenStepLemmas.{read_from, write_from}
use Rattle.scfs_anchor.proofs.FitLemmas.{DirFits}
use Rattle.scfs_anchor.proofs.ListLemmas.{each_map, each_also, each_append, each_filter, each_without, each_found, none_found, apart_filter, apart_without, apart_append, each_apart, short_filter, short_without}
use Rattle.scfs_anchor.proofs.WholeLemmas.{same_id, same_place, same_lock, Whole, stands}
use Rattle.scfs_anchor.proofs.MovedLemmas.{with_node, alone}
use Rattle.scfs_anchor.proofs.KeptLemmas.{tree_with, without_lock, keep_locks, lock_behind, node_behind}

-- What each step leaves is a tree, and the machine's.

-- a tree of nodes, versions and locks that go together, with so many versions of a file, and locks, at most
pub record Stand (most : ℕ) (t : Tree Row) : Type 0 where
  pub whole : Whole t.nodes t.versions
  pub apart : Apart same_lock t.locks
  pub files : LockFiles t.nodes t.locks
  pub few : HaveAtMost most t.nodes
  pub held : length t.locks ≤ most

-- the numbers of an item fit
abbrev pub Fits : (now : ℕ) → Item → Type 0
Fits now x = IsEntry now (entry_of x)

-- items without ended locks that stand for a tree
pub record Before (now most : ℕ) (items : List Item) : Type 0 where
  pub fit : Each (Fits now) items
  pub stand : Stand most (tree_of items)

-- items stand for this tree
pub record Stays (now most : ℕ) (items : List Item) (tree : Tree Row) : Type 0 where
  pub fit : Each (Fits now) items
  pub meant : tree_of items ≡ tree
  pub stand : Stand most tree

pub valid : (now most : ℕ) (items : List Item) → Before now most items → IsTree now (entries_of items)
valid now most items is = stands now items (each_map entry_of (IsEntry now) items is.fit) is.stand.apart is.stand.whole

-- no node has more versions than one more
pub more : (most : ℕ) (ns : List Node) → HaveAtMost most ns → HaveAtMost (most + 1) ns
more most ns h = each_also (λ (n : Node). n.newest ≤ most) (λ (n : Node). n.newest ≤ most + 1) (λ n k. omega arith) ns h

pub stay : (now most : ℕ) (items : List Item) → Before now most items → Stays now (most + 1) items (tree_of items)
stay now most items is =
    let s = is.stand in
    let held : length (locks items) ≤ most = s.held in
    record {
      fit = is.fit;
      meant = refl;
      stand = record { whole = s.whole; apart = s.apart; files = s.files; few = more most (nodes items) s.few; held = omega arith };
    }

-- all nodes of this number are files
abbrev pub FilesAt : List Node → (file : ℕ) → Type 0
FilesAt ns file = Each (λ (n : Node). n.id.0 ≡ file → n.kind ≡ kinds.File) ns

-- an id that is not one is another
other_id : (a b : ℕ) → a ≢ b → eqb a b ≡ false
other_id a b h = by (eqb a b) refl where
  by : (t : Bool) → eqb a b ≡ t → eqb a b ≡ false
  by true e = absurd (h (eqb-true a b e))
  by false e = e

-- the tree after a step on names came to this
abbrev pub tree_named : List Item → OrRefusal Name_outcome → Tree Row
tree_named items r = tree_with (after_ok (nodes items) (nodes_after (nodes items)) r) (locks items) (versions items)

-- a new file
made_stays : (now most : ℕ) (items : List Item) (id : FileId) (d : ℕ) (last : List ℕ) → Before now most items → id.0 < 2 ^ 64 → d < 2 ^ 64
    → Each (λ (n : Node). n.id.0 ≢ id.0) (nodes items) → (o : Option Node) → node_in (nodes items) (record { 0 = d }) last ≡ o
    → (let r = made o (new_file id (record { 0 = d }) last) in Stays now (most + 1) (after_ok items (name_items items) r) (tree_named items r))
made_stays now most items id d last is few small fresh (Some n) e = stay now most items is
made_stays now most items id d last is few small fresh None e =
    let new = new_file id (record { 0 = d }) last in
    let s = is.stand in
    let held : length (locks items) ≤ most = s.held in
    let ids = each_also (λ (n : Node). n.id.0 ≢ id.0) (λ (n : Node). same_id n new ≡ false) (λ n h. other_id n.id.0 id.0 h) (nodes items) fresh in
    let places : Each (λ n. same_place n new ≡ false) (nodes items) = none_found (λ n. same_place n new) (nodes items) e in
    record {
      fit =
          each_append (Fits now) items (Of_node new ∷ []) is.fit
          (record { id = few; parent = small; newest = omega arith; size = omega arith }, tt);
      meant = node_behind items new;
      stand = record {
        whole = with_node (nodes items) (versions items) new s.whole ids places refl refl;
        apart = s.apart;
        files =
            each_also (λ (l : Lock). FilesAt (nodes items) l.file.0) (λ (l : Lock). FilesAt (nodes items ++ new ∷ []) l.file.0)
            (λ l h. each_append (λ (n : Node). n.id.0 ≡ l.file.0 → n.kind ≡ kinds.File) (nodes items) (new ∷ []) h ((λ i. refl), tt))
            (locks items) s.files;
        few = each_append (λ (n : Node). n.newest ≤ most + 1) (nodes items) (new ∷ []) (more most (nodes items) s.few) (omega arith, tt);
        held = omega arith;
      };
    }

pub make_stays : (now most : ℕ) (items : List Item) (names : List (List ℕ)) (id : FileId) → Before now most items → id.0 < 2 ^ 64
    → Each (λ (n : Node). n.id.0 ≢ id.0) (nodes items) → (r : OrRefusal ℕ) → DirFits r
    → Stays now (most + 1) (after_ok items (name_items items) (on_from (made_in items names id) r))
    (tree_named items (on_from (made_in items names id) r))
make_stays now most items names id is few fresh (Ok d) small =
    made_stays now most items id d (last_name names) is few small fresh (node_in (nodes items) (record { 0 = d }) (last_name names)) refl
make_stays now most items names id is few fresh (Err why) small = stay now most items is

-- a look
shown_stays : (now most : ℕ) (items : List Item) → Before now most items → (o : Option Node)
    → Stays now (most + 1) (after_ok items (name_items items) (shown o)) (tree_named items (shown o))
shown_stays now most items is None = stay now most items is
shown_stays now most items is (Some n) = stay now most items is

pub look_stays : (now most : ℕ) (items : List Item) (names : List (List ℕ)) → Before now most items → (r : OrRefusal ℕ)
    → Stays now (most + 1) (after_ok items (name_items items) (on_from (shown_in items names) r))
    (tree_named items (on_from (shown_in items names) r))
look_stays now most items names is (Ok d) = shown_stays now most items is (node_in (nodes items) (record { 0 = d }) (last_name names))
look_stays now most items names is (Err why) = stay now most items is

-- the tree after a step on locks came to this
abbrev pub tree_locked : List Item → RequestNo → Lock_step → OrRefusal Lock_outcome → Tree Row
tree_locked items request x r = tree_with (nodes items) (after_ok (locks items) (locks_after (locks items) request x) r) (versions items)

-- locks that are given back
freed_stays : (now most count : ℕ) (items : List Item) (request : RequestNo) (x : Lock_step) → Before now most items
    → Stays now (most + 1) (lock_items items request x (Frees count)) (tree_locked items request x (Ok (Frees count)))
freed_stays now most count items request x is =
    let kept = λ (i : Item). not (lock_that (frees request x) i) in
    let other = λ (l : Lock). not (frees request x l) in
    let s = is.stand in
    let held : length (locks items) ≤ most = s.held in
    let short = short_filter other (locks items) in
    record {
      fit = each_filter (Fits now) kept items is.fit;
      meant = keep_locks kept other (λ n. refl) (λ v. refl) (λ l. refl) items;
      stand = record {
        whole = s.whole;
        apart = apart_filter same_lock other (locks items) s.apart;
        files = each_filter (λ (l : Lock). FilesAt (nodes items) l.file.0) other (locks items) s.files;
        few = more most (nodes items) s.few;
        held = omega arith;
      };
    }

-- a lock that is put behind those that stay, none of which is on its file
put_stays : (now most : ℕ) (items rest : List Item) (ls : List Lock) (l : Lock) → Before now most items → Each (Fits now) rest
    → tree_of rest ≡ tree_with (nodes items) ls (versions items) → Apart same_lock ls → Each (λ x. same_lock x l ≡ false) ls
    → LockFiles (nodes items) ls → length ls ≤ most → IsEntry now (entry_of (Of_lock l)) → FilesAt (nodes items) l.file.0
    → Stays now (most + 1) (rest ++ Of_lock l ∷ []) (tree_with (nodes items) (ls ++ l ∷ []) (versions items))
put_stays now most items rest ls l is fit left apart other files held fits file =
    record {
      fit = each_append (Fits now) rest (Of_lock l ∷ []) fit (fits, tt);
      meant = lock_behind rest l ∙ ap (λ (t : Tree Row). tree_with t.nodes (t.locks ++ l ∷ []) t.versions) left;
      stand = record {
        whole = is.stand.whole;
        apart = apart_append same_lock ls l apart other;
        files = each_append (λ (x : Lock). FilesAt (nodes items) x.file.0) ls (l ∷ []) files (file, tt);
        few = more most (nodes items) is.stand.few;
        held = simp length-append (omega arith);
      };
    }

same_lock_sym : (a b : Lock) → same_lock a b ≡ same_lock b a
same_lock_sym a b = eqb_sym a.file.0 b.file.0

lock_fits : (now : ℕ) (items : List Item) → Each (Fits now) items → Each (λ l. Fits now (Of_lock l)) (locks items)
lock_fits now [] h = tt
lock_fits now (Of_node n ∷ items) h = lock_fits now items h.1
lock_fits now (Of_version v ∷ items) h = lock_fits now items h.1
lock_fits now (Of_lock l ∷ items) h = (h.0, lock_fits now items h.1)

-- a lock that is renewed
renewed_stays : (now most until : ℕ) (items : List Item) (request : RequestNo) (file : FileId) (session : ℕ) → Before now most items
    → (o : Option Lock) → session_lock (locks items) request file session ≡ o
    → (let r = renewed until o in
    Stays now (most + 1) (after_ok items (lock_items items request (Renew file session)) r) (tree_locked items request (Renew file session) r))
renewed_stays now most until items request file session is None e = stay now most items is
renewed_stays now most until items request file session is (Some l) e =
    let own = is_lock_by request file session in
    let s = is.stand in
    let held : length (locks items) ≤ most = s.held in
    let short = short_without own (locks items) in
    let fits = each_found (λ l. Fits now (Of_lock l)) own (locks items) (lock_fits now items is.fit) l e in
    put_stays now most items (without_first (lock_that own) items) (without_first own (locks items)) (record l { until = until }) is
    (each_without (Fits now) (lock_that own) items is.fit) (without_lock own items) (apart_without same_lock own (locks items) s.apart)
    (each_apart same_lock same_lock_sym own (locks items) s.apart l e)
    (each_without (λ (x : Lock). FilesAt (nodes items) x.file.0) own (locks items) s.files) (omega arith)
    (record { file = fits.file; agent = fits.agent; incarnation = fits.incarnation; session = fits.session })
    (each_found (λ (x : Lock). FilesAt (nodes items) x.file.0) own (locks items) s.files l e)

pub locks_stay : (now most until : ℕ) (items : List Item) (request : RequestNo) (x : Lock_step) → Before now most items
    → (let r = lock_outcome (locks items) until request x in
    Stays now (most + 1) (after_ok items (lock_items items request x) r) (tree_locked items request x r))
locks_stay now most until items request (Unlock file session) is =
    freed_stays now most (freed (locks items) request (Unlock file session)) items request (Unlock file session) is
locks_stay now most until items request Unlock_all is = freed_stays now most (freed (locks items) request Unlock_all) items request Unlock_all is
locks_stay now most until items request (Renew file session) is =
    renewed_stays now most until items request file session is (session_lock (locks items) request file session) refl

-- the tree after a step for a session came to this
abbrev pub tree_opened : List Item → RequestNo → OrRefusal (Session_outcome Row) → Tree Row
tree_opened items request r = after_ok (tree_of items) (session_after rows (tree_of items) request) r

-- an open for reading
pub read_stays : (now most : ℕ) (items : List Item) (request : RequestNo) → Before now most items → (r : OrRefusal anchor.Node)
    → Stays now (most + 1) (after_ok items (session_items items request) (read_from items r)) (tree_opened items request (read_from items r))
read_stays now most items request is (Ok n) = stay now most items is
read_stays now most items request is (Err why) = stay now most items is

-- a file that is reached is the only node of its id
abbrev pub Alone : List Node → OrRefusal anchor.Node → Type 0
Alone ns (Ok n) = Each (λ (m : Node). m.id.0 ≡ n.id.0 → m.kind ≡ kinds.File) ns
Alone ns (Err why) = Unit {0}

way_alone : (ns : List Node) (o : Option anchor.Node) (go : ℕ → OrRefusal anchor.Node) → ((d : ℕ) → Alone ns (go d))
    → Alone ns (anchor.in_directory o go)
way_alone ns None go h = tt
way_alone ns (Some n) go h = by n.kind (h n.id.0) where
  by : (k : Kind) → Alone ns (go n.id.0) → Alone ns (anchor.if_file k (Err refusals.NotDir) (go n.id.0))
  by kinds.File there = tt
  by kinds.Dir there = there

last_alone : (p : Node → Bool) (ns : List Node) → Apart same_id ns → (o : Option Node) → find p ns ≡ o
    → Alone ns (anchor.as_file (option_map node_said o))
last_alone p ns apart None e = tt
last_alone p ns apart (Some n) e = by n.kind refl where
  by : (k : Kind) → n.kind ≡ k → Alone ns (anchor.if_file k (Ok (node_said n)) (Err refusals.IsDir))
  by kinds.File f = alone p ns n apart e f
  by kinds.Dir f = tt

pub file_alone : (items : List Item) → Apart same_id (nodes items) → (names : List (List ℕ)) (d : ℕ)
    → Alone (nodes items) (anchor.file_at (anchor.nodes_of (entries_of items)) d names)
file_alone items apart [] d = tt
file_alone items apart (name ∷ []) d =
    subst (λ (o : Option anchor.Node). Alone (nodes items) (anchor.as_file o)) (sym (node_found items (record { 0 = d }) name))
    (last_alone _ (nodes items) apart (node_in (nodes items) (record { 0 = d }) name) refl)
file_alone items apart (name ∷ next ∷ names) d =
    way_alone (nodes items) (anchor.node_at (anchor.nodes_of (entries_of items)) d name)
    (λ b. anchor.file_at (anchor.nodes_of (entries_of items)) b (next ∷ names))
    (λ b. file_alone items apart (next ∷ names) b)

-- an open for writing
lock_stays : (now most until : ℕ) (items : List Item) (request : RequestNo) (session : ℕ) (n : Node) → Before now most items → n.id.0 < 2 ^ 64
    → FilesAt (nodes items) n.id.0 → request.agent < 2 ^ 8 → request.incarnation < 2 ^ 24 → session < 2 ^ 64 → (o : Option Lock)
    → lock_on (locks items) n.id ≡ o
    → (let r = on_ok (λ (n : Node). Locks (sight_of rows (tree_of items) n) (new_lock request session until n.id)) (unlocked o n) in
    Stays now (most + 1) (after_ok items (session_items items request) r) (tree_opened items request r))
lock_stays now most until items request session n is small only agent incarnation number (Some l) e = stay now most items is
lock_stays now most until items request session n is small only agent incarnation number None e =
    let l = new_lock request session until n.id in
    put_stays now most items items (locks items) l is is.fit refl is.stand.apart (none_found (λ x. same_lock x l) (locks items) e)
    is.stand.files is.stand.held (record { file = small; agent = agent; incarnation = incarnation; session = number }) only

pub write_stays : (now most until : ℕ) (items : List Item) (request : RequestNo) (session : ℕ) → Before now most items → request.agent < 2 ^ 8
    → request.incarnation < 2 ^ 24 → session < 2 ^ 64 → (r : OrRefusal anchor.Node) → FileFits r → Alone (nodes items) r
    → Stays now (most + 1) (after_ok items (session_items items request) (write_from items until request session r))
    (tree_opened items request (write_from items until request session r))
write_stays now most until items request session is agent incarnation number (Ok n) fit only =
    lock_stays now most until items request session (node_meant n) is fit.id only agent incarnation number (lock_on (locks items) n.id) refl
write_stays now most until items request session is agent incarnation number (Err why) fit only = stay now most items is
