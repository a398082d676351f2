use Rattle.std.proofs.Common.{◌≡◌, ◌≢◌, ℕ, ◌+◌, ◌<◌, ◌≤◌, ◌^◌, List, [], ◌∷◌, ◌++◌, length, map, eqb, Bool, true, false, ◌&&◌, Option, Some, None, Result, Ok, Err, refl, ap, ◌∙◌, sym, subst, arith, append_assoc, length-append, zero-add}
use Rattle.std.specs.Prelude.{slice_get}
use Rattle.std.specs.Option.{option_map, option_to_list}
use Rattle.std.specs.Str.{bytes_eq}
use Rattle.std.proofs.lemmas.List.{append-nil}
use Rattle.scfs_base.specs.declared.naming.FileId.{FileId}
use Rattle.scfs_schedule.specs.declared.types.Kind.{Kind}
use Rattle.scfs_schedule.specs.declared.types.Kind.TheVariants.{File, Dir}
use Rattle.scfs_schedule.specs.declared.types.Refusal.{Refusal}
use Rattle.scfs_schedule.specs.declared.types.Refusal.TheVariants.{IsDir}
use Rattle.scfs_tuples.specs.After.{Passed, tested, result_of, left_by, reply_among, left_among}
use Rattle.scfs_tuples.specs.Matching.{row, agrees_with}
use Rattle.scfs_tuples.specs.declared.types.Cond.{Cond}
use Rattle.scfs_tuples.specs.declared.types.Field.{Field}
use Rattle.scfs_tuples.specs.declared.types.Field.TheVariants.{Num}
use Rattle.scfs_tuples.specs.declared.types.Pattern.{Pattern}
use Rattle.scfs_tuples.specs.declared.types.Reply.{Reply}
use Rattle.scfs_model.specs.Walks.{on_ok}
use Rattle.scfs_tuples.specs.declared.types.Step.{Step}
use Rattle.scfs_tuples.specs.declared.types.StepResult.TheVariants.{Did}
use Rattle.scfs_tuples.specs.declared.types.Want.TheVariants.{Any, Bind}
use Rattle.scfs_anchor.specs.Shapes as shapes
use Rattle.scfs_anchor.specs.Shapes.{root}
use Rattle.scfs_anchor.specs.Plans.{Condition, step_of, open_read, reach, file, before_last}
use Rattle.scfs_anchor.specs.Replies.{version_tuple, lock_tuple, IfRow, ShowsSight, refusal_at}
use Rattle.scfs_anchor.specs.Tree.{Node, Entry, OfNode, OfVersion, OfLock, OfDead, OfGone, Lock, tuple_of, tuples_of, nodes_of, versions_of, locks_of, version_of, lock_on, node_at, file_at, as_file, in_directory, if_file, held, sight_of, Each, IsEntry, IsNode, IsLock, IsTree, Apart, same_file}
use Rattle.scfs_anchor.specs.StepReplies.{IsRefusal}
use Rattle.scfs_anchor.specs.declared.seen.VersionRow.{VersionRow}
use Rattle.scfs_anchor.specs.declared.seen.Sight.{Sight}
use Rattle.scfs_anchor.proofs.WalkLemmas.{at_end}
use Rattle.scfs_anchor.proofs.SightLemmas.{version_shown, lock_shown, number_eq}
use Rattle.scfs_anchor.proofs.StepLemmas.{conds_append}
use Rattle.scfs_anchor.proofs.PathLemmas.{Comes, path_comes}
use Rattle.scfs_anchor.proofs.Alike.{refused}

-- a reply answers as the tree does: it shows the sight, or it is refused with the refusal of the tree
abbrev pub AnswersSight : Step → Reply → Result Sight Refusal → Type 0
AnswersSight step reply (Ok seen) = ShowsSight reply seen
AnswersSight step reply (Err refusal) = IsRefusal step refusal reply.result

-- no two locks are on one file
abbrev pub LocksApart : List Entry → Type 0
LocksApart es = Apart (λ (x y : Lock). same_file x.file y.file) (locks_of es)

abbrev pub RowFits : Option VersionRow → Type 0
RowFits o = IfRow o

-- the numbers of a version that is there fit
pub row_fits : (now : ℕ) (id : FileId) (v : ℕ) (es : List Entry) → Each (IsEntry now) es → RowFits (version_of (versions_of es) id v)
row_fits now id v [] h = tt
row_fits now id v (OfNode n ∷ es) h = row_fits now id v es h.1
row_fits now id v (OfLock l ∷ es) h = row_fits now id v es h.1
row_fits now id v (OfDead u ∷ es) h = row_fits now id v es h.1
row_fits now id v (OfGone g ∷ es) h = row_fits now id v es h.1
row_fits now id v (OfVersion r ∷ es) h = here (eqb id.0 r.id.0 && eqb v r.number) refl (row_fits now id v es h.1) where
  here : (t : Bool) → eqb id.0 r.id.0 && eqb v r.number ≡ t → RowFits (version_of (versions_of es) id v)
      → RowFits (version_of (versions_of (OfVersion r ∷ es)) id v)
  here true e rest = rw e h.0.fits
  here false e rest = rw e rest

-- a lock on this file, whose numbers fit
abbrev pub LockFits : FileId → Option Lock → Type 0
LockFits id None = Unit {0}
LockFits id (Some l) = IsLock l × (id.0 ≡ l.file.0)

pub lock_fits : (now : ℕ) (id : FileId) (es : List Entry) → Each (IsEntry now) es → LockFits id (lock_on (locks_of es) id)
lock_fits now id [] h = tt
lock_fits now id (OfNode n ∷ es) h = lock_fits now id es h.1
lock_fits now id (OfVersion r ∷ es) h = lock_fits now id es h.1
lock_fits now id (OfDead u ∷ es) h = lock_fits now id es h.1
lock_fits now id (OfGone g ∷ es) h = lock_fits now id es h.1
lock_fits now id (OfLock l ∷ es) h = here (eqb id.0 l.file.0) refl (lock_fits now id es h.1) where
  here : (t : Bool) → eqb id.0 l.file.0 ≡ t → LockFits id (lock_on (locks_of es) id) → LockFits id (lock_on (locks_of (OfLock l ∷ es)) id)
  here true e rest = rw e (h.0, number_eq id.0 l.file.0 e)
  here false e rest = rw e rest

abbrev pub NodeFits : Option Node → Type 0
NodeFits None = Unit {0}
NodeFits (Some n) = IsNode n

pub node_fits : (now d : ℕ) (name : List ℕ) (es : List Entry) → Each (IsEntry now) es → NodeFits (node_at (nodes_of es) d name)
node_fits now d name [] h = tt
node_fits now d name (OfVersion r ∷ es) h = node_fits now d name es h.1
node_fits now d name (OfLock l ∷ es) h = node_fits now d name es h.1
node_fits now d name (OfDead u ∷ es) h = node_fits now d name es h.1
node_fits now d name (OfGone g ∷ es) h = node_fits now d name es h.1
node_fits now d name (OfNode n ∷ es) h = here (eqb d n.parent.0 && bytes_eq name n.name) refl (node_fits now d name es h.1) where
  here : (t : Bool) → eqb d n.parent.0 && bytes_eq name n.name ≡ t → NodeFits (node_at (nodes_of es) d name)
      → NodeFits (node_at (nodes_of (OfNode n ∷ es)) d name)
  here true e rest = rw e h.0
  here false e rest = rw e rest

abbrev pub FileFits : Result Node Refusal → Type 0
FileFits (Ok n) = IsNode n
FileFits (Err refusal) = Unit {0}

last_fits : (o : Option Node) → NodeFits o → FileFits (as_file o)
last_fits None h = tt
last_fits (Some n) h = kinds n.kind where
  kinds : (kind : Kind) → FileFits (if_file kind (Ok n) (Err IsDir))
  kinds File = h
  kinds Dir = tt

way_fits : (o : Option Node) (reach : ℕ → Result Node Refusal) → ((d : ℕ) → FileFits (reach d)) → FileFits (in_directory o reach)
way_fits None reach h = tt
way_fits (Some n) reach h = kinds n.kind refl where
  kinds : (kind : Kind) → n.kind ≡ kind → FileFits (in_directory (Some n) reach)
  kinds File e = rw e tt
  kinds Dir e = rw e (h n.id.0)

-- the numbers of a file that is reached fit
pub file_fits : (now : ℕ) (es : List Entry) → Each (IsEntry now) es → (names : List (List ℕ)) (d : ℕ) → FileFits (file_at (nodes_of es) d names)
file_fits now es h [] d = tt
file_fits now es h (name ∷ []) d = last_fits (node_at (nodes_of es) d name) (node_fits now d name es h)
file_fits now es h (name ∷ next ∷ names) d = way_fits (node_at (nodes_of es) d name) (λ b. file_at (nodes_of es) b (next ∷ names))
    (λ b. file_fits now es h (next ∷ names) b)

-- a reply with the tuples of a version and a lock shows the sight
pub shows : (reply : Reply) (before : List Field) (n : Node) (row : Option VersionRow) (lock : Option Lock) → n.newest < 2 ^ 32 → IfRow row
    → LockFits n.id lock → reply.result
    ≡ Did (before ++ Num n.id.0 ∷ Num n.newest ∷ []) 0
    (map version_tuple (option_to_list row) ∷ map (λ l. tuple_of (OfLock l)) (option_to_list lock) ∷ [])
    → ShowsSight reply (record { id = n.id; newest = n.newest; row = row; lock = option_map held lock })
shows reply before n row None small fit locked is = record { before = before; until = None; result = is; newest = small; row = fit; lock = tt }
shows reply before n row (Some l) small fit locked is =
    record {
      before = before;
      until = l.until;
      result = is ∙ ap (λ (i : ℕ). Did (before ++ Num n.id.0 ∷ Num n.newest ∷ []) 0
          (map version_tuple (option_to_list row) ∷ (lock_tuple (record { 0 = i }) (held l) l.until ∷ []) ∷ [])) (sym locked.1);
      newest = small;
      row = fit;
      lock = record { agent = locked.0.agent; incarnation = let few : l.incarnation < 2 ^ 24 = locked.0.incarnation in omega arith };
    }

-- the variables of a file that was reached
pub id_bound : (before : List Field) (n : Node) (a : ℕ) → length before ≡ a
    → slice_get (before ++ Num n.id.0 ∷ Num n.newest ∷ []) a ≡ Some (Num n.id.0)
id_bound before n a size = subst (λ (k : ℕ). slice_get (before ++ Num n.id.0 ∷ Num n.newest ∷ []) k
    ≡ Some (Num n.id.0)) size (at_end before (Num n.newest ∷ []) (Num n.id.0))

pub newest_bound : (before : List Field) (n : Node) (a : ℕ) → length before ≡ a
    → slice_get (before ++ Num n.id.0 ∷ Num n.newest ∷ []) (a + 1) ≡ Some (Num n.newest)
newest_bound before n a size =
    let b = before ++ Num n.id.0 ∷ [] in
    let place : length b ≡ a + 1 = simp length-append (omega arith) in
    let found : slice_get (b ++ Num n.newest ∷ []) (a + 1)
    ≡ Some (Num n.newest) = subst (λ (k : ℕ). slice_get (b ++ Num n.newest ∷ []) k ≡ Some (Num n.newest)) place (at_end b [] (Num n.newest)) in
    subst (λ (l : List Field). slice_get l (a + 1) ≡ Some (Num n.newest)) (append_assoc before (Num n.id.0 ∷ []) (Num n.newest ∷ [])) found

-- a step that passes shows the newest version of the file, and the lock
pub passed_shows : (step : Step) (now : ℕ) (es : List Entry) (before : List Field) (n : Node) (a : ℕ) → IsTree now es → LocksApart es → IsNode n
    → length before ≡ a → step.all ≡ shapes.version (Bind a) (Bind (a + 1)) ∷ shapes.lock (Bind a) Any Any Any ∷ []
    → tested step.conds 0 (tuples_of es) [] 0 ≡ Passed (before ++ Num n.id.0 ∷ Num n.newest ∷ []) 0 (tuples_of es)
    → ShowsSight (reply_among (tuples_of es) now step) (sight_of es n)
passed_shows step now es before n a tree apart node size all h =
    let ts = tuples_of es in
    let bound = before ++ Num n.id.0 ∷ Num n.newest ∷ [] in
    let is = id_bound before n a size in
    let newest = λ (x : ℕ). ap (λ known. agrees_with known (Num x)) (newest_bound before n a size) in
    let seen = version_of (versions_of es) n.id n.newest in
    let versions = version_shown bound a n.id n.newest (Bind (a + 1)) is newest es tree.versions in
    let locks = lock_shown bound a n.id is es apart in
    let result : (reply_among ts now step).result
    ≡ Did bound 0 (map version_tuple (option_to_list seen) ∷ map (λ l. tuple_of (OfLock l)) (option_to_list (lock_on (locks_of es) n.id)) ∷ []) =
    ap (λ t. result_of t ts step.all) h
    ∙ ap (λ ps. Did bound 0 (map (λ (p : Pattern). row bound ts p.wants) ps)) all
    ∙ ap (λ rows. Did bound 0 (rows ∷ row bound ts (shapes.lock (Bind a) Any Any Any).wants ∷ [])) versions
    ∙ ap (λ rows. Did bound 0 (map version_tuple (option_to_list seen) ∷ rows ∷ [])) locks in
    let few : n.newest ≤ 1000000 = node.newest in
    shows (reply_among ts now step) before n seen (lock_on (locks_of es) n.id) (omega arith) (row_fits now n.id n.newest es tree.ranges)
    (lock_fits now n.id es tree.ranges) result

abbrev pub conds_of : List Condition → List Cond
conds_of cs = map (λ (c : Condition). c.cond) cs

-- over tuples that stand for a tree an open for reading answers as the tree does, and leaves them
pub opens_at_tree : (now : ℕ) (es : List Entry) (names : List (List ℕ)) → IsTree now es → LocksApart es → names ≢ []
    → (let step = step_of (open_read names None) in
    AnswersSight step (reply_among (tuples_of es) now step) (on_ok (sight_of es) (file_at (nodes_of es) root names))
    × (left_among (tuples_of es) now step ≡ tuples_of es))
opens_at_tree now es names tree apart some =
    by (file_at (nodes_of es) root names) (file_fits now es tree.ranges names root)
    (path_comes names 0 root [] [] 0 es 0 (before_last names) some refl (zero-add (before_last names)) refl tree.places) where
      same : (step_of (open_read names None)).conds ≡ conds_of (reach file 0 names) ++ []
      same = conds_append (reach file 0 names) []

      by : (r : Result Node Refusal) → FileFits r
          → Comes (conds_of (reach file 0 names)) [] 0 es 0 (before_last names) (tested (conds_of (reach file 0 names) ++ []) 0 (tuples_of es) [] 0) r
          → (let step = step_of (open_read names None) in
          AnswersSight step (reply_among (tuples_of es) now step) (on_ok (sight_of es) r) × (left_among (tuples_of es) now step ≡ tuples_of es))
      by (Ok n) fit (before, size, h) =
          let passes = ap (λ cs. tested cs 0 (tuples_of es) [] 0) same ∙ h in (
            passed_shows (step_of (open_read names None)) now es before n (before_last names) tree apart fit size refl passes,
            ap (λ t. left_by t now (tuples_of es) []) passes ∙ append-nil (tuples_of es),
          )
      by (Err why) fit (k, h, r) =
          refused (step_of (open_read names None)) now (tuples_of es) k None why (ap (λ cs. tested cs 0 (tuples_of es) [] 0) same ∙ h)
          (ap (λ cs. refusal_at cs k None) same ∙ r)
