use Rattle.std.proofs.Common.{◌≡◌, ◌≢◌, ℕ, ◌+◌, ◌<◌, ◌^◌, List, [], ◌∷◌, ◌++◌, length, cond, eqb, Bool, true, false, Option, Some, None, Result, Ok, Err, refl, ap, ◌∙◌, sym, arith, zero-add}
use Rattle.std.specs.Prelude.{slice_get, codes}
use Rattle.std.proofs.Math.Nat.{min-eq_left}
use Rattle.std.proofs.lemmas.List.{map-append}
use Rattle.scfs_base.specs.declared.naming.FileId.{FileId}
use Rattle.scfs_schedule.specs.declared.types.Refusal.{Refusal}
use Rattle.scfs_schedule.specs.declared.types.Refusal.TheVariants.{Locked}
use Rattle.scfs_tuples.specs.After.{Passed, tested, need_none, left_by, reply_among, left_among, standing}
use Rattle.scfs_tuples.specs.Matching.{Match, first_match, fits}
use Rattle.scfs_tuples.specs.declared.types.Cond.{Cond}
use Rattle.scfs_tuples.specs.declared.types.Cond.TheVariants as conds
use Rattle.scfs_tuples.specs.declared.types.Field.{Field}
use Rattle.scfs_tuples.specs.declared.types.Field.TheVariants.{Num, Text}
use Rattle.scfs_tuples.specs.declared.types.Step.{Step}
use Rattle.scfs_tuples.specs.declared.types.Want.TheVariants.{Any, Bind}
use Rattle.scfs_anchor.specs.Shapes as shapes
use Rattle.scfs_anchor.specs.Shapes.{root}
use Rattle.scfs_anchor.specs.Plans.{Condition, step_of, open_write, reach, file, before_last, unlocked}
use Rattle.scfs_anchor.specs.Replies.{refused_by, refusal_at}
use Rattle.scfs_anchor.specs.Tree.{Node, Entry, OfNode, OfVersion, OfLock, OfDead, OfGone, Lock, tuple_of, tuples_of, nodes_of, locks_of, lock_on, file_at, sight_of, IsNode, IsTree}
use Rattle.scfs_anchor.specs.declared.seen.Sight.{Sight}
use Rattle.scfs_anchor.proofs.StepLemmas.{conds_append}
use Rattle.scfs_anchor.proofs.PathLemmas.{Comes, path_comes}
use Rattle.scfs_anchor.proofs.Alike.{refused}
use Rattle.scfs_anchor.proofs.OpenLemmas.{AnswersSight, LocksApart, FileFits, LockFits, file_fits, lock_fits, id_bound, conds_of, passed_shows}

-- how the pattern of a lock meets one
lock_meets : (bound : List Field) (a i : ℕ) → slice_get bound a ≡ Some (Num i) → (l : Lock) (t : Bool) → eqb i l.file.0 ≡ t
    → fits (shapes.lock (Bind a) Any Any Any).wants (tuple_of (OfLock l)).fields bound ≡ cond t (Some bound) None
lock_meets bound a i is l true e = rw (is, e) refl
lock_meets bound a i is l false e = rw (is, e) refl

abbrev met_lock : List Field → Option Lock → Option Match
met_lock bound None = None
met_lock bound (Some l) = Some (record { tuple = tuple_of (OfLock l); bound = bound })

-- the lock on the file is met, where there is one
first_lock : (bound : List Field) (a : ℕ) (id : FileId) → slice_get bound a ≡ Some (Num id.0) → (es : List Entry)
    → first_match (shapes.lock (Bind a) Any Any Any).wants (tuples_of es) bound ≡ met_lock bound (lock_on (locks_of es) id)
first_lock bound a id is [] = refl
first_lock bound a id is (OfNode n ∷ es) = first_lock bound a id is es
first_lock bound a id is (OfVersion r ∷ es) = first_lock bound a id is es
first_lock bound a id is (OfDead u ∷ es) = first_lock bound a id is es
first_lock bound a id is (OfGone g ∷ es) = first_lock bound a id is es
first_lock bound a id is (OfLock l ∷ es) = here (eqb id.0 l.file.0) refl (first_lock bound a id is es) where
  here : (t : Bool) → eqb id.0 l.file.0 ≡ t
      → first_match (shapes.lock (Bind a) Any Any Any).wants (tuples_of es) bound ≡ met_lock bound (lock_on (locks_of es) id)
      → first_match (shapes.lock (Bind a) Any Any Any).wants (tuples_of (OfLock l ∷ es)) bound
      ≡ met_lock bound (lock_on (locks_of (OfLock l ∷ es)) id)
  here true e rest = rw (lock_meets bound a id.0 is l true e, e) refl
  here false e rest = rw (lock_meets bound a id.0 is l false e, e) rest

cond_at : (on rest : List Cond) (c : Cond) → slice_get (on ++ c ∷ rest) (length on) ≡ Some c
cond_at [] rest c = refl
cond_at (x ∷ on) rest c = cond_at on rest c

abbrev free : List (List ℕ) → List Condition
free names = unlocked (shapes.lock (Bind (before_last names)) Any Any Any) ∷ []

-- the lock of a session on a file that begins at a moment and lives so long
abbrev pub taken : (now agent incarnation session lease : ℕ) → Node → Lock
taken now agent incarnation session lease n =
    record { file = n.id; agent = agent; incarnation = incarnation; session = session; until = Some (now + lease) }

-- the sight, where there is no lock; a lock refuses it with its agent
abbrev pub unless_locked : List Entry → Node → Option Lock → Result Sight Refusal
unless_locked es n None = Ok (sight_of es n)
unless_locked es n (Some l) = Err (Locked l.agent)

-- with this lock, unless there is one
abbrev pub with_lock : List Entry → Lock → Option Lock → List Entry
with_lock es l None = es ++ OfLock l ∷ []
with_lock es l (Some there) = es

-- what an open for writing answers and leaves, by the way to its file
abbrev pub LocksAt : (now : ℕ) → List Entry → Step → (Node → Lock) → Result Node Refusal → Type 0
LocksAt now es step new (Ok n) =
    AnswersSight step (reply_among (tuples_of es) now step) (unless_locked es n (lock_on (locks_of es) n.id))
    × (left_among (tuples_of es) now step ≡ tuples_of (with_lock es (new n) (lock_on (locks_of es) n.id)))
LocksAt now es step new (Err why) =
    AnswersSight step (reply_among (tuples_of es) now step) (Err why) × (left_among (tuples_of es) now step ≡ tuples_of es)

module _ (now : ℕ) (es : List Entry) (names : List (List ℕ)) (agent incarnation session lease : ℕ) (tree : IsTree now es)
    (apart : LocksApart es) where
  abbrev step : Step
  step = step_of (open_write names agent incarnation session lease)

  abbrev on : List Cond
  on = conds_of (reach file 0 names)

  abbrev new : Node → Lock
  new n = taken now agent incarnation session lease n

  joined : step.conds ≡ on ++ conds_of (free names)
  joined = conds_append (reach file 0 names) (free names)

  -- of a file that was reached, by the lock on it
  reached : (n : Node) (before : List Field) → IsNode n → length before ≡ before_last names
      → tested step.conds 0 (tuples_of es) [] 0
      ≡ tested (conds_of (free names)) (0 + length on) (tuples_of es) (before ++ Num n.id.0 ∷ Num n.newest ∷ []) 0
      → (o : Option Lock) → LockFits n.id o → lock_on (locks_of es) n.id ≡ o
      → AnswersSight step (reply_among (tuples_of es) now step) (unless_locked es n o)
      × (left_among (tuples_of es) now step ≡ tuples_of (with_lock es (new n) o))
  reached n before node size h None fit e =
      let ts = tuples_of es in
      let bound = before ++ Num n.id.0 ∷ Num n.newest ∷ [] in
      let is = id_bound before n (before_last names) size in
      let passes : tested step.conds 0 ts [] 0 ≡ Passed bound 0 ts =
      h ∙ ap (λ m. need_none m (0 + length on) (Passed bound 0 ts)) (first_lock bound (before_last names) n.id is es ∙ ap (met_lock bound) e) in (
        passed_shows step now es before n (before_last names) tree apart node size refl passes,
        ap (λ t. left_by t now ts step.puts) passes
            ∙ ap (λ known. ts ++ (record {
              fields = Text (codes "lock") ∷ standing known ∷ Num agent ∷ Num incarnation ∷ Num session ∷ [];
              until = Some (now + lease);
            }) ∷ []) is
            ∙ sym (map-append tuple_of es (OfLock (new n) ∷ [])),
      )
  reached n before node size h (Some l) fit e =
      let ts = tuples_of es in
      let bound = before ++ Num n.id.0 ∷ Num n.newest ∷ [] in
      let there = Some (tuple_of (OfLock l)) in
      let few : l.agent < 2 ^ 8 = fit.0.agent in
      refused step now ts (length on) there (Locked l.agent)
      (h ∙ ap (λ m. need_none m (0 + length on) (Passed bound 0 ts))
      (first_lock bound (before_last names) n.id (id_bound before n (before_last names) size) es ∙ ap (met_lock bound) e))
      (ap (λ cs. refusal_at cs (length on) there) joined
      ∙ ap (λ c. refused_by c there) (cond_at on [] (conds.NoneOf (shapes.lock (Bind (before_last names)) Any Any Any)))
      ∙ ap Locked (min-eq_left (omega arith)))

  -- over tuples that stand for a tree an open for writing answers as the tree does, and puts its lock
  pub locks_at_tree : names ≢ [] → LocksAt now es step new (file_at (nodes_of es) root names)
  locks_at_tree some =
      by (file_at (nodes_of es) root names) (file_fits now es tree.ranges names root)
      (path_comes names 0 root [] (conds_of (free names)) 0 es 0 (before_last names) some refl (zero-add (before_last names)) refl tree.places) where
        by : (r : Result Node Refusal) → FileFits r
            → Comes on (conds_of (free names)) 0 es 0 (before_last names) (tested (on ++ conds_of (free names)) 0 (tuples_of es) [] 0) r
            → LocksAt now es step new r
        by (Ok n) fit (before, size, h) =
            reached n before fit size (ap (λ cs. tested cs 0 (tuples_of es) [] 0) joined ∙ h) (lock_on (locks_of es) n.id)
            (lock_fits now n.id es tree.ranges) refl
        by (Err why) fit (k, h, r) =
            refused step now (tuples_of es) k None why (ap (λ cs. tested cs 0 (tuples_of es) [] 0) joined ∙ h)
            (ap (λ cs. refusal_at cs k None) joined ∙ r)
