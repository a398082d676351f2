-- Steps like that of a commit, over a number of files.
use Rattle.std.specs.Prelude.{ℕ, zero, suc, ◌+◌, ◌/◌, ◌%◌, List, [], ◌∷◌, codes, Some, None}
use Rattle.std.specs.Fmt.{decimal}
use Rattle.scfs_tuples.specs.After.{left_after, reply_of}
use Rattle.scfs_tuples.specs.declared.types.Field.TheVariants as fields
use Rattle.scfs_tuples.specs.declared.types.Tuple.{Tuple}
use Rattle.scfs_tuples.specs.declared.types.Want.{Want}
use Rattle.scfs_tuples.specs.declared.types.Want.TheVariants as wants
use Rattle.scfs_tuples.specs.declared.types.Cond.TheVariants as conds
use Rattle.scfs_tuples.specs.declared.types.Give.{Give}
use Rattle.scfs_tuples.specs.declared.types.Give.TheVariants as gives
use Rattle.scfs_tuples.specs.declared.types.Template.{Template}
use Rattle.scfs_tuples.specs.declared.types.Step.{Step}
use Rattle.scfs_tuples.specs.declared.types.StepResult.{StepResult}
use Rattle.scfs_tuples.specs.declared.types.StepResult.TheVariants as results
use Rattle.scfs_bench.specs.declared.steps.Crowd.{Crowd}
use Rattle.scfs_bench.specs.declared.steps.Crowd.TheVariants.{Thousand, HundredThousand}
use Rattle.scfs_bench.specs.declared.steps.Run.{Run}

-- a file's node: id, directory, name, kind, newest version, length
abbrev pub node_of : ℕ → Give → Give → ℕ → Template
node_of id parent name newest =
    record {
      gives =
          gives.Val (fields.Text (codes "node")) ∷ gives.Val (fields.Num id) ∷ parent ∷ name ∷ gives.Val (fields.Num 1)
          ∷ gives.Val (fields.Num newest) ∷ gives.Val (fields.Num 0) ∷ [];
      life = None;
    }

-- a file's lock: id, agent, session
abbrev pub lock_of : ℕ → Template
lock_of id =
    record {
      gives = gives.Val (fields.Text (codes "lock")) ∷ gives.Val (fields.Num id) ∷ gives.Val (fields.Num 0) ∷ gives.Val (fields.Num 0) ∷ [];
      life = Some 1000000;
    }

-- the wants of a file's node at a version
abbrev pub node_wants : ℕ → ℕ → List Want
node_wants id newest =
    wants.Eq (fields.Text (codes "node")) ∷ wants.Eq (fields.Num id) ∷ wants.Bind 0 ∷ wants.Bind 1 ∷ wants.Eq (fields.Num 1)
    ∷ wants.Eq (fields.Num newest) ∷ wants.Any ∷ []

-- the wants of a file's lock
abbrev pub lock_wants : ℕ → List Want
lock_wants id =
    wants.Eq (fields.Text (codes "lock")) ∷ wants.Eq (fields.Num id) ∷ wants.Eq (fields.Num 0) ∷ wants.Eq (fields.Num 0) ∷ []

-- the step that makes a file: its node and its lock
abbrev pub new_file_of : ℕ → Step
new_file_of id =
    record {
      conds = [];
      all = [];
      puts = node_of id (gives.Val (fields.Num 0)) (gives.Val (fields.Text (codes "a"))) 0 ∷ lock_of id ∷ [];
    }

-- the step that commits the next version of a file: its lock and the node of the version before are taken, and the lock and the
-- node of the next version are put
abbrev pub commit_of : ℕ → ℕ → Step
commit_of id newest =
    record {
      conds = conds.Take (record { wants = lock_wants id }) ∷ conds.Take (record { wants = node_wants id newest }) ∷ [];
      all = [];
      puts = node_of id (gives.Var 0) (gives.Var 1) (newest + 1) ∷ lock_of id ∷ [];
    }

-- the tuples of a space, and how many steps were done in it
pub record Ran : Type 0 where
  pub tuples : List Tuple
  pub done : ℕ

abbrev pub ran_of : Run → Ran
ran_of run = record { tuples = run.space; done = run.done }

abbrev pub done_in : StepResult → ℕ → ℕ
done_in (results.Did bound taken rows) done = done + 1
done_in (results.Refused index tuple) done = done

-- after a step
abbrev pub ran : Step → Ran → Ran
ran step r = record { tuples = left_after r.tuples 0 step; done = done_in (reply_of r.tuples 0 step).result r.done }

-- after so many files were made
unfoldable pub filled_with : ℕ → Ran
filled_with zero = record { tuples = []; done = 0 }
filled_with (suc id) = ran (new_file_of id) (filled_with id)

-- after so many commits, of each file in turn
unfoldable pub after : ℕ → ℕ → Ran
after files zero = filled_with files
after files (suc round) = ran (commit_of (round % files) (round / files)) (after files round)

-- how many files there are, each of two tuples
abbrev pub files_of : Crowd → ℕ
files_of Thousand = 500
files_of HundredThousand = 50000

-- how many steps were done, in decimal digits
abbrev pub done_after : Crowd → ℕ → List ℕ
done_after crowd times = decimal (after (files_of crowd) times).done
