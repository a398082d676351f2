use Rattle.std.specs.Prelude.{ℕ, ◌^◌, List, [], ◌∷◌, codes, Some, zero, suc}
use Rattle.scfs_tuples.specs.declared.types.Field.TheVariants as fields
use Rattle.scfs_tuples.specs.declared.types.Want.{Want}
use Rattle.scfs_tuples.specs.declared.types.Want.TheVariants.{Eq, Any, Bind}
use Rattle.scfs_tuples.specs.declared.types.Pattern.{Pattern}
use Rattle.scfs_tuples.specs.declared.types.Give.{Give}
use Rattle.scfs_tuples.specs.declared.types.Give.TheVariants.{Val}
use Rattle.scfs_tuples.specs.declared.types.Template.{Template}

-- The shapes of tuples, by their first field, a text:
-- node: id, parent, name, kind (0 directory, 1 file), newest version, length
-- ver: id, number, root, content digest, length, agent, incarnation, count, time
-- lock: id, agent, incarnation, session

-- the number of the root directory
abbrev pub root : ℕ
root = 2 ^ 60

-- this number is wanted
abbrev pub number : ℕ → Want
number n = Eq (fields.Num n)

-- this text is wanted
abbrev pub text : List ℕ → Want
text bytes = Eq (fields.Text bytes)

-- a node
abbrev pub node : (id parent name kind newest length : Want) → Pattern
node id parent name kind newest length =
    record { wants = text (codes "node") ∷ id ∷ parent ∷ name ∷ kind ∷ newest ∷ length ∷ [] }

-- a version of a file
abbrev pub version : (id number : Want) → Pattern
version id number = record { wants = text (codes "ver") ∷ id ∷ number ∷ Any ∷ Any ∷ Any ∷ Any ∷ Any ∷ Any ∷ Any ∷ [] }

-- a lock on a file
abbrev pub lock : (id agent incarnation session : Want) → Pattern
lock id agent incarnation session =
    record { wants = text (codes "lock") ∷ id ∷ agent ∷ incarnation ∷ session ∷ [] }

-- this number is put
abbrev pub given : ℕ → Give
given n = Val (fields.Num n)

-- this text is put
abbrev pub given_text : List ℕ → Give
given_text bytes = Val (fields.Text bytes)

-- a lock is put on a file
abbrev pub new_lock : (id : Give) → (agent incarnation session : ℕ) → (life : ℕ) → Template
new_lock id agent incarnation session life =
    record {
      gives = given_text (codes "lock") ∷ id ∷ given agent ∷ given incarnation ∷ given session ∷ [];
      life = Some life;
    }

-- the directory that a name is looked up in: the root for the first name, else what the variable of the name before stands for
abbrev pub directory : ℕ → Want
directory zero = number root
directory (suc at) = Bind at
