use Rattle.std.specs.Prelude.{ℕ, List, [], ◌∷◌, ◌++◌, codes, Bool, nat_le, ◌==◌, if◌then◌else◌, Option, Some, None}
use Rattle.std.specs.Str.{bytes_eq}
use Rattle.scfs_base.specs.Limits.{names_limit}
use Rattle.scfs_schedule.specs.declared.tables.AgentWord.{AgentWord}
use Rattle.scfs_schedule.specs.declared.tables.AgentWord.TheVariants as agents
use Rattle.scfs_schedule.specs.declared.tables.CloudWord.{CloudWord}
use Rattle.scfs_schedule.specs.declared.tables.CloudWord.TheVariants as clouds
use Rattle.scfs_schedule.specs.declared.tables.CallWord.{CallWord}
use Rattle.scfs_schedule.specs.declared.tables.CallWord.TheVariants as calls
use Rattle.scfs_schedule.specs.declared.tables.AnswerWord.{AnswerWord}
use Rattle.scfs_schedule.specs.declared.tables.AnswerWord.TheVariants as answers

-- what a table's row of this word says
abbrev pub meaning : {A : Type 0} → List (List ℕ × A) → List ℕ → Option A
meaning [] word = None
meaning (row ∷ rows) word = if bytes_eq word row.0 then Some row.1 else meaning rows word

-- the events that name an agent alone
abbrev pub agent_words : List (List ℕ × AgentWord)
agent_words =
    (codes "space", agents.Space) ∷
    (codes "later", agents.Later) ∷
    (codes "told", agents.Told) ∷
    (codes "turn", agents.Turn) ∷
    (codes "crash", agents.Crash) ∷
    (codes "start", agents.Start) ∷
    []

abbrev pub agent_word : List ℕ → Option AgentWord
agent_word word = meaning agent_words word

-- the events that name a cloud alone
abbrev pub cloud_words : List (List ℕ × CloudWord)
cloud_words =
    (codes "serve", clouds.Serve) ∷
    (codes "hide", clouds.Hide) ∷
    (codes "fail", clouds.Fail) ∷
    (codes "give", clouds.Give) ∷
    (codes "lose", clouds.Lose) ∷
    (codes "drop", clouds.Drop) ∷
    (codes "defer", clouds.Defer) ∷
    (codes "swap", clouds.Swap) ∷
    (codes "again", clouds.Again) ∷
    (codes "twice", clouds.Twice) ∷
    []

abbrev pub cloud_word : List ℕ → Option CloudWord
cloud_word word = meaning cloud_words word

-- the calls on one path
abbrev pub path_call_words : List (List ℕ × CallWord)
path_call_words =
    (codes "mkdir", calls.Mkdir) ∷
    (codes "rmdir", calls.Rmdir) ∷
    (codes "create", calls.Create) ∷
    (codes "unlink", calls.Unlink) ∷
    (codes "stat", calls.Stat) ∷
    (codes "list", calls.List) ∷
    (codes "versions", calls.Versions) ∷
    (codes "collect", calls.Collect) ∷
    []

-- the other calls
abbrev pub other_call_words : List (List ℕ × CallWord)
other_call_words =
    (codes "rename", calls.Rename) ∷
    (codes "open", calls.Open) ∷
    (codes "openat", calls.Openat) ∷
    (codes "read", calls.Read) ∷
    (codes "write", calls.Write) ∷
    (codes "truncate", calls.Truncate) ∷
    (codes "close", calls.Close) ∷
    (codes "sync", calls.Sync) ∷
    (codes "purge", calls.Purge) ∷
    []

abbrev pub call_word : List ℕ → Option CallWord
call_word word = meaning (path_call_words ++ other_call_words) word

-- how many words follow the call's word
abbrev pub words_of_call : CallWord → ℕ
words_of_call calls.Mkdir = 1
words_of_call calls.Rmdir = 1
words_of_call calls.Create = 1
words_of_call calls.Unlink = 1
words_of_call calls.Stat = 1
words_of_call calls.List = 1
words_of_call calls.Rename = 2
words_of_call calls.Open = 2
words_of_call calls.Openat = 2
words_of_call calls.Read = 3
words_of_call calls.Write = 3
words_of_call calls.Truncate = 2
words_of_call calls.Close = 1
words_of_call calls.Sync = 0
words_of_call calls.Versions = 1
words_of_call calls.Collect = 1
words_of_call calls.Purge = 0

-- the answers of a cloud
abbrev pub answer_words : List (List ℕ × AnswerWord)
answer_words =
    (codes "ack", answers.Ack) ∷
    (codes "absent", answers.Absent) ∷
    (codes "fail", answers.Fail) ∷
    (codes "bytes", answers.Bytes) ∷
    (codes "names", answers.Names) ∷
    []

abbrev pub answer_word : List ℕ → Option AnswerWord
answer_word word = meaning answer_words word

-- whether so many words may follow the answer's word
abbrev pub may_follow : AnswerWord → ℕ → Bool
may_follow answers.Ack count = count == 0
may_follow answers.Absent count = count == 0
may_follow answers.Fail count = count == 0
may_follow answers.Bytes count = count == 1
may_follow answers.Names count = nat_le count names_limit
