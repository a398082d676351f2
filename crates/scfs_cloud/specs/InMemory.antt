-- Clouds in memory: one that is truthful, and one whose answers are said beforehand.
use Rattle.std.specs.Prelude.{◌≡◌, ◌==◌, ℕ, List, [], ◌∷◌, drop, Option, Some, None, if◌then◌else◌}
use Rattle.std.specs.List.{list_any}
use Rattle.std.specs.List.Sorted.{IsStrictlySortedBy}
use Rattle.std.specs.Map.{keys_of}
use Rattle.std.specs.Ordering.{nat_cmp}
use Rattle.std.specs.Cmp.Lexicographic.{slice_cmp}
use Rattle.scfs_base.specs.InMemory.{one_more}
use Rattle.scfs_base.specs.declared.cloud.CloudRequest.{CloudRequest}
use Rattle.scfs_base.specs.declared.cloud.CloudAnswer.{CloudAnswer}
use Rattle.scfs_base.specs.declared.cloud.CloudAnswer.TheVariants as answers
use Rattle.scfs_net.specs.Store.{Objects}
use Rattle.scfs_net.specs.Queues.{answer_of, objects_after}
use Rattle.scfs_cloud.specs.Cutting.{suits}
use Rattle.scfs_cloud.specs.Asking.{logged}
use Rattle.scfs_cloud.specs.declared.cloud.Exchange.{Exchange}

-- a truthful cloud: what it holds, its log, the numbers (from 1) of the calls that fail, and its counts
pub record Truthful : Type 0 where
  pub objects : Objects
  pub log : List Exchange
  pub fails : List ℕ
  pub calls : ℕ
  pub faults : ℕ

-- a cloud whose answers are said beforehand: those to come, its log, and its count of faults
pub record Said : Type 0 where
  pub answers : List CloudAnswer
  pub log : List Exchange
  pub faults : ℕ

-- the count of faults after an answer
abbrev pub faults_after : CloudAnswer → ℕ → ℕ
faults_after answers.Ack count = count
faults_after answers.Absent count = count
faults_after (answers.Bytes bytes) count = count
faults_after (answers.Names names) count = count
faults_after answers.Fail count = one_more count

-- what a truthful cloud answers: the calls with those numbers fail
abbrev pub truthful_answer : Truthful → CloudRequest → CloudAnswer
truthful_answer cloud request =
    if list_any (λ number. number == one_more cloud.calls) cloud.fails then answers.Fail else answer_of cloud.objects request

-- a truthful cloud after it gave this answer
abbrev pub after_truthful : Truthful → CloudRequest → CloudAnswer → Truthful
after_truthful cloud request answer =
    record cloud {
      objects = objects_after cloud.objects request answer;
      log = logged cloud.log request answer;
      calls = one_more cloud.calls;
      faults = faults_after answer cloud.faults;
    }

-- the answer whose turn it is, where the request can have it
abbrev pub said_answer : List CloudAnswer → CloudRequest → CloudAnswer
said_answer [] request = answers.Fail
said_answer (turn ∷ later) request = if suits request turn then turn else answers.Fail

-- that cloud after it gave this answer
abbrev pub after_said : Said → CloudRequest → CloudAnswer → Said
after_said cloud request answer =
    record {
      answers = drop 1 cloud.answers;
      log = logged cloud.log request answer;
      faults = faults_after answer cloud.faults;
    }

-- a call of a truthful cloud gives its answer; with want of memory the cloud may only be dropped
abbrev pub TellsTruth : Truthful → Truthful → CloudRequest → Option CloudAnswer → Type 0
TellsTruth old new request None = Unit {0}
TellsTruth old new request (Some answer) = (answer ≡ truthful_answer old request) × (new ≡ after_truthful old request answer)

-- a call of a cloud whose answers are said gives the next one, or fails; with want of memory the cloud may only be dropped
abbrev pub SaysNext : Said → Said → CloudRequest → Option CloudAnswer → Type 0
SaysNext old new request None = Unit {0}
SaysNext old new request (Some answer) = (answer ≡ said_answer old.answers request) × (new ≡ after_said old request answer)

-- the names stand in byte order, each once
abbrev pub AreOrdered : Objects → Type 0
AreOrdered objects = IsStrictlySortedBy (slice_cmp nat_cmp) (keys_of objects)

-- a failure is counted, and nothing else
abbrev pub CountsFault : ℕ → ℕ → Option CloudAnswer → Type 0
CountsFault before now None = now ≡ before
CountsFault before now (Some answer) = now ≡ faults_after answer before
