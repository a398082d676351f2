-- What a cloud promises of a call, and what asking a cloud comes to.
use Rattle.std.specs.Prelude.{◌≡◌, ◌≤◌, ◌⊎◌, ℕ, List, [], ◌∷◌, ◌++◌, Option, Some, None, Result, Ok, Err, IfOk}
use Rattle.scfs_base.specs.Outside.{Rose}
use Rattle.scfs_base.specs.declared.outside.Memory.{Memory}
use Rattle.scfs_base.specs.declared.cloud.CloudRequest.{CloudRequest}
use Rattle.scfs_base.specs.declared.cloud.CloudAnswer.{CloudAnswer}
use Rattle.scfs_base.specs.declared.cloud.CloudAnswer.TheVariants as answers
use Rattle.scfs_net.specs.Store.{Objects}
use Rattle.scfs_net.specs.Queues.{answer_of, objects_with}
use Rattle.scfs_cloud.specs.Cutting.{cut_answer, HasShortNames, IsKept}
use Rattle.scfs_cloud.specs.declared.cloud.CloudFault.{CloudFault}
use Rattle.scfs_cloud.specs.declared.cloud.CloudFault.TheVariants as faults
use Rattle.scfs_cloud.specs.declared.cloud.Exchange.{Exchange}

-- what a call's result says as an answer; nothing with want of memory
abbrev pub said : {T : Type 0} → (T → CloudAnswer) → Result T CloudFault → Option CloudAnswer
said answer_for (Ok given) = Some (answer_for given)
said answer_for (Err faults.Failed) = Some answers.Fail
said answer_for (Err faults.Memory) = None

-- the answer of a Put or a Delete that was done
abbrev pub acked : Unit {0} → CloudAnswer
acked done = answers.Ack

-- the answer of a Get
abbrev pub found : Option (List ℕ) → CloudAnswer
found None = answers.Absent
found (Some bytes) = answers.Bytes bytes

-- an answer as it is
abbrev pub same : CloudAnswer → CloudAnswer
same answer = answer

-- a log with one exchange more
abbrev pub logged : List Exchange → CloudRequest → CloudAnswer → List Exchange
logged log request answer = log ++ (record { request = request; answer = answer }) ∷ []

-- a log that got nothing, or one exchange of this request
abbrev pub GotAtMost : List Exchange → Option (List Exchange) → CloudRequest → Type 0
GotAtMost log after request = (after ≡ Some log) ⊎ ((answer : CloudAnswer) × (after ≡ Some (logged log request answer)))

-- the count of faults never falls, and a failure comes only where it rose
pub record IsCounted (before now : ℕ) (answer : Option CloudAnswer) : Type 0 where
  pub later : before ≤ now
  pub failed : answer ≡ Some answers.Fail → Rose before now

-- where the log is told, the request and its answer are added at its end; with want of memory at most these
abbrev pub IsLogged : Option (List Exchange) → Option (List Exchange) → CloudRequest → Option CloudAnswer → Type 0
IsLogged None after request answer = Unit {0}
IsLogged (Some log) after request (Some answer) = after ≡ Some (logged log request answer)
IsLogged (Some log) after request None = GotAtMost log after request

-- objects as they were, or as they are after the request was served
abbrev pub ServedAtMost : Objects → Option Objects → CloudRequest → Type 0
ServedAtMost objects after request = (after ≡ Some objects) ⊎ (after ≡ Some (objects_with objects request))

-- where the store is told, an answer is that of a cloud that serves the request, once it is cut, and the store is as serving
-- leaves it; a failure leaves it as it was
abbrev pub IsStored : Option Objects → Option Objects → CloudRequest → Option CloudAnswer → Type 0
IsStored None after request answer = Unit {0}
IsStored (Some objects) after request None = ServedAtMost objects after request
IsStored (Some objects) after request (Some answers.Fail) = after ≡ Some objects
IsStored (Some objects) after request (Some answer) =
    (after ≡ Some (objects_with objects request))
    × (HasShortNames objects → cut_answer request answer ≡ answer_of objects request)

-- where the log is told, it got one exchange of this request, whose answer is cut to the one given; with want of memory at most
-- one exchange of this request
abbrev pub Logs : CloudRequest → Option (List Exchange) → Option (List Exchange) → Result CloudAnswer Memory → Type 0
Logs request None after result = Unit {0}
Logs request (Some log) after (Ok given) =
    (answer : CloudAnswer) × (after ≡ Some (logged log request answer)) × (cut_answer request answer ≡ given)
Logs request (Some log) after (Err e) = GotAtMost log after request

-- where the store is told, it is as serving the request leaves it, and where no stored name is longer than is kept, the answer
-- is that of a cloud that serves the request; a failure leaves the store as it was
abbrev pub Stores : CloudRequest → Option Objects → Option Objects → Result CloudAnswer Memory → Type 0
Stores request None after result = Unit {0}
Stores request (Some objects) after (Ok answers.Fail) = after ≡ Some objects
Stores request (Some objects) after (Ok given) =
    (after ≡ Some (objects_with objects request)) × (HasShortNames objects → given ≡ answer_of objects request)
Stores request (Some objects) after (Err e) = ServedAtMost objects after request

-- a cloud was asked this: what it says of its log, its store and its count of faults before and after, and what came of it
pub record Asks (request : CloudRequest) (old_log new_log : Option (List Exchange)) (old_store new_store : Option Objects)
    (old_faults new_faults : ℕ) (result : Result CloudAnswer Memory) : Type 0 where
  pub counted : old_faults ≤ new_faults
  pub failed : result ≡ Ok answers.Fail → Rose old_faults new_faults
  pub kept : IfOk result (IsKept request)
  pub log : Logs request old_log new_log result
  pub store : Stores request old_store new_store result
