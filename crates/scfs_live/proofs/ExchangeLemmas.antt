-- Exchanges, one after another: what a log gets of them, and what a store becomes.
use Rattle.std.proofs.Common.{◌≡◌, List, [], ◌∷◌, ◌++◌, Option, Some, None, Result, Ok, Err, refl, ap, ◌∙◌, sym, subst, inl, inr, append_assoc, append-nil, map}
use Rattle.std.proofs.lemmas.List.{map-append}
use Rattle.scfs_base.specs.declared.cloud.CloudAnswer.{CloudAnswer}
use Rattle.scfs_base.specs.declared.cloud.CloudAnswer.TheVariants as answers
use Rattle.scfs_base.specs.declared.cloud.CloudRequest.{CloudRequest}
use Rattle.scfs_base.specs.declared.cloud.CloudRequest.TheVariants as requests
use Rattle.scfs_base.specs.declared.outside.Memory.{Memory}
use Rattle.scfs_net.specs.Queues.{objects_after}
use Rattle.scfs_net.specs.Store.{Objects}
use Rattle.scfs_cloud.specs.Asking.{Logs, Stores, ServedAtMost}
use Rattle.scfs_cloud.specs.Cutting.{IsKept}
use Rattle.scfs_cloud.specs.declared.cloud.Exchange.{Exchange}
use Rattle.scfs_live.specs.Asked.{AllSuit, Logged, Stored, Suits, as_recorded, objects_after_all}

-- a log: nothing, one exchange, and more behind others
pub nothing_logged : (log : Option (List Exchange)) → Logged log log []
nothing_logged None = tt
nothing_logged (Some log) = ([], ap Some (sym (append-nil log)), refl)

pub logged_one : (before after : Option (List Exchange)) (request : CloudRequest) (answer : CloudAnswer) → Logs request before after (Ok answer)
    → Logged before after ((record { request = request; answer = answer }) ∷ [])
logged_one None after request answer logs = tt
logged_one (Some log) after request answer logs = (
  (record { request = request; answer = logs.0 }) ∷ [],
  logs.1,
  ap (λ (a : CloudAnswer). (let x : Exchange = record { request = request; answer = a } in x ∷ [])) logs.2,
)

pub logged_then : (a m b : Option (List Exchange)) (x y : List Exchange) → Logged a m x → Logged m b y → Logged a b (x ++ y)
logged_then None m b x y p q = tt
logged_then (Some log) m b x y p q =
    let r : Logged (Some (log ++ p.0)) b y = subst (λ (l : Option (List Exchange)). Logged l b y) p.1 q in (
      p.0 ++ r.0,
      r.1 ∙ ap Some (append_assoc log p.0 r.0),
      map-append as_recorded p.0 r.0 ∙ ap (λ (l : List Exchange). l ++ map as_recorded r.0) p.2 ∙ ap (λ (l : List Exchange). x ++ l) r.2,
    )

-- objects after exchanges and others behind them
pub objects_then : (objects : Objects) (xs ys : List Exchange) → objects_after_all objects (xs ++ ys) ≡ objects_after_all (objects_after_all objects xs) ys
objects_then objects [] ys = refl
objects_then objects (x ∷ xs) ys = objects_then (objects_after objects x.request x.answer) xs ys

pub all_suit_then : (objects : Objects) (xs ys : List Exchange) → AllSuit objects xs → AllSuit (objects_after_all objects xs) ys → AllSuit objects (xs ++ ys)
all_suit_then objects [] ys p q = q
all_suit_then objects (x ∷ xs) ys p q = (p.0, all_suit_then (objects_after objects x.request x.answer) xs ys p.1 q)

pub all_suit_parts : (objects : Objects) (xs ys : List Exchange) → AllSuit objects (xs ++ ys) → AllSuit objects xs × AllSuit (objects_after_all objects xs) ys
all_suit_parts objects [] ys p = (tt, p)
all_suit_parts objects (x ∷ xs) ys p =
    let rest = all_suit_parts (objects_after objects x.request x.answer) xs ys p.1 in ((p.0, rest.0), rest.1)

-- an answer that is given leaves a store as the machine says
stored_as : (objects : Objects) (after : Option Objects) (request : CloudRequest) (answer : CloudAnswer) → IsKept request answer
    → Stores request (Some objects) after (Ok answer) → after ≡ Some (objects_after objects request answer)
stored_as objects after request answers.Fail kind stores = stores
stored_as objects after request answers.Ack kind stores = stores.0
stored_as objects after (requests.Get name limit) answers.Absent kind stores = stores.0
stored_as objects after (requests.Put name body) answers.Absent kind stores = absurd kind
stored_as objects after (requests.Delete name) answers.Absent kind stores = absurd kind
stored_as objects after (requests.List prefix) answers.Absent kind stores = absurd kind
stored_as objects after (requests.Get name limit) (answers.Bytes bytes) kind stores = stores.0
stored_as objects after (requests.Put name body) (answers.Bytes bytes) kind stores = absurd kind
stored_as objects after (requests.Delete name) (answers.Bytes bytes) kind stores = absurd kind
stored_as objects after (requests.List prefix) (answers.Bytes bytes) kind stores = absurd kind
stored_as objects after (requests.List prefix) (answers.Names names) kind stores = stores.0
stored_as objects after (requests.Put name body) (answers.Names names) kind stores = absurd kind
stored_as objects after (requests.Delete name) (answers.Names names) kind stores = absurd kind
stored_as objects after (requests.Get name limit) (answers.Names names) kind stores = absurd kind

suits_as : (objects : Objects) (after : Option Objects) (request : CloudRequest) (answer : CloudAnswer) → IsKept request answer
    → Stores request (Some objects) after (Ok answer) → Suits objects request answer
suits_as objects after request answers.Fail kind stores = tt
suits_as objects after request answers.Ack kind stores = (kind, stores.1)
suits_as objects after request answers.Absent kind stores = (kind, stores.1)
suits_as objects after request (answers.Bytes bytes) kind stores = (kind, stores.1)
suits_as objects after request (answers.Names names) kind stores = (kind, stores.1)

-- or it is served or not, whatever came of asking
pub stored_at_most : (objects : Objects) (after : Option Objects) (request : CloudRequest) (result : Result CloudAnswer Memory)
    → Stores request (Some objects) after result → ServedAtMost objects after request
stored_at_most objects after request (Ok answers.Fail) stores = inl stores
stored_at_most objects after request (Ok answers.Ack) stores = inr stores.0
stored_at_most objects after request (Ok answers.Absent) stores = inr stores.0
stored_at_most objects after request (Ok (answers.Bytes bytes)) stores = inr stores.0
stored_at_most objects after request (Ok (answers.Names names)) stores = inr stores.0
stored_at_most objects after request (Err memory) stores = stores

-- a store: nothing, one exchange, and more behind others
pub nothing_stored : (store : Option Objects) → Stored store store []
nothing_stored None = tt
nothing_stored (Some objects) = (refl, tt)

pub stored_one : (before after : Option Objects) (request : CloudRequest) (answer : CloudAnswer) → IsKept request answer → Stores request before after (Ok answer)
    → Stored before after ((record { request = request; answer = answer }) ∷ [])
stored_one None after request answer kept stores = tt
stored_one (Some objects) after request answer kept stores =
    (stored_as objects after request answer kept stores, (suits_as objects after request answer kept stores, tt))

pub stored_then : (a m b : Option Objects) (x y : List Exchange) → Stored a m x → Stored m b y → Stored a b (x ++ y)
stored_then None m b x y p q = tt
stored_then (Some objects) m b x y p q =
    let r : Stored (Some (objects_after_all objects x)) b y = subst (λ (o : Option Objects). Stored o b y) p.0 q in
    (r.0 ∙ ap Some (sym (objects_then objects x y)), all_suit_then objects x y p.1 r.1)
