-- What a cloud acknowledged it holds, where one name has one body.
use Rattle.std.proofs.Common.{◌≡◌, ℕ, List, [], ◌∷◌, take, drop, sym, subst, Some}
use Rattle.std.specs.List.{All}
use Rattle.std.specs.Cmp.Lexicographic.{slice_cmp}
use Rattle.std.specs.Map.{keys_of}
use Rattle.std.specs.Ordering.{nat_cmp}
use Rattle.std.proofs.lemmas.List.Elements.{All-weaker}
use Rattle.std.proofs.lemmas.Map.Views.{All-keys-insert_entry}
use Rattle.scfs_base.specs.declared.naming.RequestNo.{RequestNo}
use Rattle.scfs_base.specs.declared.cloud.CloudRequest.{CloudRequest}
use Rattle.scfs_base.specs.declared.cloud.CloudRequest.TheVariants as requests
use Rattle.scfs_base.specs.declared.cloud.CloudAnswer.{CloudAnswer}
use Rattle.scfs_base.specs.declared.cloud.CloudAnswer.TheVariants as answers
use Rattle.scfs_schedule.specs.declared.types.Event.{Event}
use Rattle.scfs_schedule.specs.declared.types.Event.TheVariants as events
use Rattle.scfs_net.specs.declared.messages.Asked.{Asked}
use Rattle.scfs_net.specs.declared.messages.Given.{Given}
use Rattle.scfs_net.specs.Store.{Objects, stored}
use Rattle.scfs_net.specs.Queues.{CloudState, NetState, cloud_at, at_cloud, objects_after, Answering, serving, hiding, always, answer_to, after_answer, answered, lost, taken, deferred, swapped, repeated, doubled, asked}
use Rattle.scfs_model.specs.Agents.{Sent}
use Rattle.scfs_model.specs.Clouds.{moved_by, asked_by, all_asked}
use Rattle.scfs_laws.proofs.Lists.{Each, each-append, each-map}
use Rattle.scfs_durable.proofs.StoreLemmas.{put_here, put_keeps, at_keeps}
use Rattle.scfs_durable.proofs.OneBody.{WasPut, IsPlain}

each_drop : {X : Type 0} (P : X → Type 0) (xs : List X) → Each P xs → Each P (drop 1 xs)
each_drop P [] h = tt
each_drop P (x ∷ xs) h = h.1

each_take : {X : Type 0} (P : X → Type 0) (xs : List X) → Each P xs → Each P (take 1 xs)
each_take P [] h = tt
each_take P (x ∷ xs) h = (h.0, tt)

-- what a request put is held
abbrev pub IsHeld : Objects → CloudRequest → Type 0
IsHeld objects (requests.Put name body) = stored objects name ≡ Some body
IsHeld objects other = Unit {0}

module _ (Was : Sent → Type 0) (c : ℕ) where
  abbrev pub WasOf : RequestNo → CloudRequest → Type 0
  WasOf n body = Was (record { number = n; cloud = c; body = body })

  -- a request that waits was made
  abbrev pub IsWaiting : Asked → Type 0
  IsWaiting q = WasOf q.request q.body

  -- what an acknowledgement is of is held
  abbrev pub IsReply : Objects → Given → Type 0
  IsReply objects g = g.answer ≡ answers.Ack → (body : CloudRequest) × WasOf g.request body × IsHeld objects body

  -- a name was put
  abbrev pub IsPutName : (name : List ℕ) → Type 0
  IsPutName name = (body : List ℕ) × WasPut Was name body c

  pub record IsCloud (cloud : CloudState) : Type 0 where
    pub requests : Each IsWaiting cloud.requests
    pub replies : Each (IsReply cloud.objects) cloud.replies
    pub names : All IsPutName (keys_of cloud.objects)

  module _ (plain : (x : Sent) → Was x → IsPlain x.body) (one_body : (name body other : List ℕ) → WasPut Was name body c → WasPut Was name other c → body ≡ other)
      (old : Objects) where
    -- the cloud is so, and holds what it held before
    pub record IsKept (cloud : CloudState) : Type 0 where
      pub so : IsCloud cloud
      pub held : (n : RequestNo) (body : CloudRequest) → WasOf n body → IsHeld old body → IsHeld cloud.objects body

    held_stays : (objects : Objects) (q : Asked) (answer : CloudAnswer) (n : RequestNo) (body : CloudRequest) → IsWaiting q → WasOf n body → IsHeld objects body
        → IsHeld (objects_after objects q.body answer) body
    held_stays objects q answers.Absent n body from was h = h
    held_stays objects q (answers.Bytes bytes) n body from was h = h
    held_stays objects q (answers.Names names) n body from was h = h
    held_stays objects q answers.Fail n body from was h = h
    held_stays objects q answers.Ack n (requests.Get name limit) from was h = tt
    held_stays objects q answers.Ack n (requests.Delete name) from was h = tt
    held_stays objects q answers.Ack n (requests.List prefix) from was h = tt
    held_stays objects q answers.Ack n (requests.Put name body) from was h = by q.body from (plain _ from)
      where
        by : (did : CloudRequest) → WasOf q.request did → IsPlain did → IsHeld (objects_after objects did answers.Ack) (requests.Put name body)
        by (requests.Put other new) k p =
            put_keeps objects other new name body h (λ same. one_body name new body (q.request, subst (λ x. WasOf q.request (requests.Put x new)) same k) (n, was))
        by (requests.Get other limit) k p = h
        by (requests.Delete other) k p = absurd p
        by (requests.List prefix) k p = absurd p

    new_reply : (objects : Objects) (q : Asked) (answer : CloudAnswer) → IsWaiting q → IsReply (objects_after objects q.body answer) (record { request = q.request; answer = answer })
    new_reply objects q answer from ack =
        subst (λ x. (body : CloudRequest) × WasOf q.request body × IsHeld (objects_after objects q.body x) body) (sym ack) (q.body, from, by q.body)
      where
        by : (did : CloudRequest) → IsHeld (objects_after objects did answers.Ack) did
        by (requests.Put name body) = put_here objects name body
        by (requests.Get name limit) = tt
        by (requests.Delete name) = tt
        by (requests.List prefix) = tt

    names_stay : (objects : Objects) (q : Asked) (answer : CloudAnswer) → IsWaiting q → All IsPutName (keys_of objects)
        → All IsPutName (keys_of (objects_after objects q.body answer))
    names_stay objects q answers.Absent from h = h
    names_stay objects q (answers.Bytes bytes) from h = h
    names_stay objects q (answers.Names names) from h = h
    names_stay objects q answers.Fail from h = h
    names_stay objects q answers.Ack from h = by q.body from (plain _ from)
      where
        by : (did : CloudRequest) → WasOf q.request did → IsPlain did → All IsPutName (keys_of (objects_after objects did answers.Ack))
        by (requests.Put name body) k p = All-keys-insert_entry (slice_cmp nat_cmp) name body IsPutName objects h (body, (q.request, k))
        by (requests.Get name limit) k p = h
        by (requests.Delete name) k p = absurd p
        by (requests.List prefix) k p = absurd p

    answer_keeps : (answering : Answering) (cloud : CloudState) (waiting : List Asked) → Each IsWaiting waiting → IsKept cloud
        → IsKept (after_answer cloud waiting (answer_to answering cloud.objects waiting))
    answer_keeps answering cloud [] from k = k
    answer_keeps answering cloud (q ∷ qs) from k =
        let answer = answering cloud.objects q.body in
        let now = objects_after cloud.objects q.body answer in
        record {
          so = record {
            requests = from.1;
            replies = each-append (IsReply now) cloud.replies ((record { request = q.request; answer = answer }) ∷ [])
                (each-map (IsReply cloud.objects) (IsReply now)
                (λ g is ack. let d = is ack in (d.0, d.1, held_stays cloud.objects q answer g.request d.0 from.0 d.1 d.2)) cloud.replies k.so.replies)
                (new_reply cloud.objects q answer from.0, tt);
            names = names_stay cloud.objects q answer from.0 k.so.names;
          };
          held = λ n body was h. held_stays cloud.objects q answer n body from.0 was (k.held n body was h);
        }

    answered_keeps : (answering : Answering) (cloud : CloudState) → IsKept cloud → IsKept (answered answering cloud)
    answered_keeps answering cloud k = answer_keeps answering cloud cloud.requests k.so.requests k

    with_requests : (cloud : CloudState) (qs : List Asked) → IsKept cloud → Each IsWaiting qs → IsKept (record cloud { requests = qs })
    with_requests cloud qs k each = record { so = record { requests = each; replies = k.so.replies; names = k.so.names }; held = k.held }

    with_replies : (cloud : CloudState) (gs : List Given) → IsKept cloud → Each (IsReply cloud.objects) gs → IsKept (record cloud { replies = gs })
    with_replies cloud gs k each = record { so = record { requests = k.so.requests; replies = each; names = k.so.names }; held = k.held }

    -- what an event itself does to the clouds
    pub moved_keeps : (net : NetState) (event : Event) → IsKept (cloud_at net c) → IsKept (cloud_at (moved_by event net) c)
    moved_keeps net event k = by event
      where
        at : (d : ℕ) (f : CloudState → CloudState) → IsKept (f (cloud_at net c)) → IsKept (cloud_at (at_cloud net d f) c)
        at d f here = at_keeps IsKept net d c f k (λ same. here)

        qs : Each IsWaiting (cloud_at net c).requests
        qs = k.so.requests

        gs : Each (IsReply (cloud_at net c).objects) (cloud_at net c).replies
        gs = k.so.replies

        by : (x : Event) → IsKept (cloud_at (moved_by x net) c)
        by (events.Serve d) = at d (answered serving) (answered_keeps serving (cloud_at net c) k)
        by (events.Hide d) = at d (answered hiding) (answered_keeps hiding (cloud_at net c) k)
        by (events.Fail d) = at d (answered (always answers.Fail)) (answered_keeps (always answers.Fail) (cloud_at net c) k)
        by (events.Say d answer) = at d (answered (always answer)) (answered_keeps (always answer) (cloud_at net c) k)
        by (events.Give d) = at d taken (with_replies (cloud_at net c) _ k (each_drop (IsReply (cloud_at net c).objects) (cloud_at net c).replies gs))
        by (events.Lose d) = at d lost (with_requests (cloud_at net c) _ k (each_drop IsWaiting (cloud_at net c).requests qs))
        by (events.Drop d) = at d taken (with_replies (cloud_at net c) _ k (each_drop (IsReply (cloud_at net c).objects) (cloud_at net c).replies gs))
        by (events.Defer d) =
            at d deferred (with_requests (cloud_at net c) _ k
            (each-append IsWaiting (drop 1 (cloud_at net c).requests) (take 1 (cloud_at net c).requests) (each_drop IsWaiting (cloud_at net c).requests qs) (each_take IsWaiting (cloud_at net c).requests qs)))
        by (events.Swap d) =
            at d swapped (with_replies (cloud_at net c) _ k
            (each-append (IsReply (cloud_at net c).objects) (drop 1 (cloud_at net c).replies) (take 1 (cloud_at net c).replies)
            (each_drop (IsReply (cloud_at net c).objects) (cloud_at net c).replies gs) (each_take (IsReply (cloud_at net c).objects) (cloud_at net c).replies gs)))
        by (events.Again d) =
            at d repeated (with_requests (cloud_at net c) _ k
            (each-append IsWaiting (cloud_at net c).requests (take 1 (cloud_at net c).requests) qs (each_take IsWaiting (cloud_at net c).requests qs)))
        by (events.Twice d) =
            at d doubled (with_replies (cloud_at net c) _ k
            (each-append (IsReply (cloud_at net c).objects) (cloud_at net c).replies (take 1 (cloud_at net c).replies) gs (each_take (IsReply (cloud_at net c).objects) (cloud_at net c).replies gs)))
        by (events.Call a call) = k
        by (events.Space a) = k
        by (events.Later a) = k
        by (events.Told a) = k
        by (events.Turn a) = k
        by (events.Tick ticks) = k
        by (events.Crash a) = k
        by (events.Start a) = k

    -- requests that were made are placed
    pub placed_keeps : (net : NetState) (xs : List Sent) → Each Was xs → IsKept (cloud_at net c) → IsKept (cloud_at (all_asked net xs) c)
    placed_keeps net [] was k = k
    placed_keeps net (x ∷ xs) was k =
        placed_keeps (asked_by net x) xs was.1
        (at_keeps IsKept net x.cloud c (asked x.number x.body) k
        (λ same. with_requests (cloud_at net c) _ k
        (each-append IsWaiting (cloud_at net c).requests ((record { request = x.number; body = x.body }) ∷ []) k.so.requests
        (subst (λ d. Was (record { number = x.number; cloud = d; body = x.body })) same was.0, tt))))

-- the same where more requests were made
pub cloud_more : (Was Later : Sent → Type 0) (c : ℕ) (cloud : CloudState) → ((x : Sent) → Was x → Later x) → IsCloud Was c cloud → IsCloud Later c cloud
cloud_more Was Later c cloud more h =
    record {
      requests = each-map (IsWaiting Was c) (IsWaiting Later c) (λ q is. more _ is) cloud.requests h.requests;
      replies = each-map (IsReply Was c cloud.objects) (IsReply Later c cloud.objects) (λ g is ack. let d = is ack in (d.0, more _ d.1, d.2)) cloud.replies h.replies;
      names = All-weaker (IsPutName Was c) (IsPutName Later c) (λ name put. (put.0, (put.1.0, more _ put.1.1))) (keys_of cloud.objects) h.names;
    }
