-- What a cloud acknowledged to an agent it holds from then on.
use Rattle.std.proofs.Common.{◌≡◌, inl, inr, ℕ, zero, suc, ◌+◌, ◌*◌, List, [], ◌∷◌, replicate, refl, sym, ap, ◌∙◌, subst, arith, Some, None}
use Rattle.std.specs.List.{slice_index_or}
use Rattle.std.proofs.lemmas.List.Elements.{All-nil}
use Rattle.scfs_base.specs.declared.naming.RequestNo.{RequestNo}
use Rattle.scfs_base.specs.declared.cloud.CloudAnswer.{CloudAnswer}
use Rattle.scfs_base.specs.declared.cloud.CloudAnswer.TheVariants as answers
use Rattle.scfs_base.specs.declared.cloud.CloudRequest.{CloudRequest}
use Rattle.scfs_net.specs.declared.messages.Given.{Given}
use Rattle.scfs_net.specs.Store.{Objects}
use Rattle.scfs_net.specs.Queues.{new_cloud, cloud_at}
use Rattle.scfs_model.specs.Lists.{first_of}
use Rattle.scfs_model.specs.Format.{Setup}
use Rattle.scfs_model.specs.History.{Of_answer, Entry, History}
use Rattle.scfs_model.specs.Agents.{Sent}
use Rattle.scfs_model.specs.Layers.{rows}
use Rattle.scfs_model.specs.Clouds.{net, moved_by, message_of, oldest_reply, reply_message, IsServed}
use Rattle.scfs_model.specs.Runs.{effect_after}
use Rattle.scfs_laws.specs.Acknowledged.{WasSent, WasAcked}
use Rattle.scfs_laws.proofs.Lists.{Each, each-inside, each-always}
use Rattle.scfs_durable.specs.Stores.{objects}
use Rattle.scfs_durable.specs.Safe.{IsNameable}
use Rattle.scfs_durable.proofs.Drawn.{always_drawn}
use Rattle.scfs_durable.proofs.OneBody.{all_plain, one_body}
use Rattle.scfs_durable.proofs.CloudLemmas.{IsHeld, IsReply, IsCloud, IsKept, IsPutName, moved_keeps, placed_keeps, cloud_more}

pub nameable_before : (s : Setup) (e : Entry) (past : History) → IsNameable s (e ∷ past) → IsNameable s past
nameable_before s e past few = let events = few.events in record { agents = few.agents; events = omega (arith, events) }

nobody_asked : (n c : ℕ) → slice_index_or (replicate n new_cloud) c new_cloud ≡ new_cloud
nobody_asked zero c = refl
nobody_asked (suc n) zero = refl
nobody_asked (suc n) (suc c) = nobody_asked n c

module _ (s : Setup) (c : ℕ) where
  abbrev pub IsCloudAt : History → Type 0
  IsCloudAt past = IsCloud (WasSent s past) c (cloud_at (net s past) c)

  abbrev IsKeptAt : (e : Entry) (past : History) → IsNameable s (e ∷ past) → Type 0
  IsKeptAt e past few =
      IsKept (WasSent s (e ∷ past)) c (all_plain s (e ∷ past) few) (λ name body other. one_body s (e ∷ past) few name body other c)
      (objects s past c) (cloud_at (net s (e ∷ past)) c)

  next_cloud : (e : Entry) (past : History) (few : IsNameable s (e ∷ past)) → IsCloudAt past → IsKeptAt e past few
  next_cloud e past few h =
      let Later : Sent → Type 0 = WasSent s (e ∷ past) in
      let new : List Sent = (effect_after s rows past e).sent in
      let plain = all_plain s (e ∷ past) few in
      let one = λ (name : List ℕ) (body : List ℕ) (other : List ℕ). one_body s (e ∷ past) few name body other c in
      placed_keeps Later c plain one (objects s past c) (moved_by e.event (net s past)) new
      (each-inside (λ (x : Sent). Unit {0}) Later new (λ x inside any. inl inside) (each-always (λ (x : Sent). Unit {0}) (λ x. tt) new))
      (moved_keeps Later c plain one (objects s past c) (net s past) e.event
      (record { so = cloud_more (WasSent s past) Later c (cloud_at (net s past) c) (λ x is. inr is) h; held = λ n body was held. held }))

  pub always_cloud : (past : History) → IsNameable s past → IsCloudAt past
  always_cloud [] few = subst (IsCloud (WasSent s []) c) (sym (nobody_asked (3 * s.header.f + 1) c)) (record { requests = tt; replies = tt; names = All-nil (IsPutName (WasSent s []) c) })
  always_cloud (e ∷ past) few = (next_cloud e past few (always_cloud past (nameable_before s e past few))).so

  -- what was acknowledged was asked
  acked_made : (past : History) (a i : ℕ) (body : CloudRequest) → WasAcked s past a i body c
      → (n : RequestNo) × WasSent s past (record { number = n; cloud = c; body = body })
  acked_made [] a i body h = absurd h
  acked_made (e ∷ past) a i body (inl (request, agent, incarnation, event, message, shown, made)) = (request, inr made)
  acked_made (e ∷ past) a i body (inr h) = let k = acked_made past a i body h in (k.0, inr k.1)

  abbrev OldestHeld : (Sent → Type 0) → Objects → RequestNo → Type 0
  OldestHeld Was held request = (body : CloudRequest) × Was (record { number = request; cloud = c; body = body }) × IsHeld held body

  oldest_held : (Was : Sent → Type 0) (held : Objects) (replies : List Given) (request : RequestNo) → Each (IsReply Was c held) replies
      → reply_message (first_of replies) ≡ Some (Of_answer request answers.Ack) → OldestHeld Was held request
  oldest_held Was held [] request each is = nothing is
    where
      nothing : {A : Type 0} → None ≡ Some (Of_answer request answers.Ack) → A
      nothing e = cc
  oldest_held Was held (g ∷ gs) request each is =
      let parts = same g.request g.answer is in subst (OldestHeld Was held) parts.0 (each.0 parts.1)
    where
      same : (r : RequestNo) (answer : CloudAnswer) → Some (Of_answer r answer) ≡ Some (Of_answer request answers.Ack)
          → (r ≡ request) × (answer ≡ answers.Ack)
      same r answer e = (cc, cc)

  pub acked_held : (past : History) → IsNameable s past → IsServed s past → (a i : ℕ) (body : CloudRequest) → WasAcked s past a i body c
      → IsHeld (objects s past c) body
  acked_held [] few served a i body h = absurd h
  acked_held (e ∷ past) few served a i body (inr h) =
      let before = nameable_before s e past few in
      let k = next_cloud e past few (always_cloud past before) in
      let made = acked_made past a i body h in
      k.held made.0 body (inr made.1) (acked_held past before served.1 a i body h)
  acked_held (e ∷ past) few served a i body (inl (request, agent, incarnation, event, message, shown, made)) =
      let before = nameable_before s e past few in
      let cloud = always_cloud past before in
      let k = next_cloud e past few cloud in
      let reply : oldest_reply (net s past) c ≡ Some (Of_answer request answers.Ack) = sym (served.0 ∙ ap (message_of (net s past)) event) ∙ message in
      let found = oldest_held (WasSent s past) (objects s past c) (cloud_at (net s past) c).replies request cloud.replies reply in
      let same =
      ap (λ (x : Sent). x.body)
      ((always_drawn s past).one (record { number = request; cloud = c; body = found.0 }) (record { number = request; cloud = c; body = body })
      found.1 made refl) in
      k.held request body (inr made) (subst (IsHeld (objects s past c)) same found.2)
