-- Where no two different blocks of a history share a digest, each open from the clouds got what was closed as the version that it saw.
use Rattle.std.proofs.Common.{◌≡◌, ℕ, ◌<◌, ◌≤◌, List, [], ◌∷◌, ◌++◌, length, ap, ◌∙◌, subst, Option, Some}
use Rattle.std.proofs.lemmas.List.Elements.{All-nil, Contains-append_left, Contains-append_right}
use Rattle.scfs_base.specs.declared.cloud.CloudAnswer.{CloudAnswer}
use Rattle.scfs_base.specs.declared.cloud.CloudAnswer.TheVariants as answers
use Rattle.scfs_base.specs.declared.cloud.CloudRequest.{CloudRequest}
use Rattle.scfs_base.specs.declared.cloud.CloudRequest.TheVariants as requests
use Rattle.scfs_unit.specs.Clash as unit
use Rattle.scfs_schedule.specs.Grammar.{IsEvent}
use Rattle.scfs_schedule.specs.declared.types.Call.{Call}
use Rattle.scfs_schedule.specs.declared.types.Call.TheVariants as calls
use Rattle.scfs_schedule.specs.declared.types.Event.{Event}
use Rattle.scfs_schedule.specs.declared.types.Event.TheVariants as events
use Rattle.scfs_schedule.specs.declared.types.Header.{Header}
use Rattle.scfs_model.specs.Format.{Setup, clouds_of}
use Rattle.scfs_model.specs.UnitFormat.{under}
use Rattle.scfs_model.specs.History.{Message, Of_answer, Entry, History}
use Rattle.scfs_model.specs.Layers.{Row, rows, closes}
use Rattle.scfs_model.specs.Given.{given_of}
use Rattle.scfs_model.specs.Agents.{Sent}
use Rattle.scfs_model.specs.Events.{Place, Cloud_has, Request_answered, place_of}
use Rattle.scfs_model.specs.States.{Effect, first_state, first_seat}
use Rattle.scfs_model.specs.Runs.{mapped, effect_of, effect_after}
use Rattle.scfs_model.specs.Clouds.{net, message_of, IsServed}
use Rattle.scfs_laws.specs.Sound.{FitsPlace, WasClosed, IsSound}
use Rattle.scfs_laws.specs.Blocks.{blocks_asked, blocks_sent, blocks_answered, blocks_at, new_blocks, blocks}
use Rattle.scfs_laws.specs.Laws.{WritesBytes, BringsBytes, AreEvents, SoundWithoutClash, RunsWithoutClash, NoClashBefore}
use Rattle.scfs_laws.proofs.Lists.{Each, places_replicate}
use Rattle.scfs_laws.proofs.SoundKept.{IsSession, IsWritten, parts, IsState, IsGiven, IsPlace, IsAsked, IsSent}
use Rattle.scfs_laws.proofs.Seats.{IsSeat}
use Rattle.scfs_laws.proofs.SoundStates.{place_keeps, place_fits}
use Rattle.scfs_laws.proofs.SoundAnswers.{IsOf, IsMade, AreMade, given_made}
use Rattle.scfs_laws.proofs.SoundUnit.{AreAmong, IsAmong, heard, gives_back}
use Rattle.scfs_laws.proofs.TwoLayers.{entry_alike, states_alike, is_run}

-- blocks of a part are among those of the whole
among_front : (xs ys whole : List (List ℕ)) → AreAmong (xs ++ ys) whole → AreAmong xs whole
among_front xs ys whole h block there = h block (Contains-append_left xs ys block there)

among_back : (xs ys whole : List (List ℕ)) → AreAmong (xs ++ ys) whole → AreAmong ys whole
among_back xs ys whole h block there = h block (Contains-append_right xs ys block there)

-- a further event only adds blocks
pub no_clash_before : NoClashBefore
no_clash_before header e past apart x y there here =
    let new = new_blocks header past e in
    apart x y (Contains-append_right new (blocks header past) x there) (Contains-append_right new (blocks header past) y here)

written : (call : Call) → WritesBytes call → IsWritten call
written (calls.Write h offset new) k = k
written other k = tt

-- agents put the same whether versions are rows or closes, as long as each open got what was closed
sent_alike : (s : Setup) (past : History) (e : Entry) → IsSound s past → FitsPlace s WasClosed (mapped s past) e.message (place_of e.event)
    → (effect_after s rows past e).sent ≡ (effect_after s (closes s) past e).sent
sent_alike s past e sound now =
    ap (λ x. (effect_of s rows x e).sent) (states_alike s past sound) ∙ ap (λ (x : Effect Row). x.sent) (entry_alike s (mapped s past) e now)

module _ (header : Header) (whole : List (List ℕ)) (few : header.f ≤ 3) (apart : unit.NoClash whole) where
  abbrev s : Setup
  s = under header

  abbrev Among : (c : ℕ) → (bytes : List ℕ) → Type 0
  Among c bytes = IsAmong header.f whole c bytes

  -- the blocks of an answer are among those of the whole
  abbrev IsAnswer : (c : ℕ) → CloudAnswer → Type 0
  IsAnswer c answer = AreAmong (blocks_answered header.f c answer) whole

  given_heard : (c : ℕ) (message : Option Message) → c < clouds_of s → IsOf IsAnswer c message → IsGiven s Among c message
  given_heard c (Some (Of_answer request (answers.Bytes bytes))) below h = heard header whole few apart c bytes below h
  given_heard c other below h = tt

  made_is : (c : ℕ) (message : Option Message) → AreAmong (blocks_at header.f message (Cloud_has c Request_answered)) whole → IsOf IsAnswer c message
  made_is c (Some (Of_answer request answer)) h = h
  made_is c other h = tt

  made_at : (message : Option Message) (place : Place) → AreAmong (blocks_at header.f message place) whole → IsMade IsAnswer message place
  made_at message (Cloud_has c Request_answered) h = made_is c message h
  made_at message other h = tt

  all_made : (past : History) → AreAmong (blocks header past) whole → AreMade IsAnswer past
  all_made [] h = tt
  all_made (e ∷ past) h =
      let now = blocks_at header.f e.message (place_of e.event) in
      let sent = blocks_sent header.f (effect_after s rows past e).sent in (
        made_at e.message (place_of e.event) (among_front now sent whole (among_front (now ++ sent) (blocks header past) whole h)),
        all_made past (among_back (now ++ sent) (blocks header past) whole h),
      )

  -- an event of the header
  placed : (past : History) (event : Event) (message : Option Message) → IsServed s past → AreMade IsAnswer past
      → IsEvent header event → BringsBytes event → message ≡ message_of (net s past) event → IsPlace s Among message (place_of event)
  placed past (events.Call a call) message served made valid brings is = written call brings
  placed past (events.Give c) message served made below brings is = given_heard c message below (given_made IsAnswer s past c message served made is)
  placed past other message served made valid brings is = tt

  asked_is : (c : ℕ) (body : CloudRequest) → AreAmong (blocks_asked header.f c body) whole → IsAsked s Among c body
  asked_is c (requests.Put name body) h = h
  asked_is c other h = tt

  sent_is : (sent : List Sent) → AreAmong (blocks_sent header.f sent) whole → Each (IsSent s Among) sent
  sent_is [] h = tt
  sent_is (x ∷ sent) h =
      let mine = blocks_asked header.f x.cloud x.body in
      let others = blocks_sent header.f sent in
      (asked_is x.cloud x.body (among_front mine others whole h), sent_is sent (among_back mine others whole h))

  first_is : IsState s Among (first_state s)
  first_is = (
    tt,
    places_replicate (IsSeat (parts s Among)) (length header.agents) (first_seat s)
        (λ a. record { agent = (tt, All-nil IsSession, tt); steps = tt; replies = tt }),
  )

  past_is_sound : (past : History) → IsServed s past → AreEvents header past → AreAmong (blocks header past) whole
      → IsSound s past × IsState s Among (mapped s past)
  past_is_sound [] served valid among = (tt, first_is)
  past_is_sound (e ∷ past) served valid among =
      let now = blocks_at header.f e.message (place_of e.event) in
      let sent = blocks_sent header.f (effect_after s rows past e).sent in
      let less = among_back (now ++ sent) (blocks header past) whole among in
      let before = past_is_sound past served.1 valid.2 less in
      let place = placed past e.event e.message served.1 (all_made past less) valid.0 valid.1 served.0 in
      let sound = place_fits s Among (gives_back header whole few apart) (mapped s past) before.1 e.message (place_of e.event) place in
      let put = sent_is (effect_after s rows past e).sent (among_back now sent whole (among_front (now ++ sent) (blocks header past) whole among)) in
      let kept = place_keeps s Among (mapped s past) before.1 (given_of (mapped s past).clock e) e.message (place_of e.event) place
      (subst (Each (IsSent s Among)) (sent_alike s past e before.0 sound) put) in
      ((sound, before.0), kept)

pub sound_without_clash : SoundWithoutClash
sound_without_clash header past ok served valid apart =
    (past_is_sound header (blocks header past) ok.f.1 apart past served valid (λ block there. there)).0

pub runs_without_clash : RunsWithoutClash
runs_without_clash header past ok happens served valid apart =
    is_run (under header) past (sound_without_clash header past ok served valid apart) happens
