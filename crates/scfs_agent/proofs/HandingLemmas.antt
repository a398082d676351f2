-- What a call gave, said of the agent before it.
use Rattle.std.proofs.Common.{◌≡◌, ℕ, ◌+◌, ◌*◌, List, [], Bool, true, false, Some, None, Result, IfOk, OnOk, sym, ap, ◌∙◌}
use Rattle.std.specs.Prelude.{◌&&◌, not, if◌then◌else◌}
use Rattle.std.proofs.lemmas.Result.{IfOk-weaker, on_ok_weaker}
use Rattle.scfs_base.specs.declared.naming.RequestNo.{RequestNo}
use Rattle.scfs_base.specs.declared.naming.UploadNo.{UploadNo}
use Rattle.scfs_base.specs.declared.cloud.CloudAnswer.{CloudAnswer}
use Rattle.scfs_session.specs.declared.sessions.Ended.{Ended}
use Rattle.scfs_unit.specs.declared.sealing.Sealed.{Sealed}
use Rattle.scfs_anchor.specs.declared.seen.VersionRow.{VersionRow}
use Rattle.scfs_quorum_read.specs.Reading.{is_among}
use Rattle.scfs_quorum_read.specs.Tracking.{Tracker, heard}
use Rattle.scfs_quorum_read.specs.declared.steps.ReadStep.{ReadStep}
use Rattle.scfs_quorum_write.specs.Acks.{Acks, no_acks}
use Rattle.scfs_model.specs.Lists.{below}
use Rattle.scfs_model.specs.Names.{upload_no, upload_name}
use Rattle.scfs_model.specs.Format.{sealed}
use Rattle.scfs_model.specs.Asked as requests
use Rattle.scfs_model.specs.Layers.{Row, rows}
use Rattle.scfs_model.specs.Reading.{piece_in}
use Rattle.scfs_model.specs.Agents.{For_close, Reaction}
use Rattle.scfs_model.specs.Opens.{open_hears, reads, takes, tallied}
use Rattle.scfs_model.specs.Closes.{asks_puts, begins}
use Rattle.scfs_model.specs.Next.{Goes_on}
use Rattle.scfs_agent.specs.State.{AgentState, setup}
use Rattle.scfs_agent.specs.Views.{asked_of, opening_of, reading_of, next_of, row_of, left_session, acked_of, upload_of, closed_of}
use Rattle.scfs_agent.specs.Outputs.{outputs_of}
use Rattle.scfs_agent.specs.Keeping.{IsFetch}
use Rattle.scfs_agent.specs.declared.types.Output.{Output}
use Rattle.scfs_agent.specs.declared.work.Asked.{Asked}
use Rattle.scfs_agent.specs.declared.work.Fetch.{Fetch}
use Rattle.scfs_agent.specs.declared.work.Upload.{Upload}
use Rattle.scfs_agent.proofs.ReadingLemmas.{takes_as}
use Rattle.scfs_agent.proofs.AckLemmas.{acked_none}

-- the same outputs, and the same agent afterwards, by an equation
pub gives_by : {E : Type 0} (r : Result (List Output) E) (xs ys : List Output) → xs ≡ ys → IfOk r (λ given. given ≡ xs) → IfOk r (λ given. given ≡ ys)
gives_by r xs ys same h = IfOk-weaker r (λ given. given ≡ xs) (λ given. given ≡ ys) (λ given k. k ∙ same) h

pub after_by : {X E : Type 0} (r : Result X E) (new v w : AgentState) → v ≡ w → OnOk r (new ≡ v) → OnOk r (new ≡ w)
after_by r new v w same h = on_ok_weaker r (λ k. k ∙ same) h

-- an answer that counts for an open
module _ (old : AgentState) (fetch : Fetch) (is : IsFetch old.header.f fetch) (cloud : ℕ) (request : RequestNo) (answer : CloudAnswer)
    (mine : requests.is_answer_to (asked_of fetch.gets) cloud request ≡ true) (none : is_among cloud fetch.tracker.pieces ≡ false) where
  awaited : open_hears (setup old) rows old.no old.agent (opening_of fetch) cloud request answer
      ≡ takes (setup old) rows old.no old.agent (opening_of fetch) cloud (piece_in (setup old) (reading_of fetch) cloud answer)
  awaited =
      let either : Bool → Bool → Reaction Row = λ x y. if x && not y
      then takes (setup old) rows old.no old.agent (opening_of fetch) cloud (piece_in (setup old) (reading_of fetch) cloud answer)
      else reads (setup old) rows old.no old.agent (opening_of fetch) Goes_on in
      ap (λ (x : Bool). either x (is_among cloud fetch.tracker.pieces)) mine ∙ ap (either true) none

  module _ (new : AgentState) (tracker : Tracker) (step : ReadStep) (good : Bool) (counted : new ≡ record old {
    agent =
        tallied old.agent cloud good;
  })
      (after : tracker ≡ (heard fetch.tracker cloud answer).after) (steps : step ≡ (heard fetch.tracker cloud answer).step)
      (wants : good ≡ not (not (is_among cloud tracker.pieces))) where
    abbrev made : Tracker → ReadStep → Bool → Reaction Row
    made t s g = reads (setup old) rows old.no (tallied old.agent cloud g) (opening_of (record fetch { tracker = t })) (next_of s)

    taken : made tracker step good ≡ open_hears (setup old) rows old.no old.agent (opening_of fetch) cloud request answer
    taken =
        let h = heard fetch.tracker cloud answer in
        ap (made tracker step) wants
        ∙ ap (λ (t : Tracker). made t step (not (not (is_among cloud t.pieces)))) after
        ∙ ap (λ (s : ReadStep). made h.after s (not (not (is_among cloud h.after.pieces)))) steps
        ∙ takes_as old fetch is cloud none old.agent answer
        ∙ sym awaited

    pub taken_gives : outputs_of new (reads (setup new) rows new.no new.agent (opening_of (record fetch { tracker = tracker })) (next_of step))
        ≡ outputs_of old (open_hears (setup old) rows old.no old.agent (opening_of fetch) cloud request answer)
    taken_gives =
        ap (λ (v : AgentState). outputs_of v (reads (setup v) rows v.no v.agent (opening_of (record fetch { tracker = tracker })) (next_of step)))
        counted
        ∙ ap (outputs_of old) taken

    pub taken_after : ◌≡◌ {A =
        AgentState} (record new {
          agent =
              (reads (setup new) rows new.no new.agent (opening_of (record fetch { tracker = tracker })) (next_of step)).agent;
        })
        (record old { agent = (open_hears (setup old) rows old.no old.agent (opening_of fetch) cloud request answer).agent })
    taken_after =
        ap (λ (v : AgentState). record v {
          agent =
              (reads (setup v) rows v.no v.agent (opening_of (record fetch { tracker = tracker })) (next_of step)).agent;
        }) counted
        ∙ ap (λ (r : Reaction Row). record old { agent = r.agent }) taken

-- an upload that begins
module _ (old : AgentState) (h : ℕ) (left : Ended) (row : VersionRow) (unit : Sealed) (puts : List Asked) (acks : Acks) (clouds : List ℕ) where
  abbrev drawn : UploadNo
  drawn = upload_no old.no old.agent.incarnation (old.agent.uploads + 1)

  abbrev begun_upload : Upload
  begun_upload = record { session = h; left = left; row = row; unit = unit; puts = puts; acks = acks; turns = 0 }

  abbrev puts_of : Row → List ℕ → Sealed → List requests.Asked → List ℕ → List ℕ → Reaction Row
  puts_of v name it asked acked clouds =
      asks_puts (setup old) old.no (record old.agent { waiting = Some For_close; uploads = old.agent.uploads + 1 })
      (record { number = h; session = left_session left; upload = None })
      (record { version = v; storing = record { name = name; unit = it; puts = asked; acked = acked; turns = 0 } }) clouds

  begun_same : unit ≡ sealed (setup old) drawn left.contents → row_of row ≡ rows.closed (left_session left) drawn unit → puts ≡ [] → acks
      ≡ no_acks old.header.f 1
      → clouds ≡ below (3 * old.header.f + 1)
      → asks_puts (setup old) old.no (record old.agent {
        waiting = Some For_close;
        uploads =
            old.agent.uploads + 1;
      }) (closed_of begun_upload) (upload_of begun_upload) clouds
      ≡ begins (setup old) rows old.no (record old.agent { waiting = Some For_close }) (record {
        number = h;
        session = left_session left;
        upload =
            None;
      })
  begun_same sealed_is rowed no_puts none all =
      let it = sealed (setup old) drawn left.contents in
      ap (λ (v : Row). puts_of v (upload_name v.upload) unit (asked_of puts) (acked_of acks) clouds) rowed
      ∙ ap (λ (u : Sealed). puts_of (rows.closed (left_session left) drawn u) (upload_name drawn) u (asked_of puts) (acked_of acks) clouds) sealed_is
      ∙ ap (λ (ps : List Asked). puts_of (rows.closed (left_session left) drawn it) (upload_name drawn) it (asked_of ps) (acked_of acks) clouds)
      no_puts
      ∙ ap (λ (xs : List ℕ). puts_of (rows.closed (left_session left) drawn it) (upload_name drawn) it [] xs clouds) (ap acked_of none
      ∙ acked_none old.header.f)
      ∙ ap (λ (cs : List ℕ). puts_of (rows.closed (left_session left) drawn it) (upload_name drawn) it [] [] cs) all

-- an upload more is drawn
abbrev pub drawn_by : AgentState → AgentState
drawn_by v = record v { agent = record v.agent { uploads = v.agent.uploads + 1 } }

module _ (old v : AgentState) (view_is : v
    ≡ old) (h : ℕ) (left : Ended) (row : VersionRow) (unit : Sealed) (puts : List Asked) (acks : Acks) (clouds : List ℕ)
    (sealed_is : unit ≡ sealed (setup old) (drawn old h left row unit puts acks clouds) left.contents)
    (rowed : row_of row ≡ rows.closed (left_session left) (drawn old h left row unit puts acks clouds) unit) (no_puts : puts ≡ []) (none : acks
    ≡ no_acks old.header.f 1)
    (all : clouds ≡ below (3 * old.header.f + 1)) where
  abbrev upload : Upload
  upload = begun_upload old h left row unit puts acks clouds

  abbrev put_by : AgentState → Reaction Row
  put_by w = asks_puts (setup w) w.no (record w.agent { waiting = Some For_close }) (closed_of upload) (upload_of upload) clouds

  abbrev begun : Reaction Row
  begun = begins (setup old) rows old.no (record old.agent { waiting = Some For_close }) (record {
    number = h;
    session = left_session left;
    upload =
        None;
  })

  pub begun_gives : outputs_of (drawn_by v) (put_by (drawn_by v)) ≡ outputs_of old begun
  begun_gives =
      ap (λ (w : AgentState). outputs_of (drawn_by w) (put_by (drawn_by w))) view_is
      ∙ ap (outputs_of old) (begun_same old h left row unit puts acks clouds sealed_is rowed no_puts none all)

  pub begun_after : ◌≡◌ {A = AgentState} (record (drawn_by v) { agent = (put_by (drawn_by v)).agent }) (record old { agent = begun.agent })
  begun_after =
      ap (λ (w : AgentState). record (drawn_by w) { agent = (put_by (drawn_by w)).agent }) view_is
      ∙ ap (λ (r : Reaction Row). record old { agent = r.agent }) (begun_same old h left row unit puts acks clouds sealed_is rowed no_puts none all)
