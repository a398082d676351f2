-- What holds of the versions, pieces and contents in every part of the file map, where the objects of each upload are among those looked at.
use Rattle.std.specs.Prelude.{◌≡◌, ℕ, ◌<◌, ◌≤◌, ◌≢◌, List, length, map, Option, Some, Ok, Err, IfSome}
use Rattle.std.specs.List.{All, AllPairs}
use Rattle.std.specs.Map.{values_of}
use Rattle.scfs_base.specs.Limits.{contents_limit}
use Rattle.scfs_base.specs.declared.naming.Digest.{Digest}
use Rattle.scfs_base.specs.declared.naming.UploadNo.{UploadNo}
use Rattle.scfs_base.specs.declared.cloud.CloudAnswer.{CloudAnswer}
use Rattle.scfs_base.specs.declared.cloud.CloudAnswer.TheVariants as answers
use Rattle.scfs_base.specs.declared.cloud.CloudRequest.{CloudRequest}
use Rattle.scfs_base.specs.declared.cloud.CloudRequest.TheVariants as requests
use Rattle.scfs_unit.specs.declared.pieces.KeptPiece.{KeptPiece}
use Rattle.scfs_session.specs.declared.sessions.Session.{Session}
use Rattle.scfs_schedule.specs.declared.types.Call.{Call}
use Rattle.scfs_schedule.specs.declared.types.Call.TheVariants as calls
use Rattle.scfs_model.specs.Format.{Setup, clouds_of, sealed, object_at}
use Rattle.scfs_model.specs.History.{Message, Of_answer}
use Rattle.scfs_model.specs.Layers.{Version}
use Rattle.scfs_model.specs.Walks.{OrRefusal}
use Rattle.scfs_model.specs.SessionSteps.{Session_step, Commit, Session_outcome, Sees, Locks, Completes}
use Rattle.scfs_model.specs.Steps.{Step, On_sessions, Outcome, Of_sessions}
use Rattle.scfs_model.specs.Agents.{Opening, Waiting, Upload, Closed, Request, Agent, Sent}
use Rattle.scfs_model.specs.Events.{At_agent, Call_comes, Turn_comes, Crash_comes, Start_comes, Answer_given, Place, Agent_has, Cloud_has}
use Rattle.scfs_model.specs.States.{Reply, State}
use Rattle.scfs_laws.specs.Sound.{open_of}
use Rattle.scfs_laws.proofs.Lists.{Each}
use Rattle.scfs_laws.proofs.Moves.{Known}
use Rattle.scfs_laws.proofs.Seats.{Parts, AreSeats}

abbrev pub AreBytes : List ℕ → Type 0
AreBytes bytes = All (λ b. b < 256) bytes

-- contents that a session may have
pub record IsContents (contents : List ℕ) : Type 0 where
  pub are_bytes : AreBytes contents
  pub small : length contents ≤ contents_limit

abbrev pub IsSession : Session → Type 0
IsSession y = IsContents y.contents

-- what a call writes are bytes
abbrev pub IsWritten : Call → Type 0
IsWritten (calls.Write h offset new) = AreBytes new
IsWritten other = Unit {0}

abbrev pub IsBrought : At_agent → Type 0
IsBrought (Call_comes call) = IsWritten call
IsBrought Turn_comes = Unit {0}
IsBrought Crash_comes = Unit {0}
IsBrought Start_comes = Unit {0}

module _ (s : Setup) (Among : (c : ℕ) → (bytes : List ℕ) → Type 0) where
  -- contents that are sealed as an upload, with each cloud's object among those looked at
  pub record IsSealed (u : UploadNo) (contents : List ℕ) : Type 0 where
    pub fits : IsContents contents
    pub objects : (c : ℕ) → c < clouds_of s → Among c (object_at (sealed s u contents) c)

  abbrev pub IsVersion : Version → Type 0
  IsVersion v = IsSealed v.upload v.bytes

  -- a piece that passes all tests under a root, in bytes that are among them
  pub record IsGood (root : Digest) (piece : KeptPiece) : Type 0 where
    pub bytes : List ℕ
    pub below : piece.cloud < clouds_of s
    pub passes : s.format.check s.header.f piece.cloud root bytes ≡ Some piece
    pub among : Among piece.cloud bytes

  -- such a piece, of this cloud
  pub record IsFrom (root : Digest) (c : ℕ) (piece : KeptPiece) : Type 0 where
    pub cloud : piece.cloud ≡ c
    pub good : IsGood root piece

  -- such pieces, of different clouds
  pub record AreGood (root : Digest) (pieces : List KeptPiece) : Type 0 where
    pub each : Each (IsGood root) pieces
    pub different : AllPairs (λ a b. a ≢ b) (map (λ (p : KeptPiece). p.cloud) pieces)

  pub record IsReading (v : Version) (root : Digest) (pieces : List KeptPiece) : Type 0 where
    pub version : IsVersion v
    pub rooted : root ≡ (sealed s v.upload v.bytes).root
    pub good : AreGood root pieces

  abbrev pub IsOpening : Opening Version → Type 0
  IsOpening o = IsReading o.version o.reading.root o.reading.pieces

  abbrev pub IsWaiting : Option (Waiting Version) → Type 0
  IsWaiting w = IfSome (open_of w) IsOpening

  abbrev pub IsUpload : Upload Version → Type 0
  IsUpload u = IsVersion u.version

  abbrev pub IsClosed : Closed Version → Type 0
  IsClosed x = IsSession x.session × IfSome x.upload IsUpload

  abbrev pub IsSessionStep : Session_step Version → Type 0
  IsSessionStep (Commit h v) = IsVersion v
  IsSessionStep other = Unit {0}

  abbrev pub IsStep : Step Version → Type 0
  IsStep (On_sessions x) = IsSessionStep x
  IsStep other = Unit {0}

  abbrev pub IsRequest : Request Version → Type 0
  IsRequest r = IsStep r.step

  abbrev pub IsSessionOutcome : Session_outcome Version → Type 0
  IsSessionOutcome (Sees sight) = IfSome sight.version IsVersion
  IsSessionOutcome (Locks sight l) = IfSome sight.version IsVersion
  IsSessionOutcome (Completes h v n) = IsVersion v

  abbrev pub IsOk : {X : Type 0} → (X → Type 0) → OrRefusal X → Type 0
  IsOk P (Ok x) = P x
  IsOk P (Err why) = Unit {0}

  abbrev pub IsOutcome : Outcome Version → Type 0
  IsOutcome (Of_sessions x r) = IsOk IsSessionOutcome r
  IsOutcome other = Unit {0}

  abbrev pub IsReply : Reply Version → Type 0
  IsReply r = IsOutcome r.outcome

  -- what an agent has, by the three parts of it that this speaks of
  abbrev pub IsAgent : Agent Version → Type 0
  IsAgent agent = IsWaiting agent.waiting × All IsSession (values_of agent.sessions) × Each IsClosed agent.closed

  abbrev pub parts : Parts Version
  parts = record { agent = λ a g. IsAgent g; step = λ a q. IsRequest q; reply = λ a y. IsReply y }

  abbrev pub IsState : State Version → Type 0
  IsState state = Each IsVersion state.tree.versions × AreSeats parts state.seats

  -- an answer of a cloud whose bytes, where they pass under a root, have a good piece of that cloud
  abbrev pub IsHeard : (c : ℕ) → CloudAnswer → Type 0
  IsHeard c (answers.Bytes bytes) =
      (root : Digest) (piece : KeptPiece) → s.format.check s.header.f c root bytes ≡ Some piece → IsFrom root c piece
  IsHeard c other = Unit {0}

  -- what comes to an agent
  abbrev pub known : Known Version
  known =
      record {
        call = IsWritten;
        sight = λ request sight. IfSome sight.version IsVersion;
        answer = λ c request answer. IsHeard c answer;
        turn = Unit {0};
        crash = Unit {0};
        start = Unit {0};
        takes = Unit {0};
      }

  -- a request whose object, where it puts one, is among them
  abbrev pub IsAsked : (c : ℕ) → CloudRequest → Type 0
  IsAsked c (requests.Put name body) = Among c body
  IsAsked c other = Unit {0}

  abbrev pub IsSent : Sent → Type 0
  IsSent x = IsAsked x.cloud x.body

  -- an answer that is given is so
  abbrev pub IsGiven : (c : ℕ) → Option Message → Type 0
  IsGiven c (Some (Of_answer request answer)) = IsHeard c answer
  IsGiven c other = Unit {0}

  -- an event whose call writes bytes, and whose answer is so
  abbrev pub IsPlace : Option Message → Place → Type 0
  IsPlace message (Agent_has a x) = IsBrought x
  IsPlace message (Cloud_has c Answer_given) = IsGiven c message
  IsPlace message other = Unit {0}
