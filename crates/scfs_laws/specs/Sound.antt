use Rattle.std.specs.Prelude.{◌≡◌, ℕ, List, [], ◌∷◌, true, Option, Some, None, IfSome, slice_get}
use Rattle.scfs_base.specs.declared.naming.RequestNo.{RequestNo}
use Rattle.scfs_base.specs.declared.cloud.CloudAnswer.{CloudAnswer}
use Rattle.scfs_model.specs.Format.{Setup}
use Rattle.scfs_model.specs.History.{Message, Of_request, Of_answer, History}
use Rattle.scfs_model.specs.Next.{Next, Goes_on, Asks, Has, Gives_up}
use Rattle.scfs_model.specs.Reading.{is_awaited, piece_in, read_on}
use Rattle.scfs_model.specs.Agents.{Opening, Waiting, For_step, For_clouds, For_close}
use Rattle.scfs_model.specs.Events.{Place, Agent_has, Space_has, Cloud_has, Clock_has, Request_answered, Answer_given, Message_moved, place_of}
use Rattle.scfs_model.specs.States.{Seat, State}
use Rattle.scfs_model.specs.Layers.{Version}
use Rattle.scfs_model.specs.Runs.{mapped}

-- What an open got from the clouds for its version fits the version.

-- the open that an agent reads from the clouds, of what it waits for
abbrev pub open_of : {V : Type 0} → Option (Waiting V) → Option (Opening V)
open_of None = None
open_of (Some For_step) = None
open_of (Some (For_clouds o)) = Some o
open_of (Some For_close) = None

module _ {V : Type 0} (s : Setup) (Fits : V → (bytes : List ℕ) → Type 0) where
  abbrev pub FitsRead : V → Next (List ℕ) → Type 0
  FitsRead v Goes_on = Unit {0}
  FitsRead v (Asks clouds) = Unit {0}
  FitsRead v (Has bytes) = Fits v bytes
  FitsRead v (Gives_up good) = Unit {0}

  -- where the open that an agent reads is given an answer
  abbrev pub FitsHeard : (c : ℕ) → RequestNo → CloudAnswer → Option (Waiting V) → Type 0
  FitsHeard c request answer w =
      IfSome (open_of w) (λ (o : Opening V).
      is_awaited o.reading c request ≡ true → FitsRead o.version (read_on s o.reading (piece_in s o.reading c answer)))

  abbrev pub FitsAt : (c : ℕ) → RequestNo → CloudAnswer → Option (Seat V) → Type 0
  FitsAt c request answer None = Unit {0}
  FitsAt c request answer (Some seat) = FitsHeard c request answer seat.agent.waiting

  abbrev pub FitsGiven : State V → (c : ℕ) → Option Message → Type 0
  FitsGiven state c None = Unit {0}
  FitsGiven state c (Some (Of_request request)) = Unit {0}
  FitsGiven state c (Some (Of_answer request answer)) = FitsAt c request answer (slice_get state.seats request.agent)

  -- an open is answered with what clouds gave where an answer of a cloud is given, and nowhere else
  abbrev pub FitsPlace : State V → Option Message → Place → Type 0
  FitsPlace state message (Agent_has a x) = Unit {0}
  FitsPlace state message (Space_has a x) = Unit {0}
  FitsPlace state message (Cloud_has c Request_answered) = Unit {0}
  FitsPlace state message (Cloud_has c Answer_given) = FitsGiven state c message
  FitsPlace state message (Cloud_has c Message_moved) = Unit {0}
  FitsPlace state message (Clock_has ticks) = Unit {0}

-- what came is what was closed
abbrev pub WasClosed : Version → (bytes : List ℕ) → Type 0
WasClosed v bytes = bytes ≡ v.bytes

-- each open from the clouds got what was closed as the version that it saw
abbrev pub IsSound : Setup → History → Type 0
IsSound s [] = Unit {0}
IsSound s (e ∷ past) = FitsPlace s WasClosed (mapped s past) e.message (place_of e.event) × IsSound s past
