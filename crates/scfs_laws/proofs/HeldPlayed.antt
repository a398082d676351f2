-- The bytes that sessions hold after schedules that are played.
use Rattle.std.specs.Prelude.{◌≡◌, ℕ, List, [], ◌∷◌, ◌++◌, refl}
use Rattle.scfs_base.specs.Words.{hex_pair}
use Rattle.scfs_schedule.specs.declared.types.Event.{Event}
use Rattle.scfs_schedule.specs.declared.types.Event.TheVariants as events
use Rattle.scfs_schedule.specs.declared.types.Call.TheVariants as calls
use Rattle.scfs_laws.specs.Held.{held}
use Rattle.scfs_model.proofs.ShortFormat.{setup}
use Rattle.scfs_model.proofs.Played.{played}
use Rattle.scfs_model.proofs.SharedFile.{hi, begins, commits, read_well}
use Rattle.scfs_model.proofs.LyingClouds.{lied, clash}
use Rattle.scfs_model.proofs.Starts.{before_unlocking, same_numbers}

abbrev held_after : List Event → (a h : ℕ) → List ℕ
held_after schedule a h = held (setup 1 2) (played (setup 1 2) [] schedule) a h

-- a session that writes, and one of another agent that reads what was closed
written : held_after begins 0 1 ≡ hi
unfolding hex_pair
written = refl

shared : held_after read_well 1 1 ≡ hi
unfolding hex_pair
shared = refl

-- two clouds lied, and were not believed
not_lied_to : held_after lied 1 1 ≡ hi
unfolding hex_pair
not_lied_to = refl

-- other bytes than those that were closed, where digests clash
deceived : held_after clash 1 1 ≡ 0x6e ∷ 0x6f ∷ []
unfolding hex_pair
deceived = refl

-- a session with the contents of the file's version 1, and its own write at their end
abbrev grows : List Event
grows =
    begins ++ commits
    ++ events.Call 0 (calls.OpenW (0x2f ∷ 0x61 ∷ [])) ∷ events.Space 0 ∷ events.Told 0
    ∷ events.Serve 0 ∷ events.Give 0 ∷ events.Serve 1 ∷ events.Give 1 ∷ events.Call 0 (calls.Write 2 2 (0x21 ∷ [])) ∷ []

grown : held_after grows 0 2 ≡ 0x68 ∷ 0x69 ∷ 0x21 ∷ []
unfolding hex_pair
grown = refl

-- after a start, a session with what was committed of the incarnation before
of_before : held_after before_unlocking 0 1 ≡ hi
unfolding hex_pair
of_before = refl

-- one of another agent with what was closed in the new incarnation
abbrev pub shares : List Event
shares =
    same_numbers
    ++ events.Call 1 (calls.OpenR (0x2f ∷ 0x61 ∷ [])) ∷ events.Space 1 ∷ events.Told 1
    ∷ events.Serve 0 ∷ events.Give 0 ∷ events.Serve 1 ∷ events.Give 1 ∷ []

of_now : held_after shares 1 1 ≡ 0x6e ∷ 0x6f ∷ []
unfolding hex_pair
of_now = refl
