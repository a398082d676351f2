-- What comes next is heard, and then done.
use Rattle.std.proofs.Common.{◌≡◌, ℕ, List, sym, subst, Option, Result, Ok, Err}
use Rattle.scfs_base.specs.declared.cloud.CloudAnswer.{CloudAnswer}
use Rattle.scfs_base.specs.declared.outside.Memory.{Memory}
use Rattle.scfs_policy.specs.declared.rank.RankFacts.{RankFacts}
use Rattle.scfs_schedule.specs.declared.types.Event.{Event}
use Rattle.scfs_schedule.specs.declared.types.Header.{Header}
use Rattle.scfs_schedule.specs.declared.types.Which.TheVariants as whiches
use Rattle.scfs_net.specs.Queues.{NetState}
use Rattle.scfs_model.specs.History.{Entry, History}
use Rattle.scfs_world.specs.State.{WorldState}
use Rattle.scfs_live.specs.Asked.{Told}
use Rattle.scfs_live.specs.Driven.{answer_in}
use Rattle.scfs_live.specs.Hearing.{Heard, IsHeard}
use Rattle.scfs_live.specs.Turning.{Advanced, Played, Turned}
use Rattle.scfs_live.specs.declared.driver.Next.{Next}
use Rattle.scfs_live.specs.declared.ending.LiveEnd.{LiveEnd}
use Rattle.scfs_live.specs.declared.ending.LiveEnd.TheVariants as ends

-- with the clouds of the history
pub heard_with : (next : Next) (net net' : NetState) (result : Result CloudAnswer Memory) (before now : List Told) → net ≡ net'
    → Heard next net result before now → Heard next net' result before now
heard_with next net net' result before now same heard = subst (λ (n : NetState). Heard next n result before now) same heard

module _ (allows : RankFacts → ℕ → Type 0) (header : Header) (past : History) (next : Next) (before now : List Told) (event : Event)
    (it : IsHeard next header past before now event) where
  is_heard : (e : Event) → e ≡ event → IsHeard next header past before now e
  is_heard e same = subst (IsHeard next header past before now) (sym same) it

  played_heard : (e : Entry) → Played allows header past (λ given. given ≡ event) e → Played allows header past (IsHeard next header past before now) e
  played_heard e played = record { it = is_heard e.event played.it; few = played.few; plays = played.plays }

  pub advanced_by : (j j' o o' : Option (List ℕ)) (result : Result WorldState LiveEnd) → Turned allows header past (λ given. given ≡ event) j j' o o' result
      → Advanced allows header past next before now j j' o o' result
  advanced_by j j' o o' (Ok world) (e, played, stands, piece, lines) = (e, played_heard e played, stands, piece, lines)
  advanced_by j j' o o' (Err (ends.WriteFault whiches.Journal)) (e, played, piece, lines) = (e, played_heard e played, piece, lines)
  advanced_by j j' o o' (Err (ends.WriteFault whiches.Out)) (e, played, piece, lines) = (e, played_heard e played, piece, lines)
  advanced_by j j' o o' (Err (ends.TooLarge whiches.Objects)) (e, same, large, nothing) = (e, is_heard e same, large, nothing)
  advanced_by j j' o o' (Err (ends.TooLarge whiches.Events)) turned = absurd turned
  advanced_by j j' o o' (Err ends.Memory) turned = (Ok (answer_in event), it.heard, turned)
  advanced_by j j' o o' (Err end) turned = absurd turned
