-- What becomes of the clouds that tell their stores, over a run.
use Rattle.std.specs.Prelude.{◌≡◌, ◌≢◌, ◌⊎◌, ℕ, List, [], ◌∷◌, ◌++◌, Option, Some, slice_get}
use Rattle.scfs_base.specs.declared.cloud.CloudAnswer.TheVariants as answers
use Rattle.scfs_schedule.specs.declared.types.Which.TheVariants as whichs
use Rattle.scfs_net.specs.Store.{Objects}
use Rattle.scfs_cloud.specs.declared.cloud.Exchange.{Exchange}
use Rattle.scfs_model.specs.Format.{Setup}
use Rattle.scfs_model.specs.History.{History}
use Rattle.scfs_durable.specs.Stores.{NeverLied, WasNeverStale}
use Rattle.scfs_live.specs.Asked.{Told, exchanges}
use Rattle.scfs_live.specs.Stores.{InStep, OneAhead}
use Rattle.scfs_live.specs.declared.ending.LiveEnd.TheVariants as lives
use Rattle.scfs_top.specs.declared.stopping.RunEnd.{RunEnd}
use Rattle.scfs_top.specs.declared.stopping.RunEnd.TheVariants as runs

-- a cloud neither lied nor was stale in new events behind a history
pub record IsFaithful (s : Setup) (c : ℕ) (new past : History) : Type 0 where
  pub honest : NeverLied s c new past
  pub up_to_date : WasNeverStale s c new past

-- a store that is told is in step with a history, or one ahead of it
abbrev pub IsAlmostInStep : Setup → (c : ℕ) → History → Option Objects → Type 0
IsAlmostInStep s c past store = InStep s c past store ⊎ OneAhead s c past store

-- A store is in step at the end of a run. Only where carried bytes would pass their limit, or memory was wanting, can it be one ahead: then
-- its cloud may have been asked the oldest request once more, with nothing recorded of that.
abbrev pub EndsInStep : RunEnd → Setup → (c : ℕ) → History → Option Objects → Type 0
EndsInStep (runs.Stopped (lives.TooLarge whichs.Objects)) s c past store = IsAlmostInStep s c past store
EndsInStep (runs.Stopped lives.Memory) s c past store = IsAlmostInStep s c past store
EndsInStep end s c past store = InStep s c past store

-- What a store was before new events, and is at their end. One in step with the old history ends in step; so does one that was one ahead,
-- where the first answer that is recorded of its cloud is no failure; where none is recorded, it stays in step or one ahead. In each case its
-- cloud neither lied nor was stale.
pub record KeepsStep (end : RunEnd) (s : Setup) (c : ℕ) (new past : History) (was is : Option Objects) : Type 0 where
  pub in_step : InStep s c past was → IsFaithful s c new past × EndsInStep end s c (new ++ past) is
  pub ahead :
      (first : Exchange) (later : List Exchange) → exchanges s c new past ≡ first ∷ later → first.answer ≢ answers.Fail → OneAhead s c past was
      → IsFaithful s c new past × EndsInStep end s c (new ++ past) is
  pub unasked : exchanges s c new past ≡ [] → OneAhead s c past was → IsFaithful s c new past × IsAlmostInStep s c (new ++ past) is

-- so each cloud does
abbrev pub AllKeepStep : RunEnd → Setup → (new past : History) → (clouds clouds' : List Told) → Type 0
AllKeepStep end s new past clouds clouds' =
    (c : ℕ) (was is : Told) → slice_get clouds c ≡ Some was → slice_get clouds' c ≡ Some is → KeepsStep end s c new past was.store is.store
