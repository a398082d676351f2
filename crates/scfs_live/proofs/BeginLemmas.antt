-- A drive that is given no event.
use Rattle.std.proofs.Common.{arith, ◌≤◌, ◌≡◌, ℕ, List, ap, ◌∙◌, sym, subst, Option, None, Result, Ok, Err}
use Rattle.std.specs.Prelude.{IfErr, IfOk}
use Rattle.scfs_base.specs.Limits.{events_limit}
use Rattle.scfs_policy.specs.declared.rank.RankFacts.{RankFacts}
use Rattle.scfs_schedule.specs.declared.types.Event.{Event}
use Rattle.scfs_schedule.specs.declared.types.Header.{Header}
use Rattle.scfs_model.specs.History.{History}
use Rattle.scfs_model.specs.UnitFormat.{under}
use Rattle.scfs_world.specs.Happening.{IsPlayed, Stands}
use Rattle.scfs_world.specs.State.{WorldState}
use Rattle.scfs_live.specs.Able.{Fits}
use Rattle.scfs_live.specs.Asked.{Told}
use Rattle.scfs_live.specs.Drives.{Ends, Going}
use Rattle.scfs_live.specs.Driving.{Driver, begins_with}
use Rattle.scfs_live.specs.declared.ending.LiveEnd.{LiveEnd}
use Rattle.scfs_live.specs.declared.ending.LiveEnd.TheVariants as ends
use Rattle.scfs_live.proofs.FitsLemmas.{settling_fits}
use Rattle.scfs_live.proofs.GoingLemmas.{going_none, none_wanting}

-- how it begins: nothing is done yet
abbrev Settles : WorldState → Result (WorldState × Driver) LiveEnd → Type 0
Settles world result = IfOk result (λ begun. (begun.0 ≡ world) × (begun.1 ≡ begins_with (under world.header) None))

pub none_fits : (world : WorldState) (result : Result (WorldState × Driver) LiveEnd) → Settles world result → IfOk result (λ begun. Fits world.header begun.1)
none_fits world (Ok begun) is = subst (λ (d : Driver). Fits world.header d) (sym is.1) (settling_fits world.header)
none_fits world (Err end) is = tt

module _ (allows : RankFacts → ℕ → Type 0) (world : WorldState) (given : Option Event) (none : given ≡ None) (j o : Option (List ℕ)) where
  pub none_begun : world.events ≤ events_limit → (result : Result (WorldState × Driver) LiveEnd) → Settles world result → IfOk result (λ begun. (header : Header) (past : History) (clouds : List Told)
      → Stands world header past → IsPlayed allows header past → Going allows header given past begun.0 begun.1 j j o o clouds clouds)
  none_begun room (Ok begun) is = λ header past clouds stands plays.
      let driver : begun.1 ≡ begins_with (under header) None = is.1 ∙ ap (λ (h : Header). begins_with (under h) None) stands.by_header in
      subst (λ (e : Option Event). Going allows header e past begun.0 begun.1 j j o o clouds clouds) (sym none)
      (subst (λ (d : Driver). Going allows header None past begun.0 d j j o o clouds clouds) (sym driver)
      (subst (λ (w : WorldState). Going allows header None past w (begins_with (under header) None) j j o o clouds clouds) (sym is.0)
      (going_none allows header None past world j o clouds stands plays (omega (arith, stands.count, room)))))
  none_begun room (Err end) is = tt

  pub none_ended : world.events ≤ events_limit → (result : Result (WorldState × Driver) LiveEnd) → IfErr result (λ end. end ≡ ends.Memory) → IfErr result (λ end. (header : Header) (past : History)
      (clouds : List Told) → Stands world header past → IsPlayed allows header past → Ends allows end header given past j j o o clouds clouds)
  none_ended room (Ok begun) is = tt
  none_ended room (Err end) is = λ header past clouds stands plays.
      subst (λ (e : Option Event). Ends allows end header e past j j o o clouds clouds) (sym none)
      (subst (λ (e : LiveEnd). Ends allows e header None past j j o o clouds clouds) (sym is) (none_wanting allows header past plays j o clouds (omega (arith, stands.count, room))))
