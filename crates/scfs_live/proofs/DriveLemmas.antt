-- The loop of a drive.
use Rattle.std.proofs.Common.{inl, ◌≡◌, ℕ, List, ◌++◌, ap, ◌∙◌, sym, subst, Option, Some, None, Ok, Err}
use Rattle.scfs_policy.specs.declared.rank.RankFacts.{RankFacts}
use Rattle.scfs_schedule.specs.declared.types.Event.{Event}
use Rattle.scfs_schedule.specs.declared.types.Header.{Header}
use Rattle.scfs_model.specs.History.{History}
use Rattle.scfs_model.specs.UnitFormat.{under}
use Rattle.scfs_world.specs.Happening.{Stands}
use Rattle.scfs_world.specs.State.{WorldState}
use Rattle.scfs_live.specs.Able.{Fits}
use Rattle.scfs_live.specs.Asked.{Told}
use Rattle.scfs_live.specs.Drives.{Drives, Ends, Going}
use Rattle.scfs_live.specs.Driving.{Driver, next_within}
use Rattle.scfs_live.specs.Given.{GivesNext}
use Rattle.scfs_live.specs.Turning.{Advanced}
use Rattle.scfs_live.specs.Waits.{Waits, waits_after, waits_in}
use Rattle.scfs_live.specs.declared.driver.Next.{Next}
use Rattle.scfs_live.specs.declared.ending.LiveEnd.{LiveEnd}
use Rattle.scfs_live.specs.declared.ending.LiveEnd.TheVariants as ends
use Rattle.scfs_live.proofs.FitsLemmas.{FineNext, next_fits}
use Rattle.scfs_live.proofs.GoingLemmas.{came_to, went_on}
use Rattle.scfs_live.proofs.WaitsLemmas.{waits_stand}

-- memory was wanting for what comes next
pub drive_wanting : (allows : RankFacts → ℕ → Type 0) (header : Header) (given : Option Event) (past : History) (world : WorldState) (driver : Driver)
    (j j1 o o1 : Option (List ℕ)) (before mid : List Told) → Going allows header given past world driver j j1 o o1 before mid
    → Ends allows ends.Memory header given past j j1 o o1 before mid
drive_wanting allows header given past world driver j j1 o o1 before mid going = record {
  new = going.new;
  after = driver;
  drove = going.drove;
  wrote = going.wrote;
  stops = inl going.asked;
}

module _ (world : WorldState) (driver after : Driver) (found : Option Next)
    (gives : GivesNext (next_within (under world.header) (waits_in world) driver) found after) where
  -- what comes next in a world that stands for a history comes next after that history
  due_after : (header : Header) (past : History) (due : Option (Next × Driver)) → Stands world header past
      → next_within (under world.header) (waits_in world) driver ≡ due → next_within (under header) (waits_after (under header) past) driver ≡ due
  due_after header past due stands is =
      ap (λ (w : Waits). next_within (under header) w driver) (sym (waits_stand world header past stands))
      ∙ ap (λ (h : Header). next_within (under h) (waits_in world) driver) (sym stands.by_header) ∙ is

  given_is : (next : Next) → found ≡ Some next → next_within (under world.header) (waits_in world) driver ≡ Some (next, after)
  given_is next is = subst (λ (f : Option Next). GivesNext (next_within (under world.header) (waits_in world) driver) f after) is gives

  given_none : found ≡ None → next_within (under world.header) (waits_in world) driver ≡ None
  given_none is = subst (λ (f : Option Next). GivesNext (next_within (under world.header) (waits_in world) driver) f after) is gives

  pub given_fine : Fits world.header driver → (next : Next) → found ≡ Some next → FineNext world.header (waits_in world) (next, after)
  given_fine fits next is = next_fits world.header (waits_in world) driver fits (next, after) (given_is next is)

  module _ (allows : RankFacts → ℕ → Type 0) (header : Header) (given : Option Event) (past : History) (j j1 j2 o o1 o2 : Option (List ℕ))
      (before mid now : List Told) (going : Going allows header given past world driver j j1 o o1 before mid) where
    pub drive_settled : found ≡ None → Drives allows header given past world j j1 o o1 before mid
    drive_settled is = record {
      driver = driver;
      going = going;
      settled = due_after header (going.new ++ past) None going.stands (given_none is);
    }

    pub drive_on : Fits world.header driver → (next : Next) → found ≡ Some next → (world' : WorldState)
        → Advanced allows header (going.new ++ past) next mid now j1 j2 o1 o2 (Ok world') → Going allows header given past world' after j j2 o o2 before now
    drive_on fits next is world' advanced =
        went_on allows header given past going.new driver after next going.drove
        (due_after header (going.new ++ past) (Some (next, after)) going.stands (given_is next is)) (given_fine fits next is).1
        j j1 j2 o o1 o2 going.wrote before mid now going.asked world' advanced

    pub drive_came : Fits world.header driver → (next : Next) → found ≡ Some next → (end : LiveEnd)
        → Advanced allows header (going.new ++ past) next mid now j1 j2 o1 o2 (Err end) → Ends allows end header given past j j2 o o2 before now
    drive_came fits next is end advanced =
        came_to allows header given past going.new driver after next going.drove
        (due_after header (going.new ++ past) (Some (next, after)) going.stands (given_is next is)) (given_fine fits next is).1
        j j1 j2 o o1 o2 going.wrote before mid now going.asked end advanced
