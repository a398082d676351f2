use Rattle.std.specs.Prelude.{◌<◌, ◌^◌, ◌+◌, ℕ, Option, Some, None}
use Rattle.scfs_anchor.specs.Tree.{Each}
use Rattle.scfs_anchor.specs.Holding.{IsRequest, IsAskable, IsClosing}
use Rattle.scfs_model.specs.Names.{request_no}
use Rattle.scfs_model.specs.Layers.{Row}
use Rattle.scfs_model.specs.Agents.{Agent, Closed, Upload, Request}

-- Each step that an agent asks is one that the space serves as the machine does.

-- a step that can be asked, under a number that fits
abbrev pub CanBeAsked : Request Row → Type 0
CanBeAsked x = IsRequest x.number × IsAskable x.number x.step

-- agent a may ask, in this incarnation, that this version be completed
abbrev pub MayClose : (a incarnation : ℕ) → Row → Type 0
MayClose a incarnation v = (number : ℕ) → IsClosing (request_no a incarnation number) v

-- the version that an upload stores
abbrev pub MayUpload : (a incarnation : ℕ) → Option (Upload Row) → Type 0
MayUpload a incarnation None = Unit {0}
MayUpload a incarnation (Some u) = MayClose a incarnation u.version

-- what agent a draws next fits, and so do the versions that it uploads
pub record MayAsk (a : ℕ) (agent : Agent Row) : Type 0 where
  pub number : a < 2 ^ 8
  pub incarnation : agent.incarnation + 1 < 2 ^ 24
  pub opens : agent.opens + 1 < 2 ^ 64
  pub files : agent.files + 1 < 2 ^ 32
  pub closes : Each (λ (x : Closed Row). MayUpload a agent.incarnation x.upload) agent.closed
