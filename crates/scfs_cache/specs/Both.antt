use Rattle.std.specs.Prelude.{ℕ, List}
use Rattle.scfs_cache.specs.declared.kept_answers.KeptStat.{KeptStat}
use Rattle.scfs_cache.specs.Kept.{Answers}

-- the answers that an agent keeps, of both kinds
pub record BothKinds : Type 0 where
  pub stats : Answers KeptStat
  pub lists : Answers (List (List ℕ))
