use Rattle.std.proofs.Common.{◌≤◌, suc, ◌∷◌, length, All, subst, arith}
use Rattle.scfs_base.specs.Limits.{contents_limit}
use Rattle.scfs_upload.specs.declared.closing.Closed.{Closed}
use Rattle.scfs_upload.proofs.queue.UploadQueue.ended.Goals as goal

pub invariant_of-self : goal.invariant_of-self
invariant_of-self c =
    let short : All (λ (it : Closed). length it.contents ≤ contents_limit) (c.in-Some.closed ∷ c.pop_front.new.self.items) =
    subst (All (λ (it : Closed). length it.contents ≤ contents_limit)) c.in-Some.ensures.items c.self.invariant.0 in
    (λ k d below. short (suc k) d (omega arith), λ free. cc)
