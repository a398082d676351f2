use Rattle.std.proofs.Common.{◌≡◌, ap, sym, ◌∙◌, subst, arith, map}
use Rattle.scfs_agent.specs.Keeping.{AreLeases, IsWork, calls_in, calls_of}
use Rattle.scfs_agent.specs.Views.{request_of, waiting_of}
use Rattle.scfs_agent.specs.declared.work.Work.{Work}
use Rattle.scfs_agent.proofs.KeptLemmas.{kept_work, kept_leases, unleased_are}
use Rattle.scfs_agent.proofs.agent.Agent.told_commit.Goals as goal

pub invariant_of-self-in-Upload : goal.invariant_of-self-in-Upload
invariant_of-self-in-Upload c =
    let kept = c.self.invariant in
    let uploads = ap (λ (w : Work). calls_of (waiting_of w)) (sym c.replace.ensures.value ∙ c.in-Upload.is) in
    let none : calls_in (map request_of c.self.inside.pending) ≡ 0 = omega (arith, kept.waits, uploads) in
    kept_leases (kept_work kept _ c.replace.new.dest kept.drawn (subst (IsWork _ _ _ _) (sym c.replace.ensures.after) tt) none) _
    (subst (AreLeases c.self.inside.inputs) (sym c.given_back.ensures) (unleased_are _ c.in-Upload.upload.session _ kept.leased))
