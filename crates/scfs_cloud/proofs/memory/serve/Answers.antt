use Rattle.scfs_cloud.proofs.StoreLemmas.{ordered_settled, whole_served}
use Rattle.scfs_cloud.proofs.memory.serve.Goals as goal

pub returns-clause-ordered : goal.returns-clause-ordered
returns-clause-ordered c =
    ordered_settled c.args.store.now c.settle.new.self c.args.request.now c.in_ok-copy.field-0 c.in_ok-answer.answer
    c.requires c.in_ok-settle.ensures.ok c.in_ok-copy.ensures c.in_ok-answer.ensures

pub returns-clause-whole : goal.returns-clause-whole
returns-clause-whole c = whole_served c.args.store.now c.args.request.now c.in_ok-answer.answer c.requires c.in_ok-answer.ensures
