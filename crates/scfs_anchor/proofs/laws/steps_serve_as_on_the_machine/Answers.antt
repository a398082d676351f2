use Rattle.scfs_anchor.proofs.HoldLemmas.{steps_serve_alike}
use Rattle.scfs_anchor.proofs.laws.steps_serve_as_on_the_machine.Goals as goal

pub returns : goal.returns
returns c = steps_serve_alike
