use Rattle.std.proofs.Common.{◌≡◌, ◌∙◌}
use Rattle.std.specs.Str.{is_utf8}
use Rattle.std.proofs.lemmas.Result.{IfOk-weaker}
use Rattle.scfs_anchor.specs.Names as anchor
use Rattle.scfs_model.specs.Paths.{names_of}
use Rattle.scfs_agent.proofs.PathLemmas.{names_same}
use Rattle.scfs_agent.proofs.calls.any_path.Goals as goal

pub returns : goal.returns
returns c =
    IfOk-weaker c.read.result (λ path. path ≡ anchor.names_of c.args.bytes.now) (λ path. path ≡ names_of is_utf8 c.args.bytes.now)
    (λ path e. e ∙ names_same c.args.bytes.now) c.read.ensures
