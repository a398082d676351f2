use Rattle.std.proofs.Common.{◌≡◌, ◌∙◌}
use Rattle.scfs_anchor.proofs.NameLemmas.{text_test}
use Rattle.scfs_anchor.proofs.path.is_text.Goals as goal

pub returns : goal.returns
returns c = c.is_ok.ensures.value ∙ text_test c.from_utf8.result c.args.bytes.now (λ text. text.now ≡ c.args.bytes.now) _ c.from_utf8.ensures.cases
