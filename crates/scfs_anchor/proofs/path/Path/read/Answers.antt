use Rattle.std.proofs.Common.{◌≡◌, [], false, sym, ◌∙◌, Some, arith}
use Rattle.std.specs.Prelude.{codes}
use Rattle.std.specs.Str.{bytes_eq}
use Rattle.std.proofs.lemmas.Grind.{common_steps}
use Rattle.scfs_base.specs.Pieces.{pieces}
use Rattle.scfs_anchor.specs.Names.{if_names}
use Rattle.scfs_anchor.proofs.NameLemmas.{reads_names}
use Rattle.scfs_anchor.proofs.path.Path.read.Goals as goal

pub returns-in-Some-2 : goal.returns-in-Some-2
returns-in-Some-2 c =
    let other : bytes_eq c.args.bytes.now (codes "/") ≡ false = grind (arith, common_steps) in
    let none : c.in-Some.before.now ≡ [] = grind (arith, common_steps) in
    let found : Some c.in-Some-2.names ≡ if_names (pieces 47 c.in-Some.text.now) = sym c.in-Some-2.is ∙ c.in_ok-names_in.ensures in
    found ∙ sym (reads_names c.args.bytes.now c.in-Some.before.now c.in-Some.text.now other c.in-Some.ensures.alone none)
