use Rattle.std.proofs.Common.{◌≡◌, ap, subst, arith, List, ℕ, Option, Some}
use Rattle.std.specs.Fmt.{DisplaysOnOk, styled_digits_output}
use Rattle.scfs_base.specs.Words.{hex_pair}
use Rattle.scfs_schedule.proofs.SpellingLemmas.{pair_text}
use Rattle.scfs_schedule.proofs.spelling.HexPairDisplay.fmt.Goals as goal

pub returns-clause-writes : goal.returns-clause-writes
returns-clause-writes g c =
    let byte = c.args.self.now.0 in
    let output : styled_digits_output c.in_radix.result c.laid_out.result ≡ Some (hex_pair byte) =
    rw (c.laid_out.ensures, c.in_radix.ensures) (ap (λ (t : List ℕ). Some t) (pair_text byte (omega arith))) in
    subst (λ (o : Option (List ℕ)). DisplaysOnOk g.W.Write.write_str_gives c.args.f.now c.write.result o c.write.new.self) output c.write.ensures.writes
