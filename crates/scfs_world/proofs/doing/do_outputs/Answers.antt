use Rattle.std.proofs.Common.{◌≡◌, ◌∷◌, ◌++◌, length, ap, subst, sym, ◌∙◌, arith, append_assoc, append-nil, All}
use Rattle.std.proofs.lemmas.List.Elements.{All-rest}
use Rattle.std.proofs.lemmas.Result.{err_from_is_err_and}
use Rattle.scfs_model.specs.UnitFormat.{under}
use Rattle.scfs_net.specs.Queues.{NetState}
use Rattle.scfs_world.specs.Doing.{AsksAmong, lines_out, line_out, steps_out, step_out, net_with, net_by}
use Rattle.scfs_world.proofs.OutputLemmas.{length-net_by, carried_with}
use Rattle.scfs_world.proofs.doing.do_outputs.Goals as goal

pub each-preserved : goal.each-preserved
each-preserved c =
    let rest = c.pop_front.new.self in
    let output = c.in-Some.output in
    let is : c.each.outputs ≡ output ∷ rest = c.in-Some.ensures in
    let same : length c.each.net.clouds ≡ length c.do_output.new.net.clouds =
    sym (ap (λ (n : NetState). length n.clouds) c.in_ok-do_output.ensures.net ∙ length-net_by c.each.net output) in
    record {
      among = subst (λ k. All (AsksAmong k) rest) same
          (All-rest (AsksAmong (length c.each.net.clouds)) output rest c.each.outputs is c.each.invariant.among);
      carried = c.in_ok-do_output.ensures.carried;
      net = c.each.invariant.net ∙ ap (net_with c.each.net) is ∙ ap (λ n. net_with n rest) (sym c.in_ok-do_output.ensures.net);
      lines = λ header. c.each.invariant.lines header ∙ ap (λ os. c.each.lines ++ lines_out (under header) os) is
          ∙ sym (append_assoc c.each.lines (line_out (under header) output) (lines_out (under header) rest))
          ∙ ap (λ ls. ls ++ lines_out (under header) rest) (sym (c.in_ok-do_output.ensures.lines header));
      asked = c.each.invariant.asked ∙ ap (λ os. c.each.asked.items ++ steps_out os) is
          ∙ sym (append_assoc c.each.asked.items (step_out output) (steps_out rest))
          ∙ ap (λ ls. ls ++ steps_out rest) (sym c.in_ok-do_output.ensures.asked);
    }

pub returns-in_err-do_output-clause-too_large : goal.returns-in_err-do_output-clause-too_large
returns-in_err-do_output-clause-too_large c =
    let rest = c.pop_front.new.self in
    let output = c.in-Some.output in
    let is : c.each.outputs ≡ output ∷ rest = c.in-Some.ensures in
    let net : net_with c.args.net.now c.args.outputs ≡ net_with (net_by c.each.net output) rest =
    c.each.invariant.net ∙ ap (net_with c.each.net) is in
    let p = err_from_is_err_and c.from_residual.result c.from_residual.ensures.1 in
    rw (p.1, p.2) (λ fault.
    omega (arith, c.in_err-do_output.ensures.too_large fault, carried_with (net_by c.each.net output) rest, ap (λ (n : NetState). n.carried) net))

pub returns-clause-lines : goal.returns-clause-lines
returns-clause-lines c = λ header.
    sym (c.each.invariant.lines header ∙ ap (λ os. c.each.lines ++ lines_out (under header) os) c.in_default.ensures.0 ∙ append-nil c.each.lines)
