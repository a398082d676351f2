use Rattle.std.proofs.Common.{◌≡◌, ◌≤◌, ◌++◌, length}
use Rattle.std.specs.List.{All}
use Rattle.scfs_base.specs.Limits.{carried_limit}
use Rattle.scfs_model.specs.UnitFormat.{under}
use Rattle.scfs_schedule.specs.declared.types.Header.{Header}
use Rattle.scfs_world.specs.Doing.{AsksAmong, lines_out, steps_out, net_with}
use Rattle.scfs_world.proofs.doing.do_outputs.Given as goal

abbrev pub invariant-each : goal.invariant-each
invariant-each l =
    record {
      among : All (AsksAmong (length l.net.clouds)) l.outputs;
      carried : l.net.carried ≤ carried_limit;
      net : net_with l.fn.net l.fn.outputs ≡ net_with l.net l.outputs;
      lines : (header : Header) → l.fn.lines ++ lines_out (under header) l.fn.outputs ≡ l.lines ++ lines_out (under header) l.outputs;
      asked : l.fn.asked.items ++ steps_out l.fn.outputs ≡ l.asked.items ++ steps_out l.outputs;
    }

abbrev pub decreases-each : goal.decreases-each
decreases-each l = length l.outputs
