use Rattle.std.proofs.Common.{arith, take, ◌++◌}
use Rattle.scfs_top.proofs.EdgeLemmas.{puts_then, rest_parts}
use Rattle.scfs_top.proofs.edges.write_all.Goals as goal

pub pieces-preserved : goal.pieces-preserved
pieces-preserved g c =
    let written = g.O.Sink.written in
    let old = c.pieces.invariant.written in
    let put = c.in_ok-count.ensures.bytes in
    record {
      written = (
        old.0 ++ take c.in_ok-count.count c.pieces.rest.now,
        rest_parts c.args.piece.now old.0 c.pieces.rest.now c.in_ok-count.count old.1,
        puts_then (written c.args.out.now) (written c.pieces.out) (written c.write.new.self) old.0 (take c.in_ok-count.count c.pieces.rest.now) old.2 put.2,
      );
      later = omega (arith, c.write.ensures.cause.later, c.pieces.invariant.later);
    }
