use Rattle.std.proofs.Common.{refl, ◌+◌, ◌-◌, take, drop, length}
use Rattle.std.proofs.lemmas.List.{take_rest}
use Rattle.scfs_schedule.proofs.LineLemmas.{Found, line_found, line_within, none_found, long_found, long_held}
use Rattle.scfs_schedule.proofs.held.first_line.Goals as goal

pub returns-in-Some-clause-cut : goal.returns-in-Some-clause-cut
returns-in-Some-clause-cut c =
    let held = c.args.held.now in
    line_found held (take (length held - c.args.clear) (drop c.args.clear held)) c.in-Some.front.now c.in-Some.field-0-1.now c.args.clear _
    (record { within = c.requires.within; no_line = c.requires.no_line; behind = take_rest held c.args.clear; cut = c.in-Some.ensures; is = refl })

pub returns-in-Some-clause-within : goal.returns-in-Some-clause-within
returns-in-Some-clause-within c =
    let held = c.args.held.now in
    line_within held (take (length held - c.args.clear) (drop c.args.clear held)) c.in-Some.front.now c.in-Some.field-0-1.now c.args.clear _
    (record { within = c.requires.within; no_line = c.requires.no_line; behind = take_rest held c.args.clear; cut = c.in-Some.ensures; is = refl })

pub returns-in-None-clause-cut : goal.returns-in-None-clause-cut
returns-in-None-clause-cut c =
    none_found c.args.held.now _ c.args.clear c.requires.no_line (take_rest c.args.held.now c.args.clear) c.in-None.ensures

pub returns-in-Some-clause-none_long : goal.returns-in-Some-clause-none_long
returns-in-Some-clause-none_long c = λ long.
    let held = c.args.held.now in
    let found : Found held (take (length held - c.args.clear) (drop c.args.clear held)) c.in-Some.front.now c.in-Some.field-0-1.now c.args.clear (c.args.clear + length c.in-Some.front.now) =
    record { within = c.requires.within; no_line = c.requires.no_line; behind = take_rest held c.args.clear; cut = c.in-Some.ensures; is = refl } in
    long_found held _ _ (line_found held _ _ _ _ _ found) (line_within held _ _ _ _ _ found) long

pub returns-in-None-clause-none_long : goal.returns-in-None-clause-none_long
returns-in-None-clause-none_long c = λ long.
    long_held c.args.held.now (none_found c.args.held.now _ c.args.clear c.requires.no_line (take_rest c.args.held.now c.args.clear) c.in-None.ensures) long
