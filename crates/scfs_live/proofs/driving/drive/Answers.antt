use Rattle.std.proofs.Common.{◌∙◌, arith, List, [], None, refl, subst, sym}
use Rattle.std.specs.Option.{option_copied}
use Rattle.std.specs.Prelude.{map}
use Rattle.scfs_schedule.specs.declared.types.Header.{Header}
use Rattle.scfs_live.specs.Able.{Fits}
use Rattle.scfs_live.specs.Asked.{Told, told}
use Rattle.scfs_live.proofs.DriveLemmas.{drive_came, drive_on, drive_settled, drive_wanting, given_fine}
use Rattle.scfs_live.proofs.driving.drive.Goals as goal

pub events-init : goal.events-init
events-init g c =
    let cloud = g.C.Cloud in
    let tolds : List Told = map (λ (x : g.row.C.Denot). told (cloud.faults x) (cloud.log x) (cloud.store x)) c.args.clouds.now in
    let b = c.in-Ok.ensures in
    record {
      going = λ header past stands played. b.begun header past tolds stands played;
      world = b.world.0;
      header = b.world.1;
      few = b.world.2;
      fits = subst (λ (h : Header). Fits h c.in-Ok.begun.1) (sym b.world.1) b.driver;
      clouds = refl;
      journal_later = b.causes.journal_later;
      out_later = b.causes.out_later;
    }

pub returns-in_default-clause-ends : goal.returns-in_default-clause-ends
returns-in_default-clause-ends g c = λ header past stands played.
    drive_wanting _ header (option_copied c.args.event) past _ _ _ _ _ _ _ _ (c.events.invariant.going header past stands played)

pub returns-in_default-found-clause-drives : goal.returns-in_default-found-clause-drives
returns-in_default-found-clause-drives g c = λ header past stands played.
    drive_settled c.events.world c.events.driver c.next.new.self c.in-Ok-next.found c.in-Ok-next.ensures _ header (option_copied c.args.event) past _ _ None _ _ None _ _ []
    (c.events.invariant.going header past stands played) c.in_default-found.is

pub advance-requires-clause-next : goal.advance-requires-clause-next
advance-requires-clause-next g c =
    (given_fine c.events.world c.events.driver c.next.new.self c.in-Ok-next.found c.in-Ok-next.ensures c.events.invariant.fits c.in-Some.next c.in-Some.is).0

pub events-preserved : goal.events-preserved
events-preserved g c =
    let i = c.events.invariant in
    let found = c.in-Ok-next.found in
    let next = c.in-Some.next in
    let made = c.in-Ok-advance.ensures in
    record {
      going = λ header past stands played.
          let old = i.going header past stands played in
          drive_on c.events.world c.events.driver c.next.new.self found c.in-Ok-next.ensures _ header (option_copied c.args.event) past _ _ _ _ _ _ _ _ _ old
          i.fits next c.in-Some.is c.in-Ok-advance.after (made.advanced header _ old.stands old.drove.plays);
      world = made.world.0;
      header = made.world.1 ∙ i.header;
      few = made.few;
      fits =
          subst (λ (h : Header). Fits h c.next.new.self) (sym made.world.1)
          (given_fine c.events.world c.events.driver c.next.new.self found c.in-Ok-next.ensures i.fits next c.in-Some.is).2;
      clouds = c.advance.ensures.clouds ∙ i.clouds;
      journal_later = omega (arith, i.journal_later, c.advance.ensures.causes.journal_later);
      out_later = omega (arith, i.out_later, c.advance.ensures.causes.out_later);
    }

pub returns-in-Err-advance-clause-ends : goal.returns-in-Err-advance-clause-ends
returns-in-Err-advance-clause-ends g c = λ header past stands played.
    let i = c.events.invariant in
    let old = i.going header past stands played in
    drive_came c.events.world c.events.driver c.next.new.self c.in-Ok-next.found c.in-Ok-next.ensures _ header (option_copied c.args.event) past _ _ _ _ _ _ _ _ _ old
    i.fits c.in-Some.next c.in-Some.is c.in-Err-advance.end (c.in-Err-advance.ensures.advanced header _ old.stands old.drove.plays)
