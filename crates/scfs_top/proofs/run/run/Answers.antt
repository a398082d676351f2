use Rattle.std.proofs.Common.{◌≤◌, ◌+◌, ◌++◌, ℕ, Option, Err, refl, sym, ap, ◌∙◌, subst, inl, inr, arith, length}
use Rattle.std.proofs.lemmas.List.{length-map}
use Rattle.std.specs.Prelude.{IfSome}
use Rattle.scfs_base.specs.Limits.{events_limit}
use Rattle.scfs_policy.specs.declared.rank.RankFacts.{RankFacts}
use Rattle.scfs_schedule.specs.declared.types.Event.{Event}
use Rattle.scfs_schedule.specs.declared.types.Header.{Header}
use Rattle.scfs_schedule.specs.declared.types.Which.TheVariants as whichs
use Rattle.scfs_model.specs.UnitFormat.{under}
use Rattle.scfs_live.specs.Able.{CanBeGiven}
use Rattle.scfs_live.specs.Asked.{told}
use Rattle.scfs_live.specs.Driving.{begins_with}
use Rattle.scfs_live.specs.Reopening.{unwalked}
use Rattle.scfs_live.specs.declared.ending.LiveEnd.TheVariants as lives
use Rattle.scfs_top.specs.declared.stopping.RunEnd.{RunEnd}
use Rattle.scfs_top.specs.declared.stopping.RunEnd.TheVariants as runs
use Rattle.scfs_top.specs.Scripting.{script_of}
use Rattle.scfs_top.specs.Underway.{EndsScript}
use Rattle.scfs_top.proofs.StoreLemmas.{StoreLaws, stores_of}
use Rattle.scfs_top.proofs.UnderwayLemmas.{begins, counts_on, drove_on, drove_to, ended, fewer, given_next, known_of, one_if_none, reads_open, rose_since, runs_on, same_why, states, walk_few}
use Rattle.scfs_top.proofs.run.run.Goals as goal

pub returns-in-Err-reopen-clause-runs : goal.returns-in-Err-reopen-clause-runs
returns-in-Err-reopen-clause-runs g c =
    let read = c.in-Ok.ensures.reads in
    let reopen = c.in-Err-reopen.ensures in
    record {
      taken = read.0.taken;
      reads = reads_open _ _ _ _ _ read.0;
      comes = inr (inl (record {
        header = c.in-Ok.header;
        why = c.in-Err-reopen.why;
        is = refl;
        stated = states _ _ _ _ _ read.0;
        pace = read.1;
        reopening = reopen.ends;
        known = λ lines place again.
            known_of _ c.in-Ok.header place.past c.runs_without_clash.ensures c.reads_are_held.ensures c.opens_are_newest.ensures.made c.versions_stay_safe.ensures c.in-Ok.ensures.header.0
            (walk_few c.in-Ok.header (unwalked c.in-Ok.header) lines place again.walks (omega arith)) again.plays;
        read_failed = reopen.read_fault;
        write_failed = reopen.write_fault;
        out_stays = refl;
        clouds_stay = refl;
      }));
    }

pub events-init : goal.events-init
events-init g c =
    let read = c.in-Ok.ensures.reads in
    let reopens = c.in-Ok-reopen.ensures.reopens in
    record {
      header = c.in-Ok.header;
      text = reopens.taken;
      place = reopens.place;
      reads = reopens.reads;
      filled_in = reopens.wrote;
      behind = begins _ c.in-Ok.header reopens.place.past _ _ _ _ _ _ _ reopens.stands reopens.reads.runs.runs.plays read.0 read.1;
      can = tt;
      is = c.in-Ok.ensures.header.0;
      world = c.in-Ok-reopen.ensures.world;
      few = c.in-Ok-reopen.ensures.room;
      many = c.requires.clouds;
      later_out = omega arith;
      later_journal = c.in-Ok-reopen.ensures.later_writes;
    }

pub drive-requires-clause-event : goal.drive-requires-clause-event
drive-requires-clause-event g c =
    let i = c.events.invariant in
    subst (λ (o : Option Event). IfSome o (CanBeGiven c.events.world.header)) (sym c.as_ref.ensures.value)
    (subst (λ (h : Header). IfSome c.events.given (CanBeGiven h)) (sym i.behind.stands.by_header) i.can)

pub drive-requires-clause-clouds : goal.drive-requires-clause-clouds
drive-requires-clause-clouds g c =
    let i = c.events.invariant in
    let f = c.events.invariant.world.header.f in
    omega (arith, f.1, i.many)

pub returns-in-Err-drive-clause-runs : goal.returns-in-Err-drive-clause-runs
returns-in-Err-drive-clause-runs g c =
    let i = c.events.invariant in
    let on = c.in-Err-drive.ensures in
    let allows : RankFacts → ℕ → Type 0 = λ facts rank. g.R.Fn.post c.args.rank.now (facts, tt) rank in
    let ends = on.ends i.header (i.behind.new ++ i.place.past) i.behind.stands i.behind.plays in
    let e = drove_to allows i.header i.place.past c.events.world _ c.events.intake _ _ _ _ _ _ _ _ i.behind _ c.in-Err-drive.why _ _ _
    (ap (begins_with (under i.header)) (sym c.as_ref.ensures.value)) ends in
    let known = known_of allows i.header (e.new ++ i.place.past) c.runs_without_clash.ensures c.reads_are_held.ensures c.opens_are_newest.ensures.made c.versions_stay_safe.ensures i.is e.few e.plays in
    let laws : StoreLaws = record {
      names = c.stored_names_are_uploads.ensures;
      serving = c.serving_is_faithful.ensures.serves;
      keeps = c.stores_keep_step.ensures.keeps;
      comes = c.stores_keep_step.ensures.comes;
      stays = c.stores_keep_step.ensures.stays;
      once_more = c.stores_keep_step.ensures.once_more;
    } in
    let stores = stores_of laws allows i.header i.place.past i.behind.script.taken _ _ _ _ _ _ (runs.Stopped c.in-Err-drive.why) i.is e in
    record {
      taken = i.behind.script.taken;
      reads = reads_open _ _ _ _ _ i.behind.script;
      comes = inr (inr (runs_on allows _ _ _ _ _ _ _ _ i.header i.text i.place _ i.behind.script.taken (runs.Stopped c.in-Err-drive.why) i.reads i.filled_in e known stores
          (λ h. rose_since _ _ _ i.later_journal (on.causes.journal_failed (ap Err (same_why c.in-Err-drive.why (lives.WriteFault whichs.Journal) h))))
          (λ h. rose_since _ _ _ i.later_out (on.causes.out_failed (ap Err (same_why c.in-Err-drive.why (lives.WriteFault whichs.Out) h))))));
    }

pub next_event-requires : goal.next_event-requires
next_event-requires g c = let i = c.events.invariant in record { begun = (i.header, i.behind.script.place) }

pub events-smaller : goal.events-smaller
events-smaller g c =
    let i = c.events.invariant in
    let d = c.in-Ok-drive.ensures.drives i.header (i.behind.new ++ i.place.past) i.behind.stands i.behind.plays in
    let more = counts_on _ i.header _ (i.behind.new ++ i.place.past) c.events.world.events c.in-Ok-drive.after _ _ _ _ _ _ d i.behind.stands.count in
    fewer c.events.world.events c.in-Ok-drive.after.events (one_if_none c.events.given) i.few c.in-Ok-drive.ensures.world.2
    (subst (λ (o : Option Event). c.events.world.events + 1 ≤ c.in-Ok-drive.after.events + one_if_none o) c.as_ref.ensures.value more)

pub events-preserved : goal.events-preserved
events-preserved g c =
    let i = c.events.invariant in
    let allows : RankFacts → ℕ → Type 0 = λ facts rank. g.R.Fn.post c.args.rank.now (facts, tt) rank in
    let d = c.in-Ok-drive.ensures.drives i.header (i.behind.new ++ i.place.past) i.behind.stands i.behind.plays in
    let on = drove_on allows i.header i.place.past c.events.world _ c.events.intake _ _ _ _ _ _ _ _ i.behind _ c.in-Ok-drive.after _ _ _
    (ap (begins_with (under i.header)) (sym c.as_ref.ensures.value)) d in
    let gives = c.in-Ok-next_event.ensures.gives _ i.header on.0.done on.0.script in
    let causes = c.in-Ok-drive.ensures.causes in
    record {
      header = i.header;
      text = i.text;
      place = i.place;
      reads = i.reads;
      filled_in = i.filled_in;
      behind = given_next allows i.header i.place.past c.in-Ok-drive.after d.driver c.events.intake _ _ _ _ _ _ _ _ on.0 on.2 _ c.next_event.new.intake
          c.events-in-events.result c.in-Ok-next_event.event gives;
      can = gives.2;
      is = i.is;
      world = c.in-Ok-drive.ensures.world.0;
      few = c.in-Ok-drive.ensures.world.2;
      many = omega (arith, c.requires.clouds, on.0.asked.same, length-map c.drive.new.clouds (λ x. told (g.C.Cloud.faults x) (g.C.Cloud.log x) (g.C.Cloud.store x)), length-map c.args.clouds.now (λ x. told (g.C.Cloud.faults x) (g.C.Cloud.log x) (g.C.Cloud.store x)));
      later_out = omega (arith, i.later_out, causes.out_later);
      later_journal = omega (arith, i.later_journal, causes.journal_later);
    }

pub returns-in-Err-next_event-clause-runs : goal.returns-in-Err-next_event-clause-runs
returns-in-Err-next_event-clause-runs g c =
    let i = c.events.invariant in
    let allows : RankFacts → ℕ → Type 0 = λ facts rank. g.R.Fn.post c.args.rank.now (facts, tt) rank in
    let d = c.in-Ok-drive.ensures.drives i.header (i.behind.new ++ i.place.past) i.behind.stands i.behind.plays in
    let on = drove_on allows i.header i.place.past c.events.world _ c.events.intake _ _ _ _ _ _ _ _ i.behind _ c.in-Ok-drive.after _ _ _
    (ap (begins_with (under i.header)) (sym c.as_ref.ensures.value)) d in
    let gives = c.in-Err-next_event.ensures.gives _ i.header on.0.done on.0.script in
    let end = c.in-Err-next_event.end in
    let few : length (on.0.new ++ i.place.past) ≤ events_limit = omega (arith, on.0.stands.count, c.in-Ok-drive.ensures.world.2) in
    let e = ended allows i.header i.place.past c.in-Ok-drive.after d.driver c.events.intake _ _ _ _ _ _ _ _ on.0 on.2 c.events-in-events.result end gives.0
    (c.events-in-events.ensures ∙ on.0.stands.count) few gives.2 gives.3 in
    let known = known_of allows i.header (e.new ++ i.place.past) c.runs_without_clash.ensures c.reads_are_held.ensures c.opens_are_newest.ensures.made c.versions_stay_safe.ensures i.is e.few e.plays in
    let laws : StoreLaws = record {
      names = c.stored_names_are_uploads.ensures;
      serving = c.serving_is_faithful.ensures.serves;
      keeps = c.stores_keep_step.ensures.keeps;
      comes = c.stores_keep_step.ensures.comes;
      stays = c.stores_keep_step.ensures.stays;
      once_more = c.stores_keep_step.ensures.once_more;
    } in
    let stores = stores_of laws allows i.header i.place.past gives.0 _ _ _ _ _ _ end i.is e in
    record {
      taken = gives.0;
      reads = gives.1;
      comes = inr (inr (runs_on allows _ _ _ _ _ _ _ _ i.header i.text i.place _ gives.0 end i.reads i.filled_in e known stores
          (λ h. absurd (subst (λ (x : RunEnd). EndsScript x i.header on.0.done c.events-in-events.result (script_of gives.0)) h gives.3))
          (λ h. absurd (subst (λ (x : RunEnd). EndsScript x i.header on.0.done c.events-in-events.result (script_of gives.0)) h gives.3))));
    }
