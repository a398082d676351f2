use Rattle.std.proofs.Common.{◌≡◌, ℕ, ◌+◌, ◌*◌, ◌<◌, refl, ap, ◌∙◌, sym, subst}
use Rattle.std.proofs.lemmas.List.Elements.{All-same}
use Rattle.scfs_quorum_write.specs.Acks.{no_acks}
use Rattle.scfs_base.specs.declared.naming.UploadNo.{UploadNo}
use Rattle.scfs_model.specs.Format.{sealed}
use Rattle.scfs_model.specs.Lists.{below}
use Rattle.scfs_model.specs.Layers.{rows}
use Rattle.scfs_model.specs.Names.{upload_no}
use Rattle.scfs_agent.specs.State.{AgentState, setup}
use Rattle.scfs_agent.specs.Asking.{MayClose}
use Rattle.scfs_agent.specs.Views.{left_session, row_of}
use Rattle.scfs_agent.proofs.AckLemmas.{upload_first}
use Rattle.scfs_agent.proofs.CloudLists.{all_below}
use Rattle.scfs_agent.proofs.HandingLemmas.{gives_by, after_by, begun_gives, begun_after}
use Rattle.scfs_agent.proofs.agent.Agent.begin.Goals as goal

pub ask_puts-requires-clause-upload : goal.ask_puts-requires-clause-upload
ask_puts-requires-clause-upload c =
    upload_first _ _ _ _ _ c.in_ok-new.ensures refl
    (subst (λ (a : AgentState). MayClose a.no a.agent.incarnation (row_of c.row_from-row.result)) (sym c.self.view_is) c.row_from-row.ensures.closes)

pub ask_puts-requires-clause-clouds : goal.ask_puts-requires-clause-clouds
ask_puts-requires-clause-clouds c =
    let f = c.self.inside.header.f in
    All-same (λ (d : ℕ). d < 3 * f + 1) c.as_slice.result.now _ (c.as_slice.ensures ∙ c.in_ok-clouds.ensures) (all_below (3 * f + 1))

pub returns-clause-gives : goal.returns-clause-gives
returns-clause-gives c =
    let old = c.args.self.now in
    let uploads : c.self.inside.uploads ≡ old.agent.uploads = ap (λ (a : AgentState). a.agent.uploads) c.self.view_is in
    let f : c.self.inside.header.f ≡ old.header.f = ap (λ (a : AgentState). a.header.f) c.self.view_is in
    let no : ℕ → UploadNo = λ (k : ℕ). upload_no old.no old.agent.incarnation (k + 1) in
    gives_by c.ask_puts.result _ _
    (begun_gives old _ c.self.view_is c.args.session c.args.left c.row_from-row.result c.in_ok-unit.unit c.new.result c.in_ok-new.field-0
    c.as_slice.result.now
    (c.in_ok-unit.ensures ∙ ap (λ (k : ℕ). sealed (setup old) (no k) c.args.left.contents) uploads)
    (c.row_from-row.ensures.row ∙ ap (λ (k : ℕ). rows.closed (left_session c.args.left) (no k) c.in_ok-unit.unit) uploads)
    c.new.ensures
    (c.in_ok-new.ensures ∙ ap (λ (n : ℕ). no_acks n 1) f)
    (c.as_slice.ensures ∙ c.in_ok-clouds.ensures ∙ ap (λ (n : ℕ). below (3 * n + 1)) f))
    c.ask_puts.ensures.gives

pub returns-clause-after : goal.returns-clause-after
returns-clause-after c =
    let old = c.args.self.now in
    let uploads : c.self.inside.uploads ≡ old.agent.uploads = ap (λ (a : AgentState). a.agent.uploads) c.self.view_is in
    let f : c.self.inside.header.f ≡ old.header.f = ap (λ (a : AgentState). a.header.f) c.self.view_is in
    let no : ℕ → UploadNo = λ (k : ℕ). upload_no old.no old.agent.incarnation (k + 1) in
    after_by c.ask_puts.result _ _ _
    (begun_after old _ c.self.view_is c.args.session c.args.left c.row_from-row.result c.in_ok-unit.unit c.new.result c.in_ok-new.field-0
    c.as_slice.result.now
    (c.in_ok-unit.ensures ∙ ap (λ (k : ℕ). sealed (setup old) (no k) c.args.left.contents) uploads)
    (c.row_from-row.ensures.row ∙ ap (λ (k : ℕ). rows.closed (left_session c.args.left) (no k) c.in_ok-unit.unit) uploads)
    c.new.ensures
    (c.in_ok-new.ensures ∙ ap (λ (n : ℕ). no_acks n 1) f)
    (c.as_slice.ensures ∙ c.in_ok-clouds.ensures ∙ ap (λ (n : ℕ). below (3 * n + 1)) f))
    c.ask_puts.ensures.after
