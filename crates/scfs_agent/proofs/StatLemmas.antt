-- The answer of a stat, from the fields that its step bound.
use Rattle.std.proofs.Common.{◌≡◌, ℕ, ◌+◌, ◌-◌, List, [], ◌∷◌, ◌++◌, length, suc, false, refl, ap, ◌∙◌, arith, length-append, slice_get}
use Rattle.scfs_schedule.specs.declared.types.How.TheVariants as hows
use Rattle.scfs_schedule.specs.declared.types.Kind.{Kind}
use Rattle.scfs_schedule.specs.declared.types.Kind.TheVariants as kinds
use Rattle.scfs_schedule.specs.declared.types.Line.{Line}
use Rattle.scfs_schedule.specs.declared.types.Line.TheVariants as lines
use Rattle.scfs_tuples.specs.declared.types.Field.{Field}
use Rattle.scfs_anchor.specs.Fields.{number_at, number_in}
use Rattle.scfs_anchor.specs.Tree.{kind_number}
use Rattle.scfs_model.specs.Tree.{Node}
use Rattle.scfs_agent.specs.Telling.{kind_of, stat_line}
use Rattle.scfs_anchor.specs.StepReplies.{seen_fields}

-- a field behind others
behind : (before rest : List Field) (k : ℕ) → slice_get (before ++ rest) (length before + k) ≡ slice_get rest k
behind [] rest k = let same : 0 + k ≡ k = omega arith in ap (slice_get rest) same
behind (b ∷ before) rest k =
    let same : suc (length before) + k ≡ suc (length before + k) = omega arith in
    ap (slice_get (b ∷ before ++ rest)) same ∙ behind before rest k

four_behind : (before : List Field) (f g h k : Field) → length (before ++ f ∷ g ∷ h ∷ k ∷ []) - 4 ≡ length before
four_behind before f g h k = simp length-append (omega arith)

kind_read : (kind : Kind) → kind_of (kind_number kind) ≡ kind
kind_read kinds.Dir = refl
kind_read kinds.File = refl

-- the node that a stat showed is in its answer
pub stat_read : (a : ℕ) (before : List Field) (n : Node) → stat_line a false (before ++ seen_fields n)
    ≡ lines.OkStat a n.kind n.id n.newest n.size hows.Fresh
stat_read a before n =
    let bound = before ++ seen_fields n in
    let line : ℕ → ℕ → ℕ → ℕ → Line = λ id kind newest size. lines.OkStat a (kind_of kind) (record { 0 = id }) newest size hows.Fresh in
    let at : ℕ → Line = λ k. line (number_at bound k) (number_at bound (k + 1)) (number_at bound (k + 2)) (number_at bound (k + 3)) in
    let end = length before in
    let field : (k : ℕ) → number_at bound (end + k) ≡ number_in (slice_get (seen_fields n) k) = λ k. ap number_in (behind before (seen_fields n) k) in
    let none : end ≡ end + 0 = omega arith in
    ap at (four_behind before _ _ _ _)
    ∙ ap (λ id. line id (number_at bound (end + 1)) (number_at bound (end + 2)) (number_at bound (end + 3))) (ap (number_at bound) none ∙ field 0)
    ∙ ap (λ kind. line n.id.0 kind (number_at bound (end + 2)) (number_at bound (end + 3))) (field 1)
    ∙ ap (λ newest. line n.id.0 (kind_number n.kind) newest (number_at bound (end + 3))) (field 2)
    ∙ ap (λ size. line n.id.0 (kind_number n.kind) n.newest size) (field 3)
    ∙ ap (λ kind. lines.OkStat a kind n.id n.newest n.size hows.Fresh) (kind_read n.kind)
