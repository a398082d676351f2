use Rattle.std.proofs.Common.{◌≡◌, ℕ, ◌+◌, ◌≤◌, List, [], ◌++◌, ap, ◌∙◌, sym, arith, length, map, subst}
use Rattle.scfs_tuples.specs.After.{is_live, left_among, left_by, live, reply_among, result_of, tested, tuple_of}
use Rattle.scfs_tuples.specs.Bound.{ended, looks_in, most_looks}
use Rattle.scfs_tuples.specs.Ending.{ended_in, looks_left}
use Rattle.scfs_tuples.specs.Filed.{live_entries, tuples_of}
use Rattle.scfs_tuples.specs.Matching.{row}
use Rattle.scfs_tuples.specs.declared.acting.Ending.{Ending}
use Rattle.scfs_tuples.specs.declared.types.Cond.{Cond}
use Rattle.scfs_tuples.specs.declared.types.Field.{Field}
use Rattle.scfs_tuples.specs.declared.types.Pattern.{Pattern}
use Rattle.scfs_tuples.specs.declared.types.Reply.{Reply}
use Rattle.scfs_tuples.specs.declared.types.Step.{Step}
use Rattle.scfs_tuples.specs.declared.types.Template.{Template}
use Rattle.scfs_tuples.specs.declared.types.Tuple.{Tuple}
use Rattle.scfs_tuples.proofs.NearLemmas.{tuples_filter}

-- the tuples after the ended ones went
pub live_now : (now : ℕ) (left taken held : List (ℕ × Tuple)) (ts : List Tuple) → left ≡ live_entries now taken → taken ≡ held → tuples_of held ≡ ts → tuples_of left ≡ live now ts
live_now now left taken held ts is was seen =
    ap tuples_of is ∙ tuples_filter (λ t. is_live now t.until) taken ∙ ap (live now) (ap tuples_of was ∙ seen)

more : (before after n looks : ℕ) → after ≤ before + looks → after ≤ before + (n + looks)
more before after n looks h = omega (arith, h)

-- no more looks than there may be
pub counted : (before after now : ℕ) (step : Step) (left : List (ℕ × Tuple)) (ts : List Tuple) → tuples_of left ≡ live now ts →
    after ≤ before + looks_in step.conds (tuples_of left) (tuples_of left) [] step.all → after ≤ before + most_looks ts now step
counted before after now step left ts is h =
    more before after (length (ended now ts)) (looks_in step.conds (live now ts) (live now ts) [] step.all)
    (subst (λ l. after ≤ before + looks_in step.conds l l [] step.all) is h)

-- the rows of the patterns asked
pub rows_at : (rows : List (List Tuple)) (b bound : List Field) (ts : List Tuple) (all wanted : List Pattern) → rows ≡ map (λ (p : Pattern). row b ts p.wants) all → all ≡ wanted → b ≡ bound →
    rows ≡ map (λ (p : Pattern). row bound ts p.wants) wanted
rows_at rows b bound ts all wanted h p q = h ∙ ap (map (λ (p : Pattern). row b ts p.wants)) p ∙ ap (λ c. map (λ (p : Pattern). row c ts p.wants) wanted) q

-- the puts of the templates asked, behind what was left
pub puts_at : (left : List Tuple) (mid es : List (ℕ × Tuple)) (now : ℕ) (b bound : List Field) (puts wanted : List Template) → left ≡ tuples_of mid ++ map (tuple_of now b) puts → mid ≡ es →
    puts ≡ wanted → b ≡ bound → left ≡ tuples_of es ++ map (tuple_of now bound) wanted
puts_at left mid es now b bound puts wanted h is p q =
    h ∙ ap (λ l. tuples_of l ++ map (tuple_of now b) puts) is ∙ ap (λ l. tuples_of es ++ map (tuple_of now b) l) p ∙ ap (λ c. tuples_of es ++ map (tuple_of now c) wanted) q

tested_at : (es : List (ℕ × Tuple)) (conds wanted : List Cond) (ending end : Ending) → conds ≡ wanted → tested conds 0 (tuples_of es) [] 0 ≡ ended_in es ending → ending ≡ end →
    tested wanted 0 (tuples_of es) [] 0 ≡ ended_in es end
tested_at es conds wanted ending end p h is = ap (λ cs. tested cs 0 (tuples_of es) [] 0) (sym p) ∙ h ∙ ap (ended_in es) is

pub reply_at : (es : List (ℕ × Tuple)) (now : ℕ) (step : Step) (conds : List Cond) (ending end : Ending) (reply : Reply) → conds ≡ step.conds → tested conds 0 (tuples_of es) [] 0 ≡ ended_in es ending →
    ending ≡ end → reply ≡ record { now = now; result = result_of (ended_in es end) (tuples_of es) step.all } → reply ≡ reply_among (tuples_of es) now step
reply_at es now step conds ending end reply p h is r =
    r ∙ ap (λ t. record { now = now; result = result_of t (tuples_of es) step.all }) (sym (tested_at es conds step.conds ending end p h is))

pub left_at : (es : List (ℕ × Tuple)) (now : ℕ) (step : Step) (conds : List Cond) (ending end : Ending) (left : List Tuple) → conds ≡ step.conds → tested conds 0 (tuples_of es) [] 0 ≡ ended_in es ending →
    ending ≡ end → left ≡ left_by (ended_in es end) now (tuples_of es) step.puts → left ≡ left_among (tuples_of es) now step
left_at es now step conds ending end left p h is l =
    l ∙ ap (λ t. left_by t now (tuples_of es) step.puts) (sym (tested_at es conds step.conds ending end p h is))

sums : (before middle after more most : ℕ) → middle + more ≤ before + most → after ≤ middle + more → after ≤ before + most
sums before middle after more most h k = omega (arith, h, k)

pub looks_at : (es : List (ℕ × Tuple)) (conds wanted : List Cond) (all : List Pattern) (ending end : Ending) (before middle after : ℕ) → conds ≡ wanted →
    middle + looks_left es all ending ≤ before + looks_in conds (tuples_of es) (tuples_of es) [] all → ending ≡ end → after ≤ middle + looks_left es all end →
    after ≤ before + looks_in wanted (tuples_of es) (tuples_of es) [] all
looks_at es conds wanted all ending end before middle after p h is more =
    sums before middle after (looks_left es all end) (looks_in wanted (tuples_of es) (tuples_of es) [] all)
    (subst (λ cs. middle + looks_left es all end ≤ before + looks_in cs (tuples_of es) (tuples_of es) [] all) p
    (subst (λ e. middle + looks_left es all e ≤ before + looks_in conds (tuples_of es) (tuples_of es) [] all) is h))
    more

pub same_looks : (n : ℕ) → n ≤ n + 0
same_looks n = omega arith
