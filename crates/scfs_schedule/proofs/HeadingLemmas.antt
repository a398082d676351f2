use Rattle.std.proofs.Common.{◌≡◌, ℕ, ◌+◌, ◌<◌, List, [], ◌∷◌, ◌++◌, length, take, get_or, zero, suc, ap, ◌∙◌, sym, arith, append_assoc, append-nil, add-one}
use Rattle.std.specs.Prelude.{codes}
use Rattle.scfs_schedule.specs.declared.types.Mode.{Mode}
use Rattle.scfs_schedule.specs.Text.{agent_text, agents_text}

-- the lines of one agent more
pub agents_more : (number i : ℕ) (agents : List (Mode × List ℕ)) (d : Mode × List ℕ) → i < length agents → agents_text number (take (suc i) agents) ≡ agents_text number (take i agents) ++ agent_text (number + i) (get_or agents i d)
agents_more number i [] d h = absurd (omega arith)
agents_more number zero (agent ∷ agents) d h = append-nil (agent_text number agent) ∙ ap (λ n. agent_text n agent) (let e : number ≡ number + 0 = omega arith in e)
agents_more number (suc i) (agent ∷ agents) d h =
    ap (λ t. agent_text number agent ++ t) (agents_more (number + 1) i agents d (omega arith) ∙ ap (λ n. agents_text (number + 1) (take i agents) ++ agent_text n (get_or agents i d)) (let e : (number + 1) + i ≡ number + suc i = omega arith in e))
    ∙ sym (append_assoc (agent_text number agent) (agents_text (number + 1) (take i agents)) (agent_text (number + suc i) (get_or agents i d)))

pub agents_taken : (i : ℕ) (agents : List (Mode × List ℕ)) (d : Mode × List ℕ) → i < length agents → agents_text 0 (take (i + 1) agents) ≡ agents_text 0 (take i agents) ++ agent_text i (get_or agents i d)
agents_taken i agents d h =
    ap (λ n. agents_text 0 (take n agents)) (add-one i) ∙ agents_more 0 i agents d h
    ∙ ap (λ n. agents_text 0 (take i agents) ++ agent_text n (get_or agents i d)) (let e : 0 + i ≡ i = omega arith in e)

-- the lines of a header, joined
pub header_joined : (f lease stale agents : List ℕ) → ((codes "scfs 1\nf " ++ (f ++ (codes "\nlease " ++ (lease ++ (codes "\nstale " ++ (stale ++ codes "\n")))))) ++ agents) ++ codes "begin\n" ≡ codes "scfs 1\nf " ++ f ++ codes "\nlease " ++ lease ++ codes "\nstale " ++ stale ++ 10 ∷ agents ++ codes "begin\n"
header_joined f lease stale agents = simp append_assoc
