-- Answers that serve are no lies and up to date; those that hide something are stale.
use Rattle.std.proofs.Common.{◌≡◌, inl, inr, ⊎_elim, ℕ, List, [], ◌∷◌, Option, Some, None, refl, sym, ap, subst, arith, Contains}
use Rattle.std.specs.List.{All}
use Rattle.std.proofs.lemmas.List.Elements.{All-contains_itself, All-head}
use Rattle.scfs_base.specs.Limits.{names_limit}
use Rattle.scfs_base.specs.declared.cloud.CloudAnswer.{CloudAnswer}
use Rattle.scfs_base.specs.declared.cloud.CloudAnswer.TheVariants as answers
use Rattle.scfs_base.specs.declared.cloud.CloudRequest.{CloudRequest}
use Rattle.scfs_base.specs.declared.cloud.CloudRequest.TheVariants as requests
use Rattle.scfs_net.specs.Queues.{answer_of, first_bytes}
use Rattle.scfs_net.specs.Store.{Objects, last_of, names_with, stored}
use Rattle.scfs_durable.specs.Stores.{HidingIsStale, IsUpToDate, ServingIsFaithful, StaysTruthful, objects}

found_up_to_date : (held : Objects) (name : List ℕ) (limit : ℕ) (found : Option (List ℕ)) → stored held name ≡ found
    → IsUpToDate held (requests.Get name limit) (first_bytes limit found)
found_up_to_date held name limit None is = is
found_up_to_date held name limit (Some body) is = tt

served_up_to_date : (held : Objects) (request : CloudRequest) → IsUpToDate held request (answer_of held request)
served_up_to_date held (requests.Put name body) = tt
served_up_to_date held (requests.Get name limit) = found_up_to_date held name limit (stored held name) refl
served_up_to_date held (requests.Delete name) = tt
served_up_to_date held (requests.List prefix) = All-contains_itself (last_of names_limit (names_with held prefix))

failed_up_to_date : (held : Objects) (request : CloudRequest) → IsUpToDate held request answers.Fail
failed_up_to_date held (requests.Put name body) = tt
failed_up_to_date held (requests.Get name limit) = tt
failed_up_to_date held (requests.Delete name) = tt
failed_up_to_date held (requests.List prefix) = tt

pub serving_is_faithful : ServingIsFaithful
serving_is_faithful s past c request answer gives =
    let held = objects s past c in
    ⊎_elim
    (λ served. (inl served, subst (λ (x : CloudAnswer). IsUpToDate held request x) (sym served) (served_up_to_date held request)))
    (λ failed. (inr (inr (inr failed)), subst (λ (x : CloudAnswer). IsUpToDate held request x) (sym failed) (failed_up_to_date held request)))
    gives

-- names of which none is left out of no names are none
none_left : (names : List (List ℕ)) → All (Contains []) names → [] ≡ names
none_left [] all = refl
none_left (name ∷ names) all = let at = All-head (Contains []) name names all in absurd (omega (arith, at.1))

pub hiding_is_stale : HidingIsStale
hiding_is_stale held (requests.Put name body) fresh = refl
hiding_is_stale held (requests.Get name limit) fresh = ap (first_bytes limit) (sym fresh)
hiding_is_stale held (requests.Delete name) fresh = refl
hiding_is_stale held (requests.List prefix) fresh = ap answers.Names (none_left (last_of names_limit (names_with held prefix)) fresh)

pub stays_truthful : StaysTruthful
stays_truthful s c [] past never was = was
stays_truthful s c (e ∷ new) past never was = (never.0, stays_truthful s c new past never.1 was)
