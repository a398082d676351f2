-- What would not do: an acknowledgement to an ended incarnation.
use Rattle.std.proofs.Common.{◌≡◌, ℕ, List, [], refl, Bool, true, false, ◌&&◌, None}
use Rattle.std.specs.Prelude.{◌==◌}
use Rattle.scfs_base.specs.Words.{hex_pair}
use Rattle.scfs_base.specs.declared.naming.RequestNo.{RequestNo}
use Rattle.scfs_model.specs.Names.{request_no, upload_no, upload_name, same_request}
use Rattle.scfs_net.specs.Store.{Objects, stored, with_object}

-- An agent counts its requests anew in each incarnation. Were acknowledgements to an ended incarnation told apart by the number alone, that of an
-- old Put would count for the new one of that number, whose object the cloud does not hold
abbrev same_count : RequestNo → RequestNo → Bool
same_count r q = (r.agent == q.agent) && (r.number == q.number)

abbrev old_put : RequestNo
old_put = request_no 0 0 1

abbrev new_put : RequestNo
new_put = request_no 0 1 1

-- what a cloud holds that acknowledged the old Put alone
abbrev with_old : (body : List ℕ) → Objects
with_old body = with_object [] (upload_name (upload_no 0 0 1)) body

pub old_acks_tell_nothing : (body : List ℕ) → (same_count old_put new_put ≡ true) × (same_request old_put new_put ≡ false)
    × (stored (with_old body) (upload_name (upload_no 0 1 1)) ≡ None)
unfolding hex_pair
old_acks_tell_nothing body = (refl, refl, refl)
