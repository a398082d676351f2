-- An acknowledgement of an upload of one part.
use Rattle.std.proofs.Common.{◌≡◌, ◌∙◌, ℕ, ◌+◌, ◌-◌, ◌*◌, Bool, true, false, cond, not, ◌&&◌, ◌==◌, nat_le, if◌then◌else◌}
use Rattle.std.proofs.Common.{List, [], ◌∷◌, length, refl, ap, arith}
use Rattle.std.proofs.lemmas.Bool.Decides.{nat_tests}
use Rattle.std.proofs.lemmas.Cmp.{nat_cmp_total}
use Rattle.std.specs.FinSet as set
use Rattle.scfs_base.specs.declared.naming.UploadNo.{UploadNo}
use Rattle.scfs_quorum_write.specs.Marks.{Clouds}
use Rattle.scfs_quorum_write.specs.Acks.{Acks, clouds_of, progress}
use Rattle.scfs_quorum_write.specs.declared.progress.Progress.TheVariants.{Already, Counted, Done}
use Rattle.scfs_upload.specs.Uploading.{brought}

-- one more is the first to be enough
is_last : (f n : ℕ) → (not (nat_le (3 * f + 1 - f) n) && nat_le (3 * f + 1 - f) (n + 1)) ≡ (n + 1 == 2 * f + 1)
is_last f n = grind (arith, nat_tests)

by_set : (f : ℕ) (acked : Clouds) (cloud : ℕ) (known : Bool) → set.contains acked cloud ≡ known
    → (if known then Already
    else if not (nat_le (3 * f + 1 - f) (set.len acked)) && nat_le (3 * f + 1 - f) (set.len (set.insert acked cloud)) then Done
    else Counted (set.len (set.insert acked cloud)))
    ≡ (if known then Already else if set.len acked + 1 == 2 * f + 1 then Done else Counted (set.len acked + 1))
by_set f acked cloud true is = refl
by_set f acked cloud false is =
    let more : set.len (set.insert acked cloud) ≡ set.len acked + 1 =
    set.len-insert nat_cmp_total acked cloud ∙ ap (λ b. cond b (set.len acked) (set.len acked + 1)) is in
    rw (more, is_last f (set.len acked)) refl

by_parts : (f cloud : ℕ) (parts : List Clouds) (upload : UploadNo) (turns : ℕ) → length parts ≡ 1
    → let acks : Acks = record { f = f; parts = parts } in
    progress acks cloud 0 ≡ brought (record { upload = upload; f = f; acked = clouds_of acks 0; turns = turns }) cloud
by_parts f cloud [] upload turns one = cc
by_parts f cloud (acked ∷ []) upload turns one = by_set f acked cloud (set.contains acked cloud) refl
by_parts f cloud (acked ∷ other ∷ others) upload turns one = cc

-- what an acknowledgement of the one part brings
pub progress-brought : (acks : Acks) (cloud : ℕ) (upload : UploadNo) (turns : ℕ) → length acks.parts ≡ 1
    → progress acks cloud 0 ≡ brought (record { upload = upload; f = acks.f; acked = clouds_of acks 0; turns = turns }) cloud
progress-brought acks cloud upload turns one = by_parts acks.f cloud acks.parts upload turns one
