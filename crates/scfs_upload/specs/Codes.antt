-- How a queue and its upload in progress are stored: as the tuples of their fields.
use Rattle.std.specs.Prelude.{ℕ, List, Option, refl}
use Rattle.std.specs.Coded.{Coded, code_by, coded×, coded_ℕ, coded_list, coded_option}
use Rattle.std.specs.FinSet as set
use Rattle.scfs_base.specs.declared.naming.UploadNo.{UploadNo}
use Rattle.scfs_quorum_write.specs.Marks.{Clouds}
use Rattle.scfs_upload.specs.declared.closing.Closed.{Closed}
use Rattle.scfs_upload.specs.Uploading.{Uploading}
use Rattle.scfs_upload.specs.Queue.{Queue}

-- the number of an upload
abbrev pub upload_code : Coded UploadNo
upload_code =
    code_by (ℕ × (ℕ × ℕ)) (coded× coded_ℕ (coded× coded_ℕ coded_ℕ))
    (λ u. (u.agent, (u.incarnation, u.count))) (λ p. record { agent = p.0; incarnation = p.1.0; count = p.1.1 }) (λ _. refl)

-- an upload in progress
abbrev pub uploading_code : Coded Uploading
uploading_code =
    code_by (UploadNo × (ℕ × (Clouds × ℕ))) (coded× upload_code (coded× coded_ℕ (coded× (set.code coded_ℕ) coded_ℕ)))
    (λ it. (it.upload, (it.f, (it.acked, it.turns))))
    (λ p. record { upload = p.0; f = p.1.0; acked = p.1.1.0; turns = p.1.1.1 }) (λ _. refl)

-- a closed session
abbrev pub closed_code : Coded Closed
closed_code =
    code_by ((ℕ × ℕ) × (ℕ × List ℕ)) (coded× (coded× coded_ℕ coded_ℕ) (coded× coded_ℕ (coded_list coded_ℕ)))
    (λ it. ((it.session, it.id.0), (it.base, it.contents)))
    (λ p. record { session = p.0.0; id = record { 0 = p.0.1 }; base = p.1.0; contents = p.1.1 }) (λ _. refl)

-- a queue
abbrev pub queue_code : Coded Queue
queue_code =
    code_by (List Closed × Option Uploading) (coded× (coded_list closed_code) (coded_option uploading_code))
    (λ queue. (queue.closed, queue.uploading)) (λ p. record { closed = p.0; uploading = p.1 }) (λ _. refl)
