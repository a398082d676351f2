-- The contents of uploads, as their container has them.
use Rattle.std.specs.Prelude.{ℕ, List, map}
use Rattle.scfs_base.specs.declared.naming.UploadNo.{UploadNo}
use Rattle.scfs_cache.specs.declared.uploads.Key.{Key}
use Rattle.scfs_cache.specs.Uses.{used_if}
use Rattle.scfs_cache.specs.Cached.{Contents, same_upload, contents_of}

-- the upload of a key
abbrev pub upload_of : Key → UploadNo
upload_of key = record { agent = key.agent; incarnation = key.incarnation; count = key.count }

-- the entries by their uploads
abbrev pub shown : List (Key × List ℕ) → Contents
shown entries = map (λ entry. (upload_of entry.0, entry.1)) entries

-- a use of an upload with the contents that are kept of it, if there are any
abbrev pub used_again : (most : ℕ) → UploadNo → Contents → Contents
used_again most upload entries = used_if same_upload most upload (contents_of entries upload) entries
