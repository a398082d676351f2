-- Contents by their uploads: what moving the entries does is a use of an upload.
use Rattle.std.proofs.Common.{◌≡◌, ◌∙◌, ℕ, ◌≤◌, Bool, true, List, length, Option, Some, None, option_map, refl, ap, rules}
use Rattle.std.specs.List.{IsDistinct}
use Rattle.std.specs.Cmp.{IsEquivalence}
use Rattle.std.specs.Cmp.Rules.{comparing}
use Rattle.std.specs.Map.{keys_of, lookup}
use Rattle.lru.specs.LruCache.{LruCache, IsValid, promoted, put_entries}
use Rattle.scfs_base.specs.declared.naming.UploadNo.{UploadNo}
use Rattle.scfs_cache.specs.declared.uploads.Key.{Key}
use Rattle.scfs_cache.specs.contracts.uploads.KeyPartialEq.TheImpl.{eq-value}
use Rattle.scfs_cache.specs.Uses.{used}
use Rattle.scfs_cache.specs.Cached.{same_upload, contents_of}
use Rattle.scfs_cache.specs.Uploads.{upload_of, shown, used_again}
use Rattle.scfs_cache.proofs.Shown.{ShowsKeys, lookup-shows, promoted-shows, put-shows}

-- uploads that are the same are equal
same_upload-sound : (u w : UploadNo) → same_upload u w ≡ true → u ≡ w
same_upload-sound u w same = search rules

pub uploads_equivalent : IsEquivalence same_upload
uploads_equivalent = search (comparing, rules)

-- whether two keys are equal
abbrev same_key : Key → Key → Bool
same_key = eq-value.it

keys : ShowsKeys same_key same_upload upload_of (λ (contents : List ℕ). contents)
keys = record { agrees = λ j k. refl; sound = same_upload-sound }

option_map-id : (o : Option (List ℕ)) → option_map (λ contents. contents) o ≡ o
option_map-id None = refl
option_map-id (Some contents) = refl

module _ (key : Key) (u : UploadNo) (is : upload_of key ≡ u) where
  tests : (k : Key) → same_key key k ≡ same_upload u (upload_of k)
  tests k = ap (λ w. same_upload w (upload_of k)) is

  pub looked_up : (es : List (Key × List ℕ)) → contents_of (shown es) u ≡ lookup (same_key key) es
  looked_up es =
      lookup-shows same_key same_upload upload_of (λ contents. contents) keys u (same_key key) tests es
      ∙ option_map-id (lookup (same_key key) es)

  pub touched : (es : List (Key × List ℕ)) (most : ℕ) → IsDistinct same_key (keys_of es) → length es ≤ most
      → shown (promoted (same_key key) es) ≡ used_again most u (shown es)
  touched = promoted-shows same_key same_upload upload_of (λ contents. contents) keys u (same_key key) tests

  pub kept : (c : LruCache Key (List ℕ)) (contents : List ℕ) → IsValid same_key c
      → shown (put_entries same_key c key contents) ≡ used same_upload c.cap u contents (shown c.entries)
  kept c contents valid = put-shows same_key same_upload upload_of (λ contents. contents) keys u key contents c is valid
