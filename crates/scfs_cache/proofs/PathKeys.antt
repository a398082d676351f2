-- Answers by their paths: what moving the entries does is a use of a path.
use Rattle.std.proofs.Common.{◌≡◌, ◌∙◌, ℕ, ◌≤◌, ◌<◌, ◌-◌, Bool, List, length, Option, Some, None, option_map, refl, subst}
use Rattle.std.proofs.Common.{bytes_eq, lt-ltb, le-ltb, Vec, Global}
use Rattle.std.specs.List.{IsDistinct}
use Rattle.std.specs.Cmp.Lexicographic.{bytes_decides}
use Rattle.std.specs.Map.{keys_of, lookup}
use Rattle.lru.specs.LruCache.{LruCache, IsValid, promoted, put_entries}
use Rattle.scfs_cache.specs.declared.paths.Kept.{Kept}
use Rattle.scfs_cache.specs.Uses.{used}
use Rattle.scfs_cache.specs.Kept.{answers_limit, fresh, after_keeping}
use Rattle.scfs_cache.specs.Paths.{by_path, used_again}
use Rattle.scfs_cache.proofs.Shown.{ShowsKeys, lookup-shows, promoted-shows, put-shows}

-- the bytes of a path
abbrev bytes_of : Vec ℕ Global → List ℕ
bytes_of path = path.items

-- whether two paths have the same bytes
abbrev same_bytes : Vec ℕ Global → Vec ℕ Global → Bool
same_bytes x y = bytes_eq x.items y.items

module _ {V : Type 0} where
  keys : ShowsKeys same_bytes bytes_eq bytes_of (λ (answer : Kept V). answer)
  keys = record { agrees = λ j k. refl; sound = λ xs ys same. (bytes_decides xs ys).0 same }

  option_map-id : (o : Option (Kept V)) → option_map (λ answer. answer) o ≡ o
  option_map-id None = refl
  option_map-id (Some answer) = refl

  pub kept : (c : LruCache (Vec ℕ Global) (Kept V)) (key : Vec ℕ Global) (path : List ℕ) (answer : Kept V)
      → key.items ≡ path → IsValid same_bytes c → c.cap ≡ answers_limit
      → by_path (put_entries same_bytes c key answer) ≡ after_keeping (by_path c.entries) path answer
  kept c key path answer is valid full =
      subst (λ most. by_path (put_entries same_bytes c key answer) ≡ used bytes_eq most path answer (by_path c.entries)) full
      (put-shows same_bytes bytes_eq bytes_of (λ (answer : Kept V). answer) keys path key answer c is valid)

  module _ (es : List (Vec ℕ Global × Kept V)) (path : List ℕ) where
    -- what is looked up of the path
    abbrev looks : Option (Kept V)
    looks = lookup (λ (k : Vec ℕ Global). bytes_eq path k.items) es

    pub touched : IsDistinct same_bytes (keys_of es) → length es ≤ answers_limit
        → by_path (promoted (λ (k : Vec ℕ Global). bytes_eq path k.items) es) ≡ used_again (by_path es) path
    touched =
        promoted-shows same_bytes bytes_eq bytes_of (λ (answer : Kept V). answer) keys path
        (λ k. bytes_eq path k.items) (λ k. refl) es answers_limit

    looked_up : lookup (bytes_eq path) (by_path es) ≡ looks
    looked_up =
        lookup-shows same_bytes bytes_eq bytes_of (λ (answer : Kept V). answer) keys path
        (λ k. bytes_eq path k.items) (λ k. refl) es
        ∙ option_map-id looks

    module _ (now stale : ℕ) where
      -- no answer is kept
      pub fresh-none : None ≡ looks → fresh (by_path es) path now stale ≡ None
      fresh-none none = rw (looked_up, ← none) refl

      -- the one that is kept is younger
      pub fresh-some : (answer : Kept V) → Some answer ≡ looks → now - answer.moment < stale
          → fresh (by_path es) path now stale ≡ Some answer
      fresh-some answer some younger = rw (looked_up, ← some, lt-ltb (now - answer.moment) stale younger) refl

      -- the one that is kept is not
      pub fresh-old : (answer : Kept V) → Some answer ≡ looks → stale ≤ now - answer.moment
          → fresh (by_path es) path now stale ≡ None
      fresh-old answer some old = rw (looked_up, ← some, le-ltb (now - answer.moment) stale old) refl
