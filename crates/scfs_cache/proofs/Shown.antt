-- What a cache that moves its entries does, over the keys and values that its entries show.
use Rattle.std.proofs.Common.{◌≡◌, ◌∙◌, ℕ, zero, suc, ◌-◌, ◌<◌, ◌≤◌, Bool, true, false, cond, not, refl, sym, ap, arith}
use Rattle.std.proofs.Common.{List, [], ◌∷◌, map, length, take, Option, Some, None, option_map}
use Rattle.std.specs.Option.{option_map_or}
use Rattle.std.specs.List.{AllByRecursion, IsDistinct}
use Rattle.std.specs.Map.{lookup, lookup_entry, remove_entry, keys_of}
use Rattle.std.proofs.lemmas.Map.Keys.{IsDistinct-head, IsDistinct-tail}
use Rattle.std.proofs.lemmas.List.{length-map, take_all, take-map}
use Rattle.lru.specs.LruCache.{LruCache, IsValid, promoted, put_entries}
use Rattle.scfs_cache.specs.Uses.{without, used, used_if}

module _ {K U V W : Type 0} (eq : K → K → Bool) (same : U → U → Bool) (f : K → U) (g : V → W) where
  -- keys are equal where they show the same, and what is the same is equal
  pub record ShowsKeys : Type 0 where
    pub agrees : (j k : K) → eq j k ≡ same (f j) (f k)
    pub sound : (u w : U) → same u w ≡ true → u ≡ w

  -- an entry by what it shows
  abbrev pub show : K × V → U × W
  show entry = (f entry.0, g entry.1)

  -- the entries by what they show
  abbrev pub shows : List (K × V) → List (U × W)
  shows entries = map show entries

  module _ (keys : ShowsKeys) (u : U) (test : K → Bool) (tests : (k : K) → test k ≡ same u (f k)) where
    -- a key is looked up by what it shows
    pub lookup-shows : (es : List (K × V)) → lookup (same u) (shows es) ≡ option_map g (lookup test es)
    lookup-shows [] = refl
    lookup-shows (e ∷ es) =
        rw (tests e.0)
        (elim (same u (f e.0)) as (λ b.
        cond b (Some (g e.1)) (lookup (same u) (shows es)) ≡ option_map g (cond b (Some e.1) (lookup test es))) [
          | true ↦ refl
          | false ↦ lookup-shows es
        ])

    -- no entry behind one that shows this key shows it too
    absent : (k : K) (es : List (K × V)) → same u (f k) ≡ true
        → AllByRecursion (λ y. eq k y ≡ false) (keys_of es) → without same u (shows es) ≡ shows es
    absent k [] is apart = refl
    absent k (e ∷ es) is apart =
        let other : same u (f e.0) ≡ false = rw (keys.sound u (f k) is) (sym (keys.agrees k e.0) ∙ apart.0) in
        rw other (ap (λ t. show e ∷ t) (absent k es is apart.1))

    -- the entry of a key is taken away
    without-shows : (es : List (K × V)) → IsDistinct eq (keys_of es)
        → shows (remove_entry test es) ≡ without same u (shows es)
    without-shows [] distinct = refl
    without-shows (e ∷ es) distinct =
        rw (tests e.0)
        ((elim (same u (f e.0)) as (λ b. same u (f e.0) ≡ b
        → shows (cond b es (e ∷ remove_entry test es))
        ≡ cond (not b) (show e ∷ without same u (shows es)) (without same u (shows es))) [
          | true ↦ λ is. sym (absent e.0 es is (IsDistinct-head eq e.0 (keys_of es) distinct))
          | false ↦ λ is. ap (λ t. show e ∷ t) (without-shows es (IsDistinct-tail eq e.0 (keys_of es) distinct))
        ]) refl)

    -- where no entry has a key, none is taken away
    without-none : (es : List (K × V)) → lookup_entry test es ≡ None → without same u (shows es) ≡ shows es
    without-none [] none = refl
    without-none (e ∷ es) none =
        (elim (same u (f e.0)) as (λ b. same u (f e.0) ≡ b
        → cond (not b) (show e ∷ without same u (shows es)) (without same u (shows es)) ≡ show e ∷ shows es) [
          | true ↦ λ is. let found = rw (tests e.0 ∙ is) at none in cc
          | false ↦ λ is. ap (λ t. show e ∷ t) (without-none es (rw (tests e.0 ∙ is) at none))
        ]) refl

    lookup-none : (es : List (K × V)) → lookup_entry test es ≡ None → lookup test es ≡ None
    lookup-none [] none = refl
    lookup-none (d ∷ es) none =
        (elim (test d.0) as (λ b.
        cond b (Some d) (lookup_entry test es) ≡ None → cond b (Some d.1) (lookup test es) ≡ None) [
          | true ↦ λ at. cc
          | false ↦ λ at. lookup-none es at
        ]) none

    -- the entry of a key shows it, its value is what is looked up, and without it there is one entry less
    record IsEntryOf (es : List (K × V)) (e : K × V) : Type 0 where
      key : same u (f e.0) ≡ true
      value : lookup test es ≡ Some e.1
      rest : suc (length (remove_entry test es)) ≡ length es

    entry_of : (es : List (K × V)) (e : K × V) → lookup_entry test es ≡ Some e → IsEntryOf es e
    entry_of [] e some = cc
    entry_of (d ∷ es) e some =
        (elim (test d.0) as (λ b. test d.0 ≡ b → cond b (Some d) (lookup_entry test es) ≡ Some e → IsEntryOf (d ∷ es) e) [
          | true ↦ λ is at.
              let it : d ≡ e = cc in
              let key : same u (f d.0) ≡ true = sym (tests d.0) ∙ is in
              record { key = rw it at key; value = rw is (ap (λ x. Some x.1) it); rest = rw is refl }
          | false ↦ λ is at.
              let on = entry_of es e at in
              record { key = on.key; value = rw is on.value; rest = rw is (ap suc on.rest) }
        ]) refl some

    -- in a list that is not too long a key that has an entry displaces none
    all_stay : (es : List (K × V)) (most : ℕ) (w : W) → IsDistinct eq (keys_of es) → length es ≤ most
        → suc (length (remove_entry test es)) ≡ length es
        → take most ((u, w) ∷ without same u (shows es)) ≡ (u, w) ∷ without same u (shows es)
    all_stay es most w distinct fits rest =
        take_all most ((u, w) ∷ without same u (shows es))
        (rw (← without-shows es distinct) (rw (length-map {B = U × W} (remove_entry test es) show) (omega (arith, rest))))

    promoted_by : (es : List (K × V)) (most : ℕ) (o : Option (K × V)) → lookup_entry test es ≡ o
        → IsDistinct eq (keys_of es) → length es ≤ most
        → shows (option_map_or (λ e. e ∷ remove_entry test es) o es)
        ≡ used_if same most u (lookup (same u) (shows es)) (shows es)
    promoted_by es most None is distinct fits = rw (lookup-shows es, lookup-none es is) refl
    promoted_by es most (Some e) is distinct fits =
        let it = entry_of es e is in
        let key : f e.0 ≡ u = sym (keys.sound u (f e.0) it.key) in
        rw (lookup-shows es, it.value, key, without-shows es distinct) (sym (all_stay es most (g e.1) distinct fits it.rest))

    -- the entry of a key goes first: that is a use of the key
    pub promoted-shows : (es : List (K × V)) (most : ℕ) → IsDistinct eq (keys_of es) → length es ≤ most
        → shows (promoted test es) ≡ used_if same most u (lookup (same u) (shows es)) (shows es)
    promoted-shows es most distinct fits = promoted_by es most (lookup_entry test es) refl distinct fits

    put_by : (es : List (K × V)) (most : ℕ) (k : K) (v : V) (o : Option (K × V)) → lookup_entry test es ≡ o
        → f k ≡ u → IsDistinct eq (keys_of es) → length es ≤ most → 0 < most
        → shows (option_map_or (λ e. (e.0, v) ∷ remove_entry test es) o ((k, v) ∷ take (most - 1) es))
        ≡ used same most u (g v) (shows es)
    put_by es zero k v o is key distinct fits some = let no : ⊥ = omega arith in absurd no
    put_by es (suc most) k v None is key distinct fits some =
        let less : suc most - 1 ≡ most = omega arith in
        rw (key, without-none es is, less) (ap (λ t. (u, g v) ∷ t) (sym (take-map {Y = U × W} show most es)))
    put_by es (suc most) k v (Some e) is key distinct fits some =
        let it = entry_of es e is in
        let first : f e.0 ≡ u = sym (keys.sound u (f e.0) it.key) in
        rw (first, without-shows es distinct) (sym (all_stay es (suc most) (g v) distinct fits it.rest))

  -- an entry is put: that is a use of its key
  pub put-shows : (keys : ShowsKeys) (u : U) (k : K) (v : V) (c : LruCache K V) → f k ≡ u → IsValid eq c
      → shows (put_entries eq c k v) ≡ used same c.cap u (g v) (shows c.entries)
  put-shows keys u k v c key valid =
      put_by keys u (eq k) (λ j. keys.agrees k j ∙ ap (λ w. same w (f j)) key) c.entries c.cap k v
      (lookup_entry (eq k) c.entries) refl key valid.0 valid.1 valid.2
