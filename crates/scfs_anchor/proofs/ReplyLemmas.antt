use Rattle.std.proofs.Common.{◌≡◌, ℕ, ◌-◌, ◌^◌, ◌<◌, List, [], ◌∷◌, ◌++◌, length, map, cond, Option, Some, None, suc, min, replicate, refl, ap, ◌∙◌, arith, eq-eqb, length-append}
use Rattle.std.specs.Prelude.{slice_get}
use Rattle.std.specs.Option.{option_map, option_to_list}
use Rattle.std.proofs.Math.Nat.{min-eq_left}
use Rattle.scfs_base.specs.declared.naming.FileId.{FileId}
use Rattle.scfs_tuples.specs.declared.types.Field.{Field}
use Rattle.scfs_tuples.specs.declared.types.Field.TheVariants.{Num}
use Rattle.scfs_tuples.specs.declared.types.Tuple.{Tuple}
use Rattle.scfs_tuples.specs.declared.types.Reply.{Reply}
use Rattle.scfs_anchor.specs.Fields.{number_at, number_in, small_at, as_digest}
use Rattle.scfs_anchor.specs.Replies.{version_tuple, lock_tuple, IsRow, IsHolder, IfRow, IfHolder, ShowsSight, ShowsRows, row_in, holder_in, sight_of, rows_of}
use Rattle.scfs_anchor.specs.declared.seen.VersionRow.{VersionRow}
use Rattle.scfs_anchor.specs.declared.seen.Sight.{Sight}

small : (n : ℕ) → n < 2 ^ 32 → min n (2 ^ 32 - 1) ≡ n
small n h = min-eq_left (omega arith)

byte : (n : ℕ) → n < 2 ^ 8 → min n (2 ^ 8 - 1) ≡ n
byte n h = min-eq_left (omega arith)

digest : (bytes : List ℕ) → length bytes ≡ 32 → as_digest bytes ≡ bytes
digest bytes h = ap (λ t. cond t bytes (replicate 32 0)) (eq-eqb (length bytes) 32 h)

-- a row of these parts
abbrev a_row : FileId → (number : ℕ) → (root content : List ℕ) → (size agent incarnation count time : ℕ) → VersionRow
a_row id number root content size agent incarnation count time =
    record {
      id = id;
      number = number;
      root = record { 0 = root };
      content = record { 0 = content };
      length = size;
      upload = record { agent = agent; incarnation = incarnation; count = count };
      time = time;
    }

-- a row is read back from its tuple
pub row_read : (row : VersionRow) → IsRow row → row_in (version_tuple row).fields ≡ row
row_read row h =
    let most = 2 ^ 32 - 1 in
    let u = row.upload in
    ap (λ n. a_row row.id n (as_digest row.root.0) (as_digest row.content.0) (min row.length most) (min u.agent (2 ^ 8 - 1)) (min u.incarnation most) (min u.count most) row.time) (small row.number h.number)
    ∙ ap (λ d. a_row row.id row.number d (as_digest row.content.0) (min row.length most) (min u.agent (2 ^ 8 - 1)) (min u.incarnation most) (min u.count most) row.time) (digest row.root.0 h.root)
    ∙ ap (λ d. a_row row.id row.number row.root.0 d (min row.length most) (min u.agent (2 ^ 8 - 1)) (min u.incarnation most) (min u.count most) row.time) (digest row.content.0 h.content)
    ∙ ap (λ n. a_row row.id row.number row.root.0 row.content.0 n (min u.agent (2 ^ 8 - 1)) (min u.incarnation most) (min u.count most) row.time) (small row.length h.length)
    ∙ ap (λ n. a_row row.id row.number row.root.0 row.content.0 row.length n (min u.incarnation most) (min u.count most) row.time) (byte u.agent h.agent)
    ∙ ap (λ n. a_row row.id row.number row.root.0 row.content.0 row.length u.agent n (min u.count most) row.time) (small u.incarnation h.incarnation)
    ∙ ap (λ n. a_row row.id row.number row.root.0 row.content.0 row.length u.agent u.incarnation n row.time) (small u.count h.count)

-- the holder of a lock is read back from its tuple
pub holder_read : (id : FileId) (held : ℕ × ℕ × ℕ) (until : Option ℕ) → IsHolder held → holder_in (lock_tuple id held until).fields ≡ held
holder_read id (a, i, s) until h =
    ap (λ n. (n, min i (2 ^ 32 - 1), s)) (byte a h.agent) ∙ ap (λ n. (a, n, s)) (small i h.incarnation)

-- the field behind others
at_end : (before rest : List Field) (f : Field) → slice_get (before ++ f ∷ rest) (length before) ≡ Some f
at_end [] rest f = refl
at_end (b ∷ before) rest f = at_end before rest f

two_behind : (before : List Field) (f g : Field) → length (before ++ f ∷ g ∷ []) - 2 ≡ length before
two_behind before f g = simp length-append (omega arith)

one_behind : (before : List Field) (f g : Field) → length (before ++ f ∷ g ∷ []) - 1 ≡ length (before ++ f ∷ [])
one_behind before f g = simp length-append (omega arith)

first_of_two : (before : List Field) (f g : Field) → slice_get (before ++ f ∷ g ∷ []) (length (before ++ f ∷ g ∷ []) - 2) ≡ Some f
first_of_two before f g = ap (slice_get (before ++ f ∷ g ∷ [])) (two_behind before f g) ∙ at_end before (g ∷ []) f

last_of_two : (before : List Field) (f g : Field) → slice_get (before ++ f ∷ g ∷ []) (length (before ++ f ∷ g ∷ []) - 1) ≡ Some g
last_of_two [] f g = refl
last_of_two (b ∷ before) f g =
    ap (slice_get (b ∷ before ++ f ∷ g ∷ [])) (one_behind (b ∷ before) f g) ∙ last before where
      last : (before : List Field) → slice_get (before ++ f ∷ g ∷ []) (length (before ++ f ∷ [])) ≡ Some g
      last [] = refl
      last (b ∷ before) = last before

row_shown : (row : Option VersionRow) → IfRow row → option_map (λ (t : Tuple). row_in t.fields) (slice_get (map version_tuple (option_to_list row)) 0) ≡ row
row_shown None h = refl
row_shown (Some row) h = ap (λ r. Some r) (row_read row h)

lock_shown : (id : FileId) (until : Option ℕ) (held : Option (ℕ × ℕ × ℕ)) → IfHolder held → option_map (λ (t : Tuple). holder_in t.fields) (slice_get (map (λ held. lock_tuple id held until) (option_to_list held)) 0) ≡ held
lock_shown id until None h = refl
lock_shown id until (Some held) h = ap (λ r. Some r) (holder_read id held until h)

-- a sight of these parts
abbrev a_sight : (id newest : ℕ) → Option VersionRow → Option (ℕ × ℕ × ℕ) → Sight
a_sight id newest row lock = record { id = record { 0 = id }; newest = newest; row = row; lock = lock }

-- the sight that a reply shows is read from it
pub sight_read : (reply : Reply) (seen : Sight) → ShowsSight reply seen → sight_of reply.result ≡ seen
sight_read reply seen h =
    let bound = h.before ++ Num seen.id.0 ∷ Num seen.newest ∷ [] in
    let rows = map version_tuple (option_to_list seen.row) in
    let locks = map (λ held. lock_tuple seen.id held h.until) (option_to_list seen.lock) in
    let newest : small_at bound (length bound - 1) ≡ seen.newest = ap (λ f. min (number_in f) (2 ^ 32 - 1)) (last_of_two h.before (Num seen.id.0) (Num seen.newest)) ∙ small seen.newest h.newest in
    let id : number_at bound (length bound - 2) ≡ seen.id.0 = ap number_in (first_of_two h.before (Num seen.id.0) (Num seen.newest)) in
    ap sight_of h.result
    ∙ ap (λ n. a_sight n (small_at bound (length bound - 1)) (option_map (λ (t : Tuple). row_in t.fields) (slice_get rows 0)) (option_map (λ (t : Tuple). holder_in t.fields) (slice_get locks 0))) id
    ∙ ap (λ n. a_sight seen.id.0 n (option_map (λ (t : Tuple). row_in t.fields) (slice_get rows 0)) (option_map (λ (t : Tuple). holder_in t.fields) (slice_get locks 0))) newest
    ∙ ap (λ r. a_sight seen.id.0 seen.newest r (option_map (λ (t : Tuple). holder_in t.fields) (slice_get locks 0))) (row_shown seen.row h.row)
    ∙ ap (λ l. a_sight seen.id.0 seen.newest seen.row l) (lock_shown seen.id h.until seen.lock h.lock)

rows_shown : (rows : List VersionRow) → ((row : VersionRow) (k : ℕ) → slice_get rows k ≡ Some row → IsRow row) → map (λ (t : Tuple). row_in t.fields) (map version_tuple rows) ≡ rows
rows_shown [] h = refl
rows_shown (row ∷ rows) h =
    ap (λ r. r ∷ map (λ (t : Tuple). row_in t.fields) (map version_tuple rows)) (row_read row (h row 0 refl))
    ∙ ap (λ rs. row ∷ rs) (rows_shown rows (λ r k e. h r (suc k) e))

-- the rows that a reply shows are read from it
pub rows_read : (reply : Reply) (seen : List VersionRow) → ShowsRows reply seen → rows_of reply.result ≡ seen
rows_read reply seen h = ap rows_of h.result ∙ rows_shown seen h.fit
