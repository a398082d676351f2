use Rattle.std.proofs.Common.{◌≡◌, ℕ, ◌<◌, ◌^◌, List, [], ◌∷◌, ◌++◌, ◌/◌, ◌%◌, length, length-append, drop, get_or, refl, ap, sym, ◌∙◌, arith, w32}
use Rattle.std.specs.Int.{bytes_high_first, from_be_bytes}
use Rattle.std.proofs.lemmas.Nat.{from_be_bytes-to_be_bytes_4}
use Rattle.scfs_base.specs.declared.UploadNo.{UploadNo}
use Rattle.scfs_digest.specs.Texts.{Subject, Manifest, Piece, Contents, Drawing, RecordKey, text_of, prefix_of, IsInRange, PrefixesTellApart, TextsTellApart, draw_text, record_key_text}

-- the byte at the front, or a number that is no byte
front : List ℕ → ℕ
front [] = 256
front (x ∷ xs) = x

front-text_of : (a : Subject) → front (text_of a) ≡ prefix_of a
unfolding front
front-text_of (Manifest manifest) = refl
front-text_of (Piece cloud piece) = refl
front-text_of (Contents contents) = refl
front-text_of (Drawing seed upload) = refl
front-text_of (RecordKey seed agent) = refl

pub prefixes_tell_apart : PrefixesTellApart
prefixes_tell_apart a b differ same = differ (sym (front-text_of a) ∙ ap front same ∙ front-text_of b)

-- fronts of one length before the rest
pub same_front : (xs ys xs' ys' : List ℕ) → length xs ≡ length xs' → xs ++ ys ≡ xs' ++ ys' → xs ≡ xs'
same_front [] ys [] ys' long same = refl
same_front [] ys (x' ∷ xs') ys' long same = absurd (omega arith)
same_front (x ∷ xs) ys [] ys' long same = absurd (omega arith)
same_front (x ∷ xs) ys (x' ∷ xs') ys' long same =
    let rest : xs ++ ys ≡ xs' ++ ys' = cc in
    let first : x ≡ x' = cc in
    let back : xs ≡ xs' = same_front xs ys xs' ys' (omega arith) rest in
    cc

pub same_rest : (xs ys xs' ys' : List ℕ) → length xs ≡ length xs' → xs ++ ys ≡ xs' ++ ys' → ys ≡ ys'
same_rest [] ys [] ys' long same = same
same_rest [] ys (x' ∷ xs') ys' long same = absurd (omega arith)
same_rest (x ∷ xs) ys [] ys' long same = absurd (omega arith)
same_rest (x ∷ xs) ys (x' ∷ xs') ys' long same =
    let rest : xs ++ ys ≡ xs' ++ ys' = cc in
    same_rest xs ys xs' ys' (omega arith) rest

-- a number below 2 ^ 24 by its three bytes
same_in_three : (n m : ℕ) → n < 2 ^ 24 → m < 2 ^ 24 → bytes_high_first 3 n ≡ bytes_high_first 3 m → n ≡ m
same_in_three n m in_n in_m same =
    let high : n / 65536 % 256 ≡ m / 65536 % 256 = ap (λ bytes. get_or bytes 0 0) same in
    let middle : n / 256 % 256 ≡ m / 256 % 256 = ap (λ bytes. get_or bytes 1 0) same in
    let low : n % 256 ≡ m % 256 = ap (λ bytes. get_or bytes 2 0) same in
    omega arith

-- a number below 2 ^ 32 by its four bytes
same_in_four : (n m : ℕ) → n < 2 ^ 32 → m < 2 ^ 32 → bytes_high_first 4 n ≡ bytes_high_first 4 m → n ≡ m
same_in_four n m in_n in_m same =
    sym (from_be_bytes-to_be_bytes_4 n in_n) ∙ ap (from_be_bytes w32) same ∙ from_be_bytes-to_be_bytes_4 m in_m

same_prefix : (a b : Subject) → text_of a ≡ text_of b → prefix_of a ≡ prefix_of b
same_prefix a b same = sym (front-text_of a) ∙ ap front same ∙ front-text_of b

numbered : (agent incarnation count : ℕ) → UploadNo
numbered agent incarnation count = record { agent = agent; incarnation = incarnation; count = count }

same_upload : (u v : UploadNo) → u.agent ≡ v.agent → u.incarnation ≡ v.incarnation → u.count ≡ v.count → u ≡ v
unfolding numbered
same_upload u v agent incarnation count =
    ap (λ n. numbered n u.incarnation u.count) agent
    ∙ ap (λ n. numbered v.agent n u.count) incarnation
    ∙ ap (λ n. numbered v.agent v.incarnation n) count

-- the agent and the incarnation, as they stand in the text of a draw
agent_part : UploadNo → List ℕ
agent_part u = u.agent ∷ bytes_high_first 3 u.incarnation

same_drawing : (seed seed' : List ℕ) (u v : UploadNo) → IsInRange (Drawing seed u) → IsInRange (Drawing seed' v)
    → draw_text seed u ≡ draw_text seed' v → (seed ≡ seed') × (u ≡ v)
unfolding agent_part
same_drawing seed seed' u v in_u in_v same =
    let front = 3 ∷ seed ++ agent_part u in
    let front' = 3 ∷ seed' ++ agent_part v in
    let count = bytes_high_first 4 u.count in
    let count' = bytes_high_first 4 v.count in
    let seeds_long : length (3 ∷ seed) ≡ length (3 ∷ seed') = omega (arith, in_u.0, in_v.0) in
    let fronts_long : length front ≡ length front' =
    omega (arith, in_u.0, in_v.0, length-append seed (agent_part u), length-append seed' (agent_part v)) in
    let fronts : front ≡ front' = same_front front count front' count' fronts_long same in
    let counts : count ≡ count' = same_rest front count front' count' fronts_long same in
    let seeds = same_front (3 ∷ seed) (agent_part u) (3 ∷ seed') (agent_part v) seeds_long fronts in
    let agents = same_rest (3 ∷ seed) (agent_part u) (3 ∷ seed') (agent_part v) seeds_long fronts in
    let incarnations = ap (λ bytes. drop 1 bytes) agents in (
      ap (λ bytes. drop 1 bytes) seeds,
      same_upload u v (ap (λ bytes. get_or bytes 0 0) agents)
          (same_in_three u.incarnation v.incarnation in_u.1 in_v.1 incarnations)
          (same_in_four u.count v.count in_u.2 in_v.2 counts),
    )

same_record_key : (seed seed' : List ℕ) (a b : ℕ) → length seed ≡ length seed'
    → record_key_text seed a ≡ record_key_text seed' b → (seed ≡ seed') × (a ≡ b)
same_record_key seed seed' a b long same =
    let longer : length (4 ∷ seed) ≡ length (4 ∷ seed') = omega arith in (
      ap (λ bytes. drop 1 bytes) (same_front (4 ∷ seed) (a ∷ []) (4 ∷ seed') (b ∷ []) longer same),
      ap (λ bytes. get_or bytes 0 0) (same_rest (4 ∷ seed) (a ∷ []) (4 ∷ seed') (b ∷ []) longer same),
    )

pub texts_tell_apart : TextsTellApart
texts_tell_apart (Manifest m) (Manifest m') in_a in_b same = ap Manifest (ap (λ bytes. drop 1 bytes) same)
texts_tell_apart (Piece c p) (Piece c' p') in_a in_b same =
    let cloud : c ≡ c' = ap (λ bytes. get_or bytes 1 0) same in
    let piece : p ≡ p' = ap (λ bytes. drop 2 bytes) same in
    cc
texts_tell_apart (Contents v) (Contents v') in_a in_b same = ap Contents (ap (λ bytes. drop 1 bytes) same)
texts_tell_apart (Drawing seed u) (Drawing seed' v) in_a in_b same =
    let both = same_drawing seed seed' u v in_a in_b same in
    let seeds : seed ≡ seed' = both.0 in
    let uploads : u ≡ v = both.1 in
    cc
texts_tell_apart (RecordKey seed a) (RecordKey seed' b) in_a in_b same =
    let both = same_record_key seed seed' a b (omega (arith, in_a, in_b)) same in
    let seeds : seed ≡ seed' = both.0 in
    let agents : a ≡ b = both.1 in
    cc
texts_tell_apart a b in_a in_b same = absurd (omega (arith, same_prefix a b same))
