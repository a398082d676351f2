-- How the bytes come to hold the stream, word by word.
use Rattle.std.proofs.Common.{◌≡◌, ℕ, ◌+◌, ◌-◌, ◌*◌, ◌<◌, ◌≤◌, List, ◌++◌, length, length-append, length-take-le, length-drop, get_or, ⊎_elim, take, drop, ap, sym, ◌∙◌, arith, w32}
use Rattle.std.specs.Prelude.{bit_xor}
use Rattle.std.specs.Int.{to_le_bytes}
use Rattle.std.proofs.lemmas.Bool.{cases_lt}
use Rattle.std.proofs.lemmas.Grind.{same_number_lists}
use Rattle.std.proofs.lemmas.List.{get_or_append_left, get_or-append-add, get_or-take, get_or-drop}
use borrow.Rule.Slice.PartMut.{put_mid}
use Rattle.scfs_stream.proofs.StreamFacts.{byte_of_word, length-ciphered, get_or-ciphered}
use Rattle.scfs_stream.specs.Stream.{stream_word, stream_byte, ciphered}

-- now, the first n bytes have the stream added, and the others are as they were
pub record IsCipheredTo (key old now : List ℕ) (n : ℕ) : Type 0 where
  pub long : length now ≡ length old
  pub front : (k : ℕ) → k < n → get_or now k 0 ≡ bit_xor (get_or old k 0) (stream_byte key k)
  pub rest : (k : ℕ) → n ≤ k → get_or now k 0 ≡ get_or old k 0

-- a part written into a list, as Rattle shows a write to a part of a slice
put_below : (a m : ℕ) (xs ys : List ℕ) (k : ℕ) → a ≤ length xs → k < a
    → get_or (put_mid a m xs ys) k 0 ≡ get_or xs k 0
put_below a m xs ys k fits below =
    get_or_append_left (take a xs) (ys ++ drop m (drop a xs)) 0 k (omega (arith, length-take-le a xs fits))
    ∙ get_or-take a xs k 0 below

put_within : (a m : ℕ) (xs ys : List ℕ) (j : ℕ) → a ≤ length xs → j < length ys
    → get_or (put_mid a m xs ys) (a + j) 0 ≡ get_or ys j 0
put_within a m xs ys j fits within =
    let place : a + j ≡ length (take a xs) + j = omega (arith, length-take-le a xs fits) in
    ap (λ n. get_or (put_mid a m xs ys) n 0) place
    ∙ get_or-append-add (take a xs) (ys ++ drop m (drop a xs)) j 0
    ∙ get_or_append_left ys (drop m (drop a xs)) 0 j within

put_above : (a m : ℕ) (xs ys : List ℕ) (k : ℕ) → a + m ≤ length xs → length ys ≡ m → a + m ≤ k
    → get_or (put_mid a m xs ys) k 0 ≡ get_or xs k 0
put_above a m xs ys k fits long above =
    let j : ℕ = k - (a + m) in
    let place : k ≡ length (take a xs) + (length ys + j) = omega (arith, length-take-le a xs (omega arith)) in
    let back : a + (m + j) ≡ k = omega arith in
    ap (λ n. get_or (put_mid a m xs ys) n 0) place
    ∙ get_or-append-add (take a xs) (ys ++ drop m (drop a xs)) (length ys + j) 0
    ∙ get_or-append-add ys (drop m (drop a xs)) j 0
    ∙ get_or-drop m (drop a xs) j 0
    ∙ get_or-drop a xs (m + j) 0
    ∙ ap (λ n. get_or xs n 0) back

length-put : (a m : ℕ) (xs ys : List ℕ) → a + m ≤ length xs → length ys ≡ m → length (put_mid a m xs ys) ≡ length xs
length-put a m xs ys fits long =
    omega (
      arith,
      length-append (take a xs) (ys ++ drop m (drop a xs)),
      length-append ys (drop m (drop a xs)),
      length-take-le a xs (omega arith),
      length-drop m (drop a xs),
      length-drop a xs,
    )

-- the pad of a word, added to the next bytes, at most four
pub adds_word : (key old now pad part : List ℕ) (p at m end : ℕ) → at ≡ 4 * p → at + m ≡ end → m ≤ 4
    → at + m ≤ length now
    → IsCipheredTo key old now (4 * p) → pad ≡ to_le_bytes w32 (stream_word key p)
    → length part ≡ length (take m (drop at now))
    → ((k : ℕ) → k < length part → get_or part k 0 ≡ bit_xor (get_or (take m (drop at now)) k 0) (get_or pad k 0))
    → IsCipheredTo key old (put_mid at m now part) end
adds_word key old now pad part p at m end place stop small fits before word same each =
    let room : m ≤ length (drop at now) = omega (arith, length-drop at now) in
    let long : length part ≡ m = same ∙ length-take-le m (drop at now) room in
    let added : (k : ℕ) → at ≤ k → k < at + m →
    get_or (put_mid at m now part) k 0 ≡ bit_xor (get_or old k 0) (stream_byte key k) = λ k from below.
    let j : ℕ = k - at in
    let in_part : j < length part = omega arith in
    let in_word : j < 4 = omega arith in
    let here : at + j ≡ k = omega arith in
    let there : 4 * p + j ≡ k = omega arith in
    let byte : get_or pad j 0 ≡ stream_byte key k =
    ap (λ bytes. get_or bytes j 0) word ∙ byte_of_word key p j in_word ∙ ap (stream_byte key) there in
    let held : get_or (take m (drop at now)) j 0 ≡ get_or old k 0 =
    get_or-take m (drop at now) j 0 (omega arith) ∙ get_or-drop at now j 0 ∙ ap (λ n. get_or now n 0) here
    ∙ before.rest k (omega arith) in
    ap (λ n. get_or (put_mid at m now part) n 0) (sym here)
    ∙ put_within at m now part j (omega arith) in_part
    ∙ each j in_part
    ∙ ap (λ n. bit_xor n (get_or pad j 0)) held
    ∙ ap (λ n. bit_xor (get_or old k 0) n) byte in
    record {
      long = length-put at m now part fits long ∙ before.long;
      front = λ k below. ⊎_elim
          (λ earlier. put_below at m now part k (omega arith) earlier ∙ before.front k (omega arith))
          (λ from. added k from (omega arith)) (cases_lt k at);
      rest = λ k above. put_above at m now part k fits long (omega arith) ∙ before.rest k (omega arith);
    }

-- where the stream was added to all bytes
pub whole_is_ciphered : (key old now : List ℕ) (n : ℕ) → n ≡ length old → IsCipheredTo key old now n
    → now ≡ ciphered key old
whole_is_ciphered key old now n all done =
    same_number_lists now (ciphered key old) (done.long ∙ sym (length-ciphered key old)) (λ k below.
    let within : k < length old = omega (arith, done.long) in
    done.front k (omega (arith, done.long)) ∙ sym (get_or-ciphered key old k within))
