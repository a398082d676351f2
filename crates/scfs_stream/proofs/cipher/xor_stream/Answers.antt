use Rattle.std.proofs.Common.{◌≡◌, ℕ, ◌+◌, ◌-◌, ◌*◌, ◌/◌, ◌%◌, ◌^◌, ◌<◌, length, get_or, refl, subst, ap, ◌∙◌, arith, w32}
use Rattle.std.specs.Int.{to_le_bytes}
use Rattle.rand_chacha.specs.ChaCha.{next_word, of_seed}
use borrow.Rule.Slice.PartMut.{put_mid}
use Rattle.scfs_stream.specs.Stream.{stream_word}
use Rattle.scfs_stream.proofs.StreamFacts.{length-ciphered, get_or-ciphered}
use Rattle.scfs_stream.proofs.CipherSteps.{adds_word, whole_is_ciphered}
use Rattle.scfs_stream.proofs.cipher.xor_stream.Goals as goal

pub words-preserved : goal.words-preserved
words-preserved c =
    let place = c.words.place in
    let word : c.next_word.result ≡ stream_word c.args.key.now place =
    ap (λ q. q.0) c.next_word.ensures ∙ ap (λ g. (next_word 10 g).0) c.words.invariant.0 in
    let next : (place + 1) % 2 ^ 68 ≡ place + 1 = omega arith in (
      ap (λ q. q.1) c.next_word.ensures ∙ ap (λ g. (next_word 10 g).1) c.words.invariant.0
          ∙ ap (λ n. record (of_seed c.args.key.now) { word_pos = n }) next,
      adds_word c.args.key.now c.args.bytes.now c.words.bytes c.to_le_bytes-pad.result c.add_pad.new.bytes
          place (4 * place) (4 * place + 4 - 4 * place) (4 * (place + 1))
          (omega arith) (omega arith) (omega arith) (omega arith)
          c.words.invariant.1 (c.to_le_bytes-pad.ensures ∙ ap (to_le_bytes w32) word)
          c.add_pad.auto.bytes c.add_pad.ensures,
    )

pub returns-clause-whole : goal.returns-clause-whole
returns-clause-whole c =
    let place = c.words.place in
    let word : c.next_word-2.result ≡ stream_word c.args.key.now place =
    ap (λ q. q.0) c.next_word-2.ensures ∙ ap (λ g. (next_word 10 g).0) c.words.invariant.0 in
    let start : ℕ = 4 * (length c.args.bytes.now / 4) in
    let left : ℕ = length c.words.bytes - start in
    whole_is_ciphered c.args.key.now c.args.bytes.now (put_mid start left c.words.bytes c.add_pad-2.new.bytes)
    (length c.args.bytes.now) refl
    (adds_word c.args.key.now c.args.bytes.now c.words.bytes c.to_le_bytes-pad-2.result c.add_pad-2.new.bytes
    place start left (length c.args.bytes.now) (omega arith) (omega arith) (omega arith) (omega arith)
    c.words.invariant.1 (c.to_le_bytes-pad-2.ensures ∙ ap (to_le_bytes w32) word)
    c.add_pad-2.auto.bytes c.add_pad-2.ensures)

pub returns-clause-each : goal.returns-clause-each
returns-clause-each c = λ i below.
    let whole = returns-clause-whole c in
    let within : i < length c.args.bytes.now =
    subst (λ n. i < n) (ap length whole ∙ length-ciphered c.args.key.now c.args.bytes.now) below in
    ap (λ bytes. get_or bytes i 0) whole ∙ get_or-ciphered c.args.key.now c.args.bytes.now i within
