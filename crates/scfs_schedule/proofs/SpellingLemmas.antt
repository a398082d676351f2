use Rattle.std.proofs.Common.{◌≡◌, ℕ, ◌<◌, ◌-◌, ◌^◌, [], ◌∷◌, Bool, true, false, cond, ap, ◌∙◌, sym, arith}
use Rattle.std.proofs.lemmas.Bool.Decides.{nat_tests}
use Rattle.std.proofs.lemmas.Fmt.{hex_byte}
use Rattle.std.proofs.lemmas.Str.{encode_ascii}
use Rattle.std.specs.Fmt.{padded_integral, format_spec, digits}
use Rattle.std.specs.Prelude.{encode_utf8}
use Rattle.scfs_base.specs.Words.{stands_for_itself, hex_pair, path_byte}

-- a byte that stands for itself
pub plain_byte : (byte c : ℕ) (test : Bool) → test ≡ stands_for_itself byte → test ≡ true → c ≡ byte → encode_utf8 c ≡ path_byte byte
unfolding path_byte
plain_byte byte c test is passes same =
    let stands : stands_for_itself byte ≡ true = sym is ∙ passes in
    let small : byte < 128 = grind (arith, nat_tests, stands) in
    ap encode_utf8 same ∙ encode_ascii byte small ∙ sym (ap (λ t. cond t (byte ∷ []) (37 ∷ hex_pair byte)) stands)

-- another byte
pub escaped_byte : (byte : ℕ) (test : Bool) → test ≡ stands_for_itself byte → test ≡ false → 37 ∷ hex_pair byte ≡ path_byte byte
unfolding path_byte
escaped_byte byte test is other = sym (ap (λ t. cond t (byte ∷ []) (37 ∷ hex_pair byte)) (sym is ∙ other))

-- what `{:02x}` writes of a byte
pub pair_text : (byte : ℕ) → byte < 256 → padded_integral (format_spec 32 0 4 2 (2 ^ 64 - 1)) false [] (digits 16 false byte) ≡ hex_pair byte
unfolding hex_pair
pair_text byte small = hex_byte false byte small
