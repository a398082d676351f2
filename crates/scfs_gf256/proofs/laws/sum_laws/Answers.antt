use Rattle.std.specs.Int.Bits.{xor_assoc, xor_comm, xor_zero_r, xor_self}
use Rattle.scfs_gf256.proofs.Bytes.{xor-byte}
use Rattle.scfs_gf256.proofs.laws.sum_laws.Goals as goal

pub returns : goal.returns
returns c =
    record { byte = xor-byte; associative = xor_assoc; commutative = xor_comm; zero = xor_zero_r; opposite = xor_self }
