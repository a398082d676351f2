-- The field of 256 elements (FIPS 197). A byte is a polynomial over two elements: its bit j is the coefficient of x^j.
-- The sum of two polynomials is the exclusive or of their numbers, `bit_xor` of the Prelude.
use Rattle.std.specs.Prelude.{ℕ, zero, suc, ◌+◌, ◌*◌, ◌%◌, ◌^◌, bit_xor}
use Rattle.std.specs.Int.{bit_at}

-- the product of two polynomials, of the second only the powers below x^n: the sum of a times x^j over its powers x^j
unfoldable pub product_of : ℕ → ℕ → ℕ → ℕ
product_of zero a b = 0
product_of (suc j) a b = bit_xor (product_of j a b) (bit_at b j * (a * 2 ^ j))

-- what is left of a polynomial of a degree below 8 + n on division by x^8 + x^4 + x^3 + x + 1, whose number is 0x11b:
-- from the highest power down to x^8, each that occurs is taken away with a multiple of the divisor
unfoldable pub remainder_of : ℕ → ℕ → ℕ
remainder_of zero p = p
remainder_of (suc n) p = remainder_of n (bit_xor p (bit_at p (8 + n) * (0x11b * 2 ^ n)))

-- the product of two bytes in the field: the remainder of their product as polynomials; of a number from 256 on, the
-- last eight bits count
unfoldable pub times : ℕ → ℕ → ℕ
unfolding product_of remainder_of
times a b = remainder_of 7 (product_of 8 (a % 256) (b % 256))

-- a to the power n
unfoldable pub power : ℕ → ℕ → ℕ
power a zero = 1
power a (suc n) = times a (power a n)

-- the inverse of a byte other than 0: the power 254, since the power 255 is 1
unfoldable pub inverse_of : ℕ → ℕ
inverse_of a = power a 254
