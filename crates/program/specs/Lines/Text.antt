-- Bytes of the output: ASCII texts, decimal numbers, bit patterns in hexadecimal, and how they get into a buffer.
use Rattle.std.specs.Prelude.{ℕ, zero, suc, ◌+◌, ◌*◌, ◌-◌, ◌/◌, ◌%◌, ◌^◌, ◌≤◌, ◌≡◌, true, false, cond, List, ◌++◌, length, ltb}
use Prim.Native.String.{String, [], ◌∷◌}
use Prim.Native.Char.{code}
use Rattle.std.proofs.lemmas.List.Edits.{sets}

-- the bytes of an ASCII text
unfoldable pub ascii : String → List ℕ
ascii [] = List.[]
ascii (c ∷ s) = List.◌∷◌ (code c) (ascii s)

-- one byte
abbrev pub byte : ℕ → List ℕ
byte b = List.◌∷◌ b List.[]

-- a number in decimal, with no zero in front, as long as it has at most so many digits
unfoldable pub decimal_up_to : ℕ → ℕ → List ℕ
decimal_up_to zero n = List.[]
decimal_up_to (suc k) n = elim (ltb n 10) [ true ↦ byte (48 + n) | false ↦ decimal_up_to k (n / 10) ++ byte (48 + n % 10) ]

-- a u64 has at most 20 digits
unfoldable pub decimal : ℕ → List ℕ
decimal n = decimal_up_to 20 n

-- a hexadecimal digit, in lower case
unfoldable pub hex_digit : ℕ → ℕ
hex_digit d = cond (ltb d 10) (48 + d) (87 + d)

-- the first k of the 16 hexadecimal digits of a u64, the highest first
unfoldable pub hex_up_to : ℕ → ℕ → List ℕ
hex_up_to n zero = List.[]
hex_up_to n (suc k) = hex_up_to n k ++ byte (hex_digit (n / 2 ^ (60 - 4 * k) % 16))

unfoldable pub hex : ℕ → List ℕ
hex n = hex_up_to n 16

-- These bytes were stored one after the other from `at` on, up to `end`, all within the buffer, of which nothing else changed.
pub record Put (before : List ℕ) (at : ℕ) (bytes : List ℕ) (after : List ℕ) (end : ℕ) : Type 0 where
  pub stored : after ≡ sets before at bytes
  pub ends : end ≡ at + length bytes
  pub within : end ≤ length before
