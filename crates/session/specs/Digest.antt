-- The digest of a buffer.
use Rattle.std.specs.Prelude.{ℕ, ◌*◌, ◌%◌, ◌^◌, List, fold, bit_xor}

-- one byte more: it is mixed in and the sum so far multiplied, in 32 bits
abbrev pub mix : ℕ → ℕ → ℕ
mix hash byte = (bit_xor hash byte * 0x01000193) % 2 ^ 32

-- 32-bit FNV-1a
abbrev pub fnv : List ℕ → ℕ
fnv bytes = fold mix 0x811c9dc5 bytes
