-- The bytes that grow from a seed.
use Rattle.std.specs.Prelude.{ℕ, ◌+◌, ◌*◌, ◌/◌, ◌%◌, List, map}
use Rattle.std.specs.List.{range_with_len}

-- the byte at a place, which counts on through a sector of 512 and starts 31 later in the next
abbrev pub seed_byte : ℕ → ℕ → ℕ
seed_byte seed j = (seed + 31 * (j / 512) + j % 512) % 256

-- so many bytes from a seed
abbrev pub sown : ℕ → ℕ → List ℕ
sown seed n = map (seed_byte seed) (range_with_len 0 n)
