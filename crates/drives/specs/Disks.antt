-- The drives of this crate: what each has on its sectors, and which of them are bad.
use Rattle.std.specs.Prelude.{ℕ, ◌/◌, ◌^◌, ◌<◌, min, Bool, true, false, List, length, take, replicate, ◌==◌, slice_index}
use Rattle.std.specs.List.{list_any}
use Rattle.bank.specs.Shapes.{Disk, cut}

-- whether a number stands in a list
abbrev pub listed : ℕ → List ℕ → Bool
listed n xs = list_any (λ x. x == n) xs

-- A drive over some bytes: its whole sectors, at most 2^40, with the first 8 of each list bad.
abbrev pub memory : List ℕ → List ℕ → List ℕ → Disk
memory all unreadable unwritable = record {
  sectors = min (length all / 512) (2 ^ 40);
  unreadable = λ s. listed s (take 8 unreadable);
  unwritable = λ s. listed s (take 8 unwritable);
  bytes = cut all;
}

-- A drive that can only be read: at most 256 sectors, and every byte of sector s is s.
abbrev pub rom : ℕ → Disk
rom n = record {
  sectors = min n 256;
  unreadable = λ s. false;
  unwritable = λ s. true;
  bytes = λ s. replicate 512 s;
}

-- each of some numbers is a byte
abbrev pub Bytes : List ℕ → Type 0
Bytes all = (k : ℕ) → slice_index all k < 256
