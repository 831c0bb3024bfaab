-- A memory drive before and after a write to one of its sectors.
use Rattle.std.proofs.Common.{◌≡◌, ℕ, ◌/◌, ◌^◌, ◌<◌, min, List, [], ◌∷◌, length, refl, ap, arith}
use Rattle.bank.specs.Meaning.{at, Stored}
use Rattle.bank.specs.Shapes.{one_drive, with_sector}
use Rattle.bank.proofs.Sectors.{with_sector_length, with_sector_there, with_sector_elsewhere, with_sector_bytes}
use Rattle.bank.proofs.Shapes.{Free}
use Rattle.bank.proofs.Stores.{Rewritten, one_drive_stored}
use Rattle.drives.specs.Disks.{memory, Bytes}

module _ (all u w bs : List ℕ) (s : ℕ) (h : s < min (length all / 512) (2 ^ 40)) (full : length bs ≡ 512) where
  inside : s < length all / 512
  inside = omega arith

  rewritten : Rewritten (memory all u w) (memory (with_sector all s bs) u w) s bs
  rewritten = record {
    as_long = ap (λ n. min (n / 512) (2 ^ 40)) (with_sector_length all s inside bs full);
    as_readable = refl;
    as_writable = refl;
    inside = h;
    there = with_sector_there all s inside bs full;
    elsewhere = λ t l ne. with_sector_elsewhere all s inside bs full t ne;
  }

-- what a write of bs leaves, where the bytes then are `after`
module _ (all u w after bs : List ℕ) (d s : ℕ) (f : Free (memory all u w) d s) (full : length bs ≡ 512) (e : after ≡ with_sector all s bs) where
  pub memory_stored : Stored (one_drive (memory all u w)) (one_drive (memory after u w)) (at d s ∷ []) bs
  memory_stored = rw (e, f.first) (one_drive_stored _ _ s bs (rewritten all u w bs s f.within full))

  pub memory_bytes : Bytes all → Bytes bs → Bytes after
  memory_bytes a b = rw e (with_sector_bytes all s (inside all u w bs s f.within full) bs full a b)
