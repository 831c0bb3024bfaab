-- Meanings of plain banks: one drive alone, two banks side by side, and no drive at all.
use Rattle.std.specs.Prelude.{ℕ, ◌+◌, ◌-◌, ◌*◌, min, Bool, cond, ◌&&◌, List, [], ◌∷◌, ◌++◌, map, take, drop, replicate, Some, None, Option, ◌==◌, nat_le, nat_lt}
use Rattle.bank.specs.Due.{first_due}
use Rattle.bank.specs.Meaning.{Cell, at, ReadEnd, cell, zeros, unread, WriteEnd, cells, unwritten, Meaning}

-- Bytes hold sectors one behind another: the sector s of some bytes, and the bytes with another sector s.
abbrev pub cut : List ℕ → ℕ → List ℕ
cut all s = take 512 (drop (s * 512) all)

abbrev pub with_sector : List ℕ → ℕ → List ℕ → List ℕ
with_sector all s bs = take (s * 512) all ++ (bs ++ drop 512 (drop (s * 512) all))

-- One drive: its length, its bad sectors and the bytes of each sector.
pub record Disk : Type 0 where
  pub sectors : ℕ
  pub unreadable : ℕ → Bool
  pub unwritable : ℕ → Bool
  pub bytes : ℕ → List ℕ

-- A bank's only drive has the number 0, and its sectors lie below its length.
abbrev pub place_causes : ℕ → ℕ → ℕ → List (ℕ × Bool)
place_causes sectors d s = (1, nat_le 1 d) ∷ (2, nat_le sectors s) ∷ []

abbrev pub read_causes : Disk → ℕ → ℕ → List (ℕ × Bool)
read_causes k d s = place_causes k.sectors d s ++ ((3, k.unreadable s) ∷ [])

abbrev pub write_causes : Disk → ℕ → ℕ → List (ℕ × Bool)
write_causes k d s = place_causes k.sectors d s ++ ((4, k.unwritable s) ∷ [])

-- a sector's own cell, unless a cause is due
abbrev pub own_read : ℕ → ℕ → Option ℕ → ReadEnd
own_read d s None = cell (at d s)
own_read d s (Some n) = unread n

abbrev pub own_write : ℕ → ℕ → Option ℕ → WriteEnd
own_write d s None = cells (at d s ∷ [])
own_write d s (Some n) = unwritten n

-- what a cell that lies on no sector counts as holding; no end of a plain bank names one
abbrev pub blank : List ℕ
blank = replicate 512 0

-- a bank of one drive
abbrev pub one_drive : Disk → Meaning
one_drive k = record {
  drives = 1;
  size = λ d. cond (d == 0) k.sectors 0;
  reads = λ d s. own_read d s (first_due (read_causes k d s));
  writes = λ d s. own_write d s (first_due (write_causes k d s));
  holds = λ c. cond (c.drive == 0 && nat_lt c.sector k.sectors) (k.bytes c.sector) blank;
}

-- a bank of no drive
abbrev pub no_drives : Meaning
no_drives = record {
  drives = 0;
  size = λ d. 0;
  reads = λ d s. unread 1;
  writes = λ d s. unwritten 1;
  holds = λ c. blank;
}

-- Cells and ends of a bank whose drives are numbered from n on in another.
abbrev pub moved : ℕ → Cell → Cell
moved n c = at (n + c.drive) c.sector

abbrev pub moved_read : ℕ → ReadEnd → ReadEnd
moved_read n (cell c) = cell (moved n c)
moved_read n zeros = zeros
moved_read n (unread e) = unread e

abbrev pub moved_write : ℕ → WriteEnd → WriteEnd
moved_write n (cells cs) = cells (map (moved n) cs)
moved_write n (unwritten e) = unwritten e

-- of two banks the drives of l and then those of r, but at most 64
abbrev pub both_drives : Meaning → Meaning → ℕ
both_drives l r = min (l.drives + r.drives) 64

-- x of the left bank's drives, y of the right bank's, z of a drive that neither has
abbrev pub by_side : {X : Type 0} → Meaning → Meaning → ℕ → X → X → X → X
by_side l r d x y z = cond (nat_lt d (both_drives l r)) (cond (nat_lt d l.drives) x y) z

-- two banks side by side
abbrev pub beside : Meaning → Meaning → Meaning
beside l r = record {
  drives = both_drives l r;
  size = λ d. by_side l r d (l.size d) (r.size (d - l.drives)) 0;
  reads = λ d s. by_side l r d (l.reads d s) (moved_read l.drives (r.reads (d - l.drives) s)) (unread 1);
  writes = λ d s. by_side l r d (l.writes d s) (moved_write l.drives (r.writes (d - l.drives) s)) (unwritten 1);
  holds = λ c. cond (nat_lt c.drive l.drives) (l.holds c) (r.holds (at (c.drive - l.drives) c.sector));
}
