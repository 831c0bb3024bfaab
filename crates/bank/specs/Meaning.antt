-- What a bank of drives means: its drives, their lengths, where each sector ends and what each cell holds.
use Rattle.std.specs.Prelude.{◌≡◌, ℕ, ◌^◌, ◌<◌, ◌≤◌, cond, ◌⊎◌, List, [], ◌∷◌, length, replicate, Some, None, Option, ◌==◌, slice_index}
use mathlib.Core.List.{Memᴰ}

-- A cell holds the 512 bytes of one sector of one drive, and is named by the two.
pub record Cell : Type 0 where
  pub drive : ℕ
  pub sector : ℕ

abbrev pub at : ℕ → ℕ → Cell
at d s = record { drive = d; sector = s }

-- Where a sector is read from: a cell, zeros that no cell holds, or a cause why not.
pub data ReadEnd : Type 0 where
  cell : Cell → ReadEnd
  zeros : ReadEnd
  unread : ℕ → ReadEnd

-- Where a sector is written to: some cells, perhaps none, or a cause why not.
pub data WriteEnd : Type 0 where
  cells : List Cell → WriteEnd
  unwritten : ℕ → WriteEnd

pub record Meaning : Type 0 where
  pub drives : ℕ
  pub size : ℕ → ℕ
  pub reads : ℕ → ℕ → ReadEnd
  pub writes : ℕ → ℕ → WriteEnd
  pub holds : Cell → List ℕ

-- the cause of an end, if it has one
abbrev pub refusal : ReadEnd → Option ℕ
refusal (cell c) = None
refusal zeros = None
refusal (unread n) = Some n

abbrev pub cause_of : WriteEnd → Option ℕ
cause_of (cells cs) = None
cause_of (unwritten n) = Some n

-- the cells that a write to an end reaches
abbrev pub cells_of : WriteEnd → List Cell
cells_of (cells cs) = cs
cells_of (unwritten n) = []

-- Inside a drive's length a sector can be unreadable (3), unwritable (4), of a suspended device (5),
-- of an error row (6) or of a flakey row that is down (7).
abbrev pub Own : Option ℕ → Type 0
Own None = Unit {0}
Own (Some n) = (3 ≤ n) × (n ≤ 7)

-- what a cell can hold
pub record Sector (bytes : List ℕ) : Type 0 where
  pub long : length bytes ≡ 512
  pub small : (k : ℕ) → k < 512 → slice_index bytes k < 256

-- A bank's bounds: at most 64 drives of at most 2^40 sectors, cause 1 where there is no drive, 2 at or past
-- the length, inside it only the sector's own causes, and 512 bytes in each cell.
pub record Lawful (m : Meaning) : Type 0 where
  pub few : m.drives ≤ 64
  pub short : (d : ℕ) → m.size d ≤ 2 ^ 40
  pub none : (d : ℕ) → m.drives ≤ d → m.size d ≡ 0
  pub no_drive : (d s : ℕ) → m.drives ≤ d → (m.reads d s ≡ unread 1) × (m.writes d s ≡ unwritten 1)
  pub past_end : (d s : ℕ) → d < m.drives → m.size d ≤ s → (m.reads d s ≡ unread 2) × (m.writes d s ≡ unwritten 2)
  pub inside : (d s : ℕ) → s < m.size d → Own (refusal (m.reads d s)) × Own (cause_of (m.writes d s))
  pub full : (c : Cell) → Sector (m.holds c)

-- A plain bank's sectors are read from and written to their own cells, and no others.
pub record Plainly (m : Meaning) : Type 0 where
  pub reads_own : (d s : ℕ) → (m.reads d s ≡ cell (at d s)) ⊎ ((n : ℕ) × (m.reads d s ≡ unread n))
  pub writes_own : (d s : ℕ) → (m.writes d s ≡ cells (at d s ∷ [])) ⊎ ((n : ℕ) × (m.writes d s ≡ unwritten n))

-- The end that a read of one sector into a place of n bytes meets: cause 8 goes before all others.
abbrev pub read_due : Meaning → ℕ → ℕ → ℕ → ReadEnd
read_due m d s n = cond (n == 512) (m.reads d s) (unread 8)

-- The end that a write of one sector with n bytes meets.
abbrev pub write_due : Meaning → ℕ → ℕ → ℕ → WriteEnd
write_due m d s n = cond (n == 512) (m.writes d s) (unwritten 8)

-- what a place that held some bytes holds after a read that met an end
abbrev pub filled : Meaning → ReadEnd → List ℕ → List ℕ
filled m (cell c) old = m.holds c
filled m zeros old = replicate 512 0
filled m (unread n) old = old

-- The bytes were put into the cells that were reached, and nothing else changed.
pub record Stored (before after : Meaning) (reached : List Cell) (bytes : List ℕ) : Type 0 where
  pub drives_stay : after.drives ≡ before.drives
  pub sizes_stay : (d : ℕ) → after.size d ≡ before.size d
  pub reads_stay : (d s : ℕ) → after.reads d s ≡ before.reads d s
  pub writes_stay : (d s : ℕ) → after.writes d s ≡ before.writes d s
  pub reach : (c : Cell) → Memᴰ c reached → after.holds c ≡ bytes
  pub others : (c : Cell) → (Memᴰ c reached → ⊥) → after.holds c ≡ before.holds c
