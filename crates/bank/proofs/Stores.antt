-- What a write leaves of a bank, in each shape: laws for whoever builds a bank of these shapes.
use Rattle.std.proofs.Common.{◌≡◌, ℕ, ◌+◌, ◌-◌, ◌<◌, ◌≤◌, min, true, cond, ◌&&◌, eqb, ltb, List, [], ◌∷◌, map, length, Some, sym, refl, ap, ◌∙◌, ⊎_elim, arith}
use mathlib.Core.List.Memᴰ
use mathlib.Core.List.{Memᴰ}
use Rattle.std.proofs.lemmas.Bool.{lt-ltb, le-ltb, eq-eqb, ne_eqb, eqb-true, cases_eq, cases_lt, cases_Bool, cond-true, cond-false, and_parts, and_from, ltb-true}
use Rattle.bank.specs.Due.{first_due}
use Rattle.bank.specs.Meaning.{Cell, at, WriteEnd, cells, unwritten, cause_of, cells_of, write_due, Meaning, Stored, Plainly}
use Rattle.bank.proofs.Dues.{write_sized, write_unsized}
use Rattle.bank.proofs.Shapes.{side_left, side_right, side_neither, moved_write_cause, moved_write_cells}
use Rattle.bank.specs.Shapes.{Disk, blank, one_drive, no_drives, moved, moved_write, both_drives, beside, own_read, own_write, read_causes, write_causes}

-- a write that reaches no cell, of whatever bytes
pub nothing_stored : (m : Meaning) (bs : List ℕ) → Stored m m [] bs
nothing_stored m bs = record {
  drives_stay = refl;
  sizes_stay = λ d. refl;
  reads_stay = λ d s. refl;
  writes_stay = λ d s. refl;
  reach = λ c e. absurd (Memᴰ.not-nil e);
  others = λ c e. refl;
}

pub same_cell : (c : Cell) (d s : ℕ) → c.drive ≡ d → c.sector ≡ s → c ≡ at d s
same_cell c d s p q = λ i. at (p i) (q i)

-- A drive whose bytes were changed at the sector t alone.
pub record Rewritten (k k' : Disk) (t : ℕ) (bs : List ℕ) : Type 0 where
  pub as_long : k'.sectors ≡ k.sectors
  pub as_readable : k'.unreadable ≡ k.unreadable
  pub as_writable : k'.unwritable ≡ k.unwritable
  pub inside : t < k.sectors
  pub there : k'.bytes t ≡ bs
  pub elsewhere : (s : ℕ) → s < k.sectors → (s ≡ t → ⊥) → k'.bytes s ≡ k.bytes s

module _ (k k' : Disk) (t : ℕ) (bs : List ℕ) (w : Rewritten k k' t bs) where
  held_there : (c : Cell) → c ≡ at 0 t → (one_drive k').holds c ≡ bs
  held_there c e =
      let in-front : eqb c.drive 0 ≡ true = eq-eqb _ _ (ap (λ x. x.drive) e) in
      let below : ltb c.sector k'.sectors ≡ true = lt-ltb _ _ (rw (ap (λ x. x.sector) e, w.as_long) w.inside) in
      cond-true _ _ blank (and_from _ _ in-front below) ∙ ap k'.bytes (ap (λ x. x.sector) e) ∙ w.there

  held_elsewhere : (c : Cell) → (c ≡ at 0 t → ⊥) → (one_drive k').holds c ≡ (one_drive k).holds c
  held_elsewhere c ne =
      let test : (eqb c.drive 0 && ltb c.sector k'.sectors) ≡ (eqb c.drive 0 && ltb c.sector k.sectors) = ap (λ n. eqb c.drive 0 && ltb c.sector n) w.as_long in
      ap (λ b. cond b (k'.bytes c.sector) blank) test
      ∙ ⊎_elim
      (λ e. cond-true _ _ blank e ∙ w.elsewhere c.sector (ltb-true _ _ (and_parts _ _ e).1) (λ s. ne (same_cell c 0 t (eqb-true c.drive 0 (and_parts (eqb c.drive 0) (ltb c.sector k.sectors) e).0) s)) ∙ sym (cond-true _ _ blank e))
      (λ e. cond-false _ _ blank e ∙ sym (cond-false _ _ blank e))
      (cases_Bool (eqb c.drive 0 && ltb c.sector k.sectors))

  pub one_drive_stored : Stored (one_drive k) (one_drive k') (at 0 t ∷ []) bs
  one_drive_stored = record {
    drives_stay = refl;
    sizes_stay = λ d. ap (λ n. cond (eqb d 0) n 0) w.as_long;
    reads_stay = λ d s. ap (λ u. own_read d s (first_due (read_causes (record { sectors = k'.sectors; unreadable = u; unwritable = k.unwritable; bytes = k.bytes }) d s))) w.as_readable ∙ ap (λ n. own_read d s (first_due (read_causes (record { sectors = n; unreadable = k.unreadable; unwritable = k.unwritable; bytes = k.bytes }) d s))) w.as_long;
    writes_stay = λ d s. ap (λ u. own_write d s (first_due (write_causes (record { sectors = k'.sectors; unreadable = k.unreadable; unwritable = u; bytes = k.bytes }) d s))) w.as_writable ∙ ap (λ n. own_write d s (first_due (write_causes (record { sectors = n; unreadable = k.unreadable; unwritable = k.unwritable; bytes = k.bytes }) d s))) w.as_long;
    reach = λ c e. held_there c (Memᴰ.eq_of_singleton e);
    others = λ c e. held_elsewhere c (λ s. e (Memᴰ.head s));
  }

-- Side by side, a write to the left bank that reaches only the left bank's drives.
module _ (l l' r : Meaning) (cs : List Cell) (bs : List ℕ) (w : Stored l l' cs bs) where
  left_held : (c : Cell) → c.drive < l.drives → (beside l' r).holds c ≡ l'.holds c
  left_held c h = let k : c.drive < l'.drives = rw w.drives_stay h in cond-true _ _ _ (lt-ltb _ _ k)

  left_others : (c : Cell) → (Memᴰ c cs → ⊥) → (beside l' r).holds c ≡ (beside l r).holds c
  left_others c e =
      ⊎_elim
      (λ h. left_held c h ∙ w.others c e ∙ sym (cond-true _ _ _ (lt-ltb _ _ h)))
      (λ h. rw w.drives_stay (cond-false _ _ _ (le-ltb _ _ h) ∙ sym (cond-false _ _ _ (le-ltb _ _ h))))
      (cases_lt c.drive l.drives)

  pub left_stored : ((c : Cell) → Memᴰ c cs → c.drive < l.drives) → Stored (beside l r) (beside l' r) cs bs
  left_stored own = record {
    drives_stay = ap (λ n. min (n + r.drives) 64) w.drives_stay;
    sizes_stay = λ d. simp (w.drives_stay, w.sizes_stay);
    reads_stay = λ d s. simp (w.drives_stay, w.reads_stay);
    writes_stay = λ d s. simp (w.drives_stay, w.writes_stay);
    reach = λ c e. left_held c (own c e) ∙ w.reach c e;
    others = left_others;
  }

-- membership in the cells of the right bank as they are numbered side by side
pub unmoved : (n : ℕ) (c : Cell) (cs : List Cell) → Memᴰ c (map (moved n) cs) → (b : Cell) × Memᴰ b cs × (c ≡ moved n b)
unmoved n c [] e = absurd (Memᴰ.not-nil e)
unmoved n c (b ∷ cs) (Memᴰ.head e) = (b, Memᴰ.head refl, e)
unmoved n c (b ∷ cs) (Memᴰ.tail e) = let u = unmoved n c cs e in (u.0, Memᴰ.tail u.1, u.2)

pub removed : (n : ℕ) (b : Cell) (cs : List Cell) → Memᴰ b cs → Memᴰ (moved n b) (map (moved n) cs)
removed n b [] e = absurd (Memᴰ.not-nil e)
removed n b (x ∷ cs) (Memᴰ.head e) = Memᴰ.head (ap (moved n) e)
removed n b (x ∷ cs) (Memᴰ.tail e) = Memᴰ.tail (removed n b cs e)

-- Side by side, any write to the right bank.
module _ (l r r' : Meaning) (cs : List Cell) (bs : List ℕ) (w : Stored r r' cs bs) where
  right_reach : (c : Cell) → Memᴰ c (map (moved l.drives) cs) → (beside l r').holds c ≡ bs
  right_reach c e =
      let u = unmoved l.drives c cs e in
      let drive : c.drive ≡ l.drives + u.0.drive = ap (λ x. x.drive) u.2 in
      let above : l.drives ≤ c.drive = omega arith in
      let same : at (c.drive - l.drives) c.sector ≡ u.0 = same_cell (at (c.drive - l.drives) c.sector) u.0.drive u.0.sector (omega arith) (ap (λ x. x.sector) u.2) in
      cond-false _ _ _ (le-ltb _ _ above) ∙ ap r'.holds same ∙ w.reach u.0 u.1

  right_others : (c : Cell) → (Memᴰ c (map (moved l.drives) cs) → ⊥) → (beside l r').holds c ≡ (beside l r).holds c
  right_others c e =
      ⊎_elim
      (λ h. cond-true _ _ _ (lt-ltb _ _ h) ∙ sym (cond-true _ _ _ (lt-ltb _ _ h)))
      (λ h. let same : moved l.drives (at (c.drive - l.drives) c.sector) ≡ c = ap (λ x. at x c.sector) (omega arith) in
      cond-false _ _ _ (le-ltb _ _ h) ∙ w.others (at (c.drive - l.drives) c.sector) (λ m. e (rw same at (removed l.drives _ cs m))) ∙ sym (cond-false _ _ _ (le-ltb _ _ h)))
      (cases_lt c.drive l.drives)

  pub right_stored : Stored (beside l r) (beside l r') (map (moved l.drives) cs) bs
  right_stored = record {
    drives_stay = ap (λ n. min (l.drives + n) 64) w.drives_stay;
    sizes_stay = λ d. simp (w.drives_stay, w.sizes_stay);
    reads_stay = λ d s. simp (w.drives_stay, w.reads_stay);
    writes_stay = λ d s. simp (w.drives_stay, w.writes_stay);
    reach = right_reach;
    others = right_others;
  }

-- A write that met a cause reached no cell.
pub refused_stored : (m : Meaning) (e : WriteEnd) (n : ℕ) (bs : List ℕ) → Some n ≡ cause_of e → Stored m m (cells_of e) bs
refused_stored m (cells cs) n bs h = let z : ◌≡◌ {A = ℕ} 0 1 = cc in absurd (omega arith)
refused_stored m (unwritten c) n bs h = nothing_stored m bs

-- What a write promises where it answers a cause and leaves the bank as it is.
pub refused_write : (m : Meaning) (d s : ℕ) (bs : List ℕ) (n : ℕ) → length bs ≡ 512 → Some n ≡ cause_of (m.writes d s) → (Some n ≡ cause_of (write_due m d s (length bs))) × Stored m m (cells_of (write_due m d s (length bs))) bs
refused_write m d s bs n full e = rw (write_sized m d s (length bs) full) (e, refused_stored m (m.writes d s) n bs e)

pub unsized_write : (m : Meaning) (d s : ℕ) (bs : List ℕ) → (length bs ≡ 512 → ⊥) → (Some 8 ≡ cause_of (write_due m d s (length bs))) × Stored m m (cells_of (write_due m d s (length bs))) bs
unsized_write m d s bs odd = rw (write_unsized m d s (length bs) odd) (refl, nothing_stored m bs)

-- A plain bank's write reaches the drive that was named.
own_drive : (m : Meaning) (d s : ℕ) → Plainly m → (c : Cell) → Memᴰ c (cells_of (m.writes d s)) → c.drive ≡ d
own_drive m d s plain c e =
    ⊎_elim
    (λ p. ap (λ x. x.drive) (Memᴰ.eq_of_singleton (rw p at e)))
    (λ p. absurd (Memᴰ.not-nil (rw p.1 at e)))
    (plain.writes_own d s)

-- Writes through one of two banks side by side. Each is the same write of the bank whose drive was named.
module _ (l r : Meaning) (d s : ℕ) (bs : List ℕ) (full : length bs ≡ 512) (shown : d < both_drives l r) where
  left_due : d < l.drives → write_due (beside l r) d s (length bs) ≡ write_due l d s (length bs)
  left_due h = write_sized (beside l r) d s _ full ∙ side_left l r d _ _ _ shown h ∙ sym (write_sized l d s _ full)

  right_due : l.drives ≤ d → write_due (beside l r) d s (length bs) ≡ moved_write l.drives (write_due r (d - l.drives) s (length bs))
  right_due h =
      write_sized (beside l r) d s _ full ∙ side_right l r d _ _ _ shown h ∙ ap (moved_write l.drives) (sym (write_sized r (d - l.drives) s _ full))

  pub left_cause : d < l.drives → cause_of (write_due l d s (length bs)) ≡ cause_of (write_due (beside l r) d s (length bs))
  left_cause h = ap cause_of (sym (left_due h))

  pub right_cause : l.drives ≤ d → cause_of (write_due r (d - l.drives) s (length bs)) ≡ cause_of (write_due (beside l r) d s (length bs))
  right_cause h = sym (ap cause_of (right_due h) ∙ moved_write_cause l.drives _)

  pub left_write : (l' : Meaning) → Plainly l → d < l.drives → Stored l l' (cells_of (write_due l d s (length bs))) bs → Stored (beside l r) (beside l' r) (cells_of (write_due (beside l r) d s (length bs))) bs
  left_write l' plain h w =
      let named : (c : Cell) → Memᴰ c (cells_of (write_due l d s (length bs))) → c.drive < l.drives = λ c e. omega (arith, own_drive l d s plain c (rw (write_sized l d s (length bs) full) at e)) in
      rw (left_due h) (left_stored l l' r _ bs w named)

  pub right_write : (r' : Meaning) → l.drives ≤ d → Stored r r' (cells_of (write_due r (d - l.drives) s (length bs))) bs → Stored (beside l r) (beside l r') (cells_of (write_due (beside l r) d s (length bs))) bs
  right_write r' h w = rw (right_due h, moved_write_cells) (right_stored l r r' _ bs w)

-- of a drive that neither bank has
pub neither_cause : (l r : Meaning) (d s : ℕ) → both_drives l r ≤ d → Some 1 ≡ cause_of ((beside l r).writes d s)
neither_cause l r d s h = ap cause_of (sym (side_neither l r d _ _ _ h))

-- a write to a bank of no drive
pub absent_write : (m : Meaning) (d s : ℕ) (bs : List ℕ) (n : ℕ) → m ≡ no_drives → n ≡ cond (eqb (length bs) 512) 1 8 → (Some n ≡ cause_of (write_due m d s (length bs))) × Stored m m (cells_of (write_due m d s (length bs))) bs
absent_write m d s bs n none e =
    ⊎_elim
    (λ (full : length bs ≡ 512). refused_write m d s bs n full (ap Some (e ∙ cond-true _ 1 8 (eq-eqb _ 512 full)) ∙ sym (ap (λ x. cause_of (x.writes d s)) none)))
    (λ (odd : length bs ≡ 512 → ⊥). rw (e ∙ cond-false _ 1 8 (ne_eqb _ 512 odd)) (unsized_write m d s bs odd))
    (cases_eq (length bs) 512)
