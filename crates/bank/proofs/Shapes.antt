-- One drive, and two banks side by side, are lawful and plain.
use Rattle.std.proofs.Common.{◌≡◌, ℕ, ◌-◌, ◌^◌, ◌<◌, ◌≤◌, Bool, true, false, cond, ◌&&◌, eqb, ltb, leb, ◌⊎◌, [], ◌∷◌, map, Some, None, Option, refl, ap, ◌∙◌, inl, inr, ⊎_elim, arith}
use Rattle.std.proofs.lemmas.Bool.{lt-ltb, le-ltb, le-leb, lt-leb, eq-eqb, ne_eqb, eqb-true, cond_both, cases_lt, cases_Bool, cond-true, cond-false, and_parts, and_from, ltb-true, leb-false}
use Rattle.bank.specs.Due.{first_due}
use Rattle.bank.specs.Meaning.{at, ReadEnd, cell, zeros, unread, WriteEnd, cells, unwritten, Meaning, Lawful, Plainly, Sector, Own, refusal, cause_of, cells_of}
use Rattle.bank.specs.Absent.{blank_sector, not_below_zero}
use Rattle.bank.specs.Shapes.{Disk, read_causes, write_causes, own_read, own_write, blank, one_drive, moved, moved_read, moved_write, both_drives, by_side, beside}

own_read_either : (d s : ℕ) (o : Option ℕ) → (own_read d s o ≡ cell (at d s)) ⊎ ((n : ℕ) × (own_read d s o ≡ unread n))
own_read_either d s None = inl refl
own_read_either d s (Some n) = inr (n, refl)

own_write_either : (d s : ℕ) (o : Option ℕ) → (own_write d s o ≡ cells (at d s ∷ [])) ⊎ ((n : ℕ) × (own_write d s o ≡ unwritten n))
own_write_either d s None = inl refl
own_write_either d s (Some n) = inr (n, refl)

pub one_drive_plain : (k : Disk) → Plainly (one_drive k)
one_drive_plain k = record {
  reads_own = λ d s. own_read_either d s (first_due (read_causes k d s));
  writes_own = λ d s. own_write_either d s (first_due (write_causes k d s));
}

-- the one cause that a sector of a single drive can have of its own
own_cause : (n d s : ℕ) (b : Bool) → 3 ≤ n → n ≤ 7 → Own (refusal (own_read d s (cond b (Some n) None))) × Own (cause_of (own_write d s (cond b (Some n) None)))
own_cause n d s true h l = ((h, l), (h, l))
own_cause n d s false h l = (tt, tt)

within_one : (k : Disk) (d s : ℕ) → s < (one_drive k).size d → (d ≡ 0) × (s < k.sectors)
within_one k d s h =
    ⊎_elim (λ (e : eqb d 0 ≡ true). (eqb-true d 0 e, rw (cond-true (eqb d 0) k.sectors 0 e) at h)) (λ (e : eqb d 0 ≡ false). absurd (not_below_zero (rw (cond-false (eqb d 0) k.sectors 0 e) at h))) (cases_Bool (eqb d 0))

pub one_drive_lawful : (k : Disk) → k.sectors ≤ 2 ^ 40 → ((s : ℕ) → s < k.sectors → Sector (k.bytes s)) → Lawful (one_drive k)
one_drive_lawful k short sound = record {
  few = omega arith;
  short = λ d. cond_both (eqb d 0) k.sectors 0 (λ x. x ≤ 2 ^ 40) (λ e. short) (λ e. omega arith);
  none = λ d h. cond-false (eqb d 0) k.sectors 0 (ne_eqb d 0 (omega arith));
  no_drive = λ d s h. rw (le-leb 1 d h) (refl, refl);
  past_end = λ d s h l. let long : k.sectors ≤ s = rw (cond-true (eqb d 0) k.sectors 0 (eq-eqb d 0 (omega arith))) at l in rw (lt-leb 1 d h, le-leb k.sectors s long) (refl, refl);
  inside = λ d s h. let w = within_one k d s h in let low : d < 1 = omega (arith, w.0) in rw (lt-leb 1 d low, lt-leb k.sectors s w.1) ((own_cause 3 d s (k.unreadable s) (omega arith) (omega arith)).0, (own_cause 4 d s (k.unwritable s) (omega arith) (omega arith)).1);
  full = λ c. cond_both (eqb c.drive 0 && ltb c.sector k.sectors) (k.bytes c.sector) blank Sector (λ e. sound c.sector (ltb-true _ _ (and_parts _ _ e).1)) (λ e. blank_sector);
}

-- Two banks side by side. A drive is the left bank's, the right bank's or neither's.
data Side (l r : Meaning) (d : ℕ) : Type 0 where
  on_left : d < both_drives l r → d < l.drives → Side l r d
  on_right : d < both_drives l r → l.drives ≤ d → Side l r d
  on_neither : both_drives l r ≤ d → Side l r d

side : (l r : Meaning) (d : ℕ) → Side l r d
side l r d =
    ⊎_elim (λ h. ⊎_elim (λ k. on_left h k) (λ k. on_right h k) (cases_lt d l.drives)) (λ h. on_neither h) (cases_lt d (both_drives l r))

module _ {X : Type 0} (l r : Meaning) (d : ℕ) (x y z : X) where
  pub side_left : d < both_drives l r → d < l.drives → by_side l r d x y z ≡ x
  side_left h k = cond-true _ _ z (lt-ltb d _ h) ∙ cond-true _ x y (lt-ltb d _ k)

  pub side_right : d < both_drives l r → l.drives ≤ d → by_side l r d x y z ≡ y
  side_right h k = cond-true _ _ z (lt-ltb d _ h) ∙ cond-false _ x y (le-ltb d _ k)

  pub side_neither : both_drives l r ≤ d → by_side l r d x y z ≡ z
  side_neither h = cond-false _ _ z (le-ltb d _ h)

moved_read_own : (n : ℕ) (e : ReadEnd) → Own (refusal e) → Own (refusal (moved_read n e))
moved_read_own n (cell c) h = tt
moved_read_own n zeros h = tt
moved_read_own n (unread e) h = h

pub moved_write_cause : (n : ℕ) (e : WriteEnd) → cause_of (moved_write n e) ≡ cause_of e
moved_write_cause n (cells cs) = refl
moved_write_cause n (unwritten e) = refl

pub moved_write_cells : (n : ℕ) (e : WriteEnd) → cells_of (moved_write n e) ≡ map (moved n) (cells_of e)
moved_write_cells n (cells cs) = refl
moved_write_cells n (unwritten e) = refl

module _ (l r : Meaning) (left : Lawful l) (right : Lawful r) where
  beside_short : (d : ℕ) → Side l r d → (beside l r).size d ≤ 2 ^ 40
  beside_short d (on_left h k) = rw (side_left l r d _ _ _ h k) (left.short d)
  beside_short d (on_right h k) = rw (side_right l r d _ _ _ h k) (right.short (d - l.drives))
  beside_short d (on_neither h) = rw (side_neither l r d _ _ _ h) (omega arith)

  beside_past : (d s : ℕ) → Side l r d → d < both_drives l r → (beside l r).size d ≤ s → ((beside l r).reads d s ≡ unread 2) × ((beside l r).writes d s ≡ unwritten 2)
  beside_past d s (on_left h k) b p =
      let e = left.past_end d s k (rw (side_left l r d _ _ _ h k) at p) in
      (side_left l r d _ _ _ h k ∙ e.0, side_left l r d _ _ _ h k ∙ e.1)
  beside_past d s (on_right h k) b p =
      let e = right.past_end (d - l.drives) s (omega arith) (rw (side_right l r d _ _ _ h k) at p) in
      (side_right l r d _ _ _ h k ∙ ap (moved_read l.drives) e.0, side_right l r d _ _ _ h k ∙ ap (moved_write l.drives) e.1)
  beside_past d s (on_neither h) b p = absurd (omega arith)

  beside_inside : (d s : ℕ) → Side l r d → s < (beside l r).size d → Own (refusal ((beside l r).reads d s)) × Own (cause_of ((beside l r).writes d s))
  beside_inside d s (on_left h k) p =
      let e = left.inside d s (rw (side_left l r d _ _ _ h k) at p) in
      rw (side_left l r d (l.reads d s) _ _ h k, side_left l r d (l.writes d s) _ _ h k) e
  beside_inside d s (on_right h k) p =
      let e = right.inside (d - l.drives) s (rw (side_right l r d _ _ _ h k) at p) in
      rw (side_right l r d (l.reads d s) _ _ h k, side_right l r d (l.writes d s) _ _ h k, moved_write_cause) (moved_read_own l.drives _ e.0, e.1)
  beside_inside d s (on_neither h) p = absurd (not_below_zero (rw (side_neither l r d _ _ _ h) at p))

  pub beside_lawful : Lawful (beside l r)
  beside_lawful = record {
    few = omega arith;
    short = λ d. beside_short d (side l r d);
    none = λ d h. side_neither l r d _ _ _ h;
    no_drive = λ d s h. (side_neither l r d _ _ _ h, side_neither l r d _ _ _ h);
    past_end = λ d s h p. beside_past d s (side l r d) h p;
    inside = λ d s h. beside_inside d s (side l r d) h;
    full = λ c. cond_both (ltb c.drive l.drives) (l.holds c) (r.holds (at (c.drive - l.drives) c.sector)) Sector (λ e. left.full c) (λ e. right.full (at (c.drive - l.drives) c.sector));
  }

-- The right bank's own cell is, side by side, the own cell of the drive's new number.
back : (n d s : ℕ) → n ≤ d → moved n (at (d - n) s) ≡ at d s
back n d s h = ap (λ x. at x s) (omega arith)

module _ (l r : Meaning) (left : Plainly l) (right : Plainly r) where
  beside_reads_own : (d s : ℕ) → Side l r d → ((beside l r).reads d s ≡ cell (at d s)) ⊎ ((n : ℕ) × ((beside l r).reads d s ≡ unread n))
  beside_reads_own d s (on_left h k) = rw (side_left l r d (l.reads d s) _ _ h k) (left.reads_own d s)
  beside_reads_own d s (on_right h k) =
      rw (side_right l r d (l.reads d s) _ _ h k) (⊎_elim (λ e. inl (ap (moved_read l.drives) e ∙ ap cell (back l.drives d s k))) (λ e. inr (e.0, ap (moved_read l.drives) e.1)) (right.reads_own (d - l.drives) s))
  beside_reads_own d s (on_neither h) = inr (1, side_neither l r d _ _ _ h)

  beside_writes_own : (d s : ℕ) → Side l r d → ((beside l r).writes d s ≡ cells (at d s ∷ [])) ⊎ ((n : ℕ) × ((beside l r).writes d s ≡ unwritten n))
  beside_writes_own d s (on_left h k) = rw (side_left l r d (l.writes d s) _ _ h k) (left.writes_own d s)
  beside_writes_own d s (on_right h k) =
      rw (side_right l r d (l.writes d s) _ _ h k) (⊎_elim (λ e. inl (ap (moved_write l.drives) e ∙ ap (λ c. cells (c ∷ [])) (back l.drives d s k))) (λ e. inr (e.0, ap (moved_write l.drives) e.1)) (right.writes_own (d - l.drives) s))
  beside_writes_own d s (on_neither h) = inr (1, side_neither l r d _ _ _ h)

  pub beside_plain : Plainly (beside l r)
  beside_plain = record {
    reads_own = λ d s. beside_reads_own d s (side l r d);
    writes_own = λ d s. beside_writes_own d s (side l r d);
  }

-- Where no cause is due, every condition fails.
passed : (b : Bool) (n : ℕ) (o : Option ℕ) → cond b (Some n) o ≡ None → (b ≡ false) × (o ≡ None)
passed true n o e = let z : ◌≡◌ {A = ℕ} 0 1 = cc in absurd (omega arith)
passed false n o e = (refl, e)

own_read_free : (d s : ℕ) (o : Option ℕ) → refusal (own_read d s o) ≡ None → o ≡ None
own_read_free d s None e = refl
own_read_free d s (Some n) e = e

own_write_free : (d s : ℕ) (o : Option ℕ) → cause_of (own_write d s o) ≡ None → o ≡ None
own_write_free d s None e = refl
own_write_free d s (Some n) e = e

-- A sector of a single drive that can be read or written lies on the drive 0, inside its length.
pub record Free (k : Disk) (d s : ℕ) : Type 0 where
  pub first : d ≡ 0
  pub within : s < k.sectors
  pub held : (one_drive k).holds (at d s) ≡ k.bytes s

free : (k : Disk) (d s : ℕ) → leb 1 d ≡ false → leb k.sectors s ≡ false → Free k d s
free k d s p q =
    let low : d ≡ 0 = omega (arith, leb-false 1 d p) in
    let within : s < k.sectors = leb-false k.sectors s q in
    record { first = low; within = within; held = cond-true _ (k.bytes s) blank (and_from _ _ (eq-eqb d 0 low) (lt-ltb s k.sectors within)) }

pub readable : (k : Disk) (d s : ℕ) → refusal ((one_drive k).reads d s) ≡ None → Free k d s × ((one_drive k).reads d s ≡ cell (at d s))
readable k d s e =
    let none = own_read_free d s (first_due (read_causes k d s)) e in
    let a = passed (leb 1 d) 1 _ none in
    let b = passed (leb k.sectors s) 2 _ a.1 in
    (free k d s a.0 b.0, ap (own_read d s) none)

pub writable : (k : Disk) (d s : ℕ) → cause_of ((one_drive k).writes d s) ≡ None → Free k d s × ((one_drive k).writes d s ≡ cells (at d s ∷ []))
writable k d s e =
    let none = own_write_free d s (first_due (write_causes k d s)) e in
    let a = passed (leb 1 d) 1 _ none in
    let b = passed (leb k.sectors s) 2 _ a.1 in
    (free k d s a.0 b.0, ap (own_write d s) none)
