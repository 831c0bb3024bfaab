-- A plain bank of n drives with one sector each, which can't be written.
use Rattle.std.specs.Prelude.{ℕ, ◌^◌, ◌<◌, ◌≤◌, true, cond, [], ◌∷◌, nat_le, nat_lt, refl}
use Rattle.std.proofs.Common.{⊎_elim, arith}
use Rattle.std.proofs.lemmas.Bool.{le-leb, lt-leb, le-ltb, lt-ltb, cases_lt, cond_both, cond-true, cond-false}
use Rattle.bank.specs.Due.{first_due}
use Rattle.bank.specs.Meaning.{Meaning, Lawful}
use Rattle.bank.specs.Shapes.{own_read, own_write, blank}
use Rattle.bank.specs.Absent.{blank_sector}

abbrev pub rack : ℕ → Meaning
rack n = record {
  drives = n;
  size = λ d. cond (nat_lt d n) 1 0;
  reads = λ d s. own_read d s (first_due ((1, nat_le n d) ∷ (2, nat_le 1 s) ∷ []));
  writes = λ d s. own_write d s (first_due ((1, nat_le n d) ∷ (2, nat_le 1 s) ∷ (4, true) ∷ []));
  holds = λ c. blank;
}

inside_rack : (n d s : ℕ) → s < (rack n).size d → (d < n) × (s < 1)
inside_rack n d s h =
    ⊎_elim
    (λ (l : d < n). (l, rw (cond-true {A = ℕ} (nat_lt d n) 1 0 (lt-ltb d n l)) at h))
    (λ (l : n ≤ d). let none : s < 0 = rw (cond-false {A = ℕ} (nat_lt d n) 1 0 (le-ltb d n l)) at h in absurd (omega arith))
    (cases_lt d n)

pub rack_lawful : (n : ℕ) → n ≤ 64 → Lawful (rack n)
rack_lawful n few = record {
  few = few;
  short = λ d. cond_both (nat_lt d n) 1 0 (λ x. x ≤ 2 ^ 40) (λ e. omega arith) (λ e. omega arith);
  none = λ d h. cond-false (nat_lt d n) 1 0 (le-ltb d n h);
  no_drive = λ d s h. rw (le-leb n d h) (refl, refl);
  past_end = λ d s h l. let far : 1 ≤ s = rw (cond-true {A = ℕ} (nat_lt d n) 1 0 (lt-ltb d n h)) at l in rw (lt-leb n d h, le-leb 1 s far) (refl, refl);
  inside = λ d s h. let i = inside_rack n d s h in rw (lt-leb n d i.0, lt-leb 1 s i.1) (tt, (omega arith, omega arith));
  full = λ c. blank_sector;
}
