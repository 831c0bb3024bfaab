-- A bank of no drive, and one that may be absent: what it means, when it stands, and that it is then lawful, and plain where the bank is.
use Rattle.std.specs.Prelude.{ℕ, ◌<◌, Option, None, Some, refl}
use Rattle.std.proofs.Common.{inr, arith}
use Rattle.std.proofs.lemmas.List.{length-replicate, get_or-replicate}
use Rattle.bank.specs.Meaning.{Meaning, Lawful, Plainly, Sector}
use Rattle.bank.specs.Shapes.{blank, no_drives}

pub blank_sector : Sector blank
blank_sector = record { long = length-replicate {A = ℕ} 512 0; small = λ k h. rw (get_or-replicate {A = ℕ} 512 k 0 0 h) (omega arith) }

pub not_below_zero : {s : ℕ} → s < 0 → ⊥
not_below_zero h = omega arith

pub no_drives_lawful : Lawful no_drives
no_drives_lawful = record {
  few = omega arith;
  short = λ d. omega arith;
  none = λ d h. refl;
  no_drive = λ d s h. (refl, refl);
  past_end = λ d s h l. absurd (not_below_zero h);
  inside = λ d s h. absurd (not_below_zero h);
  full = λ c. blank_sector;
}

pub no_drives_plain : Plainly no_drives
no_drives_plain = record { reads_own = λ d s. inr (1, refl); writes_own = λ d s. inr (1, refl) }

module _ {B : Type 0} (meaning : B → Meaning) where
  abbrev pub maybe_means : Option B → Meaning
  maybe_means None = no_drives
  maybe_means (Some b) = meaning b

  pub maybe_plain : ((b : B) → Plainly (meaning b)) → (o : Option B) → Plainly (maybe_means o)
  maybe_plain plain None = no_drives_plain
  maybe_plain plain (Some b) = plain b

abbrev pub MaybeStands : {B : Type 0} → (B → Type 0) → Option B → Type 0
MaybeStands stands None = Unit {0}
MaybeStands stands (Some b) = stands b

pub maybe_lawful : {B : Type 0} (meaning : B → Meaning) (stands : B → Type 0) → ((b : B) → stands b → Lawful (meaning b)) → (o : Option B) → MaybeStands stands o → Lawful (maybe_means meaning o)
maybe_lawful meaning stands lawful None h = no_drives_lawful
maybe_lawful meaning stands lawful (Some b) h = lawful b h
