-- The end that is due at a place of the right size and at one of another, and what answers tell: laws beside the definitions.
use Rattle.std.proofs.Common.{◌≡◌, ℕ, None, refl}
use Rattle.std.proofs.lemmas.Bool.{eq-eqb, ne_eqb, cond-true, cond-false}
use Rattle.bank.specs.Meaning.{Meaning, unread, unwritten, read_due, write_due, refusal}
use Rattle.bank.specs.Told.{told_source}
use Rattle.bank.specs.declared.source.Source.{Source}
use Rattle.bank.specs.declared.source.Source.TheVariants as source

module _ (m : Meaning) (d s n : ℕ) where
  pub read_sized : n ≡ 512 → read_due m d s n ≡ m.reads d s
  read_sized e = cond-true _ _ _ (eq-eqb n 512 e)

  pub write_sized : n ≡ 512 → write_due m d s n ≡ m.writes d s
  write_sized e = cond-true _ _ _ (eq-eqb n 512 e)

  pub read_unsized : (n ≡ 512 → ⊥) → read_due m d s n ≡ unread 8
  read_unsized e = cond-false _ _ _ (ne_eqb n 512 e)

  pub write_unsized : (n ≡ 512 → ⊥) → write_due m d s n ≡ unwritten 8
  write_unsized e = cond-false _ _ _ (ne_eqb n 512 e)

-- what was read from is no cause
pub source_free : (s : Source) → refusal (told_source s) ≡ None
source_free (source.Cell a) = refl
source_free source.Zeros = refl
