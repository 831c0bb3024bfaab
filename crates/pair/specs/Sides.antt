-- Which of two banks side by side a drive number names.
use Rattle.std.specs.Prelude.{◌≡◌, ℕ, ◌-◌, ◌≤◌, ◌<◌, Ok, Err, Result}
use Rattle.bank.specs.Meaning.{Meaning}
use Rattle.bank.specs.Shapes.{both_drives}
use Rattle.bank.specs.declared.cause.Cause.{Cause}
use Rattle.bank.specs.declared.cause.Cause.TheVariants.{NoDrive}
use Rattle.pair.specs.declared.Side.{Side}
use Rattle.pair.specs.declared.Side.TheVariants.{Left, Right}

abbrev pub Placed : Meaning → Meaning → ℕ → Result Side Cause → Type 0
Placed l r d (Ok Left) = (d < both_drives l r) × (d < l.drives)
Placed l r d (Ok (Right there)) = (d < both_drives l r) × (l.drives ≤ d) × (there ≡ d - l.drives)
Placed l r d (Err cause) = (both_drives l r ≤ d) × (cause ≡ NoDrive)
