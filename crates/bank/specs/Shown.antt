-- How ends and causes are written.
use Rattle.std.specs.Prelude.{ℕ, List, ◌++◌, codes, decimal}
use Rattle.bank.specs.declared.cause.Cause.{Cause}
use Rattle.bank.specs.declared.source.Source.{Source}
use Rattle.bank.specs.declared.source.Source.TheVariants.{Cell, Zeros}
use Rattle.bank.specs.Told.{number_of}

abbrev pub cause_text : Cause → List ℕ
cause_text cause = codes "cause " ++ decimal (number_of cause)

-- a cell as 8:N@S
abbrev pub source_text : Source → List ℕ
source_text (Cell a) = codes "8:" ++ (decimal a.drive ++ (codes "@" ++ decimal a.sector))
source_text Zeros = codes "zeros"
