-- What commands answer, and the lines that say so.
use Rattle.std.specs.Prelude.{ℕ, Bool, true, false, List, ◌++◌, Some, None, Ok, Err, codes, decimal, Option, Result}
use Rattle.bank.specs.declared.cause.Cause.{Cause}
use Rattle.bank.specs.declared.source.Source.{Source}
use Rattle.bank.specs.Shown.{cause_text, source_text}
use Rattle.session.specs.declared.outcome.Outcome.{Outcome}
use Rattle.session.specs.declared.outcome.Outcome.TheVariants.{Attached, Counted, Measured, Ended, Got, Stored}
use Rattle.session.specs.Hex.{hex_text}

-- whether an answer is no refusal
abbrev pub obeyed : {X : Type 0} → Result X Cause → Bool
obeyed (Ok x) = true
obeyed (Err cause) = false

abbrev pub accepted : Outcome → Bool
accepted (Attached drive) = true
accepted (Counted drives) = true
accepted (Measured sectors) = true
accepted (Ended read write) = true
accepted (Got from digest) = obeyed from
accepted (Stored answer) = obeyed answer

-- a read end: 8:N@S, zeros or a cause
abbrev pub end_text : Result Source Cause → List ℕ
end_text (Ok source) = source_text source
end_text (Err cause) = cause_text cause

abbrev pub free_text : Option Cause → List ℕ
free_text None = codes "free"
free_text (Some cause) = cause_text cause

-- the answer of a read, before what it says of the buffer
abbrev pub got_text : Result Source Cause → List ℕ
got_text (Ok source) = codes "ok " ++ source_text source
got_text (Err cause) = cause_text cause

abbrev pub stored_text : Result (Unit {0}) Cause → List ℕ
stored_text (Ok u) = codes "ok"
stored_text (Err cause) = cause_text cause

-- the outcome line
abbrev pub outcome_text : Outcome → List ℕ
outcome_text (Attached drive) = codes "ok 8:" ++ decimal drive
outcome_text (Counted drives) = codes "ok " ++ decimal drives
outcome_text (Measured sectors) = codes "ok " ++ decimal sectors
outcome_text (Ended read write) = codes "ok read " ++ (end_text read ++ (codes " write " ++ free_text write))
outcome_text (Got from digest) = got_text from ++ (codes " buffer " ++ hex_text digest)
outcome_text (Stored answer) = stored_text answer
