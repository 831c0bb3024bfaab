-- A script's run, as far as its expectations go.
use Rattle.std.specs.Prelude.{ℕ, Bool, List, Some, None, Ok, Err, string_bytes, Option, Result}
use Rattle.std.specs.Option.{option_map}
use Rattle.std.specs.Str.{bytes_eq}
use Rattle.lines.specs.declared.fault.Fault.{Fault}
use Rattle.lines.specs.declared.fault.Fault.TheVariants.{NothingBefore}
use Rattle.session.specs.declared.session.Session.{Session}
use Rattle.session.specs.declared.tally.Tally.{Tally}
use Rattle.session.specs.Tallies.{compared}

-- the latest outcome line, if there was a command
abbrev pub latest_text : Session → Option (List ℕ)
latest_text s = option_map string_bytes s.latest

-- whether an expectation is met
abbrev pub answered : Option (List ℕ) → List ℕ → Result Bool Fault
answered None text = Err NothingBefore
answered (Some line) text = Ok (bytes_eq line text)

-- what it adds to the tally
abbrev pub judged : Option (List ℕ) → List ℕ → Tally → Tally
judged None text tally = tally
judged (Some line) text tally = compared (bytes_eq line text) tally
