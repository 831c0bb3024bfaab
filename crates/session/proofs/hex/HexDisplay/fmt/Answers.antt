use Rattle.std.proofs.Common.{rules, sym, arith}
use Rattle.session.proofs.HexDigits.{hex_word}
use Rattle.session.proofs.hex.HexDisplay.fmt.Goals as goal

pub returns-clause-writes : goal.returns-clause-writes
returns-clause-writes g c = rw (sym (hex_word c.args.self.now.0 (omega arith))) (search rules)
